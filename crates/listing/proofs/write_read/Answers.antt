-- `listing::write_read` meets its contract: what is found of the inputs is listed. Assumes nothing.
use mathlib.Core.Path.{refl}
use Rattle.listing.proofs.Inputs.{bytes_or_none, inputs_can_be_listed, listed_of_inputs}
use Rattle.listing.proofs.write_read.Goals as goal

pub write_found-requires : goal.write_found-requires
write_found-requires c =
    rw (bytes_or_none c.args.file _ c.unwrap_or.ensures refl) (inputs_can_be_listed _ _ _ _ _ _ c.prepare-found.ensures)

pub returns : goal.returns
returns c =
    let piece = rw (bytes_or_none c.args.file _ c.unwrap_or.ensures refl) at c.write_found.ensures in
    listed_of_inputs _ _ _ _ _ _ c.prepare-found.ensures _ _ piece
