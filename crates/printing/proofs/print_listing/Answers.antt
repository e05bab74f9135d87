-- `printing::print_listing` meets its contract: what is printed is what was found of the inputs. Assumes nothing.
use mathlib.Core.Path.{refl}
use Rattle.std.proofs.Common.{rules}
use Rattle.listing.proofs.Inputs.{bytes_or_none, inputs_can_be_listed, length_of_inputs}
use Rattle.printing.proofs.print_listing.Goals as goal

pub print_found-requires : goal.print_found-requires
print_found-requires g c =
    let bytes = bytes_or_none c.args.file _ c.unwrap_or-file.ensures refl in
    record { some_room = search rules; listable = rw bytes (inputs_can_be_listed _ _ _ _ _ _ c.prepare-found.ensures) }

pub returns : goal.returns
returns g c =
    let bytes = bytes_or_none c.args.file _ c.unwrap_or-file.ensures refl in
    record {
      whole = length_of_inputs _ _ _ _ _ _ c.prepare-found.ensures (rw bytes at c.print_found.ensures.whole);
      within = c.print_found.ensures.within;
    }
