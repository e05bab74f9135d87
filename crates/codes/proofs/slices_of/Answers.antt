-- `codes::slices_of` meets its contract: it computes slices_of as that is written. Assumes nothing.
use Rattle.codes.specs.Width.{slices_of}
use Rattle.codes.proofs.slices_of.Goals as goal

pub returns : goal.returns
unfolding slices_of
returns c = rw c.from.ensures
