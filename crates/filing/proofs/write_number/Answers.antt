-- `filing::write_number` meets its contract: the least significant bytes stand in their place. Assumes nothing.
use mathlib.Core.Path.{ap, ◌∙◌}
use lib.ListN.{take}
use Rattle.basis.proofs.Numbers.{length_to_little}
use Rattle.filing.proofs.Copied.{copied, low_bytes}
use Rattle.filing.proofs.write_number.Goals as goal

pub returns : goal.returns
returns c =
    let a = c.args in
    copied _ _ a.bytes _
    (c.copy_from_slice.ensures.after ∙ ap (take a.bytes) c.to_le_bytes.ensures ∙ low_bytes a.bytes a.number c.requires.few)
    (length_to_little a.bytes a.number)
