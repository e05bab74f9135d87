-- What the loop of `write_codes` keeps: the codes of the rows passed stand at the front. Assumes nothing.
use mathlib.Core.Path.{◌≡◌}
use mathlib.Core.List.{map}
use lib.ListN.{length, take}
use Rattle.basis.specs.Buffers.{laid}
use Rattle.register.specs.Cells.{code_at}
use Rattle.lookup.proofs.write_codes.Given as goal

abbrev pub invariant-loop-i : goal.invariant-loop-i
invariant-loop-i l =
    (l.out ≡ laid l.initial.out 0 (map (code_at l.register.file.now l.column) (take l.i l.list)))
    × (length l.out ≡ length l.initial.out)
