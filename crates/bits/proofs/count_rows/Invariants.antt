-- What the loop of `count_rows` keeps, and what each turn makes less: so many are marked in the bytes passed.
use Rattle.std.proofs.Common.{◌-◌, ◌*◌, ◌≤◌, ◌≡◌, length}
use Rattle.bits.specs.Marked.{marked_below}
use Rattle.bits.proofs.count_rows.Given as goal

abbrev pub invariant-loop-i : goal.invariant-loop-i
invariant-loop-i l = (l.i ≤ length l.bits) × (l.many ≡ length (marked_below (8 * l.i) l.bits)) × (l.many ≤ 8 * l.i)

abbrev pub decreases-loop-i : goal.decreases-loop-i
decreases-loop-i l = length l.bits - l.i
