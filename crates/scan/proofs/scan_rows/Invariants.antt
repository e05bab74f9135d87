-- What the loop of `scan_rows` keeps, and what each turn makes less.
use Prim.Native.Nat.{◌-◌}
use Rattle.scan.proofs.RowsSoFar.{SoFar}
use Rattle.scan.proofs.scan_rows.Given as goal

abbrev pub invariant-loop-first : goal.invariant-loop-first
invariant-loop-first l =
    SoFar l.register.file.now l.query l.size l.rows l.initial.res l.res l.counts l.matches l.first

abbrev pub decreases-loop-first : goal.decreases-loop-first
decreases-loop-first l = l.rows - l.first
