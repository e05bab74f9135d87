-- `try_most_rows::put_codes` meets its contract: the codes of the rows passed are in place. Assumes nothing.
use Prim.Native.Nat.{◌+◌, ◌/◌}
use mathlib.Core.Path.{◌≡◌, refl, ◌∙◌}
use lib.ListN.{length-set, set}
use lib.Seq.{get_or-set_same, get_or-set_other}
use borrow.Author.Count.{below_none, below_more}
use Rattle.try_most_rows.specs.Made.{code_of}
use native.Mathlib.Omega.{arith}
use Rattle.try_most_rows.proofs.put_codes.Goals as goal

pub returns-then-file-lt-FILE : goal.returns-then-file-lt-FILE
returns-then-file-lt-FILE c = λ long. absurd (omega arith)

pub loop-row-init : goal.loop-row-init
loop-row-init c = (omega arith, refl, record { first = below_none _; second = below_none _ })

pub bounds-file-row-in-loop-row : goal.bounds-file-row-in-loop-row
bounds-file-row-in-loop-row c = simp length-set (omega arith)

pub loop-row-preserved : goal.loop-row-preserved
loop-row-preserved c =
    let turn = c.loop-row in
    let row = turn.row in
    let file = turn.file in
    let once = set file row (code_of row / 16) in
    let kept = turn.invariant.2 in (
      omega arith,
      simp length-set turn.invariant.1,
      record {
        first =
            below_more _ row
            (λ k h. get_or-set_other once (1048576 + row) k _ 0 (omega arith)
            ∙ get_or-set_other file row k _ 0 (omega arith) ∙ kept.first k h)
            (get_or-set_other once (1048576 + row) row _ 0 (omega arith) ∙ get_or-set_same file row _ 0 (omega arith));
        second =
            below_more _ row
            (λ k h.
            get_or-set_other once (1048576 + row) (1048576 + k) _ 0 (omega arith)
            ∙ get_or-set_other file row (1048576 + k) _ 0 (omega arith)
            ∙ kept.second k h)
            (get_or-set_same once (1048576 + row) _ 0 (simp length-set (omega arith)));
      },
    )

pub shape_of-file : goal.shape_of-file
shape_of-file c = c.loop-row.invariant.1

pub returns : goal.returns
returns c = λ long.
    let turn = c.loop-row in
    let all : turn.row ≡ 1048576 = omega arith in
    rw all at turn.invariant.2
