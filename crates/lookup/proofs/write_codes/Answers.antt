-- `lookup::write_codes` meets its contract: the codes of the rows passed stand at the front, and in a file that opened every
-- byte of a listed row lies in the body. Assumes nothing.
use Prim.Native.Nat.{ℕ}
use native.Mathlib.Omega.{arith}
use mathlib.Core.Path.{◌≡◌, sym, ap, ap₂, ◌∙◌}
use mathlib.Core.List.{List, map}
use lib.ListN.{take, get_or, set, length-set}
use lib.Seq.{take_all}
use Rattle.basis.specs.Buffers.{laid}
use Rattle.basis.proofs.Buffers.{laid_each}
use Rattle.register.specs.Cells.{code_at}
use Rattle.lookup.specs.LookingUp.{codes_of}
use Rattle.cells.proofs.Rows.{code_within, code_gathered}
use Rattle.lookup.proofs.write_codes.Goals as goal
use Rattle.lookup.proofs.write_codes.Goals.{After-code_of}

-- what is stored is the code of the row at hand
code_here : (c : After-code_of) →
    let row = get_or c.args.list.now c.loop-i.i 0 in
    c.code_of.result ≡ code_at c.args.register.now.file.now c.args.column row
code_here c =
    c.code_of.ensures
    ∙ rw (c.width-width.ensures, c.offset-offset.ensures)
    (sym (code_gathered c.args.register.now _ _))

pub code_of-requires : goal.code_of-requires
code_of-requires c =
    let known = c.requires in
    rw (c.width-width.ensures, c.offset-offset.ensures)
    (code_within c.args.register.now _ _ (record { column_there = known.column_there; row_there = known.rows_there _ c.loop-i-test.true }))

pub loop-i-preserved : goal.loop-i-preserved
loop-i-preserved c =
    let turn = c.loop-i in
    let a = c.args in
    let stored = laid_each (code_at a.register.now.file.now a.column) a.out.now a.list.now turn.i 0 (omega arith) (omega arith) in (
      ap₂ (λ (out : List ℕ) (code : ℕ). set out turn.i code) turn.invariant.0 (code_here c) ∙ stored,
      rw length-set turn.invariant.1,
    )

pub returns : goal.returns
unfolding codes_of
returns c =
    let turn = c.loop-i in
    let a = c.args in
    let all : take turn.i a.list.now ≡ a.list.now = take_all turn.i a.list.now c.loop-i-test.false in
    turn.invariant.0 ∙ ap (λ (list : List ℕ). laid a.out.now 0 (map (code_at a.register.now.file.now a.column) list)) all
