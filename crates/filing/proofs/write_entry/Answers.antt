-- `filing::write_entry` meets its contract: four bytes, and a number behind them. Assumes nothing.
use Prim.Native.Nat.{◌+◌, ◌-◌}
use native.Mathlib.Omega.{arith}
use mathlib.Core.Path.{refl}
use mathlib.Core.List.{[], ◌∷◌}
use borrow.Rule.Slice.PartMut.{put_mid}
use Rattle.basis.specs.Numbers.{to_little}
use Rattle.basis.proofs.Buffers.{Filled, filled_at_once, filled_more}
use Rattle.basis.proofs.Numbers.{length_to_little}
use Rattle.filing.specs.Layout.{entry_with}
use Rattle.filing.proofs.Copied.{copied}
use Rattle.filing.proofs.write_entry.Goals as goal
use Rattle.filing.proofs.write_entry.Goals.{After-copy_from_slice}

-- the width and the three zero bytes
first_four : (c : After-copy_from_slice) →
    let a = c.args in
    Filled a.out.now a.at (a.width ∷ 0 ∷ 0 ∷ 0 ∷ []) (put_mid a.at (a.at + 4 - a.at) a.out.now c.copy_from_slice.new.self)
first_four c =
    let a = c.args in
    filled_at_once a.out.now a.at _ (omega (arith, c.requires)) (copied a.out.now a.at 4 _ c.copy_from_slice.ensures.after refl)

pub returns : goal.returns
unfolding entry_with
returns c =
    let a = c.args in
    (filled_more a.out.now a.at _ (a.at + 4) (to_little 4 a.offset) (first_four (goal.at.returns c).After-copy_from_slice)
    (omega arith) (omega (arith, length_to_little 4 a.offset, c.requires)) c.write_number.ensures).filled
