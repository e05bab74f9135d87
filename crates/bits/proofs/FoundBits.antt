-- The bits of rows found: a row is marked exactly when it is found, and none past the last is. Assumes nothing.
--   one_or_none         1 or 0, tested for 1
--   found_are_marked    the rows below that they mark are those found, rising
--   fit_bits            they are fit for the rows
use Prim.Native.Nat.{ℕ, ◌-◌, ◌*◌}
use mathlib.Core.Path.{◌≡◌, refl, ◌∙◌}
use mathlib.Core.Logic.{◌⊎◌, inl, inr}
use mathlib.Core.Bool.{Bool, true, false, cond, ◌&&◌}
use borrow.Author.Tests.{lt-ltb, le-ltb, eq-eqb}
use lib.Dec.{ltb, eqb}
use lib.ListN.{length}
use Rattle.basis.specs.Lists.{any, those, run, below}
use Rattle.basis.proofs.Truth.{either, passes}
use Rattle.basis.proofs.Members.{any_gives}
use Rattle.basis.proofs.Runs.{in_run, in_below}
use Rattle.basis.proofs.Those.{those_same}
use Rattle.bits.specs.Bits.{bytes_for, bits_of}
use Rattle.bits.specs.Marked.{marked, marked_below, marked_past, unfit_bits}
use Rattle.bits.proofs.Packed.{length_bits}
use Rattle.bits.proofs.EachBit.{bit_is_found}

pub one_or_none : (is : Bool) → eqb (cond is 1 0) 1 ≡ is
one_or_none true = refl
one_or_none false = refl

module _ (is : ℕ → Bool) (rows : ℕ) where
  -- the bits of rows found: a row is marked when it is found, and none past the last is
  marked_is_found : (row : ℕ) → marked (bits_of is rows) row ≡ (ltb row rows && is row)
  marked_is_found row = rw (bit_is_found is rows row) (one_or_none (ltb row rows && is row))

  pub found_are_marked : marked_below rows (bits_of is rows) ≡ those is (below rows)
  unfolding marked_below
  found_are_marked =
      those_same (marked (bits_of is rows)) is (below rows)
      (λ row m. marked_is_found row ∙ rw (lt-ltb row rows (in_below rows row m)))

  none_past_is_marked : marked_past rows (bits_of is rows) ≡ false
  unfolding marked_past
  none_past_is_marked = go (either (any (marked (bits_of is rows)) (run rows (8 * bytes_for rows - rows))))
    where
      go : (any (marked (bits_of is rows)) (run rows (8 * bytes_for rows - rows)) ≡ true) ⊎
          (any (marked (bits_of is rows)) (run rows (8 * bytes_for rows - rows)) ≡ false) →
          any (marked (bits_of is rows)) (run rows (8 * bytes_for rows - rows)) ≡ false
      go (inl some) =
          let row = any_gives (marked (bits_of is rows)) (run rows (8 * bytes_for rows - rows)) (passes _ some) in
          let beyond = (in_run rows (8 * bytes_for rows - rows) row.0 row.1).0 in
          absurd (rw (marked_is_found row.0, le-ltb row.0 rows beyond) at row.2)
      go (inr none) = none

  pub fit_bits : unfit_bits rows (bits_of is rows) ≡ false
  unfolding unfit_bits
  fit_bits = rw (none_past_is_marked, eq-eqb (length (bits_of is rows)) (bytes_for rows) (length_bits is rows))
