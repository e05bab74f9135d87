-- Bits that are fit for so many rows. Assumes nothing.
--   fit_length    they are as many bytes as the rows need
--   all_marked    the rows that are marked in all of them are those below the rows
use Prim.Native.Nat.{ℕ, ◌*◌}
use mathlib.Core.Path.{◌≡◌, ap, ◌∙◌}
use mathlib.Core.List.{List}
use mathlib.Core.Bool.{false, not}
use borrow.Author.Tests.{eqb-true, not-false}
use lib.Dec.{eqb}
use lib.ListN.{length}
use Rattle.basis.proofs.Truth.{neither}
use Rattle.bits.specs.Bits.{bytes_for}
use Rattle.bits.specs.Marked.{marked_below, marked_past, unfit_bits}
use Rattle.bits.proofs.ByteByByte.{none_past_last}

module _ (rows : ℕ) (bits : List ℕ) (fit : unfit_bits rows bits ≡ false) where
  -- neither cause of being unfit
  both_fail : (not (eqb (length bits) (bytes_for rows)) ≡ false) × (marked_past rows bits ≡ false)
  unfolding unfit_bits
  both_fail = neither (not (eqb (length bits) (bytes_for rows))) (marked_past rows bits) fit

  pub fit_length : length bits ≡ bytes_for rows
  fit_length = eqb-true (length bits) (bytes_for rows) (not-false (eqb (length bits) (bytes_for rows)) both_fail.0)

  pub all_marked : marked_below (8 * length bits) bits ≡ marked_below rows bits
  all_marked = ap (λ (n : ℕ). marked_below (8 * n) bits) fit_length ∙ none_past_last rows bits both_fail.1
