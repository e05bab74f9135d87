-- A row's bit is set exactly when its codes meet every test of the query: the rows that the schedule finds are the rows that
-- a reading of whole codes finds. Assumes nothing.
--   code_in            a row's code in the column of a test, its bytes joined
--   Fit               what is asked of a test: its literal fits the column, and what it is fed are bytes
--   true_is_meets     a test is true of a row at the end exactly when the row's code meets it
--   found_is_meets    so a row is found exactly when its codes meet every test
use Prim.Native.Nat.{ℕ, ◌^◌, ◌<◌}
use mathlib.Core.Path.{◌≡◌, ap, ◌∙◌}
use mathlib.Core.List.{List}
use Rattle.basis.specs.Lists.{all}
use Rattle.basis.proofs.Members.{◌∈◌, all_each_same}
use Rattle.codes.specs.Width.{slices_of}
use Rattle.codes.specs.Bytes.{joined}
use Rattle.codes.proofs.FirstByte.{first_byte_decides_in_a_file}
use Rattle.query.specs.Tests.{literal_of, meets}
use Rattle.schedule.specs.Schedule.{Bytes, standing, found}
use Rattle.schedule.specs.Comparisons.{ColumnTest, true_when, comparing}
use Rattle.schedule.proofs.FirstBytes.{test_bytes, length_test_bytes, test_bytes_bytes, standing_at_last}
use Rattle.schedule.proofs.TrueWhen.{true_when_met}

-- a row's code in the column of a test
abbrev pub code_in : Bytes ColumnTest → ColumnTest → ℕ → ℕ
code_in R t row = joined t.width (test_bytes R t row)

-- the literal is a code of the column, and the register holds bytes
pub record Fit (R : Bytes ColumnTest) (t : ColumnTest) (row : ℕ) : Type 0 where
  pub literal_fits : literal_of t.comparison < 2 ^ t.width
  pub bytes : (j : ℕ) → j < slices_of t.width → R t j row < 256

module _ (R : Bytes ColumnTest) where
  -- The first byte that differs decides as the codes themselves compare, so a test is true of a row at its end exactly when
  -- the row's code meets it.
  pub true_is_meets : (t : ColumnTest) (row : ℕ) → Fit R t row →
      true_when t.comparison (standing comparing R t (slices_of t.width) row) ≡ meets t.comparison (code_in R t row)
  true_is_meets t row fit =
      ap (true_when t.comparison)
      (standing_at_last R t row
      ∙ first_byte_decides_in_a_file t.width (literal_of t.comparison) (test_bytes R t row) (test_bytes_bytes R t row fit.bytes)
      (length_test_bytes R t row)
      fit.literal_fits)
      ∙ true_when_met t.comparison (code_in R t row)

  -- A row is found exactly when its codes meet every test.
  pub found_is_meets : (q : List ColumnTest) (row : ℕ) → ((t : ColumnTest) → t ∈ q → Fit R t row) →
      found comparing R q row ≡ all (λ t. meets t.comparison (code_in R t row)) q
  unfolding found
  found_is_meets q row fit = all_each_same _ _ q (λ t m. true_is_meets t row (fit t m))
