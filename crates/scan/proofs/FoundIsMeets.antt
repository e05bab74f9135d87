-- An accepted scan finds a row, and sets its bit, exactly when the row's codes meet every test of the query. Assumes nothing.
--   found_is_meets     found, and all tests met, are one
--   bit_is_meets       so the row's bit is 1 where they are met, and 0 otherwise
use Prim.Native.Nat.{ℕ, ◌≤◌, ◌<◌}
use native.Mathlib.Omega.{arith}
use mathlib.Core.Path.{◌≡◌, ◌∙◌}
use mathlib.Core.Logic.{◌⊎◌, inl, inr}
use mathlib.Core.List.Memᴰ
use mathlib.Core.List.{List}
use mathlib.Core.Bool.{cond}
use lib.Dec.{T, ltb, ltb→lt}
use lib.ListN.{length, get_or, get_or-eq_default}
use Rattle.basis.specs.Lists.{all}
use Rattle.basis.specs.Numbers.{are_bytes}
use Rattle.basis.proofs.Lists.{at_is_member}
use Rattle.basis.proofs.Members.{◌∈◌, all_gives, all_mapped}
use Rattle.basis.proofs.Runs.{within_or_past}
use Rattle.directory.specs.File.{rows_in}
use Rattle.register.specs.Cells.{byte_at, bytes_at, code_at}
use Rattle.query.specs.declared.Query.{Query}
use Rattle.query.specs.Tests.{meets, tests_of}
use Rattle.schedule.specs.Schedule.{found}
use Rattle.schedule.specs.Comparisons.{ColumnTest, comparing}
use Rattle.schedule.proofs.Meets as schedule
use Rattle.asking.specs.AtFile.{widened, tests_in, bytes_in}
use Rattle.bits.specs.Bits.{bit_in}
use Rattle.scan.specs.Answers.{left_in}
use Rattle.scan.proofs.LeftBits.{bit_left}
use Rattle.codes.proofs.Width.{below_the_limit}
use Rattle.scan.proofs.Accepting.{Accepted, fits}

-- what stands anywhere in a list of bytes, and 0 past its end, is a byte
at_is_a_byte : (bytes : List ℕ) → T (are_bytes bytes) → (place : ℕ) → get_or bytes place 0 < 256
at_is_a_byte bytes are place = go (within_or_past place (length bytes))
  where
    go : (place < length bytes) ⊎ (length bytes ≤ place) → get_or bytes place 0 < 256
    go (inl inside) = ltb→lt (get_or bytes place 0) 256 (all_gives (λ b. ltb b 256) (at_is_member bytes place 0 inside) are)
    go (inr past) = rw (get_or-eq_default bytes 0 past) (omega arith)

module _ (file : List ℕ) (are : T (are_bytes file)) (size : ℕ) (query : Query) (out : List ℕ)
    (yes : Accepted file size query (length out)) where
  fit : (row : ℕ) (test : ColumnTest) → test ∈ tests_in file query → schedule.Fit (bytes_in file) test row
  unfolding byte_at
  fit row test m =
      let from = Memᴰ.of_map (widened file) (tests_of query) m in
      rw (← from.2)
      (record {
        literal_fits = below_the_limit _ _ (fits file size query (length out) yes from.0 from.1).literal;
        bytes = λ j h. at_is_a_byte file are _;
      })

  pub found_is_meets : (row : ℕ) →
      found comparing (bytes_in file) (tests_in file query) row ≡
      all (λ test. meets test.comparison (code_at file test.column row)) (tests_of query)
  unfolding code_at bytes_at
  found_is_meets row =
      schedule.found_is_meets (bytes_in file) (tests_in file query) row (fit row) ∙ all_mapped _ (widened file) (tests_of query)

  pub bit_is_meets : (row : ℕ) → row < rows_in file →
      bit_in (left_in file size query out) row ≡
      cond (all (λ test. meets test.comparison (code_at file test.column row)) (tests_of query)) 1 0
  bit_is_meets row h = bit_left file size query out yes row h ∙ rw (found_is_meets row)
