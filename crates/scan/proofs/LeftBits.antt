-- What an accepted scan leaves in the result, bit by bit. Assumes nothing.
--   left_is        the bits of the rows found, and behind them what was there before
--   bit_left       the bit of a row is 1 where the row is found, and 0 otherwise
use Prim.Native.Nat.{ℕ, ◌/◌, ◌%◌, ◌^◌, ◌<◌}
use native.Mathlib.Omega.{arith}
use mathlib.Core.Path.{◌≡◌, ap, ◌∙◌}
use mathlib.Core.List.{List}
use mathlib.Core.Bool.{cond}
use borrow.Author.Tests.{lt-ltb}
use lib.ListN.{length, get_or, drop, get_or-append}
use Rattle.basis.specs.Buffers.{laid}
use Rattle.basis.proofs.Buffers.{laid_front}
use Rattle.directory.specs.File.{rows_in}
use Rattle.query.specs.declared.Query.{Query}
use Rattle.schedule.specs.Schedule.{found}
use Rattle.schedule.specs.Comparisons.{comparing}
use Rattle.asking.specs.AtFile.{tests_in, bytes_in}
use Rattle.bits.specs.Bits.{bytes_for, bit_in}
use Rattle.scan.specs.Answers.{found_bits, left_in}
use Rattle.bits.proofs.Packed.{length_bits}
use Rattle.bits.proofs.EachBit.{bit_is_found}
use Rattle.scan.proofs.Accepting.{Accepted}

module _ (file : List ℕ) (size : ℕ) (query : Query) (out : List ℕ) (yes : Accepted file size query (length out)) where
  pub left_is : left_in file size query out ≡ laid out 0 (found_bits file query)
  unfolding left_in
  left_is = rw yes

  pub bit_left : (row : ℕ) → row < rows_in file →
      bit_in (left_in file size query out) row ≡ cond (found comparing (bytes_in file) (tests_in file query) row) 1 0
  unfolding bit_in found_bits bytes_for
  bit_left row h =
      let bits = found_bits file query in
      let is = found comparing (bytes_in file) (tests_in file query) in
      let inside : row / 8 < length bits = omega (arith, length_bits is (rows_in file)) in
      let byte : get_or (left_in file size query out) (row / 8) 0 ≡ get_or bits (row / 8) 0 =
      ap (λ (bytes : List ℕ). get_or bytes (row / 8) 0) (left_is ∙ laid_front out 0 bits)
      ∙ get_or-append bits (drop (length bits) out) 0 (row / 8) inside in
      ap (λ (b : ℕ). b / 2 ^ (row % 8) % 2) byte ∙ bit_is_found is (rows_in file) row ∙ rw (lt-ltb row (rows_in file) h)
