-- The bits that a scan left are listed as the rows it found. Assumes nothing.
--   bits_left           the bytes that an accepted scan left for the file's rows: the bits of the rows found
--   lists_the_found     their list is that of the rows found, rising
--   lists_as_many       it is as long as the number of matches that the scan answered
--   list_answers        listing them is not refused, given room for that many
use Prim.Native.Nat.{ℕ, ◌≤◌}
use mathlib.Core.Path.{◌≡◌, sym, ap, ◌∙◌}
use mathlib.Core.List.{List}
use mathlib.Core.Bool.{Bool}
use lib.ListN.{length, take, drop}
use lib.Seq.{take_at}
use Rattle.basis.specs.Lists.{those, below}
use Rattle.basis.proofs.Buffers.{laid_front}
use Rattle.basis.proofs.Those.{length_those}
use Rattle.std.specs.Prelude.{Result, Ok}
use Rattle.refusals.specs.declared.Refusal.{Refusal}
use Rattle.scan.specs.declared.Scanned.{Scanned}
use Rattle.basis.specs.Refusals.{answer_of}
use Rattle.directory.specs.File.{rows_in}
use Rattle.register.proofs.Fit.{opened_is_fit}
use Rattle.query.specs.declared.Query.{Query}
use Rattle.schedule.specs.Schedule.{found, matches}
use Rattle.schedule.specs.Comparisons.{comparing}
use Rattle.asking.specs.AtFile.{tests_in, bytes_in}
use Rattle.bits.specs.Bits.{bytes_for, bits_of}
use Rattle.bits.specs.Marked.{marked_below, unfit_bits}
use Rattle.bits.proofs.Packed.{length_bits}
use Rattle.bits.proofs.FoundBits.{found_are_marked, fit_bits}
use Rattle.scan.specs.Answers.{found_bits, scanned_of, numbers_in, accepted, left_in as scanLeft}
use Rattle.scan.proofs.LeftBits.{left_is}
use Rattle.scan.proofs.Accepting.{Accepted, reply, opens}
use Rattle.rows.specs.RowList.{listed_of}
use Rattle.rows.proofs.Outcomes.{none_answers}

module _ (file : List ℕ) (size : ℕ) (query : Query) (out : List ℕ) (yes : Accepted file size query (length out)) where
  -- the bytes of the result that hold the rows' bits
  abbrev bits : List ℕ
  bits = take (bytes_for (rows_in file)) (scanLeft file size query out)

  abbrev is_found : ℕ → Bool
  is_found = found comparing (bytes_in file) (tests_in file query)

  pub bits_left : bits ≡ bits_of is_found (rows_in file)
  unfolding found_bits
  bits_left =
      let these = bits_of is_found (rows_in file) in
      ap (take (bytes_for (rows_in file))) (left_is file size query out yes ∙ laid_front out 0 these)
      ∙ take_at these (drop (length these) out) (bytes_for (rows_in file)) (length_bits is_found (rows_in file))

  pub lists_the_found : marked_below (rows_in file) bits ≡ those is_found (below (rows_in file))
  lists_the_found = ap (marked_below (rows_in file)) bits_left ∙ found_are_marked is_found (rows_in file)

  pub lists_as_many : length (marked_below (rows_in file) bits) ≡ (numbers_in (scanned_of file size query (length out))).matches
  unfolding accepted matches
  lists_as_many =
      ap length lists_the_found
      ∙ length_those is_found (below (rows_in file))
      ∙ sym (ap (λ (told : Result Scanned Refusal). (numbers_in told).matches) (reply file size query (length out) yes))

  pub list_answers : (room : ℕ) → (numbers_in (scanned_of file size query (length out))).matches ≤ room →
      listed_of (rows_in file) bits room ≡ Ok (numbers_in (scanned_of file size query (length out))).matches
  unfolding answer_of
  list_answers room fits =
      let few = (opened_is_fit file _ (opens file size query (length out) yes)).0.few_rows in
      let fit = ap (unfit_bits (rows_in file)) bits_left ∙ fit_bits is_found (rows_in file) in
      rw (none_answers (rows_in file) bits room few fit (rw lists_as_many fits)) (ap Ok lists_as_many)
