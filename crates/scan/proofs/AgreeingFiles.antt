-- Two files with the same rows and widths that agree on every byte counted for the first give the same bits and the same reply,
-- whatever their other bytes are: of two accepted scans of one query, with one segment size. Assumes nothing.
--   Agreeing        the same rows, the same widths, and every byte counted for the first the same in both
--   same_reply      the same reply
--   same_bits       the same bits
--   same_result     so one result is left the same by both
use Prim.Native.Nat.{ℕ, ◌<◌}
use mathlib.Core.Path.{◌≡◌, refl, sym, ap, ap₂, ◌∙◌}
use mathlib.Core.List.Memᴰ
use mathlib.Core.List.{List, [], ◌∷◌, map}
use lib.ListN.{length}
use Rattle.basis.specs.Buffers.{laid}
use Rattle.basis.proofs.Members.{◌∈◌}
use Rattle.directory.specs.File.{rows_in, columns_in, width_in}
use Rattle.query.specs.declared.Query.{Query}
use Rattle.query.specs.Tests.{tests_of}
use Rattle.schedule.specs.Schedule.{count, found}
use Rattle.schedule.specs.Comparisons.{comparing}
use Rattle.schedule.proofs.Six.{comparing_lawful}
use Rattle.schedule.proofs.Agreement.{Agree, agreement_count, agreement_total, agreement_rows, agreement_matches}
use Rattle.asking.specs.AtFile.{widened, tests_in, bytes_in, segments_in}
use Rattle.std.specs.Prelude.{Ok}
use Rattle.scan.specs.Answers.{accepted, found_bits, scanned_of, left_in}
use Rattle.bits.proofs.Packed.{bits_same}
use Rattle.scan.proofs.LeftBits.{left_is}
use Rattle.scan.proofs.Accepting.{Accepted, reply, right_size, fits}

-- the files are alike as far as the first was read
pub record Agreeing (file other : List ℕ) (size : ℕ) (query : Query) : Type 0 where
  pub rows : rows_in file ≡ rows_in other
  pub widths : (column : ℕ) → column < columns_in file → width_in file column ≡ width_in other column
  pub counted : Agree comparing (bytes_in file) (bytes_in other) (tests_in file query) (segments_in file size)

-- what is made alike of each member of a list is the same list
mapped_alike : {A B : Type 0} (f g : A → B) (xs : List A) → ((x : A) → x ∈ xs → f x ≡ g x) → map f xs ≡ map g xs
mapped_alike f g [] each = refl
mapped_alike f g (x ∷ xs) each =
    ap₂ ◌∷◌ (each x (Memᴰ.head refl)) (mapped_alike f g xs (λ y m. each y (Memᴰ.tail m)))

module _ (file other : List ℕ) (size : ℕ) (query : Query) (room : ℕ) (yes : Accepted file size query room)
    (agree : Agreeing file other size query) where
  -- the tests are the same, widths and all
  same_tests : tests_in file query ≡ tests_in other query
  same_tests =
      mapped_alike (widened file) (widened other) (tests_of query)
      (λ test m.
      ap (λ (width : ℕ). record { column = test.column; width = width; comparison = test.comparison })
      (agree.widths test.column (fits file size query room yes test m).column))

  some : 0 < size
  some = right_size file size query room yes

  pub same_bits : found_bits file query ≡ found_bits other query
  unfolding found_bits
  same_bits =
      rw (← same_tests, ← agree.rows)
      (bits_same (found comparing (bytes_in file) (tests_in file query)) (found comparing (bytes_in other) (tests_in file query)) (rows_in file)
      (agreement_rows comparing comparing_lawful (bytes_in file) (bytes_in other) (tests_in file query) size (rows_in file) some
      agree.counted))

  same_accepted : accepted file size query ≡ accepted other size query
  unfolding accepted
  same_accepted =
      let q = tests_in file query in
      rw (← same_tests, ← agree.rows)
      (rw (
        agreement_matches comparing comparing_lawful (bytes_in file) (bytes_in other) q size (rows_in file) some agree.counted,
        agreement_total comparing comparing_lawful (bytes_in file) (bytes_in other) q (segments_in file size) agree.counted,
        mapped_alike (λ t. count comparing (bytes_in file) q t (segments_in file size))
            (λ t. count comparing (bytes_in other) q t (segments_in file size)) q
            (agreement_count comparing comparing_lawful (bytes_in file) (bytes_in other) q (segments_in file size) agree.counted),
      ))

  pub same_reply : (room' : ℕ) → Accepted other size query room' → scanned_of file size query room ≡ scanned_of other size query room'
  same_reply room' yes' = reply file size query room yes ∙ ap Ok same_accepted ∙ sym (reply other size query room' yes')

  pub same_result : (out : List ℕ) → Accepted file size query (length out) → Accepted other size query (length out) →
      left_in file size query out ≡ left_in other size query out
  same_result out here there =
      left_is file size query out here ∙ ap (laid out 0) same_bits ∙ sym (left_is other size query out there)
