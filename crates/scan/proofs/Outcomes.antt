-- A scan, read off its table: what each line settles of the reply and of the result. Assumes nothing.
--   asked_first                of a query that asking refuses, the line that asking tells answers
--   Answered                   a reply and a result that are the definitions'
--   refused_by, accepted_by    the line that answers settles both, and so does that none does
--   unasked                    so its refusal is passed on
--   too_short                  10, the query being fit
--   scanned                    none of them
use Prim.Native.Nat.{ℕ, ◌≤◌, ◌<◌}
use mathlib.Core.Path.{◌≡◌, refl}
use mathlib.Core.List.{List, [], ◌∷◌}
use mathlib.Core.Option.{none, some}
use borrow.Author.Tests.{lt-ltb, le-ltb}
use lib.Dec.{ltb}
use lib.ListN.{length}
use Rattle.basis.specs.Refusals.{Line, refuse, first_line, answer_of}
use Rattle.basis.specs.Buffers.{laid}
use Rattle.basis.proofs.Refusals.{first_of_earlier, Past, at_first, passes, stops, ends, passes_all}
use Rattle.refusals.specs.declared.Refusal.{Refusal}
use Rattle.register.specs.declared.Shape.{Shape}
use Rattle.std.specs.Prelude.{Result, Ok, Err}
use Rattle.refusals.specs.declared.Refusal.TheVariants.{OutputTooShort}
use Rattle.directory.specs.File.{rows_in}
use Rattle.register.proofs.Fit.{rows_as_opened}
use Rattle.query.specs.declared.Query.{Query}
use Rattle.asking.specs.Refusals.{ask_lines, asked_of}
use Rattle.asking.proofs.Asked.{asked_passes, asked_stops, opened_as_asked}
use Rattle.scan.specs.declared.Scanned.{Scanned}
use Rattle.bits.specs.Bits.{bytes_for}
use Rattle.scan.specs.Refusals.{scan_lines}
use Rattle.scan.specs.Answers.{accepted, found_bits, scanned_of, left_in}

pub asked_first : (file : List ℕ) (size : ℕ) (query : Query) (room : ℕ) (unfit : Refusal) → asked_of file size query ≡ Err unfit →
    (line : Line) × (first_line (scan_lines file size query room) ≡ some line) × (line.refusal ≡ unfit)
asked_first file size query room unfit told =
    let by = asked_stops file size query unfit told in
    (by.0, first_of_earlier (ask_lines file size query) _ by.0 by.1, by.2)

module _ (file : List ℕ) (size : ℕ) (query : Query) (out : List ℕ) where
  abbrev pub Answered : Result Scanned Refusal → List ℕ → Type 0
  Answered reply after = record {
    answer : reply ≡ scanned_of file size query (length out);
    left : after ≡ left_in file size query out;
  }

  pub refused_by : {line : Line} → first_line (scan_lines file size query (length out)) ≡ some line → Answered (Err line.refusal) out
  unfolding answer_of scanned_of left_in
  refused_by first = rw first (record { answer = refl; left = refl })

  pub accepted_by : first_line (scan_lines file size query (length out)) ≡ none → {scanned : Scanned} {after : List ℕ} →
      scanned ≡ accepted file size query → after ≡ laid out 0 (found_bits file query) → Answered (Ok scanned) after
  unfolding answer_of scanned_of left_in
  accepted_by first same written = rw (same, written, first) (record { answer = refl; left = refl })

  pub unasked : (unfit : Refusal) → asked_of file size query ≡ Err unfit → Answered (Err unfit) out
  unasked unfit told =
      let by = asked_first file size query (length out) unfit told in
      rw (← by.2) (refused_by by.1)

  module _ (shape : Shape) (told : asked_of file size query ≡ Ok shape) where
    -- past the query's lines, the room is left
    at_room : Past (scan_lines file size query (length out))
        (refuse (OutputTooShort (bytes_for (rows_in file))) (ltb (length out) (bytes_for (rows_in file))) ∷ [])
    at_room = passes_all (ask_lines file size query) _ (at_first _) (asked_passes file size query shape told)

    -- the rows are the file's
    same_rows : shape.rows ≡ rows_in file
    same_rows = rows_as_opened file shape (opened_as_asked file size query shape told)

    pub too_short : length out < bytes_for shape.rows → Answered (Err (OutputTooShort (bytes_for shape.rows))) out
    too_short h =
        rw same_rows (refused_by (stops at_room (lt-ltb (length out) (bytes_for (rows_in file)) (rw same_rows at h))))

    pub scanned : bytes_for shape.rows ≤ length out → {scanned : Scanned} {after : List ℕ} → scanned ≡ accepted file size query →
        after ≡ laid out 0 (found_bits file query) → Answered (Ok scanned) after
    scanned h = accepted_by (ends (passes at_room (le-ltb (length out) (bytes_for (rows_in file)) (rw same_rows at h))))
