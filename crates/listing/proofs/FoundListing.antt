-- What was found is what is listed. Assumes nothing.
--   piece_written     a list that was written from its first byte on has left its piece
--   same_listing      these lines are the listing
--   can_be_listed     and they can be written
--   listed_in         so a piece of them is a piece of the listing of the file and the text
use Prim.Native.Nat.{ℕ}
use native.Mathlib.Nat.{zero-add}
use mathlib.Core.Path.{◌≡◌, refl, sym, ap, subst, ◌∙◌}
use mathlib.Core.List.{List, ◌++◌}
use lib.ListN.{length}
use Rattle.std.specs.Prelude.{Result, Ok, Err}
use Rattle.refusals.specs.declared.Refusal.{Refusal}
use Rattle.limits.specs.Limits.{most_rows}
use Rattle.text.specs.declared.Asked.{Asked}
use Rattle.text.specs.Reading.{Reads}
use Rattle.scan.specs.declared.Scanned.{Scanned}
use Rattle.bits.specs.Bits.{bytes_for}
use Rattle.bits.specs.Marked.{marked_below}
use Rattle.std.specs.Borrow.{MutBor}
use Rattle.pieces.specs.declared.Piece.{Piece}
use Rattle.pieces.specs.Pieces.{Begun, Wrote, PieceWritten}
use Rattle.pieces.proofs.WholePiece.{whole_piece}
use Rattle.lines.specs.Lines.{head_line, refused_line}
use Rattle.scan.proofs.Accepting.{opens}
use Rattle.finding.specs.declared.Found.{Found}
use Rattle.finding.specs.Finding.{scan_for, found_of, FoundBy, FoundIn}
use Rattle.listing.specs.Listing.{answer_lines, refused_or, listing_of, Listed}
use Rattle.sections.specs.Sections.{test_lines, row_lines}
use Rattle.listing.specs.Found.{Listable, accepted_lines, found_lines}
use Rattle.listing.proofs.FoundLines.{reads_small, columns_below}
use Rattle.finding.proofs.Outcomes.{accepted_scan}

pub piece_written : {out : MutBor (List ℕ)} {from : ℕ} {list after : List ℕ} {begun done : Piece} →
    Begun out from begun → Wrote list begun done → after ≡ done.out.now → PieceWritten list from out.now after done.at
piece_written {out} {from} {list} begun wrote kept =
    record {
      piece = kept ∙ wrote.written ∙ rw (begun.first, begun.same_place, begun.same_bytes) (whole_piece out.now from list);
      whole = wrote.behind ∙ rw begun.first (zero-add (length list));
    }

module _ (file before bits : List ℕ) (found : Result Found Refusal) where
  pub same_listing : (asked : Result Asked Refusal) → FoundBy file asked before bits found →
      found_lines file bits found ≡ listing_of file asked
  unfolding accepted_lines listing_of answer_lines
  same_listing (Err refusal) made = ap (found_lines file bits) made.answer
  same_listing (Ok asked) made = go (scan_for file asked) refl
    where
      go : (scanned : Result Scanned Refusal) → scan_for file asked ≡ scanned →
          found_lines file bits found ≡ refused_or (answer_lines file asked.query) (scan_for file asked)
      go (Err refusal) e = rw (made.answer ∙ ap (found_of file asked.query) e, e) refl
      go (Ok scanned) e =
          let told = made.answer ∙ ap (found_of file asked.query) e in
          rw (told, e, made.rows _ told) refl

  pub can_be_listed : {text : List ℕ} (asked : Result Asked Refusal) → Reads text asked → FoundBy file asked before bits found →
      Listable file found
  can_be_listed (Err refusal) reads made = subst (Listable file) (sym made.answer) tt
  can_be_listed (Ok asked) reads made = go (scan_for file asked) refl
    where
      go : (scanned : Result Scanned Refusal) → scan_for file asked ≡ scanned → Listable file found
      go (Err refusal) e = subst (Listable file) (sym (made.answer ∙ ap (found_of file asked.query) e)) tt
      go (Ok scanned) e =
          let small = reads_small reads in
          let passed = accepted_scan file asked scanned e in
          let columns = columns_below file asked.size asked.query (bytes_for most_rows) passed small.0 small.1 in
          subst (Listable file) (sym (made.answer ∙ ap (found_of file asked.query) e))
          (record { opened = opens file asked.size asked.query (bytes_for most_rows) passed; few = small.0; columns_there = columns })

pub listed_in : (file text filled bits : List ℕ) (found : Result Found Refusal) → FoundIn file text filled bits found → (from : ℕ)
    (before : List ℕ) {after : List ℕ} {answer : ℕ} → PieceWritten (found_lines file bits found) from before after answer →
    Listed file text from before after answer
listed_in file text filled bits found made from before piece =
    (made.0, (made.1.0, rw (same_listing file filled bits found made.0 made.1.1) at piece))
