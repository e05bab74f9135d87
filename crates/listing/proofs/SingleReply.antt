-- The promises of the listing admit one answer and one content of the buffer. Assumes nothing.
--   one_listing           of a file and a text
--   one_print             of inputs that were taken or not
--   one_found_read        of what is found of inputs, and of the bits
--   one_write             `write`, by its own promise
--   one_write_of_inputs   `write_read`, by its own promise
--   one_prepare           `prepare`, by its own promise
--   one_write_of_found    `write_found`, by its own promise
-- A call's own promise is its `ensures` as the check reads it: of the lifetimes κs, of what is lent, of the answer, and of what was
-- lent as it stands at exit, the buffer last.
use Prim.Native.Nat.{ℕ}
use mathlib.Core.Path.{◌≡◌, refl, sym, ◌∙◌}
use mathlib.Core.List.{List}
use mathlib.Core.Bool.{Bool, true, false}
use Rattle.text.proofs.SingleReply.{single_reply}
use Rattle.pieces.specs.Pieces.{PieceWritten}
use Rattle.lines.specs.Lines.{refused_line}
use Rattle.listing.specs.Listing.{listing_of, Listed}
use Rattle.std.specs.Prelude.{Result}
use Rattle.refusals.specs.declared.Refusal.{Refusal}
use Rattle.refusals.specs.declared.Refusal.TheVariants.{InputNotTaken}
use Rattle.finding.specs.declared.Found.{Found}
use Rattle.listing.specs.Found.{found_lines}
use Rattle.listing.specs.Inputs.{bytes_of, unread_of, FoundRead, ListedRead}
use Rattle.listing.proofs.write.Reads.{Post as Writes}
use Rattle.listing.proofs.write_read.Reads.{Post as WritesInputs}
use Rattle.finding.proofs.SingleReply.{one_found}
use Rattle.listing.proofs.prepare.Reads.{Post as Prepares}
use Rattle.listing.proofs.write_found.Reads.{Post as WritesFound}

-- of one list
one_piece : (list : List ℕ) (from : ℕ) (before : List ℕ) {after other : List ℕ} {answer number : ℕ} →
    PieceWritten list from before after answer → PieceWritten list from before other number → (after ≡ other) × (answer ≡ number)
one_piece list from before first second = (first.piece ∙ sym second.piece, first.whole ∙ sym second.whole)

module _ (file text : List ℕ) (from : ℕ) (before after other : List ℕ) (answer number : ℕ) where
  pub one_listing : Listed file text from before after answer → Listed file text from before other number →
      (after ≡ other) × (answer ≡ number)
  one_listing first second =
      let same = single_reply first.1.0 second.1.0 in
      one_piece (listing_of file second.0) from before (rw same at first.1.1) second.1.1

  pub one_print : (unread : Bool) → ListedRead unread file text from before after answer →
      ListedRead unread file text from before other number → (after ≡ other) × (answer ≡ number)
  one_print true first second = one_piece (refused_line InputNotTaken) from before first second
  one_print false first second = one_listing first second

module _ (file text before : List ℕ) {after other : List ℕ} {found again : Result Found Refusal} where
  pub one_found_read : (unread : Bool) → FoundRead unread file text before after found → FoundRead unread file text before other again →
      (found ≡ again) × (after ≡ other)
  one_found_read true first second =
      let told = first.refused refl in
      let repeated = second.refused refl in
      (told.0 ∙ sym repeated.0, told.1 ∙ sym repeated.1)
  one_found_read false first second = one_found file text before (first.listed refl) (second.listed refl)

pub one_write : (κs : _) (lent : _) (answer number : ℕ) (exit exit' : _) →
    Writes κs lent answer exit → Writes κs lent number exit' → (exit.1.1.1.0.now ≡ exit'.1.1.1.0.now) × (answer ≡ number)
one_write κs lent answer number exit exit' first second = one_listing _ _ _ _ _ _ _ _ first second

pub one_write_of_inputs : (κs : _) (lent : _) (answer number : ℕ) (exit exit' : _) →
    WritesInputs κs lent answer exit → WritesInputs κs lent number exit' →
    (exit.1.1.1.0.now ≡ exit'.1.1.1.0.now) × (answer ≡ number)
one_write_of_inputs κs lent answer number exit exit' first second =
    let file = lent.0 in
    let text = lent.1.0 in
    one_print (bytes_of file) (bytes_of text) _ _ _ _ answer number (unread_of file text) first second

pub one_prepare : (κs : _) (lent : _) (found again : Result Found Refusal) (exit exit' : _) → Prepares κs lent found exit → Prepares κs lent again exit' →
    (found ≡ again) × (exit.1.1.0.now ≡ exit'.1.1.0.now)
one_prepare κs lent found again exit exit' first second = one_found_read _ _ _ _ first second

pub one_write_of_found : (κs : _) (lent : _) (answer number : ℕ) (exit exit' : _) → WritesFound κs lent answer exit →
    WritesFound κs lent number exit' → (exit.1.1.1.1.0.now ≡ exit'.1.1.1.1.0.now) × (answer ≡ number)
one_write_of_found κs lent answer number exit exit' first second =
    let found = found_lines lent.0.now lent.1.1.0.now lent.1.0 in
    one_piece found lent.1.1.1.0 lent.1.1.1.1.0.now first second
