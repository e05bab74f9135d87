-- What the program prints of the inputs that it read: 18 for the file, 18 for the text, or the listing. Assumes nothing.
use Rattle.std.specs.Prelude.{ℕ, ◌≡◌, List, [], Bool, true, false, not, ◌||◌, ltb, length, is_some}
use Rattle.std.specs.Prelude.{Option, Some, None, Result, Err, MatchResult}
use Rattle.std.specs.Borrow.{Bor}
use Rattle.limits.specs.Limits.{most_file, most_text}
use Rattle.refusals.specs.declared.Refusal.{Refusal}
use Rattle.refusals.specs.declared.Refusal.TheVariants.{InputNotTaken}
use Rattle.text.specs.declared.Asked.{Asked}
use Rattle.text.specs.Reading.{Reads}
use Rattle.pieces.specs.Pieces.{PieceWritten}
use Rattle.lines.specs.Lines.{refused_line}
use Rattle.finding.specs.declared.Found.{Found}
use Rattle.listing.specs.Listing.{listing_of, Listed}
use Rattle.finding.specs.Finding.{FoundIn}

-- an input that could not be read, or is over its limit
abbrev pub unread_input : Bool → ℕ → ℕ → Bool
unread_input read bytes most = not read || ltb most bytes

-- one of the two is not taken: the file is judged first, but 18 says the same of both
abbrev pub unread_inputs : Bool → ℕ → Bool → ℕ → Bool
unread_inputs taken file given text = unread_input taken file most_file || unread_input given text most_text

-- the bytes of an input: none where it was not taken
abbrev pub bytes_of : Option (Bor (List ℕ)) → List ℕ
bytes_of (Some bytes) = bytes.now
bytes_of None = []

-- an input that was not taken, or is over its limit
abbrev pub unread : Option (Bor (List ℕ)) → ℕ → Bool
unread input most = unread_input (is_some input) (length (bytes_of input)) most

-- one of the two is
abbrev pub unread_of : Option (Bor (List ℕ)) → Option (Bor (List ℕ)) → Bool
unread_of file text = unread_inputs (is_some file) (length (bytes_of file)) (is_some text) (length (bytes_of text))

-- its bytes are answered, or 18 where it is unfit to be taken
abbrev pub InputTaken : Option (Bor (List ℕ)) → ℕ → Result (Bor (List ℕ)) Refusal → Type 0
InputTaken input most answer =
    MatchResult answer (λ bytes. (unread input most ≡ false) × (bytes.now ≡ bytes_of input))
    (λ refusal. (unread input most ≡ true) × (refusal ≡ InputNotTaken))

-- what is found of inputs: 18 where one is not taken, and then the bits are as they were, or what the listing shows
pub record FoundRead (unread : Bool) (file text before after : List ℕ) (found : Result Found Refusal) : Type 0 where
  pub refused : unread ≡ true → (found ≡ Err InputNotTaken) × (after ≡ before)
  pub listed : unread ≡ false → FoundIn file text before after found

-- a piece of what is printed: the line of 18 where an input is not taken, or the listing
abbrev pub ListedRead : Bool → List ℕ → List ℕ → ℕ → List ℕ → List ℕ → ℕ → Type 0
ListedRead unread file text from before after answer =
    elim unread as (λ unread. Type 0)
    [ true ↦ PieceWritten (refused_line InputNotTaken) from before after answer | false ↦ Listed file text from before after answer ]

-- how many bytes that has in all
abbrev pub PrintLength : Bool → List ℕ → List ℕ → ℕ → Type 0
PrintLength unread file text bytes =
    elim unread as (λ unread. Type 0) [
      | true ↦ bytes ≡ length (refused_line InputNotTaken)
      | false ↦ (asked : Result Asked Refusal) × (Reads text asked × (bytes ≡ length (listing_of file asked)))
    ]
