-- What the program's steps answer, as far as it does not hang on the operating system. Assumes nothing.
use Rattle.std.specs.Prelude.{ℕ, ◌+◌, ◌-◌, ◌≤◌, ◌<◌, min, ◌≡◌, List, Bool, true, is_some, length, take}
use Rattle.std.specs.Prelude.{Option, None, Result, Ok, Err, IfErr, MatchResult}
use Rattle.files.specs.Taking.{count_of, TakenInto}
use Rattle.limits.specs.Limits.{most_file}
use Rattle.pieces.specs.Pieces.{PieceWritten}
use Rattle.refusals.specs.declared.Refusal.{Refusal}
use Rattle.finding.specs.declared.Found.{Found}
use Rattle.listing.specs.Found.{Listable, found_lines}
use Rattle.listing.specs.Inputs.{unread_input, unread_inputs, PrintLength}
use Rattle.printing.specs.declared.CutShort.{CutShort}
use Rattle.printing.specs.declared.Piece.{Piece}

-- 18 for the file: it was not read, or has too many bytes
abbrev pub refused_file : Option ℕ → Bool
refused_file taken = unread_input (is_some taken) (count_of taken) most_file

-- the text is taken into its buffer; where the file is refused none is, and the buffer is as it was
pub record TextTaken (file : Option ℕ) (before after : List ℕ) (text : Option ℕ) : Type 0 where
  pub into : TakenInto before after text
  pub none_asked : refused_file file ≡ true → (text ≡ None) × (after ≡ before)

-- how many bytes a listing has of which a piece was printed
abbrev pub all_by : Result Piece CutShort → ℕ
all_by (Ok piece) = piece.all
all_by (Err cut) = cut.all

-- a piece is made of the listing from a place on. It is taken whole, which is all that is left, as far as the buffer goes, so something
-- where something is left; or less of it is taken, and it is said why
pub record PieceOf (listing : List ℕ) (from : ℕ) (before after : List ℕ) (piece : Result Piece CutShort) : Type 0 where
  pub made : PieceWritten listing from before after (all_by piece)
  pub taken : MatchResult piece (λ piece. piece.put ≡ min (length after) (piece.all - from))
      (λ cut. (from ≤ cut.written) × (cut.written < from + min (length after) (cut.all - from)))

-- there is a buffer to print by, and what was taken of either input stands in what was lent for it
pub record InputsTaken (out : List ℕ) (taken : Option ℕ) (file : List ℕ) (given : Option ℕ) (text : List ℕ) : Type 0 where
  pub some_room : 0 < length out
  pub file_within : count_of taken ≤ length file
  pub text_within : count_of given ≤ length text

-- there is a buffer to print by, and what was found can be listed
pub record FoundPrintable (out file : List ℕ) (found : Result Found Refusal) : Type 0 where
  pub some_room : 0 < length out
  pub listable : Listable file found

-- how many bytes a listing has that was printed, whole or in part
abbrev pub all_of : Result ℕ CutShort → ℕ
all_of (Ok all) = all
all_of (Err cut) = cut.all

-- all is printed that there is, which is as long as what was found lists; or less is, and it is said why
pub record FoundPrinted (file bits : List ℕ) (found : Result Found Refusal) (printed : Result ℕ CutShort) : Type 0 where
  pub whole : all_of printed ≡ length (found_lines file bits found)
  pub within : IfErr printed (λ cut. cut.written < cut.all)

-- all is printed that there is, which is as long as what the inputs list; or less is, and it is said why
pub record PrintedOf (unread : Bool) (file text : List ℕ) (printed : Result ℕ CutShort) : Type 0 where
  pub whole : PrintLength unread file text (all_of printed)
  pub within : IfErr printed (λ cut. cut.written < cut.all)

-- what was taken of the file and of the text, where the latter was asked for, stands in what was lent for them, and is what was printed of
pub record PartsListed (file-before file text-before text : List ℕ) (printed : Result ℕ CutShort) : Type 0 where
  pub taken : Option ℕ
  pub given : Option ℕ
  pub file_taken : TakenInto file-before file taken
  pub text_taken : TextTaken taken text-before text given
  pub listed : PrintedOf (unread_inputs (is_some taken) (count_of taken) (is_some given) (count_of given)) (take (count_of taken) file)
      (take (count_of given) text) printed
