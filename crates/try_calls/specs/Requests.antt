-- Which numbers each call takes: its slices, its single numbers and its output, one behind the other, and nothing more; and which lines
-- ask for it. Assumes nothing.
use Rattle.std.specs.Prelude.{ℕ, ◌+◌, ◌/◌, ◌^◌, ◌<◌, ◌≤◌, ◌≡◌, EachIndex, Option, MatchOption, length, get_or, take}
use mathlib.Core.List.{List, [], ◌∷◌}
use Rattle.limits.specs.Limits.{most_rows}
use Rattle.try_reading.specs.Requests.{IsSlice, IsRoom, behind_of, numbers_in, Unfit}

-- a file, or the bits of the most rows: MOST_BYTES
abbrev pub most_bytes : ℕ
most_bytes = most_rows / 8

-- any other slice that is put, and all but the largest outputs: MOST_ELEMENTS
abbrev pub most_elements : ℕ
most_elements = 4096

-- the list of the most rows, and an element more: MOST_LISTED
abbrev pub most_listed : ℕ
most_listed = most_rows + 1

-- numbers begin with a slice of at most so many elements, each of so many bits, and what stands behind it is so
pub record SliceThen (bits most : ℕ) (Then : List ℕ → Type 0) (numbers : List ℕ) : Type 0 where
  pub elements : List ℕ
  pub rest : List ℕ
  pub slice : IsSlice numbers elements rest
  pub fit : EachIndex elements (λ k. get_or elements k 0 < 2 ^ bits)
  pub at_most : length elements ≤ most
  pub behind : Then rest

-- they begin with a slice of any numbers, however many, and what stands behind it is so
pub record AnySliceThen (Then : List ℕ → Type 0) (numbers : List ℕ) : Type 0 where
  pub elements : List ℕ
  pub rest : List ℕ
  pub slice : IsSlice numbers elements rest
  pub behind : Then rest

-- they begin with a number, and what stands behind it is so
pub record NumberThen (Then : List ℕ → Type 0) (numbers : List ℕ) : Type 0 where
  pub number : ℕ
  pub rest : List ℕ
  pub begins : numbers ≡ number ∷ rest
  pub behind : Then rest

-- they are an output of at most so many elements
pub record Output (most : ℕ) (numbers : List ℕ) : Type 0 where
  pub elements : ℕ
  pub lent : ℕ
  pub room : IsRoom most numbers elements lent

-- there are none
abbrev pub End : List ℕ → Type 0
End numbers = numbers ≡ []

-- the calls
pub data Call : Type 0 where
  open_call : Call
  widths_call : Call
  write_call : Call
  read_call : Call
  scan_call : Call
  list_call : Call
  lookup_call : Call

-- the word that a request for a call begins with, and the space behind it: "open ", "widths ", "write ", "read ", "scan ", "list ", "lookup "
abbrev pub word_of : Call → List ℕ
word_of open_call = 111 ∷ 112 ∷ 101 ∷ 110 ∷ 32 ∷ []
word_of widths_call = 119 ∷ 105 ∷ 100 ∷ 116 ∷ 104 ∷ 115 ∷ 32 ∷ []
word_of write_call = 119 ∷ 114 ∷ 105 ∷ 116 ∷ 101 ∷ 32 ∷ []
word_of read_call = 114 ∷ 101 ∷ 97 ∷ 100 ∷ 32 ∷ []
word_of scan_call = 115 ∷ 99 ∷ 97 ∷ 110 ∷ 32 ∷ []
word_of list_call = 108 ∷ 105 ∷ 115 ∷ 116 ∷ 32 ∷ []
word_of lookup_call = 108 ∷ 111 ∷ 111 ∷ 107 ∷ 117 ∷ 112 ∷ 32 ∷ []

-- the numbers that a call takes, where files and bits have at most so many bytes and its other slices at most so many elements:
--   open     a file
--   widths   a file, and an output
--   write    rows, widths, codes, and an output
--   read     a text
--   scan     a file, a text, and an output
--   list     rows, bits, and an output, which may be the largest
--   lookup   a file, a column, rows, and an output
abbrev pub Takes : Call → (bytes elements : ℕ) → List ℕ → Type 0
Takes open_call bytes elements = SliceThen 8 bytes End
Takes widths_call bytes elements = SliceThen 8 bytes (Output most_elements)
Takes write_call bytes elements = NumberThen (SliceThen 8 elements (AnySliceThen (Output most_elements)))
Takes read_call bytes elements = SliceThen 8 elements End
Takes scan_call bytes elements = SliceThen 8 bytes (SliceThen 8 elements (Output most_elements))
Takes list_call bytes elements = NumberThen (SliceThen 8 bytes (Output most_listed))
Takes lookup_call bytes elements = SliceThen 8 bytes (NumberThen (SliceThen 32 elements (Output most_elements)))

-- a call is made where these are its numbers, however long its slices; where it is not, they are not its numbers or a slice is too long
abbrev pub MadeWith : {A : Type 0} → Call → List ℕ → Option A → Type 0
MadeWith call numbers made =
    MatchOption made (Takes call most_bytes most_elements numbers → ⊥) (λ _. (bytes : ℕ) × (elements : ℕ) × Takes call bytes elements numbers)

-- the first word of a line, and the space behind it
abbrev pub first_word : List ℕ → List ℕ
first_word line = take (behind_of 32 line) line

-- a line asks for a call by its first word, and the text behind its colon holds the call's numbers, for which there is room
pub record IsRequest (bytes elements room : ℕ) (line text : List ℕ) : Type 0 where
  pub call : Call
  pub named : first_word line ≡ word_of call
  pub fit : Unfit room (numbers_in text) → ⊥
  pub takes : Takes call bytes elements (numbers_in text)

-- a call is made where the line asks for it, however long its slices; where none is, the line asks for none or a slice is too long
abbrev pub MadeFor : {A : Type 0} → ℕ → List ℕ → List ℕ → Option A → Type 0
MadeFor room line text made =
    MatchOption made (IsRequest most_bytes most_elements room line text → ⊥)
    (λ _. (bytes : ℕ) × (elements : ℕ) × IsRequest bytes elements room line text)
