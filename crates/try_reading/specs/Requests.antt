-- How a request is read: the numbers of a line, and of these the slices and outputs of a call. Assumes nothing.
use Rattle.std.specs.Prelude.{ℕ, suc, ◌+◌, ◌-◌, ◌*◌, ◌<◌, ◌≤◌, ◌^◌, ◌≡◌, cond, eqb, length, take, set, get_or, slice_index_or}
use Rattle.std.specs.Prelude.{Option, Some, None, MatchOption, unwrap_or, option_to_list, Result, Ok, Err}
use Rattle.std.specs.Char.{is_ascii_digit}
use mathlib.Core.List.{List, [], ◌∷◌, ◌++◌, Memᴰ}
use Rattle.io.specs.Counts.{IsPrefixLen}

-- the place behind the first of these bytes, or the end
unfoldable pub behind_of : ℕ → List ℕ → ℕ
behind_of byte [] = 0
behind_of byte (b ∷ bytes) = cond (eqb b byte) 1 (suc (behind_of byte bytes))

-- that place was found: it is among them, and past the first where there are any
pub record Behind (byte : ℕ) (bytes : List ℕ) (place : ℕ) : Type 0 where
  pub found : place ≡ behind_of byte bytes
  pub within : IsPrefixLen place bytes
  pub some : 0 < length bytes → 0 < place

-- the numbers of a text, where one may have begun just before it
unfoldable pub numbers_after : Option ℕ → List ℕ → List ℕ
numbers_after begun [] = option_to_list begun
numbers_after begun (b ∷ text) =
    cond
    (is_ascii_digit b)
    (numbers_after (Some (unwrap_or begun 0 * 10 + (b - 48))) text)
    (option_to_list begun ++ numbers_after None text)

-- the numbers of a text: its runs of digits, whatever stands between them
abbrev pub numbers_in : List ℕ → List ℕ
numbers_in text = numbers_after None text

-- more numbers than there is room for, or one that 64 bits do not hold
pub data Unfit (room : ℕ) (numbers : List ℕ) : Type 0 where
  many : room < length numbers → Unfit room numbers
  large : (number : ℕ) → Memᴰ number numbers → 2 ^ 64 ≤ number → Unfit room numbers

-- so many numbers stand at the front of what is lent for them
pub record NumbersRead (numbers out : List ℕ) (count : ℕ) : Type 0 where
  pub read : numbers ≡ take count out
  pub within : IsPrefixLen count out

-- the numbers of a text were put there, or they are unfit
abbrev pub NumbersPut : List ℕ → List ℕ → List ℕ → Option ℕ → Type 0
NumbersPut text before after count =
    MatchOption count (Unfit (length before) (numbers_in text)) (λ n. NumbersRead (numbers_in text) after n)

-- a number stands behind so many, or there is no room
pub record IsPushed (number : ℕ) (before after : List ℕ) (count more : ℕ) : Type 0 where
  pub room : count < length before
  pub counted : more ≡ count + 1
  pub stored : after ≡ set before count number

abbrev pub Pushed : ℕ → List ℕ → List ℕ → ℕ → Option ℕ → Type 0
Pushed number before after count more = MatchOption more (length before ≤ count) (λ more. IsPushed number before after count more)

-- numbers begin with a slice, which is its length and then its elements, and these stand behind it
abbrev pub IsSlice : List ℕ → List ℕ → List ℕ → Type 0
IsSlice numbers elements rest = numbers ≡ length elements ∷ (elements ++ rest)

-- they begin with none
abbrev pub NoSlice : List ℕ → Type 0
NoSlice numbers = (elements rest : List ℕ) → IsSlice numbers elements rest → ⊥

-- each of so many numbers makes an element
abbrev pub MadeBelow : {A E : Type 0} → (ℕ → Result A E → Type 0) → ℕ → List ℕ → List A → Type 0
MadeBelow {A} gives n numbers elements = (k : ℕ) (d : A) → k < n → gives (get_or numbers k 0) (Ok (slice_index_or elements k d))

-- and so do all
pub record Made {A E : Type 0} (gives : ℕ → Result A E → Type 0) (numbers : List ℕ) (elements : List A) : Type 0 where
  pub same_length : length elements ≡ length numbers
  pub made : MadeBelow gives (length numbers) numbers elements

-- one of them makes none
pub record Unmade {A E : Type 0} (gives : ℕ → Result A E → Type 0) (numbers : List ℕ) : Type 0 where
  pub at : ℕ
  pub error : E
  pub within : at < length numbers
  pub none : gives (get_or numbers at 0) (Err error)

-- numbers begin with a slice whose elements were made
pub record SlicePut {A E : Type 0} (gives : ℕ → Result A E → Type 0) (numbers : List ℕ) (front : List A) (rest : List ℕ) : Type 0 where
  pub elements : List ℕ
  pub slice : IsSlice numbers elements rest
  pub made : Made gives elements front

-- they begin with none, or with more elements than there is room for, or one of them is not made
pub data NoSlicePut {A E : Type 0} (gives : ℕ → Result A E → Type 0) (numbers : List ℕ) (room : ℕ) : Type 0 where
  no_slice : NoSlice numbers → NoSlicePut gives numbers room
  too_many : (elements rest : List ℕ) → IsSlice numbers elements rest → room < length elements → NoSlicePut gives numbers room
  unmade : (elements rest : List ℕ) → IsSlice numbers elements rest → Unmade gives elements → NoSlicePut gives numbers room

-- an output at a place ends a request: how many elements it has, at most so many, and how many of them are to be lent
pub record IsRoomAt (most : ℕ) (numbers : List ℕ) (at elements lent : ℕ) : Type 0 where
  pub ends : length numbers ≡ at + 2
  pub has : elements ≡ get_or numbers at 0
  pub lends : lent ≡ get_or numbers (at + 1) 0
  pub at_most : elements ≤ most

-- nothing that is one does
abbrev pub NoRoomAt : ℕ → List ℕ → ℕ → Type 0
NoRoomAt most numbers at = (elements lent : ℕ) → IsRoomAt most numbers at elements lent → ⊥

-- an output is all of a request, and no more of it is to be lent than there is
pub record IsRoom (most : ℕ) (numbers : List ℕ) (elements lent : ℕ) : Type 0 where
  pub ends : numbers ≡ elements ∷ lent ∷ []
  pub lends : lent ≤ elements
  pub at_most : elements ≤ most

-- nothing that is one does
abbrev pub NoRoom : ℕ → List ℕ → Type 0
NoRoom most numbers = (elements lent : ℕ) → IsRoom most numbers elements lent → ⊥
