-- How a request is read, byte by byte. Assumes nothing.
--   here, later               the byte that is looked for stands at a place, or comes after it
--   grown, ended, finished    what a digit adds to a number, and what any other byte and the end of the text end
--   digit_from                a digit is 48 at least
--   pushed, longer            a number more in a buffer, and how many there are then
--   rest_length               how long a list is from a place on
--   counted                   so many elements stand at the front of a list
--   large_stays               a number that 64 bits do not hold does not get smaller
--   Kept                      the numbers of a text are those in the output and those that the text holds from a place on
--   digit_more, none_more     so it is after a digit, and after another byte where no number has begun
--   number_more               and after one that ends a number
--   too_large, no_room        a number is too large, or one too many
--   no_number, last_number    what the end of the text leaves
use Rattle.std.proofs.Common.{◌≡◌, ℕ, ◌+◌, ◌-◌, ◌*◌, ◌^◌, ◌<◌, ◌≤◌, refl, sym, ap, ◌∙◌, List, [], ◌∷◌, ◌++◌, Bool, true, false, cond}
use Rattle.std.proofs.Common.{length, get_or, take, drop, length-set, arith, add-one, append_assoc, append-nil, length-append, drop-cons}
use Rattle.std.proofs.Common.{Option, Some, None}
use Rattle.std.specs.Prelude.{suc, ◌&&◌, nat_le, unwrap_or, option_to_list, MatchOption}
use Rattle.std.specs.Char.{is_ascii_digit}
use borrow.Author.Tests.{eq-eqb, ne_eqb, leb-true}
use lib.ListN.{set, drop_of_length-le, length-drop}
use lib.Seq.{length-take-le, take-suc-set}
use mathlib.Core.List.{Memᴰ}
use Rattle.io.specs.Counts.{IsPrefixLen}
use Rattle.try_reading.specs.Requests.{behind_of, numbers_after, Unfit, many, large, NumbersRead, Pushed, IsPushed}

module _ (list : List ℕ) (i : ℕ) (inside : i < length list) (byte : ℕ) where
  pub here : get_or list i 0 ≡ byte → behind_of byte (drop i list) ≡ 1
  unfolding behind_of
  here same = rw (drop-cons list i 0) (rw (eq-eqb _ _ same) refl)

  pub later : (get_or list i 0 ≡ byte → ⊥) → behind_of byte (drop i list) ≡ suc (behind_of byte (drop (i + 1) list))
  unfolding behind_of
  later other = rw (add-one, drop-cons list i 0) (rw (ne_eqb _ _ other) refl)

module _ (text : List ℕ) (i : ℕ) (begun : Option ℕ) where
  pub grown : i < length text → is_ascii_digit (get_or text i 0) ≡ true →
      numbers_after begun (drop i text) ≡ numbers_after (Some (unwrap_or begun 0 * 10 + (get_or text i 0 - 48))) (drop (i + 1) text)
  unfolding numbers_after
  grown inside digit = rw (add-one, drop-cons text i 0) (rw digit refl)

  pub ended : i < length text → is_ascii_digit (get_or text i 0) ≡ false →
      numbers_after begun (drop i text) ≡ option_to_list begun ++ numbers_after None (drop (i + 1) text)
  unfolding numbers_after
  ended inside other = rw (add-one, drop-cons text i 0) (rw other refl)

  pub finished : length text ≤ i → numbers_after begun (drop i text) ≡ option_to_list begun
  unfolding numbers_after
  finished past = rw (drop_of_length-le text {i = i} past) refl

pub digit_from : (b : ℕ) → is_ascii_digit b ≡ true → 48 ≤ b
digit_from b digit = by_test (nat_le 48 b) refl digit
  where
    by_test : (test : Bool) → nat_le 48 b ≡ test → (test && nat_le b 57) ≡ true → 48 ≤ b
    by_test true from digit = leb-true 48 b from
    by_test false below digit = let z : ◌≡◌ {A = ℕ} 0 1 = cc in omega arith

-- numbers in a buffer, and one more
pub pushed : (out : List ℕ) (count value : ℕ) (rest : List ℕ) → count < length out →
    take (count + 1) (set out count value) ++ rest ≡ take count out ++ (value ∷ rest)
pushed out count value rest room = rw (add-one count, take-suc-set out count value room) (append_assoc (take count out) (value ∷ []) rest)

pub longer : (numbers front : List ℕ) (n : ℕ) (rest : List ℕ) → numbers ≡ front ++ (n ∷ rest) → length front < length numbers
longer numbers front n rest e = rw e (simp length-append (omega arith))

pub rest_length : (list : List ℕ) (at : ℕ) → length (take (length list - at) (drop at list)) ≡ length list - at
rest_length list at = length-take-le (length list - at) (drop at list) (rw (length-drop at list) (omega arith))

pub counted : (n : ℕ) (list : List ℕ) → n ≤ length list → IsPrefixLen n list
counted n list within = (within, sym (length-take-le n list within))

-- a number that 64 bits do not hold is among these
abbrev pub Large : List ℕ → Type 0
Large numbers = (number : ℕ) × Memᴰ number numbers × (2 ^ 64 ≤ number)

pub large_stays : (text : List ℕ) (value : ℕ) → 2 ^ 64 ≤ value → Large (numbers_after (Some value) text)
unfolding numbers_after
large_stays [] value above = (value, Memᴰ.head refl, above)
large_stays (b ∷ text) value above =
    by_digit (is_ascii_digit b) (large_stays text (value * 10 + (b - 48)) (omega arith))
  where
    by_digit : (digit : Bool) → Large (numbers_after (Some (value * 10 + (b - 48))) text) →
        Large (cond digit (numbers_after (Some (value * 10 + (b - 48))) text) (value ∷ numbers_after None text))
    by_digit true more = more
    by_digit false more = (value, Memᴰ.head refl, above)

pub member_behind : {n : ℕ} (front : List ℕ) {back : List ℕ} → Memᴰ n back → Memᴰ n (front ++ back)
member_behind [] m = m
member_behind (x ∷ front) m = Memᴰ.tail (member_behind front m)

pub record Kept (numbers text before out : List ℕ) (i count : ℕ) (begun : Option ℕ) : Type 0 where
  pub room : count ≤ length out
  pub same_length : length out ≡ length before
  pub read : numbers ≡ take count out ++ numbers_after begun (drop i text)

module _ {numbers text before out : List ℕ} {i count : ℕ} {begun : Option ℕ} (kept : Kept numbers text before out i count begun) where
  behind : {rest : List ℕ} → numbers_after begun (drop i text) ≡ rest → numbers ≡ take count out ++ rest
  behind is = kept.read ∙ ap (λ (rest : List ℕ). take count out ++ rest) is

  pub digit_more : {more : ℕ} → i < length text → is_ascii_digit (get_or text i 0) ≡ true →
      more ≡ unwrap_or begun 0 * 10 + (get_or text i 0 - 48) → Kept numbers text before out (i + 1) count (Some more)
  digit_more inside digit is =
      record { room = kept.room; same_length = kept.same_length; read = rw is (behind (grown text i begun inside digit)) }

  pub none_more : i < length text → is_ascii_digit (get_or text i 0) ≡ false → begun ≡ None →
      Kept numbers text before out (i + 1) count None
  none_more inside other none =
      record { room = kept.room; same_length = kept.same_length; read = rw none at (behind (ended text i begun inside other)) }

  module _ {number : ℕ} (some : begun ≡ Some number) where
    ends : i < length text → is_ascii_digit (get_or text i 0) ≡ false →
        numbers ≡ take count out ++ (number ∷ numbers_after None (drop (i + 1) text))
    ends inside other = rw some at (behind (ended text i begun inside other))

    full : (rest : List ℕ) → numbers ≡ take count out ++ (number ∷ rest) → length out ≤ count → Unfit (length before) numbers
    full rest all no_more =
        let longer : length (take count out) < length numbers = rw all (simp length-append (omega arith)) in
        many (omega (arith, longer, length-take-le count out kept.room, kept.same_length))

    put : (rest : List ℕ) {after : List ℕ} {more : ℕ} → numbers ≡ take count out ++ (number ∷ rest) → IsPushed number out after count more →
        numbers ≡ take more after ++ rest
    put rest all pushed =
        let room = pushed.room in
        rw (pushed.counted, pushed.stored, add-one count, take-suc-set out count number room)
        (all ∙ sym (append_assoc (take count out) (number ∷ []) rest))

    stands : {after : List ℕ} {more : ℕ} → IsPushed number out after count more → (more ≤ length after) × (length after ≡ length before)
    stands pushed =
        let room = pushed.room in
        (rw (pushed.counted, pushed.stored) (simp length-set (omega arith)), rw pushed.stored (simp length-set kept.same_length))

    pub number_more : {after : List ℕ} {more : ℕ} → i < length text → is_ascii_digit (get_or text i 0) ≡ false →
        IsPushed number out after count more → Kept numbers text before after (i + 1) more None
    number_more inside other pushed =
        record { room = (stands pushed).0; same_length = (stands pushed).1; read = put _ (ends inside other) pushed }

    pub no_room : i < length text → is_ascii_digit (get_or text i 0) ≡ false → length out ≤ count → Unfit (length before) numbers
    no_room inside other no_more = full _ (ends inside other) no_more

    pub last_number : (after : List ℕ) (more : Option ℕ) → length text ≤ i → Pushed number out after count more →
        MatchOption more (Unfit (length before) numbers) (λ n. NumbersRead numbers after n)
    last_number after more past = by_room more
      where
        all : numbers ≡ take count out ++ (number ∷ [])
        all = rw some at (behind (finished text i begun past))

        by_room : (more : Option ℕ) → Pushed number out after count more →
            MatchOption more (Unfit (length before) numbers) (λ n. NumbersRead numbers after n)
        by_room None no_more = full [] all no_more
        by_room (Some n) pushed = record { read = rw append-nil at (put [] all pushed); within = counted n after (stands pushed).0 }

  pub too_large : i < length text → is_ascii_digit (get_or text i 0) ≡ true →
      2 ^ 64 ≤ unwrap_or begun 0 * 10 + (get_or text i 0 - 48) → Unfit (length before) numbers
  too_large inside digit above =
      let found = large_stays (drop (i + 1) text) _ above in
      large found.0 (rw (behind (grown text i begun inside digit)) (member_behind (take count out) found.1)) found.2

  pub no_number : length text ≤ i → begun ≡ None → NumbersRead numbers out count
  no_number past none =
      record { read = rw append-nil at (rw none at (behind (finished text i begun past))); within = counted count out kept.room }
