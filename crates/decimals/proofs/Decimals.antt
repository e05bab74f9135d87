-- Decimals: a digit more, no leading zero, and the number back from its digits. Assumes nothing.
--   IsDigit             a byte from 48 to 57
--   room                numbers below it have at most twenty digits
--   decimal_of_digit    a number below 10 is one digit
--   decimal_one_more    a further digit: ten times the number, and the digit
--   by_digits           what holds of each digit, and of ten times a number and a digit, holds of every decimal
--   decimal_digits      a decimal is all digits
--   decimal_some        and at least one
--   no_leading_zero     only 0 begins with 48
--   value_from           the number that further digits make of one that has begun
--   value               the number that digits make
--   value_one_more      that of a decimal and a further digit
--   same_decimal        a decimal and what follows it, spelt in one way
--   begun_decimal       a decimal that begins with some digits is no smaller than what they make, and the rest of it comes next
use Prim.Native.Nat.{ℕ, zero, suc, ◌+◌, ◌-◌, ◌*◌, ◌/◌, ◌%◌, ◌^◌, ◌<◌, ◌≤◌}
use native.Mathlib.Omega.{arith}
use native.Mathlib.Nat.{pow-succ', div-add-mod'}
use mathlib.Core.Path.{◌≡◌, refl, sym, ap, subst, ◌∙◌}
use mathlib.Core.Logic.{⊎_elim}
use mathlib.Core.List.{List, [], ◌∷◌, ◌++◌}
use lib.ListN.{length, get_or, length-append, get_or-append}
use borrow.Author.Tests.{lt-ltb, le-ltb}
use Rattle.basis.proofs.Runs.{within_or_past}
use Rattle.decimals.specs.Decimals.{digit, decimal_in, decimal}
use Rattle.decimals.proofs.Words.{AllOf, joined_word, word_at_front, same_word}

abbrev pub IsDigit : ℕ → Type 0
IsDigit b = (48 ≤ b) × (b < 58)

abbrev pub room : ℕ
room = 10 ^ 20

one_digit : (more n : ℕ) → n < 10 → decimal_in (suc more) n ≡ digit n ∷ []
unfolding decimal_in
one_digit more n small = rw (lt-ltb n 10 small, decimal_in)

more_digits : (more n : ℕ) → 10 ≤ n → decimal_in (suc more) n ≡ decimal_in more (n / 10) ++ (digit (n % 10) ∷ [])
unfolding decimal_in
more_digits more n large = rw (le-ltb n 10 large, decimal_in)

-- room for one digit more changes nothing
roomier : (more n : ℕ) → n < 10 ^ suc more → decimal_in (suc (suc more)) n ≡ decimal_in (suc more) n
roomier zero n fits = one_digit 1 n fits ∙ sym (one_digit 0 n fits)
roomier (suc more) n fits =
    ⊎_elim
    (λ (small : n < 10). one_digit (suc (suc more)) n small ∙ sym (one_digit (suc more) n small))
    (λ (large : 10 ≤ n).
    more_digits (suc (suc more)) n large
    ∙ ap (λ (front : List ℕ). front ++ (digit (n % 10) ∷ [])) (roomier more (n / 10) (omega (arith, pow-succ' 10 (suc more))))
    ∙ sym (more_digits (suc more) n large))
    (within_or_past n 10)

pub decimal_of_digit : (d : ℕ) → d < 10 → decimal d ≡ digit d ∷ []
unfolding decimal
decimal_of_digit d small = one_digit 19 d small

pub decimal_one_more : (n d : ℕ) → 0 < n → d < 10 → n * 10 + d < room → decimal (n * 10 + d) ≡ decimal n ++ (digit d ∷ [])
unfolding decimal
decimal_one_more n d some small fits =
    let tenth : (n * 10 + d) / 10 ≡ n = omega arith in
    let last : (n * 10 + d) % 10 ≡ d = omega arith in
    more_digits 19 (n * 10 + d) (omega arith)
    ∙ rw (tenth, last) (ap (λ (front : List ℕ). front ++ (digit d ∷ [])) (sym (roomier 18 n (omega arith))))

module _ (Holds : ℕ → List ℕ → Type 0) (digits : (d : ℕ) → d < 10 → Holds d (digit d ∷ []))
    (further : (n d : ℕ) (front : List ℕ) → d < 10 → 0 < n → Holds n front → Holds (n * 10 + d) (front ++ (digit d ∷ []))) where
  by_digits_in : (more n : ℕ) → n < 10 ^ suc more → Holds n (decimal_in (suc more) n)
  by_digits_in zero n fits = rw (one_digit 0 n fits) (digits n fits)
  by_digits_in (suc more) n fits =
      ⊎_elim
      (λ (small : n < 10). rw (one_digit (suc more) n small) (digits n small))
      (λ (large : 10 ≤ n).
      rw (more_digits (suc more) n large)
      (subst (λ (number : ℕ). Holds number (decimal_in (suc more) (n / 10) ++ (digit (n % 10) ∷ []))) (div-add-mod' n 10)
      (further (n / 10) (n % 10) (decimal_in (suc more) (n / 10)) (omega arith) (omega arith)
      (by_digits_in more (n / 10) (omega (arith, pow-succ' 10 (suc more)))))))
      (within_or_past n 10)

  pub by_digits : (n : ℕ) → n < room → Holds n (decimal n)
  unfolding decimal
  by_digits n fits = by_digits_in 19 n fits

digit_is_digit : (d : ℕ) → d < 10 → IsDigit (digit d)
digit_is_digit d small = omega arith

pub decimal_digits : (n : ℕ) → n < room → AllOf IsDigit (decimal n)
decimal_digits =
    by_digits (λ n word. AllOf IsDigit word) (λ d small. (digit_is_digit d small, tt))
    (λ n d front small some digits. joined_word IsDigit front (digit d ∷ []) digits (digit_is_digit d small, tt))

-- what the first byte of a decimal says of the number
abbrev Begins : ℕ → List ℕ → Type 0
Begins n word = (0 < length word) × (get_or word 0 0 ≡ 48 → n ≡ 0)

begins : (n : ℕ) → n < room → Begins n (decimal n)
begins =
    by_digits Begins (λ d small. (omega arith, λ e. omega arith))
    (λ n d front small some front-begins. (
      rw length-append (omega arith),
      λ e. absurd (omega (arith, front-begins.1 (rw (get_or-append front (digit d ∷ []) 0 0 front-begins.0) at e))),
    ))

pub decimal_some : (n : ℕ) → n < room → 0 < length (decimal n)
decimal_some n fits = (begins n fits).0

pub no_leading_zero : (n : ℕ) → n < room → get_or (decimal n) 0 0 ≡ 48 → n ≡ 0
no_leading_zero n fits = (begins n fits).1

unfoldable pub value_from : ℕ → List ℕ → ℕ
value_from begun [] = begun
value_from begun (b ∷ word) = value_from (begun * 10 + (b - 48)) word

abbrev pub value : List ℕ → ℕ
value word = value_from 0 word

value_joined : (begun : ℕ) (word more : List ℕ) → value_from begun (word ++ more) ≡ value_from (value_from begun word) more
unfolding value_from
value_joined begun [] more = refl
value_joined begun (b ∷ word) more = value_joined (begun * 10 + (b - 48)) word more

value_from_grows : (begun : ℕ) (more : List ℕ) → begun ≤ value_from begun more
unfolding value_from
value_from_grows begun [] = omega arith
value_from_grows begun (b ∷ more) = omega (arith, value_from_grows (begun * 10 + (b - 48)) more)

value_grows : (word more : List ℕ) → value word ≤ value (word ++ more)
value_grows word more = rw (value_joined 0 word more) (value_from_grows (value word) more)

value_decimal : (n : ℕ) → n < room → value (decimal n) ≡ n
unfolding value_from
value_decimal =
    by_digits (λ n word. value word ≡ n) (λ d small. omega arith)
    (λ n d front small some is. value_joined 0 front (digit d ∷ []) ∙ rw is (omega arith))

same_number : (n m : ℕ) → n < room → m < room → decimal n ≡ decimal m → n ≡ m
same_number n m small fits e = sym (value_decimal n small) ∙ ap value e ∙ value_decimal m fits

pub value_one_more : (n d : ℕ) → n < room → value (decimal n ++ (digit d ∷ [])) ≡ n * 10 + d
unfolding value_from
value_one_more n d fits = value_joined 0 (decimal n) (digit d ∷ []) ∙ rw (value_decimal n fits) (omega arith)

pub same_decimal : (n m : ℕ) → n < room → m < room → {end ending : ℕ} {rest left : List ℕ} → (IsDigit ending → ⊥) → (IsDigit end → ⊥) →
    decimal n ++ (end ∷ rest) ≡ decimal m ++ (ending ∷ left) → (n ≡ m) × (end ≡ ending) × (rest ≡ left)
same_decimal n m small fits stops ends e =
    let word = same_word IsDigit (decimal n) (decimal m) (decimal_digits n small) (decimal_digits m fits) ends stops e in
    (same_number n m small fits word.0, word.1, word.2)

pub begun_decimal : (word : List ℕ) (m : ℕ) → AllOf IsDigit word → m < room → {ending : ℕ} {rest left : List ℕ} → (IsDigit ending → ⊥) →
    word ++ rest ≡ decimal m ++ (ending ∷ left) → (value word ≤ m) × (more : List ℕ) × (rest ≡ more ++ (ending ∷ left))
begun_decimal word m digits fits stops e =
    let front = word_at_front IsDigit word (decimal m) digits stops e in
    let longer : value word ≤ value (decimal m) = rw front.1 (value_grows word front.0) in
    (omega (arith, longer, value_decimal m fits), front.0, front.2)
