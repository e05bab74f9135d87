-- What `compare` answers on two numbers, from their order and back. Assumes nothing.
--     each_ordering                               what is so of less, of equal and of greater is so of every answer
--     compare_less, compare_same, compare_more    the answer from the fact
--     less_of, same_of, more_of                   the fact from the answer
--     compare_alike                               two pairs in the same order have the same answer
--     compare_shifted, compare_scaled             a common summand and a common factor change nothing
--     compare_digits                              the high digit decides, and where it is the same the rest does
use Prim.Native.Nat.{ℕ, ◌+◌, ◌*◌, ◌<◌, compare, Ordering}
use mathlib.Core.Path.{◌≡◌, refl, sym, ap, ◌∙◌}
use mathlib.Core.Bool.{true, false}
use native.Mathlib.Omega.{arith}
use native.Mathlib.Nat.{mul-le-mul_right, mul-lt-mul_of_pos_right}
use lib.Dec.{is_le, compare_is_eq}
use borrow.Author.Tests.{le-leb, lt-leb, eq-eqb, ne_eqb, leb-true, leb-false, eqb-true, eqb-false}
use Rattle.codes.specs.Order.{and_then}

-- what is so of each answer
pub each_ordering : (P : Ordering → Type 0) → P Ordering.lt → P Ordering.eq → P Ordering.gt → (o : Ordering) → P o
each_ordering P of-less of-equal of-greater Ordering.lt = of-less
each_ordering P of-less of-equal of-greater Ordering.eq = of-equal
each_ordering P of-less of-equal of-greater Ordering.gt = of-greater

-- the answer that passes the test `at most` and fails `equal`
is_less : (o : Ordering) → is_le o ≡ true → compare_is_eq o ≡ false → o ≡ Ordering.lt
is_less Ordering.lt at_most differ = refl
is_less Ordering.eq at_most differ = cc
is_less Ordering.gt at_most differ = cc

-- the answer that passes `equal`
is_same : (o : Ordering) → compare_is_eq o ≡ true → o ≡ Ordering.eq
is_same Ordering.lt equal = cc
is_same Ordering.eq equal = refl
is_same Ordering.gt equal = cc

-- the answer that fails `at most`
is_more : (o : Ordering) → is_le o ≡ false → o ≡ Ordering.gt
is_more Ordering.lt above = cc
is_more Ordering.eq above = cc
is_more Ordering.gt above = refl

-- a lesser number is less
pub compare_less : (a b : ℕ) → a < b → compare a b ≡ Ordering.lt
compare_less a b h = is_less (compare a b) (le-leb a b (omega arith)) (ne_eqb a b (omega arith))

-- a number is the same as itself
pub compare_same : (a : ℕ) → compare a a ≡ Ordering.eq
compare_same a = is_same (compare a a) (eq-eqb a a refl)

-- a greater number is more
pub compare_more : (a b : ℕ) → b < a → compare a b ≡ Ordering.gt
compare_more a b h = is_more (compare a b) (lt-leb a b h)

-- what compares less is less
pub less_of : (a b : ℕ) → compare a b ≡ Ordering.lt → a < b
less_of a b e = omega (arith, leb-true a b (ap is_le e), eqb-false a b (ap compare_is_eq e))

-- what compares the same is equal
pub same_of : (a b : ℕ) → compare a b ≡ Ordering.eq → a ≡ b
same_of a b e = eqb-true a b (ap compare_is_eq e)

-- what compares more is greater
pub more_of : (a b : ℕ) → compare a b ≡ Ordering.gt → b < a
more_of a b e = leb-false a b (ap is_le e)

-- two pairs in the same order have the same answer
compare_alike : (a b c d : ℕ) → (a < b → c < d) → (a ≡ b → c ≡ d) → (b < a → d < c) → compare c d ≡ compare a b
compare_alike a b c d less same more = by (compare a b) refl
  where
    by : (o : Ordering) → compare a b ≡ o → compare c d ≡ o
    by Ordering.lt e = compare_less c d (less (less_of a b e))
    by Ordering.eq e = ap (compare c) (sym (same (same_of a b e))) ∙ compare_same c
    by Ordering.gt e = compare_more c d (more (more_of a b e))

-- a common summand changes nothing
compare_shifted : (u a b : ℕ) → compare (u + a) (u + b) ≡ compare a b
compare_shifted u a b = compare_alike a b (u + a) (u + b) (omega arith) (omega arith) (omega arith)

-- a common factor that is not 0 changes nothing
pub compare_scaled : (u a b : ℕ) → 0 < u → compare (a * u) (b * u) ≡ compare a b
compare_scaled u a b some =
    compare_alike a b (a * u) (b * u)
    (λ less. mul-lt-mul_of_pos_right less some)
    (λ same. ap (λ (x : ℕ). x * u) same)
    (λ more. mul-lt-mul_of_pos_right more some)

-- a lesser digit makes a lesser number, whatever follows
lesser_digit : (unit x y low high : ℕ) → low < unit → x < y → x * unit + low < y * unit + high
lesser_digit unit x y low high h less = omega (arith, mul-le-mul_right unit less)

-- the high digit decides, and where it is the same the rest does
pub compare_digits : (unit x y a b : ℕ) → a < unit → b < unit
    → compare (x * unit + a) (y * unit + b) ≡ and_then (compare x y) (compare a b)
compare_digits unit x y a b a-low b-low = by (compare x y) refl
  where
    by : (o : Ordering) → compare x y ≡ o → compare (x * unit + a) (y * unit + b) ≡ and_then o (compare a b)
    by Ordering.lt e = compare_less _ _ (lesser_digit unit x y a b a-low (less_of x y e))
    by Ordering.eq e = rw (same_of x y e) (compare_shifted (y * unit) a b)
    by Ordering.gt e = compare_more _ _ (lesser_digit unit y x b a b-low (more_of x y e))
