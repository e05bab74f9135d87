-- A test of some element of a list or of all, the elements that pass, a sum over a list, and consecutive numbers. Assumes nothing.
use Rattle.std.specs.Prelude.{ℕ, zero, suc, ◌+◌, List, [], ◌∷◌, Bool, true, false, ◌&&◌, ◌||◌, cond}

-- some element passes
abbrev pub any : {A : Type 0} → (A → Bool) → List A → Bool
any test [] = false
any test (x ∷ xs) = test x || any test xs

-- every element passes
abbrev pub all : {A : Type 0} → (A → Bool) → List A → Bool
all test [] = true
all test (x ∷ xs) = test x && all test xs

-- those elements that pass, in their order
abbrev pub those : {A : Type 0} → (A → Bool) → List A → List A
those test [] = []
those test (x ∷ xs) = cond (test x) (x ∷ those test xs) (those test xs)

-- the sum of a number for each element
abbrev pub sum : {A : Type 0} → (A → ℕ) → List A → ℕ
sum number [] = 0
sum number (x ∷ xs) = number x + sum number xs

-- so many consecutive numbers, from the first on
abbrev pub run : ℕ → ℕ → List ℕ
run first zero = []
run first (suc many) = first ∷ run (suc first) many

-- the numbers below n, rising
abbrev pub below : ℕ → List ℕ
below n = run 0 n
