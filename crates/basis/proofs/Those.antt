-- The elements of a list that pass a test. Assumes nothing.
--   those_joined      of two lists joined: those of the first, then those of the second
--   those_mapped      of a mapped list: those whose images pass, mapped
--   those_same        tests that agree on each member pick the same elements
--   those_none        where no member passes there are none
--   length_those      there are as many as the sum of 1 for each that passes
--   in_those          a member of them is a member of the list that passes
--   those_hold        a member of the list that passes is one of them
use Prim.Native.Nat.{◌+◌}
use native.Mathlib.Omega.{arith}
use mathlib.Core.Path.{◌≡◌, refl}
use mathlib.Core.Logic.{◌⊎◌, inl, inr}
use mathlib.Core.List.Memᴰ
use mathlib.Core.List.{List, [], ◌∷◌, ◌++◌, map}
use mathlib.Core.Bool.{Bool, true, false, cond}
use lib.ListN.{length}
use Rattle.basis.specs.Lists.{those, sum}
use Rattle.basis.proofs.Members.{◌∈◌}

-- a choice of one element more, before others
more_joined : {A : Type 0} (b : Bool) (x : A) (xs ys : List A) → cond b (x ∷ (xs ++ ys)) (xs ++ ys) ≡ cond b (x ∷ xs) xs ++ ys
more_joined true x xs ys = refl
more_joined false x xs ys = refl

more_mapped : {A B : Type 0} (f : A → B) (b : Bool) (x : A) (xs : List A) → cond b (f x ∷ map f xs) (map f xs) ≡ map f (cond b (x ∷ xs) xs)
more_mapped f true x xs = refl
more_mapped f false x xs = refl

more_counted : {A : Type 0} (b : Bool) (x : A) (xs : List A) → length (cond b (x ∷ xs) xs) ≡ cond b 1 0 + length xs
more_counted true x xs = omega arith
more_counted false x xs = omega arith

pub those_joined : {A : Type 0} (test : A → Bool) (xs ys : List A) → those test (xs ++ ys) ≡ those test xs ++ those test ys
those_joined test [] ys = refl
those_joined test (x ∷ xs) ys = rw (those_joined test xs ys) (more_joined (test x) x (those test xs) (those test ys))

pub those_mapped : {A B : Type 0} (test : B → Bool) (f : A → B) (xs : List A) → those test (map f xs) ≡ map f (those (λ x. test (f x)) xs)
those_mapped test f [] = refl
those_mapped test f (x ∷ xs) = rw (those_mapped test f xs) (more_mapped f (test (f x)) x (those (λ y. test (f y)) xs))

pub those_same : {A : Type 0} (test other : A → Bool) (xs : List A) → ((x : A) → x ∈ xs → test x ≡ other x) →
    those test xs ≡ those other xs
those_same test other [] same = refl
those_same test other (x ∷ xs) same =
    rw (same x (Memᴰ.head refl), those_same test other xs (λ y m. same y (Memᴰ.tail m)))

pub those_none : {A : Type 0} (test : A → Bool) (xs : List A) → ((x : A) → x ∈ xs → test x ≡ false) → those test xs ≡ []
those_none test [] fails = refl
those_none test (x ∷ xs) fails =
    rw (fails x (Memᴰ.head refl)) (those_none test xs (λ y m. fails y (Memᴰ.tail m)))

pub length_those : {A : Type 0} (test : A → Bool) (xs : List A) → length (those test xs) ≡ sum (λ x. cond (test x) 1 0) xs
length_those test [] = refl
length_those test (x ∷ xs) = rw (more_counted (test x) x (those test xs), length_those test xs)

-- a member of a list with perhaps one element more in front
more_in : {A : Type 0} (b : Bool) (x : A) {y : A} {xs : List A} → y ∈ xs → y ∈ cond b (x ∷ xs) xs
more_in true x m = Memᴰ.tail m
more_in false x m = m

in_more : {A : Type 0} (b : Bool) (x : A) {y : A} {xs : List A} → y ∈ cond b (x ∷ xs) xs → ((y ≡ x) × (b ≡ true)) ⊎ (y ∈ xs)
in_more {A} true x {y} {xs} m = go (Memᴰ.cases_cons m)
  where
    go : (y ≡ x) ⊎ (y ∈ xs) → ((y ≡ x) × (true ≡ true)) ⊎ (y ∈ xs)
    go (inl e) = inl (e, refl)
    go (inr m) = inr m
in_more false x m = inr m

pub in_those : {A : Type 0} (test : A → Bool) (xs : List A) {y : A} → y ∈ those test xs → (y ∈ xs) × (test y ≡ true)
in_those test [] m = absurd (Memᴰ.not-nil m)
in_those test (x ∷ xs) {y} m = go (in_more (test x) x m) (in_those test xs)
  where
    go : ((y ≡ x) × (test x ≡ true)) ⊎ (y ∈ those test xs) → (y ∈ those test xs → (y ∈ xs) × (test y ≡ true)) →
        (y ∈ (x ∷ xs)) × (test y ≡ true)
    go (inl here) rest = (Memᴰ.head here.0, rw here.0 here.1)
    go (inr later) rest = let found = rest later in (Memᴰ.tail found.0, found.1)

pub those_hold : {A : Type 0} (test : A → Bool) {y : A} {xs : List A} → y ∈ xs → test y ≡ true → y ∈ those test xs
those_hold test (Memᴰ.head {x = x} {xs = xs} e) passes = rw (rw e at passes) (Memᴰ.head e)
those_hold test (Memᴰ.tail {x = x} {xs = xs} m) passes = more_in (test x) x (those_hold test m passes)
