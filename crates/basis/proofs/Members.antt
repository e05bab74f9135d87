-- Tests of some or of all members of a list, and sums over them, compared by members. Assumes nothing.
--   _∈_, Within, Reordered    the library's membership and reordering, and every member of one list in another
--   any_gives, any_from       a test of some member passes with a member that passes, and from one
--   all_gives, all_from       a test of all members passes for each, and from each
--   any_within, all_within    over more members: some pass still, all passed before
--   any_makes                 what makes each member pass a second test makes some member pass it
--   sum_each_at_most          terms no greater, no greater a sum
--   sum_each_same             the same terms, the same sum
--   all_each_same, any_each_same    the same tests, the same outcome for all, and for some
--   none_passes               all fail exactly when not some pass
--   any_mapped, all_mapped    a test of a mapped list's members, as one of the members before
--   sum_term                  a term is no greater than the sum
--   sum_gives                 a sum that is not 0 has a term that is not 0
--   sum_times                 a common factor of the terms is one of the sum
--   sum_of_ones               1 for each member sums up to the length
--   sum_mapped, sum_joined    the sum over a mapped list, and over lists joined
--   reordered_within          a reordering keeps every member
--   sum_reordered             and the sum
use Prim.Native.Nat.{ℕ, zero, suc, ◌+◌, ◌*◌, ◌≤◌, ◌<◌}
use native.Mathlib.Omega.{arith}
use native.Mathlib.Nat.{add-le-add, add-mul}
use mathlib.Core.Path.{◌≡◌, refl, ap, ap₂, ◌∙◌}
use mathlib.Core.Logic.{◌⊎◌, inl, inr}
use mathlib.Core.List.Memᴰ
use mathlib.Core.List.{List, [], ◌∷◌, ◌++◌, map, flatten, Memᴰ}
use mathlib.Core.List.{Permᴰ}
use mathlib.Core.Bool.{Bool, true, false, not, ◌&&◌, ◌||◌}
use lib.Dec.{T}
use lib.ListN.{length}
use Rattle.basis.specs.Lists.{any, all, sum}
use Rattle.basis.proofs.Truth.{both}
use Rattle.basis.proofs.Passing.{both_pass, left_passes, right_passes, one_passes}

infix 40 ◌∈◌
abbrev pub ◌∈◌ : {A : Type 0} → A → List A → Type 0
x ∈ xs = Memᴰ x xs

-- every member of the first list is one of the second
abbrev pub Within : {A : Type 0} → List A → List A → Type 0
Within {A} xs ys = (x : A) → x ∈ xs → x ∈ ys

-- the same members as often, in another order
abbrev pub Reordered : {A : Type 0} → List A → List A → Type 0
Reordered xs ys = Permᴰ xs ys

module _ {A : Type 0} (test : A → Bool) where
  pub any_gives : (xs : List A) → T (any test xs) → (x : A) × (x ∈ xs) × T (test x)
  any_gives [] some = absurd some
  any_gives (x ∷ xs) some = go (one_passes (test x) (any test xs) some) (any_gives xs)
    where
      go : T (test x) ⊎ T (any test xs) → (T (any test xs) → (y : A) × (y ∈ xs) × T (test y)) →
          (y : A) × (y ∈ (x ∷ xs)) × T (test y)
      go (inl first) rest = (x, Memᴰ.head refl, first)
      go (inr later) rest = let found = rest later in (found.0, Memᴰ.tail found.1, found.2)

  pub any_from : {x : A} {xs : List A} → x ∈ xs → T (test x) → T (any test xs)
  any_from (Memᴰ.head {x = y} {xs = ys} e) passes = left_passes (test y) (any test ys) (rw e at passes)
  any_from (Memᴰ.tail {x = y} {xs = ys} m) passes = right_passes (test y) (any test ys) (any_from m passes)

  pub all_gives : {x : A} {xs : List A} → x ∈ xs → T (all test xs) → T (test x)
  all_gives (Memᴰ.head {x = y} {xs = ys} e) every = rw e (both (test y) (all test ys) every).0
  all_gives (Memᴰ.tail {x = y} {xs = ys} m) every = all_gives m (both (test y) (all test ys) every).1

  pub all_from : (xs : List A) → ((x : A) → x ∈ xs → T (test x)) → T (all test xs)
  all_from [] each = tt
  all_from (x ∷ xs) each =
      both_pass (test x) (all test xs) (each x (Memᴰ.head refl)) (all_from xs (λ y m. each y (Memᴰ.tail m)))

  pub any_within : (xs ys : List A) → Within xs ys → T (any test xs) → T (any test ys)
  any_within xs ys within some = let found = any_gives xs some in any_from (within found.0 found.1) found.2

  pub all_within : (xs ys : List A) → Within xs ys → T (all test ys) → T (all test xs)
  all_within xs ys within every = all_from xs (λ x m. all_gives (within x m) every)

pub any_makes : {A : Type 0} (test other : A → Bool) (xs : List A) →
    ((x : A) → x ∈ xs → T (test x) → T (other x)) → T (any test xs) → T (any other xs)
any_makes test other xs makes some =
    let found = any_gives test xs some in
    any_from other found.1 (makes found.0 found.1 found.2)

pub sum_each_at_most : {A : Type 0} (f g : A → ℕ) (xs : List A) → ((x : A) → x ∈ xs → f x ≤ g x) → sum f xs ≤ sum g xs
sum_each_at_most f g [] each = omega arith
sum_each_at_most f g (x ∷ xs) each =
    add-le-add (each x (Memᴰ.head refl)) (sum_each_at_most f g xs (λ y m. each y (Memᴰ.tail m)))

pub sum_each_same : {A : Type 0} (f g : A → ℕ) (xs : List A) → ((x : A) → x ∈ xs → f x ≡ g x) → sum f xs ≡ sum g xs
sum_each_same f g [] each = refl
sum_each_same f g (x ∷ xs) each =
    ap₂ ◌+◌ (each x (Memᴰ.head refl)) (sum_each_same f g xs (λ y m. each y (Memᴰ.tail m)))

pub all_each_same : {A : Type 0} (test other : A → Bool) (xs : List A) → ((x : A) → x ∈ xs → test x ≡ other x) →
    all test xs ≡ all other xs
all_each_same test other [] each = refl
all_each_same test other (x ∷ xs) each =
    ap₂ ◌&&◌ (each x (Memᴰ.head refl)) (all_each_same test other xs (λ y m. each y (Memᴰ.tail m)))

pub any_each_same : {A : Type 0} (test other : A → Bool) (xs : List A) → ((x : A) → x ∈ xs → test x ≡ other x) →
    any test xs ≡ any other xs
any_each_same test other [] each = refl
any_each_same test other (x ∷ xs) each =
    ap₂ ◌||◌ (each x (Memᴰ.head refl)) (any_each_same test other xs (λ y m. each y (Memᴰ.tail m)))

not_either : (a b : Bool) → (not a && not b) ≡ not (a || b)
not_either true b = refl
not_either false b = refl

pub none_passes : {A : Type 0} (test : A → Bool) (xs : List A) → all (λ x. not (test x)) xs ≡ not (any test xs)
none_passes test [] = refl
none_passes test (x ∷ xs) = ap (λ (rest : Bool). not (test x) && rest) (none_passes test xs) ∙ not_either (test x) (any test xs)

pub any_mapped : {A B : Type 0} (test : B → Bool) (g : A → B) (xs : List A) → any test (map g xs) ≡ any (λ x. test (g x)) xs
any_mapped test g [] = refl
any_mapped test g (x ∷ xs) = ap (λ (rest : Bool). test (g x) || rest) (any_mapped test g xs)

pub all_mapped : {A B : Type 0} (test : B → Bool) (g : A → B) (xs : List A) → all test (map g xs) ≡ all (λ x. test (g x)) xs
all_mapped test g [] = refl
all_mapped test g (x ∷ xs) = ap (λ (rest : Bool). test (g x) && rest) (all_mapped test g xs)

pub sum_term : {A : Type 0} (f : A → ℕ) {x : A} {xs : List A} → x ∈ xs → f x ≤ sum f xs
sum_term f (Memᴰ.head {x = y} {xs = ys} e) = rw e (omega arith)
sum_term f (Memᴰ.tail {x = y} {xs = ys} m) = omega (arith, sum_term f m)

pub sum_gives : {A : Type 0} (f : A → ℕ) (xs : List A) → 0 < sum f xs → (x : A) × (x ∈ xs) × (0 < f x)
sum_gives f [] some = absurd (omega arith)
sum_gives {A} f (x ∷ xs) some = go (f x) refl (sum_gives f xs)
  where
    go : (first : ℕ) → f x ≡ first → (0 < sum f xs → (y : A) × (y ∈ xs) × (0 < f y)) → (y : A) × (y ∈ (x ∷ xs)) × (0 < f y)
    go zero e rest = let later = rest (omega arith) in (later.0, Memᴰ.tail later.1, later.2)
    go (suc n) e rest = (x, Memᴰ.head refl, omega arith)

pub sum_times : {A : Type 0} (f : A → ℕ) (n : ℕ) (xs : List A) → sum (λ x. f x * n) xs ≡ sum f xs * n
sum_times f n [] = omega arith
sum_times f n (x ∷ xs) = rw (sum_times f n xs, add-mul)

pub sum_of_ones : {A : Type 0} (xs : List A) → sum (λ x. 1) xs ≡ length xs
sum_of_ones [] = refl
sum_of_ones (x ∷ xs) = omega (arith, sum_of_ones xs)

pub sum_mapped : {A B : Type 0} (f : B → ℕ) (g : A → B) (xs : List A) → sum f (map g xs) ≡ sum (λ x. f (g x)) xs
sum_mapped f g [] = refl
sum_mapped f g (x ∷ xs) = ap (λ (rest : ℕ). f (g x) + rest) (sum_mapped f g xs)

sum_append : {A : Type 0} (f : A → ℕ) (xs ys : List A) → sum f (xs ++ ys) ≡ sum f xs + sum f ys
sum_append f [] ys = omega arith
sum_append f (x ∷ xs) ys = omega (arith, sum_append f xs ys)

pub sum_joined : {A : Type 0} (f : A → ℕ) (xss : List (List A)) → sum f (flatten xss) ≡ sum (sum f) xss
unfolding flatten
sum_joined f [] = refl
sum_joined f (xs ∷ xss) = omega (arith, sum_append f xs (flatten xss), sum_joined f xss)

pub reordered_within : {A : Type 0} {xs ys : List A} → Reordered xs ys → Within xs ys
reordered_within Permᴰ.nil x m = m
reordered_within (Permᴰ.cons {a = a} {b = b} {l₁ = us} {l₂ = vs} e p) x m =
    go (Memᴰ.cases_cons m) (reordered_within p x)
  where
    go : (x ≡ a) ⊎ (x ∈ us) → (x ∈ us → x ∈ vs) → x ∈ (b ∷ vs)
    go (inl first) rest = Memᴰ.head (first ∙ e)
    go (inr later) rest = Memᴰ.tail (rest later)
reordered_within (Permᴰ.swap {a = a} {b = b} {a' = c} {b' = d} {l = l} e e') x m = go (Memᴰ.cases_cons m)
  where
    after : (x ≡ b) ⊎ (x ∈ l) → x ∈ (c ∷ d ∷ l)
    after (inl second) = Memᴰ.head (second ∙ e')
    after (inr later) = Memᴰ.tail (Memᴰ.tail later)

    go : (x ≡ a) ⊎ (x ∈ (b ∷ l)) → x ∈ (c ∷ d ∷ l)
    go (inl first) = Memᴰ.tail (Memᴰ.head (first ∙ e))
    go (inr rest) = after (Memᴰ.cases_cons rest)
reordered_within (Permᴰ.trans p r) x m = reordered_within r x (reordered_within p x m)

pub sum_reordered : {A : Type 0} (f : A → ℕ) {xs ys : List A} → Reordered xs ys → sum f xs ≡ sum f ys
sum_reordered f Permᴰ.nil = refl
sum_reordered f (Permᴰ.cons e p) = rw (e, sum_reordered f p)
sum_reordered f (Permᴰ.swap e e') = rw (e, e') (omega arith)
sum_reordered f (Permᴰ.trans p r) = sum_reordered f p ∙ sum_reordered f r
