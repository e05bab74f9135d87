-- The first place at which a test holds is what its name says. Assumes nothing.
--   first_at_most      it is at most the number of places
--   holds_at_first     the test holds there, if it is one of the places
--   none_before_first  and at no place before
--   first_is           a place at which the test holds, and at none before, is the first
--   first_is_none      where the test holds at no place, the first is past the last
--   found_is, found_none_is    so that place is found, and nothing is
--   found_at, found_nowhere    what is found is the first place; where nothing is, the first is past the last
--   found_in_list              a place in a list that is the first is what is found
use Prim.Native.Nat.{ℕ, zero, suc, ◌≤◌, ◌<◌}
use native.Mathlib.Omega.{arith}
use mathlib.Core.Path.{◌≡◌, refl, sym, ap, ◌∙◌}
use mathlib.Core.List.{List}
use mathlib.Core.Logic.{◌⊎◌, inl, inr}
use mathlib.Core.Bool.{Bool, true, false}
use lib.Dec.{ltb}
use lib.ListN.{length, get_or}
use borrow.Author.Tests.{lt-ltb, le-ltb, ltb-true, ltb-false}
use Rattle.std.specs.Prelude.{Option, Some, None, MatchOption}
use Rattle.std.specs.List.{AllWithin, HoldsAt}
use Rattle.std.proofs.lemmas.Option.{same_Some, none-some}
use Rattle.basis.specs.Places.{first_place, first_found}
use Rattle.basis.proofs.Truth.{either}

-- a step: the first place is 0, or one more than the first among the places after it
hits : (test : ℕ → Bool) (n : ℕ) → test 0 ≡ true → first_place test (suc n) ≡ 0
unfolding first_place
hits test n h = rw h

goes_on : (test : ℕ → Bool) (n : ℕ) → test 0 ≡ false → first_place test (suc n) ≡ suc (first_place (λ place. test (suc place)) n)
unfolding first_place
goes_on test n h = rw h

pub first_at_most : (test : ℕ → Bool) (n : ℕ) → first_place test n ≤ n
unfolding first_place
first_at_most test zero = omega arith
first_at_most test (suc n) = go (either (test 0)) (first_at_most (λ place. test (suc place)) n)
  where
    go : (test 0 ≡ true) ⊎ (test 0 ≡ false) → first_place (λ place. test (suc place)) n ≤ n → first_place test (suc n) ≤ suc n
    go (inl h) rest = rw (hits test n h) (omega arith)
    go (inr h) rest = rw (goes_on test n h) (omega arith)

pub holds_at_first : (test : ℕ → Bool) (n : ℕ) → first_place test n < n → test (first_place test n) ≡ true
holds_at_first test zero h = absurd (omega arith)
holds_at_first test (suc n) h = go (either (test 0)) (holds_at_first (λ place. test (suc place)) n)
  where
    later : ℕ → Bool
    later place = test (suc place)

    go : (test 0 ≡ true) ⊎ (test 0 ≡ false) → (first_place later n < n → later (first_place later n) ≡ true) →
        test (first_place test (suc n)) ≡ true
    go (inl e) rest = rw (hits test n e) e
    go (inr e) rest =
        let step = goes_on test n e in
        rw step (rest (omega arith))

pub none_before_first : (test : ℕ → Bool) (n place : ℕ) → place < first_place test n → test place ≡ false
unfolding first_place
none_before_first test zero place h = absurd (omega arith)
none_before_first test (suc n) place h = go (either (test 0)) place h (none_before_first (λ place. test (suc place)) n)
  where
    later : ℕ → Bool
    later place = test (suc place)

    go : (test 0 ≡ true) ⊎ (test 0 ≡ false) → (place : ℕ) → place < first_place test (suc n) →
        ((place : ℕ) → place < first_place later n → later place ≡ false) → test place ≡ false
    go (inl e) place h rest = let step = hits test n e in absurd (omega arith)
    go (inr e) zero h rest = e
    go (inr e) (suc place) h rest = let step = goes_on test n e in rest place (omega arith)

pub first_is : (test : ℕ → Bool) (n place : ℕ) → place < n → test place ≡ true →
    ((earlier : ℕ) → earlier < place → test earlier ≡ false) → first_place test n ≡ place
first_is test zero place h yes' none = absurd (omega arith)
first_is test (suc n) zero h yes' none = hits test n yes'
first_is test (suc n) (suc place) h yes' none =
    goes_on test n (none 0 (omega arith)) ∙
    ap suc (first_is (λ p. test (suc p)) n place (omega arith) yes' (λ p l. none (suc p) (omega arith)))

pub first_is_none : (test : ℕ → Bool) (n : ℕ) → ((place : ℕ) → place < n → test place ≡ false) → first_place test n ≡ n
unfolding first_place
first_is_none test zero none = refl
first_is_none test (suc n) none =
    goes_on test n (none 0 (omega arith)) ∙ ap suc (first_is_none (λ p. test (suc p)) n (λ p l. none (suc p) (omega arith)))

pub found_is : (test : ℕ → Bool) (n place : ℕ) → place < n → test place ≡ true →
    ((earlier : ℕ) → earlier < place → test earlier ≡ false) → first_found test n ≡ Some place
unfolding first_found
found_is test n place inside yes' none = rw (first_is test n place inside yes' none, lt-ltb place n inside)

pub found_none_is : (test : ℕ → Bool) (n : ℕ) → ((place : ℕ) → place < n → test place ≡ false) → first_found test n ≡ None
unfolding first_found
found_none_is test n none = rw (first_is_none test n none, le-ltb n n (omega arith))

pub found_at : (test : ℕ → Bool) (n place : ℕ) → Some place ≡ first_found test n → (first_place test n ≡ place) × (place < n)
unfolding first_found
found_at test n place found = go (either (ltb (first_place test n) n))
  where
    go : (ltb (first_place test n) n ≡ true) ⊎ (ltb (first_place test n) n ≡ false) → (first_place test n ≡ place) × (place < n)
    go (inl h) =
        let same : first_place test n ≡ place = same_Some _ _ (sym (rw h at found)) in
        (same, omega (arith, ltb-true (first_place test n) n h))
    go (inr h) = absurd (none-some place (sym (rw h at found)))

pub found_nowhere : (test : ℕ → Bool) (n : ℕ) → None ≡ first_found test n → n ≤ first_place test n
unfolding first_found
found_nowhere test n found = go (either (ltb (first_place test n) n))
  where
    go : (ltb (first_place test n) n ≡ true) ⊎ (ltb (first_place test n) n ≡ false) → n ≤ first_place test n
    go (inl h) = absurd (none-some (first_place test n) (rw h at found))
    go (inr h) = ltb-false (first_place test n) n h

pub found_in_list : (p : ℕ → Bool) (xs : List ℕ) (r : Option ℕ) →
    MatchOption r (AllWithin (λ x. p x ≡ false) xs 0 (length xs))
    (λ i. (i < length xs) × HoldsAt (λ x. p x ≡ true) xs i × AllWithin (λ x. p x ≡ false) xs 0 i) →
    r ≡ first_found (λ i. p (get_or xs i 0)) (length xs)
found_in_list p xs None none = sym (found_none_is _ (length xs) (λ k h. none k 0 (omega arith) h))
found_in_list p xs (Some i) (inside, holds, none) =
    sym (found_is _ (length xs) i inside (holds 0) (λ k h. none k 0 (omega arith) h))
