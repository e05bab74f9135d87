-- Which numbers a run of consecutive numbers holds, how runs join, and where a sum over one ends. Assumes nothing.
--   within_or_past       a number is below a bound, or not
--   onwards              what each step keeps, from a number on, holds at every later number
--   in_run, run_holds    a run holds the numbers from its first on, as many as it says, and no others
--   in_below, below_holds    the same of the numbers below a bound
--   run_joined           a run and the run that follows it are one
--   run_cut              so are the two parts of a run that may end in the first
--   sum_ends             a sum ends where its terms do
--   mapped_at            what stands at a place of a list made from the numbers below a bound
--   taken_by_number      the first elements of a list, by their places
use Prim.Native.Nat.{ℕ, zero, suc, ◌+◌, ◌-◌, ◌≤◌, ◌<◌, min}
use native.Mathlib.Omega.{arith}
use native.Mathlib.Nat.{add-zero, add-suc, zero-add, le_dest, eq-or-lt_of_le}
use mathlib.Core.Path.{◌≡◌, refl, sym, ap, ◌∙◌}
use mathlib.Core.Logic.{◌⊎◌, inl, inr}
use mathlib.Core.List.Memᴰ
use mathlib.Core.List.{List, [], ◌∷◌, ◌++◌, map, append-nil}
use mathlib.Core.Bool.{not}
use lib.Dec.{T, ltb, ltb→lt, nltb→le}
use lib.ListN.{length, get_or, take}
use lib.Seq.{take-suc}
use Rattle.basis.specs.Lists.{sum, run, below}
use Rattle.basis.proofs.Lists.{sum_one_more, map_one_more}
use Rattle.basis.proofs.Passing.{passed_or_failed}
use Rattle.basis.proofs.Members.{◌∈◌}

pub within_or_past : (i n : ℕ) → (i < n) ⊎ (n ≤ i)
within_or_past i n = go (passed_or_failed (ltb i n))
  where
    go : T (ltb i n) ⊎ T (not (ltb i n)) → (i < n) ⊎ (n ≤ i)
    go (inl within) = inl (ltb→lt i n within)
    go (inr past) = inr (nltb→le i n past)

pub onwards : (P : ℕ → Type 0) {from to : ℕ} → from ≤ to → ((i : ℕ) → from ≤ i → P i → P (suc i)) → P from → P to
onwards P {from} h step start = let more = le_dest h in rw (← more.1) (go more.0)
  where
    go : (n : ℕ) → P (from + n)
    go zero = rw add-zero start
    go (suc n) = rw add-suc (step (from + n) (omega arith) (go n))

pub in_run : (first many n : ℕ) → n ∈ run first many → (first ≤ n) × (n < first + many)
in_run first zero n m = absurd (Memᴰ.not-nil m)
in_run first (suc many) n m = go (Memᴰ.cases_cons m) (in_run (suc first) many n)
  where
    go : (n ≡ first) ⊎ (n ∈ run (suc first) many) → (n ∈ run (suc first) many → (suc first ≤ n) × (n < suc first + many)) →
        (first ≤ n) × (n < first + suc many)
    go (inl e) rest = omega arith
    go (inr later) rest = let bounds = rest later in omega arith

pub run_holds : (first many n : ℕ) → first ≤ n → n < first + many → n ∈ run first many
run_holds first zero n low high = absurd (omega arith)
run_holds first (suc many) n low high = go (eq-or-lt_of_le low) (run_holds (suc first) many n)
  where
    go : (first ≡ n) ⊎ (first < n) → (suc first ≤ n → n < suc first + many → n ∈ run (suc first) many) → n ∈ (first ∷ run (suc first) many)
    go (inl e) rest = Memᴰ.head (sym e)
    go (inr later) rest = Memᴰ.tail (rest later (omega arith))

pub in_below : (many n : ℕ) → n ∈ below many → n < many
in_below many n m = let bounds = in_run 0 many n m in omega arith

pub below_holds : (many n : ℕ) → n < many → n ∈ below many
below_holds many n h = run_holds 0 many n (omega arith) (omega arith)

pub run_joined : (first few more : ℕ) → run first few ++ run (first + few) more ≡ run first (few + more)
run_joined first zero more = rw (add-zero, zero-add)
run_joined first (suc few) more =
    let place : first + suc few ≡ suc first + few = omega arith in
    let long : suc few + more ≡ suc (few + more) = omega arith in
    rw (place, long) (ap (λ rest. first ∷ rest) (run_joined (suc first) few more))

pub run_cut : (first few left more : ℕ) →
    run first (min few left) ++ run (first + few) (min more (left - few)) ≡ run first (min (few + more) left)
run_cut first few left more = go (within_or_past few left)
  where
    go : (few < left) ⊎ (left ≤ few) →
        run first (min few left) ++ run (first + few) (min more (left - few)) ≡ run first (min (few + more) left)
    go (inl reaches) =
        let front : min few left ≡ few = omega arith in
        let whole : few + min more (left - few) ≡ min (few + more) left = omega arith in
        rw (front, run_joined first few (min more (left - few)), whole)
    go (inr ends) =
        let front : min few left ≡ left = omega arith in
        let none : min more (left - few) ≡ 0 = omega arith in
        let whole : min (few + more) left ≡ left = omega arith in
        rw (front, none, whole, append-nil)

pub sum_ends : (f : ℕ → ℕ) {few many : ℕ} → few ≤ many → ((i : ℕ) → few ≤ i → f i ≡ 0) → sum f (below many) ≡ sum f (below few)
sum_ends f {few} h ends =
    onwards (λ n. sum f (below n) ≡ sum f (below few)) h (λ i over same. omega (arith, sum_one_more f i, ends i over)) refl

mapped_run_at : {A : Type 0} (f : ℕ → A) (first many i : ℕ) (d : A) → i < many → get_or (map f (run first many)) i d ≡ f (first + i)
mapped_run_at f first zero i d h = absurd (omega arith)
mapped_run_at f first (suc many) zero d h = ap f (sym (add-zero first))
mapped_run_at f first (suc many) (suc i) d h =
    mapped_run_at f (suc first) many i d (omega arith) ∙ ap f (omega arith)

pub mapped_at : {A : Type 0} (f : ℕ → A) (many i : ℕ) (d : A) → i < many → get_or (map f (below many)) i d ≡ f i
mapped_at f many i d h = mapped_run_at f 0 many i d h ∙ ap f (zero-add i)

pub taken_by_number : {A : Type 0} (xs : List A) (n : ℕ) (d : A) → n ≤ length xs → take n xs ≡ map (λ i. get_or xs i d) (below n)
taken_by_number xs zero d h = refl
taken_by_number {A} xs (suc n) d h =
    take-suc xs n d h
    ∙ ap (λ (front : List A). front ++ (get_or xs n d ∷ [])) (taken_by_number xs n d (omega arith))
    ∙ sym (map_one_more (λ i. get_or xs i d) n)
