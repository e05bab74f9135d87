-- Sweeps from the front of a buffer, and sweeps after one another. Assumes nothing.
--   swept_from_front   what a sweep from the front on leaves at a place
--   swept_next         a turn of such a sweep
--   swept_alike        the same sweep, by other words for what it stores
--   swept_twice        a sweep after a sweep
--   swept_all_kept     a sweep that leaves everything as it was
--   all_zero           zeros are 0 at every place, and after them too
use Prim.Native.Nat.{ℕ, zero, suc, ◌+◌, ◌<◌}
use native.Mathlib.Omega.{arith}
use native.Mathlib.Nat.{zero-add}
use mathlib.Core.Path.{◌≡◌, refl, ◌∙◌}
use mathlib.Core.List.{List}
use lib.ListN.{length, get_or, set, replicate}
use Rattle.basis.specs.Sweeps.{Swept}
use Rattle.basis.proofs.Sweeps.{swept_one_more, swept_ahead}

-- what a sweep from the front on leaves at a place
pub swept_from_front : {old new : List ℕ} {n : ℕ} {f : ℕ → ℕ} → Swept old new 0 n f → (k : ℕ) → k < n → get_or new k 0 ≡ f k
swept_from_front swept k h = rw zero-add at (swept.inside k h)

-- a turn of a sweep from the front stores the next element, which may be made of what stands there
pub swept_next : {old new : List ℕ} {n value : ℕ} {f : ℕ → ℕ} → Swept old new 0 n f → n < length old →
    (get_or new n 0 ≡ get_or old n 0 → value ≡ f n) → Swept old (set new n value) 0 (n + 1) f
swept_next {old} {new} {n} {value} {f} so_far room same =
    rw zero-add at
    (swept_one_more old new 0 n f value so_far (omega arith) (same (rw zero-add at (swept_ahead old new 0 n f so_far n (omega arith)))))

-- other words for what is stored
pub swept_alike : {old new : List ℕ} {base n : ℕ} {f g : ℕ → ℕ} → Swept old new base n f → ((k : ℕ) → k < n → f k ≡ g k) →
    Swept old new base n g
swept_alike swept same =
    record {
      same_length = swept.same_length;
      inside = λ k h. swept.inside k h ∙ same k h;
      before = swept.before;
      behind = swept.behind;
    }

-- a sweep over what a sweep has left
pub swept_twice : {old between new : List ℕ} {base n : ℕ} {f g : ℕ → ℕ} → Swept old between base n f → Swept between new base n g →
    Swept old new base n g
swept_twice first second =
    record {
      same_length = second.same_length ∙ first.same_length;
      inside = second.inside;
      before = λ k h. second.before k h ∙ first.before k h;
      behind = λ k h. second.behind k h ∙ first.behind k h;
    }

-- nothing is stored where all is as it is to be
pub swept_all_kept : (old : List ℕ) (base n : ℕ) → Swept old old base n (λ k. get_or old (base + k) 0)
swept_all_kept old base n = record { same_length = refl; inside = λ k h. refl; before = λ k h. refl; behind = λ k h. refl }

-- zeros
pub all_zero : (many k : ℕ) → get_or {A = ℕ} (replicate many 0) k 0 ≡ 0
all_zero zero k = refl
all_zero (suc many) zero = refl
all_zero (suc many) (suc k) = all_zero many k
