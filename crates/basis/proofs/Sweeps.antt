-- A loop that sweeps over a buffer from a base on, one store a turn. Assumes nothing.
--   swept_nothing      before the first turn
--   swept_one_more     a turn stores the next element
--   swept_ahead        what is still ahead is as it was
use Prim.Native.Nat.{ℕ, ◌+◌, ◌≤◌, ◌<◌}
use native.Mathlib.Omega.{arith}
use mathlib.Core.Path.{◌≡◌, refl, ◌∙◌}
use mathlib.Core.List.{List}
use borrow.Author.Count.{below_more}
use lib.ListN.{length, get_or, set, length-set}
use lib.Seq.{get_or-set_same, get_or-set_other}
use Rattle.basis.specs.Sweeps.{Swept}

pub swept_nothing : (old : List ℕ) (base : ℕ) (f : ℕ → ℕ) → Swept old old base 0 f
swept_nothing old base f =
    record { same_length = refl; inside = λ k h. absurd (omega arith); before = λ k h. refl; behind = λ k h. refl }

pub swept_one_more : (old new : List ℕ) (base n : ℕ) (f : ℕ → ℕ) (value : ℕ) → Swept old new base n f → base + n < length old →
    value ≡ f n → Swept old (set new (base + n) value) base (n + 1) f
swept_one_more old new base n f value so_far room same =
    let there : base + n < length new = omega (arith, so_far.same_length) in
    record {
      same_length = length-set new (base + n) value ∙ so_far.same_length;
      inside =
          below_more (λ k. get_or (set new (base + n) value) (base + k) 0 ≡ f k) n
          (λ k h. get_or-set_other new (base + n) (base + k) value 0 (omega arith) ∙ so_far.inside k h)
          (get_or-set_same new (base + n) value 0 there ∙ same);
      before = λ k h. get_or-set_other new (base + n) k value 0 (omega arith) ∙ so_far.before k h;
      behind = λ k h. get_or-set_other new (base + n) k value 0 (omega arith) ∙ so_far.behind k (omega arith);
    }

pub swept_ahead : (old new : List ℕ) (base n : ℕ) (f : ℕ → ℕ) → Swept old new base n f → (k : ℕ) → n ≤ k →
    get_or new (base + k) 0 ≡ get_or old (base + k) 0
swept_ahead old new base n f so_far k h = so_far.behind (base + k) (omega arith)
