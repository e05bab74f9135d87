-- The sizes of a segment, by going over their list: whole bytes, so that each segment's bits are whole bytes. Assumes nothing.
--   OneOf                      a number is one of a list's, the first or one of those after it
--   listed_is_fit, other_is_unfit    a size is fit where it is one of the list, and unfit otherwise
--   each_size                  every size is a multiple of 8, at least 8 and at most the longest segment
--   Eighths, in_eighths        a size that is not unfit, as so many times 8
--   starts_on_a_byte           so each segment starts on a byte
use Prim.Native.Nat.{ℕ, ◌*◌, ◌/◌, ◌%◌, ◌≤◌, ◌<◌}
use native.Mathlib.Omega.{arith}
use native.Mathlib.Nat.{mul_left_comm}
use mathlib.Core.Path.{◌≡◌, refl, ap, ◌∙◌}
use mathlib.Core.Logic.{◌⊎◌, inl, inr}
use mathlib.Core.List.{List, [], ◌∷◌}
use mathlib.Core.Bool.{Bool, true, false, ◌&&◌}
use borrow.Author.Tests.{eqb-true, eq-eqb, ne_eqb, ltb-true, leb-true, not-false}
use lib.Dec.{T, eqb, ltb, leb}
use Rattle.limits.specs.Limits.{longest_segment}
use Rattle.basis.specs.Lists.{any}
use Rattle.basis.proofs.Truth.{holds, passes, both, nor}
use Rattle.basis.proofs.Passing.{left_passes, right_passes}
use Rattle.basis.proofs.Members.{◌∈◌, any_gives, all_gives}
use Rattle.asking.specs.Sizes.{sizes, unfit_size}

abbrev pub OneOf : ℕ → List ℕ → Type 0
OneOf n [] = ⊥
OneOf n (m ∷ []) = n ≡ m
OneOf n (m ∷ (next ∷ more)) = (n ≡ m) ⊎ OneOf n (next ∷ more)

listed : (n : ℕ) (list : List ℕ) → OneOf n list → T (any (eqb n) list)
listed n [] is = absurd is
listed n (m ∷ []) is = left_passes (eqb n m) false (passes (eqb n m) (eq-eqb n m is))
listed n (m ∷ (next ∷ more)) (inl is) = left_passes (eqb n m) (any (eqb n) (next ∷ more)) (passes (eqb n m) (eq-eqb n m is))
listed n (m ∷ (next ∷ more)) (inr is) = right_passes (eqb n m) (any (eqb n) (next ∷ more)) (listed n (next ∷ more) is)

unlisted : (n : ℕ) (list : List ℕ) → (OneOf n list → ⊥) → any (eqb n) list ≡ false
unlisted n [] not-one = refl
unlisted n (m ∷ []) not-one = nor (eqb n m) false (ne_eqb n m not-one) refl
unlisted n (m ∷ (next ∷ more)) not-one =
    nor (eqb n m) (any (eqb n) (next ∷ more)) (ne_eqb n m (λ e. not-one (inl e))) (unlisted n (next ∷ more) (λ e. not-one (inr e)))

pub listed_is_fit : (size : ℕ) → OneOf size sizes → unfit_size size ≡ false
unfolding unfit_size
listed_is_fit size is = rw (holds (any (eqb size) sizes) (listed size sizes is))

pub other_is_unfit : (size : ℕ) → (OneOf size sizes → ⊥) → unfit_size size ≡ true
unfolding unfit_size
other_is_unfit size is-not = rw (unlisted size sizes is-not)

-- whole bytes, at least one, and no more than the longest segment has
abbrev whole_bytes : ℕ → Bool
whole_bytes size = ltb 0 size && (eqb (size % 8) 0 && leb size longest_segment)

pub each_size : (size : ℕ) → size ∈ sizes → (0 < size) × (size % 8 ≡ 0) × (size ≤ longest_segment)
each_size size m =
    let parts = both (ltb 0 size) _ (all_gives whole_bytes {xs = sizes} m tt) in
    let rest = both (eqb (size % 8) 0) (leb size longest_segment) parts.1 in (
      ltb-true 0 size (holds _ parts.0),
      eqb-true (size % 8) 0 (holds _ rest.0),
      leb-true size longest_segment (holds _ rest.1),
    )

pub record Eighths (size : ℕ) : Type 0 where
  pub eighths : ℕ
  pub whole : size ≡ 8 * eighths
  pub some : 0 < size
  pub most : size ≤ longest_segment

pub in_eighths : (size : ℕ) → unfit_size size ≡ false → Eighths size
unfolding unfit_size
in_eighths size fit =
    let one = any_gives (eqb size) sizes (passes (any (eqb size) sizes) (not-false _ fit)) in
    let same = eqb-true size one.0 (holds _ one.2) in
    let known = each_size one.0 one.1 in
    record {
      eighths = size / 8;
      whole = omega (arith, same, known.1);
      some = omega (arith, same, known.0);
      most = omega (arith, same, known.2);
    }

pub starts_on_a_byte : (size : ℕ) (whole : Eighths size) (i : ℕ) → i * size ≡ 8 * (i * whole.eighths)
starts_on_a_byte size whole i =
    ap (λ (n : ℕ). i * n) whole.whole ∙ mul_left_comm i 8 whole.eighths
