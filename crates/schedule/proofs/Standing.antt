-- How a row stands to a test from slice to slice, and what is ruled out stays so. Assumes nothing.
--   standing_next              one slice more, while there is one
--   standing_past, standing_at_end    after the last slice a standing stays
--   settled_next, settled_stays       a standing that is not equal so far stays
--   ruled_out_next, ruled_out_stays   a row that is ruled out stays so
--   none_ruled_out_at_first    before the first slice no row is ruled out, where every test has a slice
--   ruled_out_is_not_found     a row that is ever ruled out is not found
use Prim.Native.Nat.{ℕ, suc, ◌≤◌, ◌<◌, max}
use native.Mathlib.Omega.{arith}
use mathlib.Core.Path.{◌≡◌, refl, ◌∙◌}
use mathlib.Core.Logic.{◌⊎◌, inl, inr}
use mathlib.Core.List.{List}
use mathlib.Core.Bool.{not}
use lib.Dec.{T, T_not, not_T}
use borrow.Author.Tests.{lt-ltb, le-ltb}
use Rattle.basis.proofs.Members.{◌∈◌, any_gives, any_makes, all_gives}
use Rattle.basis.proofs.Runs.{within_or_past, onwards}
use Rattle.schedule.specs.Machine.{Machine, Lawful}
use Rattle.schedule.specs.Schedule.{Bytes, standing, ruled_out, found}

module _ {Test : Type 0} (M : Machine Test) (R : Bytes Test) where
  pub standing_next : (t : Test) (j row : ℕ) → j < M.slices t →
      standing M R t (suc j) row ≡ M.next t j (standing M R t j row) (R t j row)
  unfolding standing
  standing_next t j row within = rw (lt-ltb j (M.slices t) within)

  pub standing_past : (t : Test) (j row : ℕ) → M.slices t ≤ j → standing M R t (suc j) row ≡ standing M R t j row
  unfolding standing
  standing_past t j row past = rw (le-ltb j (M.slices t) past)

  pub standing_at_end : (t : Test) (j row : ℕ) → M.slices t ≤ j → standing M R t j row ≡ standing M R t (M.slices t) row
  standing_at_end t j row past =
      onwards (λ i. standing M R t i row ≡ standing M R t (M.slices t) row) past
      (λ i over same. standing_past t i row over ∙ same)
      refl

module _ {Test : Type 0} (M : Machine Test) (L : Lawful M) (R : Bytes Test) where
  pub settled_next : (t : Test) (j row : ℕ) → T (not (M.equal t (standing M R t j row))) →
      standing M R t (suc j) row ≡ standing M R t j row
  settled_next t j row differs = go (within_or_past j (M.slices t))
    where
      go : (j < M.slices t) ⊎ (M.slices t ≤ j) → standing M R t (suc j) row ≡ standing M R t j row
      go (inl within) = standing_next M R t j row within ∙ L.settled t j (standing M R t j row) (R t j row) differs
      go (inr past) = standing_past M R t j row past

  pub settled_stays : (t : Test) {j k : ℕ} → j ≤ k → (row : ℕ) → T (not (M.equal t (standing M R t j row))) →
      standing M R t k row ≡ standing M R t j row
  settled_stays t {j} later row differs =
      onwards (λ i. standing M R t i row ≡ standing M R t j row) later
      (λ i over same. settled_next t i row (rw same differs) ∙ same)
      refl

  -- one test rules out what it has ruled out
  out_next : (t : Test) (j row : ℕ) → T (M.rules_out t j (standing M R t j row)) →
      T (M.rules_out t (suc j) (standing M R t (suc j) row))
  out_next t j row out = go (within_or_past j (M.slices t))
    where
      go : (j < M.slices t) ⊎ (M.slices t ≤ j) → T (M.rules_out t (suc j) (standing M R t (suc j) row))
      go (inl within) =
          rw (standing_next M R t j row within) (L.stays_out t j (standing M R t j row) (R t j row) within out)
      go (inr past) = rw (standing_past M R t j row past) (L.stays_out_past t j (standing M R t j row) past out)

  pub ruled_out_next : (q : List Test) (j row : ℕ) → T (ruled_out M R q j row) → T (ruled_out M R q (suc j) row)
  unfolding ruled_out
  ruled_out_next q j row = any_makes _ _ q (λ t m. out_next t j row)

  pub ruled_out_stays : (q : List Test) {j k : ℕ} → j ≤ k → (row : ℕ) → T (ruled_out M R q j row) → T (ruled_out M R q k row)
  ruled_out_stays q later row = onwards (λ i. T (ruled_out M R q i row)) later (λ i over. ruled_out_next q i row)

  pub none_ruled_out_at_first : (q : List Test) → ((t : Test) → t ∈ q → 0 < M.slices t) → (row : ℕ) →
      T (not (ruled_out M R q 0 row))
  unfolding ruled_out standing
  none_ruled_out_at_first q sliced row =
      not_T (ruled_out M R q 0 row)
      (λ out.
      let by = any_gives (λ t. M.rules_out t 0 (M.start t)) q out in
      T_not (M.rules_out by.0 0 (M.start by.0)) (L.starts_in by.0 (sliced by.0 by.1)) by.2)

  -- of what a test rules out at any time it is not true at its end
  out_is_not_true : (t : Test) (j row : ℕ) → T (M.rules_out t j (standing M R t j row)) →
      T (not (M.holds t (standing M R t (M.slices t) row)))
  out_is_not_true t j row out =
      let k = max j (M.slices t) in
      let out-then : T (M.rules_out t k (standing M R t k row)) =
      onwards (λ i. T (M.rules_out t i (standing M R t i row))) {from = j} {to = k} (omega arith) (λ i over. out_next t i row) out in
      rw (← standing_at_end M R t k row (omega arith)) (L.out_is_not_found t k (standing M R t k row) (omega arith) out-then)

  pub ruled_out_is_not_found : (q : List Test) (j row : ℕ) → T (ruled_out M R q j row) → T (not (found M R q row))
  unfolding ruled_out found
  ruled_out_is_not_found q j row out =
      let by = any_gives (λ t. M.rules_out t j (standing M R t j row)) q out in
      not_T (found M R q row)
      (λ every.
      T_not (M.holds by.0 (standing M R by.0 (M.slices by.0) row)) (out_is_not_true by.0 j row by.2)
      (all_gives (λ t. M.holds t (standing M R t (M.slices t) row)) by.1 every))
