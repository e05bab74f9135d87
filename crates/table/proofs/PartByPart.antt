-- The lowest place at which a test holds, looked for part by part. Assumes nothing.
--   none_in_part     past a part in which the test holds nowhere, it holds at no place so far
--   found_in_part    the first place of a part at which it holds is the first of all
use Prim.Native.Nat.{ℕ, ◌+◌, ◌-◌, ◌≤◌, ◌<◌}
use native.Mathlib.Omega.{arith}
use mathlib.Core.Path.{◌≡◌, ◌∙◌}
use mathlib.Core.Logic.{◌⊎◌, inl, inr}
use mathlib.Core.Bool.{Bool, false}
use Rattle.std.specs.Prelude.{Some, None}
use Rattle.basis.specs.Places.{first_place, first_found}
use Rattle.basis.proofs.Places.{holds_at_first, none_before_first, found_is, found_at, found_nowhere}
use Rattle.basis.proofs.Runs.{within_or_past}

module _ (test part : ℕ → Bool) (at n : ℕ) (same : (i : ℕ) → i < n → test (at + i) ≡ part i)
    (none : (place : ℕ) → place < at → test place ≡ false) where
  -- up to the first place of the part, or to its end
  none_before : (upto : ℕ) → upto ≤ n → upto ≤ first_place part n → (place : ℕ) → place < at + upto → test place ≡ false
  none_before upto inside early place h = go (within_or_past place at)
    where
      go : (place < at) ⊎ (at ≤ place) → test place ≡ false
      go (inl before) = none place before
      go (inr past) =
          let own : at + (place - at) ≡ place = omega arith in
          rw own at (same (place - at) (omega arith) ∙ none_before_first part n (place - at) (omega arith))

  pub none_in_part : None ≡ first_found part n → (place : ℕ) → place < at + n → test place ≡ false
  none_in_part nowhere = none_before n (omega arith) (found_nowhere part n nowhere)

  pub found_in_part : (all place : ℕ) → at + n ≤ all → Some place ≡ first_found part n → first_found test all ≡ Some (at + place)
  found_in_part all place within found =
      let (first, inside) = found_at part n place found in
      let holds = rw first at (holds_at_first part n (omega arith)) in
      found_is test all (at + place) (omega arith) (same place inside ∙ holds) (none_before place (omega arith) (omega arith))
