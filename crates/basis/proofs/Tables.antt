-- A rule of a table: tested once, by computing it at every entry, it holds at each. Assumes nothing.
--   every_entry      the test passes for each place and the entry there, the places counted from a first on
--   entry_passes    then it passes at any place of the table
use Prim.Native.Nat.{ℕ, zero, suc, ◌+◌, ◌<◌}
use native.Mathlib.Omega.{arith}
use mathlib.Core.Path.{◌≡◌}
use mathlib.Core.List.{List, [], ◌∷◌}
use mathlib.Core.Bool.{Bool, true, ◌&&◌}
use lib.Dec.{T}
use lib.ListN.{length, get_or}
use Rattle.basis.proofs.Truth.{both}

abbrev pub every_entry : {A : Type 0} → (ℕ → A → Bool) → ℕ → List A → Bool
every_entry test first [] = true
every_entry test first (entry ∷ table) = test first entry && every_entry test (suc first) table

-- counted from any first place
passes_from : {A : Type 0} (test : ℕ → A → Bool) (none : A) (first : ℕ) (table : List A) → T (every_entry test first table) →
    (k : ℕ) → k < length table → T (test (first + k) (get_or table k none))
passes_from test none first [] passed k h = absurd (omega arith)
passes_from test none first (entry ∷ table) passed zero h =
    let place : first + 0 ≡ first = omega arith in
    rw place (both (test first entry) (every_entry test (suc first) table) passed).0
passes_from test none first (entry ∷ table) passed (suc k) h =
    let place : first + suc k ≡ suc first + k = omega arith in
    let rest = (both (test first entry) (every_entry test (suc first) table) passed).1 in
    rw place (passes_from test none (suc first) table rest k (omega arith))

pub entry_passes : {A : Type 0} (test : ℕ → A → Bool) (none : A) (table : List A) → T (every_entry test 0 table) →
    (k : ℕ) → k < length table → T (test k (get_or table k none))
entry_passes test none table passed k h =
    let place : 0 + k ≡ k = omega arith in
    rw place at (passes_from test none 0 table passed k h)
