-- Lists made of something for each number or for each element. Assumes nothing.
--   made_of_each   what is made of each number below a list's length is the list, if it is its elements
--   map_same       what is made alike of each element of a list is the same
use Prim.Native.Nat.{ℕ, suc, ◌<◌}
use native.Mathlib.Omega.{arith}
use mathlib.Core.Path.{◌≡◌, refl, sym, ap₂, ◌∙◌}
use mathlib.Core.List.{List, [], ◌∷◌, map}
use lib.ListN.{length, get_or, length-map}
use lib.Seq.{ext_get_or}
use Rattle.basis.specs.Lists.{below}
use Rattle.basis.proofs.Lists.{length_run}
use Rattle.basis.proofs.Runs.{mapped_at}

pub made_of_each : {A : Type 0} (f : ℕ → A) (n : ℕ) (list : List A) (none : A) → length list ≡ n →
    ((i : ℕ) → i < n → f i ≡ get_or list i none) → map f (below n) ≡ list
made_of_each f n list none long each =
    let as_long : length (map f (below n)) ≡ n = length-map (below n) f ∙ length_run 0 n in
    ext_get_or none (map f (below n)) list (as_long ∙ sym long) (λ i h. mapped_at f n i none (omega arith) ∙ each i (omega arith))

pub map_same : {A B : Type 0} (f g : A → B) (list : List A) (none : A) →
    ((i : ℕ) → i < length list → f (get_or list i none) ≡ g (get_or list i none)) → map f list ≡ map g list
map_same f g [] none same = refl
map_same f g (x ∷ list) none same =
    ap₂ ◌∷◌ (same 0 (omega arith)) (map_same f g list none (λ i h. same (suc i) (omega arith)))
