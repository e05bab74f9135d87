-- `replies::refused_reply` meets its contract: the refusal's numbers stand in front of zeros. Assumes nothing.
use Prim.Native.Nat.{ℕ, zero, suc, ◌-◌, ◌≤◌}
use native.Mathlib.Omega.{arith}
use mathlib.Core.Path.{◌≡◌, refl}
use mathlib.Core.List.{List, ◌∷◌}
use lib.ListN.{set, replicate}
use Rattle.replies.proofs.refused_reply.Goals as goal

three_in_front : (n a b d : ℕ) → 3 ≤ n → set (set (set (replicate n 0) 0 a) 1 b) 2 d ≡ a ∷ b ∷ d ∷ replicate (n - 3) 0
three_in_front zero a b d h = absurd (omega arith)
three_in_front (suc zero) a b d h = absurd (omega arith)
three_in_front (suc (suc zero)) a b d h = absurd (omega arith)
three_in_front (suc (suc (suc n))) a b d h =
    let left : suc (suc (suc n)) - 3 ≡ n = omega arith in
    rw left refl

pub returns : goal.returns
returns g c = rw (c.number.ensures, c.place.ensures, c.need.ensures) (three_in_front g.row.N _ _ _ c.requires)
