-- The lowest place: every refusal that carries a place reports the first at which its test holds. Assumes nothing.
use Rattle.std.specs.Prelude.{ℕ, zero, suc, Bool, cond, ltb, Option, Some, None}

-- the first of the places 0, 1, .. n - 1 at which the test holds; n where it holds at none of them
unfoldable pub first_place : (ℕ → Bool) → ℕ → ℕ
first_place test zero = 0
first_place test (suc n) = cond (test 0) 0 (suc (first_place (λ place. test (suc place)) n))

-- that place, where it is one of the n; nothing where the test holds at none of them
unfoldable pub first_found : (ℕ → Bool) → ℕ → Option ℕ
first_found test n = cond (ltb (first_place test n) n) (Some (first_place test n)) None
