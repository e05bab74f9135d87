-- How the bytes of two codes compare. All comparisons are of whole numbers, so of unsigned bytes. Assumes nothing.
use Prim.Native.Nat.{ℕ, compare, Ordering}
use Rattle.std.specs.Prelude.{List, [], ◌∷◌, cond, ltb}

-- what is known already stands; what is equal so far is left to the rest
abbrev pub and_then : Ordering → Ordering → Ordering
and_then Ordering.lt rest = Ordering.lt
and_then Ordering.eq rest = rest
and_then Ordering.gt rest = Ordering.gt

-- the first byte that differs decides
unfoldable pub order : List ℕ → List ℕ → Ordering
order [] ys = Ordering.eq
order (x ∷ xs) [] = Ordering.eq
order (x ∷ xs) (y ∷ ys) = and_then (compare x y) (order xs ys)

-- a byte against a run of bytes from low to high, which all count as equal
unfoldable pub against : ℕ → ℕ → ℕ → Ordering
against low high b = cond (ltb b low) Ordering.lt (cond (ltb high b) Ordering.gt Ordering.eq)
