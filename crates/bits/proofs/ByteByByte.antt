-- The marked rows, byte by byte. Assumes nothing.
--   run_moved         consecutive numbers, moved
--   bit_of_byte       the bit of a row is one of its byte
--   one_more_byte     the rows of one byte more are the places of its set bits, moved to where the byte stands
--   one_more_counted  and so many more
--   no_fewer          below more rows, no fewer are marked
--   next_fits         where all fit into a buffer, so do those of one byte more
--   none_past_last    where no bit past the last row is set, the marked rows are those of all bytes
use Prim.Native.Nat.{ℕ, zero, suc, ◌+◌, ◌-◌, ◌*◌, ◌/◌, ◌%◌, ◌≤◌, ◌<◌}
use native.Mathlib.Omega.{arith}
use mathlib.Core.Path.{◌≡◌, refl, sym, ap, ◌∙◌}
use mathlib.Core.Logic.{◌⊎◌, inl, inr}
use mathlib.Core.List.{List, ◌∷◌, ◌++◌, map, append-nil}
use mathlib.Core.Bool.{true, false, cond}
use lib.ListN.{length, get_or, length-append, length-map}
use Rattle.basis.specs.Lists.{those, run, below}
use Rattle.basis.proofs.Truth.{either, passes}
use Rattle.basis.proofs.Lists.{sum_grows}
use Rattle.basis.proofs.Members.{◌∈◌, any_from}
use Rattle.basis.proofs.Runs.{in_below, run_joined}
use Rattle.basis.proofs.Those.{those_joined, those_mapped, those_same, those_none, length_those}
use Rattle.bits.specs.Bits.{bytes_for, bit_in}
use Rattle.bits.specs.SetBits.{is_set, places_in, places_of}
use Rattle.bits.specs.Marked.{marked, marked_below, marked_past}

pub run_moved : (by first many : ℕ) → run (by + first) many ≡ map (λ k. by + k) (run first many)
run_moved by first zero = refl
run_moved by first (suc many) =
    let next : suc (by + first) ≡ by + suc first = omega arith in
    ap (λ rest. (by + first) ∷ rest) (rw next (run_moved by (suc first) many))

pub bit_of_byte : (bits : List ℕ) (i k : ℕ) → k < 8 → marked bits (8 * i + k) ≡ is_set (get_or bits i 0) k
unfolding bit_in
bit_of_byte bits i k h =
    let byte : (8 * i + k) / 8 ≡ i = omega arith in
    let place : (8 * i + k) % 8 ≡ k = omega arith in
    rw (byte, place)

-- the marked rows of one byte
of_one_byte : (bits : List ℕ) (i : ℕ) → those (marked bits) (run (8 * i + 0) 8) ≡ map (λ p. 8 * i + p) (places_of (get_or bits i 0))
unfolding places_in
of_one_byte bits i =
    ap (those (marked bits)) (run_moved (8 * i) 0 8)
    ∙ those_mapped (marked bits) (λ k. 8 * i + k) (below 8)
    ∙ ap (map (λ p. 8 * i + p))
    (those_same (λ k. marked bits (8 * i + k)) (is_set (get_or bits i 0)) (below 8) (λ k m. bit_of_byte bits i k (in_below 8 k m)))

pub one_more_byte : (bits : List ℕ) (i : ℕ) →
    marked_below (8 * (i + 1)) bits ≡ marked_below (8 * i) bits ++ map (λ p. 8 * i + p) (places_of (get_or bits i 0))
unfolding marked_below
one_more_byte bits i =
    let more : 8 * (i + 1) ≡ 8 * i + 8 = omega arith in
    let first : 0 + 8 * i ≡ 8 * i + 0 = omega arith in
    ap (λ (n : ℕ). those (marked bits) (below n)) more
    ∙ ap (those (marked bits)) (sym (run_joined 0 (8 * i) 8))
    ∙ those_joined (marked bits) (below (8 * i)) (run (0 + 8 * i) 8)
    ∙ ap (λ (n : ℕ). those (marked bits) (below (8 * i)) ++ those (marked bits) (run n 8)) first
    ∙ ap (λ (rows : List ℕ). those (marked bits) (below (8 * i)) ++ rows) (of_one_byte bits i)

pub one_more_counted : (bits : List ℕ) (i : ℕ) →
    length (marked_below (8 * (i + 1)) bits) ≡ length (marked_below (8 * i) bits) + length (places_of (get_or bits i 0))
one_more_counted bits i =
    rw (one_more_byte bits i, length-append, length-map (places_of (get_or bits i 0)) (λ p. 8 * i + p))

pub no_fewer : (bits : List ℕ) {few many : ℕ} → few ≤ many → length (marked_below few bits) ≤ length (marked_below many bits)
unfolding marked_below
no_fewer bits {few} {many} h =
    rw (length_those (marked bits) (below few), length_those (marked bits) (below many))
    (sum_grows (λ row. cond (marked bits row) 1 0) h)

pub next_fits : (bits : List ℕ) (room i : ℕ) → i < length bits → length (marked_below (8 * length bits) bits) ≤ room →
    length (marked_below (8 * i) bits) + length (places_of (get_or bits i 0)) ≤ room
next_fits bits room i inside fit =
    let more : 8 * (i + 1) ≤ 8 * length bits = omega arith in
    omega (arith, one_more_counted bits i, no_fewer bits more)

pub none_past_last : (rows : ℕ) (bits : List ℕ) → marked_past rows bits ≡ false →
    marked_below (8 * bytes_for rows) bits ≡ marked_below rows bits
unfolding marked_below marked_past bytes_for
none_past_last rows bits none =
    let past = 8 * bytes_for rows - rows in
    let whole : 8 * bytes_for rows ≡ rows + past = omega arith in
    let first : 0 + rows ≡ rows = omega arith in
    let fails : (row : ℕ) → row ∈ run rows past → marked bits row ≡ false = λ row m. unmarked row m (either (marked bits row)) in
    ap (λ (n : ℕ). those (marked bits) (below n)) whole
    ∙ ap (those (marked bits)) (sym (run_joined 0 rows past))
    ∙ those_joined (marked bits) (below rows) (run (0 + rows) past)
    ∙ ap (λ (n : ℕ). those (marked bits) (below rows) ++ those (marked bits) (run n past)) first
    ∙ ap (λ (list : List ℕ). those (marked bits) (below rows) ++ list) (those_none (marked bits) (run rows past) fails)
    ∙ append-nil (those (marked bits) (below rows))
  where
    unmarked : (row : ℕ) → row ∈ run rows (8 * bytes_for rows - rows) → (marked bits row ≡ true) ⊎ (marked bits row ≡ false) →
        marked bits row ≡ false
    unmarked row m (inl is) =
        absurd (rw none at (any_from (marked bits) m (passes (marked bits row) is)))
    unmarked row m (inr is) = is
