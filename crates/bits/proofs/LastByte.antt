-- The bits past the last row stand in the last byte, from the first unused place on. Assumes nothing.
--   whole_bytes_lem     where the rows fill whole bytes there are no such bits
--   part_of_byte    otherwise one is set exactly when the byte is no less than the weight of the first unused place
use Prim.Native.Nat.{ℕ, ◌+◌, ◌-◌, ◌*◌, ◌/◌, ◌%◌, ◌^◌, ◌<◌}
use native.Mathlib.Omega.{arith}
use mathlib.Core.Path.{◌≡◌, refl, ap, ◌∙◌}
use mathlib.Core.List.{List}
use mathlib.Core.Bool.{Bool, true, false, not, cond}
use lib.Dec.{T, leb}
use lib.ListN.{get_or}
use Rattle.basis.specs.Lists.{any, all, run, below}
use Rattle.basis.proofs.Members.{all_gives, any_mapped, any_each_same}
use Rattle.basis.proofs.Runs.{in_run, below_holds}
use Rattle.bits.specs.Bits.{bytes_for}
use Rattle.bits.specs.SetBits.{is_set}
use Rattle.bits.specs.Marked.{marked, marked_past}
use Rattle.bits.proofs.ByteByByte.{run_moved, bit_of_byte}

pub whole_bytes_lem : (rows : ℕ) (bits : List ℕ) → rows % 8 ≡ 0 → marked_past rows bits ≡ false
unfolding marked_past bytes_for
whole_bytes_lem rows bits full =
    let none : 8 * ((rows + 7) / 8) - rows ≡ 0 = omega arith in
    rw none

-- two tests with one outcome
abbrev alike : Bool → Bool → Bool
alike a b = cond a b (not b)

alike_same : (a b : Bool) → T (alike a b) → a ≡ b
alike_same true true h = refl
alike_same true false h = absurd h
alike_same false true h = absurd h
alike_same false false h = refl

-- a bit from a place on is set exactly when the byte is no less than the place's weight: tried for every byte and place
abbrev from_place : ℕ → ℕ → Bool
from_place byte place = alike (any (is_set byte) (run place (8 - place))) (leb (2 ^ place) byte)

for_every_byte : T (all (λ byte. all (from_place byte) (below 8)) (below 256))
for_every_byte = tt

set_from : (byte place : ℕ) → byte < 256 → place < 8 → any (is_set byte) (run place (8 - place)) ≡ leb (2 ^ place) byte
set_from byte place few here =
    alike_same (any (is_set byte) (run place (8 - place))) (leb (2 ^ place) byte)
    (all_gives (from_place byte) (below_holds 8 place here)
    (all_gives (λ b. all (from_place b) (below 8)) (below_holds 256 byte few) for_every_byte))

pub part_of_byte : (rows : ℕ) (bits : List ℕ) → 0 < rows % 8 → get_or bits (rows / 8) 0 < 256 →
    marked_past rows bits ≡ leb (2 ^ (rows % 8)) (get_or bits (rows / 8) 0)
unfolding marked_past bytes_for
part_of_byte rows bits part few =
    let byte = get_or bits (rows / 8) 0 in
    let used = rows % 8 in
    let left : 8 * ((rows + 7) / 8) - rows ≡ 8 - used = omega arith in
    let first : rows ≡ 8 * (rows / 8) + used = omega arith in
    ap (λ (n : ℕ). any (marked bits) (run rows n)) left
    ∙ ap (λ (n : ℕ). any (marked bits) (run n (8 - used))) first
    ∙ ap (any (marked bits)) (run_moved (8 * (rows / 8)) used (8 - used))
    ∙ any_mapped (marked bits) (λ k. 8 * (rows / 8) + k) (run used (8 - used))
    ∙ any_each_same (λ k. marked bits (8 * (rows / 8) + k)) (is_set byte) (run used (8 - used))
    (λ k m. bit_of_byte bits (rows / 8) k (let bounds = in_run used (8 - used) k m in omega arith))
    ∙ set_from byte used few (omega arith)
