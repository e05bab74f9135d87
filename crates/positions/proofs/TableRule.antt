-- The rule of the table of positions: one test, computed over the whole table, that holds at every entry. Assumes nothing.
--   right_place          an entry is the place that its row says
--   holds_places        the table of positions: row b has the places of the set bits of b, then zeros
--   few_places          a byte has at most eight set bits
--   places_by_number    the rows of its places, told by number
use Prim.Native.Nat.{ℕ, ◌+◌, ◌*◌, ◌/◌, ◌%◌, ◌≤◌}
use native.Mathlib.Omega.{arith}
use mathlib.Core.Path.{◌≡◌, ◌∙◌, ap, sym}
use mathlib.Core.List.{List, map, map-map}
use mathlib.Core.Bool.{Bool, cond}
use lib.Dec.{T, eqb, eqb→eq}
use lib.ListN.{length, get_or, take}
use lib.Seq.{take_all}
use Rattle.basis.specs.Lists.{below}
use Rattle.basis.proofs.Truth.{at_most_one}
use Rattle.basis.proofs.Tables.{every_entry, entry_passes}
use Rattle.basis.proofs.Lists.{sum_at_most}
use Rattle.basis.proofs.Those.{length_those}
use Rattle.basis.proofs.Runs.{taken_by_number}
use Rattle.bits.specs.SetBits.{is_set, places_in, places_of}
use Rattle.positions.specs.Places.{HoldsPlaces}

-- an entry is the place that its row says, or 0 after the last
unfoldable pub right_place : ℕ → ℕ → Bool
right_place at position = eqb position (get_or (places_of (at / 8)) (at % 8) 0)

pub holds_places : (table : List ℕ) → length table ≡ 2048 → T (every_entry right_place 0 table) → HoldsPlaces table
unfolding right_place
holds_places table long passed byte k few here =
    let at = 8 * byte + k in
    let row : at / 8 ≡ byte = omega arith in
    let column : at % 8 ≡ k = omega arith in
    eqb→eq (get_or table at 0) (get_or (places_of (at / 8)) (at % 8) 0) (entry_passes right_place 0 table passed at (omega arith))
    ∙ rw (row, column)

pub few_places : (byte : ℕ) → length (places_of byte) ≤ 8
unfolding places_in
few_places byte =
    rw (length_those (is_set byte) (below 8))
    (sum_at_most (λ k. cond (is_set byte k) 1 0) 1 8 (λ k h. (at_most_one (is_set byte k)).0))

pub places_by_number : (byte first : ℕ) →
    map (λ k. first + get_or (places_of byte) k 0) (below (length (places_of byte))) ≡ map (λ p. first + p) (places_of byte)
places_by_number byte first =
    let places = places_of byte in
    let all : take (length places) places ≡ places = take_all (length places) places (omega arith) in
    sym (map-map (λ p. first + p) (λ k. get_or places k 0) (below (length places)))
    ∙ ap (map (λ p. first + p)) (sym (taken_by_number places (length places) 0 (omega arith)) ∙ all)
