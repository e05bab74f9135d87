-- The rows that are marked in some bytes, told by the number that the bytes make. Assumes nothing.
--   cut_at_a_byte     the marked rows of some bytes: those of the first of them, then those of the further ones, moved
--   marked_by_number  the marked rows of bytes are the places of the set bits of the number that they make
--   word_read         so the number of the bytes at a place has the rows marked there
--   count_of_word     with them so many more are marked
--   room_for_word     where all fit into a buffer, so do they
use Prim.Native.Nat.{ℕ, suc, ◌+◌, ◌-◌, ◌*◌, ◌/◌, ◌%◌, ◌≤◌, ◌<◌}
use native.Mathlib.Omega.{arith}
use native.Mathlib.Nat.{zero-add}
use mathlib.Core.Path.{◌≡◌, sym, ap, ap₂, ◌∙◌}
use mathlib.Core.List.{List, [], ◌∷◌, ◌++◌, map}
use lib.ListN.{length, get_or, take, drop, length-append, length-drop, length-map}
use lib.Seq.{take-length, length-take-le, get_or-take, get_or-drop}
use Rattle.basis.specs.Lists.{those, run, below}
use Rattle.basis.specs.Numbers.{little}
use Rattle.basis.proofs.Runs.{in_below, run_joined}
use Rattle.basis.proofs.Those.{those_joined, those_mapped, those_same}
use Rattle.bits.specs.Bits.{bit_in}
use Rattle.bits.specs.SetBits.{is_set, places_in, places_of, WordRead}
use Rattle.bits.specs.Marked.{marked, marked_below}
use Rattle.bits.proofs.ByteByByte.{run_moved, bit_of_byte, no_fewer}
use Rattle.bits.proofs.SetBits.{none_in_zero, low_then_high}

-- a row's bit, counted from a byte on
moved_bit : (bits : List ℕ) (i n k : ℕ) → k < 8 * n → marked bits (8 * i + k) ≡ marked (take n (drop i bits)) k
unfolding bit_in
moved_bit bits i n k h =
    let byte : (8 * i + k) / 8 ≡ i + k / 8 = omega arith in
    let place : (8 * i + k) % 8 ≡ k % 8 = omega arith in
    rw (byte, place, get_or-take n (drop i bits) (k / 8) 0 (omega arith), get_or-drop i bits (k / 8) 0)

pub cut_at_a_byte : (bits : List ℕ) (i n : ℕ) →
    marked_below (8 * (i + n)) bits ≡ marked_below (8 * i) bits ++ map (λ p. 8 * i + p) (marked_below (8 * n) (take n (drop i bits)))
unfolding marked_below
cut_at_a_byte bits i n =
    let more : 8 * (i + n) ≡ 8 * i + 8 * n = omega arith in
    let first : 0 + 8 * i ≡ 8 * i + 0 = omega arith in
    ap (λ (m : ℕ). those (marked bits) (below m)) more
    ∙ ap (those (marked bits)) (sym (run_joined 0 (8 * i) (8 * n)))
    ∙ those_joined (marked bits) (below (8 * i)) (run (0 + 8 * i) (8 * n))
    ∙ ap (λ (rows : List ℕ). those (marked bits) (below (8 * i)) ++ rows)
    (ap (λ (m : ℕ). those (marked bits) (run m (8 * n))) first
    ∙ ap (those (marked bits)) (run_moved (8 * i) 0 (8 * n))
    ∙ those_mapped (marked bits) (λ k. 8 * i + k) (below (8 * n))
    ∙ ap (map (λ p. 8 * i + p)) (those_same (λ k. marked bits (8 * i + k)) (marked (take n (drop i bits))) (below (8 * n))
    (λ k m. moved_bit bits i n k (in_below (8 * n) k m))))

-- the rows of the first byte
of_first_byte : (b : ℕ) (bytes : List ℕ) → marked_below (8 * 1) (b ∷ bytes) ≡ places_of b
unfolding marked_below places_in
of_first_byte b bytes =
    those_same (marked (b ∷ bytes)) (is_set b) (below 8)
    (λ k m. ap (marked (b ∷ bytes)) (sym (zero-add k)) ∙ bit_of_byte (b ∷ bytes) 0 k (in_below 8 k m))

marked_by_number : (bytes : List ℕ) (spare : ℕ) → ((k : ℕ) → k < length bytes → get_or bytes k 0 < 256) →
    places_in (8 * length bytes + spare) (little bytes) ≡ marked_below (8 * length bytes) bytes
unfolding little marked_below
marked_by_number [] spare small = none_in_zero (8 * 0 + spare)
marked_by_number (b ∷ bytes) spare small =
    let n = length bytes in
    let more : 8 * suc n + spare ≡ 8 + (8 * n + spare) = omega arith in
    let one : suc n ≡ 1 + n = omega arith in
    ap (λ (width : ℕ). places_in width (b + 256 * little bytes)) more
    ∙ low_then_high 8 (8 * n + spare) b (little bytes) (small 0 (omega arith))
    ∙ ap₂ (λ (a c : List ℕ). a ++ map (λ p. 8 + p) c) (sym (of_first_byte b bytes))
    (marked_by_number bytes spare (λ k h. small (suc k) (omega arith)) ∙ ap (marked_below (8 * n)) (sym (take-length bytes)))
    ∙ sym (cut_at_a_byte (b ∷ bytes) 1 n)
    ∙ ap (λ (m : ℕ). marked_below (8 * m) (b ∷ bytes)) (sym one)

module _ (bits : List ℕ) (i n : ℕ) (few : n ≤ 8) (inside : i + n ≤ length bits) (small : (k : ℕ) → get_or bits k 0 < 256) where
  abbrev part : List ℕ
  part = take n (drop i bits)

  long : length part ≡ n
  long = length-take-le n (drop i bits) (omega (arith, length-drop i bits))

  small_in_part : (k : ℕ) → k < length part → get_or part k 0 < 256
  small_in_part k h = rw (get_or-take n (drop i bits) k 0 (omega (arith, long)), get_or-drop i bits k 0) (small (i + k))

  pub word_read : (word : ℕ) → word ≡ little part → WordRead bits i n word
  word_read word is =
      let whole : 64 ≡ 8 * length part + (64 - 8 * length part) = omega (arith, long) in
      let rows = ap₂ places_in whole is ∙ marked_by_number part (64 - 8 * length part) small_in_part in
      record {
        rows =
            cut_at_a_byte bits i n
            ∙ ap (λ (rows : List ℕ). marked_below (8 * i) bits ++ map (λ p. 8 * i + p) rows)
            (ap (λ (m : ℕ). marked_below (8 * m) part) (sym long) ∙ sym rows);
      }

module _ {bits : List ℕ} {i n word : ℕ} (read : WordRead bits i n word) where
  pub count_of_word : length (marked_below (8 * (i + n)) bits) ≡ length (marked_below (8 * i) bits) + length (places_in 64 word)
  count_of_word = rw (read.rows, length-append, length-map (places_in 64 word) (λ p. 8 * i + p))

  pub room_for_word : (room : ℕ) → i + n ≤ length bits → length (marked_below (8 * length bits) bits) ≤ room →
      length (marked_below (8 * i) bits) + length (places_in 64 word) ≤ room
  room_for_word room inside fit =
      let more : 8 * (i + n) ≤ 8 * length bits = omega arith in
      omega (arith, count_of_word, no_fewer bits more)
