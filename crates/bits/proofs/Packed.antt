-- Bits packed into bytes: the byte of eight rows, and the bytes of rows that are taken segment by segment. Assumes nothing.
--   byte_of_eight     eight places of 0 or 1, with the weights of their bits, are the byte of eight rows
--   byte_from         byte i is that of the eight rows from 8 × i on, where no row past the last is found
--   bits_same         rows found alike have the same bits
--   length_bits       as many bytes as the rows need
--   bits_joined       the bits of rows, and then of those from a multiple of 8 on, are the bits of all
use Prim.Native.Nat.{ℕ, ◌+◌, ◌*◌, ◌/◌, ◌^◌, ◌≤◌, ◌<◌}
use native.Mathlib.Omega.{arith}
use mathlib.Core.Path.{◌≡◌, sym, ap, ap₂, ◌∙◌}
use mathlib.Core.Logic.{◌⊎◌, inl, inr}
use mathlib.Core.List.{◌++◌, map, map-append}
use mathlib.Core.Bool.{Bool, false, ◌&&◌, cond}
use borrow.Author.Tests.{lt-ltb, le-ltb}
use lib.Dec.{ltb, eqb}
use lib.ListN.{length, length-map}
use Rattle.basis.specs.Lists.{run, below}
use Rattle.basis.proofs.Lists.{length_run, mapped_same, mapped_onwards}
use Rattle.basis.proofs.Members.{sum_each_same}
use Rattle.basis.proofs.Runs.{in_below, run_joined, within_or_past}
use Rattle.bits.specs.Bits.{bytes_for, bits_at, bits_of}

-- a place of 0 or 1 with a weight is the weight of a bit that is set, or nothing
weighed : (x weight : ℕ) → x ≤ 1 → cond (eqb x 1) weight 0 ≡ weight * x
weighed x weight few = go (within_or_past x 1)
  where
    go : (x < 1) ⊎ (1 ≤ x) → cond (eqb x 1) weight 0 ≡ weight * x
    go (inl h) =
        let none : x ≡ 0 = omega arith in
        rw none (omega arith)
    go (inr h) =
        let one : x ≡ 1 = omega arith in
        rw one (omega arith)

pub byte_of_eight : (place : ℕ → ℕ) → ((k : ℕ) → place k ≤ 1) →
    place 0 + 2 * place 1 + 4 * place 2 + 8 * place 3 + 16 * place 4 + 32 * place 5 + 64 * place 6 + 128 * place 7 ≡
    bits_at (λ k. eqb (place k) 1) 8 0
unfolding bits_at
byte_of_eight place few =
    omega (
      arith,
      weighed (place 0) 1 (few 0),
      weighed (place 1) 2 (few 1),
      weighed (place 2) 4 (few 2),
      weighed (place 3) 8 (few 3),
      weighed (place 4) 16 (few 4),
      weighed (place 5) 32 (few 5),
      weighed (place 6) 64 (few 6),
      weighed (place 7) 128 (few 7),
    )

-- bytes whose bits are alike are the same
bytes_same : (found other : ℕ → Bool) (rows many i j : ℕ) →
    ((k : ℕ) → k < 8 → (ltb (8 * i + k) rows && found (8 * i + k)) ≡ (ltb (8 * j + k) many && other (8 * j + k))) →
    bits_at found rows i ≡ bits_at other many j
unfolding bits_at
bytes_same found other rows many i j alike =
    sum_each_same _ _ (below 8) (λ k m. ap (λ (bit : Bool). cond bit (2 ^ k) 0) (alike k (in_below 8 k m)))

pub byte_from : (found : ℕ → Bool) (rows i : ℕ) → ((k : ℕ) → rows ≤ k → found k ≡ false) →
    bits_at (λ k. found (8 * i + k)) 8 0 ≡ bits_at found rows i
byte_from found rows i rest = bytes_same (λ k. found (8 * i + k)) found 8 rows 0 i alike
  where
    there : (k : ℕ) → (k < rows) ⊎ (rows ≤ k) → found k ≡ (ltb k rows && found k)
    there k (inl h) = rw (lt-ltb k rows h)
    there k (inr h) = rw (rest k h, le-ltb k rows h)

    alike : (k : ℕ) → k < 8 → (ltb (8 * 0 + k) 8 && found (8 * i + (8 * 0 + k))) ≡ (ltb (8 * i + k) rows && found (8 * i + k))
    alike k h =
        let same : 8 * 0 + k ≡ k = omega arith in
        rw (same, lt-ltb k 8 h) (there (8 * i + k) (within_or_past (8 * i + k) rows))

pub bits_same : (found other : ℕ → Bool) (rows : ℕ) → ((k : ℕ) → k < rows → found k ≡ other k) → bits_of found rows ≡ bits_of other rows
unfolding bits_of
bits_same found other rows alike =
    mapped_same (bits_at found rows) (bits_at other rows) (bytes_for rows)
    (λ i h. bytes_same found other rows rows i i (λ k small. there (8 * i + k) (within_or_past (8 * i + k) rows)))
  where
    there : (k : ℕ) → (k < rows) ⊎ (rows ≤ k) → (ltb k rows && found k) ≡ (ltb k rows && other k)
    there k (inl h) = ap (λ (bit : Bool). ltb k rows && bit) (alike k h)
    there k (inr h) = rw (le-ltb k rows h)

pub length_bits : (found : ℕ → Bool) (rows : ℕ) → length (bits_of found rows) ≡ bytes_for rows
unfolding bits_of
length_bits found rows = length-map (below (bytes_for rows)) (bits_at found rows) ∙ length_run 0 (bytes_for rows)

pub bits_joined : (found : ℕ → Bool) (eighths more : ℕ) →
    bits_of found (8 * eighths + more) ≡ bits_of found (8 * eighths) ++ bits_of (λ k. found (8 * eighths + k)) more
unfolding bits_of bytes_for
bits_joined found eighths more =
    let front : (8 * eighths + 7) / 8 ≡ eighths = omega arith in
    let whole : (8 * eighths + more + 7) / 8 ≡ eighths + (more + 7) / 8 = omega arith in
    let all = bits_at found (8 * eighths + more) in
    ap (λ (n : ℕ). map all (below n)) whole
    ∙ ap (map all) (sym (run_joined 0 eighths ((more + 7) / 8)))
    ∙ map-append all (below eighths) (run (0 + eighths) ((more + 7) / 8))
    ∙ ap₂ ◌++◌
    (mapped_same all (bits_at found (8 * eighths)) eighths earlier
    ∙ ap (λ (n : ℕ). map (bits_at found (8 * eighths)) (below n)) (sym front))
    (mapped_onwards all (0 + eighths) ((more + 7) / 8)
    ∙ mapped_same (λ i. all (0 + eighths + i)) (bits_at (λ k. found (8 * eighths + k)) more) ((more + 7) / 8) later)
  where
    earlier : (i : ℕ) → i < eighths → bits_at found (8 * eighths + more) i ≡ bits_at found (8 * eighths) i
    earlier i h =
        bytes_same found found (8 * eighths + more) (8 * eighths) i i
        (λ k small. rw (lt-ltb (8 * i + k) (8 * eighths + more) (omega arith), lt-ltb (8 * i + k) (8 * eighths) (omega arith)))

    later : (i : ℕ) → i < (more + 7) / 8 →
        bits_at found (8 * eighths + more) (0 + eighths + i) ≡ bits_at (λ k. found (8 * eighths + k)) more i
    later i h =
        bytes_same found (λ k. found (8 * eighths + k)) (8 * eighths + more) more (0 + eighths + i) i
        (λ k small.
        let place : 8 * (0 + eighths + i) + k ≡ 8 * eighths + (8 * i + k) = omega arith in
        rw place (ap (λ (within : Bool). within && found (8 * eighths + (8 * i + k))) (past (8 * i + k) (within_or_past (8 * i + k) more))))
      where
        past : (k : ℕ) → (k < more) ⊎ (more ≤ k) → ltb (8 * eighths + k) (8 * eighths + more) ≡ ltb k more
        past k (inl h) = lt-ltb (8 * eighths + k) (8 * eighths + more) (omega arith) ∙ sym (lt-ltb k more h)
        past k (inr h) = le-ltb (8 * eighths + k) (8 * eighths + more) (omega arith) ∙ sym (le-ltb k more h)
