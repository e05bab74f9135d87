-- The bytes of a word, those of 0 left out: the rows of the next one are put behind those of the bytes passed. Assumes nothing.
--   Passed        what is put once some of a word's bits are passed, and what is left of the word
--   none_passed   to begin with nothing is put
--   NextByte      what the next byte that is not 0 adds, and what is then left
--   next_byte     it is found behind the zeros that the word begins with
--   room_for_byte where all of the word's rows fit, so do those of the byte
--   byte_passed   put, it is passed
--   all_passed    where nothing is left all of the word's rows are put
use Prim.Native.Nat.{ℕ, ◌+◌, ◌-◌, ◌*◌, ◌/◌, ◌%◌, ◌^◌, ◌≤◌, ◌<◌}
use native.Mathlib.Omega.{arith}
use native.Mathlib.Nat.{zero-add, eq-zero-or-pos, le-mul_of_pos_right}
use mathlib.Core.Path.{◌≡◌, refl, sym, ap, ap₂, fun_ext, ◌∙◌}
use mathlib.Core.Logic.{◌⊎◌, inl, inr}
use mathlib.Core.List.{List, [], ◌++◌, map, map-id, map-map, map-append, append_assoc, append-nil}
use lib.ListN.{length, take, drop, length-append, length-map}
use lib.Pow.{pow_pos, pow_mono, shr-shr, shr_lt}
use lib.Count.{count_trailing_zeros}
use Rattle.basis.proofs.Runs.{within_or_past}
use Rattle.bits.specs.SetBits.{places_in, places_of}
use Rattle.positions.specs.Steps.{BytePut, WordPut}
use Rattle.bits.proofs.SetBits.{none_in_zero, zeros_below, low_then_high}

-- the places of what is left, behind the bits passed
abbrev beyond : ℕ → ℕ → List ℕ
beyond passed rest = map (λ p. passed + p) (places_in (64 - passed) rest)

pub record Passed (word first at end : ℕ) (before out : List ℕ) (next rest passed : ℕ) : Type 0 where
  pub done : List ℕ
  pub whole : places_in 64 word ≡ done ++ beyond passed rest
  pub counted : next ≡ at + length done
  pub front : take next out ≡ take at before ++ map (λ p. first + p) done
  pub behind : drop end out ≡ drop end before
  pub same_length : length out ≡ length before
  pub by_bytes : passed % 8 ≡ 0
  pub within : passed ≤ 64
  pub small : rest < 2 ^ (64 - passed)

pub none_passed : (word first at end : ℕ) (out : List ℕ) → word < 2 ^ 64 → Passed word first at end out out at word 0
none_passed word first at end out small =
    let places = places_in 64 word in
    record {
      done = [];
      whole = sym (ap (λ (f : ℕ → ℕ). map f places) (fun_ext zero-add) ∙ map-id places);
      counted = omega arith;
      front = sym (append-nil (take at out));
      behind = refl;
      same_length = refl;
      by_bytes = refl;
      within = omega arith;
      small = small;
    }

-- the byte behind so many zeros, which are those of whole bytes
pub record NextByte (rest passed zeros : ℕ) : Type 0 where
  pub split : beyond passed rest ≡
      map (λ p. passed + zeros + p) (places_of (rest / 2 ^ zeros % 256)) ++ beyond (passed + zeros + 8) (rest / 2 ^ zeros / 256)
  pub by_bytes : (passed + zeros + 8) % 8 ≡ 0
  pub fits : passed + zeros + 8 ≤ 64
  pub less : rest / 2 ^ zeros / 256 < 2 ^ (64 - (passed + zeros + 8))

-- a number that is not 0 is no less than the weight of its lowest set bit, so that bit is within its width
inside : (width number zeros : ℕ) → 0 < number → number < 2 ^ width → number ≡ 2 ^ zeros * (number / 2 ^ zeros) → zeros < width
inside width number zeros some small is = go (within_or_past zeros width) (eq-zero-or-pos (number / 2 ^ zeros))
  where
    go : (zeros < width) ⊎ (width ≤ zeros) → (number / 2 ^ zeros ≡ 0) ⊎ (0 < number / 2 ^ zeros) → zeros < width
    go (inl h) high = h
    go (inr h) (inl none) = absurd (let nothing = rw none at is in omega arith)
    go (inr h) (inr high) = absurd (omega (arith, pow_mono h, le-mul_of_pos_right (2 ^ zeros) high))

-- the places of a number behind zeros: those of its next byte, then those of the rest
behind_zeros : (more number zeros : ℕ) → number ≡ 2 ^ zeros * (number / 2 ^ zeros) → places_in (zeros + (8 + more)) number ≡
    map (λ p. zeros + p) (places_of (number / 2 ^ zeros % 256) ++ map (λ p. 8 + p) (places_in more (number / 2 ^ zeros / 256)))
behind_zeros more number zeros is =
    let high = number / 2 ^ zeros in
    let sum : number ≡ 0 + 2 ^ zeros * high = omega arith in
    let bytes : high ≡ high % 256 + 2 ^ 8 * (high / 256) = omega arith in
    ap (places_in (zeros + (8 + more))) sum
    ∙ low_then_high zeros (8 + more) 0 high (pow_pos zeros)
    ∙ rw (none_in_zero zeros)
    (ap (map (λ p. zeros + p)) (ap (places_in (8 + more)) bytes ∙ low_then_high 8 more (high % 256) (high / 256) (omega arith)))

pub next_byte : (rest passed zeros : ℕ) → 0 < rest → rest < 2 ^ (64 - passed) → passed % 8 ≡ 0 → passed ≤ 64 →
    zeros ≡ count_trailing_zeros 64 rest / 8 * 8 → NextByte rest passed zeros
next_byte rest passed zeros some small by_bytes within are =
    let is = zeros_below zeros 64 rest (omega arith) in
    let below = inside (64 - passed) rest zeros some small is in
    let more = 64 - (passed + zeros + 8) in
    let fits : passed + zeros + 8 ≤ 64 = omega arith in
    let width : 64 - passed ≡ zeros + (8 + more) = omega arith in
    let bits : 64 - passed ≡ more + (zeros + 8) = omega arith in
    let byte = places_of (rest / 2 ^ zeros % 256) in
    let others = places_in more (rest / 2 ^ zeros / 256) in
    record {
      split =
          ap (λ (n : ℕ). map (λ p. passed + p) (places_in n rest)) width
          ∙ ap (map (λ p. passed + p)) (behind_zeros more rest zeros is)
          ∙ map-map (λ p. passed + p) (λ p. zeros + p) (byte ++ map (λ p. 8 + p) others)
          ∙ ap (λ (f : ℕ → ℕ). map f (byte ++ map (λ p. 8 + p) others)) (fun_ext (λ p. omega arith))
          ∙ map-append (λ p. passed + zeros + p) byte (map (λ p. 8 + p) others)
          ∙ ap (λ (list : List ℕ). map (λ p. passed + zeros + p) byte ++ list)
          (map-map (λ p. passed + zeros + p) (λ p. 8 + p) others ∙ ap (λ (f : ℕ → ℕ). map f others) (fun_ext (λ p. omega arith)));
      by_bytes = omega arith;
      fits = fits;
      less = rw (shr-shr rest zeros 8) (shr_lt more (zeros + 8) (rw bits at small));
    }

module _ {word first at end : ℕ} {before out : List ℕ} {next rest passed : ℕ}
    (so_far : Passed word first at end before out next rest passed) where
  pub all_passed : rest ≡ 0 → WordPut word first at end before out next
  all_passed none =
      let list = so_far.done in
      let nothing : beyond passed rest ≡ [] =
      ap (λ (n : ℕ). beyond passed n) none ∙ ap (map (λ p. passed + p)) (none_in_zero (64 - passed)) in
      let all : places_in 64 word ≡ list = so_far.whole ∙ ap (λ (places : List ℕ). list ++ places) nothing ∙ append-nil list in
      record {
        counted = so_far.counted ∙ rw all;
        front = so_far.front ∙ rw all;
        behind = so_far.behind;
        same_length = so_far.same_length;
      }

  module _ {zeros : ℕ} (byte : NextByte rest passed zeros) where
    -- the places of the byte, and where they stand in the word
    abbrev places : List ℕ
    places = places_of (rest / 2 ^ zeros % 256)

    abbrev moved : List ℕ
    moved = map (λ p. passed + zeros + p) places

    -- those of the bytes behind it
    abbrev left : List ℕ
    left = beyond (passed + zeros + 8) (rest / 2 ^ zeros / 256)

    pub room_for_byte : next + length places ≤ at + length (places_in 64 word)
    room_for_byte =
        omega (
          arith,
          so_far.counted,
          ap length (so_far.whole ∙ ap (λ (list : List ℕ). so_far.done ++ list) byte.split),
          length-append so_far.done (moved ++ left),
          length-append moved left,
          length-map places (λ p. passed + zeros + p),
        )

    pub byte_passed : {after : List ℕ} → BytePut (rest / 2 ^ zeros % 256) (first + (passed + zeros)) next end out after →
        Passed word first at end before after (next + length places) (rest / 2 ^ zeros / 256) (passed + zeros + 8)
    byte_passed put =
        record {
          done = so_far.done ++ moved;
          whole =
              so_far.whole
              ∙ ap (λ (list : List ℕ). so_far.done ++ list) byte.split
              ∙ sym (append_assoc so_far.done moved left);
          counted = omega (arith, so_far.counted, length-append so_far.done moved, length-map places (λ p. passed + zeros + p));
          front =
              put.front
              ∙ ap₂ (λ (a b : List ℕ). a ++ b) so_far.front (ap (λ (f : ℕ → ℕ). map f places) (fun_ext (λ p. omega arith)))
              ∙ append_assoc (take at before) (map (λ p. first + p) so_far.done) (map (λ p. first + (passed + zeros + p)) places)
              ∙ ap (λ (list : List ℕ). take at before ++ (map (λ p. first + p) so_far.done ++ list))
              (sym (map-map (λ p. first + p) (λ p. passed + zeros + p) places))
              ∙ ap (λ (list : List ℕ). take at before ++ list) (sym (map-append (λ p. first + p) so_far.done moved));
          behind = put.behind ∙ so_far.behind;
          same_length = put.same_length ∙ so_far.same_length;
          by_bytes = byte.by_bytes;
          within = byte.fits;
          small = byte.less;
        }
