-- The list as far as it is written: the rows of the bytes passed stand at the front, and from the end on nothing is changed.
-- Assumes nothing.
--   Written         so much
--   none_written    to begin with
--   byte_written    with the rows of one byte more
--   word_written    with those of a word
--   all_written     and once all bytes are passed, all that is asked
use Prim.Native.Nat.{ℕ, ◌+◌, ◌*◌}
use native.Mathlib.Omega.{arith}
use mathlib.Core.Path.{◌≡◌, refl, sym, ap, ap₂, ◌∙◌}
use mathlib.Core.List.{List, ◌++◌, map}
use lib.ListN.{length, get_or, take, drop, take-append-drop}
use Rattle.basis.specs.Buffers.{laid}
use Rattle.basis.proofs.Buffers.{laid_front}
use Rattle.bits.specs.SetBits.{places_in, places_of, WordRead}
use Rattle.bits.specs.Marked.{marked_below}
use Rattle.positions.specs.Steps.{BytePut, WordPut}
use Rattle.bits.proofs.ByteByByte.{one_more_byte, one_more_counted}
use Rattle.bits.proofs.Words.{count_of_word}

pub record Written (bits : List ℕ) (end : ℕ) (before out : List ℕ) (at i : ℕ) : Type 0 where
  pub counted : at ≡ length (marked_below (8 * i) bits)
  pub front : take at out ≡ marked_below (8 * i) bits
  pub behind : drop end out ≡ drop end before
  pub same_length : length out ≡ length before

pub none_written : (bits : List ℕ) (end : ℕ) (out : List ℕ) → Written bits end out out 0 0
unfolding marked_below
none_written bits end out = record { counted = refl; front = refl; behind = refl; same_length = refl }

module _ {bits : List ℕ} {end : ℕ} {before out : List ℕ} {at i : ℕ} (so_far : Written bits end before out at i) where
  pub byte_written : {after : List ℕ} → BytePut (get_or bits i 0) (8 * i) at end out after →
      Written bits end before after (at + length (places_of (get_or bits i 0))) (i + 1)
  byte_written put =
      record {
        counted = omega (arith, so_far.counted, one_more_counted bits i);
        front =
            put.front
            ∙ ap (λ (rows : List ℕ). rows ++ map (λ p. 8 * i + p) (places_of (get_or bits i 0))) so_far.front
            ∙ sym (one_more_byte bits i);
        behind = put.behind ∙ so_far.behind;
        same_length = put.same_length ∙ so_far.same_length;
      }

  pub word_written : {n word next : ℕ} {after : List ℕ} → WordRead bits i n word → WordPut word (8 * i) at end out after next →
      Written bits end before after next (i + n)
  word_written {word = word} read put =
      record {
        counted = omega (arith, so_far.counted, put.counted, count_of_word read);
        front =
            put.front
            ∙ ap (λ (rows : List ℕ). rows ++ map (λ p. 8 * i + p) (places_in 64 word)) so_far.front
            ∙ sym read.rows;
        behind = put.behind ∙ so_far.behind;
        same_length = put.same_length ∙ so_far.same_length;
      }

  pub all_written : i ≡ length bits → end ≡ length (marked_below (8 * length bits) bits) →
      out ≡ laid before 0 (marked_below (8 * length bits) bits)
  all_written last all =
      let list = marked_below (8 * length bits) bits in
      let rows : marked_below (8 * i) bits ≡ list = ap (λ (n : ℕ). marked_below (8 * n) bits) last in
      let place : at ≡ end = so_far.counted ∙ ap length rows ∙ sym all in
      sym (take-append-drop end out)
      ∙ ap₂ (λ (a b : List ℕ). a ++ b) (ap (λ (n : ℕ). take n out) (sym place) ∙ so_far.front ∙ rows)
      (so_far.behind ∙ ap (λ (n : ℕ). drop n before) all)
      ∙ sym (laid_front before 0 list)
