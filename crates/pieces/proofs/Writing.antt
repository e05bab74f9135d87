-- Writing words one behind the other. Assumes nothing.
--   put_within                one byte, where the piece reaches it
--   put_before, put_behind    and where it does not
--   length_put, length_write  the buffer keeps its length
--   same_room                 so it does after a step
--   wrote_nothing, wrote_byte no byte, and one
--   written_then              a word, and right behind it another, is both as one
--   written_on                the next byte of a word, behind those before it
use Prim.Native.Nat.{ℕ, suc, ◌+◌, ◌-◌, ◌≤◌, ◌<◌}
use native.Mathlib.Omega.{arith}
use mathlib.Core.Path.{◌≡◌, refl, sym, ap, ◌∙◌}
use mathlib.Core.List.{List, [], ◌∷◌, ◌++◌}
use mathlib.Core.Bool.{Bool, true, false, ◌&&◌, cond}
use lib.Dec.{leb, ltb}
use lib.ListN.{length, get_or, set, take, length-set, length-append}
use lib.Seq.{take-suc}
use native.Mathlib.Numerals.{add-one}
use borrow.Author.Tests.{le-leb, lt-leb, lt-ltb, le-ltb}
use Rattle.pieces.specs.declared.Piece.{Piece}
use Rattle.pieces.specs.Pieces.{put_at, write_at, Wrote}

module _ (buffer : List ℕ) (from at byte : ℕ) where
  pub put_within : from ≤ at → at - from < length buffer → put_at buffer from at byte ≡ set buffer (at - from) byte
  unfolding put_at
  put_within reached room = rw (le-leb from at reached, lt-ltb (at - from) (length buffer) room)

  pub put_before : at < from → put_at buffer from at byte ≡ buffer
  unfolding put_at
  put_before early = rw (lt-leb from at early)

  pub put_behind : from ≤ at → length buffer ≤ at - from → put_at buffer from at byte ≡ buffer
  unfolding put_at
  put_behind reached full = rw (le-leb from at reached, le-ltb (at - from) (length buffer) full)

  length_put : length (put_at buffer from at byte) ≡ length buffer
  unfolding put_at
  length_put = go (leb from at && ltb (at - from) (length buffer))
    where
      go : (b : Bool) → length (cond b (set buffer (at - from) byte) buffer) ≡ length buffer
      go true = length-set buffer (at - from) byte
      go false = refl

length_write : (buffer : List ℕ) (from at : ℕ) (word : List ℕ) → length (write_at buffer from at word) ≡ length buffer
unfolding write_at
length_write buffer from at [] = refl
length_write buffer from at (byte ∷ word) = length_write (put_at buffer from at byte) from (suc at) word ∙ length_put buffer from at byte

write_joined : (buffer : List ℕ) (from at : ℕ) (word more : List ℕ) →
    write_at buffer from at (word ++ more) ≡ write_at (write_at buffer from at word) from (at + length word) more
unfolding write_at
write_joined buffer from at [] more =
    let here : at + 0 ≡ at = omega arith in
    rw here
write_joined buffer from at (byte ∷ word) more =
    let next : at + suc (length word) ≡ suc at + length word = omega arith in
    rw next (write_joined (put_at buffer from at byte) from (suc at) word more)

pub written_then : {word more : List ℕ} {before between after : Piece} →
    Wrote word before between → Wrote more between after → Wrote (word ++ more) before after
written_then {word} {more} {before} {between} {after} first then =
    record {
      same_buffer = then.same_buffer ∙ first.same_buffer;
      same_place = then.same_place ∙ first.same_place;
      written =
          then.written
          ∙ rw (first.written, first.same_place, first.behind) (sym (write_joined before.out.now before.from before.at word more));
      behind = then.behind ∙ rw (first.behind, length-append word more) (omega arith);
    }

pub same_room : {word : List ℕ} {before after : Piece} → Wrote word before after → length after.out.now ≡ length before.out.now
same_room {word} {before} wrote = ap length wrote.written ∙ length_write before.out.now before.from before.at word

pub wrote_byte : (byte : ℕ) {before after : Piece} → after.out.ghost_name ≡ before.out.ghost_name → after.from ≡ before.from →
    after.out.now ≡ put_at before.out.now before.from before.at byte → after.at ≡ before.at + 1 → Wrote (byte ∷ []) before after
unfolding write_at
wrote_byte byte buffer place put end = record { same_buffer = buffer; same_place = place; written = put; behind = end }

pub wrote_nothing : (piece : Piece) → Wrote [] piece piece
unfolding write_at
wrote_nothing piece = record { same_buffer = refl; same_place = refl; written = refl; behind = omega arith }

pub written_on : (word : List ℕ) (i : ℕ) {before between after : Piece} → i < length word →
    Wrote (take i word) before between → Wrote (get_or word i 0 ∷ []) between after →
    Wrote (take (i + 1) word) before after
written_on word i inside first then =
    let more : take (i + 1) word ≡ take i word ++ (get_or word i 0 ∷ []) = rw (add-one i) (take-suc word i 0 inside) in
    rw more (written_then first then)
