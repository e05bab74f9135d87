-- A piece of a long list of bytes in a lent buffer. Assumes nothing.
use Rattle.std.specs.Prelude.{ℕ, suc, ◌+◌, ◌-◌, ◌^◌, ◌≤◌, ◌<◌, ◌≡◌, List, [], ◌∷◌, ◌&&◌, cond, leb, ltb, length, take, drop, set}
use Rattle.std.specs.Borrow.{MutBor}
use Rattle.basis.specs.Buffers.{laid}
use Rattle.pieces.specs.declared.Piece.{Piece}

-- the bytes from a place on, as many as the buffer has room for; what is behind them is untouched
unfoldable pub piece_of : List ℕ → ℕ → List ℕ → List ℕ
piece_of buffer from list = laid buffer 0 (take (length buffer) (drop from list))

-- the byte at a place of the list goes to the buffer where the piece reaches it
unfoldable pub put_at : List ℕ → ℕ → ℕ → ℕ → List ℕ
put_at buffer from at byte = cond (leb from at && ltb (at - from) (length buffer)) (set buffer (at - from) byte) buffer

-- so do the bytes of a word, the first of which is at the place
unfoldable pub write_at : List ℕ → ℕ → ℕ → List ℕ → List ℕ
write_at buffer from at [] = buffer
write_at buffer from at (byte ∷ word) = write_at (put_at buffer from at byte) from (suc at) word

-- a piece of which nothing is written yet: it has the buffer, begins at the place, and has reached the first byte
pub record Begun (out : MutBor (List ℕ)) (from : ℕ) (piece : Piece) : Type 0 where
  pub same_buffer : piece.out.ghost_name ≡ out.ghost_name
  pub same_bytes : piece.out.now ≡ out.now
  pub same_place : piece.from ≡ from
  pub first : piece.at ≡ 0

-- what a step that writes a word does to a piece: the word in the same buffer, and the place behind it
pub record Wrote (word : List ℕ) (before after : Piece) : Type 0 where
  pub same_buffer : after.out.ghost_name ≡ before.out.ghost_name
  pub same_place : after.from ≡ before.from
  pub written : after.out.now ≡ write_at before.out.now before.from before.at word
  pub behind : after.at ≡ before.at + length word

-- a piece that begins with a word: it was begun, and the word was written
pub record Begins (word : List ℕ) (out : MutBor (List ℕ)) (from : ℕ) (piece : Piece) : Type 0 where
  pub begun : Piece
  pub from_nothing : Begun out from begun
  pub wrote : Wrote word begun piece

-- and that the place behind it is not past an end
pub record WroteUpTo (end : ℕ) (word : List ℕ) (before after : Piece) : Type 0 where
  pub wrote : Wrote word before after
  pub within : after.at ≤ end

-- a place that leaves room for a word to be counted, and a word that is short
pub record WordAt (at : ℕ) (word : List ℕ) : Type 0 where
  pub early : at < 2 ^ 61
  pub short : length word ≤ 16

-- what a call that writes a piece of a list leaves and answers: the piece, and the length of the whole
pub record PieceWritten (list : List ℕ) (from : ℕ) (before after : List ℕ) (answer : ℕ) : Type 0 where
  pub piece : after ≡ piece_of before from list
  pub whole : answer ≡ length list
