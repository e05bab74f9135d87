-- What a step by the table of positions asks, and what it writes. Assumes nothing.
use Rattle.std.specs.Prelude.{ℕ, ◌+◌, ◌*◌, ◌≤◌, ◌<◌, ◌≡◌, List, ◌++◌, map, length, get_or, take, drop}
use Rattle.limits.specs.Limits.{most_rows, four_bytes}
use Rattle.bits.specs.Marked.{marked_below}
use Rattle.bits.specs.SetBits.{places_in, places_of}

-- the row of entry k of a byte whose first bit is that of the first row
abbrev pub row_at : ℕ → ℕ → ℕ → ℕ
row_at byte first k = first + get_or (places_of byte) k 0

-- so many rows are marked in bytes that are not too many, and a list has room for them
pub record RowsFit (bits : List ℕ) (all : ℕ) (out : List ℕ) : Type 0 where
  pub few : length bits ≤ most_rows
  pub counted : all ≡ length (marked_below (8 * length bits) bits)
  pub room : all ≤ length out

-- the rows of a word's set bits fit before the end, which the list has
pub record WordHasRoom (word first at end : ℕ) (out : List ℕ) : Type 0 where
  pub low : first + 512 < four_bytes
  pub room : at + length (places_in 64 word) ≤ end
  pub inside : end ≤ length out

-- those of a byte
pub record ByteHasRoom (byte first at end : ℕ) (out : List ℕ) : Type 0 where
  pub low : first + 256 < four_bytes
  pub room : at + length (places_of byte) ≤ end
  pub inside : end ≤ length out

-- those of so many entries of a byte
pub record EntriesHaveRoom (many first at : ℕ) (out : List ℕ) : Type 0 where
  pub few : many ≤ 8
  pub low : first + 256 < four_bytes
  pub room : at + many ≤ length out

-- the rows of a byte stand behind what was before the place, and nothing is changed from the end on
pub record BytePut (byte first at end : ℕ) (before after : List ℕ) : Type 0 where
  pub front : take (at + length (places_of byte)) after ≡ take at before ++ map (λ p. first + p) (places_of byte)
  pub behind : drop end after ≡ drop end before
  pub same_length : length after ≡ length before

-- the rows of a word's set bits stand behind what was before the place, up to the next, and nothing is changed from the end on
pub record WordPut (word first at end : ℕ) (before after : List ℕ) (next : ℕ) : Type 0 where
  pub counted : next ≡ at + length (places_in 64 word)
  pub front : take next after ≡ take at before ++ map (λ p. first + p) (places_in 64 word)
  pub behind : drop end after ≡ drop end before
  pub same_length : length after ≡ length before
