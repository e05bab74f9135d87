-- The set bits of a number, and the word that some bytes of a result make. Assumes nothing.
use Rattle.std.specs.Prelude.{ℕ, ◌+◌, ◌*◌, ◌/◌, ◌%◌, ◌^◌, ◌≤◌, ◌≡◌, List, ◌++◌, map, Bool, eqb, length}
use Rattle.basis.specs.Lists.{those, below}
use Rattle.bits.specs.Marked.{marked_below}

-- bit k of a byte or of a longer number, from the least significant, is set
abbrev pub is_set : ℕ → ℕ → Bool
is_set byte k = eqb (byte / 2 ^ k % 2) 1

-- the places of the set bits among the first so many of a number, rising
unfoldable pub places_in : ℕ → ℕ → List ℕ
places_in width number = those (is_set number) (below width)

-- those of a byte
abbrev pub places_of : ℕ → List ℕ
places_of byte = places_in 8 byte

-- so many bits of a word are set
pub record OnesIn (word ones : ℕ) : Type 0 where
  pub counted : ones ≡ length (places_in 64 word)
  pub few : ones ≤ 64

-- so many bytes at a place fit a word, and are there
pub record WordFits (bits : List ℕ) (i many : ℕ) : Type 0 where
  pub short : many ≤ 8
  pub inside : i + many ≤ length bits

-- a word was read from so many bytes at a place: its set bits are the rows marked there, behind those marked before
pub record WordRead (bits : List ℕ) (i many word : ℕ) : Type 0 where
  pub rows : marked_below (8 * (i + many)) bits ≡ marked_below (8 * i) bits ++ map (λ p. 8 * i + p) (places_in 64 word)
