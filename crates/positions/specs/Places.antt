-- The table of positions: row b gives the places of the set bits of b, rising, then zeros. Assumes nothing.
use Rattle.std.specs.Prelude.{ℕ, ◌+◌, ◌*◌, ◌<◌, ◌≡◌, List, get_or}
use Rattle.bits.specs.SetBits.{places_of}

-- a table of 256 rows of eight positions: the places, then zeros
abbrev pub HoldsPlaces : List ℕ → Type 0
HoldsPlaces table = (byte k : ℕ) → byte < 256 → k < 8 → get_or table (8 * byte + k) 0 ≡ get_or (places_of byte) k 0
