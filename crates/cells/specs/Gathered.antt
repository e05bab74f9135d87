-- A row's bytes in a column that starts at an offset, gathered from its slices. Assumes nothing.
use Rattle.std.specs.Prelude.{ℕ, ◌+◌, ◌*◌, ◌≤◌, ◌<◌, List, map, length, get_or}
use Rattle.basis.specs.Lists.{below}
use Rattle.limits.specs.Limits.{widest}
use Rattle.codes.specs.Width.{slices_of}

-- where a row's byte stands in a slice of a column that starts at the offset
abbrev pub place : ℕ → ℕ → ℕ → ℕ → ℕ
place offset rows row slice = offset + slice * rows + row

-- the row's byte of every slice stands in the file
abbrev pub RowWithin : List ℕ → ℕ → ℕ → ℕ → ℕ → Type 0
RowWithin file width offset rows row = (slice : ℕ) → slice < slices_of width → place offset rows row slice < length file

-- the width is a column's, and all of the row's bytes stand in the file
pub record CodeWithin (file : List ℕ) (width offset rows row : ℕ) : Type 0 where
  pub some : 0 < width
  pub narrow : width ≤ widest
  pub within : RowWithin file width offset rows row

-- the row's bytes, slice 1 first
abbrev pub gathered : List ℕ → ℕ → ℕ → ℕ → ℕ → List ℕ
gathered file width offset rows row = map (λ slice. get_or file (place offset rows row slice) 0) (below (slices_of width))
