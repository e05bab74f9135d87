-- What a step of a scan may rely on. Assumes nothing.
use Rattle.std.specs.Prelude.{ℕ, ◌+◌, ◌*◌, ◌≤◌, ◌<◌, ◌≡◌, List, false, length, get_or}
use Rattle.limits.specs.Limits.{most_rows, most_slices, most_tests}
use Rattle.register.specs.declared.Shape.{Shape}
use Rattle.query.specs.declared.Query.{Query}
use Rattle.asking.specs.Sizes.{unfit_size}
use Rattle.asking.specs.Judged.{Judged}
use Rattle.bits.specs.Bits.{bytes_for}

-- a file to which a query was held, a size that a segment may have, and room for the bits of all rows
pub record ScanFit (file : List ℕ) (shape : Shape) (size : ℕ) (query : Query) (result : List ℕ) : Type 0 where
  pub judged : Judged file shape query
  pub sized : unfit_size size ≡ false
  pub room : bytes_for shape.rows ≤ length result

-- sums of no more than every slice of every row, which are far from the edge
abbrev pub SmallSums : List ℕ → List ℕ → Type 0
SmallSums counts read = (t : ℕ) → t < most_tests → get_or counts t 0 + get_or read t 0 ≤ most_rows * most_slices

-- a count for each test, to which those of a segment are added
pub record CountsFit (counts read : List ℕ) : Type 0 where
  pub whole : length counts ≡ most_tests
  pub small : SmallSums counts read
