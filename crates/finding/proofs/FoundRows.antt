-- The rows that the bits of an accepted scan mark are those that the query finds. Assumes nothing.
use Prim.Native.Nat.{ℕ}
use mathlib.Core.Path.{◌≡◌}
use mathlib.Core.List.{List}
use lib.ListN.{length}
use Rattle.basis.specs.Lists.{below}
use Rattle.basis.proofs.Runs.{in_below}
use Rattle.basis.proofs.Those.{those_same}
use Rattle.directory.specs.File.{rows_in}
use Rattle.query.specs.declared.Query.{Query}
use Rattle.schedule.specs.Schedule.{found}
use Rattle.schedule.specs.Comparisons.{comparing}
use Rattle.asking.specs.AtFile.{tests_in, bytes_in}
use Rattle.scan.specs.Answers.{left_in}
use Rattle.scan.proofs.LeftBits.{bit_left}
use Rattle.scan.proofs.Accepting.{Accepted}
use Rattle.bits.specs.Marked.{marked, marked_below}
use Rattle.bits.proofs.FoundBits.{one_or_none}
use Rattle.finding.specs.Finding.{rows_found}

pub found_rows : (file : List ℕ) (size : ℕ) (query : Query) (out : List ℕ) → Accepted file size query (length out) →
    marked_below (rows_in file) (left_in file size query out) ≡ rows_found file query
unfolding marked_below rows_found
found_rows file size query out granted =
    let is = found comparing (bytes_in file) (tests_in file query) in
    those_same (marked (left_in file size query out)) is (below (rows_in file))
    (λ row m. rw (bit_left file size query out granted row (in_below (rows_in file) row m)) (one_or_none (is row)))
