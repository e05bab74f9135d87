-- What is written of what was found. Assumes nothing.
use Rattle.std.specs.Prelude.{ℕ, ◌≤◌, ◌≡◌, List, ◌++◌, Result, Ok, Err}
use Rattle.refusals.specs.declared.Refusal.{Refusal}
use Rattle.limits.specs.Limits.{most_tests}
use Rattle.register.specs.Opening.{opened_of}
use Rattle.bits.specs.Marked.{marked_below}
use Rattle.lines.specs.Lines.{head_line}
use Rattle.sections.specs.Sections.{test_lines, row_lines}
use Rattle.sections.specs.Steps.{ColumnsBelow}
use Rattle.finding.specs.declared.Found.{Found}
use Rattle.listing.specs.Listing.{refused_or}

-- what was found is of a file that opened, with few tests, each of a column of it
pub record FoundThere (file : List ℕ) (found : Found) : Type 0 where
  pub opened : opened_of file ≡ Ok found.shape
  pub few : found.query.count ≤ most_tests
  pub columns_there : ColumnsBelow found.shape.columns found.query.tests found.query.count

-- what can be listed: a refusal, or what is of such a file
abbrev pub Listable : List ℕ → Result Found Refusal → Type 0
Listable file (Ok found) = FoundThere file found
Listable file (Err refusal) = Unit {0}

-- what is listed where nothing is refused: the first line, the tests, the rows whose bit is set
unfoldable pub accepted_lines : List ℕ → List ℕ → Found → List ℕ
accepted_lines file bits found =
    head_line found.shape.rows found.matches
    ++ (test_lines file found.query.tests found.counts found.query.count
    ++ row_lines file (marked_below found.shape.rows bits))

-- what is listed of what was found: these lines, or that of the refusal
abbrev pub found_lines : List ℕ → List ℕ → Result Found Refusal → List ℕ
found_lines file bits found = refused_or (accepted_lines file bits) found
