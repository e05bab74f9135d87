-- The listing of a file and a query's text, and what the call that writes it promises. Assumes nothing.
use Rattle.std.specs.Prelude.{ℕ, List, ◌++◌, Result, Ok, Err}
use Rattle.refusals.specs.declared.Refusal.{Refusal}
use Rattle.directory.specs.File.{rows_in}
use Rattle.query.specs.declared.Query.{Query}
use Rattle.text.specs.declared.Asked.{Asked}
use Rattle.text.specs.Reading.{Reads}
use Rattle.scan.specs.declared.Scanned.{Scanned}
use Rattle.pieces.specs.Pieces.{PieceWritten}
use Rattle.lines.specs.Lines.{head_line, refused_line}
use Rattle.sections.specs.Sections.{test_lines, row_lines}
use Rattle.finding.specs.Finding.{scan_for, rows_found}

-- what an accepted query lists: the first line, the tests, the rows
unfoldable pub answer_lines : List ℕ → Query → Scanned → List ℕ
answer_lines file query scanned =
    head_line (rows_in file) scanned.matches
    ++ (test_lines file query.tests scanned.counts query.count ++ row_lines file (rows_found file query))

-- the line of a refusal, or what is listed of a value
abbrev pub refused_or : {A : Type 0} → (A → List ℕ) → Result A Refusal → List ℕ
refused_or lines (Ok value) = lines value
refused_or lines (Err refusal) = refused_line refusal

-- the listing: the text's refusal, then that of the scan, which opens the file first, or the lines of the answer
unfoldable pub listing_of : List ℕ → Result Asked Refusal → List ℕ
listing_of file asked = refused_or (λ asked. refused_or (answer_lines file asked.query) (scan_for file asked)) asked

-- a piece of the listing of what the text asks
abbrev pub Listed : List ℕ → List ℕ → ℕ → List ℕ → List ℕ → ℕ → Type 0
Listed file text from before after answer =
    (asked : Result Asked Refusal) × (Reads text asked × PieceWritten (listing_of file asked) from before after answer)
