-- What is found for a listing before any of it is written. Assumes nothing.
use Rattle.std.specs.Prelude.{ℕ, ◌≡◌, List, Result, Ok, Err}
use Rattle.basis.specs.Lists.{those, below}
use Rattle.limits.specs.Limits.{most_rows}
use Rattle.refusals.specs.declared.Refusal.{Refusal}
use Rattle.directory.specs.File.{rows_in}
use Rattle.register.specs.Opening.{shape_in}
use Rattle.query.specs.declared.Query.{Query}
use Rattle.text.specs.declared.Asked.{Asked}
use Rattle.text.specs.Reading.{Reads}
use Rattle.schedule.specs.Schedule.{found}
use Rattle.schedule.specs.Comparisons.{comparing}
use Rattle.asking.specs.AtFile.{tests_in, bytes_in}
use Rattle.bits.specs.Bits.{bytes_for}
use Rattle.bits.specs.Marked.{marked_below}
use Rattle.scan.specs.declared.Scanned.{Scanned}
use Rattle.scan.specs.Answers.{scanned_of, left_in}
use Rattle.finding.specs.declared.Found.{Found}

-- the scan that was asked for, into a result that is long enough for any register
unfoldable pub scan_for : List ℕ → Asked → Result Scanned Refusal
scan_for file asked = scanned_of file asked.size asked.query (bytes_for most_rows)

-- the rows that the query finds, rising
unfoldable pub rows_found : List ℕ → Query → List ℕ
rows_found file query = those (found comparing (bytes_in file) (tests_in file query)) (below (rows_in file))

-- what is found of a scan: its refusal, or the shape of the file, the numbers of the scan and the query
abbrev pub found_of : List ℕ → Query → Result Scanned Refusal → Result Found Refusal
found_of file query (Ok scanned) =
    Ok (record { shape = shape_in file; matches = scanned.matches; counts = scanned.counts; query = query })
found_of file query (Err refusal) = Err refusal

-- what is found of what a text asks: the text's refusal, or what is found of the scan that it asks for
abbrev pub found_for : List ℕ → Result Asked Refusal → Result Found Refusal
found_for file (Ok asked) = found_of file asked.query (scan_for file asked)
found_for file (Err refusal) = Err refusal

-- what the bits then hold: what the scan leaves; of a text that is refused, what was there before
abbrev pub bits_for : List ℕ → Result Asked Refusal → List ℕ → List ℕ
bits_for file (Ok asked) bits = left_in file asked.size asked.query bits
bits_for file (Err refusal) bits = bits

-- both, and that these bits, where nothing is refused, mark the rows that the query finds
pub record FoundBy (file : List ℕ) (asked : Result Asked Refusal) (before after : List ℕ) (found : Result Found Refusal) : Type 0 where
  pub answer : found ≡ found_for file asked
  pub bits : after ≡ bits_for file asked before
  pub rows : (listed : Found) → found ≡ Ok listed → marked_below (rows_in file) after ≡ rows_found file listed.query

-- what is found of a file and a text
abbrev pub FoundIn : List ℕ → List ℕ → List ℕ → List ℕ → Result Found Refusal → Type 0
FoundIn file text before after found = (asked : Result Asked Refusal) × (Reads text asked × FoundBy file asked before after found)
