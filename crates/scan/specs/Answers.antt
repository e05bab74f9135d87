-- The reply to a scan, and what it leaves in the result. Assumes nothing.
use Rattle.std.specs.Prelude.{ℕ, List, [], map, length, Result, Ok, Err}
use Rattle.basis.specs.Refusals.{first_line, answer_by, answer_of}
use Rattle.basis.specs.Buffers.{laid}
use Rattle.refusals.specs.declared.Refusal.{Refusal}
use Rattle.directory.specs.File.{rows_in}
use Rattle.query.specs.declared.Query.{Query}
use Rattle.query.specs.Tests.{slots_of}
use Rattle.schedule.specs.Schedule.{count, total, found, matches}
use Rattle.schedule.specs.Comparisons.{comparing}
use Rattle.scan.specs.declared.Scanned.{Scanned}
use Rattle.asking.specs.AtFile.{tests_in, bytes_in, segments_in}
use Rattle.bits.specs.Bits.{bits_of}
use Rattle.scan.specs.Refusals.{scan_lines}

-- an accepted scan answers the schedule's numbers
unfoldable pub accepted : List ℕ → ℕ → Query → Scanned
accepted file size query =
    record {
      matches = matches comparing (bytes_in file) (tests_in file query) (rows_in file);
      counts =
          slots_of 0
          (map (λ t. count comparing (bytes_in file) (tests_in file query) t (segments_in file size)) (tests_in file query));
      total = total comparing (bytes_in file) (tests_in file query) (segments_in file size);
    }

-- the reply
unfoldable pub scanned_of : List ℕ → ℕ → Query → ℕ → Result Scanned Refusal
scanned_of file size query room = answer_of (scan_lines file size query room) (accepted file size query)

-- the numbers of a reply, each 0 where the scan is refused
abbrev pub numbers_in : Result Scanned Refusal → Scanned
numbers_in (Ok scanned) = scanned
numbers_in (Err refusal) = record { matches = 0; counts = slots_of 0 []; total = 0 }

-- the bits of the rows found
unfoldable pub found_bits : List ℕ → Query → List ℕ
found_bits file query = bits_of (found comparing (bytes_in file) (tests_in file query)) (rows_in file)

-- what the result then holds: the bits, and after them what was there before; refused, all that was there before
unfoldable pub left_in : List ℕ → ℕ → Query → List ℕ → List ℕ
left_in file size query out =
    answer_by (λ line. out) (laid out 0 (found_bits file query)) (first_line (scan_lines file size query (length out)))
