-- What an example asks, and what the definitions answer: the numbers of the reply, and then every element of the lent buffer.
-- Assumes nothing.
use Rattle.std.specs.Prelude.{ℕ, List, [], ◌∷◌, ◌++◌, length}
use Rattle.codes.specs.Bytes.{joined}
use Rattle.register.specs.Opening as opens
use Rattle.writer.specs.Writing as writes
use Rattle.query.specs.declared.Query.{Query}
use Rattle.query.specs.declared.Test.{Test}
use Rattle.query.specs.Tests.{empty_slot, slots_of}
use Rattle.scan.specs.Answers as scans
use Rattle.rows.specs.RowList as lists
use Rattle.replies.specs.Replies.{scan_reply}

-- what may be asked; a buffer is lent with what it holds before
pub data Question : Type 0 where
  joining : (width : ℕ) (bytes : List ℕ) → Question
  writing : (rows : ℕ) (widths codes out : List ℕ) → Question
  opening : (file : List ℕ) → Question
  scanning : (file : List ℕ) (size : ℕ) (tests : List Test) (result : List ℕ) → Question
  listing : (rows : ℕ) (bits out : List ℕ) → Question

-- a query of these tests
abbrev asking : List Test → Query
asking tests = record { count = length tests; tests = slots_of empty_slot tests }

-- what the definitions of the promises answer
abbrev pub answer : Question → List ℕ
answer (joining width bytes) = joined width bytes ∷ []
answer (writing rows widths codes out) =
    writes.shown_for rows widths codes (length out) ++ writes.left_in rows widths codes out
answer (opening file) = opens.shown_for file
answer (scanning file size tests result) =
    scan_reply (scans.scanned_of file size (asking tests) (length result)) ++ scans.left_in file size (asking tests) result
answer (listing rows bits out) = lists.shown_for rows bits (length out) ++ lists.left_in rows bits out
