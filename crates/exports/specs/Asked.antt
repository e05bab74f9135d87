-- The two calls that take a query's text: the reply goes by what the text asks. Assumes nothing.
use Rattle.std.specs.Prelude.{ℕ, ◌≡◌, List, length, Result, Ok, Err}
use Rattle.refusals.specs.declared.Refusal.{Refusal}
use Rattle.text.specs.declared.Asked.{Asked}
use Rattle.text.specs.Reading.{Reads}
use Rattle.scan.specs.declared.Scanned.{Scanned}
use Rattle.scan.specs.Answers.{scanned_of, left_in}
use Rattle.replies.specs.Replies.{read_reply, scan_reply}

-- what the text asks is the reply
abbrev pub ReadReplied : List ℕ → List ℕ → Type 0
ReadReplied text reply = (asked : Result Asked Refusal) × (Reads text asked × (reply ≡ read_reply asked))

-- the text's refusal first, and then the scan of what it asks
abbrev pub scan_of : List ℕ → Result Asked Refusal → ℕ → Result Scanned Refusal
scan_of file (Ok asked) room = scanned_of file asked.size asked.query room
scan_of file (Err refusal) room = Err refusal

-- a text that is refused leaves the result as it was
abbrev pub result_of : List ℕ → Result Asked Refusal → List ℕ → List ℕ
result_of file (Ok asked) out = left_in file asked.size asked.query out
result_of file (Err refusal) out = out

-- what the text asks is scanned
abbrev pub ScannedAsAsked : List ℕ → List ℕ → List ℕ → List ℕ → Result Scanned Refusal → Type 0
ScannedAsAsked file text before after scanned =
    (asked : Result Asked Refusal) ×
    (Reads text asked × ((scanned ≡ scan_of file asked (length before)) × (after ≡ result_of file asked before)))

-- and the scan is the reply
abbrev pub ScanReplied : List ℕ → List ℕ → List ℕ → List ℕ → List ℕ → Type 0
ScanReplied file text before after reply =
    (asked : Result Asked Refusal) ×
    (Reads text asked × ((reply ≡ scan_reply (scan_of file asked (length before))) × (after ≡ result_of file asked before)))
