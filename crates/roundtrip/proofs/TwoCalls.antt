-- The reply of a lookup on the bytes that a write left. Assumes nothing.
--   two_calls   it gives the codes that were written
use Prim.Native.Nat.{ℕ, ◌≤◌, ◌<◌}
use mathlib.Core.Path.{◌≡◌}
use mathlib.Core.List.{List, map}
use lib.ListN.{length, take}
use Rattle.basis.specs.Buffers.{laid}
use Rattle.std.specs.Prelude.{Ok}
use Rattle.answers.proofs.Replies.{told_is_accepted}
use Rattle.table.specs.Table.{code_of}
use Rattle.filing.specs.Layout.{file_length}
use Rattle.writer.specs.Writing.{write_lines, written_of, left_in}
use Rattle.writer.proofs.Fit.{accepted_is_fit}
use Rattle.lookup.specs.LookingUp.{looked_up_of, left_in as givenIn}
use Rattle.lookup.specs.Steps.{AllBelow}
use Rattle.roundtrip.proofs.LeftFile.{left_file}
use Rattle.roundtrip.proofs.LookedUpAgain.{looked_up_again}

-- A write answered n bytes, and the file is the first n bytes of what it left. A column of the register is looked up there, at
-- rows of the register in any order, with room for a code a row. The answer is as many codes as rows, and they are those written.
pub two_calls : (rows : ℕ) (widths codes out : List ℕ) (n : ℕ) → written_of rows widths codes (length out) ≡ Ok n →
    (file : List ℕ) → file ≡ take n (left_in rows widths codes out) → (column : ℕ) → column < length widths →
    (list into : List ℕ) → AllBelow rows list → length list ≤ length into →
    (looked_up_of file column list (length into) ≡ Ok (length list)) ×
    (givenIn file column list into ≡ laid into 0 (map (λ row. code_of widths codes row column) list))
two_calls rows widths codes out n written file left column there list into rows_there room =
    let accepted = told_is_accepted (write_lines rows widths codes (length out)) (file_length rows widths) n written in
    let fit = accepted_is_fit rows widths codes (length out) accepted.0 in
    rw (left, accepted.1, left_file rows widths codes out accepted.0)
    (looked_up_again rows widths codes fit.0 fit.1 column there list into rows_there room)
