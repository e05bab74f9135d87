-- What an accepted writing leaves. Assumes nothing.
--   left_file   the front of the output, as long as the file, is the file
use Prim.Native.Nat.{ℕ}
use mathlib.Core.Path.{◌≡◌, ap, ◌∙◌}
use mathlib.Core.List.{List}
use mathlib.Core.Option.{none}
use lib.ListN.{length, take}
use lib.Seq.{take_at}
use Rattle.basis.specs.Refusals.{first_line}
use Rattle.basis.proofs.Buffers.{laid_front}
use Rattle.answers.specs.Answers.{left_by}
use Rattle.filing.specs.Layout.{file_length, file_of}
use Rattle.writer.specs.Writing.{write_lines, left_in}
use Rattle.filing.proofs.Lengths.{length_file_of}

pub left_file : (rows : ℕ) (widths codes out : List ℕ) → first_line (write_lines rows widths codes (length out)) ≡ none →
    take (file_length rows widths) (left_in rows widths codes out) ≡ file_of rows widths codes
unfolding left_by
left_file rows widths codes out accepted =
    let file = file_of rows widths codes in
    rw accepted (ap (take (file_length rows widths)) (laid_front out 0 file) ∙ take_at file _ _ (length_file_of rows widths codes))
