-- Every settled example, P1 to P12: the definitions that the promises use answer each as the table says, by computation. Assumes nothing.
--   settled    one statement for all
use mathlib.Core.Path.{◌≡◌, refl}
use mathlib.Core.List.{map, flatten}
use Rattle.basis.specs.Places.{first_place}
use Rattle.basis.specs.Numbers.{little, to_little, number_at}
use Rattle.answers.specs.Answers.{shown_for, left_by}
use Rattle.codes.specs.Width.{unfit_width, slices_of, pad_of, too_large}
use Rattle.codes.specs.Bytes.{big, joined, to_big, stored_of, bytes_of, byte_of}
use Rattle.codes.specs.Pad.{last_slice, cleared_byte}
use Rattle.directory.specs.Layout.{slices_before}
use Rattle.directory.specs.File.{trailer_in, entry_in, mark, width_in, offset_in, unfit_entry, unfit_column}
use Rattle.register.specs.Cells.{byte_at}
use Rattle.register.specs.Opening as opens
use Rattle.slicing.specs.Body.{slice_of, column_of, body_of}
use Rattle.filing.specs.Layout.{entry_with, directory_of, trailer_with, trailer_of, file_length, file_of}
use Rattle.writer.specs.Writing as writes
use Rattle.schedule.specs.Segments.{segment_count, segment, segments}
use Rattle.schedule.specs.Schedule.{standing, ruled_out, keeps_open, counts, count_in, count, total, found, matches}
use Rattle.bits.specs.Bits.{bytes_for, bits_at, bits_of, bit_in}
use Rattle.bits.specs.Marked.{marked_below, marked_past, unfit_bits}
use Rattle.asking.specs.Sizes.{unfit_size}
use Rattle.asking.specs.Refusals.{lines_for_all, query_lines}
use Rattle.scan.specs.Answers as scans
use Rattle.rows.specs.RowList as lists
use Rattle.basis.specs.Refusals.{answer_of}
use Rattle.replies.specs.Replies.{scan_reply}
use Rattle.settled.specs.Questions.{answer}
use Rattle.settled.specs.Registers.{two_rows, ten_rows, ten_codes, one_byte, no_rows}
use Rattle.settled.specs.Table.{Example, table}

pub settled : map (λ (example : Example). answer example.asked) table ≡ map (λ (example : Example). example.told) table
unfolding table two_rows ten_rows ten_codes one_byte no_rows joined big pad_of slices_of
    opens.shown_for opens.open_lines trailer_in entry_in number_at little mark first_place
    unfit_column unfit_entry unfit_width width_in offset_in slices_before
    answer_of shown_for left_by writes.write_lines file_length file_of body_of column_of slice_of directory_of entry_with trailer_of trailer_with
    flatten to_little byte_of bytes_of stored_of to_big too_large scan_reply scans.scanned_of scans.accepted scans.left_in scans.found_bits
    bits_of bits_at bytes_for query_lines lines_for_all unfit_size byte_at standing ruled_out keeps_open counts count_in count total
    found matches segment_count segment segments last_slice cleared_byte lists.list_lines unfit_bits marked_past
    marked_below bit_in
settled = refl
