-- How long the parts of a file are, whatever the widths and the codes. Assumes nothing.
--   entry_of               the directory's entry for a column
--   length_entry_with      an entry has 8 bytes
--   length_entries        so many entries
--   length_directory_of    the directory has 8 bytes a column
--   length_trailer_with    the trailer has 16 bytes
--   length_file_of         the file is as long as all three
use Prim.Native.Nat.{ℕ, ◌*◌}
use native.Mathlib.Omega.{arith}
use mathlib.Core.Path.{◌≡◌, ◌∙◌}
use mathlib.Core.List.{List, map, flatten}
use lib.ListN.{length, length-append}
use Rattle.limits.specs.Limits.{entry_bytes, trailer_bytes}
use Rattle.basis.specs.Lists.{below}
use Rattle.basis.proofs.Lists.{length_flatten, sum_of_same}
use Rattle.basis.proofs.Numbers.{length_to_little}
use Rattle.directory.specs.Layout.{bytes_before}
use Rattle.table.specs.Table.{width_of}
use Rattle.slicing.proofs.Lengths.{length_body_of}
use Rattle.filing.specs.Layout.{entry_with, directory_of, trailer_with, trailer_of, file_length, file_of}

pub length_entry_with : (width offset : ℕ) → length (entry_with width offset) ≡ entry_bytes
unfolding entry_with
length_entry_with width offset = omega (arith, length_to_little 4 offset)

module _ (rows : ℕ) (widths : List ℕ) where
  abbrev pub entry_of : ℕ → List ℕ
  entry_of column = entry_with (width_of widths column) (bytes_before rows (width_of widths) column)

  pub length_entries : (n : ℕ) → length (flatten (map entry_of (below n))) ≡ entry_bytes * n
  length_entries n = length_flatten entry_of (λ column. entry_bytes) (λ column. length_entry_with _ _) n ∙ sum_of_same entry_bytes n

  pub length_directory_of : length (directory_of rows widths) ≡ entry_bytes * length widths
  unfolding directory_of
  length_directory_of = length_entries (length widths)

pub length_trailer_with : (rows columns directory : ℕ) → length (trailer_with rows columns directory) ≡ trailer_bytes
unfolding trailer_with
length_trailer_with rows columns directory = simp (length-append, length_to_little)

pub length_file_of : (rows : ℕ) (widths codes : List ℕ) → length (file_of rows widths codes) ≡ file_length rows widths
unfolding file_of file_length trailer_of
length_file_of rows widths codes =
    simp (length-append, length_body_of, length_directory_of, length_trailer_with) (omega arith)
