-- What stands where in a file. Numbers in the directory and the trailer are least significant byte first. Assumes nothing.
use Rattle.std.specs.Prelude.{ℕ, ◌+◌, ◌-◌, ◌*◌, List, [], ◌∷◌, Bool, not, ◌||◌, eqb, length, get_or, take, drop}
use Rattle.limits.specs.Limits.{entry_bytes, trailer_bytes}
use Rattle.basis.specs.Numbers.{little, number_at}
use Rattle.codes.specs.Width.{unfit_width}
use Rattle.directory.specs.Layout.{bytes_before}

-- the trailer: the last 16 bytes
unfoldable pub trailer_in : List ℕ → List ℕ
trailer_in file = drop (length file - trailer_bytes) file

-- in it: rows (4 bytes), columns (2), version (2), offset of the directory (4), mark (4)
abbrev pub rows_in : List ℕ → ℕ
rows_in file = number_at (trailer_in file) 0 4

abbrev pub columns_in : List ℕ → ℕ
columns_in file = number_at (trailer_in file) 4 2

abbrev pub version_in : List ℕ → ℕ
version_in file = number_at (trailer_in file) 6 2

abbrev pub directory_in : List ℕ → ℕ
directory_in file = number_at (trailer_in file) 8 4

abbrev pub mark_in : List ℕ → ℕ
mark_in file = number_at (trailer_in file) 12 4

-- the mark 42 53 4C 31, and the number that its bytes make
abbrev pub mark_bytes : List ℕ
mark_bytes = 0x42 ∷ 0x53 ∷ 0x4C ∷ 0x31 ∷ []

unfoldable pub mark : ℕ
mark = little mark_bytes

-- the directory: 8 bytes a column
unfoldable pub entry_in : List ℕ → ℕ → List ℕ
entry_in file column = take entry_bytes (drop (directory_in file + entry_bytes * column) file)

-- in an entry: width (1 byte), three spare bytes, offset of the column's slice 1 (4)
abbrev pub entry_width : List ℕ → ℕ
entry_width entry = get_or entry 0 0

abbrev pub entry_spare : List ℕ → ℕ
entry_spare entry = number_at entry 1 3

abbrev pub entry_offset : List ℕ → ℕ
entry_offset entry = number_at entry 4 4

unfoldable pub width_in : List ℕ → ℕ → ℕ
width_in file column = entry_width (entry_in file column)

unfoldable pub offset_in : List ℕ → ℕ → ℕ
offset_in file column = entry_offset (entry_in file column)

-- an entry is unfit by its width, by a spare byte that is not 0, or by an offset that is not where the column is to start
unfoldable pub unfit_entry : List ℕ → ℕ → Bool
unfit_entry entry offset = unfit_width (entry_width entry) || (not (eqb (entry_spare entry) 0) || not (eqb (entry_offset entry) offset))

-- so is a column of a file, which is to start after the slices of all columns before it
unfoldable pub unfit_column : List ℕ → ℕ → Bool
unfit_column file column = unfit_entry (entry_in file column) (bytes_before (rows_in file) (width_in file) column)
