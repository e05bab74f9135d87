-- The one file of a register: rows, the widths of its columns, and its codes row after row. Assumes nothing.
use Rattle.std.specs.Prelude.{ℕ, ◌+◌, ◌*◌, length}
use mathlib.Core.List.{List, ◌∷◌, ◌++◌, map, flatten}
use Rattle.limits.specs.Limits.{entry_bytes, trailer_bytes}
use Rattle.basis.specs.Lists.{below}
use Rattle.basis.specs.Numbers.{to_little}
use Rattle.directory.specs.Layout.{bytes_before}
use Rattle.directory.specs.File.{mark_bytes}
use Rattle.table.specs.Table.{width_of}
use Rattle.slicing.specs.Body.{body_of}

-- an entry of the directory: width, three zero bytes, offset of the column's slice 1 (4 bytes)
unfoldable pub entry_with : ℕ → ℕ → List ℕ
entry_with width offset = width ∷ 0 ∷ 0 ∷ 0 ∷ to_little 4 offset

-- the trailer: rows (4 bytes), columns (2), version 1 (2), offset of the directory (4), mark
unfoldable pub trailer_with : ℕ → ℕ → ℕ → List ℕ
trailer_with rows columns directory =
    to_little 4 rows ++ (to_little 2 columns ++ (to_little 2 1 ++ (to_little 4 directory ++ mark_bytes)))

module _ (rows : ℕ) (widths : List ℕ) where
  -- the directory: an entry a column
  unfoldable pub directory_of : List ℕ
  directory_of =
      flatten (map (λ column. entry_with (width_of widths column) (bytes_before rows (width_of widths) column)) (below (length widths)))

  unfoldable pub trailer_of : List ℕ
  trailer_of = trailer_with rows (length widths) (bytes_before rows (width_of widths) (length widths))

  -- how long the file is
  unfoldable pub file_length : ℕ
  file_length = bytes_before rows (width_of widths) (length widths) + entry_bytes * length widths + trailer_bytes

-- the file: body, directory, trailer
unfoldable pub file_of : ℕ → List ℕ → List ℕ → List ℕ
file_of rows widths codes = body_of rows widths codes ++ (directory_of rows widths ++ trailer_of rows widths)
