-- How large everything may be. Each limit has its one name here, and a bound elsewhere is a product of these names. Assumes nothing.
use Rattle.std.specs.Prelude.{ℕ, ◌+◌, ◌*◌, ◌^◌}

-- a register: rows 0 to 1,048,576, columns 1 to 32
abbrev pub most_rows : ℕ
most_rows = 1048576

abbrev pub most_columns : ℕ
most_columns = 32

-- a column: at most 32 bits wide, and then in 4 slices
abbrev pub widest : ℕ
widest = 32

abbrev pub most_slices : ℕ
most_slices = 4

-- a file ends with a directory of 8 bytes a column and a trailer of 16; a number in them has at most four bytes
abbrev pub entry_bytes : ℕ
entry_bytes = 8

abbrev pub trailer_bytes : ℕ
trailer_bytes = 16

abbrev pub four_bytes : ℕ
four_bytes = 256 ^ 4

-- a query has 0 to 16 tests, and a decimal in its text is below 2^32
abbrev pub most_tests : ℕ
most_tests = 16

abbrev pub decimal_limit : ℕ
decimal_limit = 2 ^ 32

-- its replies in numbers: reading answers five and three for each slot, scanning five and one for each
abbrev pub read_numbers : ℕ
read_numbers = 5 + 3 * most_tests

abbrev pub scan_numbers : ℕ
scan_numbers = 5 + most_tests

-- a segment has at most 64 rows
abbrev pub longest_segment : ℕ
longest_segment = 64

-- a scan keeps a standing for each test and row of a segment
abbrev pub standing_places : ℕ
standing_places = most_tests * longest_segment

-- the writer takes rows by blocks of 256
abbrev pub block_rows : ℕ
block_rows = 256

-- it looks at the codes of eight rows at once
abbrev pub longest_period : ℕ
longest_period = 8 * most_columns

-- the program takes files of up to 65,536 bytes and texts of up to 4,096
abbrev pub most_file : ℕ
most_file = 65536

abbrev pub most_text : ℕ
most_text = 4096

-- a number has at most 20 decimals, a cell of a listing these and a space, and no line of a listing has more than 1,000 bytes
abbrev pub longest_decimal : ℕ
longest_decimal = 20

abbrev pub longest_cell : ℕ
longest_cell = 1 + longest_decimal

abbrev pub longest_line : ℕ
longest_line = 1000
