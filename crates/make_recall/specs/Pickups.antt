-- The codes of a pickup, by its row. Assumes nothing.
use Rattle.std.specs.Prelude.{ℕ, zero, suc, ◌+◌, ◌-◌, ◌*◌, ◌/◌, ◌%◌}

-- a lot is good for forty pickups; two in eleven still get a crystal of the lot before
abbrev pub lot_of : ℕ → ℕ
lot_of row = 1700 + row / 40 - row % 11 / 9

-- a new issue every 800 pickups; two in fifty still get a board of the issue before
abbrev pub issue_of : ℕ → ℕ
issue_of row = 3 + row / 800 - row % 50 / 48

-- twelve benches in turn, and the turn moves on every 90 pickups
abbrev pub bench_of : ℕ → ℕ
bench_of row = (row % 12 * 7 + row / 90) % 12

-- six sites, sixteen pickups a crate; one in five is kept back for the next site
abbrev pub site_of : ℕ → ℕ
site_of row = (row / 16 + row % 5 / 4) % 6

-- the code in a column
abbrev pub code_of : ℕ → ℕ → ℕ
code_of row zero = lot_of row
code_of row (suc zero) = issue_of row
code_of row (suc (suc zero)) = bench_of row
code_of row (suc (suc (suc column))) = site_of row

-- the codes row after row, four a row
abbrev pub code_at : ℕ → ℕ
code_at at = code_of (at / 4) (at % 4)
