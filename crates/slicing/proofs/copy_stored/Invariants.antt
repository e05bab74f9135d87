-- What the loop of `copy_stored` keeps: every row passed has its stored number. Assumes nothing.
use Prim.Native.Nat.{ℕ, ◌+◌}
use Rattle.codes.specs.Bytes.{stored_of}
use Rattle.table.specs.Table.{width_of, code_of}
use Rattle.table.specs.declared.Table.{Table}
use Rattle.table.specs.ManyAtOnce.{Holds}
use Rattle.slicing.proofs.copy_stored.Given as goal

-- the stored number of a row of the block
abbrev pub stored_in : Table → ℕ → ℕ → ℕ → ℕ
stored_in table column first k =
    stored_of (width_of table.widths.now column) (code_of table.widths.now table.codes.now (first + k) column)

abbrev pub invariant-loop-k : goal.invariant-loop-k
invariant-loop-k l = Holds (stored_in l.table l.column l.first) l.k l.stored
