-- What the loop of `write_directory` keeps: every column passed has its entry, and its slices are counted. Assumes nothing.
use mathlib.Core.List.{map, flatten}
use Rattle.basis.specs.Lists.{below}
use Rattle.basis.proofs.Buffers.{Filled}
use Rattle.table.proofs.Columns.{Counted}
use Rattle.filing.proofs.Lengths.{entry_of}
use Rattle.filing.proofs.write_directory.Given as goal

abbrev pub invariant-loop-column : goal.invariant-loop-column
invariant-loop-column l =
    let widths = l.table.widths.now in
    Counted widths l.slices l.column × Filled l.initial.out l.at (flatten (map (entry_of l.table.rows widths) (below l.column))) l.out
