-- What the loop of `write_widths` keeps: the widths of the columns passed stand at the front. Assumes nothing.
use mathlib.Core.List.{map}
use Rattle.basis.specs.Lists.{below}
use Rattle.basis.proofs.Buffers.{Filled}
use Rattle.directory.specs.File.{width_in}
use Rattle.widths.proofs.write_widths.Given as goal

abbrev pub invariant-loop-column : goal.invariant-loop-column
invariant-loop-column l = Filled l.initial.out 0 (map (width_in l.register.file.now) (below l.column)) l.out
