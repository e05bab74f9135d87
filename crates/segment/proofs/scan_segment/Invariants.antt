-- The three loops of `segment::scan_segment`, over slices, tests and rows: what each keeps. Assumes nothing.
--   work_of    the work on the segment, by the parameters
use Prim.Native.Nat.{ℕ, ◌≤◌}
use mathlib.Core.Path.{◌≡◌}
use mathlib.Core.List.{List}
use mathlib.Core.Bool.{true}
use Rattle.basis.specs.Lists.{sum, below}
use Rattle.query.specs.declared.Query.{Query}
use Rattle.segment.proofs.Work.{Work}
use Rattle.segment.proofs.Progress.{Progress}
use Rattle.segment.proofs.OpenRows.{open_in}
use Rattle.segment.proofs.scan_segment.Given as goal

-- the work on the segment, by the parameters
abbrev pub work_of : List ℕ → ℕ → ℕ → Query → Work
work_of file first n query = record { file = file; query = query; first = first; n = n }

abbrev pub invariant-slices : goal.invariant-slices
invariant-slices l = Progress (work_of l.register.file.now l.first l.n l.query) l.j 0 l.standings l.inside l.counts true

abbrev pub invariant-tests : goal.invariant-tests
invariant-tests l = Progress (work_of l.register.file.now l.first l.n l.query) l.j l.t l.standings l.inside l.counts l.closed

abbrev pub invariant-rows : goal.invariant-rows
invariant-rows l = (l.«open» ≤ l.r) × (l.«open» ≡ sum (open_in l.standings l.base l.inside) (below l.r))
