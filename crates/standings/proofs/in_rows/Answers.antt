-- `standings::in_rows` meets its contract: before the first row all is 0. Assumes nothing.
use native.Mathlib.Omega.{arith}
use mathlib.Core.Path.{refl, ◌∙◌}
use borrow.Author.Tests.{le-ltb}
use Rattle.limits.specs.Limits.{longest_segment}
use Rattle.basis.proofs.FrontSweeps.{all_zero}
use Rattle.standings.proofs.in_rows.Goals as goal

pub loop-r-init : goal.loop-r-init
loop-r-init c = (refl, λ k. all_zero longest_segment k ∙ rw (le-ltb k 0 (omega arith)))
