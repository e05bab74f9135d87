-- `table::first_unfit` meets its contract: the place that is found among the widths is the first. Assumes nothing.
use mathlib.Core.Path.{◌≡◌}
use mathlib.Core.Bool.{true, false}
use borrow.Author.Rules.{rules}
use borrow.Author.Tests.{tests}
use Rattle.std.proofs.lemmas.Iterator.{IsFirst-from_position, YieldsList-from_slice}
use Rattle.basis.proofs.Places.{found_in_list}
use Rattle.codes.specs.Width.{unfit_width}
use Rattle.table.proofs.first_unfit.Goals as goal

pub returns : goal.returns
returns c =
    let widths = c.args.widths.now in
    let first = IsFirst-from_position _ _ _ (λ x. unfit_width x ≡ true) (λ x. unfit_width x ≡ false) c.position.ensures.ran
    (YieldsList-from_slice widths cc) (λ x q k. search (rules, tests)) (λ x q k. search (rules, tests)) in
    found_in_list unfit_width widths c.position.result first
