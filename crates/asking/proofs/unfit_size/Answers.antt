-- `asking::unfit_size` meets its contract: the sizes that are matched are those of the list. Assumes nothing.
use mathlib.Core.Path.{sym}
use Rattle.asking.proofs.Sizes.{listed_is_fit, other_is_unfit}
use Rattle.asking.proofs.unfit_size.Goals as goal

pub returns-in-8 : goal.returns-in-8
returns-in-8 c = sym (listed_is_fit c.args.size c.in-8.is)

pub returns-in_default : goal.returns-in_default
returns-in_default c = search (other_is_unfit c.args.size)
