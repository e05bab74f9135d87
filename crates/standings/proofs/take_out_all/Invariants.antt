-- What the loop of `take_out_all` keeps: the tests up to one have taken out their rows. Assumes nothing.
use Rattle.basis.specs.Sweeps.{Swept}
use Rattle.standings.specs.TakenOut.{taken_out_by_all}
use Rattle.standings.proofs.take_out_all.Given as goal

abbrev pub invariant-loop-t : goal.invariant-loop-t
invariant-loop-t g l =
    Swept l.initial.inside l.inside 0 l.n (taken_out_by_all g.R.Ruling.takes_out l.query.tests l.t l.standings l.initial.inside)
