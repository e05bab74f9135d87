-- `standings::take_out_all` meets its contract: a turn adds one test to those that have taken out their rows. Assumes nothing.
use Prim.Native.Nat.{◌<◌}
use native.Mathlib.Omega.{arith}
use Rattle.std.proofs.Common.{length-take}
use Rattle.std.proofs.lemmas.List.{get_or-take}
use Rattle.standings.proofs.TakenOut.{one_more_takes_out}
use Rattle.standings.proofs.take_out_all.Goals as goal

pub loop-t-preserved : goal.loop-t-preserved
loop-t-preserved g c =
    let query = c.args.query.now in
    let next : c.loop-t.t < query.count = omega (arith, length-take query.count query.tests) in
    one_more_takes_out g.R.Ruling.takes_out query.tests c.args.standings.now _ _ c.loop-t.t c.loop-t.invariant
    (rw get_or-take at c.rule.ensures)
