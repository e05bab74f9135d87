-- `slicing::write_run` meets its contract: every number passed has its byte in its place. Assumes nothing.
use native.Mathlib.Omega.{arith}
use Rattle.basis.proofs.Buffers.{filled_element}
use Rattle.slicing.proofs.write_run.Invariants.{byte_in}
use Rattle.slicing.proofs.write_run.Goals as goal

pub loop-k-preserved : goal.loop-k-preserved
loop-k-preserved c =
    let turn = c.loop-k in
    let args = c.args in
    filled_element _ _ (byte_in args.stored.now args.shift) turn.k turn.invariant (omega arith)
