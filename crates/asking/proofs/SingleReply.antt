-- The promise of asking admits one reply. It is the call's own promise, every `ensures` of its source as the check reads it: of the
-- lifetimes κs, of what is lent, of the reply, and of what was lent as it stands at exit. Assumes nothing.
--   one_asking    the reply
use mathlib.Core.Path.{◌≡◌}
use Rattle.basis.proofs.SingleReply.{single_reply}
use Rattle.std.specs.Prelude.{Result}
use Rattle.refusals.specs.declared.Refusal.{Refusal}
use Rattle.register.specs.declared.Shape.{Shape}
use Rattle.asking.proofs.ask.Reads.{Post as Asks}

pub one_asking : (κs : _) (lent : _) (reply other : Result Shape Refusal) (exit exit' : _) →
    Asks κs lent reply exit → Asks κs lent other exit' → reply ≡ other
one_asking κs lent reply other exit exit' first second = single_reply first.0 second.0
