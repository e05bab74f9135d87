-- The promise of opening a file admits one reply. It is the call's own, every `ensures` of its source as the check reads it: of the
-- lifetimes κs, of what is lent, of the reply, and of what was lent as it stands at exit. Assumes nothing.
--   one_opening    the reply
use mathlib.Core.Path.{◌≡◌}
use Rattle.basis.proofs.SingleReply.{single_reply}
use Rattle.std.specs.Prelude.{Result}
use Rattle.refusals.specs.declared.Refusal.{Refusal}
use Rattle.register.specs.declared.Shape.{Shape}
use Rattle.register.proofs.open.Reads.{Post as Opens}

pub one_opening : (κs : _) (lent : _) (reply other : Result Shape Refusal) (exit exit' : _) →
    Opens κs lent reply exit → Opens κs lent other exit' → reply ≡ other
one_opening κs lent reply other exit exit' first second = single_reply first.0 second.0
