-- The promise of a scan admits one reply and one content of the result. It is the call's own promise, every `ensures` of its
-- source as the check reads it: of the lifetimes κs, of what is lent, of the reply, and of what was lent as it stands at exit.
-- Assumes nothing.
--   one_scan    the reply, and what the result, the last that is lent, holds at exit
use mathlib.Core.Path.{◌≡◌}
use Rattle.basis.proofs.SingleReply.{single_reply}
use Rattle.std.specs.Prelude.{Result}
use Rattle.refusals.specs.declared.Refusal.{Refusal}
use Rattle.scan.specs.declared.Scanned.{Scanned}
use Rattle.scan.proofs.scan.Reads.{Post as Scans}

pub one_scan : (κs : _) (lent : _) (reply other : Result Scanned Refusal) (exit exit' : _) →
    Scans κs lent reply exit → Scans κs lent other exit' → (reply ≡ other) × (exit.1.1.1.0.now ≡ exit'.1.1.1.0.now)
one_scan κs lent reply other exit exit' first second =
    (single_reply first.0 second.0, single_reply first.1 second.1)
