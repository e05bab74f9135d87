-- The promise of writing admits one reply and one content of the output. It is the call's own promise, every `ensures` of its
-- source as the check reads it: of the lifetimes κs, of what is lent, of the reply, and of what was lent as it stands at exit.
-- Assumes nothing.
--   one_writing    the reply, and what the output, the last that is lent, holds at exit
use mathlib.Core.Path.{◌≡◌}
use Rattle.basis.proofs.SingleReply.{single_reply}
use Prim.Native.Nat.{ℕ}
use Rattle.std.specs.Prelude.{Result}
use Rattle.refusals.specs.declared.Refusal.{Refusal}
use Rattle.writer.proofs.write.Reads.{Post as Writes}

pub one_writing : (κs : _) (lent : _) (reply other : Result ℕ Refusal) (exit exit' : _) →
    Writes κs lent reply exit → Writes κs lent other exit' → (reply ≡ other) × (exit.1.1.1.0.now ≡ exit'.1.1.1.0.now)
one_writing κs lent reply other exit exit' first second =
    (single_reply first.0 second.0, single_reply first.1.1 second.1.1)
