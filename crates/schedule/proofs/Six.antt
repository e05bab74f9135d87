-- The machine of the six comparisons meets what the laws of the schedule ask. Assumes nothing.
--   comparing_lawful     so every law of the schedule holds of it
use Prim.Native.Nat.{Ordering}
use Rattle.basis.proofs.Truth.{refuted}
use Rattle.schedule.specs.Machine.{Lawful}
use Rattle.schedule.specs.Comparisons.{ruled_out_when, comparing}
use Rattle.schedule.proofs.RuledOutWhen.{none_out_at_first, settled_stands, out_differs, out_is_false}

-- The six comparisons, by one argument: what is ruled out is not equal so far, so it stands as it is.
pub comparing_lawful : Lawful comparing
comparing_lawful =
    record {
      settled = λ t slice s b differs. settled_stands s _ differs;
      stays_out = λ t slice s b within out. rw (settled_stands s _ (out_differs t.comparison s out)) out;
      stays_out_past = λ t after s past out. out;
      out_is_not_found = λ t after s past out. out_is_false t.comparison s out;
      starts_equal = λ t. tt;
      starts_in = λ t has. refuted (ruled_out_when t.comparison Ordering.eq) (none_out_at_first t.comparison);
    }
