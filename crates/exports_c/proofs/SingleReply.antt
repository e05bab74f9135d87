-- The promises of the calls by their C names admit one reply each, and one content of each buffer: they are those of `exports`, whose theorems
-- say it. Assumes nothing.
--   one_bsl_..            a theorem for each call
use mathlib.Core.Path.{◌≡◌}
use Rattle.exports.proofs.SingleReply as calls
use Rattle.exports_c.proofs.bsl_open.Reads.{Post as Opens}
use Rattle.exports_c.proofs.bsl_widths.Reads.{Post as Measures}
use Rattle.exports_c.proofs.bsl_write.Reads.{Post as Writes}
use Rattle.exports_c.proofs.bsl_read.Reads.{Post as Reading}
use Rattle.exports_c.proofs.bsl_scan.Reads.{Post as Scans}
use Rattle.exports_c.proofs.bsl_list.Reads.{Post as Lists}
use Rattle.exports_c.proofs.bsl_lookup.Reads.{Post as LooksUp}

pub one_bsl_open : (κs : _) (lent : _) (r : _) (exit exit' : _) → Opens κs lent r exit → Opens κs lent r exit' →
    exit.1.0.now ≡ exit'.1.0.now
one_bsl_open κs lent r exit exit' first second = calls.one_bsl_open κs lent r exit exit' first second

pub one_bsl_widths : (κs : _) (lent : _) (r : _) (exit exit' : _) → Measures κs lent r exit → Measures κs lent r exit' →
    (exit.1.1.0.now ≡ exit'.1.1.0.now) × (exit.1.0.now ≡ exit'.1.0.now)
one_bsl_widths κs lent r exit exit' first second = calls.one_bsl_widths κs lent r exit exit' first second

pub one_bsl_write : (κs : _) (lent : _) (r : _) (exit exit' : _) → Writes κs lent r exit → Writes κs lent r exit' →
    (exit.1.1.1.1.0.now ≡ exit'.1.1.1.1.0.now) × (exit.1.1.1.0.now ≡ exit'.1.1.1.0.now)
one_bsl_write κs lent r exit exit' first second = calls.one_bsl_write κs lent r exit exit' first second

pub one_bsl_read : (κs : _) (lent : _) (r : _) (exit exit' : _) → Reading κs lent r exit → Reading κs lent r exit' →
    exit.1.0.now ≡ exit'.1.0.now
one_bsl_read κs lent r exit exit' first second = calls.one_bsl_read κs lent r exit exit' first second

pub one_bsl_scan : (κs : _) (lent : _) (r : _) (exit exit' : _) → Scans κs lent r exit → Scans κs lent r exit' →
    (exit.1.1.1.0.now ≡ exit'.1.1.1.0.now) × (exit.1.1.0.now ≡ exit'.1.1.0.now)
one_bsl_scan κs lent r exit exit' first second = calls.one_bsl_scan κs lent r exit exit' first second

pub one_bsl_list : (κs : _) (lent : _) (r : _) (exit exit' : _) → Lists κs lent r exit → Lists κs lent r exit' →
    (exit.1.1.1.0.now ≡ exit'.1.1.1.0.now) × (exit.1.1.0.now ≡ exit'.1.1.0.now)
one_bsl_list κs lent r exit exit' first second = calls.one_bsl_list κs lent r exit exit' first second

pub one_bsl_lookup : (κs : _) (lent : _) (r : _) (exit exit' : _) → LooksUp κs lent r exit → LooksUp κs lent r exit' →
    (exit.1.1.1.1.0.now ≡ exit'.1.1.1.1.0.now) × (exit.1.1.1.0.now ≡ exit'.1.1.1.0.now)
one_bsl_lookup κs lent r exit exit' first second = calls.one_bsl_lookup κs lent r exit exit' first second
