-- The promises of the calls for C and Rust admit one reply each, and one content of each buffer. Each promise is the call's own, its
-- `ensures` as the check reads them: of the lifetimes κs, of what is lent, and of what was lent as it stands at exit, the reply last.
-- A call answers nothing else, so its result r is the same in all. Assumes nothing.
--   one_read, one_scan    said of the definitions, by what the text asks
--   one_bsl_..            a theorem for each call
use Prim.Native.Nat.{ℕ}
use mathlib.Core.Path.{◌≡◌, sym, ap, ◌∙◌}
use mathlib.Core.List.{List}
use lib.ListN.{length}
use Rattle.basis.proofs.SingleReply.{single_reply as alone}
use Rattle.std.specs.Prelude.{Result}
use Rattle.refusals.specs.declared.Refusal.{Refusal}
use Rattle.text.specs.declared.Asked.{Asked}
use Rattle.text.proofs.SingleReply.{single_reply}
use Rattle.replies.specs.Replies.{read_reply, scan_reply}
use Rattle.exports.specs.Asked.{ReadReplied, ScanReplied, scan_of, result_of}
use Rattle.exports.proofs.bsl_open.Reads.{Post as Opens}
use Rattle.exports.proofs.bsl_widths.Reads.{Post as Measures}
use Rattle.exports.proofs.bsl_write.Reads.{Post as Writes}
use Rattle.exports.proofs.bsl_read.Reads.{Post as Reading}
use Rattle.exports.proofs.bsl_scan.Reads.{Post as Scans}
use Rattle.exports.proofs.bsl_list.Reads.{Post as Lists}
use Rattle.exports.proofs.bsl_lookup.Reads.{Post as LooksUp}

pub one_read : (text reply other : List ℕ) → ReadReplied text reply → ReadReplied text other → reply ≡ other
one_read text reply other first second =
    first.1.1 ∙ ap read_reply (single_reply first.1.0 second.1.0) ∙ sym second.1.1

pub one_scan : (file text before after left reply other : List ℕ) → ScanReplied file text before after reply →
    ScanReplied file text before left other → (reply ≡ other) × (after ≡ left)
one_scan file text before after left reply other first second =
    let same = single_reply first.1.0 second.1.0 in (
      first.1.1.0 ∙ ap (λ (asked : Result Asked Refusal). scan_reply (scan_of file asked (length before))) same ∙ sym second.1.1.0,
      first.1.1.1 ∙ ap (λ (asked : Result Asked Refusal). result_of file asked before) same ∙ sym second.1.1.1,
    )

pub one_bsl_open : (κs : _) (lent : _) (r : _) (exit exit' : _) → Opens κs lent r exit → Opens κs lent r exit' →
    exit.1.0.now ≡ exit'.1.0.now
one_bsl_open κs lent r exit exit' first second = alone first second

pub one_bsl_widths : (κs : _) (lent : _) (r : _) (exit exit' : _) → Measures κs lent r exit → Measures κs lent r exit' →
    (exit.1.1.0.now ≡ exit'.1.1.0.now) × (exit.1.0.now ≡ exit'.1.0.now)
one_bsl_widths κs lent r exit exit' first second = (alone first.0 second.0, alone first.1 second.1)

pub one_bsl_write : (κs : _) (lent : _) (r : _) (exit exit' : _) → Writes κs lent r exit → Writes κs lent r exit' →
    (exit.1.1.1.1.0.now ≡ exit'.1.1.1.1.0.now) × (exit.1.1.1.0.now ≡ exit'.1.1.1.0.now)
one_bsl_write κs lent r exit exit' first second = (alone first.0 second.0, alone first.1 second.1)

pub one_bsl_read : (κs : _) (lent : _) (r : _) (exit exit' : _) → Reading κs lent r exit → Reading κs lent r exit' →
    exit.1.0.now ≡ exit'.1.0.now
one_bsl_read κs lent r exit exit' first second = one_read _ _ _ first second

pub one_bsl_scan : (κs : _) (lent : _) (r : _) (exit exit' : _) → Scans κs lent r exit → Scans κs lent r exit' →
    (exit.1.1.1.0.now ≡ exit'.1.1.1.0.now) × (exit.1.1.0.now ≡ exit'.1.1.0.now)
one_bsl_scan κs lent r exit exit' first second = one_scan _ _ _ _ _ _ _ first second

pub one_bsl_list : (κs : _) (lent : _) (r : _) (exit exit' : _) → Lists κs lent r exit → Lists κs lent r exit' →
    (exit.1.1.1.0.now ≡ exit'.1.1.1.0.now) × (exit.1.1.0.now ≡ exit'.1.1.0.now)
one_bsl_list κs lent r exit exit' first second = (alone first.0 second.0, alone first.1 second.1)

pub one_bsl_lookup : (κs : _) (lent : _) (r : _) (exit exit' : _) → LooksUp κs lent r exit → LooksUp κs lent r exit' →
    (exit.1.1.1.1.0.now ≡ exit'.1.1.1.1.0.now) × (exit.1.1.1.0.now ≡ exit'.1.1.1.0.now)
one_bsl_lookup κs lent r exit exit' first second = (alone first.0 second.0, alone first.1 second.1)
