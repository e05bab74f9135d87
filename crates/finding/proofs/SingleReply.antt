-- The promise of finding admits one answer and one content of the bits. Assumes nothing.
--   one_found    of a file and a text
--   one_find     `find`, by its own promise: its `ensures` as the check reads it, of the lifetimes κs, of what is lent, of the answer, and
--                of what was lent as it stands at exit, the bits last
use Prim.Native.Nat.{ℕ}
use mathlib.Core.Path.{◌≡◌, sym, ap, ◌∙◌}
use mathlib.Core.List.{List}
use Rattle.std.specs.Prelude.{Result}
use Rattle.refusals.specs.declared.Refusal.{Refusal}
use Rattle.text.specs.declared.Asked.{Asked}
use Rattle.text.proofs.SingleReply.{single_reply}
use Rattle.finding.specs.declared.Found.{Found}
use Rattle.finding.specs.Finding.{found_for, bits_for, FoundIn}
use Rattle.finding.proofs.find.Reads.{Post as Finds}

pub one_found : (file text before : List ℕ) {after other : List ℕ} {found again : Result Found Refusal} → FoundIn file text before after found →
    FoundIn file text before other again → (found ≡ again) × (after ≡ other)
one_found file text before first second =
    let same = single_reply first.1.0 second.1.0 in (
      first.1.1.answer ∙ ap (found_for file) same ∙ sym second.1.1.answer,
      first.1.1.bits ∙ ap (λ (asked : Result Asked Refusal). bits_for file asked before) same ∙ sym second.1.1.bits,
    )

pub one_find : (κs : _) (lent : _) (found again : Result Found Refusal) (exit exit' : _) → Finds κs lent found exit → Finds κs lent again exit' →
    (found ≡ again) × (exit.1.1.0.now ≡ exit'.1.1.0.now)
one_find κs lent found again exit exit' first second = one_found _ _ _ first second
