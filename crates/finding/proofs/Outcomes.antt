-- What is found, by how the query comes out. Assumes nothing.
--   accepted_scan    a scan that answers numbers is accepted
--   accepted_at_0    a scan whose reply has number 0 is accepted
--   text_refused     the text is refused
--   not_held         the query does not fit the file, or this does not open
--   enough           room for any register is room for this one
--   scanned_rows     the scan answers
use Prim.Native.Nat.{ℕ, ◌≤◌}
use native.Mathlib.Omega.{arith}
use mathlib.Core.Path.{◌≡◌, refl, sym, ap, ◌∙◌}
use mathlib.Core.List.{List}
use mathlib.Core.Option.{Option, none, some}
use lib.ListN.{length, get_or}
use Rattle.std.specs.Prelude.{Result, Ok, Err}
use Rattle.refusals.specs.declared.Refusal.{Refusal}
use Rattle.refusals.specs.Numbers.{told_of}
use Rattle.refusals.proofs.Numbered.{never_0}
use Rattle.basis.specs.Refusals.{Line, first_line, answer_by, answer_of}
use Rattle.basis.specs.Buffers.{laid}
use Rattle.answers.proofs.Replies.{told_is_accepted, answer_refused}
use Rattle.limits.specs.Limits.{most_rows}
use Rattle.register.specs.declared.Shape.{Shape}
use Rattle.register.proofs.Fit.{opened_is_fit, few_rows_as_opened}
use Rattle.query.specs.declared.Query.{Query}
use Rattle.text.specs.declared.Asked.{Asked}
use Rattle.asking.specs.Refusals.{asked_of}
use Rattle.asking.proofs.Asked.{opened_as_asked}
use Rattle.bits.specs.Bits.{bytes_for}
use Rattle.scan.specs.declared.Scanned.{Scanned}
use Rattle.scan.specs.Refusals.{scan_lines}
use Rattle.scan.specs.Answers.{accepted, scanned_of, found_bits}
use Rattle.scan.proofs.Outcomes.{asked_first}
use Rattle.scan.proofs.Outcomes as outcomes
use Rattle.scan.proofs.Accepting.{Accepted}
use Rattle.finding.specs.declared.Found.{Found}
use Rattle.finding.specs.Finding.{scan_for, found_of, FoundBy}
use Rattle.finding.proofs.FoundRows.{found_rows}

pub accepted_scan : (file : List ℕ) (asked : Asked) (scanned : Scanned) → scan_for file asked ≡ Ok scanned →
    Accepted file asked.size asked.query (bytes_for most_rows)
unfolding scan_for scanned_of
accepted_scan file asked scanned told =
    (told_is_accepted (scan_lines file asked.size asked.query (bytes_for most_rows)) _ scanned told).0

-- no refusal has the number 0
pub accepted_at_0 : (file : List ℕ) (size : ℕ) (query : Query) (room : ℕ) → get_or (told_of (scanned_of file size query room)) 0 0 ≡ 0 →
    Accepted file size query room
unfolding scanned_of answer_of
accepted_at_0 file size query room e = go (first_line (scan_lines file size query room)) e
  where
    go : (first : Option Line) → get_or (told_of (answer_by (λ line. Err line.refusal) (Ok (accepted file size query)) first)) 0 0 ≡ 0 →
        first ≡ none
    go none e = refl
    go (some line) e = absurd (never_0 line.refusal e)

-- a refusal finds nothing
nothing_listed : {refusal : Refusal} (listed : Found) → ◌≡◌ {A = Result Found Refusal} (Err refusal) (Ok listed) → ⊥
nothing_listed listed e = let z : ◌≡◌ {A = ℕ} 0 1 = cc in omega arith

pub text_refused : (file : List ℕ) (refusal : Refusal) (before : List ℕ) → FoundBy file (Err refusal) before before (Err refusal)
text_refused file refusal before =
    record { answer = refl; bits = refl; rows = λ listed e. absurd (nothing_listed listed e) }

module _ (file : List ℕ) (asked : Asked) where
  pub not_held : (before : List ℕ) (refusal : Refusal) → asked_of file asked.size asked.query ≡ Err refusal →
      FoundBy file (Ok asked) before before (Err refusal)
  unfolding scan_for scanned_of
  not_held before refusal unfit =
      let by = asked_first file asked.size asked.query (bytes_for most_rows) refusal unfit in
      let refused = answer_refused (scan_lines file asked.size asked.query (bytes_for most_rows)) (accepted file asked.size asked.query) by.1 in
      record {
        answer = sym (ap (found_of file asked.query) refused ∙ ap Err by.2);
        bits = (outcomes.unasked file asked.size asked.query before refusal unfit).left;
        rows = λ listed e. absurd (nothing_listed listed e);
      }

  module _ (shape : Shape) (held : asked_of file asked.size asked.query ≡ Ok shape) where
    -- room for any register is room for this one
    pub enough : bytes_for shape.rows ≤ bytes_for most_rows
    unfolding bytes_for
    enough = omega (arith, few_rows_as_opened file shape (opened_as_asked file asked.size asked.query shape held))

    pub scanned_rows : (scanned : Scanned) (before after : List ℕ) → scanned ≡ accepted file asked.size asked.query →
        after ≡ laid before 0 (found_bits file asked.query) → length before ≡ bytes_for most_rows →
        FoundBy file (Ok asked) before after
        (Ok (record { shape = shape; matches = scanned.matches; counts = scanned.counts; query = asked.query }))
    unfolding scan_for
    scanned_rows scanned before after answered written long =
        let opened = opened_as_asked file asked.size asked.query shape held in
        let both = outcomes.scanned file asked.size asked.query before shape held (rw long enough) answered written in
        let told : Ok scanned ≡ scanned_of file asked.size asked.query (bytes_for most_rows) =
        both.answer ∙ ap (scanned_of file asked.size asked.query) long in
        let same = (opened_is_fit file shape opened).1 in
        record {
          answer = rw same (ap (found_of file asked.query) told);
          bits = both.left;
          rows = λ listed e.
              let query : asked.query ≡ listed.query = cc in
              rw (← query, both.left)
              (found_rows file asked.size asked.query before (rw long (accepted_scan file asked scanned (sym told))));
        }
