-- A call over a file tries the lines of opening first, and then its own: a file's refusal is passed on as it is, and a file
-- that opens leaves the rest to the call. Assumes nothing.
--   refusal_passed_on   of a file that does not open, the line that refused it answers, whatever the call's own lines say
--   file_refused        and the call answers with its refusal, its buffer as it was
--   own_lines_next      of a file that opens, the call's own lines are left
use mathlib.Core.Path.{◌≡◌, sym, ap, ◌∙◌}
use mathlib.Core.List.{List, ◌++◌}
use mathlib.Core.Option.{some}
use Prim.Native.Nat.{ℕ}
use Rattle.std.specs.Prelude.{Result, Ok, Err}
use Rattle.refusals.specs.declared.Refusal.{Refusal}
use Rattle.basis.specs.Refusals.{Line, first_line}
use Rattle.basis.proofs.Refusals.{Past, first_of_earlier, first_of_later}
use Rattle.answers.proofs.Replies.{Replied, refused_by, refusal_told}
use Rattle.register.specs.declared.Shape.{Shape}
use Rattle.register.specs.Opening.{open_lines, shape_in, opened_of}
use Rattle.register.proofs.Fit.{opened_passes}

module _ (file : List ℕ) (own : List Line) where
  pub refusal_passed_on : (refusal : Refusal) → opened_of file ≡ Err refusal →
      (line : Line) × (first_line (open_lines file ++ own) ≡ some line) × (line.refusal ≡ refusal)
  unfolding opened_of
  refusal_passed_on refusal e =
      let by = refusal_told (open_lines file) (shape_in file) refusal e in
      (by.0, first_of_earlier (open_lines file) own by.0 by.1, by.2)

  pub file_refused : {A : Type 0} (elements : ℕ) (list out : List A) (refusal : Refusal) → opened_of file ≡ Err refusal →
      Replied (open_lines file ++ own) elements list out (Err refusal) out
  file_refused elements list out refusal not_opened =
      let by = refusal_passed_on refusal not_opened in
      rw (← by.2) (refused_by _ elements list out by.1)

  pub own_lines_next : (shape : Shape) → opened_of file ≡ Ok shape → Past (open_lines file ++ own) own
  own_lines_next shape e = record { alike = first_of_later (open_lines file) own (opened_passes file shape e) }
