-- The promise of reading admits one reply: two replies to one text are the same. Assumes nothing.
--   single_reply    said of the definition
--   one_reading     said of the call's own promise, its `ensures` as the check reads it: of the lifetimes κs, of what is lent, of
--                   the reply and of what was lent as it stands at exit
use Prim.Native.Nat.{ℕ}
use mathlib.Core.Path.{◌≡◌, sym, subst, ◌∙◌}
use mathlib.Core.List.{List, ◌++◌}
use Rattle.query.specs.declared.Test.{Test}
use Rattle.std.specs.Prelude.{Result, Ok, Err}
use Rattle.refusals.specs.declared.Refusal.{Refusal}
use Rattle.refusals.specs.declared.Refusal.TheVariants.{TooManyTests, MalformedText}
use Rattle.text.specs.declared.Asked.{Asked}
use Rattle.query_lines.specs.Lines.{text_of, BeginsSegment}
use Rattle.text.specs.Reading.{Formed, Reads}
use Rattle.text.proofs.read.Reads.{Post as Reading}
use Rattle.text.proofs.Replies.{same_lines, begins_with_segment, reply_to, Taken, taken}

pub single_reply : {text : List ℕ} {first second : Result Asked Refusal} → Reads text first → Reads text second → first ≡ second
single_reply {text} {first} {second} one other = agree (taken one) (taken other)
  where
    begins : (size : ℕ) (tests : List Test) (rest : List ℕ) → Formed size tests → text ≡ text_of size tests ++ rest → BeginsSegment text
    begins size tests rest formed e = subst BeginsSegment (sym e) (begins_with_segment size tests rest formed)

    agree : Taken text first → Taken text second → first ≡ second
    agree (Taken.no_line_0 none is) (Taken.no_line_0 never was) = is ∙ sym was
    agree (Taken.no_line_0 none is) (Taken.lines size tests rest formed ends e was) = absurd (none (begins size tests rest formed e))
    agree (Taken.lines size tests rest formed ends e is) (Taken.no_line_0 none was) = absurd (none (begins size tests rest formed e))
    agree (Taken.lines size tests rest formed ends e is) (Taken.lines other others left small stops d was) =
        let same = same_lines size other tests others formed small ends stops (sym e ∙ d) in
        is ∙ (λ i. reply_to (same.0 i) (same.1 i) (same.2 i)) ∙ sym was

pub one_reading : (κs : _) (lent : _) (reply other : Result Asked Refusal) (exit exit' : _) →
    Reading κs lent reply exit → Reading κs lent other exit' → reply ≡ other
one_reading κs lent reply other exit exit' first second = single_reply first second
