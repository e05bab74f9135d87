-- `asking::ask` meets its contract: opening first, then each test of the code is a line of the table, in its order. Assumes nothing.
use mathlib.Core.Path.{◌≡◌, sym, ◌∙◌}
use native.Mathlib.Omega.{arith}
use mathlib.Core.Bool.{false}
use lib.ListN.{length}
use Rattle.std.specs.Prelude.{Result, Ok}
use Rattle.std.proofs.lemmas.Result.{err_from_is_err_and}
use Rattle.refusals.specs.declared.Refusal.{Refusal}
use Rattle.limits.specs.Limits.{most_tests}
use Rattle.register.specs.declared.Shape.{Shape}
use Rattle.register.specs.Opening.{opened_of}
use Rattle.asking.specs.Sizes.{unfit_size}
use Rattle.asking.specs.Refusals.{asked_of}
use Rattle.asking.specs.Judged.{Judged}
use Rattle.asking.proofs.Asked.{judged_as_asked}
use Rattle.asking.proofs.Outcomes as outcomes
use Rattle.asking.proofs.ask.Goals as goal
use Rattle.asking.proofs.ask.Goals.{Else-unfit_size, In_ok-shape, Start}

-- an answer that is the definition's tells of a register only where the query was judged
promised : (start : Start) {reply : Result Shape Refusal} →
    let a = start.args in
    reply ≡ asked_of a.file.now a.size a.query →
    record {
      answer : reply ≡ asked_of a.file.now a.size a.query;
      fit : (shape : Shape) → reply ≡ Ok shape → Judged a.file.now shape a.query × (unfit_size a.size ≡ false);
    }
promised start answered =
    let slots : length start.args.query.tests ≡ most_tests = omega arith in
    record { answer = answered; fit = λ shape told. judged_as_asked _ _ _ slots shape (sym answered ∙ told) }

opened : (c : In_ok-shape) → opened_of c.args.file.now ≡ Ok c.in_ok-shape.shape
opened c = sym c.in_ok-shape.ensures.answer

right : (c : Else-unfit_size) → unfit_size c.args.size ≡ false
right c = sym c.unfit_size.ensures ∙ c.if-unfit_size.false

pub returns-in_err-shape : goal.returns-in_err-shape
returns-in_err-shape c =
    let told = err_from_is_err_and c.from_residual.result c.from_residual.ensures.1 in
    rw (told.1, told.2)
    (promised (goal.at.returns-in_err-shape c).Start (outcomes.refused_file_lem _ _ _ _ (sym c.in_err-shape.ensures.answer)))

pub returns-then-unfit_size : goal.returns-then-unfit_size
returns-then-unfit_size c =
    let wrong = sym c.unfit_size.ensures ∙ c.if-unfit_size.true in
    let p = goal.at.returns-then-unfit_size c in
    promised p.Start (outcomes.wrong_size _ _ _ _ (opened p.In_ok-shape) wrong)

pub returns-then-query-gt-MOST_TESTS : goal.returns-then-query-gt-MOST_TESTS
returns-then-query-gt-MOST_TESTS c =
    let p = goal.at.returns-then-query-gt-MOST_TESTS c in
    promised p.Start (outcomes.too_many_tests _ _ _ _ (opened p.In_ok-shape) (right p.Else-unfit_size) c.if-query-gt-MOST_TESTS.true)

pub judge_tests-requires : goal.judge_tests-requires
judge_tests-requires c = c.if-query-gt-MOST_TESTS.false

pub returns-in_err-judge_tests : goal.returns-in_err-judge_tests
returns-in_err-judge_tests c =
    let p = goal.at.returns-in_err-judge_tests c in
    let told = err_from_is_err_and c.from_residual-in_err-judge_tests.result c.from_residual-in_err-judge_tests.ensures.1 in
    let few = c.if-query-gt-MOST_TESTS.false in
    rw (told.1, told.2)
    (promised p.Start
    (outcomes.unfit_test _ _ _ _ (opened p.In_ok-shape) (right p.Else-unfit_size) few _ (sym c.in_err-judge_tests.ensures.first)))

pub returns : goal.returns
returns c =
    let p = goal.at.returns c in
    let few = c.if-query-gt-MOST_TESTS.false in
    promised p.Start
    (outcomes.fitting _ _ _ _ (opened p.In_ok-shape) (right p.Else-unfit_size) few (sym c.in_ok-judge_tests.ensures.first))
