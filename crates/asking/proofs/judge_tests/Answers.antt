-- `asking::judge_tests` meets its contract: a turn walks past the lines of one test, or ends with its refusal. Assumes nothing.
use Prim.Native.Nat.{◌≤◌, ◌<◌}
use native.Mathlib.Omega.{arith}
use native.Mathlib.Numerals.{add-one}
use mathlib.Core.Path.{◌≡◌, sym, ◌∙◌}
use lib.ListN.{length, drop_of_length-le}
use lib.Seq.{get_or-take, length-take-le}
use Rattle.std.proofs.lemmas.Result.{err_from_is_err_and}
use Rattle.basis.proofs.Refusals.{at_first, ends}
use Rattle.answers.proofs.Replies.{answer_accepted}
use Rattle.query.specs.Tests.{empty_slot, tests_of, test_at}
use Rattle.asking.specs.Refusals.{lines_for, lines_for_all}
use Rattle.asking.specs.Verdicts.{verdict_of}
use Rattle.asking.proofs.Judging as judging
use Rattle.asking.proofs.judge_tests.Goals as goal
use Rattle.asking.proofs.judge_tests.Goals.{After-judge_test, At-loop-t, In-loop-t}

-- the slots are sixteen, and the count is at most that
as_many : (c : At-loop-t) → let query = c.args.query in length (tests_of query) ≡ query.count
as_many c = length-take-le c.args.query.count c.args.query.tests (omega arith)

there : (c : In-loop-t) → c.loop-t.t < length (tests_of c.args.query)
there c = rw (length-take-le c.args.query.count c.args.query.tests (omega arith)) c.loop-t-test.true

said : (c : After-judge_test) →
    let t = c.loop-t.t in
    verdict_of (lines_for c.args.register.now.file.now t (test_at (tests_of c.args.query) t)) ≡ c.judge_test.result
said c =
    let query = c.args.query in
    rw (get_or-take query.count query.tests c.loop-t.t empty_slot c.loop-t-test.true) (sym c.judge_test.ensures)

pub loop-t-init : goal.loop-t-init
loop-t-init c = at_first _

pub returns-in_err-judge_test : goal.returns-in_err-judge_test
returns-in_err-judge_test c =
    let p = goal.at.returns-in_err-judge_test c in
    let told = err_from_is_err_and c.from_residual.result c.from_residual.ensures.1 in
    let unfit = said p.After-judge_test ∙ c.in_err-judge_test.was in
    let answers = judging.unfit_answers _ _ _ _ (there p.In-loop-t) c.loop-t.invariant _ unfit in
    rw (told.1, told.2) (record { first = sym answers; judged = λ e. absurd (judging.unfit_is_not_fit e) })

pub loop-t-preserved : goal.loop-t-preserved
loop-t-preserved c =
    let p = goal.at.loop-t-preserved c in
    let fit = said p.After-judge_test ∙ c.in_ok-judge_test.was in
    rw (add-one c.loop-t.t) (judging.fit_goes_on _ _ _ _ (there p.In-loop-t) c.loop-t.invariant fit)

pub returns : goal.returns
unfolding lines_for_all
returns c =
    let none_left = drop_of_length-le (tests_of c.args.query) {i = c.loop-t.t}
    (omega (arith, as_many (goal.at.returns c).At-loop-t, c.loop-t-test.false)) in
    let none_answers = ends (rw none_left at c.loop-t.invariant) in
    let room : c.args.query.count ≤ length c.args.query.tests = omega arith in
    record {
      first = sym (answer_accepted _ _ none_answers);
      judged = λ e. judging.judged _ _ _ c.args.register.now.opened c.requires room 0 none_answers;
    }
