-- What the loop of `judge_tests` keeps. Assumes nothing.
use lib.ListN.{drop}
use Rattle.basis.proofs.Refusals.{Past}
use Rattle.query.specs.Tests.{tests_of}
use Rattle.asking.specs.Refusals.{lines_for_all}
use Rattle.asking.proofs.judge_tests.Given as goal

abbrev pub invariant-loop-t : goal.invariant-loop-t
invariant-loop-t l =
    let file = l.register.file.now in
    Past (lines_for_all file 0 (tests_of l.query)) (lines_for_all file l.t (drop l.t (tests_of l.query)))
