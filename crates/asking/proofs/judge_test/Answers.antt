-- `asking::judge_test` meets its contract: either test of the code is a line of the test's table, in its order. Assumes nothing.
use Prim.Native.Nat.{◌<◌}
use mathlib.Core.Path.{◌≡◌, sym, ap₂, ◌∙◌}
use Rattle.codes.specs.Width.{too_large}
use Rattle.directory.specs.File.{columns_in, width_in}
use Rattle.register.proofs.Fit.{columns_as_opened, width_as_opened}
use Rattle.query.specs.Tests.{literal_of}
use Rattle.asking.proofs.Judging as judging
use Rattle.asking.proofs.judge_test.Goals as goal
use Rattle.asking.proofs.judge_test.Goals.{After-too_large, Else-register-column}

-- past 12, the column is the file's
there : (c : Else-register-column) → c.args.test.column < columns_in c.args.register.now.file.now
there c = rw (columns_as_opened _ _ c.args.register.now.opened) at c.if-register-column.false

-- whether the literal is too large
literal_is : (c : After-too_large) →
    let a = c.args in
    too_large (width_in a.register.now.file.now a.test.column) (literal_of a.test.comparison) ≡ c.too_large.result
literal_is c = sym (c.too_large.ensures ∙ ap₂ too_large c.width.ensures c.literal_of-literal.ensures)

pub returns-then-register-column : goal.returns-then-register-column
returns-then-register-column c =
    let missing = rw (columns_as_opened _ _ c.args.register.now.opened) at c.if-register-column.true in
    sym (judging.no_such_column _ _ c.args.test missing)

pub too_large-requires : goal.too_large-requires
too_large-requires c =
    rw c.width.ensures (width_as_opened _ _ c.args.register.now.opened _ c.if-register-column.false).1

pub returns-then-too_large : goal.returns-then-too_large
returns-then-too_large c =
    sym (judging.too_large_a_literal _ _ c.args.test (there (goal.at.returns-then-too_large c).Else-register-column) (literal_is (goal.at.returns-then-too_large c).After-too_large ∙ c.if-too_large.true))

pub returns : goal.returns
returns c =
    sym (judging.fit_test _ _ c.args.test (there (goal.at.returns c).Else-register-column) (literal_is (goal.at.returns c).After-too_large ∙ c.if-too_large.false))
