-- `try_most_rows::put_one_row_more` meets its contract: one byte is stored where there is room. Assumes nothing.
use mathlib.Core.Path.{sym}
use borrow.Author.Tests.{lt-ltb, le-ltb}
use Rattle.basis.proofs.Truth.{hit, missed}
use Rattle.try_most_rows.proofs.put_one_row_more.Goals as goal

pub returns-then-file-lt-FILE : goal.returns-then-file-lt-FILE
returns-then-file-lt-FILE c = sym (hit _ _ _ (lt-ltb _ _ c.if-file-lt-FILE.true))

pub returns : goal.returns
returns c = sym (missed _ _ _ (le-ltb _ _ c.if-file-lt-FILE.false))
