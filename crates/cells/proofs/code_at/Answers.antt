-- `cells::code_at` meets its contract: in a register the row's bytes stand in the body, and its code is theirs.
-- Assumes nothing.
use mathlib.Core.Path.{sym, ◌∙◌}
use Rattle.cells.proofs.Rows.{code_within, code_gathered}
use Rattle.cells.proofs.code_at.Goals as goal

pub code_of-requires : goal.code_of-requires
code_of-requires c = rw (c.width-width.ensures, c.offset-offset.ensures) (code_within _ _ _ c.requires)

pub returns : goal.returns
returns c =
    c.code_of.ensures ∙ rw (c.width-width.ensures, c.offset-offset.ensures) (sym (code_gathered c.args.register.now _ _))
