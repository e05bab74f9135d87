-- `register::Register::offset` meets its contract: the last four bytes of the entry are the offset. Assumes nothing.
use mathlib.Core.Path.{ap, ◌∙◌}
use Rattle.basis.specs.Numbers.{number_at}
use Rattle.directory.specs.File.{entry_offset, offset_in}
use Rattle.register.proofs.Register.offset.Goals as goal

pub returns : goal.returns
unfolding offset_in number_at
returns c = c.number_of.ensures.made ∙ ap entry_offset c.entry-found.ensures.bytes
