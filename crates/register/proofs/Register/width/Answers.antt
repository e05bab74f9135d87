-- `register::Register::width` meets its contract: the first byte of the entry is the width. Assumes nothing.
use mathlib.Core.Path.{ap}
use Rattle.directory.specs.File.{entry_width, width_in}
use Rattle.register.proofs.Register.width.Goals as goal

pub returns : goal.returns
unfolding width_in
returns c = ap entry_width c.entry-found.ensures.bytes
