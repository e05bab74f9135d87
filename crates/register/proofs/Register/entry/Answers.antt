-- `register::Register::entry` meets its contract: in a file that opened, the directory ends 16 bytes before the end. Assumes nothing.
use Prim.Native.Nat.{ℕ, ◌+◌, ◌-◌, ◌*◌, ◌≤◌}
use native.Mathlib.Omega.{arith}
use mathlib.Core.Path.{◌≡◌}
use mathlib.Core.List.{List}
use lib.ListN.{length}
use Rattle.limits.specs.Limits.{most_columns, entry_bytes, trailer_bytes}
use Rattle.register.specs.declared.Shape.{Shape}
use Rattle.std.specs.Prelude.{Ok}
use Rattle.directory.specs.File.{directory_in}
use Rattle.register.specs.Opening.{opened_of}
use Rattle.register.proofs.Fit.{opened_is_fit, columns_as_opened}
use Rattle.directory.proofs.Entries.{entry_cut}
use Rattle.register.proofs.Register.entry.Goals as goal

-- an opened file has room for its directory and its trailer
room : (file : List ℕ) (shape : Shape) → opened_of file ≡ Ok shape →
    (shape.columns ≤ most_columns) × (directory_in file + entry_bytes * shape.columns + trailer_bytes ≡ length file)
room file shape opened =
    let fit = (opened_is_fit file shape opened).0 in
    rw (columns_as_opened file shape opened) (fit.few_columns, fit.placed)

pub overflow_sub-from : goal.overflow_sub-from
overflow_sub-from c = let known = room _ _ c.args.self.now.opened in omega arith

pub overflow_mul-from : goal.overflow_mul-from
overflow_mul-from c = let known = room _ _ c.args.self.now.opened in omega arith

pub overflow_sub-from-3 : goal.overflow_sub-from-3
overflow_sub-from-3 c = let known = room _ _ c.args.self.now.opened in omega arith

pub slice_bounds-result-end : goal.slice_bounds-result-end
slice_bounds-result-end c = let known = room _ _ c.args.self.now.opened in omega arith

pub returns : goal.returns
returns c =
    let known = room _ _ c.args.self.now.opened in
    let register = c.args.self.now in
    let column = c.args.column in
    let from = length register.file.now - trailer_bytes - entry_bytes * (register.shape.columns - column) in
    let cut = entry_cut register.file.now from column (omega arith) (omega arith) in
    record { bytes = cut.0; whole = cut.1 }
