-- `cells::code_of` meets its contract: past the other cases a column has four slices. Assumes nothing.
use Prim.Native.Nat.{ℕ, ◌<◌}
use native.Mathlib.Omega.{arith}
use mathlib.Core.Path.{◌≡◌, sym}
use borrow.Author.Rules.{rules}
use lib.ListN.{length}
use Rattle.codes.specs.Width.{slices_of}
use Rattle.codes.proofs.Width.{some_slice, few_slices_of}
use Rattle.cells.specs.Gathered.{place}
use Rattle.cells.proofs.code_of.Goals as goal
use Rattle.cells.proofs.code_of.Goals.{In_default}

four : (c : In_default) → slices_of c.args.width ≡ 4
four c = omega (arith, c.slices_of.ensures, some_slice _ c.requires.some, few_slices_of _ c.requires.narrow)

-- the byte of a slice stands in the file
inside : (c : In_default) (slice : ℕ) → slice < 4 → let a = c.args in place a.offset a.rows a.row slice < length a.file.now
inside c slice h = c.requires.within slice (omega (arith, four c))

pub byte-requires-in_default-asks-byte_at-requires : goal.byte-requires-in_default-asks-byte_at-requires
byte-requires-in_default-asks-byte_at-requires c κs =
    let there = inside (goal.at.byte-requires-in_default-asks-byte_at-requires c).In_default 0 (omega arith) in search rules

pub byte-requires-in_default-2-asks-byte_at-requires : goal.byte-requires-in_default-2-asks-byte_at-requires
byte-requires-in_default-2-asks-byte_at-requires c κs =
    let there = inside (goal.at.byte-requires-in_default-2-asks-byte_at-requires c).In_default 1 (omega arith) in search rules

pub byte-requires-in_default-3-asks-byte_at-requires : goal.byte-requires-in_default-3-asks-byte_at-requires
byte-requires-in_default-3-asks-byte_at-requires c κs =
    let there = inside (goal.at.byte-requires-in_default-3-asks-byte_at-requires c).In_default 2 (omega arith) in search rules

pub byte-requires-in_default-4-asks-byte_at-requires : goal.byte-requires-in_default-4-asks-byte_at-requires
byte-requires-in_default-4-asks-byte_at-requires c κs =
    let there = inside (goal.at.byte-requires-in_default-4-asks-byte_at-requires c).In_default 3 (omega arith) in search rules

pub join-requires-in_default : goal.join-requires-in_default
join-requires-in_default c = (c.requires.narrow, sym (four (goal.at.join-requires-in_default c).In_default))

pub returns-in_default : goal.returns-in_default
returns-in_default c = let many = four (goal.at.returns-in_default c).In_default in search rules
