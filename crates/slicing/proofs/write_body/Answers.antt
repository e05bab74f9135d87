-- `slicing::write_body` meets its contract: the rows of every block passed have their bytes, and no row is left in the end.
-- Assumes nothing.
use Prim.Native.Nat.{ℕ, ◌+◌}
use native.Mathlib.Omega.{arith}
use mathlib.Core.Path.{◌≡◌}
use mathlib.Core.List.{List}
use lib.ListN.{length}
use Rattle.basis.specs.Buffers.{laid}
use Rattle.directory.specs.Layout.{slices_before}
use Rattle.table.specs.Table.{width_of}
use Rattle.table.specs.declared.Table.{Table}
use Rattle.slicing.specs.Putting.{body, RoomForBody, BodyPut}
use Rattle.slicing.proofs.Lengths.{length_body_of}
use Rattle.slicing.proofs.Putting.{put_rows, put_all}
use Rattle.slicing.proofs.write_body.Goals as goal
use Rattle.slicing.proofs.write_body.Goals.{After-write_block}

-- the turn's block is put behind those before it
next_block : (c : After-write_block) →
    let table = c.args.table.now in
    let slices = slices_before (width_of table.widths.now) (length table.widths.now) in
    let past = c.loop-first.first + c.min-n.result in
    BodyPut table.rows (body table) c.args.out.now c.write_block.new.out 0 past 0 slices
next_block c =
    let table = c.args.table.now in put_rows table.rows (body table) c.loop-first.invariant.1 c.write_block.ensures

-- with all rows the body is whole
whole : (table : Table) (out : List ℕ) {after : List ℕ} {past : ℕ} → RoomForBody table out → past ≡ table.rows →
    BodyPut table.rows (body table) out after 0 past 0 (slices_before (width_of table.widths.now) (length table.widths.now)) →
    after ≡ laid out 0 (body table)
whole table out room end put =
    let long = length_body_of table.rows table.widths.now table.codes.now in
    put_all table.rows _ out _ long (omega arith) (rw end at put)

pub loop-first-preserved : goal.loop-first-preserved
loop-first-preserved c =
    let full : c.min-n.result ≡ 256 = omega arith in
    (omega arith, rw full at (next_block (goal.at.loop-first-preserved c).After-write_block))

pub returns : goal.returns
returns c = whole c.args.table.now _ c.requires (omega arith) c.loop-first.invariant.1

pub returns-2 : goal.returns-2
returns-2 c = whole c.args.table.now _ c.requires (omega arith) (next_block (goal.at.returns-2 c).After-write_block)
