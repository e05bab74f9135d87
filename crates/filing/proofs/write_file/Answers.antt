-- `filing::write_file` meets its contract: body, directory and trailer stand one behind the other. Assumes nothing.
use Prim.Native.Nat.{ℕ, ◌+◌, ◌*◌, ◌≤◌}
use native.Mathlib.Omega.{arith}
use mathlib.Core.Path.{◌≡◌, ap, ◌∙◌}
use mathlib.Core.List.{List, ◌++◌, append_assoc}
use lib.ListN.{length, length-append}
use Rattle.limits.specs.Limits.{entry_bytes, trailer_bytes}
use Rattle.basis.specs.Buffers.{laid}
use Rattle.basis.proofs.Buffers.{filled_at_once, filled_more}
use Rattle.directory.specs.Layout.{bytes_before}
use Rattle.table.specs.Table.{width_of}
use Rattle.slicing.specs.Body.{body_of}
use Rattle.filing.specs.Layout.{directory_of, trailer_with, trailer_of, file_length, file_of}
use Rattle.slicing.proofs.Lengths.{length_body_of}
use Rattle.filing.proofs.Lengths.{length_directory_of, length_trailer_with}
use Rattle.filing.proofs.write_file.Goals as goal
use Rattle.filing.proofs.write_file.Goals.{After-body_length-body}

-- the three parts, each written right behind the one before, are the file
parts_are_file : (rows : ℕ) (widths codes out : List ℕ) (body : ℕ) {one two all : List ℕ} →
    body ≡ bytes_before rows (width_of widths) (length widths) → body + entry_bytes * length widths + trailer_bytes ≤ length out →
    one ≡ laid out 0 (body_of rows widths codes) → two ≡ laid one body (directory_of rows widths) →
    all ≡ laid two (body + entry_bytes * length widths) (trailer_with rows (length widths) body) →
    all ≡ laid out 0 (file_of rows widths codes)
unfolding file_of trailer_of
parts_are_file rows widths codes out body end room said-1 said-2 said-3 =
    let front = body_of rows widths codes in
    let middle = directory_of rows widths in
    let last = trailer_with rows (length widths) body in
    let long-1 = length_body_of rows widths codes in
    let long-2 = length_directory_of rows widths in
    let long-3 = length_trailer_with rows (length widths) body in
    let both = length-append front middle in
    let upto-1 = filled_at_once out 0 front (omega arith) said-1 in
    let upto-2 = filled_more out 0 front body middle upto-1 (omega arith) (omega arith) said-2 in
    let upto-3 = filled_more out 0 (front ++ middle) (body + entry_bytes * length widths) last upto-2 (omega arith) (omega arith) said-3 in
    rw end at (upto-3.filled ∙ ap (laid out 0) (append_assoc front middle last))

-- there is room for all of them
room : (c : After-body_length-body) →
    c.body_length-body.result + entry_bytes * length c.args.table.now.widths.now + trailer_bytes ≤ length c.args.out.now
unfolding file_length
room c = omega (arith, c.body_length-body.ensures.counted, c.requires)

pub body_length-body-requires : goal.body_length-body-requires
body_length-body-requires c =
    let table = c.args.table.now in
    record { fit_widths = table.fit_widths; few_rows = table.fit_codes.few_rows }

pub write_body-requires : goal.write_body-requires
write_body-requires c =
    omega (arith, room (goal.at.write_body-requires c).After-body_length-body, c.body_length-body.ensures.counted)

pub write_directory-requires : goal.write_directory-requires
write_directory-requires c =
    omega (arith, room (goal.at.write_directory-requires c).After-body_length-body)

pub returns : goal.returns
returns c =
    parts_are_file _ _ _ _ c.body_length-body.result c.body_length-body.ensures.counted (room (goal.at.returns c).After-body_length-body)
    c.write_body.ensures c.write_directory.ensures c.write_trailer.ensures

pub write_trailer-requires : goal.write_trailer-requires
write_trailer-requires c = omega (arith, room (goal.at.write_trailer-requires c).After-body_length-body)
