-- `listing::write_found` meets its contract: the line of the refusal, or the lines of the answer one behind the other. Assumes nothing.
use borrow.Author.Rules.{rules}
use Rattle.pieces.proofs.Writing.{written_then}
use Rattle.listing.specs.Found.{accepted_lines}
use Rattle.listing.proofs.FoundListing.{piece_written}
use Rattle.listing.proofs.write_found.Goals as goal

pub returns-in-Err : goal.returns-in-Err
returns-in-Err c =
    let line = c.refused_line-piece.ensures in
    rw c.in-Err.is (piece_written line.from_nothing line.wrote (search rules))

pub returns : goal.returns
unfolding accepted_lines
returns c =
    let line = c.head_line-piece.ensures.wrote in
    let lines = written_then line.wrote (written_then c.test_lines.ensures.wrote c.row_lines.ensures) in
    rw c.in-Ok.is (piece_written line.from_nothing lines (search rules))
