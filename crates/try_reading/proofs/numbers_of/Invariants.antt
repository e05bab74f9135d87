-- What the loop of `try_reading::numbers_of` keeps: the numbers are those in the output, and those that the rest of the text holds.
-- Assumes nothing.
use Rattle.try_reading.specs.Requests.{numbers_in}
use Rattle.try_reading.proofs.Requests.{Kept}
use Rattle.try_reading.proofs.numbers_of.Given as goal

abbrev pub invariant-loop-byte : goal.invariant-loop-byte
invariant-loop-byte l = Kept (numbers_in l.text) l.text l.initial.out l.out l.byte-index l.count l.begun
