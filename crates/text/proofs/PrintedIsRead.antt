-- Reading what was printed gives it back: the text of a size and at most 16 tests, all decimals below 2^32, is answered with
-- that size and those tests. Assumes nothing.
use Prim.Native.Nat.{ℕ, ◌≤◌}
use mathlib.Core.Path.{◌≡◌}
use mathlib.Core.List.{List}
use lib.ListN.{length}
use Rattle.query.specs.declared.Test.{Test}
use Rattle.limits.specs.Limits.{most_tests}
use Rattle.std.specs.Prelude.{Result, Ok, Err}
use Rattle.refusals.specs.declared.Refusal.{Refusal}
use Rattle.refusals.specs.declared.Refusal.TheVariants.{TooManyTests, MalformedText}
use Rattle.text.specs.declared.Asked.{Asked}
use Rattle.query_lines.specs.Lines.{text_of}
use Rattle.text.specs.Reading.{accepted, Formed, Reads}
use Rattle.text.proofs.SingleReply.{single_reply}

pub printed_is_read : (size : ℕ) (tests : List Test) {reply : Result Asked Refusal} → Formed size tests → length tests ≤ most_tests →
    Reads (text_of size tests) reply → reply ≡ Ok (accepted size tests)
printed_is_read size tests formed few answer = single_reply answer (Reads.read size tests formed few)
