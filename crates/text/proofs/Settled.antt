-- Examples of document 01, of the definitions: the query of its listing, the empty text, a leading zero, 16 tests and 17.
-- Assumes nothing.
--   listing_read        the lines `segment 8`, `0 < 512`, `1 = 5` give size 8 and those two tests, whatever reads them
--   empty_refused       the empty text is refused with 17 at 0
--   leading_zero_is_17  so is `segment 08`
--   sixteen_accepted    16 tests are accepted
--   seventeen_refused   and 17 give 11
use Prim.Native.Nat.{ℕ, zero, suc}
use native.Mathlib.Omega.{arith}
use mathlib.Core.Path.{◌≡◌, refl, sym, subst}
use mathlib.Core.List.{List, [], ◌∷◌, ◌++◌, flatten}
use lib.ListN.{replicate}
use Rattle.std.specs.Prelude.{None}
use Rattle.query.specs.declared.Comparison.TheVariants.{Less, Equal}
use Rattle.query.specs.declared.Test.{Test}
use Rattle.query.specs.Tests.{empty_slot}
use Rattle.std.specs.Prelude.{Result, Ok, Err}
use Rattle.refusals.specs.declared.Refusal.{Refusal}
use Rattle.refusals.specs.declared.Refusal.TheVariants.{TooManyTests, MalformedText}
use Rattle.text.specs.declared.Asked.{Asked}
use Rattle.decimals.specs.declared.After.TheVariants.{LineFeed}
use Rattle.decimals.specs.Decimals.{decimal, decimal_in, line_feed}
use Rattle.query_lines.specs.Lines.{segment_word, segment_text, test_text, text_of}
use Rattle.text.specs.Reading.{accepted, Formed, Reads}
use Rattle.text.proofs.Formed.{no_tests, test_before}
use Rattle.decimals.proofs.Numbers.{leading_zero}
use Rattle.query_lines.proofs.ReadLines.{segment_read, word_missing}
use Rattle.text.proofs.PrintedIsRead.{printed_is_read}

-- the bytes of `segment 8`, `0 < 512`, `1 = 5`
abbrev listing : List ℕ
listing =
    115 ∷ 101 ∷ 103 ∷ 109 ∷ 101 ∷ 110 ∷ 116 ∷ 32 ∷ 56 ∷ 10
    ∷ 48 ∷ 32 ∷ 60 ∷ 32 ∷ 53 ∷ 49 ∷ 50 ∷ 10
    ∷ 49 ∷ 32 ∷ 61 ∷ 32 ∷ 53 ∷ 10
    ∷ []

abbrev two_tests : List Test
two_tests = record { column = 0; comparison = Less 512 } ∷ record { column = 1; comparison = Equal 5 } ∷ []

listing_printed : text_of 8 two_tests ≡ listing
unfolding text_of flatten segment_text test_text decimal decimal_in
listing_printed = refl

two_tests_formed : Formed 8 two_tests
two_tests_formed =
    test_before (record { column = 1; comparison = Equal 5 } ∷ []) (record { column = 0; comparison = Less 512 })
    (record { column = omega arith; literal = omega arith })
    (test_before [] (record { column = 1; comparison = Equal 5 }) (record { column = omega arith; literal = omega arith })
    (no_tests (omega arith)))

pub listing_read : {reply : Result Asked Refusal} → Reads listing reply → reply ≡ Ok (accepted 8 two_tests)
listing_read {reply} answer =
    printed_is_read 8 two_tests two_tests_formed (omega arith)
    (subst (λ (text : List ℕ). Reads text reply) (sym listing_printed) answer)

pub empty_refused : Reads [] (Err (MalformedText 0))
empty_refused = Reads.no_segment [] (word_missing [] (λ rest e. cc))

pub leading_zero_is_17 : Reads (segment_word ++ (48 ∷ 56 ∷ line_feed ∷ [])) (Err (MalformedText 0))
leading_zero_is_17 =
    let text = segment_word ++ (48 ∷ 56 ∷ line_feed ∷ []) in
    Reads.no_segment text (segment_read text refl None (leading_zero (omega arith) text 8 LineFeed refl (λ e. omega arith)))

-- as many tests as one likes
many_formed : (many : ℕ) → Formed 8 (replicate many empty_slot)
many_formed zero = no_tests (omega arith)
many_formed (suc many) =
    test_before (replicate many empty_slot) empty_slot (record { column = omega arith; literal = omega arith }) (many_formed many)

pub sixteen_accepted : Reads (text_of 8 (replicate 16 empty_slot)) (Ok (accepted 8 (replicate 16 empty_slot)))
sixteen_accepted = Reads.read 8 (replicate 16 empty_slot) (many_formed 16) (omega arith)

pub seventeen_refused : Reads (text_of 8 (replicate 17 empty_slot)) (Err TooManyTests)
seventeen_refused = Reads.too_many 8 (replicate 17 empty_slot) (many_formed 17) (omega arith)
