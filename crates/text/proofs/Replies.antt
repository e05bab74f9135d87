-- A text is either without line 0, or it is line 0, some lines of tests and a rest that begins with no such line; and this in
-- one way. Its reply goes by that. Assumes nothing.
--   same_lines            the size, the tests and the rest of a text are its own
--   begins_with_segment   lines begin with line 0
--   reply_to               the reply to a size, tests and a rest
--   Taken                 a text taken apart, and its reply
--   taken                 every reply is to a text taken apart
use Prim.Native.Nat.{ℕ, ◌+◌}
use native.Mathlib.Omega.{arith}
use mathlib.Core.Path.{◌≡◌, refl, sym, ap, ap₂, ◌∙◌}
use mathlib.Core.Bool.{cond}
use mathlib.Core.List.{List, [], ◌∷◌, ◌++◌, map, flatten, append-nil, append_assoc, Memᴰ}
use lib.Dec.{ltb}
use lib.ListN.{length, length-append}
use borrow.Author.Tests.{lt-ltb, le-ltb}
use Rattle.basis.proofs.Truth.{hit, missed}
use Rattle.query.specs.declared.Test.{Test}
use Rattle.limits.specs.Limits.{most_tests}
use Rattle.std.specs.Prelude.{Result, Ok, Err}
use Rattle.refusals.specs.declared.Refusal.{Refusal}
use Rattle.refusals.specs.declared.Refusal.TheVariants.{TooManyTests, MalformedText}
use Rattle.text.specs.declared.Asked.{Asked}
use Rattle.query_lines.specs.Lines.{segment_text, test_text, text_of, SmallTest, BeginsSegment, BeginsTest}
use Rattle.text.specs.Reading.{accepted, Formed, Reads}
use Rattle.query_lines.proofs.Lines.{same_segment_line, same_test_line, test_line_some}

-- each test is small
abbrev EachSmall : List Test → Type 0
EachSmall tests = (test : Test) → Memᴰ test tests → SmallTest test

-- what begins with a line of a test is no rest
not_rest : (test : Test) (tests : List Test) (rest : List ℕ) {left : List ℕ} → SmallTest test → (BeginsTest left → ⊥) →
    left ≡ flatten (map test_text (test ∷ tests)) ++ rest → ⊥
unfolding flatten
not_rest test tests rest small none e =
    none (test, flatten (map test_text tests) ++ rest, small, e ∙ append_assoc (test_text test) (flatten (map test_text tests)) rest)

same_tests : (tests others : List Test) {rest left : List ℕ} → EachSmall tests → EachSmall others → (BeginsTest rest → ⊥) →
    (BeginsTest left → ⊥) → flatten (map test_text tests) ++ rest ≡ flatten (map test_text others) ++ left →
    (tests ≡ others) × (rest ≡ left)
unfolding flatten
same_tests [] [] small fits none never e = (refl, e)
same_tests [] (other ∷ others) {left = left} small fits none never e =
    absurd (not_rest other others left (fits other (Memᴰ.head refl)) none e)
same_tests (test ∷ tests) [] {rest} small fits none never e =
    absurd (not_rest test tests rest (small test (Memᴰ.head refl)) never (sym e))
same_tests (test ∷ tests) (other ∷ others) {rest} {left} small fits none never e =
    let line = same_test_line test other (small test (Memᴰ.head refl)) (fits other (Memᴰ.head refl))
    (sym (append_assoc (test_text test) (flatten (map test_text tests)) rest)
    ∙ e
    ∙ append_assoc (test_text other) (flatten (map test_text others)) left) in
    let after = same_tests tests others (λ t there. small t (Memᴰ.tail there)) (λ t there. fits t (Memᴰ.tail there)) none never
    line.1 in
    (ap₂ ◌∷◌ line.0 after.0, after.1)

pub same_lines : (size other : ℕ) (tests others : List Test) {rest left : List ℕ} → Formed size tests → Formed other others →
    (BeginsTest rest → ⊥) → (BeginsTest left → ⊥) → text_of size tests ++ rest ≡ text_of other others ++ left →
    (size ≡ other) × (tests ≡ others) × (rest ≡ left)
unfolding text_of
same_lines size other tests others {rest} {left} small fits none never e =
    let first = same_segment_line size other small.size_small fits.size_small
    (sym (append_assoc (segment_text size) (flatten (map test_text tests)) rest)
    ∙ e
    ∙ append_assoc (segment_text other) (flatten (map test_text others)) left) in
    let after = same_tests tests others small.each_small fits.each_small none never first.1 in
    (first.0, after.0, after.1)

pub begins_with_segment : (size : ℕ) (tests : List Test) (rest : List ℕ) → Formed size tests → BeginsSegment (text_of size tests ++ rest)
unfolding text_of
begins_with_segment size tests rest formed =
    (size, flatten (map test_text tests) ++ rest, formed.size_small, append_assoc (segment_text size) (flatten (map test_text tests)) rest)

pub reply_to : ℕ → List Test → List ℕ → Result Asked Refusal
reply_to size tests (b ∷ rest) = Err (MalformedText (1 + length tests))
reply_to size tests [] = cond (ltb most_tests (length tests)) (Err TooManyTests) (Ok (accepted size tests))

pub data Taken (text : List ℕ) (reply : Result Asked Refusal) : Type 0 where
  no_line_0 : (BeginsSegment text → ⊥) → reply ≡ Err (MalformedText 0) → Taken text reply
  lines : (size : ℕ) (tests : List Test) (rest : List ℕ) → Formed size tests → (BeginsTest rest → ⊥) →
      text ≡ text_of size tests ++ rest → reply ≡ reply_to size tests rest → Taken text reply

-- nothing begins with no line
nothing : BeginsTest [] → ⊥
nothing begins =
    let e = ap length begins.3 in
    omega (arith, test_line_some begins.0 begins.2, simp length-append at e)

pub taken : {text : List ℕ} {reply : Result Asked Refusal} → Reads text reply → Taken text reply
unfolding reply_to
taken (Reads.read size tests formed few) =
    lines size tests [] formed nothing (sym (append-nil _)) (sym (missed _ _ _ (le-ltb most_tests (length tests) few)))
taken (Reads.too_many size tests formed more) =
    lines size tests [] formed nothing (sym (append-nil _)) (sym (hit _ _ _ (lt-ltb most_tests (length tests) more)))
taken (Reads.no_segment text none) = no_line_0 none refl
taken (Reads.no_test size tests [] formed some none) = absurd (omega arith)
taken (Reads.no_test size tests (b ∷ rest) formed some none) = lines size tests (b ∷ rest) formed none refl refl
