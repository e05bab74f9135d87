-- The lines of a text: each is spelt in one way, and so are the size, the test and the rest of a text that begins with one.
-- Assumes nothing.
--   segment_line_then   line 0 and what follows it, word by word
--   test_line_then      a test's line and what follows it, word by word
--   same_sign           a sign and what follows its space, spelt in one way
--   same_comparison     a comparison is its sign and its literal
--   same_segment_line   line 0 and what follows it, spelt in one way
--   same_test_line      a test's line and what follows it, spelt in one way
--   test_line_some      a test's line is not empty
--   text_one_more       the text of one test more ends with its line
use Prim.Native.Nat.{ℕ, ◌<◌}
use native.Mathlib.Omega.{arith}
use mathlib.Core.Path.{◌≡◌, refl, sym, ap, ap₂, ◌∙◌}
use mathlib.Core.Bool.{cond}
use mathlib.Core.List.{List, [], ◌∷◌, ◌++◌, map, flatten, append-nil, append_assoc, append_cancel_left}
use lib.Dec.{eqb}
use lib.ListN.{length, get_or, length-append}
use Rattle.limits.specs.Limits.{decimal_limit}
use Rattle.query.specs.declared.Comparison.{Comparison}
use Rattle.query.specs.declared.Comparison.TheVariants.{Less, AtMost, More, AtLeast, Equal, Differs}
use Rattle.query.specs.declared.Test.{Test}
use Rattle.query.specs.Tests.{literal_of}
use Rattle.decimals.specs.Decimals.{decimal, space, line_feed}
use Rattle.query_lines.specs.Lines.{segment_word, sign_of, segment_text, test_text, text_of, SmallTest}
use Rattle.decimals.proofs.Words.{AllOf, same_word}
use Rattle.decimals.proofs.Decimals.{decimal_some, same_decimal}

pub segment_line_then : (size : ℕ) (rest : List ℕ) → segment_text size ++ rest ≡ segment_word ++ (decimal size ++ (line_feed ∷ rest))
unfolding segment_text
segment_line_then size rest = simp append_assoc

pub test_line_then : (test : Test) (rest : List ℕ) →
    test_text test ++ rest ≡
    decimal test.column
    ++ (space ∷ (sign_of test.comparison ++ (space ∷ (decimal (literal_of test.comparison) ++ (line_feed ∷ rest)))))
unfolding test_text
test_line_then test rest = simp append_assoc

pub test_line_some : (test : Test) → SmallTest test → 0 < length (test_text test)
unfolding test_text
test_line_some test small = rw length-append (omega (arith, decimal_some test.column (omega (arith, small.column))))

-- no sign holds a space
abbrev NoSpace : ℕ → Type 0
NoSpace b = b ≡ space → ⊥

sign_without_space : (comparison : Comparison) → AllOf NoSpace (sign_of comparison)
sign_without_space (Less _) = (λ e. omega arith, tt)
sign_without_space (AtMost _) = (λ e. omega arith, (λ e. omega arith, tt))
sign_without_space (More _) = (λ e. omega arith, tt)
sign_without_space (AtLeast _) = (λ e. omega arith, (λ e. omega arith, tt))
sign_without_space (Equal _) = (λ e. omega arith, tt)
sign_without_space (Differs _) = (λ e. omega arith, (λ e. omega arith, tt))

pub same_sign : (first second : Comparison) {rest left : List ℕ} →
    sign_of first ++ (space ∷ rest) ≡ sign_of second ++ (space ∷ left) → (sign_of first ≡ sign_of second) × (rest ≡ left)
same_sign first second e =
    let word = same_word NoSpace (sign_of first) (sign_of second) (sign_without_space first) (sign_without_space second)
    (λ other. other refl) (λ other. other refl) e in
    (word.0, word.2)

-- the comparison back from its sign's first byte, the sign's length and the literal
abbrev comparison_of : ℕ → ℕ → ℕ → Comparison
comparison_of first many literal =
    cond (eqb first 60) (cond (eqb many 1) (Less literal) (AtMost literal))
    (cond (eqb first 62) (cond (eqb many 1) (More literal) (AtLeast literal))
    (cond (eqb first 61) (Equal literal) (Differs literal)))

comparison_back : (comparison : Comparison) →
    comparison_of (get_or (sign_of comparison) 0 0) (length (sign_of comparison)) (literal_of comparison) ≡ comparison
comparison_back (Less _) = refl
comparison_back (AtMost _) = refl
comparison_back (More _) = refl
comparison_back (AtLeast _) = refl
comparison_back (Equal _) = refl
comparison_back (Differs _) = refl

same_comparison : (first second : Comparison) → sign_of first ≡ sign_of second → literal_of first ≡ literal_of second →
    first ≡ second
same_comparison first second signs literals =
    sym (comparison_back first)
    ∙ ap₂ (λ (sign : List ℕ) (literal : ℕ). comparison_of (get_or sign 0 0) (length sign) literal) signs literals
    ∙ comparison_back second

pub same_segment_line : (size other : ℕ) {rest left : List ℕ} → size < decimal_limit → other < decimal_limit →
    segment_text size ++ rest ≡ segment_text other ++ left → (size ≡ other) × (rest ≡ left)
same_segment_line size other {rest} {left} small fits e =
    let words = append_cancel_left segment_word _ _ (sym (segment_line_then size rest) ∙ e ∙ segment_line_then other left) in
    let word = same_decimal size other (omega arith) (omega arith) (λ d. omega arith) (λ d. omega arith) words in
    (word.0, word.2)

pub same_test_line : (test other : Test) {rest left : List ℕ} → SmallTest test → SmallTest other →
    test_text test ++ rest ≡ test_text other ++ left → (test ≡ other) × (rest ≡ left)
same_test_line test other {rest} {left} small fits e =
    let words = sym (test_line_then test rest) ∙ e ∙ test_line_then other left in
    let column = same_decimal test.column other.column (omega arith) (omega arith) (λ d. omega arith) (λ d. omega arith) words in
    let sign = same_sign test.comparison other.comparison column.2 in
    let literal = same_decimal (literal_of test.comparison) (literal_of other.comparison)
    (omega arith) (omega arith) (λ d. omega arith) (λ d. omega arith) sign.1 in (
      ap₂ (λ (place : ℕ) (comparison : Comparison). record { column = place; comparison = comparison }) column.0
          (same_comparison test.comparison other.comparison sign.0 literal.0),
      literal.2,
    )

lines_one_more : (tests : List Test) (test : Test) →
    flatten (map test_text (tests ++ (test ∷ []))) ≡ flatten (map test_text tests) ++ test_text test
unfolding flatten
lines_one_more [] test = append-nil (test_text test)
lines_one_more (first ∷ tests) test =
    ap (λ (lines : List ℕ). test_text first ++ lines) (lines_one_more tests test)
    ∙ sym (append_assoc (test_text first) (flatten (map test_text tests)) (test_text test))

pub text_one_more : (size : ℕ) (tests : List Test) (test : Test) →
    text_of size (tests ++ (test ∷ [])) ≡ text_of size tests ++ test_text test
unfolding text_of
text_one_more size tests test =
    ap (λ (lines : List ℕ). segment_text size ++ lines) (lines_one_more tests test)
    ∙ sym (append_assoc (segment_text size) (flatten (map test_text tests)) (test_text test))
