-- A text that has been read line by line up to a place, and the reply that is due where the reading ends. Assumes nothing.
--   ReadUpTo        line 0 and some lines of tests have been read
--   first_line_lem      line 0 has been read
--   kept_line       a line more, whose test goes into its slot
--   counted_line    a line more, past the last slot
--   malformed_line  a line that is none: 17 at it
--   whole_text      the text ends, with at most 16 tests
--   too_many_lines  the text ends, with more
use Prim.Native.Nat.{ℕ, ◌+◌, ◌<◌, ◌≤◌}
use native.Mathlib.Omega.{arith}
use mathlib.Core.Path.{◌≡◌, refl, sym, ap, ap₂, subst, subst₂, subst₃, ◌∙◌}
use mathlib.Core.List.{List, [], ◌∷◌, ◌++◌, flatten, append-nil, append_assoc}
use lib.ListN.{length, drop, set, length-append, length-drop, drop_of_length-le}
use Rattle.std.specs.Prelude.{Some, None}
use Rattle.query.specs.declared.Test.{Test}
use Rattle.limits.specs.Limits.{most_tests}
use Rattle.query.specs.Tests.{empty_slot, slots_of}
use Rattle.std.specs.Prelude.{Some, None}
use Rattle.std.specs.Prelude.{Result, Ok, Err}
use Rattle.refusals.specs.declared.Refusal.{Refusal}
use Rattle.refusals.specs.declared.Refusal.TheVariants.{TooManyTests, MalformedText}
use Rattle.text.specs.declared.Asked.{Asked}
use Rattle.query_lines.specs.Lines.{segment_text, test_text, text_of}
use Rattle.text.specs.Reading.{Formed, Reads}
use Rattle.query_lines.specs.Steps.{SegmentAt, LineAt}
use Rattle.query_lines.proofs.Lines.{text_one_more}
use Rattle.text.proofs.Formed.{no_tests, test_behind}
use Rattle.query.proofs.Slots.{filled_one_more, filled_past_last}

pub record ReadUpTo (text : List ℕ) (size at count : ℕ) (slots : List Test) : Type 0 where
  pub tests : List Test
  pub formed : Formed size tests
  pub many : length tests ≡ count
  pub spelt : text ≡ text_of size tests ++ drop at text
  pub held : slots ≡ slots_of empty_slot tests
  pub few : count ≤ at
  pub within : at ≤ length text

pub first_line_lem : (text : List ℕ) (size : ℕ) {at : ℕ} {slots : List Test} → SegmentAt text (Some (size, at)) →
    slots ≡ slots_of empty_slot [] → ReadUpTo text size at 0 slots
unfolding text_of flatten
first_line_lem text size line empty = record {
  tests = [];
  formed = no_tests line.0;
  many = refl;
  spelt = rw (append-nil (segment_text size)) line.2;
  held = empty;
  few = omega arith;
  within = line.1;
}

-- an accepted reply of some count and slots
abbrev with_query : ℕ → ℕ → List Test → Asked
with_query size count slots = record {
  size = size;
  query = record { count = count; tests = slots };
}

module _ {text : List ℕ} {size at count : ℕ} {slots : List Test} (so_far : ReadUpTo text size at count slots) where
  one_line_more : (test : Test) {next : ℕ} {now : List Test} → LineAt text at (Some (test, next)) →
      now ≡ slots_of empty_slot (so_far.tests ++ (test ∷ [])) → ReadUpTo text size next (count + 1) now
  one_line_more test {next} line slots-now = record {
    tests = so_far.tests ++ (test ∷ []);
    formed = test_behind so_far.tests test line.0 so_far.formed;
    many = rw length-append (omega (arith, so_far.many));
    spelt =
        so_far.spelt
        ∙ ap (λ (rest : List ℕ). text_of size so_far.tests ++ rest) line.3
        ∙ sym (append_assoc (text_of size so_far.tests) (test_text test) (drop next text))
        ∙ ap (λ (front : List ℕ). front ++ drop next text) (sym (text_one_more size so_far.tests test));
    held = slots-now;
    few = omega (arith, so_far.few);
    within = line.2;
  }

  pub kept_line : (test : Test) {next : ℕ} → LineAt text at (Some (test, next)) → count < most_tests →
      ReadUpTo text size next (count + 1) (set slots count test)
  kept_line test line room =
      one_line_more test line
      (ap₂ (λ (list : List Test) (place : ℕ). set list place test) so_far.held (sym so_far.many)
      ∙ filled_one_more empty_slot most_tests so_far.tests test (omega (arith, so_far.many)))

  pub counted_line : (test : Test) {next : ℕ} → LineAt text at (Some (test, next)) → most_tests ≤ count →
      ReadUpTo text size next (count + 1) slots
  counted_line test line full =
      one_line_more test line
      (so_far.held ∙ sym (filled_past_last empty_slot most_tests so_far.tests test (omega (arith, so_far.many))))

  pub malformed_line : at < length text → LineAt text at None → Reads text (Err (MalformedText (count + 1)))
  malformed_line inside none =
      let place : 1 + length so_far.tests ≡ count + 1 = omega (arith, so_far.many) in
      subst₂ (λ (bytes : List ℕ) (line : ℕ). Reads bytes (Err (MalformedText line))) (sym so_far.spelt) place
      (Reads.no_test size so_far.tests (drop at text) so_far.formed (rw length-drop (omega arith))
      (λ begins. none begins.0 begins.1 begins.2 begins.3))

  module _ (past : length text ≤ at) where
    spelt_whole : text ≡ text_of size so_far.tests
    spelt_whole =
        so_far.spelt
        ∙ ap (λ (rest : List ℕ). text_of size so_far.tests ++ rest) (drop_of_length-le text past)
        ∙ append-nil (text_of size so_far.tests)

    pub whole_text : count ≤ most_tests → Reads text (Ok (with_query size count slots))
    whole_text enough =
        subst₃ (λ (bytes : List ℕ) (many : ℕ) (list : List Test). Reads bytes (Ok (with_query size many list)))
        (sym spelt_whole) so_far.many (sym so_far.held)
        (Reads.read size so_far.tests so_far.formed (omega (arith, so_far.many)))

    pub too_many_lines : most_tests < count → Reads text (Err TooManyTests)
    too_many_lines more =
        subst (λ (bytes : List ℕ). Reads bytes (Err TooManyTests)) (sym spelt_whole)
        (Reads.too_many size so_far.tests so_far.formed (omega (arith, so_far.many)))
