-- What each byte of a decimal says of the number that is read, below a limit. Assumes nothing.
--   Begun            some digits of a decimal that is not 0 have been read, up to a place
--   first_digit      the first of them, where it is below the limit
--   first_too_large_lem  where it is not, there is no number
--   further_digit    a digit more, and the number that it makes, where it is below the limit
--   too_large_lem        where it is not, there is none, however it goes on
--   number_ends      a byte that is no digit ends the number, if it is the one that must follow
--   text_ends        at the end of the text there is none
--   must_end         a number that no digit more has room behind ends, whatever stands there
--   leading_zero     nor where another byte than the one that must follow comes after a 0
--   zero_ends        0, if the byte that must follow comes next
--   no_digit         no number begins with a byte that is no digit
use Prim.Native.Nat.{ℕ, ◌+◌, ◌-◌, ◌*◌, ◌<◌, ◌≤◌}
use native.Mathlib.Omega.{arith}
use mathlib.Core.Path.{◌≡◌, refl, sym, ap, ap₂, subst, ◌∙◌}
use mathlib.Core.Logic.{⊎_elim}
use mathlib.Core.List.{List, [], ◌∷◌, ◌++◌, append_assoc}
use lib.ListN.{length, get_or, drop, length-append, drop_of_length-le, get_or-append, get_or-eq_default}
use Rattle.std.specs.Prelude.{Option, None}
use Rattle.basis.proofs.Runs.{within_or_past}
use Rattle.decimals.specs.declared.After.{After}
use Rattle.decimals.specs.declared.After.TheVariants.{Space, LineFeed}
use Rattle.decimals.specs.Decimals.{digit, decimal}
use Rattle.decimals.specs.Reading.{after_byte, ended_by, NumberAt}
use Rattle.decimals.proofs.Words.{AllOf, joined_word, byte_of_word}
use Rattle.decimals.proofs.Decimals.{
  IsDigit,
  room,
  decimal_of_digit,
  decimal_one_more,
  decimal_digits,
  decimal_some,
  no_leading_zero,
  value_from,
  value,
  value_one_more,
  same_decimal,
  begun_decimal,
}
use Rattle.decimals.proofs.Places.{byte_within, byte_then, byte_stands, byte_further, by_byte}

-- the byte that must follow is no digit, nor 0
after_low : (after : After) → (0 < after_byte after) × (after_byte after < 48)
after_low Space = omega arith
after_low LineFeed = omega arith

after_no_digit : (after : After) → IsDigit (after_byte after) → ⊥
after_no_digit after d = omega (arith, (after_low after).1)

pub record Begun (limit : ℕ) (text : List ℕ) (from number at : ℕ) : Type 0 where
  pub after : from < at
  pub within : at ≤ length text
  pub some : 0 < number
  pub small : number < limit
  spells : drop from text ≡ decimal number ++ drop at text

module _ {limit : ℕ} (bound : limit ≤ room) where
  -- no number begins with digits that make too much
  too_much : (text : List ℕ) (at : ℕ) (after : After) (word rest : List ℕ) → AllOf IsDigit word → limit ≤ value word →
      drop at text ≡ word ++ rest → NumberAt limit text at after None
  too_much text at after word rest digits large is number left small e =
      omega (arith, (begun_decimal word number digits (omega arith) (after_no_digit after) (sym is ∙ e)).0)

  module _ (text : List ℕ) (at : ℕ) {d : ℕ} (small : d < 10) (is : get_or text at 0 ≡ digit d) where
    -- the digit, and what follows
    stands : (at < length text) × (drop at text ≡ digit d ∷ drop (at + 1) text)
    stands = byte_stands text at (at + 1) (digit d) refl (omega arith) is

    pub first_digit : 0 < d → d < limit → Begun limit text at d (at + 1)
    first_digit some fits = record {
      after = omega arith;
      within = omega (arith, stands.0);
      some = some;
      small = fits;
      spells = stands.1 ∙ ap (λ (word : List ℕ). word ++ drop (at + 1) text) (sym (decimal_of_digit d small));
    }

    pub first_too_large_lem : (after : After) → limit ≤ d → NumberAt limit text at after None
    unfolding value_from
    first_too_large_lem after large =
        too_much text at after (digit d ∷ []) (drop (at + 1) text) (omega arith, tt) (omega arith) stands.1

    module _ {from number : ℕ} (so_far : Begun limit text from number at) where
      one_more : drop from text ≡ (decimal number ++ (digit d ∷ [])) ++ drop (at + 1) text
      one_more =
          so_far.spells
          ∙ ap (λ (rest : List ℕ). decimal number ++ rest) stands.1
          ∙ sym (append_assoc (decimal number) (digit d ∷ []) (drop (at + 1) text))

      pub further_digit : number * 10 + d < limit → Begun limit text from (number * 10 + d) (at + 1)
      further_digit fits = record {
        after = omega (arith, so_far.after);
        within = omega (arith, stands.0);
        some = omega (arith, so_far.some);
        small = fits;
        spells =
            one_more
            ∙ ap (λ (word : List ℕ). word ++ drop (at + 1) text)
            (sym (decimal_one_more number d so_far.some small (omega arith)));
      }

      pub too_large_lem : (after : After) → limit ≤ number * 10 + d → NumberAt limit text from after None
      too_large_lem after large =
          let fits : number < room = omega (arith, so_far.small) in
          too_much text from after (decimal number ++ (digit d ∷ [])) (drop (at + 1) text)
          (joined_word IsDigit (decimal number) (digit d ∷ []) (decimal_digits number fits) (omega arith, tt))
          (omega (arith, value_one_more number d fits)) one_more

  module _ {text : List ℕ} {from number at : ℕ} (so_far : Begun limit text from number at) (after : After) where
    pub number_ends : at < length text → (IsDigit (get_or text at 0) → ⊥) → {read : Option (ℕ × ℕ)} →
        read ≡ ended_by after (get_or text at 0) number (at + 1) → NumberAt limit text from after read
    number_ends inside none said =
        by_byte (NumberAt limit text from after) (get_or text at 0) (after_byte after) said
        (λ is. (
          so_far.small,
          omega (arith, so_far.after),
          omega arith,
          so_far.spells ∙ ap (λ (rest : List ℕ). decimal number ++ rest) (byte_then text at (at + 1) _ refl inside is),
        ))
        (λ differs other rest fits e.
        let behind = byte_then text at (at + 1) (get_or text at 0) refl inside refl in
        let word = same_decimal number other (omega (arith, so_far.small)) (omega arith) (after_no_digit after) none
        (ap (λ (left : List ℕ). decimal number ++ left) (sym behind) ∙ sym so_far.spells ∙ e) in
        differs word.1)

    pub text_ends : length text ≤ at → NumberAt limit text from after None
    text_ends past other rest fits e =
        let digits = decimal_digits number (omega (arith, so_far.small)) in
        let longer = begun_decimal (decimal number) other digits (omega arith) (after_no_digit after) (sym so_far.spells ∙ e) in
        let none = simp length-append at (ap length (sym (drop_of_length-le text past) ∙ longer.2)) in
        omega (arith, none)

    pub must_end : limit ≤ number * 10 → {read : Option (ℕ × ℕ)} → read ≡ ended_by after (get_or text at 0) number (at + 1) →
        NumberAt limit text from after read
    must_end full said =
        let byte = get_or text at 0 in
        let other = by_byte (NumberAt limit text from after) byte (after_byte after) said in
        ⊎_elim
        (λ (low : byte < 48).
        ⊎_elim
        (λ (inside : at < length text). number_ends inside (λ d. omega arith) said)
        (λ (past : length text ≤ at).
        other (λ is. absurd (omega (arith, (after_low after).0, get_or-eq_default text 0 past))) (λ _. text_ends past))
        (within_or_past at (length text)))
        (λ (high : 48 ≤ byte).
        ⊎_elim
        (λ (digit_here : byte < 58).
        other (λ is. absurd (omega (arith, (after_low after).1)))
        (λ _. too_large_lem text at {d = byte - 48} (omega arith) (omega arith) so_far after (omega arith)))
        (λ (no : 58 ≤ byte). number_ends (byte_within text at byte refl (omega arith)) (λ d. omega arith) said)
        (within_or_past byte 58))
        (within_or_past byte 48)

  module _ (text : List ℕ) (at : ℕ) (after : After) where
    -- the byte with which a decimal at the place begins
    begins_with : (number : ℕ) (rest : List ℕ) → number < limit → drop at text ≡ decimal number ++ (after_byte after ∷ rest) →
        get_or text at 0 ≡ get_or (decimal number) 0 0
    begins_with number rest small e =
        byte_further text at 0 at (omega arith) e
        ∙ get_or-append (decimal number) (after_byte after ∷ rest) 0 0 (decimal_some number (omega arith))

    pub leading_zero : get_or text at 0 ≡ 48 → (get_or text (at + 1) 0 ≡ after_byte after → ⊥) → NumberAt limit text at after None
    leading_zero is differs number rest small e =
        let none = no_leading_zero number (omega arith) (sym (begins_with number rest small e) ∙ is) in
        let zero-first =
        e ∙ ap (λ (word : List ℕ). word ++ (after_byte after ∷ rest)) (ap decimal none ∙ decimal_of_digit 0 (omega arith)) in
        differs (byte_further text at 1 (at + 1) refl zero-first)

    pub zero_ends : 0 < limit → get_or text at 0 ≡ 48 → {byte : ℕ} → byte ≡ get_or text (at + 1) 0 → {read : Option (ℕ × ℕ)} →
        read ≡ ended_by after byte 0 (at + 2) → NumberAt limit text at after read
    zero_ends some is {byte} second said =
        by_byte (NumberAt limit text at after) byte (after_byte after) said
        (λ same.
        let here = byte_stands text at (at + 1) 48 refl (omega arith) is in
        let behind = byte_stands text (at + 1) (at + 2) (after_byte after) (omega arith) (after_low after).0 (sym second ∙ same) in
        (some, omega arith, omega arith, here.1 ∙ ap₂ ◌++◌ (sym (decimal_of_digit 0 (omega arith))) behind.1))
        (λ differs. leading_zero is (λ ends. differs (second ∙ ends)))

    pub no_digit : (IsDigit (get_or text at 0) → ⊥) → NumberAt limit text at after None
    no_digit none number rest small e =
        none
        (subst IsDigit (sym (begins_with number rest small e))
        (byte_of_word IsDigit (decimal number) (decimal_digits number (omega arith)) 0 (decimal_some number (omega arith))))
