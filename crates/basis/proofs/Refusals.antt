-- The two halves of "exactly when", for any table of refusals. Assumes nothing.
--   refused_by_first     a line that holds, with none that holds before it, answers
--   only_the_first       what answers is such a line
--   accepted_when_none   where no line holds, none answers
--   none_when_accepted   where none answers, no line holds
--   each_fails           line by line
--   first_of_earlier     of two tables in a row, what answers in the first answers
--   first_of_later       and where nothing does, what answers in the second
--   neither_answers      of two tables in a row, where none answers, none does in either
--   Past                 a table answers as what is left of it does: it has been walked through so far
--   at_first             before its first line
--   passes, stops        a walk goes past a line that fails, and stops at one that holds
--   passes_all           a walk goes past a table in which none answers
--   stops_within         and stops at the line that answers in it
--   ends                 past the last line, none answers
use mathlib.Core.Path.{◌≡◌, refl, ap, sym, ◌∙◌}
use mathlib.Core.Logic.{◌⊎◌, inl, inr}
use mathlib.Core.List.{List, [], ◌∷◌, ◌++◌}
use mathlib.Core.Bool.{true, false}
use mathlib.Core.Option.{Option, none, some, some-injective, none-ne-some, some-ne-none}
use Rattle.basis.specs.Lists.{any}
use Rattle.basis.specs.Refusals.{Line, first_line}
use Rattle.basis.proofs.Truth.{either, neither, nor, hit, missed}

-- no line of a table holds
abbrev pub NoneHolds : List Line → Type 0
NoneHolds lines = any (λ line. line.holds) lines ≡ false

answers : (line : Line) (lines : List Line) → line.holds ≡ true → first_line (line ∷ lines) ≡ some line
answers line lines h = hit line.holds (some line) (first_line lines) h

passed_over : (line : Line) (lines : List Line) → line.holds ≡ false → first_line (line ∷ lines) ≡ first_line lines
passed_over line lines h = missed line.holds (some line) (first_line lines) h

pub refused_by_first : (earlier : List Line) (line : Line) (later : List Line) →
    NoneHolds earlier → line.holds ≡ true → first_line (earlier ++ line ∷ later) ≡ some line
refused_by_first [] line later none' h = answers line later h
refused_by_first (l ∷ earlier) line later none' h =
    let apart = neither l.holds (any (λ line. line.holds) earlier) none' in
    passed_over l (earlier ++ line ∷ later) apart.0 ∙ refused_by_first earlier line later apart.1 h

-- a line that answers splits the table: before it no line holds, and it does
abbrev Split : List Line → Line → Type 0
Split lines line =
    (earlier : List Line) × (later : List Line) × (lines ≡ earlier ++ line ∷ later) × NoneHolds earlier × (line.holds ≡ true)

pub only_the_first : (lines : List Line) (line : Line) → first_line lines ≡ some line → Split lines line
only_the_first [] line e = absurd (none-ne-some line e)
only_the_first (l ∷ lines) line e = go (either l.holds) (only_the_first lines line)
  where
    go : (l.holds ≡ true) ⊎ (l.holds ≡ false) → (first_line lines ≡ some line → Split lines line) → Split (l ∷ lines) line
    go (inl h) rest =
        let same : l ≡ line = some-injective l line (sym (answers l lines h) ∙ e) in
        ([], lines, ap (λ x. x ∷ lines) same, refl, rw (← same) h)
    go (inr h) rest =
        let r = rest (sym (passed_over l lines h) ∙ e) in
        (l ∷ r.0, r.1, ap (λ x. l ∷ x) r.2, nor _ _ h r.3, r.4)

pub accepted_when_none : (lines : List Line) → NoneHolds lines → first_line lines ≡ none
accepted_when_none [] none' = refl
accepted_when_none (l ∷ lines) none' =
    let apart = neither l.holds (any (λ line. line.holds) lines) none' in
    passed_over l lines apart.0 ∙ accepted_when_none lines apart.1

pub none_when_accepted : (lines : List Line) → first_line lines ≡ none → NoneHolds lines
none_when_accepted [] e = refl
none_when_accepted (l ∷ lines) e = go (either l.holds) (none_when_accepted lines)
  where
    go : (l.holds ≡ true) ⊎ (l.holds ≡ false) → (first_line lines ≡ none → NoneHolds lines) → NoneHolds (l ∷ lines)
    go (inl h) rest = absurd (some-ne-none l (sym (answers l lines h) ∙ e))
    go (inr h) rest = nor _ _ h (rest (sym (passed_over l lines h) ∙ e))

-- each line's condition in turn
abbrev pub EachFails : List Line → Type 0
EachFails [] = Unit {0}
EachFails (line ∷ lines) = (line.holds ≡ false) × EachFails lines

pub each_fails : (lines : List Line) → NoneHolds lines → EachFails lines
each_fails [] none' = tt
each_fails (line ∷ lines) none' =
    let apart = neither line.holds (any (λ line. line.holds) lines) none' in
    (apart.0, each_fails lines apart.1)

pub first_of_earlier : (lines more : List Line) (line : Line) → first_line lines ≡ some line → first_line (lines ++ more) ≡ some line
first_of_earlier [] more line e = absurd (none-ne-some line e)
first_of_earlier (l ∷ lines) more line e = go (either l.holds) (first_of_earlier lines more line)
  where
    go : (l.holds ≡ true) ⊎ (l.holds ≡ false) → (first_line lines ≡ some line → first_line (lines ++ more) ≡ some line) →
        first_line (l ∷ (lines ++ more)) ≡ some line
    go (inl h) rest = answers l (lines ++ more) h ∙ sym (answers l lines h) ∙ e
    go (inr h) rest = passed_over l (lines ++ more) h ∙ rest (sym (passed_over l lines h) ∙ e)

pub first_of_later : (lines more : List Line) → first_line lines ≡ none → first_line (lines ++ more) ≡ first_line more
first_of_later [] more e = refl
first_of_later (l ∷ lines) more e = go (either l.holds) (first_of_later lines more)
  where
    go : (l.holds ≡ true) ⊎ (l.holds ≡ false) → (first_line lines ≡ none → first_line (lines ++ more) ≡ first_line more) →
        first_line (l ∷ (lines ++ more)) ≡ first_line more
    go (inl h) rest = absurd (some-ne-none l (sym (answers l lines h) ∙ e))
    go (inr h) rest = passed_over l (lines ++ more) h ∙ rest (sym (passed_over l lines h) ∙ e)

pub neither_answers : (lines more : List Line) → first_line (lines ++ more) ≡ none → (first_line lines ≡ none) × (first_line more ≡ none)
neither_answers lines more e = go (first_line lines) refl
  where
    go : (first : Option Line) → first_line lines ≡ first → (first_line lines ≡ none) × (first_line more ≡ none)
    go none f = (f, sym (first_of_later lines more f) ∙ e)
    go (some line) f = absurd (some-ne-none line (sym (first_of_earlier lines more line f) ∙ e))

-- a table is walked through line by line: it answers as what is left of it does
pub record Past (lines left : List Line) : Type 0 where
  pub alike : first_line lines ≡ first_line left

pub at_first : (lines : List Line) → Past lines lines
at_first lines = record { alike = refl }

pub passes : {lines left : List Line} {line : Line} → Past lines (line ∷ left) → line.holds ≡ false → Past lines left
passes {left = left} {line = line} past fails = record { alike = past.alike ∙ passed_over line left fails }

pub stops : {lines left : List Line} {line : Line} → Past lines (line ∷ left) → line.holds ≡ true → first_line lines ≡ some line
stops {left = left} {line = line} past holds = past.alike ∙ answers line left holds

pub passes_all : {all : List Line} (lines left : List Line) → Past all (lines ++ left) → first_line lines ≡ none → Past all left
passes_all lines left past none_answers = record { alike = past.alike ∙ first_of_later lines left none_answers }

pub stops_within : {all : List Line} (lines left : List Line) → Past all (lines ++ left) → (line : Line) → first_line lines ≡ some line →
    first_line all ≡ some line
stops_within lines left past line answered = past.alike ∙ first_of_earlier lines left line answered

pub ends : {lines : List Line} → Past lines [] → first_line lines ≡ none
ends past = past.alike
