-- Printing what was read gives the text back: a text that is not refused is that of the size and the tests in its reply. So two
-- texts that are accepted with one reply are one text. Assumes nothing.
use Prim.Native.Nat.{ℕ}
use native.Mathlib.Omega.{arith}
use mathlib.Core.Path.{◌≡◌, refl, sym, ap, ◌∙◌}
use mathlib.Core.List.{List}
use Rattle.limits.specs.Limits.{most_tests}
use Rattle.query.specs.Tests.{empty_slot, tests_of}
use Rattle.std.specs.Prelude.{Result, Ok, Err}
use Rattle.refusals.specs.declared.Refusal.{Refusal}
use Rattle.refusals.specs.declared.Refusal.TheVariants.{TooManyTests, MalformedText}
use Rattle.text.specs.declared.Asked.{Asked}
use Rattle.query_lines.specs.Lines.{text_of}
use Rattle.text.specs.Reading.{accepted, Reads}
use Rattle.query.proofs.Slots.{filled_front}

pub read_is_printed : {text : List ℕ} {reply : Result Asked Refusal} → Reads text reply → (asked : Asked) → reply ≡ Ok asked →
    text ≡ text_of asked.size (tests_of asked.query)
read_is_printed (Reads.read size tests formed few) asked e =
    let same : accepted size tests ≡ asked = cc in
    rw (← same) (ap (text_of size) (sym (filled_front empty_slot most_tests tests few)))
read_is_printed (Reads.too_many size tests formed more) asked e = let z : ◌≡◌ {A = ℕ} 0 1 = cc in absurd (omega arith)
read_is_printed (Reads.no_segment text none) asked e = let z : ◌≡◌ {A = ℕ} 0 1 = cc in absurd (omega arith)
read_is_printed (Reads.no_test size tests rest formed some none) asked e = let z : ◌≡◌ {A = ℕ} 0 1 = cc in absurd (omega arith)

pub same_reply_same_text : {text other : List ℕ} (asked : Asked) → Reads text (Ok asked) → Reads other (Ok asked) → text ≡ other
same_reply_same_text asked one second = read_is_printed one asked refl ∙ sym (read_is_printed second asked refl)
