-- The replies of reading and scanning as arrays of numbers: number, place and need first, then the values. Assumes nothing.
use Rattle.std.specs.Prelude.{ℕ, Result}
use mathlib.Core.List.{List, [], ◌∷◌, ◌++◌, map, flatten}
use Rattle.refusals.specs.declared.Refusal.{Refusal}
use Rattle.refusals.specs.Numbers.{told_of}
use Rattle.query.specs.declared.Comparison.{Comparison}
use Rattle.query.specs.declared.Comparison.TheVariants.{Less, AtMost, More, AtLeast, Equal, Differs}
use Rattle.query.specs.declared.Test.{Test}
use Rattle.query.specs.Tests.{literal_of}
use Rattle.text.specs.declared.Asked.{Asked}
use Rattle.text.specs.Reading.{asked_in}
use Rattle.scan.specs.declared.Scanned.{Scanned}
use Rattle.scan.specs.Answers.{numbers_in}

-- comparisons are numbered in the order < <= > >= = !=
abbrev pub kind_of : Comparison → ℕ
kind_of (Less _) = 0
kind_of (AtMost _) = 1
kind_of (More _) = 2
kind_of (AtLeast _) = 3
kind_of (Equal _) = 4
kind_of (Differs _) = 5

-- a slot of a query: column, comparison, literal
abbrev pub slot_reply : Test → List ℕ
slot_reply test = test.column ∷ kind_of test.comparison ∷ literal_of test.comparison ∷ []

-- reading: size, count, and every slot
unfoldable pub read_reply : Result Asked Refusal → List ℕ
read_reply reply =
    let asked = asked_in reply in
    told_of reply ++ (asked.size ∷ asked.query.count ∷ flatten (map slot_reply asked.query.tests))

-- scanning: matches, total, and every count
unfoldable pub scan_reply : Result Scanned Refusal → List ℕ
scan_reply reply =
    let scanned = numbers_in reply in
    told_of reply ++ (scanned.matches ∷ scanned.total ∷ scanned.counts)
