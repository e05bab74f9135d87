-- What a text asks can be listed. Assumes nothing.
--   reads_small       a text asks at most sixteen tests, in sixteen slots
--   columns_below     and the column of each, where the scan is accepted, is one of the file's
use Prim.Native.Nat.{ℕ, ◌≤◌}
use native.Mathlib.Omega.{arith}
use mathlib.Core.Path.{◌≡◌, ◌∙◌}
use mathlib.Core.List.{List, []}
use lib.ListN.{length, get_or, length-take}
use lib.Seq.{get_or-take}
use Rattle.limits.specs.Limits.{most_tests}
use Rattle.basis.proofs.Lists.{at_is_member}
use Rattle.directory.specs.File.{columns_in}
use Rattle.query.specs.declared.Query.{Query}
use Rattle.query.specs.Tests.{empty_slot, tests_of}
use Rattle.query.proofs.Slots.{length_filled}
use Rattle.text.specs.declared.Asked.{Asked}
use Rattle.std.specs.Prelude.{Result}
use Rattle.refusals.specs.declared.Refusal.{Refusal}
use Rattle.text.specs.Reading.{asked_in, Reads, read, too_many, no_segment, no_test}
use Rattle.scan.proofs.Accepting.{Accepted, fits}
use Rattle.sections.specs.Steps.{ColumnsBelow}

pub reads_small : {text : List ℕ} {reply : Result Asked Refusal} → Reads text reply →
    ((asked_in reply).query.count ≤ most_tests) × (length (asked_in reply).query.tests ≡ most_tests)
reads_small (read size tests formed few) = (few, length_filled empty_slot most_tests tests)
reads_small (too_many size tests formed many) = (omega arith, length_filled empty_slot most_tests [])
reads_small (no_segment text none) = (omega arith, length_filled empty_slot most_tests [])
reads_small (no_test size tests rest formed some none) = (omega arith, length_filled empty_slot most_tests [])

pub columns_below : (file : List ℕ) (size : ℕ) (query : Query) (room : ℕ) → Accepted file size query room → query.count ≤ most_tests →
    length query.tests ≡ most_tests → ColumnsBelow (columns_in file) query.tests query.count
columns_below file size query room granted few slots t inside =
    let long : length (tests_of query) ≡ query.count = length-take query.count query.tests ∙ rw slots (omega arith) in
    let here = at_is_member (tests_of query) t empty_slot (omega arith) in
    let fit = fits file size query room granted (get_or (tests_of query) t empty_slot) here in
    rw (get_or-take query.count query.tests t empty_slot inside) at fit.column
