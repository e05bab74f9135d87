-- A refusal in numbers: its number, its place and its need, each of the last two 0 where it has none. Assumes nothing.
use Rattle.std.specs.Prelude.{ℕ, List, [], ◌∷◌, Result, Ok, Err}
use Rattle.refusals.specs.declared.Refusal.{Refusal}
use Rattle.refusals.specs.declared.Refusal.TheVariants.{NoRegister, OtherVersion, TooManyRows, UnfitColumnCount, DirectoryMisplaced}
use Rattle.refusals.specs.declared.Refusal.TheVariants.{UnfitColumn, BodyMisfit, CodeTooLarge, UnfitCodeCount, OutputTooShort}
use Rattle.refusals.specs.declared.Refusal.TheVariants.{TooManyTests, NoSuchColumn, LiteralTooLarge, UnfitSegmentSize, NoSuchRow}
use Rattle.refusals.specs.declared.Refusal.TheVariants.{UnfitBits, MalformedText, InputNotTaken}

abbrev pub number_of : Refusal → ℕ
number_of NoRegister = 1
number_of OtherVersion = 2
number_of TooManyRows = 3
number_of UnfitColumnCount = 4
number_of DirectoryMisplaced = 5
number_of (UnfitColumn place) = 6
number_of BodyMisfit = 7
number_of (CodeTooLarge place) = 8
number_of UnfitCodeCount = 9
number_of (OutputTooShort need) = 10
number_of TooManyTests = 11
number_of (NoSuchColumn place) = 12
number_of (LiteralTooLarge place) = 13
number_of UnfitSegmentSize = 14
number_of (NoSuchRow place) = 15
number_of UnfitBits = 16
number_of (MalformedText place) = 17
number_of InputNotTaken = 18

abbrev pub place_of : Refusal → ℕ
place_of (UnfitColumn place) = place
place_of (CodeTooLarge place) = place
place_of (NoSuchColumn place) = place
place_of (LiteralTooLarge place) = place
place_of (NoSuchRow place) = place
place_of (MalformedText place) = place
place_of other = 0

abbrev pub need_of : Refusal → ℕ
need_of (OutputTooShort need) = need
need_of other = 0

-- what is shown of a refusal: number, place and need
abbrev pub numbers_of : Refusal → List ℕ
numbers_of refusal = number_of refusal ∷ place_of refusal ∷ need_of refusal ∷ []

-- what is shown of a reply before its values: 0 thrice where nothing is refused
abbrev pub told_of : {A : Type 0} → Result A Refusal → List ℕ
told_of (Ok value) = 0 ∷ 0 ∷ 0 ∷ []
told_of (Err refusal) = numbers_of refusal
