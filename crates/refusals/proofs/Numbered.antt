-- A refusal's number is never 0, which is shown where there is none. Assumes nothing.
--   from_1_to_18    the numbers that there are
--   never_0         so none is 0
use Prim.Native.Nat.{ℕ, ◌≤◌}
use native.Mathlib.Omega.{arith}
use mathlib.Core.Path.{◌≡◌}
use Rattle.refusals.specs.declared.Refusal.{Refusal}
use Rattle.refusals.specs.declared.Refusal.TheVariants.{NoRegister, OtherVersion, TooManyRows, UnfitColumnCount, DirectoryMisplaced}
use Rattle.refusals.specs.declared.Refusal.TheVariants.{UnfitColumn, BodyMisfit, CodeTooLarge, UnfitCodeCount, OutputTooShort}
use Rattle.refusals.specs.declared.Refusal.TheVariants.{TooManyTests, NoSuchColumn, LiteralTooLarge, UnfitSegmentSize, NoSuchRow}
use Rattle.refusals.specs.declared.Refusal.TheVariants.{UnfitBits, MalformedText, InputNotTaken}
use Rattle.refusals.specs.Numbers.{number_of}

pub from_1_to_18 : (refusal : Refusal) → (1 ≤ number_of refusal) × (number_of refusal ≤ 18)
from_1_to_18 NoRegister = (omega arith, omega arith)
from_1_to_18 OtherVersion = (omega arith, omega arith)
from_1_to_18 TooManyRows = (omega arith, omega arith)
from_1_to_18 UnfitColumnCount = (omega arith, omega arith)
from_1_to_18 DirectoryMisplaced = (omega arith, omega arith)
from_1_to_18 (UnfitColumn place) = (omega arith, omega arith)
from_1_to_18 BodyMisfit = (omega arith, omega arith)
from_1_to_18 (CodeTooLarge place) = (omega arith, omega arith)
from_1_to_18 UnfitCodeCount = (omega arith, omega arith)
from_1_to_18 (OutputTooShort need) = (omega arith, omega arith)
from_1_to_18 TooManyTests = (omega arith, omega arith)
from_1_to_18 (NoSuchColumn place) = (omega arith, omega arith)
from_1_to_18 (LiteralTooLarge place) = (omega arith, omega arith)
from_1_to_18 UnfitSegmentSize = (omega arith, omega arith)
from_1_to_18 (NoSuchRow place) = (omega arith, omega arith)
from_1_to_18 UnfitBits = (omega arith, omega arith)
from_1_to_18 (MalformedText place) = (omega arith, omega arith)
from_1_to_18 InputNotTaken = (omega arith, omega arith)

pub never_0 : (refusal : Refusal) → number_of refusal ≡ 0 → ⊥
never_0 refusal e = let known = from_1_to_18 refusal in omega arith
