-- The six comparisons as a machine: a row stands less, equal or greater to the literal by the first byte that differs, pads
-- cleared. Assumes nothing.
use Prim.Native.Nat.{ℕ, compare, Ordering}
use Rattle.std.specs.Prelude.{Bool, true, false, ◌||◌}
use Rattle.codes.specs.Width.{slices_of}
use Rattle.codes.specs.Bytes.{byte_of}
use Rattle.codes.specs.Pad.{cleared_byte}
use Rattle.codes.specs.Order.{and_then}
use Rattle.query.specs.declared.Comparison.{Comparison}
use Rattle.query.specs.declared.Comparison.TheVariants.{Less, AtMost, More, AtLeast, Equal, Differs}
use Rattle.query.specs.Tests.{literal_of}
use Rattle.schedule.specs.Machine.{Machine}

-- a test with the width of its column
pub record ColumnTest : Type 0 where
  pub column : ℕ
  pub width : ℕ
  pub comparison : Comparison

abbrev pub less : Ordering → Bool
less Ordering.lt = true
less Ordering.eq = false
less Ordering.gt = false

abbrev pub equal : Ordering → Bool
equal Ordering.lt = false
equal Ordering.eq = true
equal Ordering.gt = false

abbrev pub greater : Ordering → Bool
greater Ordering.lt = false
greater Ordering.eq = false
greater Ordering.gt = true

-- the table: ruled out when
abbrev pub ruled_out_when : Comparison → Ordering → Bool
ruled_out_when (Less _) s = greater s
ruled_out_when (AtMost _) s = greater s
ruled_out_when (More _) s = less s
ruled_out_when (AtLeast _) s = less s
ruled_out_when (Equal _) s = less s || greater s
ruled_out_when (Differs _) s = false

-- the table: true at the end when
abbrev pub true_when : Comparison → Ordering → Bool
true_when (Less _) s = less s
true_when (AtMost _) s = less s || equal s
true_when (More _) s = greater s
true_when (AtLeast _) s = greater s || equal s
true_when (Equal _) s = equal s
true_when (Differs _) s = less s || greater s

-- the machine in force
abbrev pub comparing : Machine ColumnTest
comparing = record {
  Standing = Ordering;
  slices = λ t. slices_of t.width;
  start = λ t. Ordering.eq;
  next = λ t slice s b. and_then s (compare (cleared_byte t.width slice b) (byte_of t.width (literal_of t.comparison) slice));
  equal = λ t s. equal s;
  rules_out = λ t after s. ruled_out_when t.comparison s;
  holds = λ t s. true_when t.comparison s;
}
