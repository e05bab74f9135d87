-- A row's standing to a test, kept as a byte: 0 equal so far, 1 less, 2 greater. Assumes nothing.
use Prim.Native.Nat.{ℕ, Ordering}
use Rattle.std.specs.Prelude.{Bool, false, ◌||◌, cond, eqb}
use Rattle.codes.specs.Order.{against}
use Rattle.query.specs.declared.Comparison.{Comparison}
use Rattle.query.specs.declared.Comparison.TheVariants.{Less, AtMost, More, AtLeast, Equal, Differs}

-- the byte of a standing
abbrev pub kept : Ordering → ℕ
kept Ordering.eq = 0
kept Ordering.lt = 1
kept Ordering.gt = 2

-- one more byte, against the literal's low and high: what is equal so far is decided by it, the rest stands
abbrev pub stepped_row : ℕ → ℕ → ℕ → ℕ → ℕ
stepped_row s low high b = cond (eqb s 0) (kept (against low high b)) s

-- a row keeps a test open: it is equal so far, and still in
abbrev pub open_row : ℕ → ℕ → ℕ
open_row s in_still = cond (eqb s 0) in_still 0

-- a row is no longer in when a test says so of its standing
abbrev pub left_row : Bool → ℕ → ℕ
left_row out in_still = cond out 0 in_still

-- the table's "ruled out when", of a kept standing
abbrev pub rules_out_kept : Comparison → ℕ → Bool
rules_out_kept (Less _) s = eqb s 2
rules_out_kept (AtMost _) s = eqb s 2
rules_out_kept (More _) s = eqb s 1
rules_out_kept (AtLeast _) s = eqb s 1
rules_out_kept (Equal _) s = eqb s 1 || eqb s 2
rules_out_kept (Differs _) s = false

-- what is left in at the end and is no match: equal under <, > and !=
abbrev pub fails_kept : Comparison → ℕ → Bool
fails_kept (Less _) s = eqb s 0
fails_kept (AtMost _) s = false
fails_kept (More _) s = eqb s 0
fails_kept (AtLeast _) s = false
fails_kept (Equal _) s = false
fails_kept (Differs _) s = eqb s 0
