-- `numbers::number_of` meets its contract: a turn takes the last byte that is left, and makes 256 times the number and the byte.
-- Assumes nothing.
use Prim.Native.Nat.{ℕ, ◌+◌, ◌*◌, ◌^◌, ◌<◌, ◌≤◌}
use native.Mathlib.Omega.{arith}
use native.Mathlib.Nat.{lt_of_lt_of_le, pow-le-pow_right}
use mathlib.Core.Path.{◌≡◌, refl, ap, ◌∙◌}
use mathlib.Core.List.{List, [], ◌∷◌, ◌++◌, append-nil, append_assoc}
use lib.ListN.{length, length-append}
use Rattle.std.proofs.lemmas.List.{nil_from_length}
use Rattle.basis.specs.Numbers.{little}
use Rattle.basis.proofs.Numbers.{one_more_byte}
use Rattle.numbers.specs.OfBytes.{OfBytes}
use Rattle.numbers.proofs.number_of.Goals as goal
use Rattle.numbers.proofs.number_of.Goals.{In-Some}

-- one byte more in front of those taken
one_more : (taken : List ℕ) (number b : ℕ) → OfBytes taken number → b < 256 → OfBytes (b ∷ taken) (number * 256 + b)
unfolding little
one_more taken number b so_far byte =
    record { made = omega (arith, so_far.made); small = one_more_byte (length taken) number b so_far.small byte }

pub loop-byte-init : goal.loop-byte-init
unfolding little
loop-byte-init c = ([], simp append-nil (cc), record { made = refl; small = omega arith })

-- the bytes are those that are left, the last of these, and those taken
split : (c : In-Some) → c.args.bytes.now ≡ c.next.new.self.iter.rest.now ++ c.in-Some.byte.now ∷ c.loop-byte.invariant.0
split c =
    let (taken, all, so_far) = c.loop-byte.invariant in
    all ∙ rw c.in-Some.ensures.steps (append_assoc c.next.new.self.iter.rest.now (c.in-Some.byte.now ∷ []) taken)

-- so fewer than eight are taken
room : (c : In-Some) → c.loop-byte.number < 256 ^ 7
room c =
    let (taken, all, so_far) = c.loop-byte.invariant in
    let few : length taken ≤ 7 = omega (arith, simp length-append at (ap length (split c))) in
    lt_of_lt_of_le so_far.small (pow-le-pow_right {n = 256} (omega arith) {j = 7} few)

pub overflow_mul-number : goal.overflow_mul-number
overflow_mul-number c = omega (arith, room c)

pub overflow_add-number : goal.overflow_add-number
overflow_add-number c = omega (arith, room (goal.at.overflow_add-number c).In-Some)

pub loop-byte-preserved : goal.loop-byte-preserved
loop-byte-preserved c =
    let (taken, all, so_far) = c.loop-byte.invariant in
    let parts = rw (← c.from.ensures) at (split (goal.at.loop-byte-preserved c).In-Some) in
    (c.from.result ∷ taken, parts, one_more taken c.loop-byte.number c.from.result so_far (omega arith))

pub returns : goal.returns
returns c =
    let (taken, all, so_far) = c.loop-byte.invariant in
    rw (all, nil_from_length _ c.in-None.ensures.steps.0) so_far
