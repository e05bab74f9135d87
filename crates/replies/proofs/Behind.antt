-- Numbers that stand behind the first five of a reply. Assumes nothing.
--   behind            a reply that was filled to its end: its front, and the list
--   each_number       a list told by number is the list
--   each_slot         and so are the slots of a query's tests
--   slot_more         one more slot, number after number
use Prim.Native.Nat.{ℕ, ◌+◌, ◌*◌, ◌≤◌}
use native.Mathlib.Omega.{arith}
use native.Mathlib.Numerals.{add-one}
use mathlib.Core.Path.{◌≡◌, refl, sym, ap, ◌∙◌}
use mathlib.Core.List.{List, [], ◌∷◌, ◌++◌, map, map-map, flatten, append-nil, append_assoc}
use lib.ListN.{length, get_or, take, set, drop_of_length-le, length-append}
use lib.Seq.{take_all}
use Rattle.limits.specs.Limits.{most_tests}
use Rattle.basis.specs.Lists.{below}
use Rattle.basis.proofs.Buffers.{Filled, filled_store}
use Rattle.basis.proofs.Lists.{joined_one_more, length_flatten, sum_of_same}
use Rattle.basis.proofs.Runs.{taken_by_number}
use Rattle.query.specs.declared.Test.{Test}
use Rattle.query.specs.Tests.{empty_slot, test_at}
use Rattle.replies.specs.Replies.{slot_reply}

pub behind : (start : List ℕ) (at : ℕ) (list : List ℕ) {reply : List ℕ} → Filled start at list reply → length start ≡ at + length list →
    reply ≡ take at start ++ list
behind start at list filled long =
    let end : length start ≤ at + length list = omega arith in
    filled.filled
    ∙ ap (λ (rest : List ℕ). take at start ++ (list ++ rest)) (drop_of_length-le start end)
    ∙ ap (λ (rest : List ℕ). take at start ++ rest) (append-nil list)

by_number : {A : Type 0} (list : List A) (n : ℕ) (none : A) → length list ≡ n → map (λ i. get_or list i none) (below n) ≡ list
by_number list n none long = sym (taken_by_number list n none (omega arith)) ∙ take_all n list (omega arith)

pub each_number : (list : List ℕ) → length list ≡ most_tests → map (λ i. get_or list i 0) (below most_tests) ≡ list
each_number list long = by_number list most_tests 0 long

-- the slot of test number t
abbrev pub slot_at : List Test → ℕ → List ℕ
slot_at tests t = slot_reply (test_at tests t)

pub each_slot : (tests : List Test) → length tests ≡ most_tests →
    flatten (map (slot_at tests) (below most_tests)) ≡ flatten (map slot_reply tests)
each_slot tests long =
    ap flatten (sym (map-map slot_reply (test_at tests) (below most_tests)) ∙ ap (map slot_reply) (by_number tests most_tests empty_slot long))

-- slots before number t are three numbers each
slots_long : (tests : List Test) (t : ℕ) → length (flatten (map (slot_at tests) (below t))) ≡ 3 * t
slots_long tests t = length_flatten (slot_at tests) (λ i. 3) (λ i. refl) t ∙ sum_of_same 3 t

pub slot_more : (tests : List Test) (t : ℕ) (start : List ℕ) {reply : List ℕ} (a b c : ℕ) → slot_at tests t ≡ a ∷ b ∷ c ∷ [] →
    Filled start 5 (flatten (map (slot_at tests) (below t))) reply → 8 + 3 * t ≤ length start →
    Filled start 5 (flatten (map (slot_at tests) (below (t + 1)))) (set (set (set reply (5 + 3 * t) a) (6 + 3 * t) b) (7 + 3 * t) c)
slot_more tests t start a b c slot filled room =
    let front = flatten (map (slot_at tests) (below t)) in
    let long = slots_long tests t in
    let long₁ : length (front ++ (a ∷ [])) ≡ 3 * t + 1 = rw length-append (omega arith) in
    let long₂ : length ((front ++ (a ∷ [])) ++ (b ∷ [])) ≡ 3 * t + 2 = rw length-append (omega arith) in
    let one = filled_store start 5 front (5 + 3 * t) a filled (omega arith) (omega arith) in
    let two = filled_store start 5 (front ++ (a ∷ [])) (6 + 3 * t) b one (omega arith) (omega arith) in
    let three = filled_store start 5 ((front ++ (a ∷ [])) ++ (b ∷ [])) (7 + 3 * t) c two (omega arith) (omega arith) in
    let all : flatten (map (slot_at tests) (below (t + 1))) ≡ ((front ++ (a ∷ [])) ++ (b ∷ [])) ++ (c ∷ []) =
    ap (λ (n : ℕ). flatten (map (slot_at tests) (below n))) (add-one t)
    ∙ joined_one_more (slot_at tests) t
    ∙ ap (λ (more : List ℕ). front ++ more) slot
    ∙ sym (append_assoc (front ++ (a ∷ [])) (b ∷ []) (c ∷ []) ∙ append_assoc front (a ∷ []) (b ∷ c ∷ [])) in
    rw all three
