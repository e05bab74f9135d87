-- Consecutive numbers, and sums over those below a bound. Assumes nothing.
--   length_run        a run has as many numbers as it says
--   run_at            and counts up from its first
--   below_one_more    the numbers below n + 1 end with n
--   map_one_more      and so does what is made of each
--   flatten_one_more     lists joined, and one more
--   sum_one_more      the sum over the numbers below n + 1 ends with n
--   sum_grows         more terms, no smaller a sum
--   sum_at_most       a bound on each term bounds the sum
--   sum_of_same       a sum of one number over and over is a product
--   sum_scaled        a common factor comes out of a sum
--   joined_one_more   what is joined of each number below n + 1 ends with n's
--   length_flatten       lists joined are as long as all of them together
--   any_one_more      a test of some number below n + 1 ends with n
--   mapped_same       what is made alike of each number below n is the same list
--   mapped_onwards    what is made of the numbers from a first on, told from 0 on
--   sum_continues     the sum over the numbers below n, and over those that follow
--   sum_onwards       a sum over the numbers from a first on, told from 0 on
--   at_is_member      what stands at a place of a list is a member of it
--   mapped_in_place   what stands at a place of a list made from another
use Prim.Native.Nat.{ℕ, zero, suc, ◌+◌, ◌*◌, ◌≤◌, ◌<◌}
use native.Mathlib.Omega.{arith}
use native.Mathlib.Nat.{add-zero, add-suc, mul-zero, mul-suc, mul-add, le_dest}
use mathlib.Core.Path.{◌≡◌, refl, sym, ap, ap₂, ◌∙◌}
use mathlib.Core.List.{List, [], ◌∷◌, ◌++◌, map, map-append, append-nil, append_assoc, flatten, Memᴰ}
use mathlib.Core.Bool.{Bool, ◌||◌, or_assoc, or-false}
use lib.ListN.{length, get_or, length-append}
use Rattle.basis.specs.Lists.{any, sum, run, below}

pub length_run : (first many : ℕ) → length (run first many) ≡ many
length_run first zero = refl
length_run first (suc many) = ap suc (length_run (suc first) many)

run_at : (first many i : ℕ) → i < many → get_or (run first many) i 0 ≡ first + i
run_at first zero i h = absurd (omega arith)
run_at first (suc many) zero h = omega arith
run_at first (suc many) (suc i) h = omega (arith, run_at (suc first) many i (omega arith))

run_one_more : (first many : ℕ) → run first (suc many) ≡ run first many ++ ((first + many) ∷ [])
run_one_more first zero = rw (add-zero first)
run_one_more first (suc many) =
    let place : suc first + many ≡ first + suc many = omega arith in
    ap (λ rest. first ∷ rest) (rw place at (run_one_more (suc first) many))

pub below_one_more : (n : ℕ) → below (suc n) ≡ below n ++ (n ∷ [])
below_one_more n =
    let place : 0 + n ≡ n = omega arith in
    rw place at (run_one_more 0 n)

pub map_one_more : {B : Type 0} (f : ℕ → B) (n : ℕ) → map f (below (suc n)) ≡ map f (below n) ++ (f n ∷ [])
map_one_more f n = ap (map f) (below_one_more n) ∙ map-append f (below n) (n ∷ [])

flatten_one_more : {A : Type 0} (lists : List (List A)) (list : List A) → flatten (lists ++ (list ∷ [])) ≡ flatten lists ++ list
unfolding flatten
flatten_one_more [] list = append-nil list
flatten_one_more (xs ∷ lists) list = ap (λ rest. xs ++ rest) (flatten_one_more lists list) ∙ sym (append_assoc xs (flatten lists) list)

sum_run : (f : ℕ → ℕ) (first many : ℕ) → sum f (run first (suc many)) ≡ sum f (run first many) + f (first + many)
sum_run f first zero = rw (add-zero first) (omega arith)
sum_run f first (suc many) =
    let place : suc first + many ≡ first + suc many = omega arith in
    omega (arith, rw place at (sum_run f (suc first) many))

pub sum_one_more : (f : ℕ → ℕ) (n : ℕ) → sum f (below (suc n)) ≡ sum f (below n) + f n
sum_one_more f n =
    let place : 0 + n ≡ n = omega arith in
    rw place at (sum_run f 0 n)

sum_more : (f : ℕ → ℕ) (n more : ℕ) → sum f (below n) ≤ sum f (below (n + more))
sum_more f n zero = rw add-zero (omega arith)
sum_more f n (suc more) =
    let place : n + suc more ≡ suc (n + more) = omega arith in
    rw place (omega (arith, sum_one_more f (n + more), sum_more f n more))

pub sum_grows : (f : ℕ → ℕ) {few many : ℕ} → few ≤ many → sum f (below few) ≤ sum f (below many)
sum_grows f {few} h = let more = le_dest h in rw (← more.1) (sum_more f few more.0)

pub sum_at_most : (f : ℕ → ℕ) (most n : ℕ) → ((i : ℕ) → i < n → f i ≤ most) → sum f (below n) ≤ most * n
sum_at_most f most zero each = omega arith
sum_at_most f most (suc n) each =
    rw (sum_one_more f n, mul-suc most n)
    (omega (arith, sum_at_most f most n (λ i h. each i (omega arith)), each n (omega arith)))

pub sum_of_same : (number n : ℕ) → sum (λ i. number) (below n) ≡ number * n
sum_of_same number zero = sym (mul-zero number)
sum_of_same number (suc n) = rw (sum_one_more (λ i. number) n, mul-suc number n, sum_of_same number n)

pub sum_scaled : (factor : ℕ) (f : ℕ → ℕ) (n : ℕ) → sum (λ i. factor * f i) (below n) ≡ factor * sum f (below n)
sum_scaled factor f zero = sym (mul-zero factor)
sum_scaled factor f (suc n) =
    rw (sum_one_more (λ i. factor * f i) n, sum_one_more f n, mul-add factor (sum f (below n)) (f n), sum_scaled factor f n)

pub joined_one_more : {A : Type 0} (list : ℕ → List A) (n : ℕ) →
    flatten (map list (below (suc n))) ≡ flatten (map list (below n)) ++ list n
joined_one_more list n = ap flatten (map_one_more list n) ∙ flatten_one_more (map list (below n)) (list n)

pub length_flatten : {A : Type 0} (list : ℕ → List A) (long : ℕ → ℕ) → ((i : ℕ) → length (list i) ≡ long i) → (n : ℕ) →
    length (flatten (map list (below n))) ≡ sum long (below n)
unfolding flatten
length_flatten list long each zero = refl
length_flatten list long each (suc n) =
    ap length (joined_one_more list n)
    ∙ rw (length-append, each n, length_flatten list long each n) (sym (sum_one_more long n))

any_append : {A : Type 0} (test : A → Bool) (xs ys : List A) → any test (xs ++ ys) ≡ (any test xs || any test ys)
any_append test [] ys = refl
any_append test (x ∷ xs) ys =
    ap (λ (rest : Bool). test x || rest) (any_append test xs ys) ∙ sym (or_assoc (test x) (any test xs) (any test ys))

pub any_one_more : (test : ℕ → Bool) (n : ℕ) → any test (below (suc n)) ≡ (any test (below n) || test n)
any_one_more test n =
    ap (any test) (below_one_more n)
    ∙ any_append test (below n) (n ∷ [])
    ∙ ap (λ (last : Bool). any test (below n) || last) (or-false (test n))

pub mapped_same : {B : Type 0} (f g : ℕ → B) (n : ℕ) → ((i : ℕ) → i < n → f i ≡ g i) → map f (below n) ≡ map g (below n)
mapped_same f g zero each = refl
mapped_same f g (suc n) each =
    map_one_more f n
    ∙ ap₂ (λ list x. list ++ (x ∷ [])) (mapped_same f g n (λ i h. each i (omega arith))) (each n (omega arith))
    ∙ sym (map_one_more g n)

pub mapped_onwards : {B : Type 0} (f : ℕ → B) (first many : ℕ) → map f (run first many) ≡ map (λ i. f (first + i)) (below many)
mapped_onwards f first zero = refl
mapped_onwards f first (suc many) =
    ap (map f) (run_one_more first many)
    ∙ map-append f (run first many) ((first + many) ∷ [])
    ∙ ap (λ list. list ++ (f (first + many) ∷ [])) (mapped_onwards f first many)
    ∙ sym (map_one_more (λ i. f (first + i)) many)

pub sum_continues : (f : ℕ → ℕ) (n more : ℕ) → sum f (below (n + more)) ≡ sum f (below n) + sum (λ i. f (n + i)) (below more)
sum_continues f n zero = rw add-zero (omega arith)
sum_continues f n (suc more) =
    rw (add-suc n more, sum_one_more f (n + more), sum_one_more (λ i. f (n + i)) more, sum_continues f n more) (omega arith)

sum_onwards : (f : ℕ → ℕ) (first many : ℕ) → sum f (run first many) ≡ sum (λ i. f (first + i)) (below many)
sum_onwards f first zero = refl
sum_onwards f first (suc many) =
    sum_run f first many
    ∙ rw (sum_onwards f first many, ← sum_one_more (λ i. f (first + i)) many)

pub at_is_member : {A : Type 0} (list : List A) (i : ℕ) (none : A) → i < length list → Memᴰ (get_or list i none) list
at_is_member [] i none h = absurd (omega arith)
at_is_member (x ∷ list) zero none h = Memᴰ.head refl
at_is_member (x ∷ list) (suc i) none h = Memᴰ.tail (at_is_member list i none (omega arith))

pub mapped_in_place : {A B : Type 0} (f : A → B) (list : List A) (i : ℕ) (none : A) (d : B) → i < length list →
    get_or (map f list) i d ≡ f (get_or list i none)
mapped_in_place f [] i none d h = absurd (omega arith)
mapped_in_place f (x ∷ list) zero none d h = refl
mapped_in_place f (x ∷ list) (suc i) none d h = mapped_in_place f list i none d (omega arith)
