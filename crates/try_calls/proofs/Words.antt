-- What a request's first word and its numbers say of the call that it is for. Assumes nothing.
--   Spelt, spelt_as, spelt     the first word of a request, byte by byte
--   Same, same_bytes           a word is made of these bytes
--   one_call                   a word is one call's
--   among, below, not_unfit    numbers that were put are neither too many nor too large
--   made_for                   a call was made, or not, for a line that begins with its word
use Rattle.std.proofs.Common.{◌≡◌, ℕ, ◌+◌, ◌^◌, ◌<◌, List, [], ◌∷◌, ◌++◌, length, get_or, take, drop, refl, sym, ap, ◌∙◌, arith}
use Rattle.std.proofs.Common.{cond, drop-cons, Option, Some, None}
use Rattle.std.specs.Prelude.{suc, eqb}
use Rattle.std.proofs.lemmas.List.{take-append-drop}
use lib.ListN.{drop_of_length-le}
use mathlib.Core.List.{Memᴰ}
use Rattle.try_reading.specs.Requests.{Behind, behind_of, numbers_in, NumbersRead, Unfit, many, large}
use Rattle.try_calls.specs.Requests.{MadeWith, first_word, word_of, IsRequest, MadeFor}
use Rattle.try_calls.specs.Requests.{Call, open_call, widths_call, write_call, read_call, scan_call, list_call, lookup_call}

-- how the first word of a line is spelt, byte by byte
pub data Spelt (word : List ℕ) : Type 0 where
  spells_open : length word ≡ 5 → get_or word 0 0 ≡ 111 → get_or word 1 0 ≡ 112 → get_or word 2 0 ≡ 101 → get_or word 3 0 ≡ 110 →
      get_or word 4 0 ≡ 32 → Spelt word
  spells_widths : length word ≡ 7 → get_or word 0 0 ≡ 119 → get_or word 1 0 ≡ 105 → get_or word 2 0 ≡ 100 → get_or word 3 0 ≡ 116 →
      get_or word 4 0 ≡ 104 → get_or word 5 0 ≡ 115 → get_or word 6 0 ≡ 32 → Spelt word
  spells_write : length word ≡ 6 → get_or word 0 0 ≡ 119 → get_or word 1 0 ≡ 114 → get_or word 2 0 ≡ 105 → get_or word 3 0 ≡ 116 →
      get_or word 4 0 ≡ 101 → get_or word 5 0 ≡ 32 → Spelt word
  spells_read : length word ≡ 5 → get_or word 0 0 ≡ 114 → get_or word 1 0 ≡ 101 → get_or word 2 0 ≡ 97 → get_or word 3 0 ≡ 100 →
      get_or word 4 0 ≡ 32 → Spelt word
  spells_scan : length word ≡ 5 → get_or word 0 0 ≡ 115 → get_or word 1 0 ≡ 99 → get_or word 2 0 ≡ 97 → get_or word 3 0 ≡ 110 →
      get_or word 4 0 ≡ 32 → Spelt word
  spells_list : length word ≡ 5 → get_or word 0 0 ≡ 108 → get_or word 1 0 ≡ 105 → get_or word 2 0 ≡ 115 → get_or word 3 0 ≡ 116 →
      get_or word 4 0 ≡ 32 → Spelt word
  spells_lookup : length word ≡ 7 → get_or word 0 0 ≡ 108 → get_or word 1 0 ≡ 111 → get_or word 2 0 ≡ 111 → get_or word 3 0 ≡ 107 →
      get_or word 4 0 ≡ 117 → get_or word 5 0 ≡ 112 → get_or word 6 0 ≡ 32 → Spelt word

spelt_as : (word : List ℕ) (call : Call) → word ≡ word_of call → Spelt word
spelt_as word open_call is = rw is (spells_open refl refl refl refl refl refl)
spelt_as word widths_call is = rw is (spells_widths refl refl refl refl refl refl refl refl)
spelt_as word write_call is = rw is (spells_write refl refl refl refl refl refl refl)
spelt_as word read_call is = rw is (spells_read refl refl refl refl refl refl)
spelt_as word scan_call is = rw is (spells_scan refl refl refl refl refl refl)
spelt_as word list_call is = rw is (spells_list refl refl refl refl refl refl)
spelt_as word lookup_call is = rw is (spells_lookup refl refl refl refl refl refl refl refl)

pub spelt : {bytes elements room : ℕ} {line text : List ℕ} → IsRequest bytes elements room line text → Spelt (take (behind_of 32 line) line)
spelt r = spelt_as _ r.call r.named

-- a word from a place on is so, byte by byte
abbrev pub Same : List ℕ → ℕ → List ℕ → Type 0
Same word k [] = Unit {0}
Same word k (b ∷ bytes) = (get_or word k 0 ≡ b) × Same word (suc k) bytes

same_bytes : (word : List ℕ) (k : ℕ) (bytes : List ℕ) → length word ≡ k + length bytes → Same word k bytes → drop k word ≡ bytes
same_bytes word k [] long same = drop_of_length-le word {i = k} (omega arith)
same_bytes word k (b ∷ bytes) long same =
    let inside : k < length word = omega arith in
    let rest : drop (suc k) word ≡ bytes = same_bytes word (suc k) bytes (omega arith) same.1 in
    rw (drop-cons word k 0) (cc (rest, same.0))

-- a word is one call's
mark : List ℕ → ℕ
mark word = get_or word 0 0 + length word

call_at : ℕ → Call
call_at n =
    cond
    (eqb n 116)
    open_call
    (cond (eqb n 126) widths_call (cond (eqb n 125) write_call (cond (eqb n 119) read_call (cond (eqb n 120) scan_call (cond (eqb n 113) list_call lookup_call)))))

its_own : (call : Call) → call_at (mark (word_of call)) ≡ call
unfolding call_at mark
its_own open_call = refl
its_own widths_call = refl
its_own write_call = refl
its_own read_call = refl
its_own scan_call = refl
its_own list_call = refl
its_own lookup_call = refl

one_call : (a b : Call) → word_of a ≡ word_of b → a ≡ b
one_call a b is = sym (its_own a) ∙ (ap (λ (word : List ℕ). call_at (mark word)) is ∙ its_own b)

-- numbers that were put are neither too many nor too large
among : {n : ℕ} (front back : List ℕ) → Memᴰ n front → Memᴰ n (front ++ back)
among [] back m = elim m [ ]
among (x ∷ front) back (Memᴰ.head e) = Memᴰ.head e
among (x ∷ front) back (Memᴰ.tail m) = Memᴰ.tail (among front back m)

below : {n : ℕ} (list : List ℕ) (limit : ℕ) → ((i : ℕ) → get_or list i 0 < limit) → Memᴰ n list → n < limit
below [] limit all m = elim m [ ]
below (x ∷ list) limit all (Memᴰ.head e) = let first : x < limit = all 0 in omega arith
below (x ∷ list) limit all (Memᴰ.tail m) = below list limit (λ i. all (suc i)) m

not_unfit : {numbers out : List ℕ} {count : ℕ} (room : ℕ) → NumbersRead numbers out count → length out ≡ room →
    ((i : ℕ) → get_or out i 0 < 2 ^ 64) → Unfit room numbers → ⊥
not_unfit {numbers} {out} {count} room read long fit (many more) =
    let so : length numbers ≡ length (take count out) = ap length read.read in
    omega (arith, so, read.within.0, read.within.1)
not_unfit {numbers} {out} {count} room read long fit (large number there above) =
    let front : Memᴰ number (take count out) = rw (← read.read) there in
    let both : Memᴰ number (take count out ++ drop count out) = among (take count out) (drop count out) front in
    let kept : Memᴰ number out = rw take-append-drop at both in
    let small : number < 2 ^ 64 = below out (2 ^ 64) fit kept in
    omega arith

pub made_for : {A : Type 0} (call : Call) (line text : List ℕ) {place count room : ℕ} {out : List ℕ} (made : Option A) → Behind 32 line place →
    NumbersRead (numbers_in text) out count → length out ≡ room → ((i : ℕ) → get_or out i 0 < 2 ^ 64) →
    length (take place line) ≡ length (word_of call) → Same (take place line) 0 (word_of call) →
    MadeWith call (take count out) made → MadeFor room line text made
made_for {A} call line text {place} {count} {room} {out} made behind read room_is fit long bytes = by_answer made
  where
    named : first_word line ≡ word_of call
    named = rw (← behind.found) (same_bytes (take place line) 0 (word_of call) (omega arith) bytes)

    by_answer : (made : Option A) → MadeWith call (take count out) made → MadeFor room line text made
    by_answer None not =
        λ r.
        let one : r.call ≡ call = one_call r.call call (sym r.named ∙ named) in
        not (rw (← read.read) (rw one at r.takes))
    by_answer (Some x) takes = (
      takes.0,
      takes.1,
      record { call = call; named = named; fit = not_unfit room read room_is fit; takes = rw read.read takes.2 },
    )
