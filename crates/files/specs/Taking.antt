-- What reading an input whole answers, how many bytes were put at the start of the lent buffer or none where a read failed, and what it
-- leaves of the buffer. Which bytes the operating system puts there is not said: no contract of std's says it. Assumes nothing.
use Rattle.std.specs.Prelude.{ℕ, ◌≤◌, min, ◌≡◌, List, length, Option, Some, None, Result, Ok, Err}

-- how many bytes an answer counts: none where the input is unreadable
abbrev pub count_of : Option ℕ → ℕ
count_of (Some n) = n
count_of None = 0

-- what one read says, of so many bytes at most: how many came, or that it failed
abbrev pub taken_by : {E : Type 0} → Result ℕ E → ℕ → Option ℕ
taken_by (Ok n) most = Some (min n most)
taken_by (Err e) most = None

-- the buffer is as long as it was, and the bytes that the answer counts lie within it
pub record TakenInto (before after : List ℕ) (taken : Option ℕ) : Type 0 where
  pub same_length : length after ≡ length before
  pub within : count_of taken ≤ length after

-- what opening answered is no file
abbrev pub NotOpened : {A E : Type 0} → Result A E → Type 0
NotOpened (Ok file) = ⊥
NotOpened (Err e) = Unit {0}
