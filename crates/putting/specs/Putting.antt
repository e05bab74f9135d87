-- What one write does. Which bytes arrive is not said: no contract of std's says it. Assumes nothing.
use Rattle.std.specs.Prelude.{ℕ, Bool, true, false, cond}
use Rattle.std.specs.IoError.{error_kind}
use Rattle.std.specs.declared.io.Error.{Error}
use Rattle.std.specs.declared.io.ErrorKind.{ErrorKind}
use Rattle.std.specs.declared.io.ErrorKind.TheVariants.{WouldBlock, Interrupted}
use Rattle.putting.specs.declared.Put.{Put}
use Rattle.putting.specs.declared.Put.TheVariants.{Bytes, Later, Failed}

-- how many bytes were taken
abbrev pub put_count : Put → ℕ
put_count (Bytes n) = n
put_count (Later e) = 0
put_count (Failed e) = 0

-- the errors of a write that may go through later: the reader is behind; a signal came
abbrev pub passing : ErrorKind → Bool
passing WouldBlock = true
passing Interrupted = true
passing _ = false

-- what a failed write means, by its error
abbrev pub put_for : Error → Put
put_for e = cond (passing (error_kind e)) (Later e) (Failed e)
