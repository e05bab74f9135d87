-- `directory::read_trailer` meets its contract: each number is read where the definition has it. Assumes nothing.
use native.Mathlib.Omega.{arith}
use Rattle.basis.specs.Numbers.{number_at}
use Rattle.basis.proofs.Numbers.{four_bytes_lem}
use Rattle.directory.proofs.read_trailer.Goals as goal

pub returns : goal.returns
unfolding number_at
returns c =
    record {
      rows = c.number_of.ensures.made;
      columns = c.number_of-2.ensures.made;
      version = c.number_of-3.ensures.made;
      directory = c.number_of-4.ensures.made;
      mark = c.number_of-5.ensures.made;
      directory_small = four_bytes_lem _ _ (omega arith) c.number_of-4.ensures.small;
    }
