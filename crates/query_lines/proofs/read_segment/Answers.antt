-- `query_lines::read_segment` meets its contract: the word, and then a decimal. Assumes nothing.
use Rattle.std.proofs.lemmas.Slice.Eq.{starts_is}
use Rattle.std.proofs.lemmas.Bool.Decides.{Decides-eqb}
use Rattle.query_lines.specs.Lines.{segment_word}
use Rattle.query_lines.proofs.ReadLines.{word_missing, segment_read}
use Rattle.query_lines.proofs.read_segment.Goals as goal

pub returns-then-not-starts_with : goal.returns-then-not-starts_with
returns-then-not-starts_with c =
    word_missing c.args.text.now
    (λ rest e.
    let begins = (starts_is Decides-eqb c.args.text.now segment_word c.starts_with.result c.starts_with.ensures.value).1 rest e in cc)

pub returns : goal.returns
returns c =
    segment_read c.args.text.now
    ((starts_is Decides-eqb c.args.text.now segment_word c.starts_with.result c.starts_with.ensures.value).0 c.if-not-starts_with.false)
    c.read_number.result c.read_number.ensures
