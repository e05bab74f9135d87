-- `try_calls::make_call` meets its contract: what it takes for a call's word is that word, and the numbers were put. Assumes nothing.
use Rattle.std.proofs.Common.{arith, rules}
use Rattle.try_calls.specs.Requests.{open_call, widths_call, write_call, read_call, scan_call, list_call, lookup_call}
use Rattle.try_calls.proofs.Words.{made_for}
use Rattle.try_calls.proofs.make_call.Goals as goal

pub returns-in_err-count : goal.returns-in_err-count
returns-in_err-count g c = rw c.from_residual.ensures (λ r. r.fit c.in_err-count.ensures)

pub returns-in-111 : goal.returns-in-111
returns-in-111 g c =
    made_for open_call c.args.line.now c.args.text.now _ c.behind-word.ensures c.in_ok-count.ensures c.numbers_of.auto.out (λ i. search rules)
    (omega arith) (search rules) c.open.ensures

pub returns-in-114 : goal.returns-in-114
returns-in-114 g c =
    made_for read_call c.args.line.now c.args.text.now _ c.behind-word.ensures c.in_ok-count.ensures c.numbers_of.auto.out (λ i. search rules)
    (omega arith) (search rules) c.read.ensures

pub returns-in-115 : goal.returns-in-115
returns-in-115 g c =
    made_for scan_call c.args.line.now c.args.text.now _ c.behind-word.ensures c.in_ok-count.ensures c.numbers_of.auto.out (λ i. search rules)
    (omega arith) (search rules) c.scan.ensures

pub returns-in-108 : goal.returns-in-108
returns-in-108 g c =
    made_for list_call c.args.line.now c.args.text.now _ c.behind-word.ensures c.in_ok-count.ensures c.numbers_of.auto.out (λ i. search rules)
    (omega arith) (search rules) c.list.ensures

pub returns-in-119-2 : goal.returns-in-119-2
returns-in-119-2 g c =
    made_for write_call c.args.line.now c.args.text.now _ c.behind-word.ensures c.in_ok-count.ensures c.numbers_of.auto.out (λ i. search rules)
    (omega arith) (search rules) c.write.ensures

pub returns-in-119 : goal.returns-in-119
returns-in-119 g c =
    made_for widths_call c.args.line.now c.args.text.now _ c.behind-word.ensures c.in_ok-count.ensures c.numbers_of.auto.out (λ i. search rules)
    (omega arith) (search rules) c.widths.ensures

pub returns-in-108-2 : goal.returns-in-108-2
returns-in-108-2 g c =
    made_for lookup_call c.args.line.now c.args.text.now _ c.behind-word.ensures c.in_ok-count.ensures c.numbers_of.auto.out (λ i. search rules)
    (omega arith) (search rules) c.lookup.ensures
