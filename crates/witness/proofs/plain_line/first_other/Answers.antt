use Rattle.std.proofs.Common.{arith}
use Rattle.std.proofs.lemmas.List.Sums.{prefix_len-le-length}
use Rattle.btor2.specs.Symbols.{is_printed}
use Rattle.witness.proofs.PlainLineLemmas.{none_other, other_there}
use Rattle.witness.proofs.plain_line.first_other.Goals as goal

pub split_at-requires : goal.split_at-requires
split_at-requires c = omega (arith, c.printed_front-count.ensures, prefix_len-le-length is_printed c.args.text.now)

pub returns-in_err-end : goal.returns-in_err-end
returns-in_err-end c = rw c.from_residual.ensures (none_other c.args.text.now c.split_at.result.1.now c.printed_front-count.result c.printed_front-count.ensures c.split_at.ensures.back c.in_err-end.ensures.cases)

pub returns : goal.returns
returns c = other_there c.args.text.now c.split_at.result.1.now c.printed_front-count.result c.printed_front-count.ensures c.split_at.ensures.back c.in_ok-end.end.now c.in_ok-end.rest.now c.in_ok-end.ensures.cases.0
