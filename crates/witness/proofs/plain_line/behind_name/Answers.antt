use Rattle.witness.proofs.PlainLineLemmas.{name_behind}
use Rattle.witness.proofs.plain_line.behind_name.Goals as goal

pub returns : goal.returns
returns c = name_behind c.args.text.now c.in_ok-first.behind.now c.in_ok-first.first.now c.in_ok-first.ensures.cases.0 c.behind_symbol.result (λ x. x.now) c.if-first-ne32.false c.behind_symbol.ensures
