use Rattle.witness.proofs.WordFieldLemmas.{word_by_name, word_by_digits}
use Rattle.witness.proofs.word_fields.word_with.Goals as goal

pub returns-in-None-clause-is : goal.returns-in-None-clause-is
returns-in-None-clause-is c = word_by_digits c.args.behind.now c.args.width c.value_of.result c.in-None.ensures c.value_of.ensures.is

pub returns-in-Some-clause-is : goal.returns-in-Some-clause-is
returns-in-Some-clause-is c =
    word_by_name c.args.behind.now c.in-Some.digits.now c.in-Some.name.now c.args.width c.named.result c.in-Some.ensures.0 c.in-Some.ensures.1
    c.named.ensures.is
