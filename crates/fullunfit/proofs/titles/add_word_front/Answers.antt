use Rattle.std.proofs.Common.{arith}
use Rattle.fullmodel.specs.Lines.{sort_value}
use Rattle.fulljudge.proofs.TextLemmas.{first_within}
use Rattle.fullunfit.proofs.TitleLemmas.{no_value}
use Rattle.fullunfit.proofs.titles.add_word_front.Goals as goal

pub add_value_front-requires-clause-cells : goal.add_value_front-requires-clause-cells
add_value_front-requires-clause-cells c =
    omega (arith, first_within c.args.values.now c.value_of_word-index.result (sort_value c.in-Some.value.sort) c.in-Some.ensures.value.0, c.value.ensures.few)

pub unreachable-requires : goal.unreachable-requires
unreachable-requires c = no_value c.args.values.now c.args.word c.value_of_word-index.result c.requires.word c.value_of_word-index.ensures c.in-None.ensures.value
