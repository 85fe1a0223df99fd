use Rattle.pieces.specs.Nodes.{bits_in}
use Rattle.pieces.proofs.ListLemmas.{ok_with}
use Rattle.fitting.proofs.OperatorLemmas.{bit_alone, choice_word}
use Rattle.fitting.proofs.forms.choice.Goals as goal

pub returns-clause-word : goal.returns-clause-word
returns-clause-word c =
    ok_with _ _ c.choice.result
    (λ rs word. choice_word c.choice.new.maker (bits_in c.args.first.now) c.args.condition.now c.args.first.now c.args.second.now _ rs.items (bit_alone c.args.condition.now c.requires.condition.cut c.requires.bit) word)
    c.choice.ensures.word
