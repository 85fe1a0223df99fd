use Rattle.std.proofs.Common.{ap, sym, ◌∙◌}
use Rattle.base.specs.Decimals.{number_of}
use Rattle.witness.proofs.WordFieldLemmas.{cut_alone, cut_once}
use Rattle.witness.proofs.word_fields.index_of.Goals as goal
use Rattle.witness.proofs.StepWords.{Cut}

pub returns-in-None : goal.returns-in-None
returns-in-None c = c.decimal.ensures ∙ ap (λ (x : Cut). number_of x.0) (sym (cut_alone c.args.line.now c.in-None.ensures))

pub returns-in-Some : goal.returns-in-Some
returns-in-Some c = c.decimal-in-Some.ensures ∙ ap (λ (x : Cut). number_of x.0) (sym (cut_once c.args.line.now c.in-Some.token.now c.in-Some._behind.now c.in-Some.ensures.0 c.in-Some.ensures.1))
