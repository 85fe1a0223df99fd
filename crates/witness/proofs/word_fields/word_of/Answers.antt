use Rattle.std.proofs.Common.{ℕ, sym, ap, subst}
use Rattle.witness.specs.WordValues.{IsAsValueRead, word_behind}
use Rattle.witness.proofs.StepWords.{Cut}
use Rattle.witness.proofs.WordFieldLemmas.{cut_alone, cut_once}
use Rattle.witness.proofs.word_fields.word_of.Goals as goal

pub returns-in-None-clause-is : goal.returns-in-None-clause-is
returns-in-None-clause-is c = ap (λ (x : Cut). word_behind c.args.width x.1) (cut_alone c.args.line.now c.in-None.ensures)

pub returns-in-Some-clause-is : goal.returns-in-Some-clause-is
returns-in-Some-clause-is c =
    subst (λ (x : Cut). IsAsValueRead (λ (w : ℕ). w) c.word_with.result (word_behind c.args.width x.1)) (sym (cut_once c.args.line.now c.in-Some._token.now c.in-Some.behind.now c.in-Some.ensures.0 c.in-Some.ensures.1)) c.word_with.ensures.is
