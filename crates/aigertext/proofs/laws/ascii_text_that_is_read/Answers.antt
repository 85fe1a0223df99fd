use Rattle.std.proofs.Common.{Ok, subst}
use Rattle.aigertext.specs.AsciiReading.{AnswersHeader, AnswersText}
use Rattle.aigertext.proofs.AsciiStandsLemmas.{ascii-stands}
use Rattle.aigertext.proofs.laws.ascii_text_that_is_read.Goals as goal

pub returns : goal.returns
unfolding AnswersText
returns c = λ text circuit h rest header answers.
    ascii-stands c.one_renumbering.ensures.circuit text circuit h rest header (subst (λ r. AnswersHeader r (Ok circuit)) header answers)
