use Rattle.std.proofs.Common.{◌<◌, Ok, sym, subst}
use Rattle.std.proofs.lemmas.List.Elements.{recursion_from_All}
use Rattle.aigertext.specs.AsciiReading.{AnswersHeader, AnswersText}
use Rattle.aigertext.proofs.ReadStandsLemmas.{binary-stands}
use Rattle.aigertext.proofs.laws.binary_text_that_is_read.Goals as goal

pub returns : goal.returns
unfolding AnswersText
returns c = λ text circuit h rest bytes header answers.
    binary-stands c.circuit_with_a_name.ensures text circuit h rest (recursion_from_All (λ b. b < 256) text bytes) header (sym (subst (λ r. AnswersHeader r (Ok circuit)) header answers))
