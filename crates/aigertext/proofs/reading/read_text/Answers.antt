use Rattle.aigertext.proofs.AnswerLemmas.{text_spells}
use Rattle.aigertext.proofs.reading.read_text.Goals as goal

pub returns-in-Ok : goal.returns-in-Ok
returns-in-Ok c = (text_spells c.one_renumbering.ensures.circuit c.circuit_with_a_name.ensures c.args.text.now c.in-Ok.numbered.circuit c.type_inv.text c.in-Ok.ensures.answers, c.in-Ok.ensures.numbering)
