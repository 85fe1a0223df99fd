use Rattle.std.proofs.Common.{◌≡◌, sym, subst, ◌∙◌}
use Rattle.btor2text.specs.Tokens.{tokens}
use Rattle.fulltext.specs.Reading.{places_before, operand_count}
use Rattle.fulltext.specs.Steps.{ReadsFullLine}
use Rattle.fulltext.proofs.StepLemmas.{with_signs}
use Rattle.fulltext.proofs.reading.read_said.Goals as goal

pub returns-then-has_no_sign : goal.returns-then-has_no_sign
returns-then-has_no_sign c =
    let line = tokens c.args.line.now in
    let none = c.has_no_sign.ensures c.if-has_no_sign.true (places_before c.args.kind) (operand_count c.args.kind line) in
    subst (λ r. ReadsFullLine c.read_plain.result c.read_plain.new.model r) (with_signs c.args.model.now c.args.id c.args.kind line line c.new.result.items (sym none.0) (c.new.ensures.items ∙ sym none.1)) c.read_plain.ensures
