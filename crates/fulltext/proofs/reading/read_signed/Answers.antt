use Rattle.std.proofs.Common.{◌≡◌, ap, ap₂, subst, ◌∙◌}
use Rattle.btor2text.specs.Tokens.{tokens}
use Rattle.fulltext.specs.Signs.{signs_behind, unsigned_behind, kept_signs}
use Rattle.fulltext.specs.Steps.{ReadsFullLine}
use Rattle.fulltext.proofs.StepLemmas.{with_signs}
use Rattle.fulltext.proofs.reading.read_signed.Goals as goal

pub returns : goal.returns
returns c =
    let line = tokens c.args.line.now in
    let plain = ap tokens c.as_slice.ensures.value ∙ (c.in_ok-put_unsigned.ensures.bytes ∙ ap₂ (λ k n. unsigned_behind k n line) c.places_before.ensures c.operand_count-count.ensures) in
    let kept = c.kept_signs-kept.ensures ∙ ap kept_signs (c.in_ok-put_unsigned.ensures.minuses ∙ ap₂ (λ k n. signs_behind k n line) c.places_before.ensures c.operand_count-count.ensures) in
    subst (λ r. ReadsFullLine c.read_plain.result c.read_plain.new.model r) (with_signs c.args.model.now c.args.id c.args.kind line (tokens c.as_slice.result.now) c.kept_signs-kept.result.items plain kept) c.read_plain.ensures
