use Rattle.std.proofs.Common.{subst, Err, ap, ◌∙◌, inl, inr}
use Rattle.std.proofs.lemmas.Result.{err_from_is_err_and}
use Rattle.aigertext.specs.InOrder.{uses_of}
use Rattle.aigertext.specs.AsciiReading.{AnswersText}
use Rattle.aigertext.specs.Spelling.{SpellsCircuit}
use Rattle.aigertext.proofs.AsciiStandsLemmas.{spells-read}
use Rattle.aigertext.proofs.InOrderLemmas.{whole_parts, whole_text_is, stop_before}
use Rattle.aigertext.proofs.reading.read_lines.Goals as goal

pub returns-in_err-front : goal.returns-in_err-front
returns-in_err-front c =
    let p = err_from_is_err_and c.from_residual.result c.from_residual.ensures.1 in
    rw (p.1 ∙ ap Err p.2)
    (elim c.in_err-front.ensures.reads [
      | inl full ↦ inl full
      | inr stops ↦ inr (stop_before c.args.counts.now c.args.text.now c.args.lines.now c.requires.header _ stops)
    ])

pub read_left-requires-clause-front : goal.read_left-requires-clause-front
read_left-requires-clause-front c =
    let p = whole_parts c.in_ok-front.front c.args.counts.now c.args.text.now c.args.lines.now c.in_ok-front.gates.now c.in_ok-front.ensures.form c.in_ok-front.ensures.counts c.requires.header c.requires.fits c.in_ok-front.ensures.reads in
    (p.before, p.front)

pub returns : goal.returns
returns c =
    let p = whole_parts c.in_ok-front.front c.args.counts.now c.args.text.now c.args.lines.now c.in_ok-front.gates.now c.in_ok-front.ensures.form c.in_ok-front.ensures.counts c.requires.header c.requires.fits c.in_ok-front.ensures.reads in
    spells-read c.one_renumbering.ensures.circuit c.args.text.now c.read_left.new.circuit
    (subst (λ t. SpellsCircuit t c.read_left.new.circuit) (whole_text_is _ _ (uses_of c.in_ok-front.front) c.args.text.now c.in_ok-front.gates.now p c.in-Ok.circuit c.in-Ok.ensures.ok) (c.in_ok-read_left.ensures p.before p.front).0)

pub returns-in_err-read_left : goal.returns-in_err-read_left
returns-in_err-read_left c =
    let told = err_from_is_err_and c.from_residual-in_err-read_left.result c.from_residual-in_err-read_left.ensures.1 in
    let p = whole_parts c.in_ok-front.front c.args.counts.now c.args.text.now c.args.lines.now c.in_ok-front.gates.now c.in_ok-front.ensures.form c.in_ok-front.ensures.counts c.requires.header c.requires.fits c.in_ok-front.ensures.reads in
    rw (told.1 ∙ ap Err told.2)
    (elim (c.in_err-read_left.ensures p.before p.front) [
      | inl full ↦ inl full
      | inr stops ↦ inr (subst (λ t. AnswersText t (Err c.in_err-read_left.field-0.0)) (whole_text_is _ _ (uses_of c.in_ok-front.front) c.args.text.now c.in_ok-front.gates.now p c.in-Ok.circuit c.in-Ok.ensures.ok) stops)
    ])
