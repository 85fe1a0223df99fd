use Rattle.std.proofs.Common.{refl, ap, inl, ◌∙◌}
use Rattle.base.specs.Lines.{unfinished}
use Rattle.witness.specs.CutLines.{CutLine, no_byte}
use Rattle.witness.proofs.CutLineLemmas.{cut_nothing}
use Rattle.lift.proofs.LifterLemmas.{line_takes}
use Rattle.lift.proofs.lifter.Lifter.take_rest.Goals as goal

pub returns : goal.returns
returns g c =
    rw (← c.self.view_is) (λ start from named items circuit text h.
    let notes = c.take_line.ensures named circuit text c.requires h.lifts.notes in
    let number = c.admitted_lines-number.ensures named circuit text h.lifts.notes in
    let now = c.admitted_lines.ensures named circuit _ notes in
    let keeps = c.extend.ensures.cut c.self.inside.kept.room (unfinished text) h.lifts.kept in
    let nothing = c.clear.ensures ∙ (ap (λ (k : CutLine). no_byte k.room) keeps ∙ cut_nothing c.self.inside.kept.room) in
    line_takes g.K.Sink.written g.K.Sink.failures _ _ _ _ text c.args.line.now c.bytes.result.now (record { pieces = c.self.inside.pieces; noter = c.self.inside.noter; kept = c.self.inside.kept }) (record { pieces = c.self.inside.pieces; noter = c.take_line.new.self; kept = c.extend.new.self }) _ c.admitted_lines-number.result c.admitted_lines.result named items circuit
    start from c.requires h refl (inl (c.bytes.ensures ∙ ap (λ (k : CutLine). k.bytes) keeps)) number now c.put_admitted.ensures refl notes nothing)
