use Rattle.std.proofs.Common.{◌≡◌, refl, ap, sym, subst, [], inr, List, ℕ, ◌++◌, true, ◌∙◌, arith}
use Rattle.base.specs.Lines.{unfinished}
use Rattle.witness.specs.CutLines.{CutLine, cut_of}
use Rattle.base.proofs.DecimalLemmas.{nothing}
use Rattle.witness.specs.Readings.{is_nothing}
use Rattle.witness.proofs.CutLineLemmas.{nothing_cut}
use Rattle.lift.specs.Stands.{Lifter}
use Rattle.lift.proofs.LifterLemmas.{line_takes}
use Rattle.lift.proofs.lifter.Lifter.take_whole.Goals as goal

pub returns : goal.returns
returns g c =
    rw (← c.self.view_is) (λ start from named items circuit text h.
    let notes = c.take_line.ensures named circuit text c.requires.line h.lifts.notes in
    let number = c.admitted_lines-number.ensures named circuit text h.lifts.notes in
    let now = c.admitted_lines.ensures named circuit _ notes in
    let kept = subst (λ (l : Lifter). is_nothing l.kept.bytes ≡ true) (sym c.self.view_is) c.requires.none in
    let none : unfinished text ≡ [] = nothing (unfinished text) (sym (nothing_cut c.self.inside.kept.room (unfinished text) (omega (arith, h.lifts.room.claim))) ∙ ap (λ (k : CutLine). is_nothing k.bytes) (sym h.lifts.kept) ∙ kept) in
    line_takes g.K.Sink.written g.K.Sink.failures _ _ _ _ text c.args.line.now c.args.line.now (record { pieces = c.self.inside.pieces; noter = c.self.inside.noter; kept = c.self.inside.kept }) (record { pieces = c.self.inside.pieces; noter = c.take_line.new.self; kept = c.self.inside.kept }) _ c.admitted_lines-number.result c.admitted_lines.result named items circuit
    start from c.requires.line h refl (inr (sym (ap (λ (l : List ℕ). l ++ c.args.line.now) none))) number now c.put_admitted.ensures refl notes (h.lifts.kept ∙ ap (cut_of c.self.inside.kept.room) none))
