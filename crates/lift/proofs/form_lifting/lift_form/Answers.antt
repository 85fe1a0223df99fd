use Rattle.std.proofs.Common.{Bool, None, cond, length, replicate, ap, sym, subst, ◌∙◌}
use Rattle.blast.specs.Lowering.{Lowers}
use Rattle.lift.specs.EngineLifting.{LiftsForm}
use Rattle.lift.specs.Placed.{Pieces}
use Rattle.lift.proofs.form_lifting.lift_form.Goals as goal

pub lift_witness-requires-clause-lowers : goal.lift_witness-requires-clause-lowers
lift_witness-requires-clause-lowers g c = subst (λ (p : Pieces). Lowers p.items c.args.circuit.now) (sym c.new-pieces.ensures) c.requires.lowers

pub lift_witness-requires-clause-none : goal.lift_witness-requires-clause-none
lift_witness-requires-clause-none g c on = c.in_ok-firsts.ensures ∙ ap (λ (b : Bool). replicate (cond b (length c.args.circuit.now.bads) 0) None) (sym (ap (λ (p : Pieces). p.named) c.new-pieces.ensures) ∙ on)

pub returns-clause-lifts : goal.returns-clause-lifts
returns-clause-lifts g c = subst (λ (p : Pieces). LiftsForm c.lift_witness.result p.named p.items c.args.circuit.now c.args.choice c.args.form.now (g.S.Source.to_come c.args.source.now) (g.K.Sink.written c.args.sink.now) (g.K.Sink.written c.lift_witness.new.sink)) c.new-pieces.ensures c.lift_witness.ensures.lifts
