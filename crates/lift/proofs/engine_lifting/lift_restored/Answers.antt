use Rattle.std.proofs.Common.{Bool, None, cond, length, replicate, ap, sym, subst, ◌∙◌}
use Rattle.blast.specs.Lowering.{Lowers}
use Rattle.lift.specs.EngineLifting.{LiftsRestored}
use Rattle.lift.specs.Placed.{Pieces}
use Rattle.lift.proofs.engine_lifting.lift_restored.Goals as goal

pub lift_pieces-requires-clause-lowers : goal.lift_pieces-requires-clause-lowers
lift_pieces-requires-clause-lowers g c = subst (λ (p : Pieces). Lowers p.items c.args.circuit.now) (sym c.new-pieces.ensures) c.requires.lowers

pub lift_pieces-requires-clause-none : goal.lift_pieces-requires-clause-none
lift_pieces-requires-clause-none g c on = c.in_ok-firsts.ensures ∙ ap (λ (b : Bool). replicate (cond b (length c.args.circuit.now.bads) 0) None) (sym (ap (λ (p : Pieces). p.named) c.new-pieces.ensures) ∙ on)

pub returns-clause-lifts : goal.returns-clause-lifts
returns-clause-lifts g c = subst (λ (p : Pieces). LiftsRestored c.lift_pieces.result p.named p.items c.args.circuit.now c.args.claim (g.S.Source.to_come c.args.source.now) (g.K.Sink.written c.args.sink.now) (g.K.Sink.written c.lift_pieces.new.sink)) c.new-pieces.ensures c.lift_pieces.ensures.lifts
