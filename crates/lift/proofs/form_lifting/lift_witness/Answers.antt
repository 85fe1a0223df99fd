use Rattle.std.proofs.Common.{List, ℕ, Option, ap, ◌∙◌}
use Rattle.witness.specs.Reached.{bits_said_in}
use Rattle.restore.specs.FormWitness.{form_restored_text, read_restored_lines}
use Rattle.lift.specs.EngineLifting.{noted_first}
use Rattle.lift.proofs.EngineLemmas.{keeps_either, put_lifted, form_lifts, form_fails}
use Rattle.lift.proofs.form_lifting.lift_witness.Goals as goal

pub returns-in-Ok-clause-lifts : goal.returns-in-Ok-clause-lifts
returns-in-Ok-clause-lifts g c =
    form_lifts (g.S.Source.to_come c.args.source.now) c.args.pieces.now.named c.args.pieces.now.items c.args.circuit.now c.args.choice c.args.form.now (g.K.Sink.written c.args.sink.now) (g.K.Sink.written c.restore_form_with.new.sink)
    (λ text. put_lifted c.args.pieces.now.named c.args.pieces.now.items c.args.circuit.now (form_restored_text c.args.circuit.now c.args.choice c.args.form.now text) (read_restored_lines c.args.circuit.now c.args.choice (bits_said_in c.args.form.now text)) (c.restored_lines_are_admitted.ensures.lines c.args.circuit.now c.args.choice c.args.form.now text c.requires.is_form) (c.restored_lines_are_admitted.ensures.admitted c.args.circuit.now c.args.choice c.args.form.now text c.requires.is_form))
    c.in-Ok.told c.with_first.result c.in-Ok.ensures.restores (λ on. c.with_first.ensures ∙ ap (λ (l : List (Option ℕ)). noted_first l c.in-Ok.told.first) (c.requires.none on))
    (keeps_either c.args.pieces.now.items c.args.circuit.now (λ t j. c.lifting_keeps_the_verdict.ensures c.args.pieces.now.items c.args.circuit.now t j c.requires.lowers) (λ t j. c.names_keep_the_verdict.ensures c.args.pieces.now.items c.args.circuit.now t j c.requires.lowers) c.args.pieces.now.named)
    (λ text. c.accepted_over_the_form_is_found_in_the_model.ensures c.args.pieces.now.named c.args.pieces.now.items c.args.circuit.now c.args.choice c.args.form.now text c.requires.lowers c.requires.is_form)

pub returns-in-Err-clause-lifts : goal.returns-in-Err-clause-lifts
returns-in-Err-clause-lifts g c =
    form_fails (g.S.Source.to_come c.args.source.now) c.args.pieces.now.named c.args.pieces.now.items c.args.circuit.now c.args.choice c.args.form.now (g.K.Sink.written c.args.sink.now) (g.K.Sink.written c.restore_form_with.new.sink)
    (λ text. put_lifted c.args.pieces.now.named c.args.pieces.now.items c.args.circuit.now (form_restored_text c.args.circuit.now c.args.choice c.args.form.now text) (read_restored_lines c.args.circuit.now c.args.choice (bits_said_in c.args.form.now text)) (c.restored_lines_are_admitted.ensures.lines c.args.circuit.now c.args.choice c.args.form.now text c.requires.is_form) (c.restored_lines_are_admitted.ensures.admitted c.args.circuit.now c.args.choice c.args.form.now text c.requires.is_form))
    c.in-Err.fault c.in-Err.ensures.restores
