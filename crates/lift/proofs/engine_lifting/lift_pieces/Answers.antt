use Rattle.std.proofs.Common.{List, ℕ, Option, ◌+◌, ap, ◌∙◌}
use Rattle.engine_form.specs.EngineForm.{input_count}
use Rattle.witness.specs.declared.judgement.Judgement.TheVariants as judgement
use Rattle.restore.specs.Reading.{read_found}
use Rattle.restore.specs.Restored.{restored_lines, restored_text}
use Rattle.lift.specs.EngineLifting.{noted_first}
use Rattle.lift.proofs.EngineLemmas.{keeps_either, put_lifted, lifts_all, lifts_not}
use Rattle.lift.proofs.engine_lifting.lift_pieces.Goals as goal

pub returns-in-Ok-clause-lifts : goal.returns-in-Ok-clause-lifts
returns-in-Ok-clause-lifts g c =
    lifts_all (g.S.Source.to_come c.args.source.now) c.args.pieces.now.named c.args.pieces.now.items c.args.circuit.now c.args.claim (g.K.Sink.written c.args.sink.now) (g.K.Sink.written c.restore_with.new.sink)
    (λ text. put_lifted c.args.pieces.now.named c.args.pieces.now.items c.args.circuit.now (restored_text c.args.circuit.now c.args.claim text) (restored_lines c.args.circuit.now c.args.claim (read_found (input_count c.args.circuit.now) text)) (c.restored_lines_are_admitted.ensures.lines c.args.circuit.now c.args.claim text c.requires.lowers.circuit c.requires.claim) (c.restored_lines_are_admitted.ensures.admitted c.args.circuit.now c.args.claim text c.requires.lowers.circuit c.requires.claim))
    c.in-Ok.told c.with_first.result c.in-Ok.ensures.restores (λ on. c.with_first.ensures ∙ ap (λ (l : List (Option ℕ)). noted_first l c.in-Ok.told.first) (c.requires.none on))
    (keeps_either c.args.pieces.now.items c.args.circuit.now (λ t j. c.lifting_keeps_the_verdict.ensures c.args.pieces.now.items c.args.circuit.now t j c.requires.lowers) (λ t j. c.names_keep_the_verdict.ensures c.args.pieces.now.items c.args.circuit.now t j c.requires.lowers) c.args.pieces.now.named)
    (λ text h choice d given ws n form has read few trace at.
    c.exactly_one_bit_judgement.ensures.unique c.args.circuit.now (restored_text c.args.circuit.now c.args.claim text) c.in-Ok.told.judgement (judgement.Accepted (n + 1)) form.original h
    (c.restored_text_is_accepted.ensures c.args.circuit.now choice c.args.claim d text given ws n form has c.requires.claim read few trace at))
    (λ text. c.found_over_the_form_is_found_in_the_model.ensures c.args.pieces.now.named c.args.pieces.now.items c.args.circuit.now c.args.claim text c.requires.lowers c.requires.claim)

pub returns-in-Err-clause-lifts : goal.returns-in-Err-clause-lifts
returns-in-Err-clause-lifts g c =
    lifts_not (g.S.Source.to_come c.args.source.now) c.args.pieces.now.named c.args.pieces.now.items c.args.circuit.now c.args.claim (g.K.Sink.written c.args.sink.now) (g.K.Sink.written c.restore_with.new.sink)
    (λ text. put_lifted c.args.pieces.now.named c.args.pieces.now.items c.args.circuit.now (restored_text c.args.circuit.now c.args.claim text) (restored_lines c.args.circuit.now c.args.claim (read_found (input_count c.args.circuit.now) text)) (c.restored_lines_are_admitted.ensures.lines c.args.circuit.now c.args.claim text c.requires.lowers.circuit c.requires.claim) (c.restored_lines_are_admitted.ensures.admitted c.args.circuit.now c.args.claim text c.requires.lowers.circuit c.requires.claim))
    c.in-Err.fault c.in-Err.ensures.restores
