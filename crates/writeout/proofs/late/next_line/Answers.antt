use Rattle.fullmodel.specs.Lines.{operand_of}
use Rattle.writeout.specs.Tables.{writing}
use Rattle.writeout.proofs.PutLemmas.{state_there, next_sound, next_put}
use Rattle.writeout.proofs.late.next_line.Goals as goal

pub put-requires-clause-sound : goal.put-requires-clause-sound
put-requires-clause-sound c =
    let w = writing c.args.tables.now c.args.maker.now in
    let own =
    next_sound c.args.full.now w c.operand.new.maker c.sort.new.self c.args.state (operand_of c.args.value) c.leaf-w.result c.in_ok-v.v c.width.result c.requires.takes c.in_ok-v.ensures.grows c.in_ok-v.ensures.stands
    c.in_ok-v.ensures.operand c.in_ok-sort.ensures.extends (c.leaf-w.ensures (state_there c.args.full.now c.args.state c.requires.takes.state)) c.width.ensures.width
    in
    c.lines_are_sound.ensures.next c.sort.new.self c.in_ok-sort.sort c.leaf-w.result c.in_ok-v.v c.width.result own.state own.free c.in_ok-sort.ensures.sort own.width own.value

pub returns : goal.returns
returns c =
    next_put c.args.full.now (writing c.args.tables.now c.args.maker.now) c.operand.new.maker c.sort.new.self c.put.new.self c.args.state (operand_of c.args.value) _ c.in_ok-sort.sort c.leaf-w.result c.in_ok-v.v _ c.in_ok-v.ensures.grows
    c.in_ok-v.ensures.stands c.in_ok-v.ensures.operand c.in_ok-sort.ensures.extends (c.leaf-w.ensures (state_there c.args.full.now c.args.state c.requires.takes.state)) c.in_ok-put.ensures.line.0
