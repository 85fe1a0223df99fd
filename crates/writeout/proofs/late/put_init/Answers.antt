use Rattle.fullmodel.specs.Lines.{operand_of}
use Rattle.writeout.specs.Tables.{writing}
use Rattle.writeout.proofs.PutLemmas.{state_there, init_sound, init_put}
use Rattle.writeout.proofs.late.put_init.Goals as goal

pub put-requires-clause-sound : goal.put-requires-clause-sound
put-requires-clause-sound c =
    let w = writing c.args.tables.now c.args.maker.now in
    let own =
    init_sound c.args.full.now w c.sort.new.self c.args.state (operand_of c.args.value) c.leaf-w.result c.args.constant c.width.result c.requires.takes c.requires.stands c.requires.constant c.in_ok-sort.ensures.extends
    (c.leaf-w.ensures (state_there c.args.full.now c.args.state c.requires.takes.state)) c.width.ensures.width
    in
    c.lines_are_sound.ensures.init c.sort.new.self c.in_ok-sort.sort c.leaf-w.result c.args.constant c.width.result c.requires.constant.word own.state own.constant own.free c.in_ok-sort.ensures.sort own.width own.value

pub returns : goal.returns
returns c =
    init_put c.args.full.now (writing c.args.tables.now c.args.maker.now) c.sort.new.self c.put.new.self c.args.state (operand_of c.args.value) _ c.in_ok-sort.sort c.leaf-w.result c.args.constant _ c.requires.stands c.requires.constant
    c.in_ok-sort.ensures.extends (c.leaf-w.ensures (state_there c.args.full.now c.args.state c.requires.takes.state)) c.in_ok-put.ensures.line.0
