use Rattle.std.proofs.Common.{◌+◌}
use Rattle.full.specs.Cells.{read_value}
use Rattle.wide.specs.Lines.{number_of_digits}
use Rattle.celled.proofs.StepLemmas.{init_sound, init_put}
use Rattle.celled.proofs.inits.put_cell_init.Goals as goal

pub put-requires-clause-sound : goal.put-requires-clause-sound
put-requires-clause-sound c =
    init_sound c.args.maker.now c.put_cell_constant.new.maker c.in_ok-value.value c.args.sort c.args.size (c.args.first + c.args.index) (read_value c.args.size (number_of_digits c.args.number.now) c.args.index) c.in_ok-value.ensures c.requires.sort c.requires.width c.requires.unset

pub returns : goal.returns
returns c =
    init_put c.args.maker.now c.put_cell_constant.new.maker c.put.new.self c.in_ok-value.value c.args.sort c.args.size (c.args.first + c.args.index) (read_value c.args.size (number_of_digits c.args.number.now) c.args.index) c.in_ok-put.field-0 c.in_ok-value.ensures c.requires.unset
    c.in_ok-put.ensures.line.0
