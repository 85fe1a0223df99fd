use Rattle.std.proofs.Common.{◌+◌, ◌*◌, [], ◌∷◌, refl}
use Rattle.celled.proofs.GrowLemmas.{grows_by}
use Rattle.celled.proofs.StepLemmas.{next_sound, slice_is_cell, next_put}
use Rattle.celled.proofs.nexts.put_cell_next.Goals as goal

pub put-requires-clause-sound : goal.put-requires-clause-sound
put-requires-clause-sound c =
    let word = slice_is_cell c.slice.new.self c.args.size c.args.index c.args.node c.in_ok-value.value (c.args.size * c.args.index) c.requires.some refl c.in_ok-value.ensures.node in
    next_sound c.args.maker.now c.slice.new.self c.args.sort (c.args.first + c.args.index) c.in_ok-value.value c.args.size (grows_by c.args.maker.now c.slice.new.self (c.args.node ∷ []) c.in_ok-value.ensures.extends) c.requires.sort c.requires.width c.requires.loose word.width

pub returns : goal.returns
returns c =
    let word = slice_is_cell c.slice.new.self c.args.size c.args.index c.args.node c.in_ok-value.value (c.args.size * c.args.index) c.requires.some refl c.in_ok-value.ensures.node in
    next_put c.args.maker.now c.slice.new.self c.put.new.self c.args.sort c.args.size (c.args.first + c.args.index) c.args.node c.args.index c.in_ok-value.value c.in_ok-put.field-0 (grows_by c.args.maker.now c.slice.new.self (c.args.node ∷ []) c.in_ok-value.ensures.extends) c.requires.loose word
    c.in_ok-put.ensures.line.0
