use Rattle.std.proofs.Common.{◌∙◌}
use Rattle.unfit.proofs.PieceLemmas.{init_place_inside, word_of_init, word_without_init}
use Rattle.unfit.proofs.told_pieces.state_word.Goals as goal

pub constant-requires : goal.constant-requires
constant-requires c = init_place_inside c.args.model.now c.args.k c.requires c.in-Some.place c.in-Some.ensures

pub returns-in-Some : goal.returns-in-Some
returns-in-Some c = c.unwrap_or.ensures ∙ word_of_init c.args.model.now c.args.k c.requires c.in-Some.place c.constant.result c.in-Some.ensures c.constant.ensures

pub returns-in-None : goal.returns-in-None
returns-in-None c = word_without_init c.args.model.now c.args.k c.requires c.in-None.ensures
