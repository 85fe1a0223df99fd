use Rattle.std.proofs.Common.{get_or, ◌∙◌}
use Rattle.btor2.specs.Items.{is_state}
use Rattle.btor2.specs.Lists.{places}
use Rattle.blast.proofs.KindRows.{init_place-at, init_word-at, init_word-within, init_word-none}
use Rattle.blast.proofs.latches.init_of.Goals as goal

pub constant-requires : goal.constant-requires
constant-requires c =
    init_word-within c.args.model.now c.args.item.now.id c.in_ok-place.place (c.in_ok-place.ensures ∙ init_place-at c.args.model.now (get_or (places is_state 0 c.args.model.now) c.args.k 0) c.args.item.now c.requires.place)

pub returns : goal.returns
returns c =
    c.constant.ensures ∙ init_word-at c.args.model.now c.args.item.now.id c.in_ok-place.place (c.in_ok-place.ensures ∙ init_place-at c.args.model.now (get_or (places is_state 0 c.args.model.now) c.args.k 0) c.args.item.now c.requires.place)

pub returns-in_err-place : goal.returns-in_err-place
returns-in_err-place c =
    c.from_residual.ensures ∙ init_word-none c.args.model.now c.args.item.now.id (c.in_err-place.ensures ∙ init_place-at c.args.model.now (get_or (places is_state 0 c.args.model.now) c.args.k 0) c.args.item.now c.requires.place)
