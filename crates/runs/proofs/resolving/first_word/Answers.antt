use Rattle.std.proofs.Common.{ℕ, Option, unwrap_or, ap, ◌∙◌, arith}
use Rattle.btor2.specs.Items.{is_state}
use Rattle.runs.proofs.RankLemmas.{length-ids, length-places}
use Rattle.runs.proofs.StateLemmas.{init_inside, first_word-some, first_word-none}
use Rattle.runs.proofs.resolving.first_word.Goals as goal

pub init_of-requires : goal.init_of-requires
init_of-requires c = omega (arith, length-ids is_state c.args.model.now, length-places is_state 0 c.args.model.now)

pub constant-requires : goal.constant-requires
constant-requires c = init_inside c.args.model.now c.args.k c.in-Some.place c.requires c.in-Some.ensures

pub returns-in-Some : goal.returns-in-Some
returns-in-Some c =
    c.unwrap_or.ensures ∙ ap (λ (o : Option ℕ). unwrap_or o 0) c.constant.ensures ∙ first_word-some c.args.model.now c.args.k c.in-Some.place c.requires c.in-Some.ensures

pub returns-in-None : goal.returns-in-None
returns-in-None c = first_word-none c.args.model.now c.args.k c.requires c.in-None.ensures
