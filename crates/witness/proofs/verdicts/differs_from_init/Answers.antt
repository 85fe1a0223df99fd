use Rattle.std.proofs.Common.{◌≡◌, List, true, is_some, IfSome, slice_get, get_or, subst, arith}
use Rattle.std.proofs.lemmas.List.Elements.{All-get_or}
use Rattle.btor2.specs.declared.item.Item.{Item}
use Rattle.btor2.specs.Items.{is_state}
use Rattle.btor2.specs.Lists.{places, width_at}
use Rattle.runs.proofs.RankLemmas.{length-ids, length-places}
use Rattle.runs.proofs.StateLemmas.{init_inside}
use Rattle.witness.proofs.ShapeLemmas.{each_has_width, states_have_bits}
use Rattle.witness.proofs.FrameLemmas.{differs-none, differs-init}
use Rattle.witness.proofs.verdicts.differs_from_init.Goals as goal

pub constant-requires : goal.constant-requires
constant-requires c = init_inside c.args.model.now c.args.k c.in-Some.place (omega (arith, length-ids is_state c.args.model.now, length-places is_state 0 c.args.model.now)) c.in-Some.ensures

pub value-requires-clause-there : goal.value-requires-clause-there
value-requires-clause-there c =
    rw (c.states.ensures, c.requires.same)
    (All-get_or (λ k. is_some (width_at c.args.model.now k) ≡ true) (places is_state 0 c.args.model.now) c.args.k 0 c.requires.there (each_has_width is_state states_have_bits c.args.model.now c.requires.well_formed))

pub returns-in-Some : goal.returns-in-Some
returns-in-Some c f h =
    let read = subst (λ (l : List Item). IfSome (slice_get l (get_or c.states.result.now c.args.k 0)) (λ x. c.value.result ≡ f x.id)) c.requires.same (c.value.ensures f h) in
    let says = rw c.states.ensures at read in
    rw c.differs.ensures
    (differs-init c.args.model.now c.args.k f c.requires.there c.in-Some.place c.value.result c.constant.result c.in-Some.ensures c.constant.ensures says)

pub returns-in-None : goal.returns-in-None
returns-in-None c f h = differs-none c.args.model.now c.args.k f c.requires.there c.in-None.ensures
