use Rattle.std.proofs.Common.{◌<◌, length, sym, ◌∙◌, ap, arith}
use Rattle.btor2.specs.Items.{is_state}
use Rattle.btor2.specs.Lists.{places}
use Rattle.runs.proofs.RankLemmas.{length-places}
use Rattle.witness.proofs.FrameLemmas.{first_end, first_here, first_behind, state_test}
use Rattle.witness.proofs.verdicts.first_different.Goals as goal

pub returns-then-differs_from_init : goal.returns-then-differs_from_init
returns-then-differs_from_init c f h =
    let there : c.loop-k.k < length (places is_state 0 c.args.model.now) = omega (arith, ap length c.states-k-end.ensures) in
    let t = state_test c.args.model.now c.loop-k.k f c.differs_from_init.result _ there (c.differs_from_init.ensures f h) c.if-differs_from_init.true in
    first_here _ _ c.loop-k.k t.item _ t.inside t.test (c.loop-k.invariant f h)

pub loop-k-preserved : goal.loop-k-preserved
loop-k-preserved c f h =
    let there : c.loop-k.k < length (places is_state 0 c.args.model.now) = omega (arith, ap length c.states-k-end.ensures) in
    let t = state_test c.args.model.now c.loop-k.k f c.differs_from_init.result _ there (c.differs_from_init.ensures f h) c.if-differs_from_init.false in
    first_behind _ _ c.loop-k.k t.item _ t.inside t.test (c.loop-k.invariant f h)

pub returns : goal.returns
returns c f h =
    sym (first_end _ _ c.loop-k.k (omega (arith, ap length c.states-k-end.ensures, length-places is_state 0 c.args.model.now))) ∙ c.loop-k.invariant f h
