use Rattle.std.proofs.Common.{◌≡◌, ◌<◌, List, IfSome, slice_get, get_or, length, subst, sym, ◌∙◌, ap, arith}
use Rattle.btor2.specs.declared.item.Item.{Item}
use Rattle.btor2.specs.Items.{is_constraint}
use Rattle.btor2.specs.Lists.{places}
use Rattle.runs.specs.Run.{is_one}
use Rattle.witness.proofs.FrameLemmas.{constraint_names, length-nodes, first_end, first_here, first_behind, constraint_test, constraint_inside}
use Rattle.witness.proofs.verdicts.first_violated.Goals as goal

pub returns-then-not-constraint : goal.returns-then-not-constraint
returns-then-not-constraint c f h =
    let there : c.loop-i.i < length (places is_constraint 0 c.args.model.now) = omega (arith, ap length c.constraints-i-end.ensures) in
    let says = subst (λ (l : List Item). IfSome (slice_get l (get_or (places is_constraint 0 l) c.loop-i.i 0)) (λ x. c.constraint.result ≡ is_one f x.body)) c.requires.same (c.constraint.ensures f h) in
    first_here _ _ c.loop-i.i 0 _ (constraint_inside c.args.model.now c.loop-i.i there) (constraint_test c.args.model.now c.loop-i.i f c.constraint.result _ there says c.if-not-constraint.true) (c.loop-i.invariant f h)

pub loop-i-preserved : goal.loop-i-preserved
loop-i-preserved c f h =
    let there : c.loop-i.i < length (places is_constraint 0 c.args.model.now) = omega (arith, ap length c.constraints-i-end.ensures) in
    let says = subst (λ (l : List Item). IfSome (slice_get l (get_or (places is_constraint 0 l) c.loop-i.i 0)) (λ x. c.constraint.result ≡ is_one f x.body)) c.requires.same (c.constraint.ensures f h) in
    first_behind _ _ c.loop-i.i 0 _ (constraint_inside c.args.model.now c.loop-i.i there) (constraint_test c.args.model.now c.loop-i.i f c.constraint.result _ there says c.if-not-constraint.false) (c.loop-i.invariant f h)

pub returns : goal.returns
returns c f h =
    sym (first_end _ _ c.loop-i.i (omega (arith, ap length c.constraints-i-end.ensures, length-nodes is_constraint c.args.model.now constraint_names))) ∙ c.loop-i.invariant f h
