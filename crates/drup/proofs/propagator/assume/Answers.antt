use Rattle.std.proofs.Common.{◌≡◌, ℕ, Bool, length, refl, sym, subst, ap, ◌∙◌, arith}
use Rattle.std.specs.Prelude.{◌%◌, slice_index}
use Rattle.drup.specs.Growth.{AssumesAll, AssumedOne, Extends}
use Rattle.drup.specs.Marked.{Marked}
use Rattle.drup.proofs.ConflictLemmas.{AssumesAll-begin, AssumesAll-more, contradicts}
use Rattle.drup.proofs.propagator.assume.Goals as goal

pub loop-literal-init : goal.loop-literal-init
loop-literal-init c = AssumesAll-begin _ _ c.requires.consistent

pub assume_one-requires : goal.assume_one-requires
assume_one-requires c = record {
  even = ap (λ (n : ℕ). n % 2) c.loop-literal.invariant.as_many ∙ c.requires.even;
  inside = omega (arith, c.loop-literal.invariant.as_many, c.requires.inside c.loop-literal.literal-index 0 c.loop-literal-test.true);
  consistent = c.loop-literal.invariant.consistent;
}

pub returns-then-assume_one : goal.returns-then-assume_one
returns-then-assume_one c =
    let one = subst (λ (b : Bool). AssumedOne (slice_index c.args.clause.now c.loop-literal.literal-index) c.loop-literal.trail c.assume_one.new.trail b) c.if-assume_one.true c.assume_one.ensures in
    (contradicts c.args.clause.now c.loop-literal.literal-index (slice_index c.args.clause.now c.loop-literal.literal-index) c.args.trail.now c.loop-literal.trail c.assume_one.new.trail c.loop-literal.invariant c.loop-literal-test.true refl one.0, subst (λ (m : Marked). Extends c.args.trail.now m) (sym one.1) (record { as_many = c.loop-literal.invariant.as_many; longer = c.loop-literal.invariant.longer; kept = c.loop-literal.invariant.kept; prefix = c.loop-literal.invariant.prefix }))

pub loop-literal-preserved : goal.loop-literal-preserved
loop-literal-preserved c =
    let one = subst (λ (b : Bool). AssumedOne (slice_index c.args.clause.now c.loop-literal.literal-index) c.loop-literal.trail c.assume_one.new.trail b) c.if-assume_one.false c.assume_one.ensures in
    AssumesAll-more c.args.clause.now c.loop-literal.literal-index (slice_index c.args.clause.now c.loop-literal.literal-index) c.args.trail.now c.loop-literal.trail c.assume_one.new.trail c.loop-literal.invariant c.loop-literal-test.true refl one

pub returns : goal.returns
returns c =
    let at_end : c.loop-literal.literal-index ≡ length c.args.clause.now = omega arith in
    subst (λ (i : ℕ). AssumesAll c.args.clause.now i c.args.trail.now c.loop-literal.trail) at_end c.loop-literal.invariant
