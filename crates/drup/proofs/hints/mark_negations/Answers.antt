use Rattle.std.proofs.Common.{ℕ, Bool, List, sym, ap, ◌∙◌, arith, take}
use Rattle.std.specs.Prelude.{◌==◌, ◌||◌}
use Rattle.std.proofs.lemmas.List.{take_all}
use Rattle.std.proofs.lemmas.List.Sums.{fold_more}
use Rattle.base.specs.Literal.{negation}
use Rattle.drup.specs.Propagation.{Literals, no_literal}
use Rattle.drup.specs.Hints.{negated, with_negation}
use Rattle.drup.proofs.hints.mark_negations.Goals as goal

pub loop-literal-preserved : goal.loop-literal-preserved
loop-literal-preserved c =
    let before : Literals = negated (take c.loop-literal.literal-index c.args.clause.now) in
    record {
      set = λ k.
          c.mark.ensures.set k
          ∙ ap (λ (b : Bool). k == c.negation.result || b) (c.loop-literal.invariant.set k)
          ∙ ap (λ (n : ℕ). k == n || before k) c.negation.ensures
          ∙ ap (λ (s : Literals). s k) (sym (fold_more with_negation no_literal c.args.clause.now c.loop-literal.literal-index 0 c.loop-literal-test.true));
      as_many = c.mark.ensures.as_many ∙ c.loop-literal.invariant.as_many;
    }

pub returns-clause-set : goal.returns-clause-set
returns-clause-set c l = c.loop-literal.invariant.set l ∙ ap (λ (xs : List ℕ). negated xs l) (take_all c.loop-literal.literal-index c.args.clause.now (omega (arith, c.loop-literal-test.false)))
