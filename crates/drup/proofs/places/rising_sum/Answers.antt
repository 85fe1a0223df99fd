use Rattle.std.proofs.Common.{ℕ, List, sym, ap, ◌∙◌, arith}
use Rattle.std.specs.Prelude.{fold, slice_index}
use Rattle.std.specs.declared.hash.DefaultHasher.{DefaultHasher}
use Rattle.std.specs.Hash.DefaultHasher as sip
use Rattle.std.proofs.lemmas.List.{take_all}
use Rattle.std.proofs.lemmas.List.Sums.{fold_more}
use Rattle.drup.specs.Places.{with_literal}
use Rattle.drup.proofs.PlacesLemmas.{sum_rising}
use Rattle.drup.proofs.places.rising_sum.Goals as goal

pub loop-literal-preserved : goal.loop-literal-preserved
loop-literal-preserved c =
    c.hash.ensures ∙ ap (λ (s : DefaultHasher). with_literal s (slice_index c.args.clause.now c.loop-literal.literal-index)) c.loop-literal.invariant
    ∙ sym (fold_more with_literal sip.initial c.args.clause.now c.loop-literal.literal-index 0 c.loop-literal-test.true)

pub returns : goal.returns
returns c =
    c.finish.ensures ∙ ap sip.finish (c.loop-literal.invariant ∙ ap (λ (xs : List ℕ). fold with_literal sip.initial xs) (take_all c.loop-literal.literal-index c.args.clause.now (omega (arith, c.loop-literal-test.false))))
    ∙ sum_rising c.args.clause.now c.requires
