use Rattle.std.proofs.Common.{◌≡◌, ◌++◌, ◌≢◌, ℕ, List, MatchOption, subst, ap, suc, decimal, ◌∙◌}
use Rattle.std.proofs.lemmas.Slice.Eq.{strip_prefix_is}
use Rattle.std.proofs.lemmas.Bool.Decides.{Decides-eqb}
use Rattle.base.proofs.counter.Counter.behind_next.Goals as goal

pub returns : goal.returns
returns c =
    subst (λ (p : List ℕ). MatchOption c.strip_prefix.result ((rest : List ℕ) → c.args.text.now ≢ p ++ rest) (λ rest. c.args.text.now ≡ p ++ rest.now)) (c.split_at.ensures.front ∙ (c.self.invariant.2 ∙ ap (λ (n : ℕ). decimal (suc n)) c.self.view_is))
    (strip_prefix_is Decides-eqb c.args.text.now c.split_at.result.0.now c.strip_prefix.result c.strip_prefix.ensures.cases)
