use Rattle.std.proofs.Common.{◌≡◌, ℕ, ◌<◌, ◌≤◌, Some, MatchOption, sym, subst}
use Rattle.base.specs.Decimals.{number_of}
use Rattle.witness.proofs.StepWords.{Cut}
use Rattle.witness.proofs.WordFieldLemmas.{cut_alone, cut_once}
use Rattle.spread.proofs.assigned.index_in.Goals as goal

pub returns-in-None : goal.returns-in-None
returns-in-None c =
    subst (λ (l : Cut). MatchOption c.index_of.result ((i : ℕ) → number_of l.0 ≡ Some i → c.args.count ≤ i) (λ i. (number_of l.0 ≡ Some i) × (i < c.args.count))) (sym (cut_alone c.args.line.now c.in-None.ensures)) c.index_of.ensures

pub returns-in-Some : goal.returns-in-Some
returns-in-Some c =
    subst (λ (l : Cut). MatchOption c.index_of-in-Some.result ((i : ℕ) → number_of l.0 ≡ Some i → c.args.count ≤ i) (λ i. (number_of l.0 ≡ Some i) × (i < c.args.count)))
    (sym (cut_once c.args.line.now c.in-Some.token.now c.in-Some.field-0-1.now c.in-Some.ensures.0 c.in-Some.ensures.1)) c.index_of-in-Some.ensures
