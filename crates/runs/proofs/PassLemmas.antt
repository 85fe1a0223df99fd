-- Loops over lists of words.
use Rattle.std.proofs.Common.{◌≡◌, ℕ, suc, ◌+◌, ◌<◌, ◌≤◌, List, ◌∷◌, length, get_or, drop, set, refl, sym, ap, subst, ◌∙◌, arith}
use Rattle.std.proofs.Math.Seq.{drop-cons}
use Rattle.std.proofs.lemmas.List.{drop_all, length-set}
use Rattle.base.specs.Steps.{one_more, more_steps}
use Rattle.runs.specs.declared.nodes.Node.{Node}
use Rattle.runs.specs.Nodes.{operator_value, OperatorFits, settled_values, NodesFit}

-- Settling.

-- the nodes from one on still have to give their words
pub record Settling (nodes : List Node) (start values : List ℕ) (count tally at : ℕ) : Type 0 where
  pub fit : NodesFit (drop at nodes) values
  pub rest : settled_values (drop at nodes) values ≡ settled_values nodes start
  pub as_many : length values ≡ length start
  pub steps : tally ≡ more_steps at count

pub Settling-begin : (nodes : List Node) (values : List ℕ) (count : ℕ) → NodesFit nodes values → Settling nodes values values count count 0
Settling-begin nodes values count fit = record { fit = fit; rest = refl; as_many = refl; steps = refl }

module _ (nodes : List Node) (start values : List ℕ) (count tally at : ℕ) (node : Node) (s : Settling nodes start values count tally at) (within : at < length nodes) (here : node ≡ get_or nodes at node) where
  front : drop at nodes ≡ node ∷ drop (suc at) nodes
  front = drop-cons nodes at node within ∙ ap (λ (n : Node). n ∷ drop (suc at) nodes) (sym here)

  pub Settling-fits : (node.place < length values) × OperatorFits node.operator values
  Settling-fits = let all : NodesFit (node ∷ drop (suc at) nodes) values = subst (λ (l : List Node). NodesFit l values) front s.fit in (all.0, all.1)

  pub Settling-more : (values' : List ℕ) (tally' : ℕ) → values' ≡ set values node.place (operator_value node.operator values) → tally' ≡ one_more tally → Settling nodes start values' count tally' (at + 1)
  Settling-more values' tally' v t =
      let one : at + 1 ≡ suc at = omega arith in
      let all : NodesFit (node ∷ drop (suc at) nodes) values = subst (λ (l : List Node). NodesFit l values) front s.fit in
      let rest : settled_values (node ∷ drop (suc at) nodes) values ≡ settled_values nodes start = subst (λ (l : List Node). settled_values l values ≡ settled_values nodes start) front s.rest in
      rw (one, v, t) (record {
        fit = all.2;
        rest = rest;
        as_many = length-set values node.place (operator_value node.operator values) ∙ s.as_many;
        steps = ap one_more s.steps;
      })

pub Settling-end : (nodes : List Node) (start values : List ℕ) (count tally at : ℕ) → Settling nodes start values count tally at → length nodes ≤ at → values ≡ settled_values nodes start
Settling-end nodes start values count tally at s past =
    subst (λ (l : List Node). settled_values l values ≡ settled_values nodes start) (drop_all at nodes past) s.rest
