use Rattle.std.proofs.Common.{◌≡◌, ◌<◌, ℕ, ◌+◌, List, [], ◌∷◌, ◌++◌, length, take, refl, sym, ap, subst, ◌∙◌, append_assoc, append-nil, arith}
use Rattle.std.proofs.lemmas.List.{take_all, take_more}
use Rattle.drup.specs.ProofJudges.{StandsForText}
use Rattle.drup.proofs.proof_judge.ProofJudge.give_each.Goals as goal

pub loop-k-init : goal.loop-k-init
loop-k-init c = record {
  stands = λ f stands. subst (λ (cs : List (List ℕ)). StandsForText (record f { clauses = cs }) c.args.self.now []) (sym (append-nil f.clauses)) stands;
  variables = refl;
}

pub give-requires : goal.give-requires
give-requires c = λ i d below. let own = c.clause.ensures.literals i d below in omega (arith, own.1, c.loop-k.invariant.variables, c.requires)

pub loop-k-preserved : goal.loop-k-preserved
loop-k-preserved c =
    let below : c.loop-k.k < length c.args.formula.now.clauses = omega (arith, c.loop-k-test.true, c.clause_count-k-end.ensures) in
    let more : take c.loop-k.k c.args.formula.now.clauses ++ c.clause.result.now ∷ [] ≡ take (c.loop-k.k + 1) c.args.formula.now.clauses =
    ap (λ (x : List ℕ). take c.loop-k.k c.args.formula.now.clauses ++ x ∷ []) c.clause.ensures.clause ∙ sym (take_more c.args.formula.now.clauses c.loop-k.k [] below) in
    record {
      stands = λ f stands.
          subst (λ (cs : List (List ℕ)). StandsForText (record f { clauses = cs }) c.give.new.self []) (append_assoc f.clauses (take c.loop-k.k c.args.formula.now.clauses) (c.clause.result.now ∷ []) ∙ ap (λ (cs : List (List ℕ)). f.clauses ++ cs) more)
          (c.give.ensures.stands (record f { clauses = f.clauses ++ take c.loop-k.k c.args.formula.now.clauses }) (c.loop-k.invariant.stands f stands));
      variables = c.give.ensures.variables ∙ c.loop-k.invariant.variables;
    }

pub returns-clause-stands : goal.returns-clause-stands
returns-clause-stands c f stands =
    subst (λ (cs : List (List ℕ)). StandsForText (record f { clauses = f.clauses ++ cs }) c.loop-k.self [])
    (take_all c.loop-k.k c.args.formula.now.clauses (omega (arith, c.loop-k-test.false, c.clause_count-k-end.ensures))) (c.loop-k.invariant.stands f stands)
