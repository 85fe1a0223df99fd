use Rattle.std.proofs.Common.{[], ◌∷◌, ◌++◌, sym, subst}
use Rattle.drup.specs.ProofJudges.{ProofJudge, judge_of, StandsForText}
use Rattle.drup.proofs.ProofJudgeLemmas.{given_proof}
use Rattle.drup.proofs.proof_judge.ProofJudge.give.Goals as goal

pub returns-clause-stands : goal.returns-clause-stands
returns-clause-stands c f b =
    given_proof f (record f { clauses = f.clauses ++ c.args.clause.now ∷ [] }) (judge_of c.self.inside) c.give.new.self (c.give.ensures.stands f) (subst (λ (x : ProofJudge). StandsForText f x []) (sym c.self.view_is) b)
