use Rattle.std.proofs.Common.{◌≡◌, ℕ, subst}
use Rattle.aiger.specs.Reachability.{CanRiseInCircuit}
use Rattle.drup.specs.declared.judgement.Judgement.{Judgement}
use Rattle.drup.specs.declared.judgement.Judgement.TheVariants as judgement
use Rattle.certificates.specs.Certificates.{IsJudgedProof}
use Rattle.certificates.proofs.ReaderLemmas.{ok_weaker}
use Rattle.certificates.proofs.judging.judge_certificate.Goals as goal

pub returns-clause-holds : goal.returns-clause-holds
returns-clause-holds g c =
    let proof = g.P.Source.to_come c.args.proof.now in
    ok_weaker c.judge_proof.result (IsJudgedProof c.args.form c.in_ok-formula.formula proof) (λ (j : Judgement). (line : ℕ) → j ≡ judgement.Derived line → ¬ CanRiseInCircuit c.args.circuit.now c.args.bad)
    (λ j judged line derives rise.
    c.certified_property_never_rises.ensures c.args.circuit.now c.args.bad c.args.form (g.S.Source.to_come c.args.invariant.now) proof line
    (record { formula = c.in_ok-formula.formula; is_owed = c.in_ok-formula.ensures.ok; judged = subst (IsJudgedProof c.args.form c.in_ok-formula.formula proof) derives judged }) rise)
    c.judge_proof.ensures.judged
