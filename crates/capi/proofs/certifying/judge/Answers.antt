use Rattle.std.proofs.Common.{subst, sym}
use Rattle.invocation.specs.declared.tasks.Certified.{Certified}
use Rattle.capi.specs.Certified.{StopsCertifying}
use Rattle.capi.proofs.CertifiedLemmas.{certifies}
use Rattle.capi.proofs.StopLemmas.{stopped}
use Rattle.capi.proofs.certifying.judge.Goals as goal

pub returns-in-Ok-clause-done : goal.returns-in-Ok-clause-done
returns-in-Ok-clause-done c = rw (sym c.about-of.ensures) (λ _. certifies c.about-of.result c.args.form c.args.text.now c.args.certificate.now c.args.proof.now c.in-Ok.judged c.of_proof.result c.in-Ok.ensures.judged c.of_proof.ensures)

pub returns-in-Err-clause-stops : goal.returns-in-Err-clause-stops
returns-in-Err-clause-stops c = λ _. subst (λ (of : Certified). StopsCertifying of c.args.text.now c.args.certificate.now c.tell.result c.args.refusal.now c.tell.new.refusal) c.about-of.ensures
    (stopped c.in-Err.against c.tell.ensures.tells c.in-Err.ensures.refused c.in-Err.ensures.second)
