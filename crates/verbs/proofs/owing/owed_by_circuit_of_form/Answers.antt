use Rattle.std.proofs.Common.{sym, subst}
use Rattle.verbs.specs.Refusals.{IsFaultyOverForm}
use Rattle.verbs.specs.Statuses.{IfSecond}
use Rattle.verbs.proofs.CertificateLemmas.{refuses_witness_of_form}
use Rattle.verbs.proofs.owing.owed_by_circuit_of_form.Goals as goal

pub returns-in-Err-clause-second : goal.returns-in-Err-clause-second
returns-in-Err-clause-second g c =
    let second = g.B.Source.to_come c.args.second.now in
    subst (IfSecond (IsFaultyOverForm c.args.circuit.now c.args.claim second)) (sym c.from.ensures) (refuses_witness_of_form c.args.circuit.now c.args.claim second c.in-Err.fault c.in-Err.ensures.fault)
