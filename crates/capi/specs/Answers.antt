-- What judgements are told as.
use Rattle.std.specs.Prelude.{Result, Ok, Err}
use Rattle.drup.specs.Printed.{proof_why_number}
use Rattle.drup.specs.declared.judgement.Judgement.{Judgement as ProofJudgement}
use Rattle.drup.specs.declared.judgement.Judgement.TheVariants as proof
use Rattle.restore.specs.Faults.{restore_why_number}
use Rattle.restore.specs.declared.fault.RestoreFault.{RestoreFault}
use Rattle.verbs.specs.declared.outcomes.Outcome.{Outcome}
use Rattle.verbs.specs.declared.outcomes.Outcome.TheVariants as outcome
use Rattle.witness.specs.Printed.{why_number}
use Rattle.witness.specs.declared.judgement.Judgement.{Judgement}
use Rattle.witness.specs.declared.judgement.Judgement.TheVariants as judgement
use Rattle.capi.specs.declared.answers.Verdict.{Verdict}

-- what a judgement is told as: its kind, the number of a why, and its one or two places
abbrev pub verdict_of : Judgement → Verdict
verdict_of (judgement.Accepted frames) = record { kind = 0; why = 0; first = frames; second = 0 }
verdict_of (judgement.NotReached claim) = record { kind = 1; why = 0; first = claim; second = 0 }
verdict_of (judgement.Violated frame constraint) = record { kind = 2; why = 0; first = frame; second = constraint }
verdict_of (judgement.InitDiffers index) = record { kind = 3; why = 0; first = index; second = 0 }
verdict_of (judgement.Malformed line why) = record { kind = 4; why = why_number why; first = line; second = 0 }
verdict_of judgement.NoClaim = record { kind = 5; why = 0; first = 0; second = 0 }

-- what the first faulty line of a counterexample is told as: that it is malformed, with the number of why
abbrev pub fault_verdict_of : RestoreFault → Verdict
fault_verdict_of e = record { kind = 4; why = restore_why_number e.why; first = e.line; second = 0 }

-- what is told of a counterexample: what is judged of what it becomes, or its first faulty line
abbrev pub found_verdict_of : {J : Type 0} → (J → Judgement) → Result J RestoreFault → Verdict
found_verdict_of judged (Ok told) = verdict_of (judged told)
found_verdict_of judged (Err e) = fault_verdict_of e

-- what a judgement of a proof is told as: that the property holds, with the line behind which nothing is to be shown, that a line is malformed, with the number of why, that the step that ends in a line is not implied, or that the text ends before
abbrev pub proof_verdict_of : ProofJudgement → Verdict
proof_verdict_of (proof.Derived line) = record { kind = 0; why = 0; first = line; second = 0 }
proof_verdict_of (proof.Malformed line why) = record { kind = 4; why = proof_why_number why; first = line; second = 0 }
proof_verdict_of (proof.NotImplied line) = record { kind = 6; why = 0; first = line; second = 0 }
proof_verdict_of proof.NotDerived = record { kind = 7; why = 0; first = 0; second = 0 }

-- what is told of a witness: how it is judged, or that it is accepted and does not claim the bad property that is asked for
abbrev pub outcome_verdict_of : Outcome → Verdict
outcome_verdict_of (outcome.Judged j) = verdict_of j
outcome_verdict_of (outcome.Unclaimed bad) = record { kind = 8; why = 0; first = bad; second = 0 }
