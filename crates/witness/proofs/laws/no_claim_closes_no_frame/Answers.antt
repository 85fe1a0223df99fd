use Rattle.witness.proofs.WordJudgeLemmas.{closes_nothing}
use Rattle.witness.proofs.laws.no_claim_closes_no_frame.Goals as goal

pub returns : goal.returns
returns c shape text h = closes_nothing shape text h
