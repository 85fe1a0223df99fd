use Rattle.std.proofs.Common.{sym, ◌∙◌}
use Rattle.drup.proofs.ProofJudgeLemmas.{byte_passed}
use Rattle.drup.proofs.proof_judge.ProofJudge.take_byte.Goals as goal

pub returns-then-is_closed : goal.returns-then-is_closed
returns-then-is_closed c f text b = byte_passed f c.args.self.now text c.args.byte (sym c.is_closed.ensures ∙ c.if-is_closed.true) b
