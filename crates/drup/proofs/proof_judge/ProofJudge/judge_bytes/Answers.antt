use Rattle.std.proofs.Common.{sym, subst}
use Rattle.drup.specs.BinaryProofs.{read_binary_proof}
use Rattle.drup.specs.ProofJudges.{ProofJudge, judge_of, EndsBytes}
use Rattle.drup.proofs.ProofJudgeLemmas.{reads_bytes}
use Rattle.drup.proofs.proof_judge.ProofJudge.judge_bytes.Goals as goal

pub returns : goal.returns
returns c f text b =
    let e : EndsBytes f (judge_of c.self.inside) text = subst (λ (x : ProofJudge). EndsBytes f x text) (sym c.self.view_is) (c.end_bytes.ensures f text b) in
    c.judge_words.ensures f e.marks (read_binary_proof f.variables text) e.words (reads_bytes f (judge_of c.self.inside) text e)
