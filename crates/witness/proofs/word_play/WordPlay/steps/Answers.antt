use Rattle.std.proofs.Common.{◌≡◌, true, length, subst, sym, ap, ◌∙◌, arith}
use Rattle.btor2.specs.Items.{is_state}
use Rattle.runs.specs.Run.{state_count}
use Rattle.runs.proofs.RankLemmas.{length-places}
use Rattle.witness.specs.WordPlays.{WordPlay, steps_taken}
use Rattle.witness.proofs.WordPlayLemmas.{steps_on}
use Rattle.witness.proofs.word_play.WordPlay.steps.Goals as goal

pub returns : goal.returns
returns c =
    let done : c.self.inside.run.settled ≡ true = sym c.is_settled.ensures ∙ c.if-not-is_settled.false in
    let many : length c.states.result.now ≡ state_count c.self.inside.model.now = ap length c.states.ensures ∙ length-places is_state 0 c.self.inside.model.now in
    subst (λ (p : WordPlay). c.saturating_add.result ≡ steps_taken p.items p.run) c.self.view_is
    (steps_on c.self.inside.model.now c.self.inside.run (length c.states.result.now) c.steps-2.result c.saturating_add.result done many c.steps-2.ensures (omega arith) c.saturating_add.ensures)
