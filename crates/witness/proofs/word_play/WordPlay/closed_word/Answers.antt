use Rattle.std.proofs.Common.{◌≡◌, true, cond, Some, None, subst, sym, ◌∙◌}
use Rattle.btor2.specs.Trace.{Frame}
use Rattle.runs.specs.Run.{IsNow}
use Rattle.witness.specs.WordPlays.{WordPlay, word_at}
use Rattle.witness.proofs.WordPlayLemmas.{some_word}
use Rattle.witness.proofs.word_play.WordPlay.closed_word.Goals as goal

pub returns : goal.returns
returns c =
    let done : c.self.inside.run.settled ≡ true = sym c.is_settled.ensures ∙ c.if-not-is_settled.false in
    subst (λ (p : WordPlay). (f : Frame) → (p.run.settled ≡ true → IsNow p.run f) → Some c.value.result ≡ cond p.run.settled (word_at p.items f c.args.node) None) c.self.view_is
    (λ f now. some_word c.self.inside.model.now c.self.inside.run f c.args.node c.value.result done c.self.invariant.0 (sym c.has_value.ensures ∙ c.if-not-has_value.false) (c.value.ensures f (now done)))
