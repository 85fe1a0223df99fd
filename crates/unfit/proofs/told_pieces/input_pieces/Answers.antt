use Rattle.std.proofs.Common.{ap, length, replicate, ◌≡◌, List, ℕ, arith, ◌∙◌}
use Rattle.unfit.proofs.PieceLemmas.{fresh, fresh_inputs, input_more}
use Rattle.unfit.proofs.told_pieces.input_pieces.Goals as goal

pub loop-input-init : goal.loop-input-init
loop-input-init c = c.new-pieces.ensures.items

pub loop-input-preserved : goal.loop-input-preserved
loop-input-preserved c = input_more c.loop-input.pieces.items c.push.new.self.items c.loop-input._input-index c.loop-input.invariant c.in_ok-push.ensures.items

pub returns : goal.returns
returns c =
    let many : c.loop-input._input-index ≡ length c.inputs-input-items.result.now = omega (arith, c.loop-input-test.false, c.loop-input.auto._input-index-end) in
    c.loop-input.invariant ∙ ap (λ (n : ℕ). replicate n (fresh 0)) many ∙ ap (λ (l : List ℕ). replicate (length l) (fresh 0)) c.inputs-input-items.ensures ∙ fresh_inputs c.args.model.now
