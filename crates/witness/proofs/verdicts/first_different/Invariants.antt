use Rattle.std.proofs.Common.{◌≡◌, drop}
use Rattle.std.specs.List.{position_from}
use Rattle.btor2.specs.Items.{is_state, init_word}
use Rattle.btor2.specs.Trace.{Frame}
use Rattle.runs.specs.Run.{IsNow}
use Rattle.btor2.specs.Lists.{of_kind}
use Rattle.witness.specs.Judgements.{differs, first_different}
use Rattle.witness.proofs.verdicts.first_different.Given as goal

-- those before do not differ
abbrev pub invariant-loop-k : goal.invariant-loop-k
invariant-loop-k l =
    (f : Frame) → IsNow l.run f
    → position_from (λ x. differs (init_word l.model x.id) (f x.id)) l.k (drop l.k (of_kind is_state l.model)) ≡ first_different l.model f
