use Rattle.std.proofs.Common.{◌≡◌, ◌∷◌, ◌++◌, [], subst, ◌∙◌}
use Rattle.aiger.specs.Circuit.{Circuit}
use Rattle.witness.specs.BitStands.{Gives, PlaysSaid, read_of}
use Rattle.witness.proofs.bit_judge.take.Goals as goal

pub returns-clause-played : goal.returns-clause-played
returns-clause-played c circuit before whole played front =
    let taken = c.take-given.ensures.lines circuit before whole played.lines front in
    let over : c.circuit.result.now ≡ circuit = c.circuit.ensures ∙ taken.0.counts.circuit in
    record {
      lines = taken.0;
      play =
          subst (λ (k : Circuit). Gives k (read_of circuit before) (read_of circuit (before ++ whole ∷ [])) c.args.line.now c.take-given.result → PlaysSaid k (read_of circuit before) c.args.play.now → PlaysSaid k (read_of circuit (before ++ whole ∷ [])) c.take.new.self) over
          (λ gives plays. c.take.ensures.played (read_of circuit before) (read_of circuit (before ++ whole ∷ [])) gives (c.claim.ensures ∙ taken.0.counts.claim) plays) taken.1 played.play;
    }
