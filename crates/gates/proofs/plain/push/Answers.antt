use Rattle.std.proofs.Common.{◌+◌, ◌<◌, inl, inr, refl}
use Rattle.aiger.specs.Limits.{greatest_count}
use Rattle.aiger.specs.Net.{variables}
use Rattle.aiger.specs.Circuit.{net}
use Rattle.gates.proofs.GrowthLemmas.{gate_too_big}
use Rattle.gates.proofs.plain.push.Goals as goal

pub returns-in-Err-TooBig-clause-too_big : goal.returns-in-Err-TooBig-clause-too_big
returns-in-Err-TooBig-clause-too_big c =
    let too_big : greatest_count < variables (net c.args.circuit.now) + 1 =
    elim c.in-Err-TooBig.ensures.refused [ inl e ↦ gate_too_big c.args.circuit.now c.pair.inside.greater c.pair.inside.smaller (rw (c.new.ensures, c.new-2.ensures, c.in-Err-TooBig.field-0-is) at e) | inr e ↦ absurd (cc) ] in
    (λ _. too_big, λ _. refl)
