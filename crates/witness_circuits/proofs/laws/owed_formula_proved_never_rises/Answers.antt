use Rattle.std.proofs.Common.{subst}
use Rattle.drup.specs.declared.judgement.Judgement.TheVariants as judgement
use Rattle.drup.specs.Formula.{Formula}
use Rattle.certificates.specs.Certificates.{JudgesIn}
use Rattle.witness_circuits.specs.Mapping.{mapping_of}
use Rattle.witness_circuits.proofs.laws.owed_formula_proved_never_rises.Goals as goal

pub returns : goal.returns
returns c numbering circuit k witness f form text line a judged rise =
    let is = a.tested in
    c.proved_property_never_rises.ensures circuit k is.witness (mapping_of numbering circuit is.witness) a.test form text line is.is_test
    (subst (λ (g : Formula). JudgesIn form g text (judgement.Derived line)) a.is_obligation judged) rise
