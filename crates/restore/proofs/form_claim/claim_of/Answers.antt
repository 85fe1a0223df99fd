use Rattle.std.proofs.Common.{◌≡◌, ℕ, List, Some, None, drop, ap, ◌∙◌}
use Rattle.base.specs.Decimals.{number_of}
use Rattle.base.proofs.DecimalLemmas.{number_of-decimal}
use Rattle.restore.proofs.form_claim.claim_of.Goals as goal

pub returns-in-Some : goal.returns-in-Some
returns-in-Some c i small is =
    let same : Some c.in-Some.number ≡ Some i = c.in-Some.ensures ∙ ap number_of (c.split_at.ensures.back ∙ ap (λ (l : List ℕ). drop 1 l) is) ∙ number_of-decimal i small in
    cc

pub returns-in-None : goal.returns-in-None
returns-in-None c i small is =
    let same : None ≡ Some i = c.in-None.ensures ∙ ap number_of (c.split_at.ensures.back ∙ ap (λ (l : List ℕ). drop 1 l) is) ∙ number_of-decimal i small in
    absurd cc
