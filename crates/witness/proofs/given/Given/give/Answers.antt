use Rattle.std.proofs.Common.{◌==◌, ℕ, Bool, List, refl, ap₂, ◌∙◌, set}
use Rattle.std.proofs.lemmas.Bool.{eq-eqb}
use Rattle.std.proofs.lemmas.List.{map-set}
use Rattle.witness.proofs.given.Given.give.Goals as goal

pub returns : goal.returns
returns c =
    let is_open : ℕ → Bool = λ n. n == c.self.inside.part in
    map-set is_open c.self.inside.last c.args.k c.self.inside.part
    ∙ ap₂ (λ (l : List Bool) (b : Bool). set l c.args.k b) c.self.view_is (eq-eqb c.self.inside.part c.self.inside.part refl)
