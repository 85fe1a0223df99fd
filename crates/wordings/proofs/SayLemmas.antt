-- What words say goes by the command and the parts that they are.
use Rattle.std.proofs.Common.{◌≡◌, List, ℕ, Option, Some}
use Rattle.std.specs.Prelude.{MatchOption}
use Rattle.wordings.specs.declared.table.Verb.{Verb}
use Rattle.wordings.specs.Orders.{command}
use Rattle.wordings.specs.Parts.{Said}

-- by a command and its parts, what parts of a command say
pub by_command : {X : Type 0} (P : Verb → List Said → X → Type 0) (words : List (List ℕ)) (v : Verb) (ps : List Said) (found : Option X) → command words ≡ Some (v, ps)
    → MatchOption found ((x : X) → ¬ P v ps x) (P v ps)
    → MatchOption found ((x : X) → ¬ MatchOption (command words) ⊥ (λ said. P said.0 said.1 x)) (λ x. MatchOption (command words) ⊥ (λ said. P said.0 said.1 x))
by_command P words v ps found is h = rw is h
