use Rattle.std.proofs.Common.{◌≡◌, drop}
use Rattle.btor2.specs.Items.{is_state}
use Rattle.btor2.specs.Lists.{places, first_init_without_next}
use Rattle.btor2.proofs.NextLemmas.{first_lacking}
use Rattle.btor2.proofs.model.Model.first_init_without_next.Given as goal

abbrev pub invariant-loop-place : goal.invariant-loop-place
invariant-loop-place l =
    first_lacking l.self (drop l.place-index (places is_state 0 l.self)) ≡ first_init_without_next l.self l.self
