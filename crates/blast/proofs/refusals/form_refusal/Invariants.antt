use Rattle.std.proofs.Common.{◌≡◌, length, take, drop}
use Rattle.btor2.specs.Items.{is_state}
use Rattle.btor2.specs.Lists.{places}
use Rattle.blast.specs.Refusal.{first_refusal, form_refusal}
use Rattle.blast.proofs.refusals.form_refusal.Given as goal

abbrev pub invariant-loop-place : goal.invariant-loop-place
invariant-loop-place l =
    record {
      states : l.states ≡ length (places is_state 0 (take l.place l.model));
      rest : first_refusal l.model (drop l.place l.model) ≡ form_refusal l.model;
    }
