use Rattle.std.proofs.Common.{◌≡◌, true, sym, ◌∙◌, inl, inr}
use Rattle.fullmodel.specs.FullModels.{minuses_at_words}
use Rattle.fullmodel.proofs.AcceptedLemmas.{no_ids, no_minuses}
use Rattle.fullmodel.proofs.model.FullModel.minuses_at_words.Goals as goal

pub returns : goal.returns
returns c =
    let lines = c.args.self.now in
    let ids = c.loop-id.id-iterator.a.rest.now in
    let minuses = c.loop-id.id-iterator.b.rest.now in
    sym (c.loop-id.invariant ∙ elim c.in-None.ensures.steps as (λ _. minuses_at_words lines ids minuses ≡ true) [
      | inl x ↦ no_ids lines ids minuses x.1.0
      | inr x ↦ no_minuses lines ids minuses x.1.0
    ])
