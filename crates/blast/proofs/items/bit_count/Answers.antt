use Rattle.std.proofs.Common.{ℕ, Option, unwrap_or, ap, ◌∙◌}
use Rattle.btor2.proofs.LeafLemmas.{bits_of-at}
use Rattle.blast.proofs.items.bit_count.Goals as goal

pub returns-in-Some-clause-value : goal.returns-in-Some-clause-value
returns-in-Some-clause-value c =
    c.bits.ensures.same ∙ ap (λ (o : Option ℕ). unwrap_or o 0) c.in-Some.ensures ∙ bits_of-at c.args.model.now c.args.place c.args.item.now c.requires.well_formed c.requires.place

pub returns-in-None-clause-value : goal.returns-in-None-clause-value
returns-in-None-clause-value c =
    ap (λ (o : Option ℕ). unwrap_or o 0) c.in-None.ensures ∙ bits_of-at c.args.model.now c.args.place c.args.item.now c.requires.well_formed c.requires.place
