use Rattle.std.proofs.Common.{◌<◌, ℕ, List, [], length, get_or, sym, ap, ◌∙◌, arith}
use Rattle.std.specs.Prelude.{slice_range}
use Rattle.drup.proofs.FlatLemmas.{length-stretched, stretched_at}
use Rattle.drup.proofs.clauses.Clauses.clause.Goals as goal

pub returns : goal.returns
returns c =
    let below : c.args.k < length c.self.inside.stretches.items = omega (arith, c.requires, ap (λ (cs : List (List ℕ)). length cs) c.self.view_is, length-stretched c.self.inside.literals.items c.self.inside.stretches.items) in
    c.clause_between.ensures ∙ ap (λ (ls : List ℕ). slice_range ls c.index-stretch.result.now.start c.index-stretch.result.now.end) c.deref.ensures.value
    ∙ sym (stretched_at c.self.inside.literals.items c.self.inside.stretches.items c.args.k c.index-stretch.result.now below c.index-stretch.ensures)
    ∙ ap (λ (cs : List (List ℕ)). get_or cs c.args.k []) c.self.view_is
