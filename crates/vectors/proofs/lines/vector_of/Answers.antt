use Rattle.std.proofs.Common.{ℕ, List, sym, ◌∙◌, subst}
use Rattle.vectors.specs.Vectors.{NamesOperator, numbers}
use Rattle.vectors.proofs.NoneLemmas.{same_cut}
use Rattle.vectors.proofs.lines.vector_of.Goals as goal

pub returns-in-Some-clause-none : goal.returns-in-Some-clause-none
returns-in-Some-clause-none c = λ none v w.
    let same = same_cut 32 w.word (numbers v) c.in-Some.name.now c.in-Some.rest.now w.plain c.in-Some.ensures.1 (sym w.is ∙ c.in-Some.ensures.0) in
    let P : List ℕ → Type 0 = λ word. NamesOperator word v in
    c.named_vector.ensures.none none v (subst P same.0 w.named) w.fits (sym same.1)
