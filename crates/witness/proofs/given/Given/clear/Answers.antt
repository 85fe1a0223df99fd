use Rattle.std.proofs.Common.{◌≡◌, ◌+◌, ◌<◌, ℕ, List, All, replicate, length, sym, subst, ap, ◌∙◌, arith, rules}
use Rattle.std.proofs.lemmas.List.Elements.{All-replicate}
use Rattle.std.proofs.lemmas.List.{length-replicate}
use Rattle.base.specs.Fixed.{refilled}
use Rattle.base.proofs.FixedLemmas.{refilled_is}
use Rattle.witness.proofs.WordPlayLemmas.{none_behind}
use Rattle.witness.proofs.given.Given.clear.Goals as goal

pub returns-then-self-clause-none : goal.returns-then-self-clause-none
returns-then-self-clause-none c =
    let old : List ℕ = c.self.inside.last in
    let put : c.forget.new.last ≡ replicate (length old) 0 = c.forget.ensures ∙ ap (λ (l : List ℕ). replicate (length l) 0) c.as_mut_slice.ensures.value in
    let is : refilled old c.forget.new.last ≡ replicate (length old) 0 = refilled_is old c.forget.new.last (ap length put ∙ length-replicate (length old) 0) ∙ put in
    none_behind (refilled old c.forget.new.last) 1 (subst (All (λ n. n < 1)) (sym is) (All-replicate (λ n. n < 1) (length old) 0 (omega arith)))

pub returns-clause-none : goal.returns-clause-none
returns-clause-none c = none_behind c.self.inside.last (c.self.inside.part + 1) (search rules)
