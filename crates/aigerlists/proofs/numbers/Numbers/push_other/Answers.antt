use Rattle.std.proofs.Common.{◌≡◌, ℕ, false, List, ◌++◌, ◌∷◌, [], suc, ◌+◌, ◌<◌, All, nat_eq, cond, length, ap, sym, subst, ◌∙◌, arith}
use Rattle.std.proofs.lemmas.List.Elements.{All-nil, All-cons, All-append}
use Rattle.std.specs.List.{list_any}
use Rattle.aigerlists.specs.Numbering.{number_among}
use Rattle.aigerlists.specs.VariableNumbers.{number_kept}
use Rattle.aigerlists.proofs.NumbersLemmas.{none_behind, number_pushed}
use Rattle.aigerlists.proofs.numbers.Numbers.push_other.Goals as goal

pub invariant_of-self-2 : goal.invariant_of-self-2
invariant_of-self-2 c =
    let names : List ℕ = c.self.inside.variables.items in
    let same : c.reserve.new.self.items ≡ names = c.reserve.ensures.items in
    let pushed : c.push.new.self.items ≡ names ++ c.args.variable ∷ [] = c.in-Ok.ensures.items ∙ ap (λ (ns : List ℕ). ns ++ c.args.variable ∷ []) same in
    let new : list_any (nat_eq c.args.variable) names ≡ false = none_behind c.args.variable c.self.inside.in_turn names c.args.self.now c.self.view_is c.requires.new in
    let given : c.len.result + 1 ≡ suc (length names) = omega (arith, c.len.ensures, ap length same) in (
      λ v.
          c.in_ok-set.ensures.set v
          ∙ (ap (λ (n : ℕ). cond (nat_eq c.args.variable v) n (number_kept c.self.inside.numbers v)) given
          ∙ (ap (λ (n : ℕ). cond (nat_eq c.args.variable v) (suc (length names)) n) (c.self.invariant.0 v)
          ∙ (number_pushed names c.args.variable v new
          ∙ ap (λ (ns : List ℕ). number_among ns v) (sym pushed)))),
      subst (All (λ v. v < 4294967296)) (sym pushed) (All-append (λ v. v < 4294967296) names (c.args.variable ∷ []) c.self.invariant.1 (All-cons (λ v. v < 4294967296) c.args.variable [] (omega arith) (All-nil (λ v. v < 4294967296)))),
    )
