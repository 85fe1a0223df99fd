use Rattle.std.proofs.Common.{◌<◌, ◌⊎◌, length, ap, inl, inr, ◌∙◌, arith, nat_eq}
use Rattle.std.specs.List.{position_or_len}
use Rattle.aigerlists.proofs.NumbersLemmas.{length_joined, place_in_turn, place_out_of_turn}
use Rattle.aigerlists.proofs.numbers.Numbers.place.Goals as goal
use Rattle.aigerlists.proofs.numbers.Numbers.place.Goals.{else-variable-ge1-via-then-variable-ge1+else-variable-self, else-variable-ge1-via-else-variable-ge1}

pub returns-then-variable-self-clause-place : goal.returns-then-variable-self-clause-place
returns-then-variable-self-clause-place c =
    place_in_turn c.args.variable c.self.inside.in_turn c.self.inside.variables.items c.if-variable-ge1.true c.if-variable-self.true ∙ ap (position_or_len (nat_eq c.args.variable)) c.self.view_is

pub returns-then-variable-self-clause-within : goal.returns-then-variable-self-clause-within
returns-then-variable-self-clause-within c =
    omega (arith, c.if-variable-self.true, ap length c.self.view_is, length_joined c.self.inside.in_turn c.self.inside.variables.items)

pub returns-clause-place : goal.returns-clause-place
returns-clause-place c =
    let outside : (c.args.variable < 1) ⊎ (c.self.inside.in_turn < c.args.variable) =
    elim c.else-variable-ge1.branch [
      | else-variable-ge1-via-then-variable-ge1+else-variable-self w ↦ inr w.if-variable-self.false
      | else-variable-ge1-via-else-variable-ge1 w ↦ inl w.if-variable-ge1.false
    ] in
    place_out_of_turn c.args.variable c.self.inside.in_turn c.place_in.result c.self.inside.variables.items outside (c.place_in.ensures.place ∙ ap (position_or_len (nat_eq c.args.variable)) c.deref.ensures.value)
    ∙ ap (position_or_len (nat_eq c.args.variable)) c.self.view_is

pub returns-clause-within : goal.returns-clause-within
returns-clause-within c =
    omega (arith, c.place_in.ensures.within, ap length c.deref.ensures.value, ap length c.self.view_is, length_joined c.self.inside.in_turn c.self.inside.variables.items)
