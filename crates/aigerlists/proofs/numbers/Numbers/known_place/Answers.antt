use Rattle.std.proofs.Common.{◌≡◌, ◌<◌, ◌∙◌, length, nat_eq, sym, ap, arith}
use Rattle.std.specs.List.{position_or_len}
use Rattle.aigerlists.proofs.NumbersLemmas.{length_joined, none_beyond, nothing_at, something_at}
use Rattle.aigerlists.proofs.numbers.Numbers.known_place.Goals as goal

pub returns-in_default-clause-place : goal.returns-in_default-clause-place
returns-in_default-clause-place c =
    sym (none_beyond c.args.variable c.self.inside.in_turn c.self.inside.variables.items c.args.self.now c.self.view_is c.requires c.self.invariant.1 (omega (arith, c.in_default.ensures)))

pub returns-then-place-count-clause-place : goal.returns-then-place-count-clause-place
returns-then-place-count-clause-place c =
    let same : c.in-Ok.variable ≡ c.args.variable = omega (arith, c.in-Ok.ensures) in
    let place = c.place-place.ensures.place ∙ ap (λ v. position_or_len (nat_eq v) c.args.self.now) same in
    sym (nothing_at (nat_eq c.args.variable) c.args.self.now (omega (arith, c.if-place-count.true, ap length c.self.view_is, length_joined c.self.inside.in_turn c.self.inside.variables.items, place, c.len.ensures)))

pub returns : goal.returns
returns c =
    let same : c.in-Ok.variable ≡ c.args.variable = omega (arith, c.in-Ok.ensures) in
    let place = c.place-place.ensures.place ∙ ap (λ v. position_or_len (nat_eq v) c.args.self.now) same in
    let low : c.place-place.result < length c.args.self.now = omega (arith, c.if-place-count.false, ap length c.self.view_is, length_joined c.self.inside.in_turn c.self.inside.variables.items, c.place-place.ensures.within, c.len.ensures) in
    record { place = sym (something_at (nat_eq c.args.variable) c.args.self.now c.place-place.result place low); within = omega (arith, low, c.requires) }
