use Rattle.std.proofs.Common.{◌≡◌, ◌∙◌, arith}
use Rattle.aigerlists.specs.Numbering.{number_among}
use Rattle.aigerlists.proofs.NumbersLemmas.{place_by_none, place_by_number}
use Rattle.aigerlists.proofs.numbers.place_in.Goals as goal

pub returns-then-number-eq0-clause-place : goal.returns-then-number-eq0-clause-place
returns-then-number-eq0-clause-place c =
    let none : number_among c.args.variables.now c.args.variable ≡ 0 = omega (arith, c.requires c.args.variable, c.get-number.ensures, c.if-number-eq0.true) in
    omega (arith, place_by_none c.args.variable c.args.variables.now none)

pub returns : goal.returns
returns c =
    let number : c.get-number.result ≡ number_among c.args.variables.now c.args.variable = c.get-number.ensures ∙ c.requires c.args.variable in
    let p = place_by_number c.args.variable c.args.variables.now (omega (arith, number, c.if-number-eq0.false)) in
    record { place = omega (arith, number, p.0); within = omega (arith, number, p.1) }
