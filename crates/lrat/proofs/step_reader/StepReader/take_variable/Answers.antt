use Rattle.std.proofs.Common.{◌≡◌, ◌<◌, ◌≤◌, [], ◌∷◌, ◌++◌, ap, arith}
use Rattle.std.proofs.lemmas.Bool.{ne_eqb, lt-ltb, le-ltb}
use Rattle.drup.specs.declared.why.Why.TheVariants as why
use Rattle.drup.specs.Words.{sign_of}
use Rattle.lrat.specs.HintedProofs.{goes_on, refuses, literals, with_literal}
use Rattle.lrat.specs.StepReaders.{StepReader}
use Rattle.lrat.proofs.StepReaderLemmas.{takes_as, literal_zero, literal_beyond, literal_within}
use Rattle.lrat.proofs.step_reader.StepReader.take_variable.Goals as goal

pub returns-then-number-eq0-clause-takes : goal.returns-then-number-eq0-clause-takes
returns-then-number-eq0-clause-takes c id clause is =
    takes_as c.args.self.now c.refuse.new.self c.args.line (refuses why.BadWord) (with_literal c.args.self.now.variables id clause (sign_of c.args.negative) c.args.number)
    (literal_zero c.args.self.now.variables id clause (sign_of c.args.negative) c.args.number c.if-number-eq0.true) c.refuse.ensures.takes

pub returns-then-number-from-clause-takes : goal.returns-then-number-from-clause-takes
returns-then-number-from-clause-takes c id clause is =
    let same : c.self.inside.variables ≡ c.args.self.now.variables = ap (λ (x : StepReader). x.variables) c.self.view_is in
    let many : c.args.self.now.variables < c.args.number = omega (arith, same, c.from.ensures, c.if-number-from.true) in
    takes_as c.args.self.now c.refuse-then-number-from.new.self c.args.line (refuses why.BadVariable) (with_literal c.args.self.now.variables id clause (sign_of c.args.negative) c.args.number)
    (literal_beyond c.args.self.now.variables id clause (sign_of c.args.negative) c.args.number (ne_eqb c.args.number 0 c.if-number-eq0.false) (lt-ltb c.args.self.now.variables c.args.number many)) c.refuse-then-number-from.ensures.takes

pub returns-clause-takes : goal.returns-clause-takes
returns-clause-takes c id clause is =
    let same : c.self.inside.variables ≡ c.args.self.now.variables = ap (λ (x : StepReader). x.variables) c.self.view_is in
    let few : c.args.number ≤ c.args.self.now.variables = omega (arith, same, c.from.ensures, c.if-number-from.false) in
    takes_as c.args.self.now c.push_literal.new.self c.args.line (goes_on (literals id (clause ++ c.literal_of.result ∷ []))) (with_literal c.args.self.now.variables id clause (sign_of c.args.negative) c.args.number)
    (literal_within c.args.self.now.variables id clause (sign_of c.args.negative) c.args.number c.literal_of.result (ne_eqb c.args.number 0 c.if-number-eq0.false) (le-ltb c.args.self.now.variables c.args.number few) c.literal_of.ensures)
    (c.push_literal.ensures.takes c.args.line id clause is)
