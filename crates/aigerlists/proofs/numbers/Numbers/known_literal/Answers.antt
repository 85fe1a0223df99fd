use Rattle.std.proofs.Common.{sym}
use Rattle.aigerlists.proofs.NumbersLemmas.{literal_of_none, literal_of_place}
use Rattle.aigerlists.proofs.numbers.Numbers.known_literal.Goals as goal

pub returns-in-Some : goal.returns-in-Some
returns-in-Some c = sym (literal_of_place c.args.self.now c.args.number c.in-Some.place c.if-number-lt2.false (sym c.in-Some.ensures.place))

pub returns-in-None : goal.returns-in-None
returns-in-None c = sym (literal_of_none c.args.self.now c.args.number c.if-number-lt2.false (sym c.in-None.ensures.place))
