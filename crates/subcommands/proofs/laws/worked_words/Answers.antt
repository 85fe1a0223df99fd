use Rattle.std.proofs.Common.{◌≡◌, Some, None, codes, refl, eqb-true, lit<, lit≤}
use Rattle.base.specs.Decimals.{number_of, is_decimal, capped_value}
use Rattle.subcommands.proofs.laws.worked_words.Goals as goal

low : number_of (codes "low") ≡ None
unfolding number_of is_decimal capped_value
low = refl

one : number_of (codes "1") ≡ Some 1
unfolding number_of is_decimal capped_value
one = refl

two : number_of (codes "2") ≡ Some 2
unfolding number_of is_decimal capped_value
two = refl

pub returns-clause-position : goal.returns-clause-position
returns-clause-position c = rw one (refl, lit< tt)

pub returns-clause-name : goal.returns-clause-name
returns-clause-name c = rw low (lit< tt, refl, λ j few called. eqb-true j 1 called)

pub returns-clause-beyond : goal.returns-clause-beyond
returns-clause-beyond c = rw two (lit≤ tt)

pub returns-clause-nowhere : goal.returns-clause-nowhere
returns-clause-nowhere c = rw low (λ j few. refl)

pub returns-clause-alike : goal.returns-clause-alike
returns-clause-alike c = rw low (lit< tt, lit< tt, refl, refl)
