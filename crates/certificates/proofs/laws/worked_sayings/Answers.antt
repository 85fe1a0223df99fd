use Rattle.std.proofs.Common.{◌≡◌, ℕ, List, Result, Ok, Err, codes, refl, sym, ◌∙◌}
use Rattle.base.specs.Decimals.{number_of, is_decimal, capped_value}
use Rattle.certificates.specs.declared.why.InvariantFault.{InvariantFault}
use Rattle.certificates.specs.declared.why.InvariantWhy.TheVariants as why
use Rattle.certificates.specs.Reading.{read_cubes}
use Rattle.certificates.proofs.SaidLemmas.{said, read}
use Rattle.certificates.proofs.laws.worked_sayings.Goals as goal

pub returns-clause-two : goal.returns-clause-two
unfolding number_of is_decimal capped_value
returns-clause-two c = read 2 _ _ refl

-- the text is read with a fault
twice : read_cubes 2 (codes ".i 2\n.o 1\n.p 1\n.ilb lo0 lo00\n.ob inv\n10 1\n.e\n") ≡ Err (record { line = 4; why = why.NamedTwice })
unfolding number_of is_decimal capped_value
twice = refl

pub returns-clause-none : goal.returns-clause-none
returns-clause-none c cubes says = by (sym twice ∙ said 2 _ cubes says)
  where
    by : ◌≡◌ {A = Result (List (List ℕ)) InvariantFault} (Err (record { line = 4; why = why.NamedTwice })) (Ok cubes) → ⊥
    by e = absurd (cc)
