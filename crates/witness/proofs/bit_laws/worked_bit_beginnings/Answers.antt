use Rattle.std.proofs.Common.{◌≡◌, codes, refl, arith, rules}
use Rattle.std.proofs.Math.Dec.{lit<, lit≤}
use Rattle.std.specs.Fmt.{digits}
use Rattle.base.specs.Decimals.{is_decimal, capped_value, number_of}
use Rattle.base.specs.Lines.{text_of_lines}
use Rattle.std.specs.List.Sorted.{IsStrictlySortedBy}
use Rattle.std.proofs.lemmas.List.Elements.{All-nil}
use Rattle.aiger.specs.Circuit.{IsNamed, HasFew, HasDefined, IsCircuit, net}
use Rattle.aiger.specs.Worked.{toggler}
use Rattle.witness.specs.Readings.{next_line, reading}
use Rattle.witness.specs.BitAdmits.{bit_admit}
use Rattle.witness.proofs.BitReadLemmas.{admitted_is_beginning, beginning_is_admitted}
use Rattle.witness.proofs.bit_laws.worked_bit_beginnings.Goals as goal

circuit : IsCircuit toggler
unfolding IsStrictlySortedBy
circuit =
    let few : HasFew toggler = search rules in
    let defined : HasDefined (net toggler) toggler = search rules in
    record { small = omega arith; few = few; ordered = tt; defined = defined; names = record { sorted = tt; named = All-nil (IsNamed toggler) } }

pub returns-clause-frame : goal.returns-clause-frame
unfolding digits reading next_line bit_admit number_of capped_value is_decimal
returns-clause-frame c = admitted_is_beginning toggler circuit (lit< tt) (codes "1\nb0\n0\n\n") refl (lit≤ tt) refl

pub returns-clause-no_such_bad : goal.returns-clause-no_such_bad
unfolding digits reading next_line bit_admit number_of capped_value is_decimal
returns-clause-no_such_bad c begins =
    let all : 1 ≡ 2 = beginning_is_admitted toggler (codes "1\nb1\n") (text_of_lines begins.more) begins.witness circuit begins.says in
    omega (arith, all)
