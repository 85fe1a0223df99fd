use Rattle.std.proofs.Common.{◌≡◌, codes, refl, arith}
use Rattle.std.proofs.Math.Dec.{lit<, lit≤}
use Rattle.std.specs.Fmt.{digits}
use Rattle.base.specs.Decimals.{is_decimal, capped_value, number_of}
use Rattle.base.specs.Lines.{text_of_lines}
use Rattle.btor2.specs.Worked.{toggler_model}
use Rattle.witness.specs.Texts.{shape_of}
use Rattle.witness.specs.Readings.{next_line, reading}
use Rattle.witness.specs.Admits.{claims_at, admit}
use Rattle.witness.proofs.ReadLemmas.{IsSmall}
use Rattle.witness.proofs.ReadTextLemmas.{admitted_is_beginning, beginning_is_admitted}
use Rattle.witness.proofs.laws.worked_beginnings.Goals as goal

small : IsSmall (shape_of toggler_model)
small = record { bads = lit< tt; states = lit< tt; inputs = lit< tt }

pub returns-clause-frame : goal.returns-clause-frame
unfolding digits reading next_line admit claims_at number_of capped_value is_decimal
returns-clause-frame c = admitted_is_beginning (shape_of toggler_model) small (lit< tt) (codes "sat\nb0\n@0\n") refl (lit≤ tt) refl

pub returns-clause-no_such_bad : goal.returns-clause-no_such_bad
unfolding digits reading next_line admit claims_at number_of capped_value is_decimal
returns-clause-no_such_bad c begins =
    let all : 1 ≡ 2 = beginning_is_admitted (shape_of toggler_model) (codes "sat\nb1\n") (text_of_lines begins.more) begins.witness small begins.says in
    omega (arith, all)
