use Rattle.std.proofs.Common.{[], ◌∷◌, codes, refl, sym, lit<}
use Rattle.std.specs.Fmt.{digits}
use Rattle.std.proofs.lemmas.List.Elements.{All-from_recursion, All-nil}
use Rattle.btor2.specs.declared.item.Body.TheVariants as body
use Rattle.btor2.specs.Worked.{line}
use Rattle.btor2.specs.Check.{refusal, id_is_out_of_range, id_is_taken, sort_is_missing, operand_is_missing, state_is_none, width_is_out_of_range, widths_differ, init_is_not_constant, is_second_init, is_second_next, slice_is_out_of_range, constant_does_not_fit, justice_is_empty}
use Rattle.base.specs.Lines.{IsLine}
use Rattle.btor2text.specs.declared.fault.Why.TheVariants as why
use Rattle.btor2text.specs.Reading.{line_fault, lines_on, text_on}
use Rattle.btor2text.proofs.FaultLemmas.{not_failed}
use Rattle.btor2text.proofs.StandsLemmas.{stands_read}
use Rattle.btor2text.proofs.laws.worked_items.Goals as goal

pub returns-clause-negated : goal.returns-clause-negated
unfolding digits
returns-clause-negated c = record { form = codes "not" ∷ codes "1" ∷ codes "3" ∷ []; tokens = refl; says = refl; symbol = tt }

pub returns-clause-named : goal.returns-clause-named
unfolding digits
returns-clause-named c = record { form = codes "state" ∷ codes "1" ∷ []; tokens = refl; says = refl; symbol = refl }

pub returns-clause-hexadecimal : goal.returns-clause-hexadecimal
unfolding digits
returns-clause-hexadecimal c = record { form = codes "consth" ∷ codes "1" ∷ codes "00Ff" ∷ []; tokens = refl; says = (codes "00Ff", refl, record { each = refl; many = refl; says = refl }); symbol = tt }

pub returns-clause-negative : goal.returns-clause-negative
unfolding digits
returns-clause-negative c = record { form = codes "constd" ∷ codes "1" ∷ codes "-8" ∷ []; tokens = refl; says = refl; symbol = tt }

pub returns-clause-justice : goal.returns-clause-justice
unfolding digits
returns-clause-justice c = record { form = codes "justice" ∷ codes "2" ∷ codes "2" ∷ codes "3" ∷ []; tokens = refl; says = (refl, lit< tt); symbol = tt }

pub returns-clause-text : goal.returns-clause-text
unfolding digits refusal id_is_out_of_range id_is_taken sort_is_missing operand_is_missing state_is_none width_is_out_of_range widths_differ init_is_not_constant is_second_init is_second_next slice_is_out_of_range constant_does_not_fit justice_is_empty
returns-clause-text c =
    record {
      lines = codes "1 sort bitvec 1" ∷ [];
      whole = refl;
      each = All-from_recursion IsLine (codes "1 sort bitvec 1" ∷ []) (refl, tt);
      spelled = (record { form = codes "sort" ∷ codes "bitvec" ∷ codes "1" ∷ []; tokens = refl; says = refl; symbol = tt }, tt);
      well_formed = (refl, tt);
    }

pub returns-clause-leading_zero : goal.returns-clause-leading_zero
unfolding digits
returns-clause-leading_zero c = λ s. absurd (cc s.tokens)

pub returns-clause-unended : goal.returns-clause-unended
unfolding text_on lines_on
returns-clause-unended c = λ s. not_failed (line 1 (body.Sort 1) ∷ []) (line_fault 1 why.Unfinished) (sym (stands_read (codes "1 sort bitvec 1") (line 1 (body.Sort 1) ∷ []) s))

pub returns-clause-empty : goal.returns-clause-empty
returns-clause-empty c = record { lines = []; whole = refl; each = All-nil IsLine; spelled = tt; well_formed = tt }
