use Rattle.std.proofs.Common.{[], ◌∷◌, codes, refl, inl, inr}
use Rattle.btor2.specs.declared.item.Body.TheVariants as body
use Rattle.std.specs.Fmt.{digits}
use Rattle.std.proofs.lemmas.List.Elements.{All-from_recursion, All-nil}
use Rattle.btor2.specs.Worked.{line}
use Rattle.btor2.specs.Check.{refusal, id_is_out_of_range, id_is_taken, sort_is_missing, operand_is_missing, state_is_none, width_is_out_of_range, widths_differ, init_is_not_constant, is_second_init, is_second_next, slice_is_out_of_range, constant_does_not_fit, justice_is_empty}
use Rattle.base.specs.Decimals.{is_decimal, capped_value, number_of}
use Rattle.btor2text.specs.Words.{form_of, form_named, unary_of, binary_of, no_form}
use Rattle.btor2text.specs.Digits.{signed_number, decimal_number, number_in}
use Rattle.btor2text.specs.Reading.{line_on, item_at, symbol_at, body_at, constant_told, form_at, counted_at, operands_at, digits_at, signed_at, triple_at, pair_at, width_told, operand_at, kept_id, sort_at, plain_at, operand, plain_number, is_negative}
use Rattle.base.specs.Lines.{IsLine}
use Rattle.btor2text.proofs.FaultLemmas.{some_bytes}
use Rattle.btor2text.proofs.laws.worked_faults.Goals as goal

pub returns-clause-second_line : goal.returns-clause-second_line
unfolding digits line_on item_at symbol_at body_at constant_told form_at form_of form_named unary_of binary_of no_form counted_at operands_at digits_at signed_at triple_at pair_at width_told operand_at kept_id sort_at plain_at operand plain_number is_negative signed_number decimal_number number_in number_of capped_value is_decimal refusal id_is_out_of_range id_is_taken sort_is_missing operand_is_missing state_is_none width_is_out_of_range widths_differ init_is_not_constant is_second_init is_second_next slice_is_out_of_range constant_does_not_fit justice_is_empty
returns-clause-second_line c =
    record {
      lines = codes "1 sort bitvec 1" ∷ [];
      items = line 1 (body.Sort 1) ∷ [];
      rest = codes "3 not 1 -2\n";
      parts = refl;
      each = All-from_recursion IsLine (codes "1 sort bitvec 1" ∷ []) (refl, tt);
      spelled = (record { form = codes "sort" ∷ codes "bitvec" ∷ codes "1" ∷ []; tokens = refl; says = refl; symbol = tt }, tt);
      well_formed = (refl, tt);
      place = refl;
      faulty = inr (record { line = codes "3 not 1 -2"; after = []; parts = refl; whole = refl; faulty = refl });
    }

pub returns-clause-unfinished : goal.returns-clause-unfinished
returns-clause-unfinished c =
    record {
      lines = [];
      items = [];
      rest = codes "1 sort bitvec 1";
      parts = refl;
      each = All-nil IsLine;
      spelled = tt;
      well_formed = tt;
      place = refl;
      faulty = inl (record { line = refl; some = some_bytes 49 (codes " sort bitvec 1"); is = refl });
    }
