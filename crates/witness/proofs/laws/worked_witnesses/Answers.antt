use Rattle.std.proofs.Common.{[], ◌∷◌, Some, None, codes, refl, ◌≡◌, ◌<◌, true}
use Rattle.std.proofs.Math.Dec.{lit<, lit≤}
use Rattle.std.proofs.lemmas.List.Elements.{All-from_recursion, All-nil}
use Rattle.base.specs.Lines.{IsLine}
use Rattle.witness.specs.Texts.{IsAssignment, shape_of, is_comment, AreParts, IsFreePart}
use Rattle.btor2.specs.Worked.{toggler_model}
use Rattle.std.specs.Fmt.{digits}
use Rattle.btor2.specs.Check.{refusal, id_is_out_of_range, id_is_taken, sort_is_missing, operand_is_missing, state_is_none, width_is_out_of_range, slice_is_out_of_range, widths_differ, constant_does_not_fit, init_is_not_constant, is_second_init, is_second_next, justice_is_empty}
use Rattle.base.specs.Decimals.{is_decimal, capped_value, number_of}
use Rattle.witness.specs.Readings.{next_line, reading}
use Rattle.witness.specs.Admits.{AtEnd, claims_at, value_of, assignment_at, state_assignment_at, admit}
use Rattle.witness.specs.Worked.{rises, given_zero}
use Rattle.witness.proofs.laws.worked_witnesses.Goals as goal

pub returns : goal.returns
unfolding digits reading next_line admit claims_at assignment_at state_assignment_at value_of number_of capped_value is_decimal refusal id_is_out_of_range id_is_taken sort_is_missing operand_is_missing state_is_none width_is_out_of_range slice_is_out_of_range widths_differ constant_does_not_fit init_is_not_constant is_second_init is_second_next justice_is_empty
returns c =
    record {
      read = (record { place = AtEnd; claims = 0 ∷ []; closed = rises.frames; states = None; open_part = [] }, (refl, refl));
      said = record {
        comments = codes "; note" ∷ [];
        lines = All-from_recursion IsLine (codes "; note" ∷ []) (refl, tt);
        marked = All-from_recursion (λ line. is_comment line ≡ true) (codes "; note" ∷ []) (refl, tt);
        whole = refl;
        valid =
            record {
              some_claim = λ e. cc;
              claims = All-from_recursion (λ i. i < 1) (0 ∷ []) (lit< tt, tt);
              distinct = refl;
              frames = (
                record {
                  states =
                      record {
                        each = All-from_recursion (IsAssignment (1 ∷ [])) (record { index = 0; word = 0; symbol = Some (codes "t") } ∷ []) (record { index = lit< tt; word = lit< tt; symbol = refl }, tt);
                        distinct = refl;
                      };
                  inputs = record { each = All-nil (IsAssignment []); distinct = refl };
                },
                All-from_recursion (AreParts (shape_of toggler_model) (IsFreePart (shape_of toggler_model))) (given_zero ∷ []) (record { states = tt; inputs = record { each = All-nil (IsAssignment []); distinct = refl } }, tt),
              );
            };
        few = lit≤ tt;
      };
      wide_is_model = (refl, (refl, (refl, (refl, (refl, tt)))));
      words = (record { place = AtEnd; claims = 0 ∷ []; closed = record { states = None; inputs = record { index = 0; word = 4; symbol = None } ∷ [] } ∷ given_zero ∷ []; states = None; open_part = [] }, (refl, refl));
    }
