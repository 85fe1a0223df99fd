-- The worked rows: an array that begins with one word in each cell.
use Rattle.std.proofs.Common.{◌≡◌, ℕ, ◌-◌, ◌^◌, ◌<◌, true, [], ◌∷◌, Option, Some, None, refl, sym, ap, ◌∙◌, arith, inl, inr, ⊎_elim, pow_pos}
use Rattle.std.proofs.lemmas.Option.{none-some}
use Rattle.base.specs.Operator.{slice_value}
use Rattle.btor2.specs.declared.item.Body.TheVariants as body
use Rattle.btor2.specs.Check.{id_is_out_of_range, id_is_taken, sort_is_missing, operand_is_missing, state_is_none, widths_differ, init_is_not_constant, is_second_init, is_second_next, slice_is_out_of_range, justice_is_empty}
use Rattle.btor2.specs.Trace.{Frame, bits_of}
use Rattle.btor2.specs.Worked.{line}
use Rattle.btor2.proofs.InitLemmas.{fitting_inputs, fitting_states}
use Rattle.wide.specs.WideModels.{greatest_width, wide_refusal, width_is_above, constant_is_above, IsWideModel}
use Rattle.full.specs.Lines.{operand, plain}
use Rattle.full.specs.Cells.{read_value, repeat_value}
use Rattle.full.specs.Agreement.{IsFullModel}
use Rattle.full.specs.Runs.{first_word, IsRun}
use Rattle.full.specs.WrittenOut.{InFrames, read_by, StateIsWritten, IsAsItIs, IsByFirstWord, IsWrittenOut}
use Rattle.full.specs.Worked.{filled, filled_frame, filled_written, filled_places}
use Rattle.full.proofs.HalfLemmas.{cell_is_slice}
use Rattle.full.proofs.WideLemmas.{line_found, wide_frame_exists}
use Rattle.full.proofs.AcceptLemmas.{accepted_by}

pub filled_is_model : IsFullModel filled
filled_is_model = (
  record { fresh = refl; sort = tt; nodes = tt; minuses = tt; agrees = (refl, refl, refl, tt) },
  (
    record { fresh = refl; sort = tt; nodes = tt; minuses = tt; agrees = (refl, refl, refl, tt) },
    (
      record { fresh = refl; sort = tt; nodes = tt; minuses = tt; agrees = (refl, refl) },
      (
        record { fresh = refl; sort = refl; nodes = tt; minuses = tt; agrees = ((refl, tt), refl, refl, tt) },
        (
          record { fresh = refl; sort = refl; nodes = tt; minuses = tt; agrees = (tt, refl, refl, tt) },
          (
            record { fresh = refl; sort = tt; nodes = (refl, (refl, tt)); minuses = ((λ e. absurd (cc)), ((λ e. refl), tt)); agrees = ((refl, inr refl), tt, refl, (refl, refl, refl)) },
            (
              record { fresh = refl; sort = tt; nodes = (refl, (refl, tt)); minuses = ((λ e. absurd (cc)), ((λ e. absurd (cc)), tt)); agrees = ((refl, refl), refl, refl, (refl, refl, refl)) },
              (
                record { fresh = refl; sort = refl; nodes = tt; minuses = tt; agrees = ((refl, tt), refl, refl, tt) },
                (
                  record { fresh = refl; sort = refl; nodes = (refl, (refl, tt)); minuses = ((λ e. absurd (cc)), ((λ e. refl), tt)); agrees = (1, 2, refl, refl, refl) },
                  (record { fresh = refl; sort = tt; nodes = (refl, tt); minuses = ((λ e. refl), tt); agrees = (tt, refl, refl, tt) }, tt),
                ),
              ),
            ),
          ),
        ),
      ),
    ),
  ),
)

pub filled_runs : IsRun filled (filled_frame 5 ∷ filled_frame 5 ∷ [])
filled_runs = (
  ((tt, (tt, (tt, (refl, (omega arith, (tt, (tt, (refl, (refl, (tt, tt)))))))))), ((tt, (tt, (tt, (refl, (omega arith, (tt, (tt, (refl, (refl, (tt, tt)))))))))), tt)),
  (tt, (tt, (tt, (tt, (tt, (refl, (tt, (tt, (tt, (tt, tt)))))))))),
  ((tt, (tt, (tt, (tt, (tt, (tt, (refl, (tt, (tt, (tt, tt)))))))))), tt),
)

pub filled_otherwise : IsRun filled (filled_frame 10 ∷ []) → ⊥
filled_otherwise h = let e : 10 ≡ 5 = h.1.1.1.1.1.1.0 in omega (arith, e)

filled_written_is_model : IsWideModel greatest_width (filled_written 5)
unfolding wide_refusal width_is_above constant_is_above id_is_out_of_range id_is_taken sort_is_missing operand_is_missing state_is_none slice_is_out_of_range widths_differ init_is_not_constant is_second_init is_second_next justice_is_empty
filled_written_is_model = accepted_by [] (filled_written 5) refl

cell_is_carried : InFrames (filled_written 5) (λ g. g 9 ≡ read_value 2 (g 5) (g 10))
cell_is_carried state input g states inputs frame =
    let cell : g 9 ≡ slice_value (g 5) 1 0 = line_found (filled_written 5) state input g 9 (line 9 (body.Slice 2 5 1 0)) refl frame in
    let index : g 10 ≡ 0 = line_found (filled_written 5) state input g 10 (line 10 (body.Zero 1)) refl frame in
    cell ∙ sym (cell_is_slice 2 (g 5) 0 (omega arith)) ∙ ap (λ (i : ℕ). read_value 2 (g 5) i) (sym index)

array_fits : InFrames (filled_written 5) (λ g. g 5 < 2 ^ 4)
array_fits state input g states inputs frame =
    let held : g 5 ≡ state 5 = line_found (filled_written 5) state input g 5 (line 5 (body.State 3)) refl frame in
    omega (arith, held, states.1.1.1.1.0 refl)

two_is : (begin : ℕ) → InFrames (filled_written begin) (λ g. g 4 ≡ 2)
two_is begin state input g states inputs frame = line_found (filled_written begin) state input g 4 (line 4 (body.Const 2 2 2)) refl frame

begins_with : (begin : ℕ) → InFrames (filled_written begin) (λ g. first_word filled (read_by filled_places g) 5 (operand 4 true) ≡ 5)
begins_with begin state input g states inputs frame = ap (λ (w : ℕ). repeat_value 2 (2 ^ 1) (2 ^ 2 - 1 - w)) (two_is begin state input g states inputs frame)

array_is_written : StateIsWritten filled filled_places (filled_written 5) 5
array_is_written = record { state = refl; bits = refl; own = refl; other = tt; no_init = λ e. absurd (none-some (operand 4 true) (sym e)); no_next = λ e. absurd (none-some (plain 5) (sym e)) }

index_is_carried : InFrames (filled_written 5) (λ g. g 10 ≡ 0)
index_is_carried state input g states inputs frame = line_found (filled_written 5) state input g 10 (line 10 (body.Zero 1)) refl frame

as_it_is : IsAsItIs filled filled_places (filled_written 5) 5 (operand 4 true)
as_it_is = record { same = refl; word = 5; begins = refl; constant = begins_with 5; goes_on = refl }

pub filled_is_written : IsWrittenOut filled filled_places (filled_written 5)
filled_is_written = record {
  agrees = filled_is_model;
  well_formed = filled_written_is_model;
  lines = ((λ state input g states inputs frame. tt), ((λ state input g states inputs frame. tt), ((λ state input g states inputs frame. tt), (two_is 5, (array_fits, ((λ state input g states inputs frame. tt), ((λ state input g states inputs frame. tt), (index_is_carried, (cell_is_carried, ((λ state input g states inputs frame. tt), tt))))))))));
  inputs = refl;
  states = refl;
  leaves = (tt, (tt, (tt, (tt, (array_is_written, (tt, (tt, (tt, (tt, (tt, tt))))))))));
  no_others = (tt, (tt, (tt, (tt, (inr (refl, refl), (tt, (tt, (tt, (tt, (tt, (tt, tt)))))))))));
  first = tt;
  inits = (tt, (tt, (tt, (tt, (tt, (inl as_it_is, (tt, (tt, (tt, (tt, tt))))))))));
  nexts = (tt, (tt, (tt, (tt, (tt, (tt, ((5, refl, λ state input g states inputs frame. refl), (tt, (tt, (tt, tt))))))))));
  bads = tt;
  constraints = tt;
  outputs = ((λ state input g states inputs frame. refl), tt);
}

-- ---- with another constant

number : Option ℕ → ℕ
number None = 0
number (Some w) = w

pub other_constant : IsWrittenOut filled filled_places (filled_written 10) → ⊥
unfolding number
other_constant h =
    ⊎_elim
    (λ (same : IsAsItIs filled filled_places (filled_written 10) 5 (operand 4 true)).
    let zero : Frame = λ id. 0 in
    let states = fitting_states (filled_written 10) zero (λ id. pow_pos (bits_of (filled_written 10) id)) (filled_written 10) in
    let inputs = fitting_inputs (filled_written 10) zero (λ id. pow_pos (bits_of (filled_written 10) id)) (filled_written 10) in
    let some = wide_frame_exists greatest_width (filled_written 10) zero zero h.well_formed in
    let ten : 10 ≡ same.word = ap number same.begins in
    let five : 5 ≡ same.word = sym (begins_with 10 zero zero some.0 states inputs some.1) ∙ same.constant zero zero some.0 states inputs some.1 in
    omega (arith, ten, five))
    (λ (choice : IsByFirstWord filled filled_places (filled_written 10) 5 (operand 4 true)). absurd (none-some choice.first choice.is_first)) h.inits.1.1.1.1.1.0
