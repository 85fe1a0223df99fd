-- The worked rows: sums of 128 bits by pieces of 64.
use Rattle.std.proofs.Common.{◌≡◌, ℕ, ◌-◌, ◌^◌, Bool, true, false, cond, ◌&&◌, nat_eq, List, [], ◌∷◌, ◌++◌, Option, Some, None, is_none, refl, sym, ap, ap₂, ◌∙◌, arith}
use Rattle.std.proofs.lemmas.Bool.{and_parts}
use Rattle.base.specs.declared.operators.Binary.TheVariants as binary
use Rattle.base.specs.Operator.{binary_value, concat_value, slice_value}
use Rattle.btor2.specs.declared.item.Item.{Item}
use Rattle.btor2.specs.declared.item.Body.TheVariants as body
use Rattle.btor2.specs.declared.fault.PushFault.{PushFault}
use Rattle.btor2.specs.Check.{IsWellFormed, IsWellFormedAfter, refusal, id_is_out_of_range, id_is_taken, sort_is_missing, operand_is_missing, state_is_none, width_is_out_of_range, widths_differ, init_is_not_constant, is_second_init, is_second_next, slice_is_out_of_range, constant_does_not_fit, justice_is_empty}
use Rattle.btor2.specs.Trace.{Frame, line_word, IsInput, IsState}
use Rattle.btor2.specs.Worked.{line}
use Rattle.btor2.proofs.TraceLemmas.{words_fit_frame}
use Rattle.wide.specs.WideModels.{greatest_width}
use Rattle.full.proofs.PlainLaw.{profile_is_wide}
use Rattle.full.proofs.WideLemmas.{wide_frame_exists}
use Rattle.fit.specs.Fitting.{Layout, NamesEarlierAfter, Carries, IsFittingOf}
use Rattle.fit.specs.Worked.{wide_adder, narrow_adder, adder_without_carry, without, adder_layout}
use Rattle.fit.proofs.FrameLemmas.{state_from_ids, input_from_ids}
use Rattle.fit.proofs.LineLemmas.{next_by_pieces, outputs_by_pieces, line_found, carries_input, carries_state, carries_no_word}
use Rattle.fit.proofs.WordLemmas.{alone, sum_by_carry, slice_high}

-- ---- what computing says of a list

are_accepted : List Item → List Item → Bool
are_accepted before [] = true
are_accepted before (x ∷ xs) = is_none (refusal before x) && are_accepted (before ++ x ∷ []) xs

none_from : (o : Option PushFault) → is_none o ≡ true → o ≡ None
none_from None h = refl
none_from (Some e) h = absurd (cc)

well_formed_by : (before rest : List Item) → are_accepted before rest ≡ true → IsWellFormedAfter before rest
unfolding are_accepted
well_formed_by before [] h = tt
well_formed_by before (x ∷ xs) h = let parts = and_parts (is_none (refusal before x)) _ h in (none_from (refusal before x) parts.0, well_formed_by (before ++ x ∷ []) xs parts.1)

narrow_is_model : IsWellFormed narrow_adder
unfolding are_accepted refusal id_is_out_of_range id_is_taken sort_is_missing operand_is_missing state_is_none width_is_out_of_range slice_is_out_of_range widths_differ constant_does_not_fit init_is_not_constant is_second_init is_second_next justice_is_empty
narrow_is_model = well_formed_by [] narrow_adder refl

wide_is_ordered : NamesEarlierAfter [] wide_adder
unfolding operand_is_missing
wide_is_ordered = (refl, (refl, (refl, (refl, (refl, (refl, (refl, (refl, (refl, (refl, (refl, (refl, tt))))))))))))

abbrev layout : Layout
layout = adder_layout (10 ∷ 14 ∷ [])

-- ---- lines that are carried

-- a word of two pieces of 64 bits
pair : (high low : ℕ) → concat_value (concat_value 0 64 high) 64 low ≡ concat_value high 64 low
pair high low = ap (λ (k : ℕ). concat_value k 64 low) (alone 64 high)

-- a line that gives no word
none : (x : Item) → ((state input f : Frame) → line_word wide_adder state input f x.id x.body ≡ None) → Carries wide_adder layout narrow_adder x
none x e = carries_no_word wide_adder narrow_adder layout x e

carries_states : Carries wide_adder layout narrow_adder (line 4 (body.State 1))
carries_states = carries_state wide_adder narrow_adder layout (line 4 (body.State 1)) refl ((refl, refl), ((refl, refl), tt))

carries_inputs : Carries wide_adder layout narrow_adder (line 6 (body.Input 1))
carries_inputs = carries_input wide_adder narrow_adder layout (line 6 (body.Input 1)) refl ((line 8 (body.Input 1), refl, refl), ((line 9 (body.Input 1), refl, refl), tt))

carries_zero : Carries wide_adder layout narrow_adder (line 3 (body.Zero 1))
carries_zero state input g states inputs frame =
    let zero_line : g 3 ≡ 0 = line_found narrow_adder state input g 3 (line 3 (body.Zero 1)) frame refl in
    ap (λ (k : ℕ). concat_value (concat_value 0 64 k) 64 k) zero_line

carries_sum : Carries wide_adder layout narrow_adder (line 7 (body.Binary binary.Add 1 4 6))
carries_sum state input g states inputs frame =
    let low : g 10 ≡ binary_value binary.Add 64 (g 4) (g 8) = line_found narrow_adder state input g 10 (line 10 (body.Binary binary.Add 1 4 8)) frame refl in
    let carry : g 11 ≡ binary_value binary.Ult 64 (g 10) (g 4) = line_found narrow_adder state input g 11 (line 11 (body.Binary binary.Ult 2 10 4)) frame refl in
    let wide : g 12 ≡ g 11 = line_found narrow_adder state input g 12 (line 12 (body.Uext 1 11 63)) frame refl in
    let sum : g 13 ≡ binary_value binary.Add 64 (g 6) (g 9) = line_found narrow_adder state input g 13 (line 13 (body.Binary binary.Add 1 6 9)) frame refl in
    let high : g 14 ≡ binary_value binary.Add 64 (g 13) (g 12) = line_found narrow_adder state input g 14 (line 14 (body.Binary binary.Add 1 13 12)) frame refl in
    let fits = words_fit_frame narrow_adder state input g narrow_is_model states inputs frame in
    pair (g 14) (g 10)
    ∙ sum_by_carry 64 64 (g 6) (g 9) (g 4) (g 8) (g 10) (g 12) (g 13) (g 14) (fits 4 refl) (fits 8 refl) low (wide ∙ carry) sum high
    ∙ ap₂ (λ (i j : ℕ). binary_value binary.Add 128 i j) (sym (pair (g 6) (g 4))) (sym (pair (g 9) (g 8)))

carries_top : Carries wide_adder layout narrow_adder (line 9 (body.Slice 2 4 127 127))
carries_top state input g states inputs frame =
    let top : g 15 ≡ slice_value (g 6) 63 63 = line_found narrow_adder state input g 15 (line 15 (body.Slice 2 6 63 63)) frame refl in
    let fits = words_fit_frame narrow_adder state input g narrow_is_model states inputs frame in
    alone 1 (g 15) ∙ top ∙ sym (slice_high 64 (g 6) (g 4) 127 127 (fits 4 refl) (omega arith) (omega arith)) ∙ ap (λ (k : ℕ). slice_value k 127 127) (sym (pair (g 6) (g 4)))

-- ---- the rows

pub fits : IsFittingOf wide_adder layout narrow_adder
fits =
    record {
      ordered = wide_is_ordered;
      well_formed = profile_is_wide narrow_adder narrow_is_model;
      given = refl;
      carried = refl;
      given_widths = (refl, tt);
      carried_widths = (refl, tt);
      lines = (none (line 1 (body.Sort 128)) (λ state input f. refl), (none (line 2 (body.Sort 1)) (λ state input f. refl), (carries_zero, (carries_states, (none (line 5 (body.Init 1 4 3)) (λ state input f. refl), (carries_inputs, (carries_sum, (none (line 8 (body.Next 1 4 7)) (λ state input f. refl), (carries_top, (none (line 10 (body.Bad 9)) (λ state input f. refl), (none (line 11 (body.Constraint 9)) (λ state input f. refl), (none (line 12 (body.Output 7)) (λ state input f. refl), tt))))))))))));
      inits = (tt, (tt, (tt, (tt, (((refl, (refl, tt)), refl), (tt, (tt, (tt, (tt, (tt, (tt, (tt, tt))))))))))));
      no_other_inits = (λ e. absurd (cc), tt);
      nexts = (next_by_pieces wide_adder narrow_adder layout 4 refl, tt);
      outputs = outputs_by_pieces wide_adder narrow_adder layout refl;
      bads = refl;
      constraints = refl;
    }

pub no_init : IsFittingOf wide_adder layout (without 7 narrow_adder) → ⊥
no_init h = let e : false ≡ true = h.inits.1.1.1.1.0.0.1.0 in absurd (cc)

length_of : List (List ℕ) → ℕ
length_of [] = 0
length_of (x ∷ xs) = 1

pub no_constraint : IsFittingOf wide_adder layout (without 19 narrow_adder) → ⊥
unfolding length_of
no_constraint h = let e : 1 ≡ 0 = ap length_of h.constraints in omega (arith, e)

-- from the greatest word in the low piece, where 1 is added to it, the carry is missed
greatest : Frame
greatest id = cond (nat_eq id 4) (2 ^ 64 - 1) 0

one : Frame
one id = cond (nat_eq id 8) 1 0

pub no_carry : IsFittingOf wide_adder layout adder_without_carry → ⊥
unfolding greatest one
no_carry h =
    let found = wide_frame_exists greatest_width adder_without_carry greatest one h.well_formed in
    let g : Frame = found.0 in
    let frame = found.1 in
    let state : IsState adder_without_carry greatest = state_from_ids adder_without_carry greatest (omega arith, (omega arith, tt)) in
    let input : IsInput adder_without_carry one = input_from_ids adder_without_carry one (omega arith, (omega arith, tt)) in
    let low : g 4 ≡ 2 ^ 64 - 1 = line_found adder_without_carry greatest one g 4 (line 4 (body.State 1)) frame refl in
    let high : g 6 ≡ 0 = line_found adder_without_carry greatest one g 6 (line 6 (body.State 1)) frame refl in
    let by : g 8 ≡ 1 = line_found adder_without_carry greatest one g 8 (line 8 (body.Input 1)) frame refl in
    let none : g 9 ≡ 0 = line_found adder_without_carry greatest one g 9 (line 9 (body.Input 1)) frame refl in
    let sum : g 10 ≡ binary_value binary.Add 64 (g 4) (g 8) = line_found adder_without_carry greatest one g 10 (line 10 (body.Binary binary.Add 1 4 8)) frame refl in
    let above : g 13 ≡ binary_value binary.Add 64 (g 6) (g 9) = line_found adder_without_carry greatest one g 13 (line 13 (body.Binary binary.Add 1 6 9)) frame refl in
    let top : g 14 ≡ g 13 = line_found adder_without_carry greatest one g 14 (line 14 (body.Uext 1 13 0)) frame refl in
    let zero_low : g 10 ≡ 0 = sum ∙ ap₂ (λ (i j : ℕ). binary_value binary.Add 64 i j) low by in
    let zero_high : g 14 ≡ 0 = top ∙ above ∙ ap₂ (λ (i j : ℕ). binary_value binary.Add 64 i j) high none in
    let carried : concat_value (concat_value 0 64 (g 14)) 64 (g 10) ≡ binary_value binary.Add 128 (concat_value (concat_value 0 64 (g 6)) 64 (g 4)) (concat_value (concat_value 0 64 (g 9)) 64 (g 8)) =
    h.lines.1.1.1.1.1.1.0 greatest one g state input frame in
    let made : concat_value (concat_value 0 64 (g 14)) 64 (g 10) ≡ 0 = ap₂ (λ (i j : ℕ). concat_value (concat_value 0 64 i) 64 j) zero_high zero_low in
    let words : binary_value binary.Add 128 (concat_value (concat_value 0 64 (g 6)) 64 (g 4)) (concat_value (concat_value 0 64 (g 9)) 64 (g 8)) ≡ 2 ^ 64 =
    ap₂ (λ (i j : ℕ). binary_value binary.Add 128 (concat_value (concat_value 0 64 i) 64 j) (concat_value (concat_value 0 64 (g 9)) 64 (g 8))) high low
    ∙ ap₂ (λ (i j : ℕ). binary_value binary.Add 128 (concat_value (concat_value 0 64 0) 64 (2 ^ 64 - 1)) (concat_value (concat_value 0 64 i) 64 j)) none by in
    omega (arith, sym made ∙ carried ∙ words)

-- from words of 0, to which 1 is added, the high piece would be 1
nothing : Frame
nothing id = 0

pub exchanged : IsFittingOf wide_adder (adder_layout (14 ∷ 10 ∷ [])) narrow_adder → ⊥
unfolding nothing one
exchanged h =
    let found = wide_frame_exists greatest_width narrow_adder nothing one h.well_formed in
    let g : Frame = found.0 in
    let frame = found.1 in
    let state : IsState narrow_adder nothing = state_from_ids narrow_adder nothing (omega arith, (omega arith, tt)) in
    let input : IsInput narrow_adder one = input_from_ids narrow_adder one (omega arith, (omega arith, tt)) in
    let low : g 4 ≡ 0 = line_found narrow_adder nothing one g 4 (line 4 (body.State 1)) frame refl in
    let high : g 6 ≡ 0 = line_found narrow_adder nothing one g 6 (line 6 (body.State 1)) frame refl in
    let by : g 8 ≡ 1 = line_found narrow_adder nothing one g 8 (line 8 (body.Input 1)) frame refl in
    let none : g 9 ≡ 0 = line_found narrow_adder nothing one g 9 (line 9 (body.Input 1)) frame refl in
    let sum : g 10 ≡ binary_value binary.Add 64 (g 4) (g 8) = line_found narrow_adder nothing one g 10 (line 10 (body.Binary binary.Add 1 4 8)) frame refl in
    let carry : g 11 ≡ binary_value binary.Ult 64 (g 10) (g 4) = line_found narrow_adder nothing one g 11 (line 11 (body.Binary binary.Ult 2 10 4)) frame refl in
    let wide : g 12 ≡ g 11 = line_found narrow_adder nothing one g 12 (line 12 (body.Uext 1 11 63)) frame refl in
    let above : g 13 ≡ binary_value binary.Add 64 (g 6) (g 9) = line_found narrow_adder nothing one g 13 (line 13 (body.Binary binary.Add 1 6 9)) frame refl in
    let top : g 14 ≡ binary_value binary.Add 64 (g 13) (g 12) = line_found narrow_adder nothing one g 14 (line 14 (body.Binary binary.Add 1 13 12)) frame refl in
    let one_low : g 10 ≡ 1 = sum ∙ ap₂ (λ (i j : ℕ). binary_value binary.Add 64 i j) low by in
    let no_carry : g 12 ≡ 0 = wide ∙ carry ∙ ap₂ (λ (i j : ℕ). binary_value binary.Ult 64 i j) one_low low in
    let nil : g 13 ≡ 0 = above ∙ ap₂ (λ (i j : ℕ). binary_value binary.Add 64 i j) high none in
    let zero_high : g 14 ≡ 0 = top ∙ ap₂ (λ (i j : ℕ). binary_value binary.Add 64 i j) nil no_carry in
    let carried : concat_value (concat_value 0 64 (g 10)) 64 (g 14) ≡ binary_value binary.Add 128 (concat_value (concat_value 0 64 (g 6)) 64 (g 4)) (concat_value (concat_value 0 64 (g 9)) 64 (g 8)) =
    h.lines.1.1.1.1.1.1.0 nothing one g state input frame in
    let made : concat_value (concat_value 0 64 (g 10)) 64 (g 14) ≡ 2 ^ 64 = ap₂ (λ (i j : ℕ). concat_value (concat_value 0 64 i) 64 j) one_low zero_high in
    let words : binary_value binary.Add 128 (concat_value (concat_value 0 64 (g 6)) 64 (g 4)) (concat_value (concat_value 0 64 (g 9)) 64 (g 8)) ≡ 1 =
    ap₂ (λ (i j : ℕ). binary_value binary.Add 128 (concat_value (concat_value 0 64 i) 64 j) (concat_value (concat_value 0 64 (g 9)) 64 (g 8))) high low
    ∙ ap₂ (λ (i j : ℕ). binary_value binary.Add 128 (concat_value (concat_value 0 64 0) 64 0) (concat_value (concat_value 0 64 i) 64 j)) none by in
    omega (arith, sym made ∙ carried ∙ words)
