-- The worked rows: what the memory is written out as.
use Rattle.std.proofs.Common.{◌≡◌, ℕ, ◌%◌, ◌^◌, ◌<◌, [], ◌∷◌, ◌++◌, true, false, Option, Some, None, refl, sym, ap, ap₂, subst, ◌∙◌, arith, inl, inr, ⊎_elim}
use Rattle.std.proofs.Math.Nat.{mod-one, mod-eq_of_lt, div-one}
use Rattle.std.proofs.lemmas.Option.{none-some, same_Some}
use Rattle.base.specs.declared.operators.Unary.TheVariants as unary
use Rattle.base.specs.declared.operators.Binary.TheVariants as binary
use Rattle.base.specs.Operator.{unary_value, binary_value, slice_value, concat_value, ite_value}
use Rattle.base.proofs.ValueLaws.{unary_below, ite_below, slice_below}
use Rattle.btor2.specs.declared.item.Item.{Item}
use Rattle.btor2.specs.declared.item.Body.{Body}
use Rattle.btor2.specs.declared.item.Body.TheVariants as body
use Rattle.btor2.specs.Items.{find_item, constant_of}
use Rattle.btor2.specs.Check.{id_is_out_of_range, id_is_taken, sort_is_missing, operand_is_missing, state_is_none, widths_differ, init_is_not_constant, is_second_init, is_second_next, slice_is_out_of_range, justice_is_empty}
use Rattle.btor2.specs.Trace.{Frame, LineHolds, IsFrame}
use Rattle.btor2.specs.Worked.{line}
use Rattle.wide.specs.WideModels.{greatest_width, wide_refusal, width_is_above, constant_is_above, IsWideModel}
use Rattle.full.specs.Lines.{plain}
use Rattle.full.specs.Cells.{read_value, write_value}
use Rattle.full.specs.WrittenOut.{InFrames, StateIsWritten, IsAsItIs, IsByFirstWord, HasFirstWord, IsChoice, IsFirstAlone, IsWrittenOut}
use Rattle.full.specs.Worked.{memory, memory_written, memory_written_by, memory_places}
use Rattle.full.proofs.CellLemmas.{one_cell, one_cell_written}
use Rattle.full.proofs.HalfLemmas.{read_by_halves, write_by_halves}
use Rattle.full.proofs.WideLemmas.{line_found}
use Rattle.full.specs.Gives.{GivesWord}
use Rattle.full.proofs.GivesLemmas.{line_gives}
use Rattle.full.proofs.WorkedLemmas.{memory_is_model}
use Rattle.full.proofs.AcceptLemmas.{accepted_by}

-- ---- it is a model

written_is_model : IsWideModel greatest_width memory_written
unfolding wide_refusal width_is_above constant_is_above id_is_out_of_range id_is_taken sort_is_missing operand_is_missing state_is_none slice_is_out_of_range widths_differ init_is_not_constant is_second_init is_second_next justice_is_empty
written_is_model = accepted_by [] memory_written refl

-- ---- words in its frames

-- what the leaves have fits
record LeavesFit (g : Frame) : Type 0 where
  cell : g 4 < 2 ^ 1
  word : g 5 < 2 ^ 2
  held : g 6 < 2 ^ 4
  state : g 7 < 2 ^ 2

found : (state input g : Frame) (id : ℕ) (b : Body) → IsFrame memory_written state input g → find_item memory_written id ≡ Some (line id b) → LineHolds memory_written state input g id b
found state input g id b frame e = line_found memory_written state input g id (line id b) e frame

leaves_fit : InFrames memory_written LeavesFit
leaves_fit state input g states inputs frame =
    let four : g 4 ≡ input 4 = found state input g 4 (body.Input 1) frame refl in
    let five : g 5 ≡ input 5 = found state input g 5 (body.Input 2) frame refl in
    let six : g 6 ≡ state 6 = found state input g 6 (body.State 3) frame refl in
    let seven : g 7 ≡ input 7 = found state input g 7 (body.State 2) frame refl in
    record {
      cell = omega (arith, four, inputs.1.1.1.0);
      word = omega (arith, five, inputs.1.1.1.1.0);
      held = omega (arith, six, states.1.1.1.1.1.0 refl);
      state = omega (arith, seven, inputs.1.1.1.1.1.1.0 refl);
    }

-- ---- two cells

index_bit : (i : ℕ) → i < 2 ^ 1 → slice_value i 0 0 ≡ i
index_bit i h = ap (λ (w : ℕ). w % 2 ^ 1) (div-one i) ∙ mod-eq_of_lt h

high_cell : (a : ℕ) → slice_value a 3 2 < 2 ^ 2
high_cell a = slice_below a 3 2

low_cell : (a : ℕ) → slice_value a 1 0 < 2 ^ 2
low_cell a = slice_below a 1 0

two_cells_read : (a i : ℕ) → i < 2 ^ 1 → a < 2 ^ 4 → read_value 2 a i ≡ ite_value i (slice_value a 3 2) (slice_value a 1 0)
two_cells_read a i inside fits =
    read_by_halves 0 2 a i (omega arith) inside fits
    ∙ ap₂ (λ (t r : ℕ). ite_value t (read_value 2 (slice_value a 3 2) r) (read_value 2 (slice_value a 1 0) r)) (index_bit i inside) (mod-one i)
    ∙ ap₂ (λ (x y : ℕ). ite_value i x y) (one_cell 2 (slice_value a 3 2) (high_cell a)) (one_cell 2 (slice_value a 1 0) (low_cell a))

two_cells_written : (a i v : ℕ) → i < 2 ^ 1 → a < 2 ^ 4 → write_value 2 a i v ≡ concat_value (ite_value i v (slice_value a 3 2)) 2 (ite_value i (slice_value a 1 0) v)
two_cells_written a i v inside fits =
    write_by_halves 0 2 a i v (omega arith) inside fits
    ∙ ap₂ (λ (t r : ℕ). concat_value (ite_value t (write_value 2 (slice_value a 3 2) r v) (slice_value a 3 2)) 2 (ite_value t (slice_value a 1 0) (write_value 2 (slice_value a 1 0) r v))) (index_bit i inside) (mod-one i)
    ∙ ap₂ (λ (x y : ℕ). concat_value (ite_value i x (slice_value a 3 2)) 2 (ite_value i (slice_value a 1 0) y)) (one_cell_written 2 (slice_value a 3 2) v (high_cell a)) (one_cell_written 2 (slice_value a 1 0) v (low_cell a))

-- ---- lines that are carried

write_is_carried : InFrames memory_written (λ g. g 18 ≡ write_value 2 (g 6) (g 4) (g 5))
write_is_carried state input g states inputs frame =
    let leaves = leaves_fit state input g states inputs frame in
    let high : g 14 ≡ slice_value (g 6) 3 2 = found state input g 14 (body.Slice 2 6 3 2) frame refl in
    let low : g 15 ≡ slice_value (g 6) 1 0 = found state input g 15 (body.Slice 2 6 1 0) frame refl in
    let high_new : g 16 ≡ ite_value (g 4) (g 5) (g 14) = found state input g 16 (body.Ite 2 4 5 14) frame refl in
    let low_new : g 17 ≡ ite_value (g 4) (g 15) (g 5) = found state input g 17 (body.Ite 2 4 15 5) frame refl in
    let whole : g 18 ≡ concat_value (g 16) 2 (g 17) = found state input g 18 (body.Concat 3 16 17) frame refl in
    whole
    ∙ ap₂ (λ (x y : ℕ). concat_value x 2 y) (high_new ∙ ap (λ (w : ℕ). ite_value (g 4) (g 5) w) high) (low_new ∙ ap (λ (w : ℕ). ite_value (g 4) w (g 5)) low)
    ∙ sym (two_cells_written (g 6) (g 4) (g 5) leaves.cell leaves.held)

state_is_carried : InFrames memory_written (λ g. g 13 < 2 ^ 2)
state_is_carried state input g states inputs frame =
    let leaves = leaves_fit state input g states inputs frame in
    let choice : g 13 ≡ ite_value (g 8) (g 5) (g 7) = found state input g 13 (body.Ite 2 8 5 7) frame refl in
    subst (λ (w : ℕ). w < 2 ^ 2) (sym choice) (ite_below 2 (g 8) (g 5) (g 7) leaves.word leaves.state)

read_is_carried : InFrames memory_written (λ g. g 21 ≡ read_value 2 (g 6) (unary_value unary.Not 1 (g 4)))
read_is_carried state input g states inputs frame =
    let leaves = leaves_fit state input g states inputs frame in
    let high : g 14 ≡ slice_value (g 6) 3 2 = found state input g 14 (body.Slice 2 6 3 2) frame refl in
    let low : g 15 ≡ slice_value (g 6) 1 0 = found state input g 15 (body.Slice 2 6 1 0) frame refl in
    let other : g 20 ≡ unary_value unary.Not 1 (g 4) = found state input g 20 (body.Unary unary.Not 1 4) frame refl in
    let cell : g 21 ≡ ite_value (g 20) (g 14) (g 15) = found state input g 21 (body.Ite 2 20 14 15) frame refl in
    cell ∙ ap (λ (i : ℕ). ite_value i (g 14) (g 15)) other ∙ ap₂ (λ (x y : ℕ). ite_value (unary_value unary.Not 1 (g 4)) x y) high low
    ∙ sym (two_cells_read (g 6) (unary_value unary.Not 1 (g 4)) (unary_below unary.Not 1 (g 4) (omega arith) leaves.cell) leaves.held)

eq_is_carried : InFrames memory_written (λ g. g 22 ≡ binary_value binary.Eq 2 (g 21) (g 13))
eq_is_carried state input g states inputs frame = found state input g 22 (body.Binary binary.Eq 1 21 13) frame refl

-- ---- where its parts stand

held_is_written : StateIsWritten memory memory_places memory_written 6
held_is_written = record { state = refl; bits = refl; own = refl; other = refl; no_init = λ e. (refl, refl); no_next = λ e. absurd (none-some (plain 7) (sym e)) }

state_is_written : StateIsWritten memory memory_places memory_written 9
state_is_written = record { state = refl; bits = refl; own = refl; other = refl; no_init = λ e. absurd (none-some (plain 5) (sym e)); no_next = λ e. refl }

first_word_is : HasFirstWord memory memory_places memory_written 9 (plain 5) 5
first_word_is state input g states inputs frame = refl

by_first_word : IsByFirstWord memory memory_places memory_written 9 (plain 5)
by_first_word = record { first = 8; sort = 2; value = 5; is_first = refl; chooses = (line 13 (body.Ite 2 8 5 7), refl, refl); word = first_word_is; begins_open = refl }

the_choice : IsChoice memory memory_places memory_written 5 7
the_choice = (9, plain 5, refl, refl, refl, first_word_is)

first_is : IsFirstAlone memory memory_places memory_written 8
first_is = record {
  state = (1, (line 8 (body.State 1), refl, refl));
  bit = refl;
  begins = refl;
  next = (10, refl, refl);
  only = ((λ e. tt), ((λ e. tt), ((λ e. tt), ((λ e. tt), ((λ e. tt), ((λ e. tt), ((λ e. tt), ((λ e. tt), ((λ e. tt), ((λ e. tt), ((λ e. absurd (cc)), ((λ e. absurd (cc)), ((refl, refl, λ e. the_choice), ((λ e. (refl, tt)), ((λ e. (refl, tt)), ((refl, refl, λ e. absurd (cc)), ((refl, refl, λ e. absurd (cc)), ((λ e. (refl, (refl, tt))), ((λ e. absurd (cc)), ((λ e. (refl, tt)), ((refl, refl, λ e. absurd (cc)), ((λ e. (refl, (refl, tt))), ((λ e. absurd (cc)), tt)))))))))))))))))))))));
}

pub memory_is_written : IsWrittenOut memory memory_places memory_written
memory_is_written = record {
  agrees = memory_is_model;
  well_formed = written_is_model;
  lines = ((λ state input g states inputs frame. tt), ((λ state input g states inputs frame. tt), ((λ state input g states inputs frame. tt), ((λ state input g states inputs frame. (leaves_fit state input g states inputs frame).cell), ((λ state input g states inputs frame. (leaves_fit state input g states inputs frame).word), ((λ state input g states inputs frame. (leaves_fit state input g states inputs frame).held), (write_is_carried, ((λ state input g states inputs frame. tt), (state_is_carried, ((λ state input g states inputs frame. tt), (read_is_carried, (eq_is_carried, ((λ state input g states inputs frame. tt), tt)))))))))))));
  inputs = refl;
  states = refl;
  leaves = (tt, (tt, (tt, (((1, (line 4 (body.Input 1), refl, refl)), refl, refl), (((2, (line 5 (body.Input 2), refl, refl)), refl, refl), (held_is_written, (tt, (tt, (state_is_written, (tt, (tt, (tt, (tt, tt)))))))))))));
  no_others = (tt, (tt, (tt, (tt, (tt, (inr (refl, refl), (inr (refl, refl), (inl refl, (tt, (tt, (tt, (tt, (tt, (tt, (tt, (tt, (tt, (tt, (tt, (tt, (tt, (tt, (tt, tt)))))))))))))))))))))));
  first = first_is;
  inits = (tt, (tt, (tt, (tt, (tt, (tt, (tt, (tt, (tt, (inr by_first_word, (tt, (tt, (tt, tt)))))))))))));
  nexts = (tt, (tt, (tt, (tt, (tt, (tt, (tt, ((18, refl, λ state input g states inputs frame. refl), (tt, (tt, (tt, (tt, (tt, tt)))))))))))));
  bads = ((λ state input g states inputs frame. refl), tt);
  constraints = tt;
  outputs = tt;
}

-- ---- what it is not written out as

item_id : Option ℕ → ℕ
item_id None = 0
item_id (Some w) = w

third : Body → ℕ
third (body.Ite s c v w) = w
third _ = 0

-- with the words of the choice exchanged
pub exchanged : IsWrittenOut memory memory_places (memory_written_by (body.Ite 2 8 7 5) (body.Next 1 8 10)) → ⊥
unfolding third
exchanged h =
    ⊎_elim (λ (same : IsAsItIs memory memory_places (memory_written_by (body.Ite 2 8 7 5) (body.Next 1 8 10)) 9 (plain 5)). let e : 13 ≡ 7 = same.same in omega (arith, e))
    (λ (choice : IsByFirstWord memory memory_places (memory_written_by (body.Ite 2 8 7 5) (body.Next 1 8 10)) 9 (plain 5)).
    let e : third (body.Ite 2 8 7 5) ≡ 7 = ap third (ap (λ (x : Item). x.body) (same_Some (line 13 (body.Ite 2 8 7 5)) choice.chooses.0 choice.chooses.1) ∙ choice.chooses.2) in absurd (cc))
    h.inits.1.1.1.1.1.1.1.1.1.0

-- where the state that is 1 in the first frame keeps its word
pub kept : IsWrittenOut memory memory_places (memory_written_by (body.Ite 2 8 5 7) (body.Next 1 8 9)) → ⊥
unfolding item_id
kept h =
    let is : 9 ≡ h.first.next.0 = ap item_id h.first.next.1 in
    let e : 1 ≡ 0 = ap item_id (subst (λ (w : ℕ). constant_of (memory_written_by (body.Ite 2 8 5 7) (body.Next 1 8 9)) w ≡ Some 0) (sym is) h.first.next.2) in
    omega (arith, e)

-- where another line names that state
pub named_again : IsWrittenOut memory memory_places (memory_written ++ line 24 (body.Unary unary.Not 1 8) ∷ []) → ⊥
named_again h = let e : true ≡ false = (h.first.only.1.1.1.1.1.1.1.1.1.1.1.1.1.1.1.1.1.1.1.1.1.1.1.0 refl).0 in absurd (cc)

-- where there is none
pub without_first : IsWrittenOut memory (record memory_places { first = None }) memory_written → ⊥
without_first h =
    ⊎_elim (λ (same : IsAsItIs memory (record memory_places { first = None }) memory_written 9 (plain 5)). let e : 13 ≡ 7 = same.same in omega (arith, e))
    (λ (choice : IsByFirstWord memory (record memory_places { first = None }) memory_written 9 (plain 5)). absurd (none-some choice.first choice.is_first)) h.inits.1.1.1.1.1.1.1.1.1.0

-- ---- what its nodes give

pub choice_gives : GivesWord memory_written 2 (λ g. ite_value (g 8) (g 5) (g 7)) 13
choice_gives = line_gives memory_written (line 13 (body.Ite 2 8 5 7)) 2 refl refl refl refl refl (refl, (refl, (refl, tt)))

pub choice_is_no_wider : GivesWord memory_written 3 (λ g. g 13) 13 → ⊥
unfolding item_id
choice_is_no_wider h = let e : 2 ≡ 3 = ap item_id h.width in omega (arith, e)
