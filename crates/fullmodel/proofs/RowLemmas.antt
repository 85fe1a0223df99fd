-- What rows that none of applies say of a line.
use Rattle.std.proofs.Common.{◌≡◌, ℕ, ◌*◌, ◌^◌, ◌≤◌, Bool, true, false, cond, not, ◌&&◌, ◌||◌, nat_le, nat_eq, List, [], ◌∷◌, ◌++◌, Option, Some, None, Result, Ok, Err, is_some, is_none, refl, sym, ap, subst, ◌∙◌, append_assoc, append-nil}
use Rattle.std.specs.List.{list_all}
use Rattle.std.proofs.lemmas.Option.{none-some, same_Some}
use Rattle.btor2.specs.declared.item.Body.{Body}
use Rattle.btor2.specs.declared.item.Body.TheVariants as body
use Rattle.full.specs.Lines.{Says, form, FullLine, find_line, is_form}
use Rattle.fullmodel.specs.declared.fault.LineFault.{LineFault}
use Rattle.fullmodel.specs.FullModels.{id_is_out_of_range, id_is_taken, sort_is_missing, operand_is_missing, state_is_none, state_has_minus, minus_is_at_array, width_is_out_of_range, is_no_array_sort, slice_is_out_of_range, sorts_differ, constant_does_not_fit, is_second_init, is_second_next, first_fault, id_rows, said_rows, line_table, line_refusal, IsAcceptedAfter, IsAccepted}

-- each row's test is false
abbrev pub AllFalse : List (Bool × LineFault) → Type 0
AllFalse [] = Unit {0}
AllFalse (row ∷ rows) = (row.0 ≡ false) × AllFalse rows

all_false : (rows : List (Bool × LineFault)) → first_fault rows ≡ None → AllFalse rows
all_false [] h = tt
all_false (row ∷ rows) h =
    elim row.0 as (λ b. cond b (Some row.1) (first_fault rows) ≡ None → (b ≡ false) × AllFalse rows) [
      | true ↦ λ e. absurd (none-some row.1 (sym e))
      | false ↦ λ e. (refl, all_false rows e)
    ] h

pub none_first : (rows : List (Bool × LineFault)) → AllFalse rows → first_fault rows ≡ None
none_first [] h = refl
none_first (row ∷ rows) h = ap (λ b. cond b (Some row.1) (first_fault rows)) h.0 ∙ none_first rows h.1

first_of : (rows others : List (Bool × LineFault)) (e : LineFault) → first_fault rows ≡ Some e → first_fault (rows ++ others) ≡ Some e
first_of [] others e h = absurd (none-some e h)
first_of (row ∷ rows) others e h =
    elim row.0 as (λ b. cond b (Some row.1) (first_fault rows) ≡ Some e → cond b (Some row.1) (first_fault (rows ++ others)) ≡ Some e) [
      | true ↦ λ k. k
      | false ↦ λ k. first_of rows others e k
    ] h

then_rest : (rows others : List (Bool × LineFault)) → first_fault rows ≡ None → first_fault (rows ++ others) ≡ first_fault others
then_rest [] others h = refl
then_rest (row ∷ rows) others h =
    elim row.0 as (λ b. cond b (Some row.1) (first_fault rows) ≡ None → cond b (Some row.1) (first_fault (rows ++ others)) ≡ first_fault others) [
      | true ↦ λ k. absurd (none-some row.1 (sym k))
      | false ↦ λ k. then_rest rows others k
    ] h

-- the rows of the id come first
pub id_refused : (lines : List FullLine) (x : FullLine) (e : LineFault) → first_fault (id_rows lines x.id) ≡ Some e → line_refusal lines x ≡ Some e
unfolding line_refusal
id_refused lines x e h = first_of (id_rows lines x.id) (said_rows lines x.says) e h

pub id_accepted : (lines : List FullLine) (x : FullLine) → first_fault (id_rows lines x.id) ≡ None → line_refusal lines x ≡ first_fault (said_rows lines x.says)
unfolding line_refusal
id_accepted lines x h = then_rest (id_rows lines x.id) (said_rows lines x.says) h

-- what a line that is not refused passes
pub record Passes (lines : List FullLine) (x : FullLine) : Type 0 where
  pub range : id_is_out_of_range x.id ≡ false
  pub fresh : id_is_taken lines x.id ≡ false
  pub sorts : sort_is_missing lines x.says ≡ false
  pub nodes : operand_is_missing lines x.says ≡ false
  pub state : state_is_none lines x.says ≡ false
  pub plain_state : state_has_minus x.says ≡ false
  pub minuses : minus_is_at_array lines x.says ≡ false
  pub width : width_is_out_of_range x.says ≡ false
  pub arrays : is_no_array_sort lines x.says ≡ false
  pub slice : slice_is_out_of_range lines x.says ≡ false
  pub agrees : sorts_differ lines x.says ≡ false
  pub fits : constant_does_not_fit lines x.says ≡ false
  pub first_init : is_second_init lines x.says ≡ false
  pub first_next : is_second_next lines x.says ≡ false

tests_false : (lines : List FullLine) (x : FullLine) → line_refusal lines x ≡ None → AllFalse (line_table lines x)
unfolding line_refusal
tests_false lines x h = all_false (line_table lines x) h

pub passes : (lines : List FullLine) (x : FullLine) → line_refusal lines x ≡ None → Passes lines x
passes lines x h =
    let rows = tests_false lines x h in
    let said = rows.1.1.1 in
    record {
      range = rows.1.0;
      fresh = rows.1.1.0;
      sorts = said.0;
      nodes = said.1.0;
      state = said.1.1.0;
      plain_state = said.1.1.1.0;
      minuses = said.1.1.1.1.0;
      width = said.1.1.1.1.1.0;
      arrays = said.1.1.1.1.1.1.0;
      slice = said.1.1.1.1.1.1.1.0;
      agrees = said.1.1.1.1.1.1.1.1.0;
      fits = said.1.1.1.1.1.1.1.1.1.0;
      first_init = said.1.1.1.1.1.1.1.1.1.1.0;
      first_next = said.1.1.1.1.1.1.1.1.1.1.1.0;
    }

-- ---- lines among others

after_at : (front before after : List FullLine) (x : FullLine) → IsAcceptedAfter front (before ++ x ∷ after) → line_refusal (front ++ before) x ≡ None
after_at front [] after x h = rw append-nil h.0
after_at front (y ∷ ys) after x h = rw append_assoc at (after_at (front ++ y ∷ []) ys after x h.1)

-- each line of a model is accepted after those before it
pub refusal_at : (before after : List FullLine) (x : FullLine) → IsAccepted (before ++ x ∷ after) → line_refusal before x ≡ None
refusal_at before after x h = after_at [] before after x h

after_push : (front xs : List FullLine) (x : FullLine) → IsAcceptedAfter front xs → line_refusal (front ++ xs) x ≡ None → IsAcceptedAfter front (xs ++ x ∷ [])
after_push front [] x h r = (rw append-nil at r, tt)
after_push front (y ∷ ys) x h r = (h.0, after_push (front ++ y ∷ []) ys x h.1 (rw append_assoc r))

-- a line that is not refused may follow
pub accepted_push : (xs : List FullLine) (x : FullLine) → IsAccepted xs → line_refusal xs x ≡ None → IsAccepted (xs ++ x ∷ [])
accepted_push xs x h r = after_push [] xs x h r

-- a line that is found stands somewhere
pub record StandsIn (lines : List FullLine) (x : FullLine) : Type 0 where
  pub before : List FullLine
  pub after : List FullLine
  pub splits : lines ≡ before ++ x ∷ after

found_in : (b : Bool) (y : FullLine) (ys : List FullLine) (id : ℕ) (x : FullLine) → (find_line ys id ≡ Some x → StandsIn ys x) → cond b (Some y) (find_line ys id) ≡ Some x → StandsIn (y ∷ ys) x
found_in true y ys id x rest h = subst (λ (z : FullLine). StandsIn (y ∷ ys) z) (same_Some y x h) (record { before = []; after = ys; splits = refl })
found_in false y ys id x rest h = let there = rest h in record { before = y ∷ there.before; after = there.after; splits = ap (λ (l : List FullLine). y ∷ l) there.splits }

pub stands_in : (lines : List FullLine) (id : ℕ) (x : FullLine) → find_line lines id ≡ Some x → StandsIn lines x
stands_in [] id x h = absurd (none-some x h)
stands_in (y ∷ ys) id x h = found_in (nat_eq id y.id) y ys id x (stands_in ys id x) h

-- so it passed the rows after the lines before it
pub record Stood (lines : List FullLine) (x : FullLine) : Type 0 where
  pub before : List FullLine
  pub after : List FullLine
  pub splits : lines ≡ before ++ x ∷ after
  pub passed : Passes before x

pub stood : (lines : List FullLine) (id : ℕ) (x : FullLine) → IsAccepted lines → find_line lines id ≡ Some x → Stood lines x
stood lines id x h found =
    let w = stands_in lines id x found in
    record { before = w.before; after = w.after; splits = w.splits; passed = passes w.before x (refusal_at w.before w.after x (subst IsAccepted w.splits h)) }
