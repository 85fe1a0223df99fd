-- What is kept of a list that goes on.
use Rattle.std.proofs.Common.{◌≡◌, ℕ, suc, ◌+◌, ◌<◌, ◌≤◌, Bool, true, false, cond, not, ◌&&◌, nat_eq, nat_le, eq-eqb, eqb-true, List, [], ◌∷◌, ◌++◌, drop, length, length-append, Option, Some, None, Result, Ok, Err, is_some, is_none, option_map, option_and_then, unwrap_or, refl, sym, ap, ap₂, subst, ◌∙◌, ◌⊎◌, inl, inr, append_assoc, append-nil, arith}
use Rattle.std.specs.Prelude.{MatchResult, IfOk}
use Rattle.std.specs.Option.{option_or, option_map_or}
use Rattle.std.specs.HashMap.{get}
use Rattle.std.proofs.lemmas.Option.{none-some, same_Some}
use Rattle.std.proofs.lemmas.Bool.{ne_eqb, cases_eq, and_parts, leb-true, not-false}
use Rattle.btor2.specs.declared.item.Item.{Item}
use Rattle.btor2.specs.declared.item.Body.{Body}
use Rattle.btor2.specs.declared.item.Body.TheVariants as body
use Rattle.btor2.specs.declared.fault.PushFault.{PushFault}
use Rattle.btor2.specs.declared.fault.PushFault.TheVariants as fault
use Rattle.btor2.specs.Items.{find_item, node_sort, named_sort, sort_bits, sort_width, width_of_body, init_for, next_for, init_value, next_value}
use Rattle.btor2.specs.Check.{first_row, Refuses, id_is_out_of_range, id_is_taken, sort_is_missing, is_second_init, is_second_next}
use Rattle.btor2.proofs.AppendLemmas.{find_item-append, find_item-after, sort_width-append, some_of, none_of, then_parts}
use Rattle.btor2.proofs.ModelLemmas.{IsIn, IsIn-from_find}
use Rattle.wide.specs.declared.entries.Entry.{Entry}
use Rattle.wide.specs.declared.entries.Entry.TheVariants as entry
use Rattle.std.proofs.lemmas.List.{map-append}
use Rattle.wide.specs.declared.constant.Line.{Line}
use Rattle.wide.specs.declared.constant.Spelling.{Spelling}
use Rattle.wide.specs.declared.constant.Spelling.TheVariants as spelling
use Rattle.wide.specs.Lines.{item_of, items_of, constant_body}
use Rattle.wide.specs.Entries.{entry_by, entry_of, entry_at, digits_sort}
use Rattle.wide.specs.WideModels.{greatest_width, width_is_above, wide_table, wide_id_rows, wide_said_rows, wide_refusal, IsWideAfter, IsWideModel}

-- ---- rows

-- each row's test is false
abbrev pub AllFalse : List (Bool × PushFault) → Type 0
AllFalse [] = Unit {0}
AllFalse (row ∷ rows) = (row.0 ≡ false) × AllFalse rows

all_false : (rows : List (Bool × PushFault)) → first_row rows ≡ None → AllFalse rows
all_false [] h = tt
all_false (row ∷ rows) h =
    elim row.0 as (λ b. cond b (Some row.1) (first_row rows) ≡ None → (b ≡ false) × AllFalse rows) [
      | true ↦ λ e. absurd (none-some row.1 (sym e))
      | false ↦ λ e. (refl, all_false rows e)
    ] h

first_of : (rows others : List (Bool × PushFault)) (e : PushFault) → first_row rows ≡ Some e → first_row (rows ++ others) ≡ Some e
first_of [] others e h = absurd (none-some e h)
first_of (row ∷ rows) others e h =
    elim row.0 as (λ b. cond b (Some row.1) (first_row rows) ≡ Some e → cond b (Some row.1) (first_row (rows ++ others)) ≡ Some e) [
      | true ↦ λ k. k
      | false ↦ λ k. first_of rows others e k
    ] h

then_rest : (rows others : List (Bool × PushFault)) → first_row rows ≡ None → first_row (rows ++ others) ≡ first_row others
then_rest [] others h = refl
then_rest (row ∷ rows) others h =
    elim row.0 as (λ b. cond b (Some row.1) (first_row rows) ≡ None → cond b (Some row.1) (first_row (rows ++ others)) ≡ first_row others) [
      | true ↦ λ k. absurd (none-some row.1 (sym k))
      | false ↦ λ k. then_rest rows others k
    ] h

pub tests_false : (most : ℕ) (items : List Item) (x : Item) → wide_refusal most items x ≡ None → AllFalse (wide_table most items x)
unfolding wide_refusal
tests_false most items x h = all_false (wide_table most items x) h

-- ---- the front of a model

after_at : (most : ℕ) (front before after : List Item) (x : Item) → IsWideAfter most front (before ++ x ∷ after) → wide_refusal most (front ++ before) x ≡ None
after_at most front [] after x h = rw append-nil h.0
after_at most front (y ∷ ys) after x h = rw append_assoc at (after_at most (front ++ y ∷ []) ys after x h.1)

-- each item of a model is accepted after those before it
pub refusal_at : (most : ℕ) (before after : List Item) (x : Item) → IsWideModel most (before ++ x ∷ after) → wide_refusal most before x ≡ None
refusal_at most before after x h = after_at most [] before after x h

after_push : (most : ℕ) (front xs : List Item) (x : Item) → IsWideAfter most front xs → wide_refusal most (front ++ xs) x ≡ None → IsWideAfter most front (xs ++ x ∷ [])
after_push most front [] x h r = (rw append-nil at r, tt)
after_push most front (y ∷ ys) x h r = (h.0, after_push most (front ++ y ∷ []) ys x h.1 (rw append_assoc r))

-- an item that is not refused may follow
pub model_push : (most : ℕ) (xs : List Item) (x : Item) → IsWideModel most xs → wide_refusal most xs x ≡ None → IsWideModel most (xs ++ x ∷ [])
model_push most xs x h r = after_push most [] xs x h r

-- ---- the sorts of nodes are there

there_is : (o : Option ℕ) → is_none o ≡ false → is_some o ≡ true
there_is None h = absurd (cc)
there_is (Some n) h = refl

sort_there : (items : List Item) (b : Body) (s : ℕ) → node_sort b ≡ Some s → sort_is_missing items b ≡ false → is_some (sort_width items s) ≡ true
unfolding sort_is_missing
sort_there items b s names h = there_is (sort_width items s) (ap (λ (o : Option ℕ). option_map_or (λ (k : ℕ). is_none (sort_width items k)) o false) (sym (named b s names)) ∙ h)
  where
    named : (b : Body) (s : ℕ) → node_sort b ≡ Some s → named_sort b ≡ Some s
    named (body.Init t u v) s e = absurd (none-some s e)
    named (body.Next t u v) s e = absurd (none-some s e)
    named b s e = e

abbrev pub HasItsSort : List Item → Body → Type 0
HasItsSort items b = (s : ℕ) → node_sort b ≡ Some s → is_some (sort_width items s) ≡ true

own_sort : (most : ℕ) (items : List Item) (x : Item) → wide_refusal most items x ≡ None → HasItsSort items x.body
own_sort most items x h s names = sort_there items x.body s names (tests_false most items x h).1.1.1.0

sort_on : (items more : List Item) (s : ℕ) → is_some (sort_width items s) ≡ true → sort_width (items ++ more) s ≡ sort_width items s
sort_on items more s h = let there = some_of (sort_width items s) h in sort_width-append items more s there.0 there.1 ∙ sym there.1

has_sort : (most : ℕ) (items : List Item) (y : Item) (id : ℕ) → IsWideModel most items → find_item items id ≡ Some y → HasItsSort items y.body
has_sort most items y id h found s names =
    let w = (IsIn-from_find items id y found).0 in
    let own = own_sort most w.before y (refusal_at most w.before w.after y (subst (IsWideModel most) w.splits h)) s names in
    subst (λ (l : List Item). is_some (sort_width l s) ≡ true) (sym w.splits) (ap (λ (o : Option ℕ). is_some o) (sort_on w.before (y ∷ w.after) s own) ∙ own)

by_stays : (items more : List Item) (kind : ℕ → Entry) (s : ℕ) → is_some (sort_width items s) ≡ true → entry_by kind (sort_width (items ++ more) s) ≡ entry_by kind (sort_width items s)
by_stays items more kind s h = ap (entry_by kind) (sort_on items more s h)

width_stays : (items more : List Item) (o : Option ℕ) → ((s : ℕ) → o ≡ Some s → is_some (sort_width items s) ≡ true) → option_and_then (sort_width (items ++ more)) o ≡ option_and_then (sort_width items) o
width_stays items more None h = refl
width_stays items more (Some s) h = sort_on items more s (h s refl)

-- what an item is to those that name it stays, whatever follows
entry_stays : (items more : List Item) (b : Body) → HasItsSort items b → entry_of (items ++ more) b ≡ entry_of items b
entry_stays items more (body.Sort n) h = refl
entry_stays items more (body.State s) h = by_stays items more (λ n. entry.State n) s (h s refl)
entry_stays items more (body.Zero s) h = by_stays items more (λ n. entry.Constant n) s (h s refl)
entry_stays items more (body.One s) h = by_stays items more (λ n. entry.Constant n) s (h s refl)
entry_stays items more (body.Ones s) h = by_stays items more (λ n. entry.Constant n) s (h s refl)
entry_stays items more (body.Const s d v) h = by_stays items more (λ n. entry.Constant n) s (h s refl)
entry_stays items more (body.Constd s v) h = by_stays items more (λ n. entry.Constant n) s (h s refl)
entry_stays items more (body.Consth s d v) h = by_stays items more (λ n. entry.Constant n) s (h s refl)
entry_stays items more b h = ap (entry_by (λ n. entry.Node n)) (width_stays items more (node_sort b) h)

-- ---- one item more

fresh_id : (items : List Item) (x : Item) → id_is_taken items x ≡ false → find_item items x.id ≡ None
unfolding id_is_taken
fresh_id items x h = none_of (find_item items x.id) h

pub entries_more : (most : ℕ) (items : List Item) (x : Item) (old new : ℕ → Option Entry) → IsWideModel most items → wide_refusal most items x ≡ None → ((id : ℕ) → old id ≡ entry_at items id)
    → ((id : ℕ) → new id ≡ cond (nat_eq id x.id) (Some (entry_of items x.body)) (old id)) → (id : ℕ) → new id ≡ entry_at (items ++ x ∷ []) id
entries_more most items x old new h r before after id = after id ∙ ap (cond (nat_eq id x.id) (Some (entry_of items x.body))) (before id) ∙ by (find_item items id) (nat_eq id x.id) refl refl
  where
    fresh : find_item items x.id ≡ None
    fresh = fresh_id items x (tests_false most items x r).1.1.0

    at_last : (b : Bool) → nat_eq id x.id ≡ b → find_item (x ∷ []) id ≡ cond b (Some x) None
    at_last b e = ap (λ (c : Bool). cond c (Some x) None) e

    by : (o : Option Item) (b : Bool) → find_item items id ≡ o → nat_eq id x.id ≡ b → cond b (Some (entry_of items x.body)) (option_map (λ (y : Item). entry_of items y.body) o) ≡ entry_at (items ++ x ∷ []) id
    by (Some y) true found e = absurd (none-some y (sym fresh ∙ ap (find_item items) (sym (eqb-true id x.id e)) ∙ found))
    by (Some y) false found e =
        ap (λ (a : Entry). Some a) (sym (entry_stays items (x ∷ []) y.body (has_sort most items y id h found)))
        ∙ sym (ap (option_map (λ (z : Item). entry_of (items ++ x ∷ []) z.body)) (find_item-append items (x ∷ []) id y found))
    by None true found e =
        ap (λ (a : Entry). Some a) (sym (entry_stays items (x ∷ []) x.body (own_sort most items x r)))
        ∙ sym (ap (option_map (λ (z : Item). entry_of (items ++ x ∷ []) z.body)) (find_item-after items (x ∷ []) id found ∙ at_last true e))
    by None false found e = sym (ap (option_map (λ (z : Item). entry_of (items ++ x ∷ []) z.body)) (find_item-after items (x ∷ []) id found ∙ at_last false e))

option_or-none : {A : Type 0} (o : Option A) → option_or o None ≡ o
option_or-none None = refl
option_or-none (Some x) = refl

option_or-assoc : {A : Type 0} (o p q : Option A) → option_or o (option_or p q) ≡ option_or (option_or o p) q
option_or-assoc None p q = refl
option_or-assoc (Some x) p q = refl

init_on : (xs : List Item) (x : Item) (id : ℕ) → init_value (xs ++ x ∷ []) id ≡ option_or (init_value xs id) (init_for id x.body)
init_on [] x id = option_or-none (init_for id x.body)
init_on (y ∷ ys) x id = ap (option_or (init_for id y.body)) (init_on ys x id) ∙ option_or-assoc (init_for id y.body) (init_value ys id) (init_for id x.body)

next_on : (xs : List Item) (x : Item) (id : ℕ) → next_value (xs ++ x ∷ []) id ≡ option_or (next_value xs id) (next_for id x.body)
next_on [] x id = option_or-none (next_for id x.body)
next_on (y ∷ ys) x id = ap (option_or (next_for id y.body)) (next_on ys x id) ∙ option_or-assoc (next_for id y.body) (next_value ys id) (next_for id x.body)

-- where at most one of two is there, either may come first
either_first : (id t v : ℕ) (o : ℕ → Option ℕ) → o t ≡ None → option_or (cond (nat_eq id t) (Some v) None) (o id) ≡ option_or (o id) (cond (nat_eq id t) (Some v) None)
either_first id t v o none =
    elim (cases_eq id t) [
      | inl same ↦ let e : o id ≡ None = ap o same ∙ none in rw e (option_or-none (cond (nat_eq id t) (Some v) None))
      | inr differs ↦ rw (ne_eqb id t differs) (sym (option_or-none (o id)))
    ]

init_first : (xs : List Item) (b : Body) (id : ℕ) → is_second_init xs b ≡ false → option_or (init_for id b) (init_value xs id) ≡ option_or (init_value xs id) (init_for id b)
unfolding is_second_init
init_first xs (body.Init s t v) id h = either_first id t v (init_value xs) (none_of (init_value xs t) h)
init_first xs _ id h = sym (option_or-none (init_value xs id))

next_first : (xs : List Item) (b : Body) (id : ℕ) → is_second_next xs b ≡ false → option_or (next_for id b) (next_value xs id) ≡ option_or (next_value xs id) (next_for id b)
unfolding is_second_next
next_first xs (body.Next s t v) id h = either_first id t v (next_value xs) (none_of (next_value xs t) h)
next_first xs _ id h = sym (option_or-none (next_value xs id))

-- ---- of constants in digits

width_bits : (most n : ℕ) → not (nat_le 1 n && nat_le n most) ≡ false → (1 ≤ n) × (n ≤ most)
width_bits most n h =
    let both = and_parts (nat_le 1 n) (nat_le n most) (not-false _ h) in
    (leb-true 1 n both.0, leb-true n most both.1)

body_bits : (most : ℕ) (b : Body) (n : ℕ) → sort_bits b ≡ Some n → width_is_above most b ≡ false → (1 ≤ n) × (n ≤ most)
unfolding width_is_above
body_bits most (body.Sort m) n e h = subst (λ (k : ℕ). (1 ≤ k) × (k ≤ most)) (same_Some m n e) (width_bits most m h)
body_bits most _ n e h = absurd (none-some n e)

-- the width of a sort is 1 to the greatest
pub sort_range : (most : ℕ) (items : List Item) (s n : ℕ) → IsWideModel most items → sort_width items s ≡ Some n → (1 ≤ n) × (n ≤ most)
sort_range most items s n h is =
    let found = then_parts (λ (x : Item). sort_bits x.body) (find_item items s) n is in
    let w = (IsIn-from_find items s found.0 found.1).0 in
    let rows = tests_false most w.before found.0 (refusal_at most w.before w.after found.0 (subst (IsWideModel most) w.splits h)) in
    body_bits most found.0.body n found.2 rows.1.1.1.1.1.1.0

-- ---- the parts of a model once a line was added

pub inits_more : (most : ℕ) (xs : List Item) (x : Item) (old new : ℕ → Option ℕ) → wide_refusal most xs x ≡ None → ((id : ℕ) → old id ≡ init_value xs id) → ((id : ℕ) → new id ≡ option_or (init_for id x.body) (old id))
    → (id : ℕ) → new id ≡ init_value (xs ++ x ∷ []) id
inits_more most xs x old new r before after id =
    after id ∙ ap (option_or (init_for id x.body)) (before id) ∙ init_first xs x.body id (tests_false most xs x r).1.1.1.1.1.1.1.1.1.1.1.0 ∙ sym (init_on xs x id)

pub nexts_more : (most : ℕ) (xs : List Item) (x : Item) (old new : ℕ → Option ℕ) → wide_refusal most xs x ≡ None → ((id : ℕ) → old id ≡ next_value xs id) → ((id : ℕ) → new id ≡ option_or (next_for id x.body) (old id))
    → (id : ℕ) → new id ≡ next_value (xs ++ x ∷ []) id
nexts_more most xs x old new r before after id =
    after id ∙ ap (option_or (next_for id x.body)) (before id) ∙ next_first xs x.body id (tests_false most xs x r).1.1.1.1.1.1.1.1.1.1.1.1.0 ∙ sym (next_on xs x id)

-- a line more
pub items_more : (lines new : List Line) (l : Line) → new ≡ lines ++ l ∷ [] → items_of new ≡ items_of lines ++ item_of l ∷ []
items_more lines new l is = ap items_of is ∙ map-append item_of lines (l ∷ [])

-- ---- the rows of the id come first

pub id_refused : (items : List Item) (x : Item) (e : PushFault) → first_row (wide_id_rows greatest_width items x.id) ≡ Some e → wide_refusal greatest_width items x ≡ Some e
unfolding wide_refusal id_is_out_of_range id_is_taken
id_refused items x e h = first_of (wide_id_rows greatest_width items x.id) (drop 3 (wide_table greatest_width items x)) e h

pub id_accepted : (items : List Item) (x : Item) → first_row (wide_id_rows greatest_width items x.id) ≡ None → wide_refusal greatest_width items x ≡ first_row (wide_said_rows greatest_width items x.body)
unfolding wide_refusal id_is_out_of_range id_is_taken
id_accepted items x h = then_rest (wide_id_rows greatest_width items x.id) (drop 3 (wide_table greatest_width items x)) h

pub range_of : (items : List Item) (s : ℕ) (r : Result ℕ PushFault) → IsWideModel greatest_width items → MatchResult r (λ n. sort_width items s ≡ Some n) (λ e. (e ≡ fault.NoSuchSort) × (sort_width items s ≡ None)) → IfOk r (λ n. (1 ≤ n) × (n ≤ greatest_width))
range_of items s (Ok n) h is = sort_range greatest_width items s n h is
range_of items s (Err e) h is = tt

pub constant_sort : (p : Spelling) (s count v : ℕ) → digits_sort (constant_body p s count v) ≡ Some s
constant_sort spelling.Binary s count v = refl
constant_sort spelling.Decimal s count v = refl
constant_sort spelling.Negative s count v = refl
constant_sort spelling.Hexadecimal s count v = refl

-- what a constant is to those that name it
pub constant_entry_is : (items : List Item) (p : Spelling) (s count v : ℕ) → entry_by (λ n. entry.Constant n) (sort_width items s) ≡ entry_of items (constant_body p s count v)
constant_entry_is items spelling.Binary s count v = refl
constant_entry_is items spelling.Decimal s count v = refl
constant_entry_is items spelling.Negative s count v = refl
constant_entry_is items spelling.Hexadecimal s count v = refl

no_init : (p : Spelling) (s count v id : ℕ) → init_for id (constant_body p s count v) ≡ None
no_init spelling.Binary s count v id = refl
no_init spelling.Decimal s count v id = refl
no_init spelling.Negative s count v id = refl
no_init spelling.Hexadecimal s count v id = refl

no_next : (p : Spelling) (s count v id : ℕ) → next_for id (constant_body p s count v) ≡ None
no_next spelling.Binary s count v id = refl
no_next spelling.Decimal s count v id = refl
no_next spelling.Negative s count v id = refl
no_next spelling.Hexadecimal s count v id = refl

-- a constant has no init and no next line
pub inits_same : (p : Spelling) (s count v : ℕ) (old : ℕ → Option ℕ) (id : ℕ) → old id ≡ option_or (init_for id (constant_body p s count v)) (old id)
inits_same p s count v old id = ap (λ (o : Option ℕ). option_or o (old id)) (sym (no_init p s count v id))

pub nexts_same : (p : Spelling) (s count v : ℕ) (old : ℕ → Option ℕ) (id : ℕ) → old id ≡ option_or (next_for id (constant_body p s count v)) (old id)
nexts_same p s count v old id = ap (λ (o : Option ℕ). option_or o (old id)) (sym (no_next p s count v id))

-- a test's answer by its row
pub row_refuses : (r : Result (Unit {0}) PushFault) (found fits : Bool) → found ≡ fits → Refuses r (first_row ((not found, fault.ConstantDoesNotFit) ∷ [])) → Refuses r (first_row ((not fits, fault.ConstantDoesNotFit) ∷ []))
row_refuses r found fits same h = subst (λ (b : Bool). Refuses r (first_row ((not b, fault.ConstantDoesNotFit) ∷ []))) same h
