-- What is kept of a list of lines that goes on.
use Rattle.std.proofs.Common.{◌≡◌, ℕ, Bool, true, false, cond, nat_eq, eqb-true, List, [], ◌∷◌, ◌++◌, map, Option, Some, None, is_some, is_none, option_map, option_and_then, refl, sym, ap, ap₂, subst, ◌∙◌, ◌⊎◌, inl, inr}
use Rattle.std.specs.List.{AllByRecursion}
use Rattle.std.specs.Option.{option_or, option_map_or}
use Rattle.std.proofs.lemmas.Option.{none-some}
use Rattle.std.proofs.lemmas.Bool.{ne_eqb, cases_eq, not-false, or_parts}
use Rattle.std.proofs.lemmas.List.{map-append}
use Rattle.btor2.specs.declared.item.Body.{Body}
use Rattle.btor2.specs.declared.item.Body.TheVariants as body
use Rattle.btor2.specs.Items.{node_sort, named_sort, is_state, sort_bits}
use Rattle.btor2.proofs.AppendLemmas.{some_of, none_of, is_some_from}
use Rattle.full.specs.Lines.{Operand, Says, form, array_sort, read, write, second, FullLine, Sort, words, arrays, find_line, is_form, bits_at, line_sort, sort_at, sort_named, sort_of, init_by, next_by, init_of, next_of}
use Rattle.full.proofs.FullLookUps.{find_on, find_behind, bits_on, sort_on}
use Rattle.full.proofs.ListLemmas.{all_join}
use Rattle.fullmodel.specs.declared.line.Line.{Line}
use Rattle.fullmodel.specs.declared.entries.Entry.{Entry}
use Rattle.fullmodel.specs.Lines.{line_of, lines_in, HasNoDigits}
use Rattle.fullmodel.specs.Entries.{entry_by, entry_of, entry_at}
use Rattle.fullmodel.specs.FullModels.{makes_arrays, id_is_taken, sort_is_missing, is_no_array_sort, is_second_init, is_second_next, line_refusal, IsAccepted}
use Rattle.fullmodel.proofs.RowLemmas.{Passes, passes, stood}
use Rattle.fullmodel.proofs.AcceptedLemmas.{made, bits_from}

-- ---- the sorts of lines are there

-- the sorts that a line is of, or is made of
abbrev pub HasItsSorts : List FullLine → Says → Type 0
HasItsSorts lines (array_sort index element) = (k : ℕ) × (n : ℕ) × (bits_at lines index ≡ Some k) × (bits_at lines element ≡ Some n)
HasItsSorts lines b = (s : ℕ) → sort_named b ≡ Some s → is_some (sort_at lines s) ≡ true

there_is : {A : Type 0} (o : Option A) → is_none o ≡ false → is_some o ≡ true
there_is None h = absurd (cc)
there_is (Some n) h = refl

named : (b : Body) (s : ℕ) → node_sort b ≡ Some s → named_sort b ≡ Some s
named (body.Init t u v) s e = absurd (none-some s e)
named (body.Next t u v) s e = absurd (none-some s e)
named b s e = e

pub form_sort : (lines : List FullLine) (b : Body) (minuses : List Bool) (s : ℕ) → named_sort b ≡ Some s → sort_is_missing lines (form b minuses) ≡ false → is_some (sort_at lines s) ≡ true
unfolding sort_is_missing
form_sort lines b minuses s e h = there_is (sort_at lines s) (ap (λ (o : Option ℕ). option_map_or (λ (k : ℕ). is_none (sort_at lines k)) o false) (sym e) ∙ h)

pub cell_sort : (lines : List FullLine) (b : Says) (s : ℕ) → ((t array : ℕ) (index : Operand) → b ≡ read t array index → Unit {0}) → sort_named b ≡ Some s → sort_is_missing lines b ≡ false → is_some (sort_at lines s) ≡ true
unfolding sort_is_missing
cell_sort lines (form b minuses) s k e h = form_sort lines b minuses s (named b s e) h
cell_sort lines (array_sort index element) s k e h = absurd (none-some s e)
cell_sort lines (read t array index) s k e h = there_is (sort_at lines s) (ap (λ (o : Option ℕ). option_map_or (λ (j : ℕ). is_none (sort_at lines j)) o false) (sym e) ∙ h)
cell_sort lines (write t array index word) s k e h = there_is (sort_at lines s) (ap (λ (o : Option ℕ). option_map_or (λ (j : ℕ). is_none (sort_at lines j)) o false) (sym e) ∙ h)

pub array_bits : (lines : List FullLine) (index element : ℕ) → is_no_array_sort lines (array_sort index element) ≡ false → (k : ℕ) × (n : ℕ) × (bits_at lines index ≡ Some k) × (bits_at lines element ≡ Some n)
unfolding is_no_array_sort
array_bits lines index element h =
    let parts = made (sort_at lines index) (sort_at lines element) (not-false _ h) in
    (parts.0, parts.1, bits_from lines index parts.0 parts.2, bits_from lines element parts.1 parts.3)

pub sorts_of : (lines : List FullLine) (b : Says) → sort_is_missing lines b ≡ false → is_no_array_sort lines b ≡ false → HasItsSorts lines b
sorts_of lines (array_sort index element) h row = array_bits lines index element row
sorts_of lines (form b minuses) h row = λ s e. cell_sort lines (form b minuses) s (λ t array index k. tt) e h
sorts_of lines (read t array index) h row = λ s e. cell_sort lines (read t array index) s (λ t array index k. tt) e h
sorts_of lines (write t array index word) h row = λ s e. cell_sort lines (write t array index word) s (λ t array index k. tt) e h

pub own_sorts : (lines : List FullLine) (x : FullLine) → line_refusal lines x ≡ None → HasItsSorts lines x.says
own_sorts lines x h = let passed = passes lines x h in sorts_of lines x.says passed.sorts passed.arrays

some_on : (lines more : List FullLine) (s : ℕ) → is_some (sort_at lines s) ≡ true → is_some (sort_at (lines ++ more) s) ≡ true
some_on lines more s h = let there = some_of (sort_at lines s) h in is_some_from (sort_at (lines ++ more) s) there.0 (sort_on lines more s there.0 there.1)

sorts_on : (lines more : List FullLine) (b : Says) → HasItsSorts lines b → HasItsSorts (lines ++ more) b
sorts_on lines more (array_sort index element) h = (h.0, h.1, bits_on lines more index h.0 h.2, bits_on lines more element h.1 h.3)
sorts_on lines more (form b minuses) h = λ s e. some_on lines more s (h s e)
sorts_on lines more (read t array index) h = λ s e. some_on lines more s (h s e)
sorts_on lines more (write t array index word) h = λ s e. some_on lines more s (h s e)

has_sorts : (lines : List FullLine) (y : FullLine) (id : ℕ) → IsAccepted lines → find_line lines id ≡ Some y → HasItsSorts lines y.says
has_sorts lines y id h found =
    let w = stood lines id y h found in
    subst (λ (l : List FullLine). HasItsSorts l y.says) (sym w.splits) (sorts_on w.before (y ∷ w.after) y.says (sorts_of w.before y.says w.passed.sorts w.passed.arrays))

-- ---- entries

same_sort_on : (lines more : List FullLine) (s : ℕ) → is_some (sort_at lines s) ≡ true → sort_at (lines ++ more) s ≡ sort_at lines s
same_sort_on lines more s h = let there = some_of (sort_at lines s) h in sort_on lines more s there.0 there.1 ∙ sym there.1

node_stays : (lines more : List FullLine) (o : Option ℕ) → ((s : ℕ) → o ≡ Some s → is_some (sort_at lines s) ≡ true) → option_and_then (sort_at (lines ++ more)) o ≡ option_and_then (sort_at lines) o
node_stays lines more None h = refl
node_stays lines more (Some s) h = same_sort_on lines more s (h s refl)

-- what a line is to those that name it stays, whatever follows
entry_stays : (lines more : List FullLine) (b : Says) → HasItsSorts lines b → entry_of (lines ++ more) b ≡ entry_of lines b
entry_stays lines more (array_sort index element) h =
    ap₂ (λ (o p : Option ℕ). entry_by (option_and_then (λ k. option_map (λ n. arrays k n) p) o) None false) (bits_on lines more index h.0 h.2 ∙ sym h.2) (bits_on lines more element h.1 h.3 ∙ sym h.3)
entry_stays lines more (form b minuses) h = ap (λ (o : Option Sort). entry_by (option_map (λ n. words n) (sort_bits b)) o (is_state b)) (node_stays lines more (node_sort b) h)
entry_stays lines more (read t array index) h = ap (λ (o : Option Sort). entry_by None o false) (node_stays lines more (Some t) h)
entry_stays lines more (write t array index word) h = ap (λ (o : Option Sort). entry_by None o false) (node_stays lines more (Some t) h)

fresh_by : (lines : List FullLine) (id : ℕ) → id_is_taken lines id ≡ false → find_line lines id ≡ None
unfolding id_is_taken
fresh_by lines id h = none_of (find_line lines id) h

pub fresh_id : (lines : List FullLine) (x : FullLine) → line_refusal lines x ≡ None → find_line lines x.id ≡ None
fresh_id lines x h = fresh_by lines x.id (passes lines x h).fresh

pub no_entry : (lines : List FullLine) (x : FullLine) → line_refusal lines x ≡ None → entry_at lines x.id ≡ None
no_entry lines x h = ap (option_map (λ (y : FullLine). entry_of lines y.says)) (fresh_id lines x h)

pub entries_more : (lines : List FullLine) (x : FullLine) (old new : ℕ → Option Entry) → IsAccepted lines → line_refusal lines x ≡ None → ((id : ℕ) → old id ≡ entry_at lines id)
    → ((id : ℕ) → new id ≡ cond (nat_eq id x.id) (Some (entry_of lines x.says)) (old id)) → (id : ℕ) → new id ≡ entry_at (lines ++ x ∷ []) id
entries_more lines x old new h r before after id = after id ∙ ap (cond (nat_eq id x.id) (Some (entry_of lines x.says))) (before id) ∙ by (find_line lines id) (nat_eq id x.id) refl refl
  where
    fresh : find_line lines x.id ≡ None
    fresh = fresh_id lines x r

    at_last : (b : Bool) → nat_eq id x.id ≡ b → find_line (x ∷ []) id ≡ cond b (Some x) None
    at_last b e = ap (λ (c : Bool). cond c (Some x) None) e

    by : (o : Option FullLine) (b : Bool) → find_line lines id ≡ o → nat_eq id x.id ≡ b → cond b (Some (entry_of lines x.says)) (option_map (λ (y : FullLine). entry_of lines y.says) o) ≡ entry_at (lines ++ x ∷ []) id
    by (Some y) true found e = absurd (none-some y (sym fresh ∙ ap (find_line lines) (sym (eqb-true id x.id e)) ∙ found))
    by (Some y) false found e =
        ap (λ (a : Entry). Some a) (sym (entry_stays lines (x ∷ []) y.says (has_sorts lines y id h found)))
        ∙ sym (ap (option_map (λ (z : FullLine). entry_of (lines ++ x ∷ []) z.says)) (find_on lines (x ∷ []) id y found))
    by None true found e =
        ap (λ (a : Entry). Some a) (sym (entry_stays lines (x ∷ []) x.says (own_sorts lines x r)))
        ∙ sym (ap (option_map (λ (z : FullLine). entry_of (lines ++ x ∷ []) z.says)) (find_behind lines (x ∷ []) id found ∙ at_last true e))
    by None false found e = sym (ap (option_map (λ (z : FullLine). entry_of (lines ++ x ∷ []) z.says)) (find_behind lines (x ∷ []) id found ∙ at_last false e))

-- ---- init and next lines

option_or-none : {A : Type 0} (o : Option A) → option_or o None ≡ o
option_or-none None = refl
option_or-none (Some x) = refl

option_or-assoc : {A : Type 0} (o p q : Option A) → option_or o (option_or p q) ≡ option_or (option_or o p) q
option_or-assoc None p q = refl
option_or-assoc (Some x) p q = refl

init_on : (xs : List FullLine) (x : FullLine) (id : ℕ) → init_of (xs ++ x ∷ []) id ≡ option_or (init_of xs id) (init_by id x.says)
init_on [] x id = option_or-none (init_by id x.says)
init_on (y ∷ ys) x id = ap (option_or (init_by id y.says)) (init_on ys x id) ∙ option_or-assoc (init_by id y.says) (init_of ys id) (init_by id x.says)

next_on : (xs : List FullLine) (x : FullLine) (id : ℕ) → next_of (xs ++ x ∷ []) id ≡ option_or (next_of xs id) (next_by id x.says)
next_on [] x id = option_or-none (next_by id x.says)
next_on (y ∷ ys) x id = ap (option_or (next_by id y.says)) (next_on ys x id) ∙ option_or-assoc (next_by id y.says) (next_of ys id) (next_by id x.says)

-- where at most one of two is there, either may come first
either_first : (id t : ℕ) (v : Operand) (o : ℕ → Option Operand) → o t ≡ None → option_or (cond (nat_eq id t) (Some v) None) (o id) ≡ option_or (o id) (cond (nat_eq id t) (Some v) None)
either_first id t v o none =
    elim (cases_eq id t) [
      | inl same ↦ let e : o id ≡ None = ap o same ∙ none in rw e (option_or-none (cond (nat_eq id t) (Some v) None))
      | inr differs ↦ rw (ne_eqb id t differs) (sym (option_or-none (o id)))
    ]

init_first : (xs : List FullLine) (b : Says) (id : ℕ) → is_second_init xs b ≡ false → option_or (init_by id b) (init_of xs id) ≡ option_or (init_of xs id) (init_by id b)
unfolding is_second_init
init_first xs (form (body.Init s t v) minuses) id h = either_first id t (second v minuses) (init_of xs) (none_of (init_of xs t) h)
init_first xs _ id h = sym (option_or-none (init_of xs id))

next_first : (xs : List FullLine) (b : Says) (id : ℕ) → is_second_next xs b ≡ false → option_or (next_by id b) (next_of xs id) ≡ option_or (next_of xs id) (next_by id b)
unfolding is_second_next
next_first xs (form (body.Next s t v) minuses) id h = either_first id t (second v minuses) (next_of xs) (none_of (next_of xs t) h)
next_first xs _ id h = sym (option_or-none (next_of xs id))

pub inits_more : (xs : List FullLine) (x : FullLine) (old new : ℕ → Option Operand) → line_refusal xs x ≡ None → ((id : ℕ) → old id ≡ init_of xs id) → ((id : ℕ) → new id ≡ option_or (init_by id x.says) (old id))
    → (id : ℕ) → new id ≡ init_of (xs ++ x ∷ []) id
inits_more xs x old new r before after id = after id ∙ ap (option_or (init_by id x.says)) (before id) ∙ init_first xs x.says id (passes xs x r).first_init ∙ sym (init_on xs x id)

pub nexts_more : (xs : List FullLine) (x : FullLine) (old new : ℕ → Option Operand) → line_refusal xs x ≡ None → ((id : ℕ) → old id ≡ next_of xs id) → ((id : ℕ) → new id ≡ option_or (next_by id x.says) (old id))
    → (id : ℕ) → new id ≡ next_of (xs ++ x ∷ []) id
nexts_more xs x old new r before after id = after id ∙ ap (option_or (next_by id x.says)) (before id) ∙ next_first xs x.says id (passes xs x r).first_next ∙ sym (next_on xs x id)

-- ---- the parts of a model once a line was added

pub lines_more : (lines new : List Line) (l : Line) → new ≡ lines ++ l ∷ [] → lines_in new ≡ lines_in lines ++ line_of l ∷ []
lines_more lines new l is = ap lines_in is ∙ map-append line_of lines (l ∷ [])

pub forms_more : (lines new : List Line) (l : Line) → new ≡ lines ++ l ∷ [] → AllByRecursion (λ (x : Line). HasNoDigits x.says) lines → HasNoDigits l.says → AllByRecursion (λ (x : Line). HasNoDigits x.says) new
forms_more lines new l is h own = subst (AllByRecursion (λ (x : Line). HasNoDigits x.says)) (sym is) (all_join (λ (x : Line). HasNoDigits x.says) lines (l ∷ []) h (own, tt))

pub ids_more : (xs : List FullLine) (x : FullLine) → map (λ (y : FullLine). y.id) (xs ++ x ∷ []) ≡ map (λ (y : FullLine). y.id) xs ++ x.id ∷ []
ids_more xs x = map-append (λ (y : FullLine). y.id) xs (x ∷ [])
