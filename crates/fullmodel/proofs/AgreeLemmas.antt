-- Accepted lines are a model.
use Rattle.std.proofs.Common.{◌≡◌, ℕ, ◌+◌, ◌-◌, Bool, true, false, cond, not, ◌&&◌, ◌||◌, nat_le, nat_eq, List, [], ◌∷◌, ◌++◌, Option, Some, None, IfSome, is_some, is_none, unwrap_or, refl, sym, ap, ap₂, subst, ◌∙◌, ◌⊎◌, inl, inr}
use Rattle.std.specs.List.{AllByRecursion, list_all, zip}
use Rattle.std.proofs.lemmas.Option.{none-some, same_Some}
use Rattle.std.proofs.lemmas.Bool.{and_parts, and_from, not-false, eqb-true, eq-eqb, leb-true}
use Rattle.base.specs.declared.operators.Binary.{Binary}
use Rattle.base.specs.declared.operators.Binary.TheVariants as binary
use Rattle.base.specs.Widths.{unary_width, binary_width, is_of_bits}
use Rattle.btor2.specs.declared.item.Body.{Body}
use Rattle.btor2.specs.declared.item.Body.TheVariants as body
use Rattle.btor2.specs.Items.{operands, named_sort, node_sort}
use Rattle.btor2.specs.Check.{is_no_slice, widths_agree}
use Rattle.btor2.proofs.AppendLemmas.{none_of, is_some_from}
use Rattle.wide.specs.WideModels.{greatest_width, width_is_above, constant_fits_within}
use Rattle.full.specs.Lines.{Operand, Says, form, array_sort, read, write, with_minuses, operands_of, FullLine, Sort, words, arrays, find_line, bits_at, sort_at, sort_named, sort_of_node, size_of, width_of, init_of, next_of}
use Rattle.full.specs.Agreement.{is_words, element_sort, AreOfWords, SortsAgree, WidthsAgree, names_full_state, first_is_plain, IsOfState, SaysAgree, LineAgrees, IsFullAfter, IsFullModel}
use Rattle.fullmodel.specs.FullModels.{width_in, index_sort, same_sort, is_bit, ids_of, minuses_of, id_is_taken, sort_is_missing, operand_is_missing, state_is_none, state_has_minus, minuses_at_words, minus_is_at_array, width_is_out_of_range, is_no_array_sort, is_no_slice_of, slice_is_out_of_range, is_equality, binary_agrees, sorts_agree, read_agrees, write_agrees, sorts_differ, constant_does_not_fit, is_second_init, is_second_next, line_refusal, IsAcceptedAfter, IsAccepted}
use Rattle.fullmodel.proofs.RowLemmas.{Passes, passes}
use Rattle.fullmodel.proofs.GrowLemmas.{HasItsSorts, sorts_of, array_bits, fresh_id}

-- ---- sorts

pub width_size : (o : Option Sort) → is_words o ≡ true → width_in o ≡ size_of o
width_size None h = absurd (cc)
width_size (Some (words n)) h = refl
width_size (Some (arrays k n)) h = absurd (cc)

same_from : (o p : Option Sort) → same_sort o p ≡ true → o ≡ p
same_from (Some (words n)) (Some (words m)) h = ap (λ (k : ℕ). Some (words k)) (eqb-true n m h)
same_from (Some (arrays k n)) (Some (arrays l m)) h =
    let parts = and_parts (nat_eq k l) (nat_eq n m) h in ap₂ (λ (i j : ℕ). Some (arrays i j)) (eqb-true k l parts.0) (eqb-true n m parts.1)
same_from _ _ h = absurd (cc)

bit_from : (o : Option Sort) → is_bit o ≡ true → o ≡ Some (words 1)
bit_from (Some (words n)) h = ap (λ (k : ℕ). Some (words k)) (eqb-true n 1 h)
bit_from _ h = absurd (cc)

bit_words : (o : Option Sort) → is_bit o ≡ true → is_words o ≡ true
bit_words o h = ap is_words (bit_from o h)

-- an index has the sort of an array's indices
index_from : (o p : Option Sort) → same_sort o (index_sort p) ≡ true → (k n : ℕ) × (p ≡ Some (arrays k n)) × (o ≡ Some (words k))
index_from o (Some (arrays k n)) h = (k, n, refl, same_from o (Some (words k)) h)
index_from (Some (words m)) (Some (words n)) h = absurd (cc)
index_from (Some (arrays l m)) (Some (words n)) h = absurd (cc)
index_from None (Some (words n)) h = absurd (cc)
index_from (Some (words m)) None h = absurd (cc)
index_from (Some (arrays l m)) None h = absurd (cc)
index_from None None h = absurd (cc)

read_from : (s array index : Option Sort) → read_agrees s array index ≡ true → (k n : ℕ) × (s ≡ Some (words n)) × (array ≡ Some (arrays k n)) × (index ≡ Some (words k))
read_from s array index h =
    let parts = and_parts (same_sort s (element_sort array)) _ h in
    let at = index_from index array parts.1 in
    (at.0, at.1, same_from s (element_sort array) parts.0 ∙ ap element_sort at.2, at.2, at.3)

write_from : (s array index word : Option Sort) → write_agrees s array index word ≡ true
    → (k n : ℕ) × (s ≡ Some (arrays k n)) × (array ≡ Some (arrays k n)) × (index ≡ Some (words k)) × (word ≡ Some (words n))
write_from s array index word h =
    let parts = and_parts (same_sort s array) _ h in
    let rest = and_parts (same_sort index (index_sort array)) _ parts.1 in
    let at = index_from index array rest.0 in
    (at.0, at.1, same_from s array parts.0 ∙ at.2, at.2, at.3, same_from word (element_sort array) rest.1 ∙ ap element_sort at.2)

-- ---- operands

ids_there : (lines : List FullLine) (ids : List ℕ) (minuses : List Bool) → list_all (λ a. is_some (sort_of_node lines a)) ids ≡ true
    → AllByRecursion (λ (o : Operand). is_some (sort_of_node lines o.id) ≡ true) (with_minuses ids minuses)
ids_there lines [] minuses h = tt
ids_there lines (a ∷ ids) [] h = let parts = and_parts (is_some (sort_of_node lines a)) _ h in (parts.0, ids_there lines ids [] parts.1)
ids_there lines (a ∷ ids) (m ∷ minuses) h = let parts = and_parts (is_some (sort_of_node lines a)) _ h in (parts.0, ids_there lines ids minuses parts.1)

nodes_there : (lines : List FullLine) (b : Says) → operand_is_missing lines b ≡ false → AllByRecursion (λ (o : Operand). is_some (sort_of_node lines o.id) ≡ true) (operands_of b)
unfolding operand_is_missing
nodes_there lines (form b minuses) h = ids_there lines (operands b) minuses (not-false _ h)
nodes_there lines (array_sort index element) h = tt
nodes_there lines (read s array index) h =
    let first = and_parts (is_some (sort_of_node lines array)) _ (not-false _ h) in
    let second = and_parts (is_some (sort_of_node lines index.id)) _ first.1 in
    (first.0, (second.0, tt))
nodes_there lines (write s array index word) h =
    let first = and_parts (is_some (sort_of_node lines array)) _ (not-false _ h) in
    let second = and_parts (is_some (sort_of_node lines index.id)) _ first.1 in
    let third = and_parts (is_some (sort_of_node lines word.id)) _ second.1 in
    (first.0, (second.0, (third.0, tt)))

-- one that stands with a minus is a word
minus_from : (m w : Bool) → (not m || w) ≡ true → m ≡ true → w ≡ true
minus_from true w h e = h
minus_from false w h e = absurd (cc)

abbrev AreAtWords : List FullLine → List Operand → Type 0
AreAtWords lines os = AllByRecursion (λ (o : Operand). o.minus ≡ true → is_words (sort_of_node lines o.id) ≡ true) os

minuses_from : (lines : List FullLine) (ids : List ℕ) (minuses : List Bool) → minuses_at_words lines ids minuses ≡ true → AreAtWords lines (with_minuses ids minuses)
minuses_from lines [] minuses h = tt
minuses_from lines (a ∷ ids) [] h = ((λ e. absurd (cc)), minuses_from lines ids [] (none_left ids))
  where
    none_left : (ids : List ℕ) → minuses_at_words lines ids [] ≡ true
    none_left [] = refl
    none_left (b ∷ more) = refl
minuses_from lines (a ∷ ids) (m ∷ minuses) h =
    let parts = and_parts (not m || is_words (sort_of_node lines a)) _ h in (minus_from m (is_words (sort_of_node lines a)) parts.0, minuses_from lines ids minuses parts.1)

at_words : (lines : List FullLine) (b : Says) → minus_is_at_array lines b ≡ false → AreAtWords lines (operands_of b)
unfolding minus_is_at_array
at_words lines (form b minuses) h = minuses_from lines (operands b) minuses (not-false _ h)
at_words lines (array_sort index element) h = tt
at_words lines (read s array index) h = let all = minuses_from lines (array ∷ index.id ∷ []) (false ∷ index.minus ∷ []) (not-false _ h) in ((λ e. absurd (cc)), (all.1.0, tt))
at_words lines (write s array index word) h =
    let all = minuses_from lines (array ∷ index.id ∷ word.id ∷ []) (false ∷ index.minus ∷ word.minus ∷ []) (not-false _ h) in ((λ e. absurd (cc)), (all.1.0, (all.1.1.0, tt)))

-- ---- the sort that a line names

sort_there : (lines : List FullLine) (b : Says) → HasItsSorts lines b → IfSome (sort_named b) (λ s. is_some (sort_at lines s) ≡ true)
sort_there lines (form b minuses) h = by (node_sort b) h
  where
    by : (o : Option ℕ) → ((s : ℕ) → o ≡ Some s → is_some (sort_at lines s) ≡ true) → IfSome o (λ s. is_some (sort_at lines s) ≡ true)
    by None h = tt
    by (Some s) h = h s refl
sort_there lines (array_sort index element) h = tt
sort_there lines (read s array index) h = h s refl
sort_there lines (write s array index word) h = h s refl

-- ---- what forms ask for

-- the widths of words are their sizes
size_of_two : (o p : Option Sort) (test : ℕ → ℕ → Bool) → (is_words o && is_words p) ≡ true → test (width_in o) (width_in p) ≡ true → test (size_of o) (size_of p) ≡ true
size_of_two o p test h e =
    let parts = and_parts (is_words o) (is_words p) h in
    subst (λ (n : ℕ). test (size_of o) n ≡ true) (width_size p parts.1) (subst (λ (n : ℕ). test n (width_in p) ≡ true) (width_size o parts.0) e)

size_of_three : (o p q : Option Sort) (test : ℕ → ℕ → ℕ → Bool) → (is_words o && (is_words p && is_words q)) ≡ true → test (width_in o) (width_in p) (width_in q) ≡ true → test (size_of o) (size_of p) (size_of q) ≡ true
size_of_three o p q test h e =
    let parts = and_parts (is_words o) _ h in
    subst (λ (n : ℕ). test n (size_of p) (size_of q) ≡ true) (width_size o parts.0) (size_of_two p q (λ i j. test (width_in o) i j) parts.1 e)

same_size : (o p : Option Sort) → o ≡ p → nat_eq (size_of o) (size_of p) ≡ true
same_size o p e = eq-eqb (size_of o) (size_of p) (ap size_of e)

-- of an operator of two operands
abbrev BinaryAgrees : Binary → Option Sort → Option Sort → Option Sort → Type 0
BinaryAgrees binary.Eq s a b = (is_words s ≡ true) × (a ≡ b)
BinaryAgrees binary.Neq s a b = (is_words s ≡ true) × (a ≡ b)
BinaryAgrees op s a b = (is_words s ≡ true) × (is_words a ≡ true) × (is_words b ≡ true)

abbrev binary_widths : Binary → ℕ → ℕ → ℕ → Bool
binary_widths op s a b = nat_eq a b && ((not (is_of_bits op) || nat_eq a 1) && nat_eq s (binary_width op a))

words_three : (s a b : Option Sort) → (is_words s && (is_words a && is_words b)) ≡ true → (is_words s ≡ true) × (is_words a ≡ true) × (is_words b ≡ true)
words_three s a b h = let parts = and_parts (is_words s) _ h in let rest = and_parts (is_words a) _ parts.1 in (parts.0, rest.0, rest.1)

binary_sorts : (op : Binary) (s a b : Option Sort) → binary_agrees op s a b ≡ true → BinaryAgrees op s a b
binary_sorts binary.Eq s a b h = let parts = and_parts (is_bit s) (same_sort a b) h in (bit_words s parts.0, same_from a b parts.1)
binary_sorts binary.Neq s a b h = let parts = and_parts (is_bit s) (same_sort a b) h in (bit_words s parts.0, same_from a b parts.1)
binary_sorts op s a b h = words_three s a b (and_parts (is_words s && (is_words a && is_words b)) _ h).0

equal_widths : (s a b : Option Sort) → (is_bit s && same_sort a b) ≡ true → (nat_eq (size_of a) (size_of b) && nat_eq (size_of s) 1) ≡ true
equal_widths s a b h =
    let parts = and_parts (is_bit s) (same_sort a b) h in
    and_from (nat_eq (size_of a) (size_of b)) (nat_eq (size_of s) 1) (same_size a b (same_from a b parts.1)) (eq-eqb (size_of s) 1 (ap size_of (bit_from s parts.0)))

binary_sizes : (op : Binary) (s a b : Option Sort) → binary_agrees op s a b ≡ true → binary_widths op (size_of s) (size_of a) (size_of b) ≡ true
binary_sizes binary.Eq s a b h = equal_widths s a b h
binary_sizes binary.Neq s a b h = equal_widths s a b h
binary_sizes op s a b h = let parts = and_parts (is_words s && (is_words a && is_words b)) _ h in size_of_three s a b (binary_widths op) parts.0 parts.1

either_sort : (a s : Option Sort) → (same_sort a s || same_sort a (element_sort s)) ≡ true → (a ≡ s) ⊎ (a ≡ element_sort s)
either_sort a s h = by (same_sort a s) refl h
  where
    by : (b : Bool) → same_sort a s ≡ b → (b || same_sort a (element_sort s)) ≡ true → (a ≡ s) ⊎ (a ≡ element_sort s)
    by true e h = inl (same_from a s e)
    by false e h = inr (same_from a (element_sort s) h)

bits_of_all : (lines : List FullLine) (ids : List ℕ) → list_all (λ a. is_bit (sort_of_node lines a)) ids ≡ true → AllByRecursion (λ a. sort_of_node lines a ≡ Some (words 1)) ids
bits_of_all lines [] h = tt
bits_of_all lines (a ∷ ids) h = let parts = and_parts (is_bit (sort_of_node lines a)) _ h in (bit_from (sort_of_node lines a) parts.0, bits_of_all lines ids parts.1)

-- the sorts
form_sorts : (lines : List FullLine) (b : Body) (minuses : List Bool) → sorts_agree (sort_at lines) (sort_of_node lines) b ≡ true → width_is_out_of_range (form b minuses) ≡ false → SortsAgree lines b
unfolding width_is_out_of_range width_is_above
form_sorts lines (body.Sort n) minuses h width = (and_parts (nat_le 1 n) _ (not-false _ width)).0
form_sorts lines (body.Input s) minuses h width = tt
form_sorts lines (body.State s) minuses h width = tt
form_sorts lines (body.Zero s) minuses h width = (h, tt)
form_sorts lines (body.One s) minuses h width = (h, tt)
form_sorts lines (body.Ones s) minuses h width = (h, tt)
form_sorts lines (body.Const s d v) minuses h width = (h, tt)
form_sorts lines (body.Constd s v) minuses h width = (h, tt)
form_sorts lines (body.Consth s d v) minuses h width = (h, tt)
form_sorts lines (body.Uext s a by) minuses h width = let both = and_parts (is_words (sort_at lines s)) _ (and_parts (is_words (sort_at lines s) && is_words (sort_of_node lines a)) _ h).0 in (both.0, (both.1, tt))
form_sorts lines (body.Sext s a by) minuses h width = let both = and_parts (is_words (sort_at lines s)) _ (and_parts (is_words (sort_at lines s) && is_words (sort_of_node lines a)) _ h).0 in (both.0, (both.1, tt))
form_sorts lines (body.Slice s a u l) minuses h width = let both = and_parts (is_words (sort_at lines s)) _ (and_parts (is_words (sort_at lines s) && is_words (sort_of_node lines a)) _ h).0 in (both.0, (both.1, tt))
form_sorts lines (body.Unary op s a) minuses h width = let both = and_parts (is_words (sort_at lines s)) _ (and_parts (is_words (sort_at lines s) && is_words (sort_of_node lines a)) _ h).0 in (both.0, (both.1, tt))
form_sorts lines (body.Binary binary.Eq s a b) minuses h width = binary_sorts binary.Eq (sort_at lines s) (sort_of_node lines a) (sort_of_node lines b) h
form_sorts lines (body.Binary binary.Neq s a b) minuses h width = binary_sorts binary.Neq (sort_at lines s) (sort_of_node lines a) (sort_of_node lines b) h
form_sorts lines (body.Binary op s a b) minuses h width =
    let all = words_three (sort_at lines s) (sort_of_node lines a) (sort_of_node lines b) (and_parts (is_words (sort_at lines s) && (is_words (sort_of_node lines a) && is_words (sort_of_node lines b))) _ h).0 in (all.0, (all.1, (all.2, tt)))
form_sorts lines (body.Concat s a b) minuses h width =
    let all = words_three (sort_at lines s) (sort_of_node lines a) (sort_of_node lines b) (and_parts (is_words (sort_at lines s) && (is_words (sort_of_node lines a) && is_words (sort_of_node lines b))) _ h).0 in (all.0, (all.1, (all.2, tt)))
form_sorts lines (body.Ite s c t e) minuses h width =
    let parts = and_parts (is_bit (sort_of_node lines c)) _ h in
    let both = and_parts (same_sort (sort_of_node lines t) (sort_at lines s)) _ parts.1 in
    (bit_words (sort_of_node lines c) parts.0, same_from (sort_of_node lines t) (sort_at lines s) both.0, same_from (sort_of_node lines e) (sort_at lines s) both.1)
form_sorts lines (body.Init s t v) minuses h width =
    let both = and_parts (same_sort (sort_of_node lines t) (sort_at lines s)) _ h in (same_from (sort_of_node lines t) (sort_at lines s) both.0, either_sort (sort_of_node lines v) (sort_at lines s) both.1)
form_sorts lines (body.Next s t v) minuses h width =
    let both = and_parts (same_sort (sort_of_node lines t) (sort_at lines s)) _ h in (same_from (sort_of_node lines t) (sort_at lines s) both.0, same_from (sort_of_node lines v) (sort_at lines s) both.1)
form_sorts lines (body.Bad a) minuses h width = bit_from (sort_of_node lines a) h
form_sorts lines (body.Constraint a) minuses h width = bit_from (sort_of_node lines a) h
form_sorts lines (body.Fair a) minuses h width = bit_from (sort_of_node lines a) h
form_sorts lines (body.Output a) minuses h width = tt
form_sorts lines (body.Justice nodes) minuses h width = bits_of_all lines nodes h

-- the widths
one_wide : (lines : List FullLine) (a : ℕ) → is_bit (sort_of_node lines a) ≡ true → nat_eq (width_of lines a) 1 ≡ true
one_wide lines a h = eq-eqb (width_of lines a) 1 (ap size_of (bit_from (sort_of_node lines a) h))

all_wide : (lines : List FullLine) (ids : List ℕ) → list_all (λ a. is_bit (sort_of_node lines a)) ids ≡ true → list_all (λ a. nat_eq (width_of lines a) 1) ids ≡ true
all_wide lines [] h = refl
all_wide lines (a ∷ ids) h = let parts = and_parts (is_bit (sort_of_node lines a)) _ h in and_from (nat_eq (width_of lines a) 1) _ (one_wide lines a parts.0) (all_wide lines ids parts.1)

slice_in : (o : Option Sort) (u l : ℕ) → is_words o ≡ true → is_no_slice_of o u l ≡ false → is_no_slice (size_of o) u l ≡ false
slice_in None u l h e = absurd (cc)
slice_in (Some (words n)) u l h e = e
slice_in (Some (arrays k n)) u l h e = absurd (cc)

form_widths : (lines : List FullLine) (b : Body) (minuses : List Bool) → sorts_agree (sort_at lines) (sort_of_node lines) b ≡ true → slice_is_out_of_range lines (form b minuses) ≡ false → WidthsAgree lines b
unfolding slice_is_out_of_range
form_widths lines (body.Uext s a by) minuses h slice = let parts = and_parts (is_words (sort_at lines s) && is_words (sort_of_node lines a)) _ h in size_of_two (sort_at lines s) (sort_of_node lines a) (λ m n. nat_eq m (n + by)) parts.0 parts.1
form_widths lines (body.Sext s a by) minuses h slice = let parts = and_parts (is_words (sort_at lines s) && is_words (sort_of_node lines a)) _ h in size_of_two (sort_at lines s) (sort_of_node lines a) (λ m n. nat_eq m (n + by)) parts.0 parts.1
form_widths lines (body.Slice s a u l) minuses h slice =
    let parts = and_parts (is_words (sort_at lines s) && is_words (sort_of_node lines a)) _ h in
    let both = and_parts (is_words (sort_at lines s)) _ parts.0 in
    (subst (λ (n : ℕ). nat_eq n (u - l + 1) ≡ true) (width_size (sort_at lines s) both.0) parts.1, slice_in (sort_of_node lines a) u l both.1 slice)
form_widths lines (body.Unary op s a) minuses h slice = let parts = and_parts (is_words (sort_at lines s) && is_words (sort_of_node lines a)) _ h in size_of_two (sort_at lines s) (sort_of_node lines a) (λ m n. nat_eq m (unary_width op n)) parts.0 parts.1
form_widths lines (body.Binary op s a b) minuses h slice = binary_sizes op (sort_at lines s) (sort_of_node lines a) (sort_of_node lines b) h
form_widths lines (body.Concat s a b) minuses h slice =
    let parts = and_parts (is_words (sort_at lines s) && (is_words (sort_of_node lines a) && is_words (sort_of_node lines b))) _ h in
    size_of_three (sort_at lines s) (sort_of_node lines a) (sort_of_node lines b) (λ m n k. nat_eq m (n + k)) parts.0 parts.1
form_widths lines (body.Ite s c t e) minuses h slice =
    let parts = and_parts (is_bit (sort_of_node lines c)) _ h in
    let both = and_parts (same_sort (sort_of_node lines t) (sort_at lines s)) _ parts.1 in
    and_from (nat_eq (width_of lines c) 1) _ (one_wide lines c parts.0)
    (and_from (nat_eq (size_of (sort_at lines s)) (width_of lines t)) _ (same_size (sort_at lines s) (sort_of_node lines t) (sym (same_from (sort_of_node lines t) (sort_at lines s) both.0)))
    (same_size (sort_at lines s) (sort_of_node lines e) (sym (same_from (sort_of_node lines e) (sort_at lines s) both.1))))
form_widths lines (body.Init s t v) minuses h slice = tt
form_widths lines (body.Next s t v) minuses h slice =
    let both = and_parts (same_sort (sort_of_node lines t) (sort_at lines s)) _ h in
    and_from (nat_eq (size_of (sort_at lines s)) (width_of lines t)) _ (same_size (sort_at lines s) (sort_of_node lines t) (sym (same_from (sort_of_node lines t) (sort_at lines s) both.0)))
    (same_size (sort_at lines s) (sort_of_node lines v) (sym (same_from (sort_of_node lines v) (sort_at lines s) both.1)))
form_widths lines (body.Bad a) minuses h slice = one_wide lines a h
form_widths lines (body.Constraint a) minuses h slice = one_wide lines a h
form_widths lines (body.Fair a) minuses h slice = one_wide lines a h
form_widths lines (body.Justice nodes) minuses h slice = all_wide lines nodes h
form_widths lines b minuses h slice = refl

-- constants
form_fits : (lines : List FullLine) (b : Body) (minuses : List Bool) → sorts_agree (sort_at lines) (sort_of_node lines) b ≡ true → constant_does_not_fit lines (form b minuses) ≡ false
    → constant_fits_within greatest_width (size_of (sort_at lines (unwrap_or (named_sort b) 0))) b ≡ true
unfolding constant_does_not_fit
form_fits lines (body.Const s d v) minuses h row = subst (λ (n : ℕ). constant_fits_within greatest_width n (body.Const s d v) ≡ true) (width_size (sort_at lines s) h) (not-false _ row)
form_fits lines (body.Constd s v) minuses h row = subst (λ (n : ℕ). constant_fits_within greatest_width n (body.Constd s v) ≡ true) (width_size (sort_at lines s) h) (not-false _ row)
form_fits lines (body.Consth s d v) minuses h row = subst (λ (n : ℕ). constant_fits_within greatest_width n (body.Consth s d v) ≡ true) (width_size (sort_at lines s) h) (not-false _ row)
form_fits lines _ minuses h row = refl

-- states
of_state : (lines : List FullLine) (b : Body) (minuses : List Bool) → state_is_none lines (form b minuses) ≡ false → state_has_minus (form b minuses) ≡ false → is_second_init lines (form b minuses) ≡ false
    → is_second_next lines (form b minuses) ≡ false → IsOfState lines b minuses
unfolding state_is_none state_has_minus is_second_init is_second_next
of_state lines (body.Init s t v) minuses state minus init next = (not-false _ state, not-false _ minus, none_of (init_of lines t) init)
of_state lines (body.Next s t v) minuses state minus init next = (not-false _ state, not-false _ minus, none_of (next_of lines t) next)
of_state lines _ minuses state minus init next = tt

form_agrees : (lines : List FullLine) (b : Body) (minuses : List Bool) → sorts_differ lines (form b minuses) ≡ false → sorts_agree (sort_at lines) (sort_of_node lines) b ≡ true
unfolding sorts_differ
form_agrees lines b minuses h = not-false _ h

read_is : (lines : List FullLine) (s array : ℕ) (index : Operand) → sorts_differ lines (read s array index) ≡ false → SaysAgree lines (read s array index)
unfolding sorts_differ
read_is lines s array index h = read_from (sort_at lines s) (sort_of_node lines array) (sort_of_node lines index.id) (not-false _ h)

write_is : (lines : List FullLine) (s array : ℕ) (index word : Operand) → sorts_differ lines (write s array index word) ≡ false → SaysAgree lines (write s array index word)
unfolding sorts_differ
write_is lines s array index word h = write_from (sort_at lines s) (sort_of_node lines array) (sort_of_node lines index.id) (sort_of_node lines word.id) (not-false _ h)

says_agree : (lines : List FullLine) (id : ℕ) (symbol : Option (List ℕ)) (b : Says) → Passes lines (record { id = id; symbol = symbol; says = b }) → SaysAgree lines b
says_agree lines id symbol (form b minuses) h =
    let agrees = form_agrees lines b minuses h.agrees in
    (form_sorts lines b minuses agrees h.width, form_widths lines b minuses agrees h.slice, form_fits lines b minuses agrees h.fits, of_state lines b minuses h.state h.plain_state h.first_init h.first_next)
says_agree lines id symbol (array_sort index element) h =
    let bits = array_bits lines index element h.arrays in (is_some_from (bits_at lines index) bits.0 bits.2, is_some_from (bits_at lines element) bits.1 bits.3)
says_agree lines id symbol (read s array index) h = read_is lines s array index h.agrees
says_agree lines id symbol (write s array index word) h = write_is lines s array index word h.agrees

-- ---- the whole

pub line_agrees : (lines : List FullLine) (x : FullLine) → line_refusal lines x ≡ None → LineAgrees lines x
line_agrees lines x r =
    let h = passes lines x r in
    record {
      fresh = fresh_id lines x r;
      sort = sort_there lines x.says (sorts_of lines x.says h.sorts h.arrays);
      nodes = nodes_there lines x.says h.nodes;
      minuses = at_words lines x.says h.minuses;
      agrees = says_agree lines x.id x.symbol x.says h;
    }

accepted_after : (before rest : List FullLine) → IsAcceptedAfter before rest → IsFullAfter before rest
accepted_after before [] h = tt
accepted_after before (x ∷ xs) h = (line_agrees before x h.0, accepted_after (before ++ x ∷ []) xs h.1)

pub accepted_is_model : (lines : List FullLine) → IsAccepted lines → IsFullModel lines
accepted_is_model lines h = accepted_after [] lines h
