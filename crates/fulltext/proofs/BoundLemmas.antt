-- The numbers of an accepted line are small: sorts and operands are ids of earlier lines, and widths are at most the greatest.
use Rattle.std.proofs.Common.{◌≡◌, ℕ, ◌+◌, ◌≤◌, ◌<◌, Bool, true, false, not, ◌&&◌, ◌||◌, nat_eq, nat_le, nat_lt, List, [], ◌∷◌, ◌++◌, Option, Some, None, is_some, is_none, refl, ap, subst, arith}
use Rattle.std.specs.List.{AllByRecursion, list_all}
use Rattle.std.proofs.lemmas.Bool.{and_parts, or_parts, eqb-true, leb-true, ltb-true, not-false}
use Rattle.btor2.specs.declared.item.Body.{Body}
use Rattle.btor2.specs.declared.item.Body.TheVariants as body
use Rattle.btor2.specs.Items.{named_sort, operands}
use Rattle.btor2.specs.Check.{is_no_slice, widths_agree}
use Rattle.btor2.proofs.AppendLemmas.{then_parts, some_of}
use Rattle.btor2.proofs.AcceptedLemmas.{Each}
use Rattle.btor2text.proofs.BoundLemmas.{IsId}
use Rattle.wide.specs.WideModels.{greatest_width, width_is_above}
use Rattle.widetext.proofs.BoundLemmas.{WideBodyFits}
use Rattle.full.specs.Lines.{Operand, Says, form, array_sort, read, write, FullLine, Sort, find_line, line_sort, sort_at, sort_of, sort_of_node, size_of, width_of}
use Rattle.full.specs.Agreement.{WidthsAgree, SaysAgree}
use Rattle.full.proofs.FullLookUps.{found_has}
use Rattle.fullmodel.specs.FullModels.{ids_of, id_is_out_of_range, sort_is_missing, operand_is_missing, width_is_out_of_range, line_refusal, IsAcceptedAfter, IsAccepted}
use Rattle.fullmodel.proofs.RowLemmas.{Passes, passes}
use Rattle.fullmodel.proofs.GrowLemmas.{form_sort}
use Rattle.fullmodel.proofs.AcceptedLemmas.{sort_has_size, node_has_size}
use Rattle.fullmodel.proofs.AgreeLemmas.{line_agrees}

-- the ids that a line names are ids, and its other numbers are small
abbrev pub SaysFits : Says → Type 0
SaysFits (form b ms) = WideBodyFits b
SaysFits (array_sort index element) = IsId index × IsId element
SaysFits (read s array index) = IsId s × IsId array × IsId index.id
SaysFits (write s array index word) = IsId s × IsId array × IsId index.id × IsId word.id

pub record LineFits (x : FullLine) : Type 0 where
  pub id : IsId x.id
  pub says : SaysFits x.says

range : (id : ℕ) → id_is_out_of_range id ≡ false → IsId id
unfolding id_is_out_of_range
range id h = let both = and_parts (nat_le 1 id) (nat_le id 4294967295) (not-false _ h) in (leb-true 1 id both.0, leb-true id 4294967295 both.1)

own_id : (before : List FullLine) (x : FullLine) → line_refusal before x ≡ None → IsId x.id
own_id before x r = range x.id (passes before x r).range

each_id : (before xs : List FullLine) → IsAcceptedAfter before xs → AllByRecursion (λ (y : FullLine). IsId y.id) xs
each_id before [] h = tt
each_id before (x ∷ xs) h = (own_id before x h.0, each_id (before ++ x ∷ []) xs h.1)

found_id : (lines : List FullLine) (id : ℕ) (x : FullLine) → IsAccepted lines → find_line lines id ≡ Some x → IsId id
found_id lines id x h e = found_has (λ k b. IsId k) lines id x e (each_id [] lines h)

sort_id : (lines : List FullLine) (s : ℕ) → IsAccepted lines → is_some (sort_at lines s) ≡ true → IsId s
sort_id lines s h some =
    let sort = some_of (sort_at lines s) some in
    let found = then_parts (λ (x : FullLine). line_sort lines x.says) (find_line lines s) sort.0 sort.1 in
    found_id lines s found.0 h found.1

node_id : (lines : List FullLine) (a : ℕ) → IsAccepted lines → is_some (sort_of_node lines a) ≡ true → IsId a
node_id lines a h some =
    let sort = some_of (sort_of_node lines a) some in
    let found = then_parts (λ (x : FullLine). sort_of lines x.says) (find_line lines a) sort.0 sort.1 in
    found_id lines a found.0 h found.1

node_ids : (lines : List FullLine) (ids : List ℕ) → IsAccepted lines → list_all (λ a. is_some (sort_of_node lines a)) ids ≡ true → Each IsId ids
node_ids lines [] h all = tt
node_ids lines (a ∷ ids) h all = let parts = and_parts (is_some (sort_of_node lines a)) _ all in (node_id lines a h parts.0, node_ids lines ids h parts.1)

said_ids : (lines : List FullLine) (b : Says) → IsAccepted lines → operand_is_missing lines b ≡ false → Each IsId (ids_of b)
unfolding operand_is_missing
said_ids lines b h row = node_ids lines (ids_of b) h (not-false _ row)

there_is : {A : Type 0} (o : Option A) → is_none o ≡ false → is_some o ≡ true
there_is None h = absurd (cc)
there_is (Some n) h = refl

array_ids : (lines : List FullLine) (index element : ℕ) → IsAccepted lines → sort_is_missing lines (array_sort index element) ≡ false → IsId index × IsId element
unfolding sort_is_missing
array_ids lines index element h row =
    let parts = or_parts (is_none (sort_at lines index)) (is_none (sort_at lines element)) row in
    (sort_id lines index h (there_is (sort_at lines index) parts.0), sort_id lines element h (there_is (sort_at lines element) parts.1))

read_id : (lines : List FullLine) (s array : ℕ) (index : Operand) → IsAccepted lines → sort_is_missing lines (read s array index) ≡ false → IsId s
unfolding sort_is_missing
read_id lines s array index h row = sort_id lines s h (there_is (sort_at lines s) row)

write_id : (lines : List FullLine) (s array : ℕ) (index word : Operand) → IsAccepted lines → sort_is_missing lines (write s array index word) ≡ false → IsId s
unfolding sort_is_missing
write_id lines s array index word h row = sort_id lines s h (there_is (sort_at lines s) row)

-- ---- widths

pub sort_most : (lines : List FullLine) (s : ℕ) → IsAccepted lines → size_of (sort_at lines s) ≤ 1048576
sort_most lines s h = by (sort_at lines s) refl
  where
    by : (o : Option Sort) → sort_at lines s ≡ o → size_of o ≤ 1048576
    by None e = omega arith
    by (Some t) e = (sort_has_size lines s t h e).1

node_most : (lines : List FullLine) (a : ℕ) → IsAccepted lines → width_of lines a ≤ 1048576
node_most lines a h = by (sort_of_node lines a) refl
  where
    by : (o : Option Sort) → sort_of_node lines a ≡ o → size_of o ≤ 1048576
    by None e = omega arith
    by (Some t) e = (node_has_size lines a t h e).1

by_range : (lines : List FullLine) (s a w : ℕ) → IsAccepted lines → nat_eq (size_of (sort_at lines s)) (width_of lines a + w) ≡ true → w ≤ 1048576
by_range lines s a w h e = omega (arith, sort_most lines s h, eqb-true (size_of (sort_at lines s)) (width_of lines a + w) e)

slice_range : (n u l : ℕ) → n ≤ 1048576 → is_no_slice n u l ≡ false → (u ≤ 1048576) × (l ≤ 1048576)
slice_range n u l most h =
    let both = and_parts (nat_le l u) (nat_lt u n) (not-false _ h) in
    let low = leb-true l u both.0 in
    let high = ltb-true u n both.1 in
    (omega (arith, most, high), omega (arith, most, high, low))

sort_width_range : (n : ℕ) (ms : List Bool) → width_is_out_of_range (form (body.Sort n) ms) ≡ false → n ≤ 1048576
unfolding width_is_out_of_range width_is_above
sort_width_range n ms h = leb-true n 1048576 (and_parts (nat_le 1 n) _ (not-false _ h)).1

module _ (lines : List FullLine) (h : IsAccepted lines) where
  form_fits : (b : Body) (ms : List Bool) → ((s : ℕ) → named_sort b ≡ Some s → IsId s) → Each IsId (operands b) → width_is_out_of_range (form b ms) ≡ false → WidthsAgree lines b → WideBodyFits b
  form_fits (body.Sort n) ms sort ids width agree = sort_width_range n ms width
  form_fits (body.Input s) ms sort ids width agree = sort s refl
  form_fits (body.State s) ms sort ids width agree = sort s refl
  form_fits (body.Zero s) ms sort ids width agree = sort s refl
  form_fits (body.One s) ms sort ids width agree = sort s refl
  form_fits (body.Ones s) ms sort ids width agree = sort s refl
  form_fits (body.Const s d v) ms sort ids width agree = sort s refl
  form_fits (body.Constd s v) ms sort ids width agree = sort s refl
  form_fits (body.Consth s d v) ms sort ids width agree = sort s refl
  form_fits (body.Uext s a w) ms sort ids width agree = (sort s refl, ids.0, by_range lines s a w h agree)
  form_fits (body.Sext s a w) ms sort ids width agree = (sort s refl, ids.0, by_range lines s a w h agree)
  form_fits (body.Slice s a u l) ms sort ids width agree = let most = slice_range (width_of lines a) u l (node_most lines a h) agree.1 in (sort s refl, ids.0, most.0, most.1)
  form_fits (body.Unary op s a) ms sort ids width agree = (sort s refl, ids.0)
  form_fits (body.Binary op s a b) ms sort ids width agree = (sort s refl, ids.0, ids.1.0)
  form_fits (body.Concat s a b) ms sort ids width agree = (sort s refl, ids.0, ids.1.0)
  form_fits (body.Ite s c t e) ms sort ids width agree = (sort s refl, ids.0, ids.1.0, ids.1.1.0)
  form_fits (body.Init s t v) ms sort ids width agree = (sort s refl, ids.0, ids.1.0)
  form_fits (body.Next s t v) ms sort ids width agree = (sort s refl, ids.0, ids.1.0)
  form_fits (body.Bad a) ms sort ids width agree = ids.0
  form_fits (body.Constraint a) ms sort ids width agree = ids.0
  form_fits (body.Fair a) ms sort ids width agree = ids.0
  form_fits (body.Output a) ms sort ids width agree = ids.0
  form_fits (body.Justice nodes) ms sort ids width agree = ids

  says_fit : (id : ℕ) (symbol : Option (List ℕ)) (b : Says) → Passes lines (record { id = id; symbol = symbol; says = b }) → SaysAgree lines b → SaysFits b
  says_fit id symbol (form b ms) p agree =
      form_fits b ms (λ s e. sort_id lines s h (form_sort lines b ms s e p.sorts)) (said_ids lines (form b ms) h p.nodes) p.width agree.1
  says_fit id symbol (array_sort index element) p agree = array_ids lines index element h p.sorts
  says_fit id symbol (read s array index) p agree = let ids = said_ids lines (read s array index) h p.nodes in (read_id lines s array index h p.sorts, ids.0, ids.1.0)
  says_fit id symbol (write s array index word) p agree = let ids = said_ids lines (write s array index word) h p.nodes in (write_id lines s array index word h p.sorts, ids.0, ids.1.0, ids.1.1.0)

pub accepted_fits : (before : List FullLine) (x : FullLine) → IsAccepted before → line_refusal before x ≡ None → LineFits x
accepted_fits before x h r = record { id = own_id before x r; says = says_fit before h x.id x.symbol x.says (passes before x r) (line_agrees before x r).agrees }
