-- The sorts of accepted lines have 1 to 2 ^ 20 bits.
use Rattle.std.proofs.Common.{◌≡◌, ℕ, ◌*◌, ◌^◌, ◌<◌, ◌≤◌, Bool, true, false, cond, not, ◌&&◌, ◌||◌, nat_le, nat_eq, length, List, [], ◌∷◌, ◌++◌, Option, Some, None, IfSome, is_some, is_none, option_map, option_and_then, refl, sym, ap, subst, ◌∙◌, ◌⊎◌, inl, inr, arith}
use Rattle.std.specs.List.{list_all}
use Rattle.std.proofs.Math.Nat.{mul-le-mul_left}
use Rattle.std.proofs.lemmas.Nat.{pow_pos}
use Rattle.std.proofs.lemmas.Option.{none-some, same_Some}
use Rattle.std.proofs.lemmas.Bool.{and_parts, leb-true, not-false}
use Rattle.btor2.specs.declared.item.Body.{Body}
use Rattle.btor2.specs.declared.item.Body.TheVariants as body
use Rattle.btor2.specs.Items.{operands, sort_bits}
use Rattle.btor2.proofs.AppendLemmas.{then_parts}
use Rattle.wide.specs.WideModels.{greatest_width, width_is_above}
use Rattle.full.specs.Lines.{Says, form, array_sort, read, write, FullLine, Sort, words, arrays, find_line, line_bits, bits_at, line_sort, sort_at, sort_of, sort_of_node, sort_named, sort_size}
use Rattle.full.specs.Agreement.{is_words}
use Rattle.full.proofs.FullLookUps.{bits_on}
use Rattle.fullmodel.specs.Lines.{sort_value}
use Rattle.fullmodel.specs.declared.sorts.Sort.{Sort as Kept}
use Rattle.fullmodel.specs.declared.sorts.Sort.TheVariants as kept
use Rattle.fullmodel.specs.FullModels.{width_in, makes_arrays, minuses_at_words, minus_is_at_array, operand_is_missing, width_is_out_of_range, is_no_array_sort, IsAccepted}
use Rattle.fullmodel.proofs.RowLemmas.{Stood, stood}

-- so many bits may be
abbrev pub HasSize : ℕ → Type 0
HasSize n = (1 ≤ n) × (n ≤ greatest_width)

width_bits : (n : ℕ) → not (nat_le 1 n && nat_le n greatest_width) ≡ false → HasSize n
width_bits n h =
    let both = and_parts (nat_le 1 n) (nat_le n greatest_width) (not-false _ h) in
    (leb-true 1 n both.0, leb-true n greatest_width both.1)

says_bits : (b : Says) (n : ℕ) → line_bits b ≡ Some n → width_is_out_of_range b ≡ false → HasSize n
unfolding width_is_out_of_range width_is_above
says_bits (form (body.Sort m) minuses) n e h = subst HasSize (same_Some m n e) (width_bits m h)
says_bits _ n e h = absurd (none-some n e)

-- the width of a sort of words
bits_size : (lines : List FullLine) (id n : ℕ) → IsAccepted lines → bits_at lines id ≡ Some n → HasSize n
bits_size lines id n h is =
    let found = then_parts (λ (x : FullLine). line_bits x.says) (find_line lines id) n is in
    says_bits found.0.says n found.2 (stood lines id found.0 h found.1).passed.width

-- a sort of words has a width
map_parts : (o : Option ℕ) (s : Sort) → option_map (λ n. words n) o ≡ Some s → (n : ℕ) × (o ≡ Some n) × (words n ≡ s)
map_parts None s h = absurd (none-some s h)
map_parts (Some n) s h = (n, refl, same_Some (words n) s h)

array_parts : (o p : Option ℕ) (s : Sort) → option_and_then (λ k. option_map (λ n. arrays k n) p) o ≡ Some s → (k n : ℕ) × (o ≡ Some k) × (p ≡ Some n) × (arrays k n ≡ s)
array_parts None p s h = absurd (none-some s h)
array_parts (Some k) None s h = absurd (none-some s h)
array_parts (Some k) (Some n) s h = (k, n, refl, refl, same_Some (arrays k n) s h)

pub bits_from : (lines : List FullLine) (id k : ℕ) → sort_at lines id ≡ Some (words k) → bits_at lines id ≡ Some k
bits_from lines id k h =
    let found = then_parts (λ (x : FullLine). line_sort lines x.says) (find_line lines id) (words k) h in
    ap (option_and_then (λ (x : FullLine). line_bits x.says)) found.1 ∙ by found.0.says found.2
  where
    by : (b : Says) → line_sort lines b ≡ Some (words k) → line_bits b ≡ Some k
    by (form b minuses) e = let parts = map_parts (sort_bits b) (words k) e in parts.1 ∙ ap (λ (n : ℕ). Some n) (cc (parts.2))
    by (array_sort index element) e = let parts = array_parts (bits_at lines index) (bits_at lines element) (words k) e in absurd (cc (parts.4))
    by _ e = absurd (none-some (words k) e)

pub made : (o p : Option Sort) → makes_arrays o p ≡ true → (k n : ℕ) × (o ≡ Some (words k)) × (p ≡ Some (words n)) × (nat_le (2 ^ k * n) greatest_width ≡ true)
made (Some (words k)) (Some (words n)) h = (k, n, refl, refl, h)
made _ _ h = absurd (cc)

arrays_fit : (before more : List FullLine) (index element k n : ℕ) → is_no_array_sort before (array_sort index element) ≡ false → bits_at (before ++ more) index ≡ Some k → bits_at (before ++ more) element ≡ Some n
    → 2 ^ k * n ≤ greatest_width
unfolding is_no_array_sort
arrays_fit before more index element k n row first second =
    let parts = made (sort_at before index) (sort_at before element) (not-false _ row) in
    let same_k : parts.0 ≡ k = same_Some parts.0 k (sym (bits_on before more index parts.0 (bits_from before index parts.0 parts.2)) ∙ first) in
    let same_n : parts.1 ≡ n = same_Some parts.1 n (sym (bits_on before more element parts.1 (bits_from before element parts.1 parts.3)) ∙ second) in
    subst (λ (j : ℕ). 2 ^ j * n ≤ greatest_width) same_k (subst (λ (m : ℕ). 2 ^ parts.0 * m ≤ greatest_width) same_n (leb-true (2 ^ parts.0 * parts.1) greatest_width parts.4))

cells_some : (k n : ℕ) → 1 ≤ n → 1 ≤ 2 ^ k * n
cells_some k n h =
    let some : 1 ≤ 2 ^ k = pow_pos k in
    let more : 2 ^ k * 1 ≤ 2 ^ k * n = mul-le-mul_left {m = 1} {n = n} (2 ^ k) h in
    omega (arith, some, more)

-- the size of a sort
pub sort_has_size : (lines : List FullLine) (id : ℕ) (s : Sort) → IsAccepted lines → sort_at lines id ≡ Some s → HasSize (sort_size s)
sort_has_size lines id s h is =
    let found = then_parts (λ (x : FullLine). line_sort lines x.says) (find_line lines id) s is in
    let w = stood lines id found.0 h found.1 in
    by found.0.says w.before (found.0 ∷ w.after) w.splits found.2 w.passed.width w.passed.arrays
  where
    by : (b : Says) (before more : List FullLine) → lines ≡ before ++ more → line_sort lines b ≡ Some s → width_is_out_of_range b ≡ false → is_no_array_sort before b ≡ false → HasSize (sort_size s)
    by (form b minuses) before more splits e width row = let parts = map_parts (sort_bits b) s e in subst (λ (t : Sort). HasSize (sort_size t)) parts.2 (says_bits (form b minuses) parts.0 parts.1 width)
    by (array_sort index element) before more splits e width row =
        let parts = array_parts (bits_at lines index) (bits_at lines element) s e in
        let some = (bits_size lines element parts.1 h parts.3).0 in
        let first = ap (λ (l : List FullLine). bits_at l index) (sym splits) ∙ parts.2 in
        let second = ap (λ (l : List FullLine). bits_at l element) (sym splits) ∙ parts.3 in
        subst (λ (t : Sort). HasSize (sort_size t)) parts.4 (cells_some parts.0 parts.1 some, arrays_fit before more index element parts.0 parts.1 row first second)
    by _ before more splits e width row = absurd (none-some s e)

-- the size of a node
pub node_has_size : (lines : List FullLine) (id : ℕ) (s : Sort) → IsAccepted lines → sort_of_node lines id ≡ Some s → HasSize (sort_size s)
node_has_size lines id s h is =
    let found = then_parts (λ (x : FullLine). sort_of lines x.says) (find_line lines id) s is in
    let named = then_parts (sort_at lines) (sort_named found.0.says) s found.2 in
    sort_has_size lines named.0 s h named.2

-- of what is kept
pub kept_size : (lines : List FullLine) (id : ℕ) (o : Option Kept) → IsAccepted lines → option_map sort_value o ≡ sort_at lines id → IfSome o (λ s. HasSize (sort_size (sort_value s)))
kept_size lines id None h e = tt
kept_size lines id (Some s) h e = sort_has_size lines id (sort_value s) h (sym e)

pub kept_node_size : (lines : List FullLine) (id : ℕ) (o : Option Kept) → IsAccepted lines → option_map sort_value o ≡ sort_of_node lines id → IfSome o (λ s. HasSize (sort_size (sort_value s)))
kept_node_size lines id None h e = tt
kept_node_size lines id (Some s) h e = node_has_size lines id (sort_value s) h (sym e)

pub words_size : (o : Option Kept) → IfSome o (λ s. HasSize (sort_size (sort_value s))) → is_words (option_map sort_value o) ≡ true → HasSize (width_in (option_map sort_value o))
words_size None h e = absurd (cc)
words_size (Some (kept.Words n)) h e = h
words_size (Some (kept.Arrays k n)) h e = absurd (cc)

-- the state of an init or a next is a node
pub first_there : (lines : List FullLine) (b : Body) (t : ℕ) → operand_is_missing lines (form b []) ≡ false
    → ((s : ℕ) × (v : ℕ) × (b ≡ body.Init s t v)) ⊎ ((s : ℕ) × (v : ℕ) × (b ≡ body.Next s t v)) → is_some (sort_of_node lines t) ≡ true
unfolding operand_is_missing
first_there lines b t h (inl x) = (and_parts (is_some (sort_of_node lines t)) _ (not-false _ (subst (λ (c : Body). operand_is_missing lines (form c []) ≡ false) x.2 h))).0
first_there lines b t h (inr x) = (and_parts (is_some (sort_of_node lines t)) _ (not-false _ (subst (λ (c : Body). operand_is_missing lines (form c []) ≡ false) x.2 h))).0

-- where no node or no minus is left
pub no_ids : (lines : List FullLine) (ids : List ℕ) (minuses : List Bool) → length ids ≡ 0 → minuses_at_words lines ids minuses ≡ true
no_ids lines [] minuses h = refl
no_ids lines (a ∷ ids) minuses h = absurd (omega (arith, h))

pub no_minuses : (lines : List FullLine) (ids : List ℕ) (minuses : List Bool) → length minuses ≡ 0 → minuses_at_words lines ids minuses ≡ true
no_minuses lines [] minuses h = refl
no_minuses lines (a ∷ ids) [] h = refl
no_minuses lines (a ∷ ids) (m ∷ minuses) h = absurd (omega (arith, h))

pub none_at_array : (lines : List FullLine) (b : Body) (minuses : List Bool) → length minuses ≡ 0 → minus_is_at_array lines (form b minuses) ≡ false
unfolding minus_is_at_array
none_at_array lines b minuses h = ap not (no_minuses lines (operands b) minuses h)
