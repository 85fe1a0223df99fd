-- What is kept of a line is what the list says of it, and where lines stand by their ids.
use Rattle.std.proofs.Common.{◌≡◌, ℕ, suc, ◌+◌, ◌<◌, Bool, true, false, cond, nat_eq, List, [], ◌∷◌, ◌++◌, map, Option, Some, None, IfSome, is_some, option_map, option_and_then, slice_get, refl, sym, ap, ◌∙◌, arith}
use Rattle.std.specs.List.{position_from}
use Rattle.btor2.specs.declared.item.Body.{Body}
use Rattle.btor2.specs.declared.item.Body.TheVariants as body
use Rattle.btor2.specs.Items.{is_state, node_sort, sort_bits}
use Rattle.full.specs.Lines.{Says, form, array_sort, read, write, FullLine, Sort, words, arrays, find_line, bits_at, line_sort, sort_at, sort_of, sort_of_node, is_form}
use Rattle.fullmodel.specs.Lines.{sort_value}
use Rattle.fullmodel.specs.Entries.{kept_sort, entry_by, entry_of, entry_at, entry_sort, entry_node}

value_kept : (s : Sort) → sort_value (kept_sort s) ≡ s
value_kept (words n) = refl
value_kept (arrays k n) = refl

-- a line makes no sort or has no node
node_by : (o : Option Sort) (state : Bool) → entry_node (Some (entry_by None o state)) ≡ o
node_by None state = refl
node_by (Some s) true = ap (λ (t : Sort). Some t) (value_kept s)
node_by (Some s) false = ap (λ (t : Sort). Some t) (value_kept s)

no_node : (o : Option Sort) (state : Bool) → entry_node (Some (entry_by o None state)) ≡ None
no_node None state = refl
no_node (Some s) state = refl

said_node : (lines : List FullLine) (b : Says) → entry_node (Some (entry_of lines b)) ≡ sort_of lines b
said_node lines (form (body.Sort n) minuses) = refl
said_node lines (form b minuses) = node_by (option_and_then (sort_at lines) (node_sort b)) (is_state b)
said_node lines (array_sort index element) = no_node (line_sort lines (array_sort index element)) false
said_node lines (read s array index) = node_by (sort_at lines s) false
said_node lines (write s array index word) = node_by (sort_at lines s) false

pub node_kept : (lines : List FullLine) (id : ℕ) → entry_node (entry_at lines id) ≡ sort_of_node lines id
node_kept lines id = by (find_line lines id)
  where
    by : (o : Option FullLine) → entry_node (option_map (λ (x : FullLine). entry_of lines x.says) o) ≡ option_and_then (λ (x : FullLine). sort_of lines x.says) o
    by None = refl
    by (Some x) = said_node lines x.says

-- a sort
sort_by : (o p : Option Sort) (state : Bool) → (o ≡ None → entry_sort (Some (entry_by None p state)) ≡ None) → entry_sort (Some (entry_by o p state)) ≡ o
sort_by None p state h = h refl
sort_by (Some s) p state h = ap (λ (t : Sort). Some t) (value_kept s)

no_sort : (p : Option Sort) (state : Bool) → entry_sort (Some (entry_by None p state)) ≡ None
no_sort None state = refl
no_sort (Some s) true = refl
no_sort (Some s) false = refl

said_sort : (lines : List FullLine) (b : Says) → entry_sort (Some (entry_of lines b)) ≡ line_sort lines b
said_sort lines b = sort_by (line_sort lines b) (sort_of lines b) (is_form is_state b) (λ e. no_sort (sort_of lines b) (is_form is_state b))

pub sort_kept : (lines : List FullLine) (id : ℕ) → entry_sort (entry_at lines id) ≡ sort_at lines id
sort_kept lines id = by (find_line lines id)
  where
    by : (o : Option FullLine) → entry_sort (option_map (λ (x : FullLine). entry_of lines x.says) o) ≡ option_and_then (λ (x : FullLine). line_sort lines x.says) o
    by None = refl
    by (Some x) = said_sort lines x.says

-- ---- places

-- behind so many others the place is that much further
found_from : (lines : List FullLine) (id k : ℕ) → IfSome (position_from (nat_eq id) k (map (λ (x : FullLine). x.id) lines)) (λ p. (j : ℕ) × (p ≡ k + j) × (find_line lines id ≡ slice_get lines j))
found_from [] id k = tt
found_from (x ∷ xs) id k = by (nat_eq id x.id) (found_from xs id (k + 1))
  where
    behind : (o : Option ℕ) → IfSome o (λ p. (j : ℕ) × (p ≡ k + 1 + j) × (find_line xs id ≡ slice_get xs j)) → IfSome o (λ p. (j : ℕ) × (p ≡ k + j) × (find_line xs id ≡ slice_get (x ∷ xs) j))
    behind None h = tt
    behind (Some p) h = (suc h.0, omega (arith, h.1), h.2)

    by : (b : Bool) → IfSome (position_from (nat_eq id) (k + 1) (map (λ (y : FullLine). y.id) xs)) (λ p. (j : ℕ) × (p ≡ k + 1 + j) × (find_line xs id ≡ slice_get xs j))
        → IfSome (cond b (Some k) (position_from (nat_eq id) (k + 1) (map (λ (y : FullLine). y.id) xs))) (λ p. (j : ℕ) × (p ≡ k + j) × (cond b (Some x) (find_line xs id) ≡ slice_get (x ∷ xs) j))
    by true h = (0, omega arith, refl)
    by false h = behind (position_from (nat_eq id) (k + 1) (map (λ (y : FullLine). y.id) xs)) h

pub found_at : (lines : List FullLine) (id : ℕ) (o : Option ℕ) → o ≡ position_from (nat_eq id) 0 (map (λ (x : FullLine). x.id) lines) → IfSome o (λ p. find_line lines id ≡ slice_get lines p)
found_at lines id o e = by o (rw e (found_from lines id 0))
  where
    by : (p : Option ℕ) → IfSome p (λ p. (j : ℕ) × (p ≡ 0 + j) × (find_line lines id ≡ slice_get lines j)) → IfSome p (λ p. find_line lines id ≡ slice_get lines p)
    by None h = tt
    by (Some p) h = let same : h.0 ≡ p = omega (arith, h.1) in h.2 ∙ ap (slice_get lines) same
