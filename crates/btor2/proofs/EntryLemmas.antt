-- What the items of a model are to those that name them, once one more item is added, and as it is looked up.
use Rattle.std.proofs.Common.{◌≡◌, ℕ, ◌≤◌, List, [], ◌∷◌, ◌++◌, map, Option, Some, None, IfSome, slice_get, option_and_then, refl, sym, ap, ap₂, subst, ◌∙◌, append_assoc}
use Rattle.std.proofs.lemmas.List.{map-append}
use Rattle.std.proofs.lemmas.Option.{none-some, same_Some}
use Rattle.btor2.specs.declared.item.Item.{Item}
use Rattle.btor2.specs.declared.item.Body.{Body}
use Rattle.btor2.specs.declared.item.Body.TheVariants as body
use Rattle.btor2.specs.declared.model.entries.Entry.{Entry}
use Rattle.btor2.specs.Items.{node_sort, sort_bits, sort_width, width_of_body, node_width, position_of}
use Rattle.btor2.specs.Check.{refusal, IsWellFormed}
use Rattle.btor2.specs.Lists.{width_at}
use Rattle.btor2.specs.Entries.{entry_sort, entry_node, entry_by, entry_of}
use Rattle.btor2.proofs.AppendLemmas.{sort_width-append}
use Rattle.btor2.proofs.AcceptedLemmas.{HasSort, BodyIsAccepted, IsAccepted-from_refusal}
use Rattle.btor2.proofs.LookUps.{item_at, no_item}
use Rattle.btor2.proofs.ModelLemmas.{refusal-at}

-- ---- the sort of an accepted item is there, and stays

has_sort : (items : List Item) (b : Body) (s : ℕ) → BodyIsAccepted items b → node_sort b ≡ Some s → HasSort items s
has_sort items (body.Input t) s h e = subst (HasSort items) (same_Some t s e) h
has_sort items (body.State t) s h e = subst (HasSort items) (same_Some t s e) h
has_sort items (body.Zero t) s h e = subst (HasSort items) (same_Some t s e) h
has_sort items (body.One t) s h e = subst (HasSort items) (same_Some t s e) h
has_sort items (body.Ones t) s h e = subst (HasSort items) (same_Some t s e) h
has_sort items (body.Const t d v) s h e = subst (HasSort items) (same_Some t s e) (h.0, h.1)
has_sort items (body.Constd t v) s h e = subst (HasSort items) (same_Some t s e) (h.0, h.1)
has_sort items (body.Consth t d v) s h e = subst (HasSort items) (same_Some t s e) (h.0, h.1)
has_sort items (body.Uext t a by) s h e = subst (HasSort items) (same_Some t s e) (_, h.2)
has_sort items (body.Sext t a by) s h e = subst (HasSort items) (same_Some t s e) (_, h.2)
has_sort items (body.Slice t a u l) s h e = subst (HasSort items) (same_Some t s e) (_, h.2)
has_sort items (body.Unary op t a) s h e = subst (HasSort items) (same_Some t s e) (_, h.2)
has_sort items (body.Binary op t a b) s h e = subst (HasSort items) (same_Some t s e) (_, h.3)
has_sort items (body.Concat t a b) s h e = subst (HasSort items) (same_Some t s e) (_, h.4)
has_sort items (body.Ite t c f g) s h e = subst (HasSort items) (same_Some t s e) (_, h.4)
has_sort items _ s h e = absurd (none-some s e)

sort_stays : (before more : List Item) (o : Option ℕ) → ((s : ℕ) → o ≡ Some s → HasSort before s) → option_and_then (sort_width (before ++ more)) o ≡ option_and_then (sort_width before) o
sort_stays before more None h = refl
sort_stays before more (Some s) h = let there = h s refl in sort_width-append before more s there.0 there.1 ∙ sym there.1

-- the width of an accepted item stays, whatever follows
width_stays : (before more : List Item) (x : Item) → refusal before x ≡ None → width_of_body (before ++ more) x.body ≡ width_of_body before x.body
width_stays before more x r = sort_stays before more (node_sort x.body) (λ s e. has_sort before x.body s (IsAccepted-from_refusal before x r).says e)

-- ---- one more item

entries_stay : (front xs more : List Item) → IsWellFormed (front ++ xs) → map (λ (x : Item). entry_of ((front ++ xs) ++ more) x.body) xs ≡ map (λ (x : Item). entry_of (front ++ xs) x.body) xs
entries_stay front [] more h = refl
entries_stay front (x ∷ xs) more h =
    let accepted = refusal-at front xs x h in
    let long : width_of_body ((front ++ x ∷ xs) ++ more) x.body ≡ width_of_body front x.body = ap (λ (l : List Item). width_of_body l x.body) (append_assoc front (x ∷ xs) more) ∙ width_stays front (x ∷ (xs ++ more)) x accepted in
    let own = long ∙ sym (width_stays front (x ∷ xs) x accepted) in
    let next : (front ++ x ∷ []) ++ xs ≡ front ++ x ∷ xs = append_assoc front (x ∷ []) xs in
    let rest = subst (λ (l : List Item). map (λ (y : Item). entry_of (l ++ more) y.body) xs ≡ map (λ (y : Item). entry_of l y.body) xs) next (entries_stay (front ++ x ∷ []) xs more (subst IsWellFormed (sym next) h)) in
    ap₂ (λ (a : Entry) (l : List Entry). a ∷ l) (ap (entry_by (sort_bits x.body)) own) rest

pub entries-added : (xs ys : List Item) (x : Item) (old between new : List Entry) (own : Entry) → IsWellFormed xs → refusal xs x ≡ None → ys ≡ xs ++ x ∷ []
    → old ≡ map (λ (y : Item). entry_of xs y.body) xs → between ≡ old → own ≡ entry_of xs x.body → new ≡ between ++ own ∷ [] → new ≡ map (λ (y : Item). entry_of ys y.body) ys
entries-added xs ys x old between new own h r e before kept is after =
    let mine : own ≡ entry_of (xs ++ x ∷ []) x.body = is ∙ ap (entry_by (sort_bits x.body)) (sym (width_stays xs (x ∷ []) x r)) in
    let others : between ≡ map (λ (y : Item). entry_of (xs ++ x ∷ []) y.body) xs = kept ∙ before ∙ sym (entries_stay [] xs (x ∷ []) h) in
    after ∙ ap₂ (λ (l : List Entry) (a : Entry). l ++ a ∷ []) others mine ∙ sym (map-append (λ (y : Item). entry_of (xs ++ x ∷ []) y.body) xs (x ∷ []))
    ∙ ap (λ (l : List Item). map (λ (y : Item). entry_of l y.body) l) (sym e)

-- an accepted sort has 1 to 64 bits
bits_fit : (items : List Item) (b : Body) → BodyIsAccepted items b → IfSome (sort_bits b) (λ n. (1 ≤ n) × (n ≤ 64))
bits_fit items (body.Sort n) h = h
bits_fit items _ h = tt

pub sort_fits : (xs : List Item) (x : Item) → refusal xs x ≡ None → IfSome (sort_bits x.body) (λ n. (1 ≤ n) × (n ≤ 64))
sort_fits xs x r = bits_fit xs x.body (IsAccepted-from_refusal xs x r).says

-- ---- of an id

-- what its item is to those that name it
pub entry-found : (items : List Item) (id place : ℕ) (entry : Entry) → Some place ≡ position_of items id
    → (entry_sort entry ≡ option_and_then (λ (x : Item). sort_bits x.body) (slice_get items place)) → entry_node entry ≡ width_at items place
    → (entry_sort entry ≡ sort_width items id) × (entry_node entry ≡ node_width items id)
entry-found items id place entry at sort node =
    let same = item_at items id place at in
    (sort ∙ ap (option_and_then (λ (x : Item). sort_bits x.body)) same, node ∙ ap (option_and_then (λ (x : Item). width_of_body items x.body)) same)

pub entry-missing : (items : List Item) (id : ℕ) → None ≡ position_of items id → (None ≡ sort_width items id) × (None ≡ node_width items id)
entry-missing items id at =
    let none = no_item items id (sym at) in
    (sym (ap (option_and_then (λ (x : Item). sort_bits x.body)) none), sym (ap (option_and_then (λ (x : Item). width_of_body items x.body)) none))
