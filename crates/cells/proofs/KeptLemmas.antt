-- How a list that grows is kept.
use Rattle.std.proofs.Common.{◌≡◌, ℕ, ◌+◌, ◌<◌, ◌≤◌, ◌⊎◌, ⊎_elim, Bool, true, false, cond, nat_eq, nat_le, le-leb, leb-true, eqb-true, List, [], ◌∷◌, ◌++◌, length, Option, Some, None, IfSome, Result, Ok, Err, unwrap_or, option_and_then, refl, sym, ap, subst, ◌∙◌, arith}
use Rattle.std.specs.Prelude.{OnOk, OnErr}
use Rattle.std.proofs.lemmas.Option.{none-some}
use Rattle.btor2.specs.declared.item.Item.{Item}
use Rattle.btor2.specs.declared.item.Body.{Body}
use Rattle.btor2.specs.declared.fault.PushFault.{PushFault}
use Rattle.btor2.specs.declared.fault.PushFault.TheVariants as fault
use Rattle.btor2.specs.Items.{find_item, sort_width, node_sort, node_width}
use Rattle.btor2.specs.Check.{first_row, id_is_out_of_range, id_is_taken}
use Rattle.btor2.specs.Trace.{bits_of}
use Rattle.btor2.proofs.AppendLemmas.{sort_width-append, then_parts}
use Rattle.wide.specs.WideModels.{greatest_width, wide_refusal, wide_id_rows, IsWideModel}
use Rattle.wide.proofs.GrowLemmas.{sort_range, id_accepted}
use Rattle.cells.specs.Lines.{named, IsNumbered}
use Rattle.cells.specs.Kept.{IsSound}
use Rattle.cells.proofs.PlaceLemmas.{free_behind, numbered_more}

if_some : (o : Option ℕ) (P Q : ℕ → Type 0) → ((x : ℕ) → P x → Q x) → IfSome o P → IfSome o Q
if_some None P Q f h = tt
if_some (Some x) P Q f h = f x h

-- ---- one line more

pub numbered_pushed : (old new : List Item) (id : ℕ) (symbol : Option (List ℕ)) (b : Body) → IsNumbered old → id ≡ length old + 1 → new ≡ old ++ named id symbol b ∷ [] → IsNumbered new
numbered_pushed old new id symbol b h is made = subst IsNumbered (sym made) (numbered_more old (named id symbol b) h is)

pub sorts_pushed : (old new more : List Item) (sorts : ℕ → Option ℕ) → new ≡ old ++ more → ((width : ℕ) → IfSome (sorts width) (λ id. sort_width old id ≡ Some width)) → (width : ℕ) → IfSome (sorts width) (λ id. sort_width new id ≡ Some width)
sorts_pushed old new more sorts is h width =
    if_some (sorts width) (λ id. sort_width old id ≡ Some width) (λ id. sort_width new id ≡ Some width)
    (λ id k. ap (λ (l : List Item). sort_width l id) is ∙ sort_width-append old more id width k) (h width)

-- with a sort's id kept
pub sorts_kept : (items : List Item) (old new : ℕ → Option ℕ) (width id : ℕ) → sort_width items id ≡ Some width → ((k : ℕ) → new k ≡ cond (nat_eq k width) (Some id) (old k))
    → ((k : ℕ) → IfSome (old k) (λ i. sort_width items i ≡ Some k)) → (k : ℕ) → IfSome (new k) (λ i. sort_width items i ≡ Some k)
sorts_kept items old new width id sort is h k = subst (λ (o : Option ℕ). IfSome o (λ i. sort_width items i ≡ Some k)) (sym (is k)) (by (nat_eq k width) refl)
  where
    by : (b : Bool) → nat_eq k width ≡ b → IfSome (cond b (Some id) (old k)) (λ i. sort_width items i ≡ Some k)
    by true e = sort ∙ ap (λ (n : ℕ). Some n) (sym (eqb-true k width e))
    by false e = h k

-- with the same sorts kept
pub sorts_same : (items : List Item) (old new : ℕ → Option ℕ) → ((k : ℕ) → new k ≡ old k) → ((k : ℕ) → IfSome (old k) (λ i. sort_width items i ≡ Some k)) → (k : ℕ) → IfSome (new k) (λ i. sort_width items i ≡ Some k)
sorts_same items old new is h k = subst (λ (o : Option ℕ). IfSome o (λ i. sort_width items i ≡ Some k)) (sym (is k)) (h k)

-- a sort that is kept
pub kept_sort : (items : List Item) (sorts : Option ℕ) (width id : ℕ) → IfSome sorts (λ i. sort_width items i ≡ Some width) → sorts ≡ Some id → sort_width items id ≡ Some width
kept_sort items sorts width id h is = subst (λ (o : Option ℕ). IfSome o (λ i. sort_width items i ≡ Some width)) is h

-- whether the line was added or not
pub kept_after : (old new : List Item) (id : ℕ) (symbol : Option (List ℕ)) (b : Body) (sorts : ℕ → Option ℕ) (r : Result (Unit {0}) PushFault) → IsNumbered old → ((width : ℕ) → IfSome (sorts width) (λ i. sort_width old i ≡ Some width)) → id ≡ length old + 1
    → OnOk r (new ≡ old ++ named id symbol b ∷ []) → OnErr r (new ≡ old) → IsNumbered new × ((width : ℕ) → IfSome (sorts width) (λ i. sort_width new i ≡ Some width))
kept_after old new id symbol b sorts (Ok u) h k is made stands = (numbered_pushed old new id symbol b h is made, sorts_pushed old new (named id symbol b ∷ []) sorts made k)
kept_after old new id symbol b sorts (Err e) h k is made stands =
    (subst IsNumbered (sym stands) h, subst (λ (l : List Item). (width : ℕ) → IfSome (sorts width) (λ i. sort_width l i ≡ Some width)) (sym stands) k)

-- ---- what is sound is not refused

not_le : (a b : ℕ) → b < a → nat_le a b ≡ false
not_le a b h = by (nat_le a b) refl
  where
    by : (c : Bool) → nat_le a b ≡ c → c ≡ false
    by true e = absurd (omega (arith, leb-true a b e))
    by false e = refl

id_is_free : (items : List Item) (id : ℕ) → IsNumbered items → length items < 1048576 → id ≡ length items + 1 → first_row (wide_id_rows greatest_width items id) ≡ None
unfolding id_is_out_of_range id_is_taken
id_is_free items id h few is =
    rw (not_le 1048576 (length items) few, le-leb 1 id (omega arith), le-leb id 4294967295 (omega arith), free_behind items id h (omega arith)) refl

pub accepted : (items : List Item) (id : ℕ) (symbol : Option (List ℕ)) (b : Body) → IsNumbered items → length items < 1048576 → id ≡ length items + 1 → IsSound items b → wide_refusal greatest_width items (named id symbol b) ≡ None
unfolding IsSound
accepted items id symbol b h few is sound = id_accepted items (named id symbol b) (id_is_free items id h few is) ∙ sound

-- so a push answers want of memory where it is not done
pub refused_for_memory : (items : List Item) (id : ℕ) (symbol : Option (List ℕ)) (b : Body) (e : PushFault) → IsNumbered items → length items < 1048576 → id ≡ length items + 1 → IsSound items b
    → (wide_refusal greatest_width items (named id symbol b) ≡ Some e) ⊎ ((wide_refusal greatest_width items (named id symbol b) ≡ None) × (e ≡ fault.NoMemory)) → e ≡ fault.NoMemory
refused_for_memory items id symbol b e h few is sound answer =
    ⊎_elim (λ refused. absurd (none-some e (sym (accepted items id symbol b h few is sound) ∙ refused))) (λ memory. memory.1) answer

-- ---- widths of nodes

pub node_range : (items : List Item) (a n : ℕ) → IsWideModel greatest_width items → node_width items a ≡ Some n → (1 ≤ n) × (n ≤ greatest_width)
node_range items a n h is =
    let found = then_parts (λ (x : Item). option_and_then (sort_width items) (node_sort x.body)) (find_item items a) n is in
    let sort = then_parts (sort_width items) (node_sort found.0.body) n found.2 in
    sort_range greatest_width items sort.0 n h sort.2

pub bits_most : (items : List Item) (a : ℕ) → IsWideModel greatest_width items → bits_of items a ≤ greatest_width
bits_most items a h = by (node_width items a) refl
  where
    by : (o : Option ℕ) → node_width items a ≡ o → unwrap_or o 0 ≤ greatest_width
    by None e = omega arith
    by (Some n) e = (node_range items a n h e).1
