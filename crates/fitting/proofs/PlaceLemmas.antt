-- The places of the pieces of a node.
use Rattle.std.proofs.Common.{◌≡◌, ℕ, ◌+◌, ◌<◌, true, List, [], ◌∷◌, ◌++◌, length, take, get_or, slice_get, add-one, Option, Some, None, MatchOption, is_some, unwrap_or, option_and_then, refl, sym, ap, subst, ◌∙◌}
use Rattle.std.proofs.Math.Seq.{take-suc}
use Rattle.std.specs.List.{AllByRecursion, AllZip}
use Rattle.std.proofs.lemmas.Option.{none-some}
use Rattle.std.proofs.lemmas.List.{map-append}
use Rattle.btor2.specs.declared.item.Item.{Item}
use Rattle.btor2.specs.Items.{find_item, position_of, width_of_body, node_width}
use Rattle.btor2.proofs.AppendLemmas.{then_parts, some_of, is_some_from}
use Rattle.btor2.proofs.LookUps.{found}
use Rattle.btor2.proofs.ModelLemmas.{IsIn-from_find}
use Rattle.pieces.specs.declared.node.Node.{Node}
use Rattle.pieces.specs.Nodes.{AreNodes}
use Rattle.pieces.specs.Cuts.{IsCut}
use Rattle.fit.proofs.ListLemmas.{all_with}
use Rattle.fitting.specs.declared.fault.FitFault.TheVariants as fault
use Rattle.fitting.specs.Fitted.{Table, node_ids, layout_by, IsFitted}
use Rattle.fitting.specs.Laid.{HasPlace, IsLaid}
use Rattle.fitting.specs.Models.{IsUnfit}
use Rattle.fitting.proofs.AssemblyLemmas.{nodes_of_word, pieces_bits}
use Rattle.fitting.proofs.NameLemmas.{widths_known}

-- ---- one node

place_by : (items : List Item) (id : ℕ) (o : Option ℕ) (x : Item) (n : ℕ) → MatchOption o (find_item items id ≡ None) (λ k. slice_get items k ≡ find_item items id) → find_item items id ≡ Some x → width_of_body items x.body ≡ Some n → x.id ≡ id
    → (place : ℕ) × (o ≡ Some place) × HasPlace items id place
place_by items id None x n h found width same = absurd (none-some x (sym h ∙ found))
place_by items id (Some k) x n h found width same = (k, refl, (x, h ∙ found, same, is_some_from _ n (ap (option_and_then (λ (y : Item). width_of_body items y.body)) (h ∙ found) ∙ width)))

-- a node with a value has a place
pub has_place : (items : List Item) (id : ℕ) → is_some (node_width items id) ≡ true → (place : ℕ) × (position_of items id ≡ Some place) × HasPlace items id place
has_place items id h =
    let width = some_of (node_width items id) h in
    let parts = then_parts (λ (x : Item). width_of_body items x.body) (find_item items id) width.0 width.1 in
    place_by items id (position_of items id) parts.0 width.0 (found id items) parts.1 parts.2 (sym (IsIn-from_find items id parts.0 parts.1).1)

-- ---- the nodes of a word

pub nodes_there : (items : List Item) (ps : List Node) → AreNodes items ps → AllByRecursion (λ (p : Node). is_some (node_width items p.id) ≡ true) ps
nodes_there items ps h = all_with (λ (p : Node). node_width items p.id ≡ Some p.width) (λ (p : Node). is_some (node_width items p.id) ≡ true) ps (λ p own. is_some_from (node_width items p.id) p.width own) h

-- pairs of lists, with one more behind them
pub zip_more : {A B : Type 0} (P : A → B → Type 0) (xs : List A) (ys : List B) (x : A) (y : B) → AllZip P xs ys → P x y → AllZip P (xs ++ x ∷ []) (ys ++ y ∷ [])
zip_more P [] [] x y h own = (own, tt)
zip_more P [] (b ∷ ys) x y h own = absurd h
zip_more P (a ∷ xs) [] x y h own = absurd h
zip_more P (a ∷ xs) (b ∷ ys) x y h own = (h.0, zip_more P xs ys x y h.1 own)

-- the pieces of a node of a fitted list stand at the places of its nodes
pub laid : (wide : List Item) (table : Table) (narrow : List Item) (n : ℕ) (places : List ℕ) → IsFitted wide table narrow → is_some (node_width wide n) ≡ true → AllZip (HasPlace narrow) (node_ids (table.words n)) places
    → IsLaid wide narrow (layout_by table.words) n places
laid wide table narrow n places h there at =
    let width = some_of (node_width wide n) there in
    let word = nodes_of_word wide table narrow n width.0 h.stand width.1 in
    record {
      at = at;
      cut = subst (IsCut 64) (sym (widths_known narrow (table.words n) word.0.nodes)) word.0.cut;
      bits = pieces_bits narrow (table.words n) word.0.nodes ∙ word.1 ∙ sym (ap (λ (o : Option ℕ). unwrap_or o 0) width.1);
    }

-- and those nodes are there
pub words_there : (wide : List Item) (table : Table) (narrow : List Item) (n : ℕ) → IsFitted wide table narrow → is_some (node_width wide n) ≡ true → AllByRecursion (λ (p : Node). is_some (node_width narrow p.id) ≡ true) (table.words n)
words_there wide table narrow n h there =
    let width = some_of (node_width wide n) there in
    nodes_there narrow (table.words n) (nodes_of_word wide table narrow n width.0 h.stand width.1).0.nodes

-- ---- a list with a node has a line

pub no_memory : (wide : List Item) (n : ℕ) → is_some (node_width wide n) ≡ true → IsUnfit wide fault.NoMemory
no_memory [] n h = absurd (cc)
no_memory (x ∷ xs) n h = record { before = []; line = x; after = xs; is = refl; forms = tt; says = tt }

-- ---- one more of a list

pub take_next : {A : Type 0} (xs : List A) (k : ℕ) (d : A) → k < length xs → take (k + 1) xs ≡ take k xs ++ get_or xs k d ∷ []
take_next xs k d h = ap (λ (n : ℕ). take n xs) (add-one k) ∙ take-suc xs k d h

pub ids_next : (ps : List Node) (k : ℕ) (d : Node) → k < length ps → node_ids (take (k + 1) ps) ≡ node_ids (take k ps) ++ (get_or ps k d).id ∷ []
ids_next ps k d h = ap node_ids (take_next ps k d h) ∙ map-append (λ (p : Node). p.id) (take k ps) (get_or ps k d ∷ [])
