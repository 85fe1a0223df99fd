-- What the reading calls of a settled run answer.
use Rattle.std.proofs.Common.{◌≡◌, ℕ, ◌<◌, Bool, true, List, length, map, get_or, slice_get, Option, Some, is_some, refl, ap, ◌∙◌, arith}
use Rattle.std.proofs.lemmas.List.{length-map}
use Rattle.btor2.specs.declared.item.Item.{Item}
use Rattle.btor2.specs.declared.item.Body.{Body}
use Rattle.btor2.specs.declared.item.Body.TheVariants as body
use Rattle.btor2.specs.Items.{find_item, node_sort, sort_width, node_width, width_of_body, operands, is_state, is_bad, is_constraint}
use Rattle.btor2.specs.Lists.{places, width_at, of_kind}
use Rattle.btor2.specs.Trace.{Frame, IsFrame}
use Rattle.btor2.proofs.AppendLemmas.{some_of, then_parts, is_some_from}
use Rattle.btor2.proofs.AcceptedLemmas.{Each}
use Rattle.btor2.proofs.ModelLemmas.{find_item-at}
use Rattle.runs.specs.declared.nodes.Node.{Node}
use Rattle.runs.specs.Frames.{has_value, given_at, given_leaves}
use Rattle.runs.specs.Run.{property_id}
use Rattle.runs.specs.Nodes.{slot, words_at}
use Rattle.runs.specs.Holds.{Keeps}
use Rattle.runs.proofs.RankLemmas.{rank-below, nth, length-places}
use Rattle.runs.proofs.NodeLemmas.{node_found}
use Rattle.runs.proofs.PlaceLemmas.{place_inside, map_read, operands_of}
use Rattle.runs.proofs.StateLemmas.{nth-get}

-- what is read at a place of the now-values is the word of a node in the run's frame
pub record Reads (items : List Item) (states inputs values : List ℕ) (place id : ℕ) : Type 0 where
  pub inside : place < length values
  pub word : (f : Frame) → IsFrame items (given_at is_state items (words_at values states)) (given_leaves items (words_at values states) (words_at values inputs)) f → get_or values place 0 ≡ f id

module _ (items : List Item) (nodes : List Node) (slots states inputs : List ℕ) (nexts : List (Option ℕ)) (bads constraints values next_values : List ℕ) (settled : Bool) (k : Keeps items nodes slots states inputs nexts bads constraints values next_values settled)
    (done : settled ≡ true) where
  reads_found : (id place : ℕ) (y : Item) → find_item items id ≡ Some y → has_value y.body ≡ true → place ≡ slot items id → Reads items states inputs values place id
  reads_found id place y found has e =
      record {
        inside = omega (arith, e, rank-below has_value items id y found has, k.many_nodes);
        word = λ f frame. ap (λ (p : ℕ). get_or values p 0) e ∙ k.frame done f frame id y found has;
      }

  -- the node at a place of the model
  pub record ReadsNode (node : ℕ) : Type 0 where
    pub item : Item
    pub at : slice_get items node ≡ Some item
    pub inside_slots : node < length slots
    pub reads : Reads items states inputs values (get_or slots node 0) item.id

  pub node_reads : (node : ℕ) → is_some (width_at items node) ≡ true → ReadsNode node
  node_reads node there =
      let width = some_of (width_at items node) there in
      let parts = then_parts (λ (x : Item). width_of_body items x.body) (slice_get items node) width.0 width.1 in
      let x = parts.0 in
      let sort = then_parts (sort_width items) (node_sort x.body) width.0 parts.2 in
      let found = find_item-at items node x k.well_formed parts.1 in
      let place : get_or slots node 0 ≡ slot items x.id = ap (λ (l : List ℕ). get_or l node 0) k.are_slots ∙ map_read (λ (y : Item). slot items y.id) items node x parts.1 in
      record {
        item = x;
        at = parts.1;
        inside_slots = omega (arith, ap length k.are_slots, length-map items (λ (y : Item). slot items y.id), place_inside items node x parts.1);
        reads = reads_found x.id (get_or slots node 0) x found (is_some_from (node_sort x.body) sort.0 sort.1) place;
      }

  -- the property at an index of its list
  pub record ReadsProperty (test : Body → Bool) (list : List ℕ) (i : ℕ) : Type 0 where
    pub item : Item
    pub at : slice_get items (get_or (places test 0 items) i 0) ≡ Some item
    pub inside_list : i < length list
    pub reads : Reads items states inputs values (get_or list i 0) (property_id item.body)

  property_reads : (test : Body → Bool) (list : List ℕ) (i : ℕ) → ((place : ℕ) (x : Item) → slice_get items place ≡ Some x → test x.body ≡ true → is_some (node_width items (property_id x.body)) ≡ true)
      → list ≡ map (λ x. slot items (property_id x.body)) (of_kind test items) → i < length (places test 0 items) → ReadsProperty test list i
  property_reads test list i operand own h =
      let there = nth test items i (omega (arith, length-places test 0 items)) in
      let at = nth-get test items i there.0 there.1 in
      let wide = operand (get_or (places test 0 items) i 0) there.0 at there.1.is in
      let width = some_of (node_width items (property_id there.0.body)) wide in
      let node = node_found items (property_id there.0.body) width.0 width.1 in
      let place : get_or list i 0 ≡ slot items (property_id there.0.body) = ap (λ (l : List ℕ). get_or l i 0) own ∙ map_read (λ (x : Item). slot items (property_id x.body)) (of_kind test items) i there.0 there.1.stands in
      record {
        item = there.0;
        at = at;
        inside_list = omega (arith, ap length own, length-map (of_kind test items) (λ (x : Item). slot items (property_id x.body)), length-places test 0 items);
        reads = reads_found (property_id there.0.body) (get_or list i 0) node.0 node.1 node.2 place;
      }

  bad_there : (place : ℕ) (x : Item) → slice_get items place ≡ Some x → is_bad x.body ≡ true → is_some (node_width items (property_id x.body)) ≡ true
  bad_there place x at is = by x.body is (operands_of items place x x.body k.well_formed at refl)
    where
      by : (b : Body) → is_bad b ≡ true → Each (λ a. is_some (node_width items a) ≡ true) (operands b) → is_some (node_width items (property_id b)) ≡ true
      by (body.Bad a) is h = h.0
      by _ is h = absurd (cc)

  constraint_there : (place : ℕ) (x : Item) → slice_get items place ≡ Some x → is_constraint x.body ≡ true → is_some (node_width items (property_id x.body)) ≡ true
  constraint_there place x at is = by x.body is (operands_of items place x x.body k.well_formed at refl)
    where
      by : (b : Body) → is_constraint b ≡ true → Each (λ a. is_some (node_width items a) ≡ true) (operands b) → is_some (node_width items (property_id b)) ≡ true
      by (body.Constraint a) is h = h.0
      by _ is h = absurd (cc)

  pub bad_reads : (i : ℕ) → i < length (places is_bad 0 items) → ReadsProperty is_bad bads i
  bad_reads i h = property_reads is_bad bads i bad_there k.are_bads h

  pub constraint_reads : (i : ℕ) → i < length (places is_constraint 0 items) → ReadsProperty is_constraint constraints i
  constraint_reads i h = property_reads is_constraint constraints i constraint_there k.are_constraints h
