-- What stands of the lines so far, in all lists that go on.
use Rattle.std.proofs.Common.{◌≡◌, ℕ, zero, suc, ◌+◌, ◌<◌, Bool, true, false, cond, ◌||◌, nat_eq, eq-eqb, eqb-true, List, [], ◌∷◌, ◌++◌, map, filter, flat_map, Option, Some, None, IfSome, is_some, unwrap_or, option_and_then, append_assoc, append-nil, refl, sym, ap, ap₂, subst, ◌∙◌, inl, inr, arith}
use Rattle.std.specs.List.{AllByRecursion}
use Rattle.std.specs.Option.{option_or}
use Rattle.std.proofs.lemmas.Option.{none-some, same_Some}
use Rattle.std.proofs.lemmas.Bool.{true≢false}
use Rattle.btor2.specs.declared.item.Item.{Item}
use Rattle.btor2.specs.declared.item.Body.{Body}
use Rattle.btor2.specs.declared.item.Body.TheVariants as body
use Rattle.btor2.specs.Items.{find_item, node_sort, sort_bits, sort_width, node_width, width_of_body, constant_word, constant_of_body, constant_of, names_state, is_input, is_state, init_for, next_for, init_value, next_value}
use Rattle.btor2.specs.Check.{id_is_taken}
use Rattle.btor2.specs.Trace.{bits_of}
use Rattle.btor2.proofs.AppendLemmas.{find_item-append, node_width-append, sort_width-append, then_parts, some_of, none_of, is_some_from}
use Rattle.btor2.proofs.ModelLemmas.{IsIn-from_find}
use Rattle.btor2.proofs.IdLemmas.{state_item}
use Rattle.wide.specs.WideModels.{greatest_width, wide_refusal, IsWideModel}
use Rattle.wide.proofs.GrowLemmas.{tests_false}
use Rattle.full.proofs.ListLemmas.{all_at}
use Rattle.fit.specs.Fitting.{ids_of}
use Rattle.fit.proofs.ListLemmas.{AreDistinct, distinct_behind, apart, distinct_ids}
use Rattle.fit.proofs.ModelLemmas.{wide_ids_fresh}
use Rattle.fitting.specs.Fitted.{is_leaf, leaf_ids}
use Rattle.cells.specs.Lines.{IsAmong}
use Rattle.celled.specs.Spots.{Spots, layout_by, ids_from}
use Rattle.celled.specs.Split.{GoesOn, Settled, HasWord, Stands, IsOwned, IsSplit}
use Rattle.celled.specs.Steps.{IsSpotted}

abbrev pub AllStand : List Item → Spots → List Item → Type 0
AllStand front t celled = AllByRecursion (λ (x : Item). Settled front t celled (Stands x)) front

-- ---- lists that go on

pub goes_same : (front : List Item) (t : Spots) (celled : List Item) → IsWideModel greatest_width front → IsWideModel greatest_width celled → GoesOn front t celled front t celled
goes_same front t celled w m =
    record { lines = []; wide_is = sym (append-nil front); more = []; is = sym (append-nil celled); wide_model = w; model = m; node = λ id there. refl; first = λ id there. refl; count = λ id there. refl; line = λ id there. refl }

fresh_id : (front : List Item) (x : Item) → id_is_taken front x ≡ false → find_item front x.id ≡ None
unfolding id_is_taken
fresh_id front x h = none_of (find_item front x.id) h

pub fresh_in : (front : List Item) (x : Item) → wide_refusal greatest_width front x ≡ None → find_item front x.id ≡ None
fresh_in front x h = fresh_id front x (tests_false greatest_width front x h).1.1.0

pub other_than : (front : List Item) (id k : ℕ) → find_item front id ≡ None → is_some (find_item front k) ≡ true → nat_eq k id ≡ false
other_than front id k none there = by (nat_eq k id) refl
  where
    by : (b : Bool) → nat_eq k id ≡ b → b ≡ false
    by true e = absurd (true≢false (sym there ∙ ap (λ (j : ℕ). is_some (find_item front j)) (eqb-true k id e) ∙ ap is_some none))
    by false e = refl

pub found_on : (front more : List Item) (id : ℕ) → is_some (find_item front id) ≡ true → is_some (find_item (front ++ more) id) ≡ true
found_on front more id h = let there = some_of (find_item front id) h in is_some_from (find_item (front ++ more) id) there.0 (find_item-append front more id there.0 there.1)

-- where the earlier lines stand after one more
pub record Same (front : List Item) (t t' : Spots) : Type 0 where
  pub node : (id : ℕ) → is_some (find_item front id) ≡ true → t'.node id ≡ t.node id
  pub first : (id : ℕ) → is_some (find_item front id) ≡ true → t'.first id ≡ t.first id
  pub count : (id : ℕ) → is_some (find_item front id) ≡ true → t'.count id ≡ t.count id
  pub line : (id : ℕ) → is_some (find_item front id) ≡ true → t'.line id ≡ t.line id

pub spotted_same : (front : List Item) (t t' : Spots) (id node first count line : ℕ) → find_item front id ≡ None → IsSpotted t t' id node first count line → Same front t t'
spotted_same front t t' id node first count line none h =
    record {
      node = λ k there. h.node_at k ∙ ap (λ (b : Bool). cond b node (t.node k)) (other_than front id k none there);
      first = λ k there. h.first_at k ∙ ap (λ (b : Bool). cond b first (t.first k)) (other_than front id k none there);
      count = λ k there. h.count_at k ∙ ap (λ (b : Bool). cond b count (t.count k)) (other_than front id k none there);
      line = λ k there. h.line_at k ∙ ap (λ (b : Bool). cond b line (t.line k)) (other_than front id k none there);
    }

-- lists that go on after one line more go on after the lines before it
pub goes_back : (front : List Item) (x : Item) (t t' : Spots) (celled celled' more : List Item) (w : List Item) (u : Spots) (n : List Item) → celled' ≡ celled ++ more → Same front t t' → GoesOn (front ++ x ∷ []) t' celled' w u n → GoesOn front t celled w u n
goes_back front x t t' celled celled' more w u n e same g =
    record {
      lines = x ∷ g.lines;
      wide_is = g.wide_is ∙ append_assoc front (x ∷ []) g.lines;
      more = more ++ g.more;
      is = g.is ∙ ap (λ (l : List Item). l ++ g.more) e ∙ append_assoc celled more g.more;
      wide_model = g.wide_model;
      model = g.model;
      node = λ id there. g.node id (found_on front (x ∷ []) id there) ∙ same.node id there;
      first = λ id there. g.first id (found_on front (x ∷ []) id there) ∙ same.first id there;
      count = λ id there. g.count id (found_on front (x ∷ []) id there) ∙ same.count id there;
      line = λ id there. g.line id (found_on front (x ∷ []) id there) ∙ same.line id there;
    }

pub layout_same : (t t' : Spots) (id : ℕ) → t'.first id ≡ t.first id → t'.count id ≡ t.count id → layout_by t' id ≡ layout_by t id
layout_same t t' id f c = ap₂ ids_from f c

-- ---- what stands of what a line names

pub stands_at : (front : List Item) (t : Spots) (celled w : List Item) (u : Spots) (n : List Item) (id : ℕ) (y : Item) → AllStand front t celled → GoesOn front t celled w u n → find_item front id ≡ Some y → Stands y w u n × (id ≡ y.id)
stands_at front t celled w u n id y stand g e =
    let at = IsIn-from_find front id y e in
    (all_at (λ (x : Item). Settled front t celled (Stands x)) at.0.before at.0.after y (subst (AllByRecursion (λ (x : Item). Settled front t celled (Stands x))) at.0.splits stand) w u n g, at.1)

-- a sort has its sort
pub sort_at : (front : List Item) (t : Spots) (celled w : List Item) (u : Spots) (n : List Item) (s m : ℕ) → AllStand front t celled → GoesOn front t celled w u n → sort_width front s ≡ Some m → sort_width n (u.node s) ≡ Some m
sort_at front t celled w u n s m stand g e =
    let parts = then_parts (λ (x : Item). sort_bits x.body) (find_item front s) m e in
    let at = stands_at front t celled w u n s parts.0 stand g parts.1 in
    let own = subst (λ (o : Option ℕ). IfSome o (λ k. sort_width n (u.node parts.0.id) ≡ Some k)) parts.2 at.0.sort in
    ap (λ (k : ℕ). sort_width n (u.node k)) at.1 ∙ own

-- a node has its whole word
pub record Known (front w : List Item) (u : Spots) (n : List Item) (a : ℕ) : Type 0 where
  pub bits : ℕ
  pub in_front : node_width front a ≡ Some bits
  pub in_wide : node_width w a ≡ Some bits
  pub in_celled : node_width n (u.node a) ≡ Some bits
  pub sort : ℕ
  pub has : HasWord w u n a sort

pub known_at : (front : List Item) (t : Spots) (celled w : List Item) (u : Spots) (n : List Item) (a : ℕ) → AllStand front t celled → GoesOn front t celled w u n → is_some (node_width front a) ≡ true → Known front w u n a
known_at front t celled w u n a stand g there =
    let width = some_of (node_width front a) there in
    let found = then_parts (λ (x : Item). width_of_body front x.body) (find_item front a) width.0 width.1 in
    let sort = then_parts (sort_width front) (node_sort found.0.body) width.0 found.2 in
    let at = stands_at front t celled w u n a found.0 stand g found.1 in
    let own : HasWord w u n found.0.id sort.0 = subst (λ (o : Option ℕ). IfSome o (HasWord w u n found.0.id)) sort.1 at.0.value in
    let has : HasWord w u n a sort.0 = subst (λ (k : ℕ). HasWord w u n k sort.0) (sym at.1) own in
    let same : has.bits ≡ width.0 = same_Some has.bits width.0 (sym has.sort_bits ∙ ap (λ (l : List Item). sort_width l sort.0) g.wide_is ∙ sort_width-append front g.lines sort.0 width.0 sort.2) in
    record {
      bits = width.0;
      in_front = width.1;
      in_wide = ap (λ (l : List Item). node_width l a) g.wide_is ∙ node_width-append front g.lines a width.0 width.1;
      in_celled = has.node ∙ ap (λ (k : ℕ). Some k) same;
      sort = sort.0;
      has = has;
    }

-- a constant is one
pub constant_at : (front : List Item) (t : Spots) (celled w : List Item) (u : Spots) (n : List Item) (v c : ℕ) → AllStand front t celled → GoesOn front t celled w u n → constant_of front v ≡ Some c → constant_of n (u.node v) ≡ Some c
constant_at front t celled w u n v c stand g e =
    let found = then_parts (λ (x : Item). constant_of_body front x.body) (find_item front v) c e in
    let width = then_parts (λ (m : ℕ). constant_word m found.0.body) (width_of_body front found.0.body) c found.2 in
    let at = stands_at front t celled w u n v found.0 stand g found.1 in
    let in_front : node_width front v ≡ Some width.0 = ap (option_and_then (λ (x : Item). width_of_body front x.body)) found.1 ∙ width.1 in
    let bits : bits_of w found.0.id ≡ width.0 = ap (bits_of w) (sym at.1) ∙ ap (λ (o : Option ℕ). unwrap_or o 0) (ap (λ (l : List Item). node_width l v) g.wide_is ∙ node_width-append front g.lines v width.0 in_front) in
    let word : constant_word (bits_of w found.0.id) found.0.body ≡ Some c = ap (λ (k : ℕ). constant_word k found.0.body) bits ∙ width.2 in
    ap (λ (k : ℕ). constant_of n (u.node k)) at.1 ∙ subst (λ (o : Option ℕ). IfSome o (λ k. constant_of n (u.node found.0.id) ≡ Some k)) word at.0.constant

-- ---- whose cells they are

pub among_here : (P : ℕ → Type 0) (xs : List ℕ) (a : ℕ) → AllByRecursion P xs → IsAmong a xs → P a
among_here P [] a h k = absurd k
among_here P (x ∷ xs) a h (inl e) = subst P (sym e) h.0
among_here P (x ∷ xs) a h (inr k) = among_here P xs a h.1 k

among_front : (xs ys : List ℕ) (p : ℕ) → IsAmong p xs → IsAmong p (xs ++ ys)
among_front [] ys p h = absurd h
among_front (x ∷ xs) ys p (inl e) = inl e
among_front (x ∷ xs) ys p (inr h) = inr (among_front xs ys p h)

among_behind : (xs ys : List ℕ) (p : ℕ) → IsAmong p ys → IsAmong p (xs ++ ys)
among_behind [] ys p h = h
among_behind (x ∷ xs) ys p h = inr (among_behind xs ys p h)

among_pieces : (f : ℕ → List ℕ) (ws : List ℕ) (w p : ℕ) → IsAmong w ws → IsAmong p (f w) → IsAmong p (flat_map f ws)
among_pieces f [] w p h k = absurd h
among_pieces f (v ∷ ws) w p (inl e) k = among_front (f v) (flat_map f ws) p (subst (λ (x : ℕ). IsAmong p (f x)) e k)
among_pieces f (v ∷ ws) w p (inr h) k = among_behind (f v) (flat_map f ws) p (among_pieces f ws w p h k)

-- a number stands in one part alone
in_both : (xs ys : List ℕ) (p : ℕ) → AreDistinct (xs ++ ys) → IsAmong p xs → IsAmong p ys → ⊥
in_both xs ys p d h k =
    let no : nat_eq p p ≡ false = among_here (λ x. nat_eq p x ≡ false) xs p (among_here (λ y. AllByRecursion (λ x. nat_eq y x ≡ false) xs) ys p (apart xs ys d) k) h in
    true≢false (sym (eq-eqb p p refl) ∙ no)

same_owner : (f : ℕ → List ℕ) (ws : List ℕ) (w v p : ℕ) → AreDistinct (flat_map f ws) → IsAmong w ws → IsAmong v ws → IsAmong p (f w) → IsAmong p (f v) → w ≡ v
same_owner f [] w v p d h k i j = absurd h
same_owner f (z ∷ ws) w v p d (inl e) (inl c) i j = e ∙ sym c
same_owner f (z ∷ ws) w v p d (inl e) (inr k) i j = absurd (in_both (f z) (flat_map f ws) p d (subst (λ (x : ℕ). IsAmong p (f x)) e i) (among_pieces f ws v p k j))
same_owner f (z ∷ ws) w v p d (inr h) (inl c) i j = absurd (in_both (f z) (flat_map f ws) p d (subst (λ (x : ℕ). IsAmong p (f x)) c j) (among_pieces f ws w p h i))
same_owner f (z ∷ ws) w v p d (inr h) (inr k) i j = same_owner f ws w v p (distinct_behind (f z) (flat_map f ws) d) h k i j

-- the id of an item of a kind is among theirs
among_kind : (kind : Item → Bool) (before after : List Item) (y : Item) → kind y ≡ true → IsAmong y.id (ids_of kind (before ++ y ∷ after))
among_kind kind [] after y is = by (kind y) is
  where
    by : (b : Bool) → b ≡ true → IsAmong y.id (map (λ x. x.id) (cond b (y ∷ filter kind after) (filter kind after)))
    by true e = inl refl
    by false e = absurd (cc)
among_kind kind (z ∷ before) after y is = by (kind z) (among_kind kind before after y is)
  where
    by : (b : Bool) → IsAmong y.id (ids_of kind (before ++ y ∷ after)) → IsAmong y.id (map (λ x. x.id) (cond b (z ∷ filter kind (before ++ y ∷ after)) (filter kind (before ++ y ∷ after))))
    by true h = inr h
    by false h = h

state_is_leaf : (y : Item) → is_state y.body ≡ true → is_leaf y ≡ true
state_is_leaf y is = ap (λ (b : Bool). is_input y.body || b) is ∙ by (is_input y.body)
  where
    by : (b : Bool) → (b || true) ≡ true
    by true = refl
    by false = refl

pub state_among : (front : List Item) (id : ℕ) → names_state front id ≡ true → IsAmong id (leaf_ids front)
state_among front id names =
    let y = state_item front id names in
    subst (λ (k : ℕ). IsAmong k (leaf_ids front)) (sym y.2) (subst (λ (l : List Item). IsAmong y.0.id (leaf_ids l)) (sym y.1.splits) (among_kind is_leaf y.1.before y.1.after y.0 (state_is_leaf y.0 y.3)))

-- the ids of the cells are distinct
pub cells_distinct : (front : List Item) (t : Spots) (celled : List Item) → IsWideModel greatest_width celled → flat_map (layout_by t) (leaf_ids front) ≡ leaf_ids celled → AreDistinct (flat_map (layout_by t) (leaf_ids front))
cells_distinct front t celled m e = subst AreDistinct (sym e) (distinct_ids is_leaf celled (wide_ids_fresh celled m))

abbrev OwnsInit : List Item → Spots → ℕ → Type 0
OwnsInit front t p = (id : ℕ) × (names_state front id ≡ true) × IsAmong p (layout_by t id) × (is_some (init_value front id) ≡ true)

abbrev OwnsNext : List Item → Spots → ℕ → Type 0
OwnsNext front t p = (id : ℕ) × (names_state front id ≡ true) × IsAmong p (layout_by t id) × (is_some (next_value front id) ≡ true)

owned_init : (front : List Item) (t : Spots) (celled ys : List Item) (p c : ℕ) → AllByRecursion (λ (y : Item). IsOwned front t y.body) ys → init_value ys p ≡ Some c → OwnsInit front t p
owned_init front t celled [] p c h e = absurd (none-some c e)
owned_init front t celled (y ∷ ys) p c h e = by y.body h.0 (owned_init front t celled ys p c h.1) e
  where
    by : (b : Body) → IsOwned front t b → (init_value ys p ≡ Some c → OwnsInit front t p) → option_or (init_for p b) (init_value ys p) ≡ Some c → OwnsInit front t p
    by (body.Init s q d) own rest e = at (nat_eq p q) refl e
      where
        at : (b : Bool) → nat_eq p q ≡ b → option_or (cond b (Some d) None) (init_value ys p) ≡ Some c → OwnsInit front t p
        at true test e = (own.0, own.1, subst (λ (k : ℕ). IsAmong k (layout_by t own.0)) (sym (eqb-true p q test)) own.2, own.3)
        at false test e = rest e
    by _ own rest e = rest e

owned_next : (front : List Item) (t : Spots) (celled ys : List Item) (p c : ℕ) → AllByRecursion (λ (y : Item). IsOwned front t y.body) ys → next_value ys p ≡ Some c → OwnsNext front t p
owned_next front t celled [] p c h e = absurd (none-some c e)
owned_next front t celled (y ∷ ys) p c h e = by y.body h.0 (owned_next front t celled ys p c h.1) e
  where
    by : (b : Body) → IsOwned front t b → (next_value ys p ≡ Some c → OwnsNext front t p) → option_or (next_for p b) (next_value ys p) ≡ Some c → OwnsNext front t p
    by (body.Next s q d) own rest e = at (nat_eq p q) refl e
      where
        at : (b : Bool) → nat_eq p q ≡ b → option_or (cond b (Some d) None) (next_value ys p) ≡ Some c → OwnsNext front t p
        at true test e = (own.0, own.1, subst (λ (k : ℕ). IsAmong k (layout_by t own.0)) (sym (eqb-true p q test)) own.2, own.3)
        at false test e = rest e
    by _ own rest e = rest e

-- cells of a state without an init line, or a next line, have none
pub cells_open : (front : List Item) (t : Spots) (celled : List Item) (inputs states : List ℕ) (id p : ℕ) → IsSplit front t celled inputs states → IsWideModel greatest_width celled → names_state front id ≡ true → IsAmong p (layout_by t id)
    → init_value front id ≡ None → init_value celled p ≡ None
cells_open front t celled inputs states id p h m names among none = by (init_value celled p) refl
  where
    by : (o : Option ℕ) → init_value celled p ≡ o → o ≡ None
    by None e = refl
    by (Some c) e =
        let own = owned_init front t celled celled p c h.owners e in
        let same : own.0 ≡ id = same_owner (layout_by t) (leaf_ids front) own.0 id p (cells_distinct front t celled m h.leaves) (state_among front own.0 own.1) (state_among front id names) own.2 among in
        absurd (true≢false (sym own.3 ∙ ap (λ (k : ℕ). is_some (init_value front k)) same ∙ ap is_some none))

pub cells_loose : (front : List Item) (t : Spots) (celled : List Item) (inputs states : List ℕ) (id p : ℕ) → IsSplit front t celled inputs states → IsWideModel greatest_width celled → names_state front id ≡ true → IsAmong p (layout_by t id)
    → next_value front id ≡ None → next_value celled p ≡ None
cells_loose front t celled inputs states id p h m names among none = by (next_value celled p) refl
  where
    by : (o : Option ℕ) → next_value celled p ≡ o → o ≡ None
    by None e = refl
    by (Some c) e =
        let own = owned_next front t celled celled p c h.owners e in
        let same : own.0 ≡ id = same_owner (layout_by t) (leaf_ids front) own.0 id p (cells_distinct front t celled m h.leaves) (state_among front own.0 own.1) (state_among front id names) own.2 among in
        absurd (true≢false (sym own.3 ∙ ap (λ (k : ℕ). is_some (next_value front k)) same ∙ ap is_some none))

pub among_from : (first count i : ℕ) → i < count → IsAmong (first + i) (ids_from first count)
among_from first zero i h = absurd (omega (arith, h))
among_from first (suc n) zero h = inl (omega arith)
among_from first (suc n) (suc i) h = inr (subst (λ (k : ℕ). IsAmong k (ids_from (suc first) n)) (omega arith) (among_from (suc first) n i (omega (arith, h))))

-- the cells of a state are states
-- the item of a state is the one that its id finds
pub record StateAt (front : List Item) (id : ℕ) : Type 0 where
  pub item : Item
  pub found : find_item front id ≡ Some item
  pub is : is_state item.body ≡ true

pub state_at : (front : List Item) (id : ℕ) → names_state front id ≡ true → StateAt front id
state_at front id names = by (find_item front id) refl names
  where
    is_one : (x : Item) (b : Bool) → is_state x.body ≡ b → is_some (cond b (Some x) None) ≡ true → is_state x.body ≡ true
    is_one x true is some = is
    is_one x false is some = absurd (cc)

    by : (o : Option Item) → find_item front id ≡ o → is_some (option_and_then (λ (x : Item). cond (is_state x.body) (Some x) None) o) ≡ true → StateAt front id
    by None e some = absurd (cc)
    by (Some y) e some = record { item = y; found = e; is = is_one y (is_state y.body) refl some }

pub cells_named : (front : List Item) (t : Spots) (celled w : List Item) (u : Spots) (n : List Item) (id : ℕ) → AllStand front t celled → GoesOn front t celled w u n → names_state front id ≡ true → AllByRecursion (λ p. names_state n p ≡ true) (layout_by u id)
cells_named front t celled w u n id stand g names =
    let y = state_at front id names in
    let at = stands_at front t celled w u n id y.item stand g y.found in
    let leaf = at.0.leaf (state_is_leaf y.item y.is) in
    subst (λ (k : ℕ). AllByRecursion (λ p. names_state n p ≡ true) (layout_by u k)) (sym at.1)
    (subst (λ (b : Bool). AllByRecursion (λ p. names_state n p ≡ b) (layout_by u y.item.id)) y.is leaf)
