-- A whole list that is written has its cells.
use Rattle.std.proofs.Common.{◌≡◌, ℕ, zero, suc, ◌+◌, ◌*◌, Bool, true, false, cond, not, ◌&&◌, ◌||◌, nat_eq, eqb-true, List, [], ◌∷◌, ◌++◌, map, filter, flat_map, Option, Some, None, IfSome, is_some, is_none, unwrap_or, option_and_then, append_assoc, refl, sym, ap, ap₂, subst, ◌∙◌, inl, inr, arith}
use Rattle.std.specs.List.{AllByRecursion, AllZip}
use Rattle.std.specs.Option.{option_or}
use Rattle.std.proofs.lemmas.Option.{none-some, same_Some}
use Rattle.base.specs.Operator.{concat_value}
use Rattle.btor2.specs.declared.item.Item.{Item}
use Rattle.btor2.specs.declared.item.Body.{Body}
use Rattle.btor2.specs.declared.item.Body.TheVariants as body
use Rattle.btor2.specs.Items.{find_item, operands, sort_width, node_width, width_of_body, names_state, is_input, is_state, is_bad, is_constraint, is_free, is_carried_state, init_for, init_value, init_word, next_for, next_value, constant_of}
use Rattle.btor2.specs.Check.{widths_differ}
use Rattle.btor2.specs.Lists.{of_kind, first_init_without_next}
use Rattle.btor2.specs.Trace.{bits_of}
use Rattle.btor2.specs.Reachability.{nodes_of}
use Rattle.btor2.proofs.AppendLemmas.{node_width-append}
use Rattle.wide.specs.WideModels.{greatest_width, IsWideAfter, IsWideModel}
use Rattle.wide.proofs.GrowLemmas.{tests_false}
use Rattle.full.proofs.WideLemmas.{found_by_id}
use Rattle.fit.specs.Fitting.{Layout, is_output, is_given, pieces_width, carried_ids, HasWidthOfPieces, Carries, InitIsCarried, AbsenceIsCarried, MakesNode, TakesNext, NextIsCarried, OutputsAreCarried, IsFittingOf}
use Rattle.fit.proofs.ListLemmas.{all_with, all_both, all_join, of_ids, to_ids, from_pieces}
use Rattle.fit.proofs.ModelLemmas.{no_state_is_free, found_names}
use Rattle.fit.proofs.FrameLemmas.{all_named, properties_there}
use Rattle.fit.proofs.LineLemmas.{carries_state}
use Rattle.fitting.specs.Fitted.{is_leaf, leaf_ids}
use Rattle.fitting.specs.Models.{state_ids}
use Rattle.fitting.proofs.AssemblyLemmas.{given_by, carried_by, given_leaf, carried_leaf, pieces_filtered, among_leaves}
use Rattle.fitting.proofs.LeafLemmas.{states_by, inputs_by}
use Rattle.fitting.proofs.LackLemmas.{HasNo, none_found, finds_none, next_has_no, have_nexts}
use Rattle.cells.specs.Lines.{IsAmong}
use Rattle.celled.specs.Celled.{IsCelledOf}
use Rattle.celled.specs.Names.{CellsAreNamed}
use Rattle.celled.specs.Spots.{Spots, ids_from, layout_by}
use Rattle.celled.specs.Whole.{HasWholes}
use Rattle.celled.specs.Split.{HasWord, NextIsTaken, Settled, Stands, ShowsAlike, IsSplit}
use Rattle.celled.proofs.CellLemmas.{width_from}
use Rattle.celled.proofs.ArrayOwn.{bits_are}
use Rattle.celled.proofs.StandLemmas.{goes_same, known_at, cells_open, cells_loose}
use Rattle.btor2.proofs.IdLemmas.{input_is_no_state}
use Rattle.celled.proofs.OnLemmas.{names_earlier}
use Rattle.celled.proofs.CallLemmas.{leaf_sort}

-- ---- init lines and next lines by the ids of states

abbrev HaveInits : Layout → List Item → ℕ → Type 0
HaveInits layout celled id = AllByRecursion (λ p. is_some (init_word celled p) ≡ true) (layout id)

init_at : (wide celled : List Item) (layout : Layout) (xs : List Item) (id v : ℕ) → AllByRecursion (λ (x : Item). InitIsCarried wide layout celled x.body) xs → init_value xs id ≡ Some v → HaveInits layout celled id
init_at wide celled layout [] id v h e = absurd (none-some v e)
init_at wide celled layout (x ∷ xs) id v h e = by x.body h.0 (init_at wide celled layout xs id v h.1) e
  where
    by : (b : Body) → InitIsCarried wide layout celled b → (init_value xs id ≡ Some v → HaveInits layout celled id) → option_or (init_for id b) (init_value xs id) ≡ Some v → HaveInits layout celled id
    by (body.Init s t u) own rest e = at (nat_eq id t) refl e
      where
        at : (b : Bool) → nat_eq id t ≡ b → option_or (cond b (Some u) None) (init_value xs id) ≡ Some v → HaveInits layout celled id
        at true same e = subst (HaveInits layout celled) (sym (eqb-true id t same)) own.0
        at false same e = rest e
    by _ own rest e = rest e

next_at : (t : Spots) (celled xs : List Item) (id v : ℕ) → AllByRecursion (λ (x : Item). NextIsTaken t celled x.body) xs → next_value xs id ≡ Some v → TakesNext (layout_by t) celled (Some v) (layout_by t id)
next_at t celled [] id v h e = absurd (none-some v e)
next_at t celled (x ∷ xs) id v h e = by x.body h.0 (next_at t celled xs id v h.1) e
  where
    by : (b : Body) → NextIsTaken t celled b → (next_value xs id ≡ Some v → TakesNext (layout_by t) celled (Some v) (layout_by t id)) → option_or (next_for id b) (next_value xs id) ≡ Some v → TakesNext (layout_by t) celled (Some v) (layout_by t id)
    by (body.Next s k u) own rest e = at (nat_eq id k) refl e
      where
        at : (b : Bool) → nat_eq id k ≡ b → option_or (cond b (Some u) None) (next_value xs id) ≡ Some v → TakesNext (layout_by t) celled (Some v) (layout_by t id)
        at true same e =
            subst (λ (i : ℕ). TakesNext (layout_by t) celled (Some v) (layout_by t i)) (sym (eqb-true id k same)) (subst (λ (o : Option ℕ). TakesNext (layout_by t) celled o (layout_by t k)) e own)
        at false same e = rest e
    by _ own rest e = rest e

has_init : (celled : List Item) (p : ℕ) → is_some (init_word celled p) ≡ true → is_none (init_value celled p) ≡ false
has_init celled p h = by (init_value celled p) h
  where
    by : (o : Option ℕ) → is_some (option_and_then (constant_of celled) o) ≡ true → is_none o ≡ false
    by None h = absurd (cc)
    by (Some v) h = refl

all_among : (P : ℕ → Type 0) (ps : List ℕ) → ((p : ℕ) → IsAmong p ps → P p) → AllByRecursion P ps
all_among P [] h = tt
all_among P (p ∷ ps) h = (h p (inl refl), all_among P ps (λ q k. h q (inr k)))

-- ---- what stands in the end

record Ended (wide : List Item) (t : Spots) (celled : List Item) (inputs states : List ℕ) : Type 0 where
  split : IsSplit wide t celled inputs states
  model : IsWideModel greatest_width celled
  stand : AllByRecursion (λ (x : Item). Stands x wide t celled) wide
  found : AllByRecursion (λ (x : Item). find_item wide x.id ≡ Some x) wide

ended : (wide : List Item) (t : Spots) (celled : List Item) (inputs states : List ℕ) → IsSplit wide t celled inputs states → IsWideModel greatest_width celled → Ended wide t celled inputs states
ended wide t celled inputs states h m =
    record {
      split = h;
      model = m;
      stand = all_with (λ (x : Item). Settled wide t celled (Stands x)) (λ (x : Item). Stands x wide t celled) wide (λ x own. own wide t celled (goes_same wide t celled h.wide_model m)) h.stand;
      found = found_by_id greatest_width wide h.wide_model;
    }

-- the cells of a state have an init line, and a next line, where it has one
inits_alike : (wide : List Item) (t : Spots) (celled : List Item) (inputs states : List ℕ) (id : ℕ) → Ended wide t celled inputs states → names_state wide id ≡ true
    → AllByRecursion (λ p. is_none (init_value celled p) ≡ is_none (init_value wide id)) (layout_by t id)
inits_alike wide t celled inputs states id h names = by (init_value wide id) refl
  where
    by : (o : Option ℕ) → init_value wide id ≡ o → AllByRecursion (λ p. is_none (init_value celled p) ≡ is_none o) (layout_by t id)
    by None e = all_among (λ p. is_none (init_value celled p) ≡ true) (layout_by t id) (λ p among. ap is_none (cells_open wide t celled inputs states id p h.split h.model names among e))
    by (Some v) e =
        all_with (λ p. is_some (init_word celled p) ≡ true) (λ p. is_none (init_value celled p) ≡ false) (layout_by t id) (λ p own. has_init celled p own)
        (init_at wide celled (layout_by t) wide id v (all_with (λ (x : Item). Stands x wide t celled) (λ (x : Item). InitIsCarried wide (layout_by t) celled x.body) wide (λ x own. own.init) h.stand) e)

takes : (wide : List Item) (t : Spots) (celled : List Item) (inputs states : List ℕ) (id v : ℕ) → Ended wide t celled inputs states → next_value wide id ≡ Some v → TakesNext (layout_by t) celled (Some v) (layout_by t id)
takes wide t celled inputs states id v h e = next_at t celled wide id v (all_with (λ (x : Item). Stands x wide t celled) (λ (x : Item). NextIsTaken t celled x.body) wide (λ x own. own.next) h.stand) e

nexts_alike : (wide : List Item) (t : Spots) (celled : List Item) (inputs states : List ℕ) (id : ℕ) → Ended wide t celled inputs states → names_state wide id ≡ true
    → AllByRecursion (λ p. is_none (next_value celled p) ≡ is_none (next_value wide id)) (layout_by t id)
nexts_alike wide t celled inputs states id h names = by (next_value wide id) refl
  where
    by : (o : Option ℕ) → next_value wide id ≡ o → AllByRecursion (λ p. is_none (next_value celled p) ≡ is_none o) (layout_by t id)
    by None e = all_among (λ p. is_none (next_value celled p) ≡ true) (layout_by t id) (λ p among. ap is_none (cells_loose wide t celled inputs states id p h.split h.model names among e))
    by (Some v) e = let own = takes wide t celled inputs states id v h e in have_nexts celled (layout_by t id) own.0 own.1

none_map : (celled : List Item) (ps : List ℕ) → AllByRecursion (λ p. next_value celled p ≡ None) ps → map (next_value celled) ps ≡ map (λ p. None) ps
none_map celled [] h = refl
none_map celled (p ∷ ps) h = ap₂ (λ (o : Option ℕ) (l : List (Option ℕ)). o ∷ l) h.0 (none_map celled ps h.1)

next_carried : (wide : List Item) (t : Spots) (celled : List Item) (inputs states : List ℕ) (id : ℕ) → Ended wide t celled inputs states → names_state wide id ≡ true → NextIsCarried wide (layout_by t) celled id
next_carried wide t celled inputs states id h names = by (next_value wide id) refl
  where
    by : (o : Option ℕ) → next_value wide id ≡ o → TakesNext (layout_by t) celled o (layout_by t id)
    by None e = none_map celled (layout_by t id) (all_among (λ p. next_value celled p ≡ None) (layout_by t id) (λ p among. cells_loose wide t celled inputs states id p h.split h.model names among e))
    by (Some v) e = takes wide t celled inputs states id v h e

-- ---- leaves

-- the cells of a leaf name states where the leaf is one, and are free where it is
leaf_free : (wide : List Item) (t : Spots) (celled : List Item) (inputs states : List ℕ) (x : Item) → Ended wide t celled inputs states → find_item wide x.id ≡ Some x → AllByRecursion (λ p. names_state celled p ≡ is_state x.body) (layout_by t x.id)
    → AllByRecursion (λ p. is_free celled p ≡ is_free wide x.id) (layout_by t x.id)
leaf_free wide t celled inputs states x h found named = by (is_state x.body) refl named
  where
    by : (b : Bool) → is_state x.body ≡ b → AllByRecursion (λ p. names_state celled p ≡ b) (layout_by t x.id) → AllByRecursion (λ p. is_free celled p ≡ is_free wide x.id) (layout_by t x.id)
    by true is named =
        let names = found_names wide x true found is in
        all_with (λ p. (is_none (init_value celled p) ≡ is_none (init_value wide x.id)) × (is_none (next_value celled p) ≡ is_none (next_value wide x.id))) (λ p. is_free celled p ≡ is_free wide x.id) (layout_by t x.id)
        (λ p both. ap₂ (λ (b c : Bool). b && c) both.0 both.1)
        (all_both (λ p. is_none (init_value celled p) ≡ is_none (init_value wide x.id)) (λ p. is_none (next_value celled p) ≡ is_none (next_value wide x.id)) (layout_by t x.id)
        (inits_alike wide t celled inputs states x.id h names) (nexts_alike wide t celled inputs states x.id h names))
    by false is named =
        let free = no_state_is_free wide x.id h.split.wide_model (found_names wide x false found is) in
        all_with (λ p. names_state celled p ≡ false) (λ p. is_free celled p ≡ is_free wide x.id) (layout_by t x.id) (λ p own. no_state_is_free celled p h.model own ∙ sym free) named

-- the bits of nodes of one width
bits_same : (width : ℕ → ℕ) (size : ℕ) (ps : List ℕ) → AllByRecursion (λ p. width p ≡ size) ps → pieces_width width ps ≡ pieces_width (λ p. size) ps
bits_same width size [] h = refl
bits_same width size (p ∷ ps) h = ap₂ (λ (i j : ℕ). i + j) (bits_same width size ps h.1) h.0

word_bits : (wide : List Item) (t : Spots) (celled : List Item) (id s : ℕ) (w : HasWord wide t celled id s) → pieces_width (bits_of celled) (layout_by t id) ≡ w.bits
word_bits wide t celled id s w = bits_same (bits_of celled) w.size (layout_by t id) (bits_are celled w.size (layout_by t id) w.cells) ∙ width_from w.size (t.first id) (t.count id) ∙ w.together

-- a leaf is as wide as its cells are together
leaf_width : (wide : List Item) (t : Spots) (celled : List Item) (x : Item) → find_item wide x.id ≡ Some x → Stands x wide t celled → is_leaf x ≡ true → HasWidthOfPieces wide (layout_by t) celled x.id
leaf_width wide t celled x found stands leaf =
    let sort = leaf_sort x.body leaf in
    let own : HasWord wide t celled x.id sort.0 = subst (λ (o : Option ℕ). IfSome o (HasWord wide t celled x.id)) sort.1 stands.value in
    ap (λ (o : Option ℕ). unwrap_or o 0) (ap (option_and_then (λ (y : Item). width_of_body wide y.body)) found ∙ ap (option_and_then (sort_width wide)) sort.1 ∙ own.sort_bits) ∙ sym (word_bits wide t celled x.id sort.0 own)

-- lines are carried
line_carried : (wide : List Item) (t : Spots) (celled : List Item) (x : Item) → Stands x wide t celled → (is_leaf x ≡ true → AllByRecursion (λ p. is_free celled p ≡ is_free wide x.id) (layout_by t x.id)) → Carries wide (layout_by t) celled x
line_carried wide t celled x stands free = by (is_state x.body) refl
  where
    either : (i : Bool) → (i || true) ≡ true
    either true = refl
    either false = refl

    by : (b : Bool) → is_state x.body ≡ b → Carries wide (layout_by t) celled x
    by true is =
        let leaf : is_leaf x ≡ true = ap (λ (b : Bool). is_input x.body || b) is ∙ either (is_input x.body) in
        carries_state wide celled (layout_by t) x is
        (all_both (λ p. names_state celled p ≡ true) (λ p. is_free celled p ≡ is_free wide x.id) (layout_by t x.id) (subst (λ (b : Bool). AllByRecursion (λ p. names_state celled p ≡ b) (layout_by t x.id)) is (stands.leaf leaf)) (free leaf))
    by false is = stands.carried is

-- ---- nodes that are shown

single_word : (width : ℕ) (w : ℕ) → concat_value 0 width w ≡ w
single_word width w = omega arith

-- the node of a whole word makes it
makes_whole : (wide : List Item) (t : Spots) (celled : List Item) (inputs states : List ℕ) (a : ℕ) → Ended wide t celled inputs states → is_some (node_width wide a) ≡ true → MakesNode (layout_by t) celled a (t.node a ∷ [])
makes_whole wide t celled inputs states a h there state input g is_state is_input frame =
    let k = known_at wide t celled wide t celled a h.split.stand (goes_same wide t celled h.split.wide_model h.model) there in
    single_word (bits_of celled (t.node a)) (g (t.node a)) ∙ k.has.word state input g is_state is_input frame

each_whole : (wide : List Item) (t : Spots) (celled : List Item) (inputs states ids : List ℕ) → Ended wide t celled inputs states → AllByRecursion (λ a. is_some (node_width wide a) ≡ true) ids
    → AllZip (MakesNode (layout_by t) celled) ids (map (λ a. t.node a ∷ []) ids)
each_whole wide t celled inputs states [] h there = tt
each_whole wide t celled inputs states (a ∷ ids) h there = (makes_whole wide t celled inputs states a h there.0, each_whole wide t celled inputs states ids h there.1)

flat_ones : (f : ℕ → ℕ) (ids : List ℕ) → flat_map (λ (ps : List ℕ). ps) (map (λ a. f a ∷ []) ids) ≡ map f ids
flat_ones f [] = refl
flat_ones f (a ∷ ids) = ap (λ (l : List ℕ). f a ∷ l) (flat_ones f ids)

outputs_carried : (wide : List Item) (t : Spots) (celled : List Item) (inputs states : List ℕ) → Ended wide t celled inputs states → OutputsAreCarried wide (layout_by t) celled
outputs_carried wide t celled inputs states h = (
  map (λ a. t.node a ∷ []) (nodes_of is_output wide),
  flat_ones t.node (nodes_of is_output wide) ∙ h.split.outputs.nodes,
  each_whole wide t celled inputs states (nodes_of is_output wide) h (properties_there wide is_output wide (all_named wide (names_earlier wide h.split.wide_model))),
)

-- nodes of one bit
abbrev IsBit : List Item → ℕ → Type 0
IsBit items a = node_width items a ≡ Some 1

one_bit : (o : Option ℕ) → nat_eq (unwrap_or o 0) 1 ≡ true → o ≡ Some 1
one_bit None h = absurd (cc)
one_bit (Some n) h = ap (λ (k : ℕ). Some k) (eqb-true n 1 h)

agrees : (b : Bool) → not b ≡ false → b ≡ true
agrees true h = refl
agrees false h = absurd (cc)

bad_bit : (items : List Item) (b : Body) → widths_differ items b ≡ false → is_bad b ≡ true → AllByRecursion (IsBit items) (operands b)
unfolding widths_differ
bad_bit items (body.Bad a) h is = (one_bit (node_width items a) (agrees _ h), tt)
bad_bit items _ h is = absurd (cc)

constraint_bit : (items : List Item) (b : Body) → widths_differ items b ≡ false → is_constraint b ≡ true → AllByRecursion (IsBit items) (operands b)
unfolding widths_differ
constraint_bit items (body.Constraint a) h is = (one_bit (node_width items a) (agrees _ h), tt)
constraint_bit items _ h is = absurd (cc)

bits_from : (kind : Body → Bool) → ((items : List Item) (b : Body) → widths_differ items b ≡ false → kind b ≡ true → AllByRecursion (IsBit items) (operands b)) → (whole before xs : List Item) → before ++ xs ≡ whole → IsWideAfter greatest_width before xs
    → AllByRecursion (IsBit whole) (nodes_of kind xs)
bits_from kind one whole before [] e h = tt
bits_from kind one whole before (x ∷ xs) e h =
    let rest = bits_from kind one whole (before ++ x ∷ []) xs (append_assoc before (x ∷ []) xs ∙ e) h.1 in
    by (kind x.body) refl rest
  where
    by : (b : Bool) → kind x.body ≡ b → AllByRecursion (IsBit whole) (nodes_of kind xs) → AllByRecursion (IsBit whole) (flat_map (λ (y : Item). operands y.body) (cond b (x ∷ of_kind kind xs) (of_kind kind xs)))
    by true is rest =
        all_join (IsBit whole) (operands x.body) (nodes_of kind xs)
        (all_with (IsBit before) (IsBit whole) (operands x.body) (λ a own. ap (λ (l : List Item). node_width l a) (sym e) ∙ node_width-append before (x ∷ xs) a 1 own)
        (one before x.body (tests_false greatest_width before x h.0).1.1.1.1.1.1.1.1.0 is)) rest
    by false is rest = rest

one_cell : (n size : ℕ) → n * size ≡ 1 → n ≡ 1
one_cell zero size e = absurd (omega (arith, e))
one_cell (suc zero) size e = refl
one_cell (suc (suc n)) zero e = absurd (omega (arith, e))
one_cell (suc (suc n)) (suc s) e = absurd (omega (arith, e))

-- such a node has one cell
bit_alone : (wide : List Item) (t : Spots) (celled : List Item) (inputs states : List ℕ) (a : ℕ) → Ended wide t celled inputs states → IsBit wide a → layout_by t a ≡ t.node a ∷ []
bit_alone wide t celled inputs states a h bit =
    let k = known_at wide t celled wide t celled a h.split.stand (goes_same wide t celled h.split.wide_model h.model) (ap is_some bit) in
    let one : k.has.bits ≡ 1 = same_Some k.has.bits 1 (sym k.has.node ∙ k.in_celled ∙ sym k.in_front ∙ bit) in
    let count : t.count a ≡ 1 = one_cell (t.count a) k.has.size (k.has.together ∙ one) in
    ap (ids_from (t.first a)) count ∙ ap (λ (p : ℕ). p ∷ []) (k.has.alone count)

bits_alone : (wide : List Item) (t : Spots) (celled : List Item) (inputs states ids : List ℕ) → Ended wide t celled inputs states → AllByRecursion (IsBit wide) ids → map (layout_by t) ids ≡ map (λ p. p ∷ []) (map t.node ids)
bits_alone wide t celled inputs states [] h bits = refl
bits_alone wide t celled inputs states (a ∷ ids) h bits = ap₂ (λ (ps : List ℕ) (l : List (List ℕ)). ps ∷ l) (bit_alone wide t celled inputs states a h bits.0) (bits_alone wide t celled inputs states ids h bits.1)

shown_bits : (kind : Body → Bool) (wide : List Item) (t : Spots) (celled : List Item) (inputs states : List ℕ) → Ended wide t celled inputs states → ShowsAlike kind wide t celled → AllByRecursion (IsBit wide) (nodes_of kind wide)
    → map (layout_by t) (nodes_of kind wide) ≡ map (λ p. p ∷ []) (nodes_of kind celled)
shown_bits kind wide t celled inputs states h shows bits = bits_alone wide t celled inputs states (nodes_of kind wide) h bits ∙ ap (map (λ p. p ∷ [])) shows.nodes

-- ---- the fitting

record Leaves (wide : List Item) (t : Spots) (celled : List Item) : Type 0 where
  wide_named : AllByRecursion (λ (x : Item). is_leaf x ≡ true → names_state wide x.id ≡ is_state x.body) wide
  celled_named : AllByRecursion (λ (x : Item). is_leaf x ≡ true → names_state celled x.id ≡ is_state x.body) celled
  alike : AllByRecursion (λ id. AllByRecursion (λ p. names_state celled p ≡ names_state wide id) (layout_by t id)) (leaf_ids wide)
  free : AllByRecursion (λ id. AllByRecursion (λ p. is_free celled p ≡ is_free wide id) (layout_by t id)) (leaf_ids wide)

named_by_id : (items : List Item) → IsWideModel greatest_width items → AllByRecursion (λ (x : Item). is_leaf x ≡ true → names_state items x.id ≡ is_state x.body) items
named_by_id items m =
    all_with (λ (x : Item). find_item items x.id ≡ Some x) (λ (x : Item). is_leaf x ≡ true → names_state items x.id ≡ is_state x.body) items (λ x found leaf. found_names items x (is_state x.body) found refl) (found_by_id greatest_width items m)

leaves : (wide : List Item) (t : Spots) (celled : List Item) (inputs states : List ℕ) → Ended wide t celled inputs states → Leaves wide t celled
leaves wide t celled inputs states h =
    let both = all_both (λ (x : Item). Stands x wide t celled) (λ (x : Item). find_item wide x.id ≡ Some x) wide h.stand h.found in
    record {
      wide_named = named_by_id wide h.split.wide_model;
      celled_named = named_by_id celled h.model;
      alike = to_ids (λ id. AllByRecursion (λ p. names_state celled p ≡ names_state wide id) (layout_by t id)) is_leaf wide
          (all_with (λ (x : Item). Stands x wide t celled × (find_item wide x.id ≡ Some x)) (λ (x : Item). is_leaf x ≡ true → AllByRecursion (λ p. names_state celled p ≡ names_state wide x.id) (layout_by t x.id)) wide
          (λ x own leaf. subst (λ (b : Bool). AllByRecursion (λ p. names_state celled p ≡ b) (layout_by t x.id)) (sym (found_names wide x (is_state x.body) own.1 refl)) (own.0.leaf leaf)) both);
      free = to_ids (λ id. AllByRecursion (λ p. is_free celled p ≡ is_free wide id) (layout_by t id)) is_leaf wide
          (all_with (λ (x : Item). Stands x wide t celled × (find_item wide x.id ≡ Some x)) (λ (x : Item). is_leaf x ≡ true → AllByRecursion (λ p. is_free celled p ≡ is_free wide x.id) (layout_by t x.id)) wide
          (λ x own leaf. leaf_free wide t celled inputs states x h own.1 (own.0.leaf leaf)) both);
    }

-- inputs are free
free_inputs : (items : List Item) → IsWideModel greatest_width items → AllByRecursion (λ (x : Item). is_input x.body ≡ true → is_free items x.id ≡ true) items
free_inputs items m =
    all_with (λ (x : Item). find_item items x.id ≡ Some x) (λ (x : Item). is_input x.body ≡ true → is_free items x.id ≡ true) items
    (λ x found is. no_state_is_free items x.id m (found_names items x false found (input_is_no_state x.body is))) (found_by_id greatest_width items m)

state_names : (wide : List Item) → IsWideModel greatest_width wide → AllByRecursion (λ id. names_state wide id ≡ true) (carried_ids wide)
state_names wide m =
    to_ids (λ id. names_state wide id ≡ true) (is_carried_state wide) wide
    (all_with (λ (x : Item). find_item wide x.id ≡ Some x) (λ (x : Item). is_carried_state wide x ≡ true → names_state wide x.id ≡ true) wide (λ x found is. found_names wide x true found (and_front (is_state x.body) (not (is_free wide x.id)) is)) (found_by_id greatest_width wide m))
  where
    and_front : (b c : Bool) → (b && c) ≡ true → b ≡ true
    and_front true c h = refl
    and_front false c h = h

fitting : (wide : List Item) (t : Spots) (celled : List Item) (inputs states : List ℕ) → Ended wide t celled inputs states → IsFittingOf wide (layout_by t) celled
fitting wide t celled inputs states h =
    let layout = layout_by t in
    let lv = leaves wide t celled inputs states h in
    let wide_inputs = free_inputs wide h.split.wide_model in
    let celled_inputs = free_inputs celled h.model in
    let both = all_both (λ (x : Item). Stands x wide t celled) (λ (x : Item). find_item wide x.id ≡ Some x) wide h.stand h.found in
    let widths = to_ids (HasWidthOfPieces wide layout celled) is_leaf wide
    (all_with (λ (x : Item). Stands x wide t celled × (find_item wide x.id ≡ Some x)) (λ (x : Item). is_leaf x ≡ true → HasWidthOfPieces wide layout celled x.id) wide (λ x own leaf. leaf_width wide t celled x own.1 own.0 leaf) both) in
    record {
      ordered = names_earlier wide h.split.wide_model;
      well_formed = h.model;
      given = ap (flat_map layout) (given_by wide wide wide_inputs) ∙ pieces_filtered (is_free wide) (is_free celled) layout (leaf_ids wide) lv.free ∙ ap (filter (is_free celled)) h.split.leaves ∙ sym (given_by celled celled celled_inputs);
      carried = ap (flat_map layout) (carried_by wide wide wide_inputs)
          ∙ pieces_filtered (λ id. not (is_free wide id)) (λ id. not (is_free celled id)) layout (leaf_ids wide)
          (all_with (λ id. AllByRecursion (λ p. is_free celled p ≡ is_free wide id) (layout id)) (λ id. AllByRecursion (λ p. not (is_free celled p) ≡ not (is_free wide id)) (layout id)) (leaf_ids wide)
          (λ id own. all_with (λ p. is_free celled p ≡ is_free wide id) (λ p. not (is_free celled p) ≡ not (is_free wide id)) (layout id) (λ p e. ap not e) own) lv.free)
          ∙ ap (filter (λ id. not (is_free celled id))) h.split.leaves ∙ sym (carried_by celled celled celled_inputs);
      given_widths = among_leaves (HasWidthOfPieces wide layout celled) (is_given wide) wide (given_leaf wide) widths;
      carried_widths = among_leaves (HasWidthOfPieces wide layout celled) (is_carried_state wide) wide (carried_leaf wide) widths;
      lines = all_with (λ (x : Item). Stands x wide t celled × (is_leaf x ≡ true → AllByRecursion (λ p. is_free celled p ≡ is_free wide x.id) (layout x.id))) (Carries wide layout celled) wide (λ x own. line_carried wide t celled x own.0 own.1)
          (all_both (λ (x : Item). Stands x wide t celled) (λ (x : Item). is_leaf x ≡ true → AllByRecursion (λ p. is_free celled p ≡ is_free wide x.id) (layout x.id)) wide h.stand
          (of_ids (λ id. AllByRecursion (λ p. is_free celled p ≡ is_free wide id) (layout id)) is_leaf wide lv.free));
      inits = all_with (λ (x : Item). Stands x wide t celled) (λ (x : Item). InitIsCarried wide layout celled x.body) wide (λ x own. own.init) h.stand;
      no_other_inits = all_with (λ id. names_state wide id ≡ true) (AbsenceIsCarried wide layout celled) (carried_ids wide)
          (λ id names none. all_among (λ p. init_value celled p ≡ None) (layout id) (λ p among. cells_open wide t celled inputs states id p h.split h.model names among none)) (state_names wide h.split.wide_model);
      nexts = all_with (λ id. names_state wide id ≡ true) (NextIsCarried wide layout celled) (carried_ids wide) (λ id names. next_carried wide t celled inputs states id h names) (state_names wide h.split.wide_model);
      outputs = outputs_carried wide t celled inputs states h;
      bads = shown_bits is_bad wide t celled inputs states h h.split.bads (bits_from is_bad bad_bit wide [] wide refl h.split.wide_model);
      constraints = shown_bits is_constraint wide t celled inputs states h h.split.constraints (bits_from is_constraint constraint_bit wide [] wide refl h.split.wide_model);
    }

-- ---- states without a next line

no_init_no_lack : (items : List Item) (p : ℕ) → init_value items p ≡ None → HasNo items p
no_init_no_lack items p e = ap (λ (o : Option ℕ). is_some o && is_none (next_value items p)) e

not_begun : (o : Option ℕ) → (is_some o && true) ≡ false → o ≡ None
not_begun None h = refl
not_begun (Some v) h = absurd (cc)

cells_have : (wide : List Item) (t : Spots) (celled : List Item) (inputs states : List ℕ) (id : ℕ) → Ended wide t celled inputs states → names_state wide id ≡ true → HasNo wide id → AllByRecursion (HasNo celled) (layout_by t id)
cells_have wide t celled inputs states id h names has = by (next_value wide id) refl has
  where
    by : (o : Option ℕ) → next_value wide id ≡ o → (is_some (init_value wide id) && is_none o) ≡ false → AllByRecursion (HasNo celled) (layout_by t id)
    by None e none =
        let none_there = not_begun (init_value wide id) none in
        all_among (HasNo celled) (layout_by t id) (λ p among. no_init_no_lack celled p (cells_open wide t celled inputs states id p h.split h.model names among none_there))
    by (Some v) e none =
        let own = takes wide t celled inputs states id v h e in
        all_with (λ p. is_none (next_value celled p) ≡ false) (HasNo celled) (layout_by t id) (λ p is. next_has_no celled p is) (have_nexts celled (layout_by t id) own.0 own.1)

nothing_lacks : (wide : List Item) (t : Spots) (celled : List Item) (inputs states : List ℕ) → Ended wide t celled inputs states → flat_map (layout_by t) (state_ids wide) ≡ state_ids celled → first_init_without_next wide wide ≡ None → first_init_without_next celled celled ≡ None
nothing_lacks wide t celled inputs states h leaves none =
    let pieces = to_ids (λ id. AllByRecursion (HasNo celled) (layout_by t id)) (λ x. is_state x.body) wide
    (all_with (λ (x : Item). (find_item wide x.id ≡ Some x) × (is_state x.body ≡ true → HasNo wide x.id)) (λ (x : Item). is_state x.body ≡ true → AllByRecursion (HasNo celled) (layout_by t x.id)) wide
    (λ x own is. cells_have wide t celled inputs states x.id h (found_names wide x true own.0 is) (own.1 is))
    (all_both (λ (x : Item). find_item wide x.id ≡ Some x) (λ (x : Item). is_state x.body ≡ true → HasNo wide x.id) wide h.found (none_found wide wide none))) in
    finds_none celled celled (of_ids (HasNo celled) (λ x. is_state x.body) celled (subst (AllByRecursion (HasNo celled)) leaves (from_pieces (HasNo celled) (layout_by t) (state_ids wide) pieces)))

-- ---- all of it

celled_whole : (wide : List Item) (t : Spots) (celled : List Item) (inputs states : List ℕ) → IsSplit wide t celled inputs states → IsWideModel greatest_width celled → (c : IsCelledOf wide inputs states celled) × (c.layout ≡ layout_by t)
celled_whole wide t celled inputs states split model =
    let h = ended wide t celled inputs states split model in
    let layout = layout_by t in
    let lv = leaves wide t celled inputs states h in
    let same = goes_same wide t celled split.wide_model model in
    let state_leaves = ap (flat_map layout) (states_by wide wide lv.wide_named) ∙ pieces_filtered (names_state wide) (names_state celled) layout (leaf_ids wide) lv.alike ∙ ap (filter (names_state celled)) split.leaves ∙ sym (states_by celled celled lv.celled_named) in (
      record {
        layout = layout;
        fits = fitting wide t celled inputs states h;
        input_leaves = ap (flat_map layout) (inputs_by wide wide lv.wide_named)
            ∙ pieces_filtered (λ id. not (names_state wide id)) (λ id. not (names_state celled id)) layout (leaf_ids wide)
            (all_with (λ id. AllByRecursion (λ p. names_state celled p ≡ names_state wide id) (layout id)) (λ id. AllByRecursion (λ p. not (names_state celled p) ≡ not (names_state wide id)) (layout id)) (leaf_ids wide)
            (λ id own. all_with (λ p. names_state celled p ≡ names_state wide id) (λ p. not (names_state celled p) ≡ not (names_state wide id)) (layout id) (λ p e. ap not e) own) lv.alike)
            ∙ ap (filter (λ id. not (names_state celled id))) split.leaves ∙ sym (inputs_by celled celled lv.celled_named);
        state_leaves = state_leaves;
        input_cells = split.input_cells wide t celled same;
        state_cells = split.state_cells wide t celled same;
        leaf_names = all_with (λ (x : Item). Stands x wide t celled) (CellsAreNamed layout celled) wide (λ x own. own.names) h.stand;
        bad_names = split.bads.names;
        constraint_names = split.constraints.names;
        output_names = split.outputs.names;
        forms = split.forms;
        nexts = nothing_lacks wide t celled inputs states h state_leaves;
      },
      refl,
    )

-- each node has its whole word where it stands
wholes : (wide : List Item) (t : Spots) (celled : List Item) (inputs states : List ℕ) → IsSplit wide t celled inputs states → IsWideModel greatest_width celled → HasWholes wide (layout_by t) celled t
wholes wide t celled inputs states split model id there =
    let k = known_at wide t celled wide t celled id split.stand (goes_same wide t celled split.wide_model model) there in
    record { width = k.in_celled ∙ sym (ap (λ (o : Option ℕ). Some (unwrap_or o 0)) k.in_wide); word = k.has.word }

pub celled_with : (wide : List Item) (t : Spots) (celled : List Item) (inputs states : List ℕ) → IsSplit wide t celled inputs states → IsWideModel greatest_width celled → (c : IsCelledOf wide inputs states celled) × HasWholes wide c.layout celled t
celled_with wide t celled inputs states split model =
    let c = celled_whole wide t celled inputs states split model in
    (c.0, subst (λ (layout : Layout). HasWholes wide layout celled t) (sym c.1) (wholes wide t celled inputs states split model))
