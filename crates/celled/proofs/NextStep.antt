-- A list goes on by the next lines of the cells of a state.
use Rattle.std.proofs.Common.{◌≡◌, ℕ, zero, suc, ◌+◌, ◌*◌, ◌/◌, ◌%◌, ◌^◌, ◌<◌, Bool, true, false, cond, ◌||◌, List, [], ◌∷◌, ◌++◌, map, flat_map, length, Option, Some, None, IfSome, is_some, unwrap_or, slice_get, refl, sym, ap, ap₂, subst, ◌∙◌, arith, eq-eqb}
use Rattle.std.specs.List.{AllZip}
use Rattle.std.specs.Option.{option_or}
use Rattle.std.proofs.lemmas.Option.{same_Some}
use Rattle.std.proofs.lemmas.Nat.{shr-shr, mod-pow-add}
use Rattle.std.proofs.Math.Nat.{mod-eq_of_lt}
use Rattle.base.specs.Operator.{concat_value}
use Rattle.btor2.specs.declared.item.Item.{Item}
use Rattle.btor2.specs.declared.item.Body.{Body}
use Rattle.btor2.specs.declared.item.Body.TheVariants as body
use Rattle.btor2.specs.Items.{node_sort, sort_bits, sort_width, node_width, constant_word, constant_of, names_state, is_input, is_state, is_bad, is_constraint, next_value}
use Rattle.btor2.specs.Trace.{Frame, bits_of, line_word, IsFrame, IsInput, IsState}
use Rattle.btor2.proofs.AppendLemmas.{node_width-append, names_state-append, some_of, is_some_from}
use Rattle.wide.specs.WideModels.{greatest_width, wide_refusal, IsWideModel}
use Rattle.wide.proofs.GrowLemmas.{model_push}
use Rattle.full.specs.Cells.{read_value}
use Rattle.full.specs.Gives.{GivesWord}
use Rattle.full.proofs.GivesLemmas.{gives_kept, gives_there}
use Rattle.full.proofs.ListLemmas.{all_with}
use Rattle.full.proofs.PlainLaw.{wide_words_fit}
use Rattle.fit.specs.Fitting.{is_output, pieces_word, InitIsCarried}
use Rattle.fit.proofs.LineLemmas.{carries_no_word}
use Rattle.fit.proofs.ModelLemmas.{next_width}
use Rattle.fitting.specs.Fitted.{is_leaf, leaf_ids}
use Rattle.fitting.specs.Models.{input_ids, state_ids}
use Rattle.fitting.proofs.GrowLemmas.{next_value-append}
use Rattle.writeout.specs.Faults.{is_live_body}
use Rattle.writeout.proofs.LateLemmas.{nexts_joined}
use Rattle.cells.specs.Lines.{IsAmong}
use Rattle.celled.specs.Celled.{HasCells}
use Rattle.celled.specs.Spots.{Spots, layout_by, ids_from}
use Rattle.celled.specs.Split.{GoesOn, Settled, HasWord, NextIsTaken, Stands, IsOwned, IsSplit}
use Rattle.celled.specs.Steps.{size_by, IsNextBy, IsNextOf, TakesCell, NextsPut, IsSpotted, AreLoose}
use Rattle.celled.specs.declared.table.Spot.{Spot}
use Rattle.celled.proofs.CellLemmas.{at_ids_from, no_bits}
use Rattle.celled.proofs.StandLemmas.{AllStand, goes_same, goes_back, fresh_in, spotted_same, layout_same, known_at, cells_loose, cells_named, among_from}
use Rattle.celled.proofs.CopyLemmas.{next_said}
use Rattle.celled.proofs.CopiedLemmas.{own_spot, own_there, line_at, node_found}
use Rattle.celled.proofs.OnLemmas.{Step}
use Rattle.celled.proofs.ArrayOwn.{IsQuiet, shows_nothing, no_leaves}
use Rattle.celled.proofs.InitStep.{state_cells, cut_whole}

-- ---- what is known of the line

pub record NextBy (front : List Item) (t : Spots) (b : Body) (node : ℕ) (spot : Spot) (width : ℕ) : Type 0 where
  pub s : ℕ
  pub id : ℕ
  pub v : ℕ
  pub is : b ≡ body.Next s id v
  pub value : t.node v ≡ node
  pub first : spot.first ≡ t.first id
  pub count : spot.count ≡ t.count id
  pub several : spot.count ≡ 1 → ⊥
  pub wide : node_width front id ≡ Some width

pub next_by : (front : List Item) (t : Spots) (b : Body) (node : ℕ) (spot : Spot) (width : ℕ) → IsNextBy front t b node spot width → NextBy front t b node spot width
next_by front t (body.Next s id v) node spot width h = record { s = s; id = id; v = v; is = refl; value = h.0; first = h.1; count = h.2; several = h.3; wide = h.4 }
next_by front t _ node spot width h = absurd h

-- the value is as wide as the state
pub value_width : (front : List Item) (x : Item) (s id v width : ℕ) → IsWideModel greatest_width front → wide_refusal greatest_width front x ≡ None → x.body ≡ body.Next s id v → node_width front id ≡ Some width → node_width front v ≡ Some width
value_width front x s id v width w accepted e wide =
    let said = next_said front x s id v accepted e in
    let line : next_value (x ∷ []) id ≡ Some v = ap (λ (b : Body). next_value (record { id = x.id; symbol = x.symbol; body = b } ∷ []) id) e ∙ ap (λ (b : Bool). option_or (cond b (Some v) None) None) (eq-eqb id id refl) in
    let value : next_value (front ++ x ∷ []) id ≡ Some v = nexts_joined front (x ∷ []) id ∙ ap₂ option_or said.first line in
    let both = next_width (front ++ x ∷ []) id v (model_push greatest_width front x w accepted) value in
    let own = some_of (node_width front v) said.value in
    let same : own.0 ≡ width = same_Some own.0 width (sym (node_width-append front (x ∷ []) v own.0 own.1) ∙ both.of_value ∙ sym both.of_state ∙ node_width-append front (x ∷ []) id width wide) in
    own.1 ∙ ap (λ (k : ℕ). Some k) same

pub value_node : (front : List Item) (t : Spots) (celled : List Item) (x : Item) (s id v width : ℕ) → IsWideModel greatest_width front → IsWideModel greatest_width celled → AllStand front t celled → wide_refusal greatest_width front x ≡ None → x.body ≡ body.Next s id v → node_width front id ≡ Some width
    → node_width celled (t.node v) ≡ Some width
value_node front t celled x s id v width w m stand accepted e wide =
    let own = value_width front x s id v width w accepted e wide in
    let k = known_at front t celled front t celled v stand (goes_same front t celled w m) (is_some_from (node_width front v) width own) in
    k.in_celled ∙ sym k.in_front ∙ own

pub cells_free : (front : List Item) (t : Spots) (celled : List Item) (inputs states : List ℕ) (x : Item) (s id v : ℕ) → IsSplit front t celled inputs states → IsWideModel greatest_width celled → wide_refusal greatest_width front x ≡ None → x.body ≡ body.Next s id v
    → AreLoose celled (t.first id) (t.count id)
cells_free front t celled inputs states x s id v h m accepted e i less =
    let said = next_said front x s id v accepted e in
    let named = cells_named front t celled front t celled id h.stand (goes_same front t celled h.wide_model m) said.state in (
      at_ids_from (λ p. names_state celled p ≡ true) (t.first id) (t.count id) i named less,
      cells_loose front t celled inputs states id (t.first id + i) h m said.state (among_from (t.first id) (t.count id) i less) said.first,
    )

-- ---- the nodes that the cells take

pub record Taken (n : List Item) (first count size v k : ℕ) : Type 0 where
  pub nodes : List ℕ
  pub nexts : map (next_value n) (ids_from first count) ≡ map (λ q. Some q) nodes
  pub word : (st inp g : Frame) → IsState n st → IsInput n inp → IsFrame n st inp g → pieces_word (bits_of n) g nodes ≡ g v / 2 ^ (size * k) % 2 ^ (count * size)

taken : (n : List Item) (first count size v k : ℕ) → IsWideModel greatest_width n → ((i : ℕ) → i < count → TakesCell n (first + i) size v (k + i)) → Taken n first count size v k
taken n first zero size v k m h = record { nodes = []; nexts = refl; word = λ st inp g states inputs frame. no_bits (g v / 2 ^ (size * k)) (zero * size) (omega arith) }
taken n first (suc c) size v k m h =
    let d : first + 0 ≡ first = omega arith in
    let e : k + 0 ≡ k = omega arith in
    let own : TakesCell n first size v k = subst (λ (p : ℕ). TakesCell n p size v k) d (subst (λ (j : ℕ). TakesCell n (first + 0) size v j) e (h 0 (omega arith))) in
    let rest = taken n (suc first) c size v (suc k) m (λ i less.
    let f : first + suc i ≡ suc first + i = omega arith in
    let j : k + suc i ≡ suc k + i = omega arith in
    subst (λ (p : ℕ). TakesCell n p size v (suc k + i)) f (subst (λ (q : ℕ). TakesCell n (first + suc i) size v q) j (h (suc i) (omega (arith, less))))) in
    let w : c * size + size ≡ suc c * size = omega arith in
    record {
      nodes = own.node ∷ rest.nodes;
      nexts = ap₂ ◌∷◌ own.next rest.nexts;
      word = λ st inp g states inputs frame.
          let up : g v / 2 ^ (size * suc k) ≡ g v / 2 ^ (size * k) / 2 ^ size = ap (λ (j : ℕ). g v / 2 ^ j) (next_place size k) ∙ sym (shr-shr (g v) (size * k) size) in
          let bits : bits_of n own.node ≡ size = ap (λ (o : Option ℕ). unwrap_or o 0) own.word.width in
          let low : g own.node ≡ read_value size (g v) k = gives_there n size (λ g. read_value size (g v) k) own.node m own.word st inp g states inputs frame in
          ap₂ (λ (j lo : ℕ). concat_value (pieces_word (bits_of n) g rest.nodes) j lo) bits low
          ∙ ap (λ (hi : ℕ). concat_value hi size (read_value size (g v) k)) (rest.word st inp g states inputs frame ∙ ap (λ (j : ℕ). j % 2 ^ (c * size)) up)
          ∙ sym (mod-pow-add (g v / 2 ^ (size * k)) (c * size) size) ∙ ap (λ (j : ℕ). g v / 2 ^ (size * k) % 2 ^ j) w;
    }
  where
    next_place : (size k : ℕ) → size * suc k ≡ size * k + size
    next_place size k = grind arith

-- ---- what stands

pub record Followed (front : List Item) (t : Spots) (celled : List Item) (x : Item) (s id v width : ℕ) (t' : Spots) (celled' : List Item) (place : ℕ) : Type 0 where
  pub wide_model : IsWideModel greatest_width front
  pub model : IsWideModel greatest_width celled
  pub stand : AllStand front t celled
  pub accepted : wide_refusal greatest_width front x ≡ None
  pub is : x.body ≡ body.Next s id v
  pub wide : node_width front id ≡ Some width
  pub put : NextsPut celled celled' (t.first id) (t.count id) (width / t.count id) (t.node v)
  pub spots : IsSpotted t t' x.id 0 0 0 place
  pub at : length front ≡ place

followed_next : (front : List Item) (t : Spots) (celled : List Item) (x : Item) (s id v width : ℕ) (t' : Spots) (celled' : List Item) (place : ℕ) (w : List Item) (u : Spots) (n : List Item) → Followed front t celled x s id v width t' celled' place → GoesOn (front ++ x ∷ []) t' celled' w u n → GoesOn front t celled w u n
    → NextIsTaken u n (body.Next s id v)
followed_next front t celled x s id v width t' celled' place w u n c g back =
    let cells = state_cells front t celled id width c.wide_model c.model c.stand c.wide in
    let size = cells.size in
    let count = t.count id in
    let first = t.first id in
    let found = node_found front id (is_some_from (node_width front id) width c.wide) in
    let layout : layout_by u id ≡ ids_from first count = ap₂ ids_from (back.first id found) (back.count id found) in
    let all = taken n first count size (t.node v) 0 g.model (λ i less.
    let at = c.put.takes i less in
    let zero_on : 0 + i ≡ i = omega arith in
    subst (λ (j : ℕ). TakesCell n (first + i) size (t.node v) j) (sym zero_on)
    (subst (λ (k : ℕ). TakesCell n (first + i) k (t.node v) i) cells.each
    (record {
      node = at.node;
      next = ap (λ (l : List Item). next_value l (first + i)) g.is ∙ next_value-append celled' g.more (first + i) at.node at.next;
      word = subst (λ (l : List Item). GivesWord l (width / count) (λ f. read_value (width / count) (f (t.node v)) i) at.node) (sym g.is) (gives_kept celled' g.more (width / count) (λ f. read_value (width / count) (f (t.node v)) i) at.node at.word);
    }))) in
    let said = next_said front x s id v c.accepted c.is in
    let k = known_at front t celled w u n v c.stand back said.value in
    let there = node_found front v said.value in
    let node : u.node v ≡ t.node v = back.node v there in
    let wide = value_width front x s id v width c.wide_model c.accepted c.is c.wide in
    let bits : bits_of n (t.node v) ≡ width = ap (bits_of n) (sym node) ∙ ap (λ (o : Option ℕ). unwrap_or o 0) (k.in_celled ∙ sym k.in_front ∙ wide) in (
      all.nodes,
      ap (map (next_value n)) layout ∙ all.nexts,
      λ st inp f states inputs frame.
          let below : f (t.node v) < 2 ^ width = subst (λ (m : ℕ). f (t.node v) < 2 ^ m) bits
          (wide_words_fit n st inp f g.model states inputs frame (t.node v) (ap (λ (q : ℕ). is_some (node_width n q)) (sym node) ∙ is_some_from (node_width n (u.node v)) k.bits k.in_celled)) in
          all.word st inp f states inputs frame ∙ cut_whole (f (t.node v)) width (count * size) size count refl (sym cells.together) ∙ mod-eq_of_lt below ∙ ap f (sym node) ∙ k.has.word st inp f states inputs frame,
    )

followed_stands : (front : List Item) (t : Spots) (celled : List Item) (x : Item) (s id v width : ℕ) (t' : Spots) (celled' : List Item) (place : ℕ) → Followed front t celled x s id v width t' celled' place → Settled (front ++ x ∷ []) t' celled' (Stands x)
followed_stands front t celled x s id v width t' celled' place c w u n g =
    let fresh = fresh_in front x c.accepted in
    let there = own_there front x fresh in
    let line : u.line x.id ≡ length front = g.line x.id there ∙ c.spots.line_at x.id ∙ own_spot x.id place (t.line x.id) ∙ sym c.at in
    let back = goes_back front x t t' celled celled' c.put.more w u n c.put.is (spotted_same front t t' x.id 0 0 0 place fresh c.spots) g in
    let to : (P : Body → Type 0) → P (body.Next s id v) → P x.body = λ P h. subst P (sym c.is) h in
    record {
      line = ap₂ slice_get g.wide_is line ∙ line_at front x g.lines;
      sort = to (λ b. IfSome (sort_bits b) (λ k. sort_width n (u.node x.id) ≡ Some k)) tt;
      value = to (λ b. IfSome (node_sort b) (HasWord w u n x.id)) tt;
      constant = to (λ b. IfSome (constant_word (bits_of w x.id) b) (λ k. constant_of n (u.node x.id) ≡ Some k)) tt;
      carried = λ other. carries_no_word w n (layout_by u) x (λ state input f. to (λ b. line_word w state input f x.id b ≡ None) refl);
      leaf = λ is. absurd (no_leaf (to (λ b. (is_input b || is_state b) ≡ false) refl) is);
      names = λ is. absurd (no_leaf (to (λ b. (is_input b || is_state b) ≡ false) refl) is);
      init = to (InitIsCarried w (layout_by u) n) tt;
      next = to (NextIsTaken u n) (followed_next front t celled x s id v width t' celled' place w u n c g back);
    }
  where
    no_leaf : is_leaf x ≡ false → is_leaf x ≡ true → ⊥
    no_leaf e h = let d : false ≡ true = sym e ∙ h in cc

-- ---- the step

next_quiet : (first count : ℕ) (b : Body) → IsNextOf first count b → IsQuiet b
next_quiet first count (body.Next s p c) h = (refl, refl, refl, refl)
next_quiet first count (body.Bad a) h = absurd (cc)
next_quiet first count (body.Constraint a) h = absurd (cc)
next_quiet first count (body.Output a) h = absurd (cc)
next_quiet first count (body.Fair a) h = absurd (cc)
next_quiet first count (body.Justice nodes) h = absurd (cc)
next_quiet first count _ h = (refl, refl, refl, refl)

next_no_leaf : (first count : ℕ) (b : Body) → IsNextOf first count b → (is_input b || is_state b) ≡ false
next_no_leaf first count (body.Input s) h = absurd (cc)
next_no_leaf first count (body.State s) h = absurd (cc)
next_no_leaf first count _ h = refl

next_owned : (front : List Item) (t : Spots) (id first count : ℕ) (b : Body) → names_state front id ≡ true → is_some (next_value front id) ≡ true → layout_by t id ≡ ids_from first count → IsNextOf first count b → IsOwned front t b
next_owned front t id first count (body.Next s p c) names some layout h = (id, names, subst (IsAmong p) (sym layout) (subst (λ (q : ℕ). IsAmong q (ids_from first count)) (sym h.2) (among_from first count h.0 h.1)), some)
next_owned front t id first count (body.Init s p c) names some layout h = absurd (cc)
next_owned front t id first count _ names some layout h = tt

pub followed_step : (front : List Item) (t : Spots) (celled : List Item) (x : Item) (s id v width : ℕ) (t' : Spots) (celled' : List Item) (place k : ℕ) → Followed front t celled x s id v width t' celled' place → Step front t celled x k t' celled'
followed_step front t celled x s id v width t' celled' place k c =
    let more = c.put.more in
    let first = t.first id in
    let count = t.count id in
    let same = spotted_same front t t' x.id 0 0 0 place (fresh_in front x c.accepted) c.spots in
    let said = next_said front x s id v c.accepted c.is in
    let found = node_found front id said.there in
    let line : next_value (x ∷ []) id ≡ Some v = ap (λ (b : Body). next_value (record { id = x.id; symbol = x.symbol; body = b } ∷ []) id) c.is ∙ ap (λ (b : Bool). option_or (cond b (Some v) None) None) (eq-eqb id id refl) in
    let value : next_value (front ++ x ∷ []) id ≡ Some v = nexts_joined front (x ∷ []) id ∙ ap₂ option_or said.first line in
    let quiet = all_with (λ (y : Item). IsNextOf first count y.body) (λ (y : Item). IsQuiet y.body) more (λ y q. next_quiet first count y.body q) c.put.quiet in
    let to : (P : Body → Type 0) → P (body.Next s id v) → P x.body = λ P h. subst P (sym c.is) h in
    record {
      accepted = c.accepted;
      more = more;
      is = c.put.is;
      same = same;
      own = followed_stands front t celled x s id v width t' celled' place c;
      inputs = λ w u n g. to (λ b. AllZip (HasCells (layout_by u) n) (input_ids (record { id = x.id; symbol = x.symbol; body = b } ∷ [])) (size_by is_input (record { id = x.id; symbol = x.symbol; body = b }) k)) tt;
      states = λ w u n g. to (λ b. AllZip (HasCells (layout_by u) n) (state_ids (record { id = x.id; symbol = x.symbol; body = b } ∷ [])) (size_by is_state (record { id = x.id; symbol = x.symbol; body = b }) k)) tt;
      leaves = to (λ b. flat_map (layout_by t') (leaf_ids (record { id = x.id; symbol = x.symbol; body = b } ∷ [])) ≡ []) refl
          ∙ sym (no_leaves more (all_with (λ (y : Item). IsNextOf first count y.body) (λ (y : Item). is_leaf y ≡ false) more (λ y q. next_no_leaf first count y.body q) c.put.quiet));
      owners = all_with (λ (y : Item). IsNextOf first count y.body) (λ (y : Item). IsOwned (front ++ x ∷ []) t' y.body) more
          (λ y q. next_owned (front ++ x ∷ []) t' id first count y.body (names_state-append front (x ∷ []) id said.state) (is_some_from (next_value (front ++ x ∷ []) id) v value) (layout_same t t' id (same.first id found) (same.count id found)) q) c.put.quiet;
      bads = shows_nothing is_bad x t' more (to (λ b. is_bad b ≡ false) refl) (all_with (λ (y : Item). IsQuiet y.body) (λ (y : Item). is_bad y.body ≡ false) more (λ y q. q.0) quiet);
      constraints = shows_nothing is_constraint x t' more (to (λ b. is_constraint b ≡ false) refl) (all_with (λ (y : Item). IsQuiet y.body) (λ (y : Item). is_constraint y.body ≡ false) more (λ y q. q.1) quiet);
      outputs = shows_nothing is_output x t' more (to (λ b. is_output b ≡ false) refl) (all_with (λ (y : Item). IsQuiet y.body) (λ (y : Item). is_output y.body ≡ false) more (λ y q. q.2) quiet);
      forms = λ none. all_with (λ (y : Item). IsQuiet y.body) (λ (y : Item). is_live_body y.body ≡ false) more (λ y q. q.3) quiet;
    }
