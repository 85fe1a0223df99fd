-- The lines that are added for leaves, init lines, next lines and outputs, one after the other.
use Rattle.std.proofs.Common.{◌≡◌, ℕ, zero, suc, ◌+◌, ◌<◌, Bool, true, false, cond, ◌||◌, nat_eq, eq-eqb, List, [], ◌∷◌, ◌++◌, map, length, take, get_or, Option, Some, None, is_some, unwrap_or, option_and_then, append_assoc, append-nil, refl, sym, ap, ap₂, subst, subst₂, ◌∙◌, arith}
use Rattle.std.specs.List.{AllByRecursion, AllZip}
use Rattle.std.specs.Option.{option_or}
use Rattle.std.proofs.lemmas.Option.{none-some}
use Rattle.base.specs.Operator.{concat_value}
use Rattle.btor2.specs.declared.item.Item.{Item}
use Rattle.btor2.specs.declared.item.Body.{Body}
use Rattle.btor2.specs.declared.item.Body.TheVariants as body
use Rattle.btor2.specs.Items.{find_item, constant_of, is_input, is_state, names_state, init_value, init_word, next_value}
use Rattle.btor2.specs.Check.{IsWellFormed}
use Rattle.btor2.proofs.AppendLemmas.{find_item-append, find_item-after, constant_of-append, names_state-append, some_of, is_some_from}
use Rattle.btor2.proofs.ModelLemmas.{IsAccepted-at, find_item-own}
use Rattle.btor2.proofs.ConstantLemmas.{init_value-after}
use Rattle.fit.specs.Fitting.{is_output, init_words}
use Rattle.fit.proofs.ListLemmas.{all_with, all_join}
use Rattle.pieces.specs.declared.node.Node.{Node}
use Rattle.pieces.specs.Constants.{AreConstants}
use Rattle.pieces.specs.Lines.{is_plain, ArePlain, named, AddsSorted}
use Rattle.pieces.specs.Nodes.{word_of, bits_in, AreNodes}
use Rattle.pieces.specs.Cuts.{widths}
use Rattle.pieces.proofs.ListLemmas.{word_more, bits_more, taken, same_taken, same_bits}
use Rattle.fitting.specs.Names.{piece_symbol, names_from, word_names}
use Rattle.fitting.specs.Fitted.{constant_words, HaveNames, TakesNode}
use Rattle.fitting.specs.Steps.{is_leaf_of, IsLeafOf, adds_leaf, adds_init, adds_next, adds_output, IsOther, AreApart, AddsLeaves, AddsInits, AddsNexts, AddsOutputs}
use Rattle.fitting.proofs.GrowLemmas.{nodes_on, constants_on, inits_on, nexts_on, names_on}
use Rattle.fitting.proofs.NameLemmas.{names_more, split_names}
use Rattle.fitting.proofs.StepLemmas.{split_leaves, split_nodes, split_map, next_value-after, plain_leaves, plain_inits, plain_nexts}

-- ---- lists

pub all_taken : {A : Type 0} (P : A → Type 0) (k : ℕ) (xs : List A) → AllByRecursion P xs → AllByRecursion P (take k xs)
all_taken P zero xs h = tt
all_taken P (suc k) [] h = tt
all_taken P (suc k) (x ∷ xs) h = (h.0, all_taken P k xs h.1)

pub all_nth : {A : Type 0} (P : A → Type 0) (xs : List A) (i : ℕ) (d : A) → i < length xs → AllByRecursion P xs → P (get_or xs i d)
all_nth P [] i d within h = absurd (omega (arith, within))
all_nth P (x ∷ xs) zero d within h = h.0
all_nth P (x ∷ xs) (suc i) d within h = all_nth P xs i d (omega (arith, within)) h.1

pub apart_at : (ps : List Node) (k : ℕ) (d : Node) → k < length ps → AreApart ps → IsOther (take k ps) (get_or ps k d).id
apart_at [] k d within h = absurd (omega (arith, within))
apart_at (p ∷ ps) zero d within h = tt
apart_at (p ∷ ps) (suc k) d within h = (all_nth (λ (q : Node). nat_eq q.id p.id ≡ false) ps k d (omega (arith, within)) h.0, apart_at ps k d (omega (arith, within)) h.1)

pub find_none : (before more : List Item) (id : ℕ) → find_item (before ++ more) id ≡ None → find_item before id ≡ None
find_none before more id h = by (find_item before id) refl
  where
    by : (o : Option Item) → find_item before id ≡ o → find_item before id ≡ None
    by None e = e
    by (Some x) e = absurd (none-some x (sym h ∙ find_item-append before more id x e))

two_after : (old mid new more lines : List Item) → mid ≡ old ++ more → new ≡ mid ++ lines → new ≡ old ++ (more ++ lines)
two_after old mid new more lines is then = then ∙ ap (λ (l : List Item). l ++ lines) is ∙ append_assoc old more lines

-- ---- leaves

plain_adds_leaf : (b : Body) → is_plain b ≡ true → adds_leaf b ≡ true
plain_adds_leaf (body.Input s) h = refl
plain_adds_leaf (body.State s) h = refl
plain_adds_leaf _ h = h

pub leaf_added : (input : Bool) (old new : List Item) (r : Node) (n : ℕ) (symbol : Option (List ℕ)) (of : ℕ → Body) → ((s : ℕ) → adds_leaf (of s) ≡ true) → ((s : ℕ) → is_leaf_of input (of s) ≡ true) → ((s : ℕ) → (is_input (of s) || is_state (of s)) ≡ true)
    → AddsSorted old new r.id n symbol of → IsWellFormed new → AddsLeaves input old new (r ∷ []) (symbol ∷ [])
leaf_added input old new r n symbol of quiet kind leaf a w =
    let added = named r.id symbol (of a.sort) in
    let fresh = (IsAccepted-at new added w (record { before = old ++ a.adds.more; after = []; splits = a.adds.is })).fresh in
    let found : find_item new r.id ≡ Some added = ap (λ (l : List Item). find_item l r.id) a.adds.is ∙ find_item-after (old ++ a.adds.more) (added ∷ []) r.id fresh ∙ find_item-own added [] in
    record {
      more = a.adds.more ++ added ∷ [];
      is = a.adds.is ∙ append_assoc old a.adds.more (added ∷ []);
      quiet = all_join (λ (y : Item). adds_leaf y.body ≡ true) a.adds.more (added ∷ []) (all_with (λ (y : Item). is_plain y.body ≡ true) (λ (y : Item). adds_leaf y.body ≡ true) a.adds.more (λ y h. plain_adds_leaf y.body h) a.adds.plain) (quiet a.sort, tt);
      ids = split_leaves a.adds.more (added ∷ []) ∙ ap₂ (λ (k l : List ℕ). k ++ l) (plain_leaves a.adds.more a.adds.plain) (ap (λ (b : Bool). map (λ (y : Item). y.id) (cond b (added ∷ []) [])) (leaf a.sort));
      kinds = ((added, found, kind a.sort), tt);
      fresh = (find_none old a.adds.more r.id fresh, tt);
      named = ((added, found, refl), tt);
    }

pub kind_on : (input : Bool) (items more : List Item) (id : ℕ) → IsLeafOf input items id → IsLeafOf input (items ++ more) id
kind_on input items more id h = (h.0, find_item-append items more id h.0 h.1, h.2)

pub leaves_none : (input : Bool) (old : List Item) → AddsLeaves input old old [] []
leaves_none input old = record { more = []; is = sym (append-nil old); quiet = tt; ids = refl; kinds = tt; fresh = tt; named = tt }

names_join : (items : List Item) (ps qs : List Node) (ms ns : List (Option (List ℕ))) → HaveNames items ps ms → HaveNames items qs ns → HaveNames items (ps ++ qs) (ms ++ ns)
names_join items [] qs [] ns h k = k
names_join items [] qs (m ∷ ms) ns h k = absurd h
names_join items (p ∷ ps) qs [] ns h k = absurd h
names_join items (p ∷ ps) qs (m ∷ ms) ns h k = (h.0, names_join items ps qs ms ns h.1 k)

pub leaves_join : (input : Bool) (old mid new : List Item) (ps qs : List Node) (ms ns : List (Option (List ℕ))) → AddsLeaves input old mid ps ms → AddsLeaves input mid new qs ns → AddsLeaves input old new (ps ++ qs) (ms ++ ns)
leaves_join input old mid new ps qs ms ns h k =
    record {
      more = h.more ++ k.more;
      is = two_after old mid new h.more k.more h.is k.is;
      quiet = all_join (λ (y : Item). adds_leaf y.body ≡ true) h.more k.more h.quiet k.quiet;
      ids = split_leaves h.more k.more ∙ ap₂ (λ (i l : List ℕ). i ++ l) h.ids k.ids ∙ sym (split_map (λ (p : Node). p.id) ps qs);
      kinds = all_join (λ (p : Node). IsLeafOf input new p.id) ps qs
          (all_with (λ (p : Node). IsLeafOf input mid p.id) (λ (p : Node). IsLeafOf input new p.id) ps (λ p own. subst (λ (l : List Item). IsLeafOf input l p.id) (sym k.is) (kind_on input mid k.more p.id own)) h.kinds) k.kinds;
      fresh = all_join (λ (p : Node). find_item old p.id ≡ None) ps qs h.fresh
          (all_with (λ (p : Node). find_item mid p.id ≡ None) (λ (p : Node). find_item old p.id ≡ None) qs (λ p none. find_none old h.more p.id (ap (λ (l : List Item). find_item l p.id) (sym h.is) ∙ none)) k.fresh);
      named = names_join new ps qs ms ns (subst (λ (l : List Item). HaveNames l ps ms) (sym k.is) (names_on mid k.more ps ms h.named)) k.named;
    }

-- ---- init lines

plain_adds_init : (b : Body) → is_plain b ≡ true → adds_init b ≡ true
plain_adds_init (body.Init s t v) h = refl
plain_adds_init _ h = h

pub inits_none : (old : List Item) (vs : List Node) → vs ≡ [] → AddsInits old old [] vs
inits_none old vs none =
    record { more = []; is = sym (append-nil old); quiet = tt; others = λ id other. refl; begins = tt; word = ap (word_of (constant_words old)) (sym none) }

-- what is said of ids behind plain lines by one more
init_last : (plain : List Item) (y : Item) (id : ℕ) → ArePlain plain → init_value (plain ++ y ∷ []) id ≡ init_value (y ∷ []) id
init_last plain y id h = init_value-after plain (y ∷ []) id (plain_inits plain id h)

next_last : (plain : List Item) (y : Item) (id : ℕ) → ArePlain plain → next_value (plain ++ y ∷ []) id ≡ next_value (y ∷ []) id
next_last plain y id h = next_value-after plain (y ∷ []) id (plain_nexts plain id h)

other_last : (ps : List Node) (t : Node) (id : ℕ) → IsOther (ps ++ t ∷ []) id → IsOther ps id × (nat_eq id t.id ≡ false)
other_last [] t id h = (tt, h.0)
other_last (p ∷ ps) t id h = let rest = other_last ps t id h.1 in ((h.0, rest.0), rest.1)

pub constants_later : (old mid more : List Item) (vs : List Node) → mid ≡ old ++ more → AreConstants old vs → AreConstants mid vs
constants_later old mid more vs is h =
    subst (λ (l : List Item). AreConstants l vs) (sym is) (constants_on old more (word_of (constant_words old) vs) vs (record { constants = h; word = refl })).constants

pub nodes_later : (old mid more : List Item) (ps : List Node) → mid ≡ old ++ more → AreNodes old ps → AreNodes mid ps
nodes_later old mid more ps is h = subst (λ (l : List Item). AreNodes l ps) (sym is) (nodes_on old more ps h)

pub states_later : (old mid more : List Item) (ps : List Node) → mid ≡ old ++ more → AllByRecursion (λ (p : Node). names_state old p.id ≡ true) ps → AllByRecursion (λ (p : Node). names_state mid p.id ≡ true) ps
states_later old mid more ps is h =
    subst (λ (l : List Item). AllByRecursion (λ (p : Node). names_state l p.id ≡ true) ps) (sym is)
    (all_with (λ (p : Node). names_state old p.id ≡ true) (λ (p : Node). names_state (old ++ more) p.id ≡ true) ps (λ p own. names_state-append old more p.id own) h)

-- the value of a state that had none
pub init_of_last : (old mid : List Item) (ps vs : List Node) (t : Node) → AddsInits old mid ps vs → IsOther ps t.id → init_value old t.id ≡ None → init_value mid t.id ≡ None
init_of_last old mid ps vs t h other none = ap (λ (l : List Item). init_value l t.id) h.is ∙ init_value-after old h.more t.id none ∙ h.others t.id other

pub init_step : (old mid new : List Item) (ps vs : List Node) (t v : Node) (id n : ℕ) → widths ps ≡ widths vs → AreConstants mid vs → is_some (constant_of mid v.id) ≡ true → init_value mid t.id ≡ None → AddsInits old mid ps vs
    → AddsSorted mid new id n None (λ s. body.Init s t.id v.id) → AddsInits old new (ps ++ t ∷ []) (vs ++ v ∷ [])
init_step old mid new ps vs t v id n alike constants constant first h a =
    let added = named id None (body.Init a.sort t.id v.id) in
    let lines = a.adds.more ++ added ∷ [] in
    let is : new ≡ mid ++ lines = a.adds.is ∙ append_assoc mid a.adds.more (added ∷ []) in
    let c = some_of (constant_of mid v.id) constant in
    let own : init_value (added ∷ []) t.id ≡ Some v.id = ap (λ (b : Bool). option_or (cond b (Some v.id) None) None) (eq-eqb t.id t.id refl) in
    let begins : init_value new t.id ≡ Some v.id = ap (λ (l : List Item). init_value l t.id) is ∙ init_value-after mid lines t.id first ∙ init_last a.adds.more added t.id a.adds.plain ∙ own in
    let later : constant_of new v.id ≡ Some c.0 = ap (λ (l : List Item). constant_of l v.id) is ∙ constant_of-append mid lines v.id c.0 c.1 in
    let word : init_word new t.id ≡ Some c.0 = ap (option_and_then (constant_of new)) begins ∙ later in
    let on = inits_on mid lines ps h.begins in
    let consts = constants_on mid lines (word_of (constant_words mid) vs) vs (record { constants = constants; word = refl }) in
    record {
      more = h.more ++ lines;
      is = two_after old mid new h.more lines h.is is;
      quiet = all_join (λ (y : Item). adds_init y.body ≡ true) h.more lines h.quiet
          (all_join (λ (y : Item). adds_init y.body ≡ true) a.adds.more (added ∷ []) (all_with (λ (y : Item). is_plain y.body ≡ true) (λ (y : Item). adds_init y.body ≡ true) a.adds.more (λ y p. plain_adds_init y.body p) a.adds.plain) (refl, tt));
      others = λ k other.
          let parts = other_last ps t k other in
          init_value-after h.more lines k (h.others k parts.0) ∙ init_last a.adds.more added k a.adds.plain ∙ ap (λ (b : Bool). option_or (cond b (Some v.id) None) None) parts.1;
      begins = all_join (λ (p : Node). is_some (init_word new p.id) ≡ true) ps (t ∷ []) (subst (λ (l : List Item). AllByRecursion (λ (p : Node). is_some (init_word l p.id) ≡ true) ps) (sym is) on.0) (is_some_from (init_word new t.id) c.0 word, tt);
      word = word_more (init_words new) ps t
          ∙ ap₂ (λ (x y : ℕ). concat_value x (bits_in ps) y) (ap (λ (o : Option ℕ). unwrap_or o 0) (word ∙ sym later)) (ap (λ (l : List Item). word_of (init_words l) ps) is ∙ on.1 ∙ h.word ∙ sym consts.word ∙ ap (λ (l : List Item). word_of (constant_words l) vs) (sym is))
          ∙ ap (λ (m : ℕ). concat_value (constant_words new v.id) m (word_of (constant_words new) vs)) (same_bits ps vs alike) ∙ sym (word_more (constant_words new) vs v);
    }

pub begin_next : (old mid new : List Item) (ps vs : List Node) (k id n : ℕ) (d e : Node) → k < length ps → k < length vs → widths ps ≡ widths vs → AreConstants old vs → AreApart ps
    → AllByRecursion (λ (p : Node). init_value old p.id ≡ None) ps → AddsInits old mid (take k ps) (take k vs) → AddsSorted mid new id n None (λ s. body.Init s (get_or ps k d).id (get_or vs k e).id)
    → AddsInits old new (take (k + 1) ps) (take (k + 1) vs)
begin_next old mid new ps vs k id n d e in_ps in_vs alike constants distinct none h a =
    let there = constants_later old mid h.more vs h.is constants in
    subst₂ (AddsInits old new) (sym (taken ps k d in_ps)) (sym (taken vs k e in_vs))
    (init_step old mid new (take k ps) (take k vs) (get_or ps k d) (get_or vs k e) id n (same_taken ps vs k alike) (all_taken (λ (p : Node). is_some (constant_of mid p.id) ≡ true) k vs there)
    (all_nth (λ (p : Node). is_some (constant_of mid p.id) ≡ true) vs k e in_vs there)
    (init_of_last old mid (take k ps) (take k vs) (get_or ps k d) h (apart_at ps k d in_ps distinct) (all_nth (λ (p : Node). init_value old p.id ≡ None) ps k d in_ps none)) h a)

-- ---- next lines

plain_adds_next : (b : Body) → is_plain b ≡ true → adds_next b ≡ true
plain_adds_next (body.Next s t v) h = refl
plain_adds_next _ h = h

pub nexts_none : (old : List Item) (vs : List Node) → vs ≡ [] → AddsNexts old old [] vs
nexts_none old vs none = record { more = []; is = sym (append-nil old); quiet = tt; others = λ id other. refl; takes = subst (AllZip (TakesNode old) []) (sym none) tt }

zip_last : (R : Node → Node → Type 0) (ps qs : List Node) (p q : Node) → AllZip R ps qs → R p q → AllZip R (ps ++ p ∷ []) (qs ++ q ∷ [])
zip_last R [] [] p q h own = (own, tt)
zip_last R [] (y ∷ ys) p q h own = absurd h
zip_last R (x ∷ xs) [] p q h own = absurd h
zip_last R (x ∷ xs) (y ∷ ys) p q h own = (h.0, zip_last R xs ys p q h.1 own)

pub next_of_last : (old mid : List Item) (ps vs : List Node) (t : Node) → AddsNexts old mid ps vs → IsOther ps t.id → next_value old t.id ≡ None → next_value mid t.id ≡ None
next_of_last old mid ps vs t h other none = ap (λ (l : List Item). next_value l t.id) h.is ∙ next_value-after old h.more t.id none ∙ h.others t.id other

pub next_step : (old mid new : List Item) (ps vs : List Node) (t v : Node) (id n : ℕ) → next_value mid t.id ≡ None → AddsNexts old mid ps vs → AddsSorted mid new id n None (λ s. body.Next s t.id v.id) → AddsNexts old new (ps ++ t ∷ []) (vs ++ v ∷ [])
next_step old mid new ps vs t v id n first h a =
    let added = named id None (body.Next a.sort t.id v.id) in
    let lines = a.adds.more ++ added ∷ [] in
    let is : new ≡ mid ++ lines = a.adds.is ∙ append_assoc mid a.adds.more (added ∷ []) in
    let own : next_value (added ∷ []) t.id ≡ Some v.id = ap (λ (b : Bool). option_or (cond b (Some v.id) None) None) (eq-eqb t.id t.id refl) in
    let takes : next_value new t.id ≡ Some v.id = ap (λ (l : List Item). next_value l t.id) is ∙ next_value-after mid lines t.id first ∙ next_last a.adds.more added t.id a.adds.plain ∙ own in
    record {
      more = h.more ++ lines;
      is = two_after old mid new h.more lines h.is is;
      quiet = all_join (λ (y : Item). adds_next y.body ≡ true) h.more lines h.quiet
          (all_join (λ (y : Item). adds_next y.body ≡ true) a.adds.more (added ∷ []) (all_with (λ (y : Item). is_plain y.body ≡ true) (λ (y : Item). adds_next y.body ≡ true) a.adds.more (λ y p. plain_adds_next y.body p) a.adds.plain) (refl, tt));
      others = λ k other.
          let parts = other_last ps t k other in
          next_value-after h.more lines k (h.others k parts.0) ∙ next_last a.adds.more added k a.adds.plain ∙ ap (λ (b : Bool). option_or (cond b (Some v.id) None) None) parts.1;
      takes = zip_last (TakesNode new) ps vs t v (subst (λ (l : List Item). AllZip (TakesNode l) ps vs) (sym is) (nexts_on mid lines ps vs h.takes)) takes;
    }

pub follow_next : (old mid new : List Item) (ps vs : List Node) (k id n : ℕ) (d e : Node) → k < length ps → k < length vs → AreApart ps → AllByRecursion (λ (p : Node). next_value old p.id ≡ None) ps
    → AddsNexts old mid (take k ps) (take k vs) → AddsSorted mid new id n None (λ s. body.Next s (get_or ps k d).id (get_or vs k e).id) → AddsNexts old new (take (k + 1) ps) (take (k + 1) vs)
follow_next old mid new ps vs k id n d e in_ps in_vs distinct none h a =
    subst₂ (AddsNexts old new) (sym (taken ps k d in_ps)) (sym (taken vs k e in_vs))
    (next_step old mid new (take k ps) (take k vs) (get_or ps k d) (get_or vs k e) id n
    (next_of_last old mid (take k ps) (take k vs) (get_or ps k d) h (apart_at ps k d in_ps distinct) (all_nth (λ (p : Node). next_value old p.id ≡ None) ps k d in_ps none)) h a)

-- ---- outputs

pub outputs_none : (old : List Item) → AddsOutputs old old [] []
outputs_none old = record { more = []; is = sym (append-nil old); quiet = tt; nodes = refl; named = refl }

output_step : (old mid new : List Item) (ps : List Node) (names : List (Option (List ℕ))) (p : Node) (id : ℕ) (symbol : Option (List ℕ)) → AddsOutputs old mid ps names → new ≡ mid ++ named id symbol (body.Output p.id) ∷ []
    → AddsOutputs old new (ps ++ p ∷ []) (names ++ symbol ∷ [])
output_step old mid new ps names p id symbol h is =
    let added = named id symbol (body.Output p.id) in
    record {
      more = h.more ++ added ∷ [];
      is = two_after old mid new h.more (added ∷ []) h.is is;
      quiet = all_join (λ (y : Item). adds_output y.body ≡ true) h.more (added ∷ []) h.quiet (refl, tt);
      nodes = split_nodes is_output h.more (added ∷ []) ∙ ap (λ (l : List ℕ). l ++ p.id ∷ []) h.nodes ∙ sym (split_map (λ (q : Node). q.id) ps (p ∷ []));
      named = split_names is_output h.more (added ∷ []) ∙ ap (λ (l : List (Option (List ℕ))). l ++ symbol ∷ []) h.named;
    }

-- one more of several
pub show_next : (old mid new : List Item) (ps : List Node) (k id : ℕ) (d : Node) (symbol name : Option (List ℕ)) → k < length ps → name ≡ piece_symbol symbol (bits_in (take k ps)) (get_or ps k d).width
    → AddsOutputs old mid (take k ps) (names_from symbol 0 (widths (take k ps))) → new ≡ mid ++ named id name (body.Output (get_or ps k d).id) ∷ [] → AddsOutputs old new (take (k + 1) ps) (names_from symbol 0 (widths (take (k + 1) ps)))
show_next old mid new ps k id d symbol name within own h is =
    let front = take k ps in
    let p = get_or ps k d in
    subst (λ (l : List Node). AddsOutputs old new l (names_from symbol 0 (widths l))) (sym (taken ps k d within))
    (subst (AddsOutputs old new (front ++ p ∷ [])) (ap (λ (n : Option (List ℕ)). names_from symbol 0 (widths front) ++ n ∷ []) (own ∙ ap (λ (m : ℕ). piece_symbol symbol m p.width) (omega arith)) ∙ sym (names_more symbol 0 front p)) (output_step old mid new front (names_from symbol 0 (widths front)) p id name h is))

pub show_one : (old new : List Item) (ps : List Node) (id : ℕ) (d : Node) (symbol : Option (List ℕ)) → length ps ≡ 1 → new ≡ old ++ named id symbol (body.Output (get_or ps 0 d).id) ∷ [] → AddsOutputs old new ps (word_names symbol (widths ps))
show_one old new [] id d symbol one is = absurd (omega (arith, one))
show_one old new (p ∷ []) id d symbol one is = output_step old old new [] [] p id symbol (outputs_none old) is
show_one old new (p ∷ q ∷ more) id d symbol one is = absurd (omega (arith, one))

-- what stands behind a piece of a word
pub next_bits : (ps : List Node) (k : ℕ) (d : Node) → k < length ps → bits_in (take (k + 1) ps) ≡ bits_in (take k ps) + (get_or ps k d).width
next_bits ps k d within = let more = bits_more (take k ps) (get_or ps k d) in ap bits_in (taken ps k d within) ∙ omega (arith, more)

-- leaves by one more of several
pub leaf_next : (input : Bool) (old mid new : List Item) (ps next : List Node) (r : Node) (symbol name : Option (List ℕ)) → next ≡ ps ++ r ∷ [] → name ≡ piece_symbol symbol (bits_in ps) r.width → AddsLeaves input old mid ps (names_from symbol 0 (widths ps))
    → AddsLeaves input mid new (r ∷ []) (name ∷ []) → AddsLeaves input old new next (names_from symbol 0 (widths next))
leaf_next input old mid new ps next r symbol name is own h k =
    subst (λ (l : List Node). AddsLeaves input old new l (names_from symbol 0 (widths l))) (sym is)
    (subst (AddsLeaves input old new (ps ++ r ∷ [])) (ap (λ (n : Option (List ℕ)). names_from symbol 0 (widths ps) ++ n ∷ []) (own ∙ ap (λ (m : ℕ). piece_symbol symbol m r.width) (omega arith)) ∙ sym (names_more symbol 0 ps r))
    (leaves_join input old mid new ps (r ∷ []) (names_from symbol 0 (widths ps)) (name ∷ []) h k))
