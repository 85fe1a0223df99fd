-- What stands of a line stands also where lines follow.
use Rattle.std.proofs.Common.{◌≡◌, ℕ, ◌≤◌, Bool, true, false, cond, nat_eq, eq-eqb, List, [], ◌∷◌, ◌++◌, Option, Some, None, IfSome, is_some, unwrap_or, option_and_then, append_assoc, refl, sym, ap, ap₂, subst, ◌∙◌}
use Rattle.std.specs.List.{AllByRecursion, AllZip}
use Rattle.std.specs.Option.{option_or}
use Rattle.std.proofs.lemmas.Option.{none-some}
use Rattle.base.specs.Operator.{concat_value}
use Rattle.btor2.specs.declared.item.Item.{Item}
use Rattle.btor2.specs.declared.item.Body.{Body}
use Rattle.btor2.specs.declared.item.Body.TheVariants as body
use Rattle.btor2.specs.Items.{find_item, node_sort, node_width, width_of_body, sort_bits, operands, constant_word, constant_of, names_state, init_for, init_value, init_word, next_for, next_value}
use Rattle.btor2.specs.Trace.{Frame}
use Rattle.btor2.proofs.AppendLemmas.{find_item-append, sort_width-append, node_width-append, constant_of-append, names_state-append, then_parts, some_of, is_some_from}
use Rattle.btor2.proofs.ModelLemmas.{IsIn}
use Rattle.fit.specs.Fitting.{init_words, IsInputPiece}
use Rattle.fit.proofs.ListLemmas.{all_with, all_behind}
use Rattle.fit.proofs.FrameLemmas.{AreNodes as AreNamed}
use Rattle.pieces.specs.declared.node.Node.{Node}
use Rattle.pieces.specs.Nodes.{word_of, bits_in, IsNode, AreNodes}
use Rattle.pieces.specs.Cuts.{widths, IsWord}
use Rattle.fitting.specs.Names.{word_names}
use Rattle.fitting.specs.Fitted.{Table, constant_words, most_bits, GoesOn, HasWord, AreConstantsOf, HaveNames, InitIsMade, TakesNode, NextIsMade, LineStands}

-- ---- lists

pub if_some : {A : Type 0} (P Q : A → Type 0) (o : Option A) → ((v : A) → P v → Q v) → IfSome o P → IfSome o Q
if_some P Q None f h = h
if_some P Q (Some v) f h = f v h

pub all_in : (P Q : Item → Type 0) (items front xs : List Item) → items ≡ front ++ xs → ((x : Item) → IsIn items x → P x → Q x) → AllByRecursion P xs → AllByRecursion Q xs
all_in P Q items front [] e f h = tt
all_in P Q items front (x ∷ xs) e f h =
    (f x (record { before = front; after = xs; splits = e }) h.0, all_in P Q items (front ++ x ∷ []) xs (e ∙ sym (append_assoc front (x ∷ []) xs)) f h.1)

pub all_at : (P : Item → Type 0) (items : List Item) (x : Item) → IsIn items x → AllByRecursion P items → P x
all_at P items x at h = (all_behind P at.before (x ∷ at.after) (subst (AllByRecursion P) at.splits h)).0

pub own_found : (before after : List Item) (x : Item) → is_some (find_item (before ++ x ∷ after) x.id) ≡ true
own_found [] after x = rw (eq-eqb x.id x.id refl) refl
own_found (y ∷ ys) after x = by (nat_eq x.id y.id) (own_found ys after x)
  where
    by : (b : Bool) → is_some (find_item (ys ++ x ∷ after) x.id) ≡ true → is_some (cond b (Some y) (find_item (ys ++ x ∷ after) x.id)) ≡ true
    by true h = refl
    by false h = h

pub in_found : (items : List Item) (x : Item) → IsIn items x → is_some (find_item items x.id) ≡ true
in_found items x at = subst (λ (l : List Item). is_some (find_item l x.id) ≡ true) (sym at.splits) (own_found at.before at.after x)

pub node_found : (items : List Item) (id : ℕ) → is_some (node_width items id) ≡ true → is_some (find_item items id) ≡ true
node_found items id h =
    let width = some_of (node_width items id) h in
    let parts = then_parts (λ (x : Item). width_of_body items x.body) (find_item items id) width.0 width.1 in
    is_some_from (find_item items id) parts.0 parts.1

pub found_on : (items more : List Item) (id : ℕ) → is_some (find_item items id) ≡ true → is_some (find_item (items ++ more) id) ≡ true
found_on items more id h = let found = some_of (find_item items id) h in is_some_from (find_item (items ++ more) id) found.0 (find_item-append items more id found.0 found.1)

-- ---- what is said of ids

pub init_value-append : (before more : List Item) (id v : ℕ) → init_value before id ≡ Some v → init_value (before ++ more) id ≡ Some v
init_value-append [] more id v h = absurd (none-some v h)
init_value-append (x ∷ xs) more id v h = by (init_for id x.body) (init_value-append xs more id v) h
  where
    by : (o : Option ℕ) → (init_value xs id ≡ Some v → init_value (xs ++ more) id ≡ Some v) → option_or o (init_value xs id) ≡ Some v → option_or o (init_value (xs ++ more) id) ≡ Some v
    by None rest e = rest e
    by (Some w) rest e = e

pub next_value-append : (before more : List Item) (id v : ℕ) → next_value before id ≡ Some v → next_value (before ++ more) id ≡ Some v
next_value-append [] more id v h = absurd (none-some v h)
next_value-append (x ∷ xs) more id v h = by (next_for id x.body) (next_value-append xs more id v) h
  where
    by : (o : Option ℕ) → (next_value xs id ≡ Some v → next_value (xs ++ more) id ≡ Some v) → option_or o (next_value xs id) ≡ Some v → option_or o (next_value (xs ++ more) id) ≡ Some v
    by None rest e = rest e
    by (Some w) rest e = e

pub init_word-append : (before more : List Item) (id v : ℕ) → init_word before id ≡ Some v → init_word (before ++ more) id ≡ Some v
init_word-append before more id v h =
    let parts = then_parts (constant_of before) (init_value before id) v h in
    ap (option_and_then (constant_of (before ++ more))) (init_value-append before more id parts.0 parts.1) ∙ constant_of-append before more parts.0 v parts.2

-- ---- nodes of a list that goes on

pub node_on : (items more : List Item) (p : Node) → IsNode items p → IsNode (items ++ more) p
node_on items more p h = node_width-append items more p.id p.width h

pub nodes_on : (items more : List Item) (ps : List Node) → AreNodes items ps → AreNodes (items ++ more) ps
nodes_on items more ps h = all_with (IsNode items) (IsNode (items ++ more)) ps (node_on items more) h

pub word_on : (items more : List Item) (ps : List Node) → IsWord items ps → IsWord (items ++ more) ps
word_on items more ps h = record { nodes = nodes_on items more ps h.nodes; cut = h.cut; some = h.some; few = h.few }

-- words by constants, and by init lines, that are there
pub same_words : (f g : Frame) (ps : List Node) → AllByRecursion (λ (p : Node). f p.id ≡ g p.id) ps → word_of f ps ≡ word_of g ps
same_words f g [] h = refl
same_words f g (p ∷ ps) h = ap₂ (λ (a b : ℕ). concat_value a p.width b) (same_words f g ps h.1) h.0

still : (o p : Option ℕ) → is_some o ≡ true → ((v : ℕ) → o ≡ Some v → p ≡ Some v) → p ≡ o
still None p h f = absurd (cc)
still (Some v) p h f = f v refl

pub constants_on : (items more : List Item) (w : ℕ) (ps : List Node) → AreConstantsOf items w ps → AreConstantsOf (items ++ more) w ps
constants_on items more w ps h =
    record {
      constants = all_with (λ (p : Node). is_some (constant_of items p.id) ≡ true) (λ (p : Node). is_some (constant_of (items ++ more) p.id) ≡ true) ps
          (λ p there. let own = some_of (constant_of items p.id) there in is_some_from (constant_of (items ++ more) p.id) own.0 (constant_of-append items more p.id own.0 own.1)) h.constants;
      word = same_words (constant_words (items ++ more)) (constant_words items) ps
          (all_with (λ (p : Node). is_some (constant_of items p.id) ≡ true) (λ (p : Node). constant_words (items ++ more) p.id ≡ constant_words items p.id) ps
          (λ p there. ap (λ (o : Option ℕ). unwrap_or o 0) (still (constant_of items p.id) (constant_of (items ++ more) p.id) there (λ v own. constant_of-append items more p.id v own))) h.constants) ∙ h.word;
    }

pub inits_on : (items more : List Item) (ps : List Node) → AllByRecursion (λ (p : Node). is_some (init_word items p.id) ≡ true) ps
    → AllByRecursion (λ (p : Node). is_some (init_word (items ++ more) p.id) ≡ true) ps × (word_of (init_words (items ++ more)) ps ≡ word_of (init_words items) ps)
inits_on items more ps h = (
  all_with (λ (p : Node). is_some (init_word items p.id) ≡ true) (λ (p : Node). is_some (init_word (items ++ more) p.id) ≡ true) ps
      (λ p there. let own = some_of (init_word items p.id) there in is_some_from (init_word (items ++ more) p.id) own.0 (init_word-append items more p.id own.0 own.1)) h,
  same_words (init_words (items ++ more)) (init_words items) ps
      (all_with (λ (p : Node). is_some (init_word items p.id) ≡ true) (λ (p : Node). init_words (items ++ more) p.id ≡ init_words items p.id) ps
      (λ p there. ap (λ (o : Option ℕ). unwrap_or o 0) (still (init_word items p.id) (init_word (items ++ more) p.id) there (λ v own. init_word-append items more p.id v own))) h),
)

pub nexts_on : (items more : List Item) (ps qs : List Node) → AllZip (TakesNode items) ps qs → AllZip (TakesNode (items ++ more)) ps qs
nexts_on items more [] [] h = h
nexts_on items more [] (q ∷ qs) h = h
nexts_on items more (p ∷ ps) [] h = h
nexts_on items more (p ∷ ps) (q ∷ qs) h = (next_value-append items more p.id q.id h.0, nexts_on items more ps qs h.1)

pub names_on : (items more : List Item) (ps : List Node) (names : List (Option (List ℕ))) → HaveNames items ps names → HaveNames (items ++ more) ps names
names_on items more [] [] h = h
names_on items more [] (n ∷ ns) h = h
names_on items more (p ∷ ps) [] h = h
names_on items more (p ∷ ps) (n ∷ ns) h = ((h.0.0, find_item-append items more p.id h.0.0 h.0.1, h.0.2), names_on items more ps ns h.1)

-- ---- lines

pub goes_twice : (a b c : List Item) (r s t : Table) (n m l : List Item) → GoesOn a r n b s m → GoesOn b s m c t l → GoesOn a r n c t l
goes_twice a b c r s t n m l g h =
    let on : (id : ℕ) → is_some (find_item a id) ≡ true → is_some (find_item b id) ≡ true = λ id there. subst (λ (k : List Item). is_some (find_item k id) ≡ true) (sym g.wide_is) (found_on a g.more id there) in
    record {
      more = g.more ++ h.more;
      wide_is = h.wide_is ∙ ap (λ (k : List Item). k ++ h.more) g.wide_is ∙ append_assoc a g.more h.more;
      lines = g.lines ++ h.lines;
      narrow_is = h.narrow_is ∙ ap (λ (k : List Item). k ++ h.lines) g.narrow_is ∙ append_assoc n g.lines h.lines;
      sorts = λ id there. h.sorts id (on id there) ∙ g.sorts id there;
      words = λ id there. h.words id (on id there) ∙ g.words id there;
    }

value_on : (wide more : List Item) (table table' : Table) (narrow lines : List Item) (id s : ℕ) → table'.words id ≡ table.words id → HasWord wide table.words narrow id s → HasWord (wide ++ more) table'.words (narrow ++ lines) id s
value_on wide more table table' narrow lines id s same h =
    record {
      bits = h.bits;
      width = sort_width-append wide more s h.bits h.width;
      word = subst (IsWord (narrow ++ lines)) (sym same) (word_on narrow lines (table.words id) h.word);
      has_bits = ap bits_in same ∙ h.has_bits;
    }

init_on : (wide more : List Item) (table table' : Table) (narrow lines : List Item) (b : Body) → AreNamed wide (operands b) → ((id : ℕ) → is_some (find_item wide id) ≡ true → table'.words id ≡ table.words id)
    → InitIsMade wide table.words narrow b → InitIsMade (wide ++ more) table'.words (narrow ++ lines) b
init_on wide more table table' narrow lines (body.Init s t v) named same h =
    let on = inits_on narrow lines (table.words t) h.0 in
    subst (λ (ps : List Node). AllByRecursion (λ (p : Node). is_some (init_word (narrow ++ lines) p.id) ≡ true) ps × (constant_of (wide ++ more) v ≡ Some (word_of (init_words (narrow ++ lines)) ps)))
    (sym (same t (node_found wide t named.0)))
    (on.0, constant_of-append wide more v (word_of (init_words narrow) (table.words t)) h.1 ∙ ap (λ (w : ℕ). Some w) (sym on.1))
init_on wide more table table' narrow lines _ named same h = tt

next_on : (wide : List Item) (table table' : Table) (narrow lines : List Item) (b : Body) → AreNamed wide (operands b) → ((id : ℕ) → is_some (find_item wide id) ≡ true → table'.words id ≡ table.words id)
    → NextIsMade table.words narrow b → NextIsMade table'.words (narrow ++ lines) b
next_on wide table table' narrow lines (body.Next s t v) named same h =
    subst (λ (ps : List Node). AllZip (TakesNode (narrow ++ lines)) ps (table'.words v)) (sym (same t (node_found wide t named.0)))
    (subst (λ (qs : List Node). AllZip (TakesNode (narrow ++ lines)) (table.words t) qs) (sym (same v (node_found wide v named.1.0))) (nexts_on narrow lines (table.words t) (table.words v) h))
next_on wide table table' narrow lines _ named same h = tt

-- what stands of a line stands where lines follow
stands_after : (wide more : List Item) (table table' : Table) (narrow lines : List Item) (x : Item) → AreNamed wide (operands x.body) → GoesOn wide table narrow (wide ++ more) table' (narrow ++ lines) → LineStands wide table narrow x → LineStands (wide ++ more) table' (narrow ++ lines) x
stands_after wide more table table' narrow lines x named goes h =
    let there = is_some_from (find_item wide x.id) x h.found in
    let same = goes.words x.id there in
    record {
      found = find_item-append wide more x.id x h.found;
      sort = if_some (λ n. (table.sorts x.id ≡ Some n) × ((1 ≤ n) × (n ≤ most_bits))) (λ n. (table'.sorts x.id ≡ Some n) × ((1 ≤ n) × (n ≤ most_bits))) (sort_bits x.body) (λ n own. (goes.sorts x.id there ∙ own.0, own.1)) h.sort;
      value = if_some (HasWord wide table.words narrow x.id) (HasWord (wide ++ more) table'.words (narrow ++ lines) x.id) (node_sort x.body) (λ s own. value_on wide more table table' narrow lines x.id s same own) h.value;
      constant = subst (λ (ps : List Node). IfSome (constant_word (bits_in ps) x.body) (λ w. AreConstantsOf (narrow ++ lines) w ps)) (sym same)
          (if_some (λ w. AreConstantsOf narrow w (table.words x.id)) (λ w. AreConstantsOf (narrow ++ lines) w (table.words x.id)) (constant_word (bits_in (table.words x.id)) x.body) (λ w own. constants_on narrow lines w (table.words x.id) own) h.constant);
      state = λ is.
          subst (λ (ps : List Node). AllByRecursion (λ (p : Node). names_state (narrow ++ lines) p.id ≡ true) ps) (sym same)
          (all_with (λ (p : Node). names_state narrow p.id ≡ true) (λ (p : Node). names_state (narrow ++ lines) p.id ≡ true) (table.words x.id) (λ p own. names_state-append narrow lines p.id own) (h.state is));
      input = λ is.
          subst (λ (ps : List Node). AllByRecursion (λ (p : Node). IsInputPiece (narrow ++ lines) p.id) ps) (sym same)
          (all_with (λ (p : Node). IsInputPiece narrow p.id) (λ (p : Node). IsInputPiece (narrow ++ lines) p.id) (table.words x.id) (λ p own. (own.0, find_item-append narrow lines p.id own.0 own.1, own.2)) (h.input is));
      names = λ is.
          subst (λ (ps : List Node). HaveNames (narrow ++ lines) ps (word_names x.symbol (widths ps))) (sym same) (names_on narrow lines (table.words x.id) (word_names x.symbol (widths (table.words x.id))) (h.names is));
      init = init_on wide more table table' narrow lines x.body named goes.words h.init;
      next = next_on wide table table' narrow lines x.body named goes.words h.next;
      settled = λ wide' table'' narrow' on. h.settled wide' table'' narrow' (goes_twice wide (wide ++ more) wide' table table' table'' narrow (narrow ++ lines) narrow' goes on);
    }

pub stands_on : (wide wide' : List Item) (table table' : Table) (narrow narrow' : List Item) (x : Item) → AreNamed wide (operands x.body) → (goes : GoesOn wide table narrow wide' table' narrow') → LineStands wide table narrow x → LineStands wide' table' narrow' x
stands_on wide wide' table table' narrow narrow' x named goes h =
    subst (λ (l : List Item). GoesOn wide table narrow l table' narrow' → LineStands l table' narrow' x) (sym goes.wide_is)
    (λ goes'. subst (λ (l : List Item). GoesOn wide table narrow (wide ++ goes.more) table' l → LineStands (wide ++ goes.more) table' l x) (sym goes.narrow_is)
    (λ goes''. stands_after wide goes.more table table' narrow goes.lines x named goes'' h) goes') goes
