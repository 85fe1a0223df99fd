-- A fitted list with a line more that gives a node a word by those of its operands, or with one that gives none.
use Rattle.std.proofs.Common.{◌≡◌, ℕ, ◌≤◌, Bool, true, false, true≢false, cond, ◌==◌, eq-eqb, eqb-true, List, [], ◌∷◌, ◌++◌, Option, Some, None, IfSome, is_some, unwrap_or, option_and_then, append_assoc, ◌||◌, refl, sym, ap, ap₂, subst, ◌∙◌, arith}
use Rattle.std.specs.List.{AllByRecursion}
use Rattle.std.proofs.lemmas.Option.{none-some}
use Rattle.base.specs.Operator.{unary_value, binary_value, ite_value, slice_value, uext_value, sext_value, concat_value}
use Rattle.btor2.specs.declared.item.Item.{Item}
use Rattle.btor2.specs.declared.item.Body.{Body}
use Rattle.btor2.specs.declared.item.Body.TheVariants as body
use Rattle.btor2.specs.Items.{find_item, node_sort, node_width, width_of_body, sort_bits, sort_width, operands, constant_word, is_input, is_state}
use Rattle.btor2.specs.Trace.{Frame, bits_of, line_word, IsFrame, IsInput, IsState}
use Rattle.btor2.proofs.AppendLemmas.{find_item-append, find_item-after, sort_width-append, node_width-append, then_parts, some_of, is_some_from}
use Rattle.btor2.proofs.ModelLemmas.{IsIn-from_find, find_item-own}
use Rattle.wide.specs.WideModels.{greatest_width, IsWideModel}
use Rattle.full.proofs.PlainLaw.{profile_is_wide}
use Rattle.fit.specs.Fitting.{pieces_word, joined}
use Rattle.fit.specs.Gives.{InFrames, Gives}
use Rattle.fit.proofs.ListLemmas.{all_with}
use Rattle.fit.proofs.FrameLemmas.{operands_there}
use Rattle.fit.proofs.LineLemmas.{carries_word, carries_no_word}
use Rattle.pieces.specs.declared.node.Node.{Node}
use Rattle.pieces.specs.Lines.{is_plain}
use Rattle.pieces.specs.Nodes.{word_of, bits_in, AreNodes, Extends, MakesWord}
use Rattle.pieces.specs.Cuts.{IsWord}
use Rattle.pieces.proofs.LawLemmas.{gives}
use Rattle.fitting.specs.Fitted.{Table, node_ids, layout_by, words_in, most_bits, IsSoundLine, IsWordOfLine, GoesOn, IsSettled, HasWord, AreConstantsOf, InitIsMade, NextIsMade, LineStands, IsFitted}
use Rattle.fitting.proofs.GrowLemmas.{all_at, node_found, nodes_on}
use Rattle.fitting.proofs.AssemblyLemmas.{named_word, pieces_make}
use Rattle.fitting.proofs.StepLemmas.{fitted_next, plain_leaf, plain_matches}

-- ---- what the table has of a sort

pub sort_kept : (wide : List Item) (table : Table) (narrow : List Item) (s n : ℕ) → AllByRecursion (LineStands wide table narrow) wide → sort_width wide s ≡ Some n → (table.sorts s ≡ Some n) × ((1 ≤ n) × (n ≤ most_bits))
sort_kept wide table narrow s n stand h =
    let parts = then_parts (λ (x : Item). sort_bits x.body) (find_item wide s) n h in
    let at = IsIn-from_find wide s parts.0 parts.1 in
    let own = all_at (LineStands wide table narrow) wide parts.0 at.0 stand in
    subst (λ (k : ℕ). (table.sorts k ≡ Some n) × ((1 ≤ n) × (n ≤ most_bits))) (sym at.1)
    (subst (λ (o : Option ℕ). IfSome o (λ m. (table.sorts parts.0.id ≡ Some m) × ((1 ≤ m) × (m ≤ most_bits)))) parts.2 own.sort)

-- ---- words of a list that goes on

in_frames_on : (items lines : List Item) (Says : Frame → Type 0) → InFrames items Says → InFrames (items ++ lines) Says
in_frames_on items lines Says h more state input g =
    subst (λ (l : List Item). IsWideModel greatest_width l → IsState l state → IsInput l input → IsFrame l state input g → Says g) (sym (append_assoc items lines more)) (h (lines ++ more) state input g)

makes_on : (items lines : List Item) (bits : ℕ) (value : Frame → ℕ) (rs : List Node) → MakesWord items bits value rs → MakesWord (items ++ lines) bits value rs
makes_on items lines bits value rs h = record { nodes = nodes_on items lines rs h.nodes; wide = h.wide; word = in_frames_on items lines (λ g. word_of g rs ≡ value g) h.word }

-- frames with the same words at the operands of a line, in lists where these have the same widths, are given the same word by it
line_same : (wide wide' : List Item) (state input f g : Frame) (id : ℕ) (b : Body) → is_plain b ≡ true → AllByRecursion (λ a. (f a ≡ g a) × (bits_of wide a ≡ bits_of wide' a)) (operands b) → bits_of wide id ≡ bits_of wide' id
    → line_word wide state input f id b ≡ line_word wide' state input g id b
line_same wide wide' state input f g id (body.Input s) p h own = absurd (cc)
line_same wide wide' state input f g id (body.State s) p h own = absurd (cc)
line_same wide wide' state input f g id (body.Uext s a by) p h own = ap (λ (w : ℕ). Some (uext_value w)) h.0.0
line_same wide wide' state input f g id (body.Sext s a by) p h own = ap₂ (λ (n w : ℕ). Some (sext_value n w by)) h.0.1 h.0.0
line_same wide wide' state input f g id (body.Slice s a u l) p h own = ap (λ (w : ℕ). Some (slice_value w u l)) h.0.0
line_same wide wide' state input f g id (body.Unary op s a) p h own = ap₂ (λ (n w : ℕ). Some (unary_value op n w)) h.0.1 h.0.0
line_same wide wide' state input f g id (body.Binary op s a b) p h own =
    ap₂ (λ (n v : ℕ). Some (binary_value op n v (f b))) h.0.1 h.0.0 ∙ ap (λ (w : ℕ). Some (binary_value op (bits_of wide' a) (g a) w)) h.1.0.0
line_same wide wide' state input f g id (body.Concat s a b) p h own =
    ap (λ (v : ℕ). Some (concat_value v (bits_of wide b) (f b))) h.0.0 ∙ ap₂ (λ (n w : ℕ). Some (concat_value (g a) n w)) h.1.0.1 h.1.0.0
line_same wide wide' state input f g id (body.Ite s c t e) p h own =
    ap (λ (v : ℕ). Some (ite_value v (f t) (f e))) h.0.0 ∙ ap₂ (λ (v w : ℕ). Some (ite_value (g c) v w)) h.1.0.0 h.1.1.0.0
line_same wide wide' state input f g id (body.Zero s) p h own = ap (λ (n : ℕ). constant_word n (body.Zero s)) own
line_same wide wide' state input f g id (body.One s) p h own = ap (λ (n : ℕ). constant_word n (body.One s)) own
line_same wide wide' state input f g id (body.Ones s) p h own = ap (λ (n : ℕ). constant_word n (body.Ones s)) own
line_same wide wide' state input f g id (body.Const s d v) p h own = ap (λ (n : ℕ). constant_word n (body.Const s d v)) own
line_same wide wide' state input f g id (body.Constd s v) p h own = ap (λ (n : ℕ). constant_word n (body.Constd s v)) own
line_same wide wide' state input f g id (body.Consth s d v) p h own = ap (λ (n : ℕ). constant_word n (body.Consth s d v)) own
line_same wide wide' state input f g id (body.Sort n) p h own = refl
line_same wide wide' state input f g id (body.Init s t v) p h own = refl
line_same wide wide' state input f g id (body.Next s t v) p h own = refl
line_same wide wide' state input f g id (body.Bad a) p h own = refl
line_same wide wide' state input f g id (body.Constraint a) p h own = refl
line_same wide wide' state input f g id (body.Fair a) p h own = refl
line_same wide wide' state input f g id (body.Output a) p h own = refl
line_same wide wide' state input f g id (body.Justice nodes) p h own = refl

pub bits_on : (wide more : List Item) (a : ℕ) → is_some (node_width wide a) ≡ true → bits_of (wide ++ more) a ≡ bits_of wide a
bits_on wide more a h = let own = some_of (node_width wide a) h in ap (λ (o : Option ℕ). unwrap_or o 0) (node_width-append wide more a own.0 own.1 ∙ sym own.1)

-- the item that was added last
pub last_found : (wide : List Item) (x : Item) → find_item wide x.id ≡ None → find_item (wide ++ x ∷ []) x.id ≡ Some x
last_found wide x fresh = find_item-after wide (x ∷ []) x.id fresh ∙ find_item-own x []

pub last_width : (wide : List Item) (x : Item) (s n : ℕ) → find_item wide x.id ≡ None → node_sort x.body ≡ Some s → sort_width wide s ≡ Some n → node_width (wide ++ x ∷ []) x.id ≡ Some n
last_width wide x s n fresh names wide_sort =
    ap (λ (o : Option Item). option_and_then (λ (y : Item). width_of_body (wide ++ x ∷ []) y.body) o) (last_found wide x fresh) ∙ ap (λ (o : Option ℕ). option_and_then (sort_width (wide ++ x ∷ [])) o) names
    ∙ sort_width-append wide (x ∷ []) s n wide_sort

-- ---- the line of a word by operands

operand_alike : (wide : List Item) (table : Table) (narrow : List Item) (x : Item) (wide'' : List Item) (table' table'' : Table) (narrow' narrow'' : List Item) (g : Frame) (a : ℕ) → AllByRecursion (LineStands wide table narrow) wide
    → GoesOn wide table narrow (wide ++ x ∷ []) table' narrow' → GoesOn (wide ++ x ∷ []) table' narrow' wide'' table'' narrow'' → is_some (node_width wide a) ≡ true
    → (joined narrow'' (layout_by table''.words) g a ≡ words_in table.words g a) × (bits_of wide'' a ≡ bits_of (wide ++ x ∷ []) a)
operand_alike wide table narrow x wide'' table' table'' narrow' narrow'' g a stand to on there =
    let found = node_found wide a there in
    let found' : is_some (find_item (wide ++ x ∷ []) a) ≡ true = (let own = some_of (find_item wide a) found in is_some_from (find_item (wide ++ x ∷ []) a) own.0 (find_item-append wide (x ∷ []) a own.0 own.1)) in
    let words : table''.words a ≡ table.words a = on.words a found' ∙ to.words a found in
    let nodes : AreNodes narrow'' (table.words a) =
    subst (λ (l : List Item). AreNodes l (table.words a)) (sym on.narrow_is) (nodes_on narrow' on.lines (table.words a) (subst (λ (l : List Item). AreNodes l (table.words a)) (sym to.narrow_is) (nodes_on narrow to.lines (table.words a) (named_word wide table narrow a stand there).nodes))) in
    let width' : is_some (node_width (wide ++ x ∷ []) a) ≡ true = (let own = some_of (node_width wide a) there in is_some_from (node_width (wide ++ x ∷ []) a) own.0 (node_width-append wide (x ∷ []) a own.0 own.1)) in (
      ap (λ (ps : List Node). joined' narrow'' g ps) words ∙ pieces_make narrow'' g (table.words a) nodes,
      ap (λ (l : List Item). bits_of l a) on.wide_is ∙ bits_on (wide ++ x ∷ []) on.more a width',
    )
  where
    joined' : List Item → Frame → List Node → ℕ
    joined' items g ps = pieces_word (bits_of items) g (node_ids ps)

value_settled : (wide : List Item) (table table' : Table) (narrow narrow' : List Item) (x : Item) (rs : List Node) → IsFitted wide table narrow → IsSoundLine wide x → is_plain x.body ≡ true
    → GoesOn wide table narrow (wide ++ x ∷ []) table' narrow' → IsWordOfLine wide table.words narrow' x rs → table'.words x.id ≡ rs → IsSettled (wide ++ x ∷ []) table' narrow' x
value_settled wide table table' narrow narrow' x rs h sound plain to line own wide'' table'' narrow'' on w no_state =
    let found' = is_some_from (find_item (wide ++ x ∷ []) x.id) x (last_found wide x sound.fresh) in
    let width = last_width wide x line.sort line.bits sound.fresh line.names line.wide_sort in
    let pieces : table''.words x.id ≡ rs = on.words x.id found' ∙ own in
    carries_word wide'' narrow'' (layout_by table''.words) x line.bits line.value (profile_is_wide narrow'' w)
    (λ state input g.
    line_same wide'' (wide ++ x ∷ []) state input (joined narrow'' (layout_by table''.words) g) (words_in table.words g) x.id x.body plain
    (all_with (λ a. is_some (node_width wide a) ≡ true) (λ a. (joined narrow'' (layout_by table''.words) g a ≡ words_in table.words g a) × (bits_of wide'' a ≡ bits_of (wide ++ x ∷ []) a)) (operands x.body)
    (λ a there. operand_alike wide table narrow x wide'' table' table'' narrow' narrow'' g a h.stand to on there) (operands_there wide x.body sound.operands))
    (ap (λ (l : List Item). bits_of l x.id) on.wide_is ∙ bits_on (wide ++ x ∷ []) on.more x.id (is_some_from (node_width (wide ++ x ∷ []) x.id) line.bits width))
    ∙ line.says state input g)
    (subst (λ (ps : List Node). Gives narrow'' line.bits line.value (node_ids ps)) (sym pieces)
    (gives narrow'' line.bits line.value rs (subst (λ (l : List Item). MakesWord l line.bits line.value rs) (sym on.narrow_is) (makes_on narrow' on.lines line.bits line.value rs line.makes))))

-- ---- the table with one word more

abbrev pub HasWords : (ℕ → List Node) → (ℕ → List Node) → ℕ → List Node → Type 0
HasWords words words' id rs = (k : ℕ) → words' k ≡ cond (id == k) rs (words k)

pub others_same : {A : Type 0} (wide : List Item) (f f' : ℕ → A) (id : ℕ) (r : A) → find_item wide id ≡ None → ((k : ℕ) → f' k ≡ cond (id == k) r (f k)) → (k : ℕ) → is_some (find_item wide k) ≡ true → f' k ≡ f k
others_same wide f f' id r fresh put k there = put k ∙ by (id == k) refl
  where
    by : (b : Bool) → (id == k) ≡ b → cond b r (f k) ≡ f k
    by false e = refl
    by true e = absurd (true≢false (sym there ∙ ap (λ (j : ℕ). is_some (find_item wide j)) (sym (eqb-true id k e)) ∙ ap is_some fresh))

pub own_same : {A : Type 0} (f f' : ℕ → A) (id : ℕ) (r : A) → ((k : ℕ) → f' k ≡ cond (id == k) r (f k)) → f' id ≡ r
own_same f f' id r put = put id ∙ ap (λ (b : Bool). cond b r (f id)) (eq-eqb id id refl)

-- ---- what stands of such a line

no_sort : (b : Body) (s : ℕ) → node_sort b ≡ Some s → sort_bits b ≡ None
no_sort (body.Sort n) s h = absurd (none-some s h)
no_sort _ s h = refl

plain_no_state : (b : Body) → is_plain b ≡ true → is_state b ≡ false
plain_no_state (body.State s) h = absurd (cc)
plain_no_state _ h = refl

plain_init_made : (wide : List Item) (words : ℕ → List Node) (narrow : List Item) (b : Body) → is_plain b ≡ true → InitIsMade wide words narrow b
plain_init_made wide words narrow (body.Init s t v) h = absurd (cc)
plain_init_made wide words narrow _ h = tt

plain_next_made : (words : ℕ → List Node) (narrow : List Item) (b : Body) → is_plain b ≡ true → NextIsMade words narrow b
plain_next_made words narrow (body.Next s t v) h = absurd (cc)
plain_next_made words narrow _ h = tt

pub value_fitted : (wide : List Item) (table table' : Table) (narrow narrow' : List Item) (x : Item) (rs : List Node) → IsFitted wide table narrow → IsSoundLine wide x → is_plain x.body ≡ true
    → Extends narrow narrow' → IsWordOfLine wide table.words narrow' x rs → IfSome (constant_word (bits_in rs) x.body) (λ w. AreConstantsOf narrow' w rs)
    → ((k : ℕ) → table'.sorts k ≡ table.sorts k) → HasWords table.words table'.words x.id rs → IsFitted (wide ++ x ∷ []) table' narrow'
value_fitted wide table table' narrow narrow' x rs h sound plain e line constants sorts put =
    let own : table'.words x.id ≡ rs = own_same table.words table'.words x.id rs put in
    let to : GoesOn wide table narrow (wide ++ x ∷ []) table' narrow' = record {
      more = x ∷ [];
      wide_is = refl;
      lines = e.more;
      narrow_is = e.is;
      sorts = λ id there. sorts id;
      words = others_same wide table.words table'.words x.id rs sound.fresh put;
    } in
    let bounds = sort_kept wide table narrow line.sort line.bits h.stand line.wide_sort in
    fitted_next wide table table' narrow narrow' x h sound to
    (record {
      found = last_found wide x sound.fresh;
      sort = subst (λ (o : Option ℕ). IfSome o (λ n. (table'.sorts x.id ≡ Some n) × ((1 ≤ n) × (n ≤ most_bits)))) (sym (no_sort x.body line.sort line.names)) tt;
      value = subst (λ (o : Option ℕ). IfSome o (HasWord (wide ++ x ∷ []) table'.words narrow' x.id)) (sym line.names)
          (record {
            bits = line.bits;
            width = sort_width-append wide (x ∷ []) line.sort line.bits line.wide_sort;
            word = subst (IsWord narrow') (sym own) (record { nodes = line.makes.nodes; cut = line.cut; some = omega (arith, bounds.1.0, line.makes.wide); few = omega (arith, bounds.1.1, line.makes.wide) });
            has_bits = ap bits_in own ∙ line.makes.wide;
          });
      constant = subst (λ (ps : List Node). IfSome (constant_word (bits_in ps) x.body) (λ w. AreConstantsOf narrow' w ps)) (sym own) constants;
      state = λ is. absurd (true≢false (sym is ∙ plain_no_state x.body plain));
      input = λ is. absurd (true≢false (sym (ap (λ (b : Bool). b || is_state x.body) is) ∙ plain_leaf x plain));
      names = λ is. absurd (true≢false (sym is ∙ plain_leaf x plain));
      init = plain_init_made (wide ++ x ∷ []) table'.words narrow' x.body plain;
      next = plain_next_made table'.words narrow' x.body plain;
      settled = value_settled wide table table' narrow narrow' x rs h sound plain to line own;
    })
    (plain_matches wide table table' narrow' e.more x plain e.plain)

-- ---- lines that give no word

no_word : (wide : List Item) (state input f : Frame) (id : ℕ) (b : Body) → node_sort b ≡ None → line_word wide state input f id b ≡ None
no_word wide state input f id (body.Sort n) h = refl
no_word wide state input f id (body.Init s t v) h = refl
no_word wide state input f id (body.Next s t v) h = refl
no_word wide state input f id (body.Bad a) h = refl
no_word wide state input f id (body.Constraint a) h = refl
no_word wide state input f id (body.Fair a) h = refl
no_word wide state input f id (body.Output a) h = refl
no_word wide state input f id (body.Justice nodes) h = refl
no_word wide state input f id (body.Input s) h = absurd (none-some s (sym h))
no_word wide state input f id (body.State s) h = absurd (none-some s (sym h))
no_word wide state input f id (body.Zero s) h = absurd (none-some s (sym h))
no_word wide state input f id (body.One s) h = absurd (none-some s (sym h))
no_word wide state input f id (body.Ones s) h = absurd (none-some s (sym h))
no_word wide state input f id (body.Const s d v) h = absurd (none-some s (sym h))
no_word wide state input f id (body.Constd s v) h = absurd (none-some s (sym h))
no_word wide state input f id (body.Consth s d v) h = absurd (none-some s (sym h))
no_word wide state input f id (body.Uext s a by) h = absurd (none-some s (sym h))
no_word wide state input f id (body.Sext s a by) h = absurd (none-some s (sym h))
no_word wide state input f id (body.Slice s a u l) h = absurd (none-some s (sym h))
no_word wide state input f id (body.Unary op s a) h = absurd (none-some s (sym h))
no_word wide state input f id (body.Binary op s a b) h = absurd (none-some s (sym h))
no_word wide state input f id (body.Concat s a b) h = absurd (none-some s (sym h))
no_word wide state input f id (body.Ite s c t e) h = absurd (none-some s (sym h))

no_constant : (n : ℕ) (b : Body) → node_sort b ≡ None → constant_word n b ≡ None
no_constant n (body.Zero s) h = absurd (none-some s (sym h))
no_constant n (body.One s) h = absurd (none-some s (sym h))
no_constant n (body.Ones s) h = absurd (none-some s (sym h))
no_constant n (body.Const s d v) h = absurd (none-some s (sym h))
no_constant n (body.Constd s v) h = absurd (none-some s (sym h))
no_constant n (body.Consth s d v) h = absurd (none-some s (sym h))
no_constant n _ h = refl

none_no_state : (b : Body) → node_sort b ≡ None → is_state b ≡ false
none_no_state (body.State s) h = absurd (none-some s (sym h))
none_no_state _ h = refl

none_no_leaf : (b : Body) → node_sort b ≡ None → (is_input b || is_state b) ≡ false
none_no_leaf (body.Input s) h = absurd (none-some s (sym h))
none_no_leaf (body.State s) h = absurd (none-some s (sym h))
none_no_leaf _ h = refl

pub stands_without : (wide : List Item) (table : Table) (narrow : List Item) (x : Item) → node_sort x.body ≡ None → find_item wide x.id ≡ Some x → IfSome (sort_bits x.body) (λ n. (table.sorts x.id ≡ Some n) × ((1 ≤ n) × (n ≤ most_bits)))
    → InitIsMade wide table.words narrow x.body → NextIsMade table.words narrow x.body → LineStands wide table narrow x
stands_without wide table narrow x none found sort init next =
    record {
      found = found;
      sort = sort;
      value = subst (λ (o : Option ℕ). IfSome o (HasWord wide table.words narrow x.id)) (sym none) tt;
      constant = subst (λ (o : Option ℕ). IfSome o (λ w. AreConstantsOf narrow w (table.words x.id))) (sym (no_constant (bits_in (table.words x.id)) x.body none)) tt;
      state = λ is. absurd (true≢false (sym is ∙ none_no_state x.body none));
      input = λ is. absurd (true≢false (sym (ap (λ (b : Bool). b || is_state x.body) is) ∙ none_no_leaf x.body none));
      names = λ is. absurd (true≢false (sym is ∙ none_no_leaf x.body none));
      init = init;
      next = next;
      settled = λ wide' table' narrow' on w no_state. carries_no_word wide' narrow' (layout_by table'.words) x (λ state input f. no_word wide' state input f x.id x.body none);
    }
