-- The pass over the nodes makes the now-values the words of the frame.
use Rattle.std.proofs.Common.{◌≡◌, ◌≢◌, ℕ, ◌^◌, ◌<◌, ◌≤◌, Bool, true, false, cond, List, [], ◌∷◌, ◌++◌, length, get_or, set, Option, Some, None, MatchOption, is_some, option_and_then, unwrap_or, ⊎_elim, refl, sym, ap, subst, ◌∙◌, append_assoc, append-nil, arith}
use Rattle.std.proofs.lemmas.Option.{none-some, same_Some}
use Rattle.std.proofs.lemmas.List.{length-set, get_or-set_same, get_or-set_other}
use Rattle.std.specs.List.{AllByRecursion}
use Rattle.btor2.specs.declared.item.Item.{Item}
use Rattle.btor2.specs.declared.item.Body.{Body}
use Rattle.btor2.specs.declared.item.Body.TheVariants as body
use Rattle.btor2.specs.Items.{find_item, node_width, width_of_body}
use Rattle.btor2.specs.Check.{IsWellFormed}
use Rattle.btor2.specs.Trace.{Frame, bits_of, LineHolds, IsFrame}
use Rattle.btor2.proofs.AppendLemmas.{find_item-append, found_cases}
use Rattle.btor2.proofs.ModelLemmas.{IsIn, IsAccepted-at, find_item-in}
use Rattle.runs.specs.declared.nodes.Node.{Node}
use Rattle.runs.specs.declared.nodes.Operator.{Operator}
use Rattle.btor2.specs.Lists.{of_kind}
use Rattle.runs.specs.Frames.{has_value, is_leaf, is_constant}
use Rattle.runs.specs.Nodes.{slot, operator_of, with_node, run_nodes, operator_value, OperatorFits, NodesFit, settled_values}
use Rattle.runs.specs.Holds.{ConstantsStand, HoldsFrame}
use Rattle.runs.proofs.RankLemmas.{rank-below, slot-one}
use Rattle.runs.proofs.NodeLemmas.{HoldsAmong, node_gives}

-- which lines are operators

pub leaf_no_operator : (items : List Item) (b : Body) → is_leaf b ≡ true → operator_of items b ≡ None
leaf_no_operator items (body.Input s) h = refl
leaf_no_operator items (body.State s) h = refl
leaf_no_operator items _ h = absurd (cc)

pub constant_no_operator : (items : List Item) (b : Body) → is_constant b ≡ true → operator_of items b ≡ None
constant_no_operator items (body.Zero s) h = refl
constant_no_operator items (body.One s) h = refl
constant_no_operator items (body.Ones s) h = refl
constant_no_operator items (body.Const s d v) h = refl
constant_no_operator items (body.Constd s v) h = refl
constant_no_operator items (body.Consth s d v) h = refl
constant_no_operator items _ h = absurd (cc)

operator_has_value : (items : List Item) (b : Body) (o : Operator) → operator_of items b ≡ Some o → has_value b ≡ true
operator_has_value items (body.Uext s a by) o h = refl
operator_has_value items (body.Sext s a by) o h = refl
operator_has_value items (body.Slice s a u l) o h = refl
operator_has_value items (body.Unary op s a) o h = refl
operator_has_value items (body.Binary op s a b) o h = refl
operator_has_value items (body.Concat s a b) o h = refl
operator_has_value items (body.Ite s c t e) o h = refl
operator_has_value items _ o h = absurd (none-some o h)

-- operators are nodes with a value
pub few_nodes : (items rest : List Item) → length (run_nodes items rest) ≤ length (of_kind has_value rest)
few_nodes items [] = omega arith
few_nodes items (x ∷ xs) = by (operator_of items x.body) refl (has_value x.body) refl (few_nodes items xs)
  where
    by : (p : Option Operator) → operator_of items x.body ≡ p → (b : Bool) → has_value x.body ≡ b → length (run_nodes items xs) ≤ length (of_kind has_value xs)
        → length (with_node (slot items x.id) p (run_nodes items xs)) ≤ length (cond b (x ∷ of_kind has_value xs) (of_kind has_value xs))
    by None e true has rest = omega arith
    by None e false has rest = rest
    by (Some o) e true has rest = omega arith
    by (Some o) e false has rest = absurd (let own : has_value x.body ≡ true = operator_has_value items x.body o e in cc)

-- what is no operator has in some now-values what it has in others
abbrev pub Stays : List Item → List ℕ → List ℕ → Type 0
Stays items values values' =
    (id : ℕ) (y : Item) → find_item items id ≡ Some y → has_value y.body ≡ true → operator_of items y.body ≡ None → get_or values' (slot items id) 0 ≡ get_or values (slot items id) 0

-- a pass over nodes fits, and leaves the words of the frame
pub record Settles (items : List Item) (f : Frame) (nodes : List Node) (values : List ℕ) : Type 0 where
  pub fit : NodesFit nodes values
  pub holds : HoldsFrame items (settled_values nodes values) f
  pub stays : Stays items values (settled_values nodes values)
  pub many : length (settled_values nodes values) ≡ length values

-- what the nodes before an item have among its words too, and it
holds_more : (items before : List Item) (x : Item) (values : List ℕ) (f : Frame) → (has_value x.body ≡ true → get_or values (slot items x.id) 0 ≡ f x.id) → HoldsAmong items before values f → HoldsAmong items (before ++ x ∷ []) values f
holds_more items before x values f word held id y found has =
    ⊎_elim
    (λ old. held id y old has)
    (λ last. ap (λ (k : ℕ). get_or values (slot items k) 0) last.0 ∙ word (ap (λ (z : Item). has_value z.body) last.1 ∙ has) ∙ ap f (sym last.0))
    (found_cases before x id y found)

module _ (items : List Item) (x : Item) (o : Operator) (values : List ℕ) (found : find_item items x.id ≡ Some x) (is : operator_of items x.body ≡ Some o) where
  has : has_value x.body ≡ true
  has = operator_has_value items x.body o is

  abbrev with_word : List ℕ
  with_word = set values (slot items x.id) (operator_value o values)

  other_kept : (id : ℕ) (y : Item) → find_item items id ≡ Some y → has_value y.body ≡ true → id ≢ x.id → get_or with_word (slot items id) 0 ≡ get_or values (slot items id) 0
  other_kept id y found_y has_y apart =
      get_or-set_other values (slot items x.id) (slot items id) (operator_value o values) 0 (λ e. apart (slot-one items id x.id y x found_y has_y found has e))

  stays_set : Stays items values with_word
  stays_set id y found_y has_y none =
      other_kept id y found_y has_y (λ e. none-some o (sym none ∙ ap (λ (z : Item). operator_of items z.body) (same_Some y x (sym found_y ∙ ap (find_item items) e ∙ found)) ∙ is))

  -- the operator's own word
  set_holds : (before after : List Item) (f : Frame) → items ≡ before ++ x ∷ after → find_item before x.id ≡ None → slot items x.id < length values → operator_value o values ≡ f x.id → HoldsAmong items before values f
      → HoldsAmong items (before ++ x ∷ []) with_word f
  set_holds before after f splits fresh inside word held =
      holds_more items before x with_word f (λ h. get_or-set_same values (slot items x.id) (operator_value o values) 0 inside ∙ word)
      (λ id y old has_y.
      let there : find_item items id ≡ Some y = ap (λ (l : List Item). find_item l id) splits ∙ find_item-append before (x ∷ after) id y old in
      other_kept id y there has_y (λ e. none-some y (sym fresh ∙ ap (find_item before) (sym e) ∙ old)) ∙ held id y old has_y)

  -- a pass that begins with it
  step_operator : (f : Frame) (xs : List Item) → slot items x.id < length values → OperatorFits o values → Settles items f (run_nodes items xs) with_word → Settles items f (run_nodes items (x ∷ xs)) values
  step_operator f xs inside fits rest =
      subst (λ (p : Option Operator). Settles items f (with_node (slot items x.id) p (run_nodes items xs)) values) (sym is) (record {
        fit = (inside, fits, rest.fit);
        holds = rest.holds;
        stays = λ id y found_y has_y none. rest.stays id y found_y has_y none ∙ stays_set id y found_y has_y none;
        many = rest.many ∙ length-set values (slot items x.id) (operator_value o values);
      })

pub line_at : (items : List Item) (state input f : Frame) (before after : List Item) (x : Item) → AllByRecursion (λ (x : Item). LineHolds items state input f x.id x.body) (before ++ x ∷ after) → LineHolds items state input f x.id x.body
line_at items state input f [] after x h = h.0
line_at items state input f (y ∷ ys) after x h = line_at items state input f ys after x h.1

module _ (items : List Item) (whole : IsWellFormed items) (state input f : Frame) (frame : IsFrame items state input f) (fits : (id : ℕ) → is_some (node_width items id) ≡ true → f id < 2 ^ bits_of items id) (start : List ℕ)
    (leaves : (y : Item) → IsIn items y → is_leaf y.body ≡ true → get_or start (slot items y.id) 0 ≡ f y.id) (constants : ConstantsStand items start) where
  settle_from : (before rest : List Item) → items ≡ before ++ rest → (values : List ℕ) → length values ≡ length (of_kind has_value items) → HoldsAmong items before values f → Stays items start values → Settles items f (run_nodes items rest) values
  settle_from before [] splits values many held stays =
      let none : before ++ [] ≡ before = rw append-nil refl in
      record { fit = tt; holds = subst (λ (l : List Item). HoldsAmong items l values f) (sym (splits ∙ none)) held; stays = λ id y found has none. refl; many = refl }
  settle_from before (x ∷ xs) splits values many held stays =
      let there : IsIn items x = record { before = before; after = xs; splits = splits } in
      let accepted = IsAccepted-at items x whole there in
      let found = find_item-in items x whole there in
      let next : items ≡ (before ++ x ∷ []) ++ xs = splits ∙ sym (append_assoc before (x ∷ []) xs) in
      let own : bits_of items x.id ≡ unwrap_or (width_of_body items x.body) 0 = ap (λ (o : Option Item). unwrap_or (option_and_then (λ (y : Item). width_of_body items y.body) o) 0) found in
      let gives : has_value x.body ≡ true → MatchOption (operator_of items x.body) (get_or values (slot items x.id) 0 ≡ f x.id) (λ o. OperatorFits o values × (operator_value o values ≡ f x.id)) =
      λ has.
      node_gives items before xs x splits whole f fits values many held state input x.id x.body accepted.says has
      (λ is. stays x.id x found has (leaf_no_operator items x.body is) ∙ leaves x there is)
      (λ is. stays x.id x found has (constant_no_operator items x.body is) ∙ constants x.id x found is) own
      (line_at items state input f before xs x (subst (AllByRecursion (λ (x : Item). LineHolds items state input f x.id x.body)) splits frame))
      in
      elim (operator_of items x.body)
      as (λ p. operator_of items x.body ≡ p → (has_value x.body ≡ true → MatchOption p (get_or values (slot items x.id) 0 ≡ f x.id) (λ o. OperatorFits o values × (operator_value o values ≡ f x.id)))
      → Settles items f (run_nodes items (x ∷ xs)) values) [
        | Some o ↦ λ is word.
            let has = operator_has_value items x.body o is in
            let inside : slot items x.id < length values = omega (arith, many, rank-below has_value items x.id x found has) in
            let place = slot items x.id in
            step_operator items x o values found is f xs inside (word has).0
            (settle_from (before ++ x ∷ []) xs next (set values place (operator_value o values)) (length-set values place (operator_value o values) ∙ many)
            (set_holds items x o values found is before xs f splits accepted.fresh inside (word has).1 held)
            (λ id y found_y has_y none. stays_set items x o values found is id y found_y has_y none ∙ stays id y found_y has_y none))
        | None ↦ λ none word.
            subst (λ (p : Option Operator). Settles items f (with_node (slot items x.id) p (run_nodes items xs)) values) (sym none)
            (settle_from (before ++ x ∷ []) xs next values many (holds_more items before x values f word held) stays)
      ] refl gives

  pub settle_all : length start ≡ length (of_kind has_value items) → Settles items f (run_nodes items items) start
  settle_all many = settle_from [] items refl start many (λ id y found has. absurd (none-some y found)) (λ id y found has none. refl)
