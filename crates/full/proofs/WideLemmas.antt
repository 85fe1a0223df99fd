-- Lists of wide items: there is a frame from any words, an item is found by its id, and what init lines say.
use Rattle.std.proofs.Common.{◌≡◌, ℕ, Bool, true, false, cond, not, nat_eq, eq-eqb, eqb-true, List, [], ◌∷◌, ◌++◌, Option, Some, None, is_some, is_none, IfSome, unwrap_or, option_and_then, append_assoc, append-nil, refl, sym, ap, ap₂, subst, ◌∙◌}
use Rattle.std.specs.List.{AllByRecursion, list_all}
use Rattle.std.specs.Option.{option_or}
use Rattle.std.proofs.lemmas.Option.{none-some, same_Some}
use Rattle.std.proofs.lemmas.Bool.{and_parts, true≢false}
use Rattle.base.specs.Operator.{unary_value, binary_value, ite_value, slice_value, uext_value, sext_value, concat_value}
use Rattle.btor2.specs.declared.item.Item.{Item}
use Rattle.btor2.specs.declared.item.Body.{Body}
use Rattle.btor2.specs.declared.item.Body.TheVariants as body
use Rattle.btor2.specs.Items.{find_item, node_width, width_of_body, operands, names_state, init_for, next_for, init_value, next_value, constant_word, constant_of_body, constant_of}
use Rattle.btor2.specs.Check.{id_is_taken, operand_is_missing, state_is_none, init_is_not_constant, is_second_init, is_second_next}
use Rattle.btor2.specs.Trace.{Frame, bits_of, line_word, LineHolds, IsFrame}
use Rattle.btor2.proofs.AppendLemmas.{find_item-append, find_item-after, names_state-append, constant_of-append, then_parts, some_of, none_of, is_some_from}
use Rattle.btor2.proofs.ModelLemmas.{find_item-own, IsIn-from_find}
use Rattle.btor2.proofs.ConstantLemmas.{init_value-after}
use Rattle.btor2.proofs.TraceLemmas.{line_among}
use Rattle.wide.specs.WideModels.{wide_refusal, IsWideAfter, IsWideModel}
use Rattle.wide.proofs.GrowLemmas.{tests_false}
use Rattle.full.specs.WrittenOut.{put}
use Rattle.full.proofs.ListLemmas.{all_with, all_both, all_join}

-- ---- what an item that is accepted says

not_false : (b : Bool) → not b ≡ false → b ≡ true
not_false true h = refl
not_false false h = absurd (cc)

-- ids that are found
abbrev AreFound : List Item → List ℕ → Type 0
AreFound items ids = AllByRecursion (λ a. is_some (find_item items a) ≡ true) ids

all_found : (items : List Item) (ids : List ℕ) → list_all (λ a. is_some (node_width items a)) ids ≡ true → AreFound items ids
all_found items [] h = tt
all_found items (a ∷ more) h =
    let parts = and_parts (is_some (node_width items a)) _ h in
    let width = some_of (node_width items a) parts.0 in
    let found = then_parts (λ (x : Item). width_of_body items x.body) (find_item items a) width.0 width.1 in
    (is_some_from (find_item items a) found.0 found.1, all_found items more parts.1)

operands_found : (items : List Item) (b : Body) → operand_is_missing items b ≡ false → AreFound items (operands b)
unfolding operand_is_missing
operands_found items b h = all_found items (operands b) (not_false (list_all (λ a. is_some (node_width items a)) (operands b)) h)

id_is_new : (items : List Item) (x : Item) → id_is_taken items x ≡ false → find_item items x.id ≡ None
unfolding id_is_taken
id_is_new items x h = none_of (find_item items x.id) h

fresh : (most : ℕ) (items : List Item) (x : Item) → wide_refusal most items x ≡ None → find_item items x.id ≡ None
fresh most items x h = id_is_new items x (tests_false most items x h).1.1.0

named : (most : ℕ) (items : List Item) (x : Item) → wide_refusal most items x ≡ None → AreFound items (operands x.body)
named most items x h = operands_found items x.body (tests_false most items x h).1.1.1.1.0

-- ---- an item is found by its id

found_behind : (most : ℕ) (items front xs : List Item) → items ≡ front ++ xs → IsWideAfter most front xs → AllByRecursion (λ (x : Item). find_item items x.id ≡ Some x) xs
found_behind most items front [] e w = tt
found_behind most items front (x ∷ xs) e w = (
  ap (λ (l : List Item). find_item l x.id) e ∙ find_item-after front (x ∷ xs) x.id (fresh most front x w.0) ∙ find_item-own x xs,
  found_behind most items (front ++ x ∷ []) xs (e ∙ sym (append_assoc front (x ∷ []) xs)) w.1,
)

pub found_by_id : (most : ℕ) (items : List Item) → IsWideModel most items → AllByRecursion (λ (x : Item). find_item items x.id ≡ Some x) items
found_by_id most items w = found_behind most items [] items refl w

-- ---- init and next lines

-- an init line is the one of a state, and its value is a constant; a next line is the one of a state
abbrev pub IsInitLine : List Item → Body → Type 0
IsInitLine items (body.Init s t v) = (names_state items t ≡ true) × (init_value items t ≡ Some v) × (is_some (constant_of items v) ≡ true)
IsInitLine items _ = Unit {0}

abbrev pub IsNextLine : List Item → Body → Type 0
IsNextLine items (body.Next s t v) = next_value items t ≡ Some v
IsNextLine items _ = Unit {0}

of_state : (items : List Item) (s t v : ℕ) → state_is_none items (body.Init s t v) ≡ false → names_state items t ≡ true
unfolding state_is_none
of_state items s t v h = not_false (names_state items t) h

no_other : (items : List Item) (s t v : ℕ) → is_second_init items (body.Init s t v) ≡ false → init_value items t ≡ None
unfolding is_second_init
no_other items s t v h = none_of (init_value items t) h

no_other_next : (items : List Item) (s t v : ℕ) → is_second_next items (body.Next s t v) ≡ false → next_value items t ≡ None
unfolding is_second_next
no_other_next items s t v h = none_of (next_value items t) h

is_there : (o : Option ℕ) → is_none o ≡ false → is_some o ≡ true
is_there None h = absurd (cc)
is_there (Some n) h = refl

of_constant : (items : List Item) (s t v : ℕ) → init_is_not_constant items (body.Init s t v) ≡ false → is_some (constant_of items v) ≡ true
unfolding init_is_not_constant
of_constant items s t v h = is_there (constant_of items v) h

constant_on : (front more : List Item) (v : ℕ) → is_some (constant_of front v) ≡ true → is_some (constant_of (front ++ more) v) ≡ true
constant_on front more v h = let there = some_of (constant_of front v) h in is_some_from (constant_of (front ++ more) v) there.0 (constant_of-append front more v there.0 there.1)

next_behind : (before more : List Item) (id : ℕ) → next_value before id ≡ None → next_value (before ++ more) id ≡ next_value more id
next_behind [] more id h = refl
next_behind (x ∷ xs) more id h = by (next_for id x.body) (next_behind xs more id) h
  where
    by : (o : Option ℕ) → (next_value xs id ≡ None → next_value (xs ++ more) id ≡ next_value more id) → option_or o (next_value xs id) ≡ None → option_or o (next_value (xs ++ more) id) ≡ next_value more id
    by None rest e = rest e
    by (Some v) rest e = absurd (none-some v (sym e))

init_line : (items front xs : List Item) (x : Item) (b : Body) → items ≡ front ++ x ∷ xs → x.body ≡ b → state_is_none front b ≡ false → init_is_not_constant front b ≡ false → is_second_init front b ≡ false → IsInitLine items b
init_line items front xs x (body.Init s t v) e is state constant second =
    let own : init_value (x ∷ xs) t ≡ Some v = ap (λ (b : Body). option_or (init_for t b) (init_value xs t)) is ∙ ap (λ (b : Bool). option_or (cond b (Some v) None) (init_value xs t)) (eq-eqb t t refl) in (
      ap (λ (l : List Item). names_state l t) e ∙ names_state-append front (x ∷ xs) t (of_state front s t v state),
      ap (λ (l : List Item). init_value l t) e ∙ init_value-after front (x ∷ xs) t (no_other front s t v second) ∙ own,
      ap (λ (l : List Item). is_some (constant_of l v)) e ∙ constant_on front (x ∷ xs) v (of_constant front s t v constant),
    )
init_line items front xs x _ e is state constant second = tt

next_line : (items front xs : List Item) (x : Item) (b : Body) → items ≡ front ++ x ∷ xs → x.body ≡ b → is_second_next front b ≡ false → IsNextLine items b
next_line items front xs x (body.Next s t v) e is second =
    let own : next_value (x ∷ xs) t ≡ Some v = ap (λ (b : Body). option_or (next_for t b) (next_value xs t)) is ∙ ap (λ (b : Bool). option_or (cond b (Some v) None) (next_value xs t)) (eq-eqb t t refl) in
    ap (λ (l : List Item). next_value l t) e ∙ next_behind front (x ∷ xs) t (no_other_next front s t v second) ∙ own
next_line items front xs x _ e is second = tt

lines_behind : (most : ℕ) (items front xs : List Item) → items ≡ front ++ xs → IsWideAfter most front xs → AllByRecursion (λ (x : Item). IsInitLine items x.body × IsNextLine items x.body) xs
lines_behind most items front [] e w = tt
lines_behind most items front (x ∷ xs) e w =
    let rows = tests_false most front x w.0 in (
      (
        init_line items front xs x x.body e refl rows.1.1.1.1.1.0 rows.1.1.1.1.1.1.1.1.1.1.0 rows.1.1.1.1.1.1.1.1.1.1.1.0,
        next_line items front xs x x.body e refl rows.1.1.1.1.1.1.1.1.1.1.1.1.0,
      ),
      lines_behind most items (front ++ x ∷ []) xs (e ∙ sym (append_assoc front (x ∷ []) xs)) w.1,
    )

pub init_lines : (most : ℕ) (items : List Item) → IsWideModel most items → AllByRecursion (λ (x : Item). IsInitLine items x.body) items
init_lines most items w = all_with (λ (x : Item). IsInitLine items x.body × IsNextLine items x.body) (λ (x : Item). IsInitLine items x.body) items (λ x both. both.0) (lines_behind most items [] items refl w)

pub next_lines : (most : ℕ) (items : List Item) → IsWideModel most items → AllByRecursion (λ (x : Item). IsNextLine items x.body) items
next_lines most items w = all_with (λ (x : Item). IsInitLine items x.body × IsNextLine items x.body) (λ (x : Item). IsNextLine items x.body) items (λ x both. both.1) (lines_behind most items [] items refl w)

-- ---- there is a frame

-- frames with the same words at the operands of a line are given the same word by it
pub word_by_operands : (items : List Item) (state input f g : Frame) (id : ℕ) (b : Body) → AllByRecursion (λ a. f a ≡ g a) (operands b) → line_word items state input f id b ≡ line_word items state input g id b
word_by_operands items state input f g id (body.Uext s a by) h = ap (λ (w : ℕ). Some (uext_value w)) h.0
word_by_operands items state input f g id (body.Sext s a by) h = ap (λ (w : ℕ). Some (sext_value (bits_of items a) w by)) h.0
word_by_operands items state input f g id (body.Slice s a u l) h = ap (λ (w : ℕ). Some (slice_value w u l)) h.0
word_by_operands items state input f g id (body.Unary op s a) h = ap (λ (w : ℕ). Some (unary_value op (bits_of items a) w)) h.0
word_by_operands items state input f g id (body.Binary op s a b) h = ap₂ (λ (v w : ℕ). Some (binary_value op (bits_of items a) v w)) h.0 h.1.0
word_by_operands items state input f g id (body.Concat s a b) h = ap₂ (λ (v w : ℕ). Some (concat_value v (bits_of items b) w)) h.0 h.1.0
word_by_operands items state input f g id (body.Ite s c t e) h =
    ap (λ (v : ℕ). Some (ite_value v (f t) (f e))) h.0 ∙ ap₂ (λ (v w : ℕ). Some (ite_value (g c) v w)) h.1.0 h.1.1.0
word_by_operands items state input f g id _ h = refl

pub if_word : (o p : Option ℕ) (x y : ℕ) → o ≡ p → x ≡ y → IfSome o (λ w. x ≡ w) → IfSome p (λ w. y ≡ w)
if_word o p x y e d h = subst (λ (q : Option ℕ). IfSome q (λ w. y ≡ w)) e (subst (λ (z : ℕ). IfSome o (λ w. z ≡ w)) d h)

pub put_own : (f : Frame) (id word : ℕ) → put f id word id ≡ word
put_own f id word = rw (eq-eqb id id refl) refl

pub put_other : (f : Frame) (id word k : ℕ) → nat_eq k id ≡ false → f k ≡ put f id word k
put_other f id word k e = sym (ap (λ (b : Bool). cond b word (f k)) e)

-- two frames have one word at each id that is found
abbrev Agrees : List Item → Frame → Frame → Type 0
Agrees items f g = (id : ℕ) → is_some (find_item items id) ≡ true → f id ≡ g id

put_agrees : (items : List Item) (f : Frame) (id word : ℕ) → find_item items id ≡ None → Agrees items f (put f id word)
put_agrees items f id word none k there = by (nat_eq k id) refl
  where
    by : (b : Bool) → nat_eq k id ≡ b → f k ≡ cond b word (f k)
    by true e = absurd (true≢false (sym there ∙ ap (λ (j : ℕ). is_some (find_item items j)) (eqb-true k id e) ∙ ap is_some none))
    by false e = refl

-- an item and what it names are found
abbrev LiesIn : List Item → Item → Type 0
LiesIn items x = (is_some (find_item items x.id) ≡ true) × AreFound items (operands x.body)

found_on : (front more : List Item) (id : ℕ) → is_some (find_item front id) ≡ true → is_some (find_item (front ++ more) id) ≡ true
found_on front more id h =
    let there = some_of (find_item front id) h in
    is_some_from (find_item (front ++ more) id) there.0 (find_item-append front more id there.0 there.1)

lies_on : (front more : List Item) (x : Item) → LiesIn front x → LiesIn (front ++ more) x
lies_on front more x h =
    (found_on front more x.id h.0, all_with (λ a. is_some (find_item front a) ≡ true) (λ a. is_some (find_item (front ++ more) a) ≡ true) (operands x.body) (found_on front more) h.1)

line_kept : (items before : List Item) (state input f g : Frame) (x : Item) → LiesIn before x → Agrees before f g → LineHolds items state input f x.id x.body → LineHolds items state input g x.id x.body
line_kept items before state input f g x lies agree h =
    let nodes = all_with (λ a. is_some (find_item before a) ≡ true) (λ a. f a ≡ g a) (operands x.body) agree lies.1 in
    if_word _ _ (f x.id) (g x.id) (word_by_operands items state input f g x.id x.body nodes) (agree x.id lies.0) h

word_put : (o : Option ℕ) (x : ℕ) → x ≡ unwrap_or o 0 → IfSome o (λ w. x ≡ w)
word_put None x h = tt
word_put (Some w) x h = h

frame_from : (most : ℕ) (items : List Item) (state input f : Frame) (before rest : List Item) → IsWideAfter most before rest → AllByRecursion (LiesIn before) before
    → AllByRecursion (λ (x : Item). LineHolds items state input f x.id x.body) before → (g : Frame) × AllByRecursion (λ (x : Item). LineHolds items state input g x.id x.body) (before ++ rest)
frame_from most items state input f before [] w lie h = (f, rw append-nil h)
frame_from most items state input f before (x ∷ xs) w lie h =
    let new = fresh most before x w.0 in
    let nodes = named most before x w.0 in
    let word = unwrap_or (line_word items state input f x.id x.body) 0 in
    let g : Frame = put f x.id word in
    let agree = put_agrees before f x.id word new in
    let same = all_with (λ a. is_some (find_item before a) ≡ true) (λ a. f a ≡ g a) (operands x.body) agree nodes in
    let own : LineHolds items state input g x.id x.body =
    if_word _ _ (g x.id) (g x.id) (word_by_operands items state input f g x.id x.body same) refl (word_put (line_word items state input f x.id x.body) (g x.id) (put_own f x.id word)) in
    let kept = all_with (λ (y : Item). LiesIn before y × LineHolds items state input f y.id y.body) (λ (y : Item). LineHolds items state input g y.id y.body) before
    (λ y both. line_kept items before state input f g y both.0 agree both.1) (all_both (LiesIn before) (λ (y : Item). LineHolds items state input f y.id y.body) before lie h) in
    let last : find_item (before ++ x ∷ []) x.id ≡ Some x = find_item-after before (x ∷ []) x.id new ∙ find_item-own x [] in
    let here : LiesIn (before ++ x ∷ []) x = (is_some_from (find_item (before ++ x ∷ []) x.id) x last, all_with (λ a. is_some (find_item before a) ≡ true) (λ a. is_some (find_item (before ++ x ∷ []) a) ≡ true) (operands x.body) (found_on before (x ∷ [])) nodes) in
    let lies = all_join (LiesIn (before ++ x ∷ [])) before (x ∷ []) (all_with (LiesIn before) (LiesIn (before ++ x ∷ [])) before (lies_on before (x ∷ [])) lie) (here, tt) in
    let lines = all_join (λ (y : Item). LineHolds items state input g y.id y.body) before (x ∷ []) kept (own, tt) in
    let found = frame_from most items state input g (before ++ x ∷ []) xs w.1 lies lines in
    (found.0, rw append_assoc at found.1)

pub wide_frame_exists : (most : ℕ) (items : List Item) (state input : Frame) → IsWideModel most items → (f : Frame) × IsFrame items state input f
wide_frame_exists most items state input w = frame_from most items state input (λ k. 0) [] items w tt tt

-- ---- constants and inputs in frames

constant_in_frame : (items : List Item) (state input f : Frame) (id word : ℕ) (b : Body) → constant_word (bits_of items id) b ≡ Some word → LineHolds items state input f id b → f id ≡ word
constant_in_frame items state input f id word (body.Zero s) e h = h ∙ same_Some 0 word e
constant_in_frame items state input f id word (body.One s) e h = h ∙ same_Some 1 word e
constant_in_frame items state input f id word (body.Ones s) e h = h ∙ same_Some _ word e
constant_in_frame items state input f id word (body.Const s d v) e h = h ∙ same_Some v word e
constant_in_frame items state input f id word (body.Constd s v) e h = h ∙ same_Some _ word e
constant_in_frame items state input f id word (body.Consth s d v) e h = h ∙ same_Some v word e
constant_in_frame items state input f id word _ e h = absurd (none-some word e)

-- the line of the item that an id finds
pub line_found : (items : List Item) (state input f : Frame) (id : ℕ) (x : Item) → find_item items id ≡ Some x → IsFrame items state input f → LineHolds items state input f id x.body
line_found items state input f id x e frame =
    let at = IsIn-from_find items id x e in
    let line = line_among items state input f at.0.before at.0.after x (subst (AllByRecursion (λ (y : Item). LineHolds items state input f y.id y.body)) at.0.splits frame) in
    subst (λ (k : ℕ). LineHolds items state input f k x.body) (sym at.1) line

pub constant_word_there : (items : List Item) (state input f : Frame) (id word : ℕ) → constant_of items id ≡ Some word → IsFrame items state input f → f id ≡ word
constant_word_there items state input f id word e frame =
    let parts = then_parts (λ (x : Item). constant_of_body items x.body) (find_item items id) word e in
    let width = then_parts (λ (n : ℕ). constant_word n parts.0.body) (width_of_body items parts.0.body) word parts.2 in
    let bits : bits_of items id ≡ width.0 = ap (λ (o : Option ℕ). unwrap_or o 0) (ap (option_and_then (λ (x : Item). width_of_body items x.body)) parts.1 ∙ width.1) in
    constant_in_frame items state input f id word parts.0.body (subst (λ (n : ℕ). constant_word n parts.0.body ≡ Some word) (sym bits) width.2) (line_found items state input f id parts.0 parts.1 frame)
