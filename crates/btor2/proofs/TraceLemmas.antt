-- Frames and traces of well-formed lists: there is one, and its words fit.
use Rattle.std.proofs.Common.{◌≡◌, ℕ, zero, suc, ◌+◌, ◌-◌, ◌^◌, ◌<◌, ◌≤◌, Bool, true, false, cond, ◌==◌, nat_lt, nat_le, ◌&&◌, nat_eq, eq-eqb, eqb-true, List, [], ◌∷◌, ◌++◌, Option, Some, None, is_some, IfSome, unwrap_or, option_and_then, option_map, ⊎_elim, refl, sym, ap, ap₂, subst, ◌∙◌, append_assoc, append-nil, pow_pos, arith, take, length}
use Rattle.std.proofs.lemmas.Option.{none-some}
use Rattle.std.proofs.lemmas.Bool.{cases_eq, ne_eqb, true≢false, and_parts, ltb-true}
use Rattle.std.proofs.Math.Nat.{pow-suc}
use Rattle.std.specs.List.{AllByRecursion}
use Rattle.base.specs.Operator.{unary_value, binary_value, ite_value, slice_value, uext_value, sext_value, concat_value}
use Rattle.base.specs.Widths.{unary_width, binary_width}
use Rattle.base.proofs.SignedLaws.{wrapped_below}
use Rattle.base.proofs.ValueLaws.{unary_below, binary_below, ite_below, slice_below, wider_below, concat_below}
use Rattle.btor2.specs.declared.item.Item.{Item}
use Rattle.btor2.specs.declared.item.Body.{Body}
use Rattle.btor2.specs.declared.item.Body.TheVariants as body
use Rattle.btor2.specs.Items.{find_item, node_sort, operands, sort_width, width_of_body, node_width, is_state, names_state, next_value, is_free}
use Rattle.btor2.specs.Check.{IsWellFormed, IsWellFormedAfter}
use Rattle.btor2.specs.Trace.{Frame, bits_of, line_word, LineHolds, IsFrame, next_state, IsTrace, InputFits, StateFits, IsInput, IsState, SameFrame, SameTrace}
use Rattle.btor2.proofs.AppendLemmas.{found_cases, find_item-append, find_item-after, sort_width-append, node_width-append, some_of, is_some_from, then_parts}
use Rattle.btor2.proofs.AcceptedLemmas.{Each, HasWidth, BodyIsAccepted, IsAccepted, IsAccepted-from_refusal}
use Rattle.btor2.proofs.ModelLemmas.{find_item-in, find_item-own, IsIn, IsNextOf-from_value, IsWellFormed-front, IsWellFormed-push, sort_width-range, node_width-range}

-- a node with a value is found, and has a sort
node_found : (items : List Item) (a n : ℕ) → node_width items a ≡ Some n → (y : Item) × (find_item items a ≡ Some y) × (is_some (node_sort y.body) ≡ true)
node_found items a n h =
    let parts = then_parts (λ (x : Item). width_of_body items x.body) (find_item items a) n h in
    let sort = then_parts (sort_width items) (node_sort parts.0.body) n parts.2 in
    (parts.0, parts.1, is_some_from (node_sort parts.0.body) sort.0 sort.1)

-- the line of an item among others
pub line_among : (items : List Item) (state input f : Frame) (before after : List Item) (x : Item) → AllByRecursion (λ (x : Item). LineHolds items state input f x.id x.body) (before ++ x ∷ after) → LineHolds items state input f x.id x.body
line_among items state input f [] after x h = h.0
line_among items state input f (y ∷ ys) after x h = line_among items state input f ys after x h.1

-- There is a frame.

-- two frames have one word at each id of a list
abbrev Agrees : List Item → Frame → Frame → Type 0
Agrees items f g = (id : ℕ) → is_some (find_item items id) ≡ true → f id ≡ g id

operand_agrees : (items : List Item) (f g : Frame) (a n : ℕ) → Agrees items f g → node_width items a ≡ Some n → f a ≡ g a
operand_agrees items f g a n agree h =
    let there = node_found items a n h in
    agree a (is_some_from (find_item items a) there.0 there.1)

-- what each of some nodes that are there has, by what each item of a list has
each_node : (items : List Item) (P : ℕ → Type 0) (nodes : List ℕ) → ((a n : ℕ) → node_width items a ≡ Some n → P a) → Each (HasWidth items) nodes → Each P nodes
each_node items P [] h there = tt
each_node items P (a ∷ more) h there = (h a there.0.0 there.0.1, each_node items P more h there.1)

-- what two frames have at the operands of a line, they have in the word that it gives
line_word-same : (items : List Item) (state state' input f g : Frame) (id : ℕ) (b : Body) → ((k : ℕ) → state k ≡ state' k) → Each (λ a. f a ≡ g a) (operands b)
    → line_word items state input f id b ≡ line_word items state' input g id b
line_word-same items state state' input f g id (body.State s) states h = ap (λ (w : ℕ). Some (cond (is_free items id) (input id) w)) (states id)
line_word-same items state state' input f g id (body.Uext s a by) states h = ap (λ (w : ℕ). Some (uext_value w)) h.0
line_word-same items state state' input f g id (body.Sext s a by) states h = ap (λ (w : ℕ). Some (sext_value (bits_of items a) w by)) h.0
line_word-same items state state' input f g id (body.Slice s a u l) states h = ap (λ (w : ℕ). Some (slice_value w u l)) h.0
line_word-same items state state' input f g id (body.Unary op s a) states h = ap (λ (w : ℕ). Some (unary_value op (bits_of items a) w)) h.0
line_word-same items state state' input f g id (body.Binary op s a b) states h =
    ap₂ (λ (v w : ℕ). Some (binary_value op (bits_of items a) v w)) h.0 h.1.0
line_word-same items state state' input f g id (body.Concat s a b) states h = ap₂ (λ (v w : ℕ). Some (concat_value v (bits_of items b) w)) h.0 h.1.0
line_word-same items state state' input f g id (body.Ite s c t e) states h =
    ap (λ (v : ℕ). Some (ite_value v (f t) (f e))) h.0 ∙ ap₂ (λ (v w : ℕ). Some (ite_value (g c) v w)) h.1.0 h.1.1.0
line_word-same items state state' input f g id _ states h = refl

-- a word that a line gives, in another frame with the same word at its node
word_kept : (o p : Option ℕ) (x y : ℕ) → o ≡ p → x ≡ y → IfSome o (λ w. x ≡ w) → IfSome p (λ w. y ≡ w)
word_kept o p x y e d h = subst (λ (q : Option ℕ). IfSome q (λ w. y ≡ w)) e (subst (λ (z : ℕ). IfSome o (λ w. z ≡ w)) d h)

-- a line says the same of two frames that agree at its id and its operands
line_kept : (items before : List Item) (state input f g : Frame) (x : Item) → IsAccepted before x → f x.id ≡ g x.id → Agrees before f g
    → LineHolds items state input f x.id x.body → LineHolds items state input g x.id x.body
line_kept items before state input f g x accepted same agree h =
    let nodes = each_node before (λ a. f a ≡ g a) (operands x.body) (λ a n e. operand_agrees before f g a n agree e) accepted.nodes in
    let words = line_word-same items state state input f g x.id x.body (λ k. refl) nodes in
    word_kept _ _ (f x.id) (g x.id) words same h

-- what is found in a front is found
found_in_front : (front more : List Item) (id : ℕ) → is_some (find_item front id) ≡ true → is_some (find_item (front ++ more) id) ≡ true
found_in_front front more id h =
    let there = some_of (find_item front id) h in
    is_some_from (find_item (front ++ more) id) there.0 (find_item-append front more id there.0 there.1)

-- a list's last item is found
found_last : (front : List Item) (x : Item) → find_item front x.id ≡ None → find_item (front ++ x ∷ []) x.id ≡ Some x
found_last front x h = find_item-after front (x ∷ []) x.id h ∙ find_item-own x []

lines_kept : (items : List Item) (state input f g : Frame) (front list : List Item) → IsWellFormedAfter front list → Agrees (front ++ list) f g
    → AllByRecursion (λ (x : Item). LineHolds items state input f x.id x.body) list → AllByRecursion (λ (x : Item). LineHolds items state input g x.id x.body) list
lines_kept items state input f g front [] w agree h = tt
lines_kept items state input f g front (x ∷ xs) w agree h =
    let accepted = IsAccepted-from_refusal front x w.0 in
    let whole : Agrees ((front ++ x ∷ []) ++ xs) f g = rw append_assoc agree in
    let until : Agrees (front ++ x ∷ []) f g = λ id there. whole id (found_in_front (front ++ x ∷ []) xs id there) in
    let before : Agrees front f g = λ id there. until id (found_in_front front (x ∷ []) id there) in
    let same = until x.id (is_some_from (find_item (front ++ x ∷ []) x.id) x (found_last front x accepted.fresh)) in
    (line_kept items front state input f g x accepted same before h.0, lines_kept items state input f g (front ++ x ∷ []) xs w.1 whole h.1)

-- a node has the word that a line gives it, where that was put there
word_put : (o : Option ℕ) (x : ℕ) → x ≡ unwrap_or o 0 → IfSome o (λ w. x ≡ w)
word_put None x h = tt
word_put (Some w) x h = h

line_from_word : (items before : List Item) (state input f g : Frame) (x : Item) → IsAccepted before x → Agrees before f g
    → g x.id ≡ unwrap_or (line_word items state input f x.id x.body) 0 → LineHolds items state input g x.id x.body
line_from_word items before state input f g x accepted agree h =
    let nodes = each_node before (λ a. f a ≡ g a) (operands x.body) (λ a n e. operand_agrees before f g a n agree e) accepted.nodes in
    let words = line_word-same items state state input f g x.id x.body (λ k. refl) nodes in
    word_kept _ _ (g x.id) (g x.id) words refl (word_put (line_word items state input f x.id x.body) (g x.id) h)

-- a frame with a word put at an id
abbrev put_word : Frame → ℕ → ℕ → Frame
put_word f id word k = cond (nat_eq k id) word (f k)

put_word-own : (f : Frame) (id word : ℕ) → put_word f id word id ≡ word
put_word-own f id word = rw (eq-eqb id id refl) refl

-- at the ids of a list that lacks the id
put_word-kept : (items : List Item) (f : Frame) (id word : ℕ) → find_item items id ≡ None → Agrees items f (put_word f id word)
put_word-kept items f id word none k there =
    ⊎_elim
    (λ same. let e : is_some (find_item items k) ≡ false = ap (λ (j : ℕ). is_some (find_item items j)) same ∙ ap is_some none in absurd (true≢false (sym there ∙ e)))
    (λ differs. rw (ne_eqb k id differs) refl)
    (cases_eq k id)

lines_join : (items : List Item) (state input f : Frame) (xs ys : List Item) → AllByRecursion (λ (x : Item). LineHolds items state input f x.id x.body) xs → AllByRecursion (λ (x : Item). LineHolds items state input f x.id x.body) ys → AllByRecursion (λ (x : Item). LineHolds items state input f x.id x.body) (xs ++ ys)
lines_join items state input f [] ys h k = k
lines_join items state input f (x ∷ xs) ys h k = (h.0, lines_join items state input f xs ys h.1 k)

-- a frame of the lines so far is continued to all lines
frame_from : (items : List Item) (state input f : Frame) (before rest : List Item) → IsWellFormed before → IsWellFormedAfter before rest → AllByRecursion (λ (x : Item). LineHolds items state input f x.id x.body) before
    → (g : Frame) × AllByRecursion (λ (x : Item). LineHolds items state input g x.id x.body) (before ++ rest)
frame_from items state input f before [] w r h = (f, rw append-nil h)
frame_from items state input f before (x ∷ xs) w r h =
    let accepted = IsAccepted-from_refusal before x r.0 in
    let word = unwrap_or (line_word items state input f x.id x.body) 0 in
    let g = put_word f x.id word in
    let agree = put_word-kept before f x.id word accepted.fresh in
    let line = line_from_word items before state input f g x accepted agree (put_word-own f x.id word) in
    let lines = lines_join items state input g before (x ∷ []) (lines_kept items state input f g [] before w agree h) (line, tt) in
    let found = frame_from items state input g (before ++ x ∷ []) xs (IsWellFormed-push before x w r.0) r.1 lines in
    (found.0, rw append_assoc at found.1)

pub frame_exists : (items : List Item) (state input : Frame) → IsWellFormed items → (f : Frame) × IsFrame items state input f
frame_exists items state input w = frame_from items state input (λ k. 0) [] items tt w tt

pub trace_exists : (items : List Item) (state : Frame) (inputs : List Frame) → IsWellFormed items → (fs : List Frame) × IsTrace items state inputs fs
trace_exists items state [] w = ([], tt)
trace_exists items state (input ∷ inputs) w =
    let first = frame_exists items state input w in
    let rest = trace_exists items (next_state items first.0) inputs w in
    (first.0 ∷ rest.0, (first.1, rest.1))

-- There is no other.

-- two frames have one word at each node of a list
abbrev SameNodes : List Item → Frame → Frame → Type 0
SameNodes items f g = (id : ℕ) (y : Item) → find_item items id ≡ Some y → is_some (node_sort y.body) ≡ true → f id ≡ g id

operand_same : (items : List Item) (f g : Frame) (a n : ℕ) → SameNodes items f g → node_width items a ≡ Some n → f a ≡ g a
operand_same items f g a n same h =
    let there = node_found items a n h in
    same a there.0 there.1 there.2

-- a node's line gives it a word
line_word-there : (items : List Item) (state input f : Frame) (id : ℕ) (b : Body) → is_some (node_sort b) ≡ true → is_some (line_word items state input f id b) ≡ true
line_word-there items state input f id (body.Sort n) h = h
line_word-there items state input f id (body.Init s t v) h = h
line_word-there items state input f id (body.Next s t v) h = h
line_word-there items state input f id (body.Bad a) h = h
line_word-there items state input f id (body.Constraint a) h = h
line_word-there items state input f id (body.Fair a) h = h
line_word-there items state input f id (body.Output a) h = h
line_word-there items state input f id (body.Justice nodes) h = h
line_word-there items state input f id _ h = refl

-- two nodes with one word that is there
word_same : (o : Option ℕ) (x y : ℕ) → is_some o ≡ true → IfSome o (λ w. x ≡ w) → IfSome o (λ w. y ≡ w) → x ≡ y
word_same None x y there h k = absurd (cc)
word_same (Some w) x y there h k = h ∙ sym k

line_same : (items before : List Item) (state state' input f g : Frame) (x : Item) → ((k : ℕ) → state k ≡ state' k) → IsAccepted before x → SameNodes before f g
    → LineHolds items state input f x.id x.body → LineHolds items state' input g x.id x.body → is_some (node_sort x.body) ≡ true → f x.id ≡ g x.id
line_same items before state state' input f g x states accepted same h k node =
    let nodes = each_node before (λ a. f a ≡ g a) (operands x.body) (λ a n e. operand_same before f g a n same e) accepted.nodes in
    let words = line_word-same items state state' input f g x.id x.body states nodes in
    let there = line_word-there items state' input g x.id x.body node in
    word_same (line_word items state' input g x.id x.body) (f x.id) (g x.id) there (word_kept _ _ (f x.id) (f x.id) words refl h) k

same_from : (items : List Item) (state state' input f g : Frame) (before rest : List Item) → ((k : ℕ) → state k ≡ state' k) → IsWellFormedAfter before rest
    → AllByRecursion (λ (x : Item). LineHolds items state input f x.id x.body) rest → AllByRecursion (λ (x : Item). LineHolds items state' input g x.id x.body) rest → SameNodes before f g → SameNodes (before ++ rest) f g
same_from items state state' input f g before [] states w h k same = rw append-nil same
same_from items state state' input f g before (x ∷ xs) states w h k same =
    let accepted = IsAccepted-from_refusal before x w.0 in
    let own = line_same items before state state' input f g x states accepted same h.0 k.0 in
    let more : SameNodes (before ++ x ∷ []) f g =
    λ id y found node. ⊎_elim (λ e. same id y e node) (λ e. ap f e.0 ∙ own (ap (λ (z : Item). is_some (node_sort z.body)) e.1 ∙ node) ∙ ap g (sym e.0)) (found_cases before x id y found) in
    rw append_assoc at (same_from items state state' input f g (before ++ x ∷ []) xs states w.1 h.1 k.1 more)

-- two frames from the same words have one word at each node
pub frame_unique : (items : List Item) (state state' input f g : Frame) → IsWellFormed items → ((k : ℕ) → state k ≡ state' k) → IsFrame items state input f → IsFrame items state' input g
    → SameFrame items f g
frame_unique items state state' input f g w states h k id there =
    let node = some_of (node_width items id) there in
    operand_same items f g id node.0 (same_from items state state' input f g [] items states w h k (λ j y e node. absurd (none-some y e))) node.1

next_word : (f g : Frame) (o : Option ℕ) → ((v : ℕ) → o ≡ Some v → f v ≡ g v) → unwrap_or (option_map f o) 0 ≡ unwrap_or (option_map g o) 0
next_word f g None h = refl
next_word f g (Some v) h = h v refl

-- frames that are the same leave the same state
next_state-same : (items : List Item) (f g : Frame) → IsWellFormed items → SameFrame items f g → (id : ℕ) → next_state items f id ≡ next_state items g id
next_state-same items f g w same id =
    next_word f g (next_value items id) (λ v e. let line = IsNextOf-from_value items id v w e in same v (is_some_from (node_width items v) line.width line.of_value))

trace_same : (items : List Item) (state state' : Frame) (inputs fs gs : List Frame) → IsWellFormed items → ((k : ℕ) → state k ≡ state' k) → IsTrace items state inputs fs → IsTrace items state' inputs gs
    → SameTrace items fs gs
trace_same items state state' [] [] [] w states h k = tt
trace_same items state state' [] [] (g ∷ gs) w states h k = absurd k
trace_same items state state' [] (f ∷ fs) gs w states h k = absurd h
trace_same items state state' (input ∷ inputs) [] gs w states h k = absurd h
trace_same items state state' (input ∷ inputs) (f ∷ fs) [] w states h k = absurd k
trace_same items state state' (input ∷ inputs) (f ∷ fs) (g ∷ gs) w states h k =
    let same = frame_unique items state state' input f g w states h.0 k.0 in
    (same, trace_same items (next_state items f) (next_state items g) inputs fs gs w (next_state-same items f g w same) h.1 k.1)

pub trace_unique : (items : List Item) (state : Frame) (inputs fs gs : List Frame) → IsWellFormed items → IsTrace items state inputs fs → IsTrace items state inputs gs → SameTrace items fs gs
trace_unique items state inputs fs gs w h k = trace_same items state state inputs fs gs w (λ j. refl) h k

-- Words fit.

-- a word by another that is its equal, at a width by another
below_by : (word other n m : ℕ) → word ≡ other → n ≡ m → other < 2 ^ m → word < 2 ^ n
below_by word other n m e d h = rw (e, d) h

-- the width of a node that a front has
bits_in : (items before more : List Item) (a n : ℕ) → items ≡ before ++ more → node_width before a ≡ Some n → bits_of items a ≡ n
bits_in items before more a n e h =
    ap (λ (l : List Item). bits_of l a) e ∙ ap (λ (o : Option ℕ). unwrap_or o 0) (node_width-append before more a n h)

-- the width of a sort that a front has
sort_in : (items before more : List Item) (s n : ℕ) → items ≡ before ++ more → sort_width before s ≡ Some n → unwrap_or (sort_width items s) 0 ≡ n
sort_in items before more s n e h =
    ap (λ (l : List Item). unwrap_or (sort_width l s) 0) e ∙ ap (λ (o : Option ℕ). unwrap_or o 0) (sort_width-append before more s n h)

-- each node of some lines has a word of its width
abbrev WordsFit : List Item → List Item → Frame → Type 0
WordsFit items lines f = (id : ℕ) (y : Item) → find_item lines id ≡ Some y → is_some (node_sort y.body) ≡ true → f id < 2 ^ bits_of items id

operand_fits : (items before : List Item) (f : Frame) (a n : ℕ) → WordsFit items before f → node_width before a ≡ Some n → f a < 2 ^ bits_of items a
operand_fits items before f a n fits h =
    let there = node_found before a n h in
    fits a there.0 there.1 there.2

-- an operand's word at the width that it is known to have
operand_below : (items before more : List Item) (f : Frame) (a n : ℕ) → items ≡ before ++ more → WordsFit items before f → node_width before a ≡ Some n → f a < 2 ^ n
operand_below items before more f a n e fits h =
    subst (λ (k : ℕ). f a < 2 ^ k) (bits_in items before more a n e h) (operand_fits items before f a n fits h)

-- a binary constant that fits is a word
digits_below : (n d v : ℕ) → ((d == n) && nat_lt v (2 ^ d)) ≡ true → v < 2 ^ n
digits_below n d v h =
    let both = and_parts (d == n) (nat_lt v (2 ^ d)) h in
    subst (λ (k : ℕ). v < 2 ^ k) (eqb-true d n both.0) (ltb-true v (2 ^ d) both.1)

-- a hexadecimal constant that fits is a word
hex_below : (n d v : ℕ) → (nat_le 1 d && (nat_le d 16 && (nat_lt v (2 ^ n) && nat_lt v (16 ^ d)))) ≡ true → v < 2 ^ n
hex_below n d v h =
    let most = and_parts (nat_le 1 d) _ h in
    let value = and_parts (nat_le d 16) _ most.1 in
    ltb-true v (2 ^ n) (and_parts (nat_lt v (2 ^ n)) _ value.1).0

-- one is a word of each width
one_below : (n : ℕ) → 1 ≤ n → 1 < 2 ^ n
one_below zero h = absurd (omega arith)
one_below (suc n) h = omega (arith, pow-suc 2 n, pow_pos n)

-- the word of a state fits where the one that it takes does
state_word-fits : (b : Bool) (x y n : ℕ) → (b ≡ false → x < n) → (b ≡ true → y < n) → cond b y x < n
state_word-fits true x y n carried free = free refl
state_word-fits false x y n carried free = carried refl

-- the word that an accepted line gives its node is one of the width of its sort
line_word-fits : (items before more : List Item) (state input f : Frame) (id : ℕ) (b : Body) → items ≡ before ++ more → IsWellFormed before
    → bits_of items id ≡ unwrap_or (width_of_body items b) 0 → BodyIsAccepted before b → WordsFit items before f → StateFits items state id b → InputFits items input id b
    → IfSome (line_word items state input f id b) (λ w. w < 2 ^ bits_of items id)
line_word-fits items before more state input f id (body.Input s) e wf bits says fits given in_word = in_word
line_word-fits items before more state input f id (body.State s) e wf bits says fits given in_word =
    state_word-fits (is_free items id) (state id) (input id) (2 ^ bits_of items id) given in_word
line_word-fits items before more state input f id (body.Zero s) e wf bits says fits given in_word = pow_pos (bits_of items id)
line_word-fits items before more state input f id (body.One s) e wf bits says fits given in_word =
    below_by 1 1 (bits_of items id) says.0 refl (bits ∙ sort_in items before more s says.0 e says.1) (one_below says.0 (sort_width-range before s says.0 wf says.1).0)
line_word-fits items before more state input f id (body.Ones s) e wf bits says fits given in_word = omega (arith, pow_pos (bits_of items id))
line_word-fits items before more state input f id (body.Const s d v) e wf bits says fits given in_word =
    below_by v v (bits_of items id) says.0 refl (bits ∙ sort_in items before more s says.0 e says.1) (digits_below says.0 d v says.2)
line_word-fits items before more state input f id (body.Constd s v) e wf bits says fits given in_word = wrapped_below (bits_of items id) v
line_word-fits items before more state input f id (body.Consth s d v) e wf bits says fits given in_word =
    below_by v v (bits_of items id) says.0 refl (bits ∙ sort_in items before more s says.0 e says.1) (hex_below says.0 d v says.2)
line_word-fits items before more state input f id (body.Uext s a by) e wf bits says fits given in_word =
    below_by _ _ (bits_of items id) (says.0 + by) refl (bits ∙ sort_in items before more s (says.0 + by) e says.2)
    (wider_below says.0 (f a) by (operand_below items before more f a says.0 e fits says.1))
line_word-fits items before more state input f id (body.Sext s a by) e wf bits says fits given in_word =
    below_by _ _ (bits_of items id) (bits_of items a + by) refl
    (bits ∙ sort_in items before more s (says.0 + by) e says.2 ∙ ap (λ (n : ℕ). n + by) (sym (bits_in items before more a says.0 e says.1)))
    (wrapped_below (bits_of items a + by) _)
line_word-fits items before more state input f id (body.Slice s a u l) e wf bits says fits given in_word =
    below_by _ _ (bits_of items id) (u - l + 1) refl (bits ∙ sort_in items before more s (u - l + 1) e says.2) (slice_below (f a) u l)
line_word-fits items before more state input f id (body.Unary op s a) e wf bits says fits given in_word =
    below_by _ (unary_value op says.0 (f a)) (bits_of items id) (unary_width op says.0)
    (ap (λ (n : ℕ). unary_value op n (f a)) (bits_in items before more a says.0 e says.1)) (bits ∙ sort_in items before more s (unary_width op says.0) e says.2)
    (unary_below op says.0 (f a) (node_width-range before a says.0 wf says.1).0 (operand_below items before more f a says.0 e fits says.1))
line_word-fits items before more state input f id (body.Binary op s a b) e wf bits says fits given in_word =
    below_by _ (binary_value op says.0 (f a) (f b)) (bits_of items id) (binary_width op says.0)
    (ap (λ (n : ℕ). binary_value op n (f a) (f b)) (bits_in items before more a says.0 e says.1)) (bits ∙ sort_in items before more s (binary_width op says.0) e says.3)
    (binary_below op says.0 (f a) (f b) (node_width-range before a says.0 wf says.1).0
    (operand_below items before more f a says.0 e fits says.1) (operand_below items before more f b says.0 e fits says.2))
line_word-fits items before more state input f id (body.Concat s a b) e wf bits says fits given in_word =
    below_by _ (concat_value (f a) says.1 (f b)) (bits_of items id) (says.0 + says.1)
    (ap (λ (n : ℕ). concat_value (f a) n (f b)) (bits_in items before more b says.1 e says.3)) (bits ∙ sort_in items before more s (says.0 + says.1) e says.4)
    (concat_below says.0 says.1 (f a) (f b) (operand_below items before more f a says.0 e fits says.2) (operand_below items before more f b says.1 e fits says.3))
line_word-fits items before more state input f id (body.Ite s c t e) whole wf bits says fits given in_word =
    below_by _ _ (bits_of items id) says.0 refl (bits ∙ sort_in items before more s says.0 whole says.4)
    (ite_below says.0 (f c) (f t) (f e) (operand_below items before more f t says.0 whole fits says.2) (operand_below items before more f e says.0 whole fits says.3))
line_word-fits items before more state input f id _ e wf bits says fits given in_word = tt

-- a node that has a word has one that fits where the word does
fits_by : (o : Option ℕ) (x n : ℕ) → is_some o ≡ true → IfSome o (λ w. w < 2 ^ n) → IfSome o (λ w. x ≡ w) → x < 2 ^ n
fits_by None x n there h k = absurd (cc)
fits_by (Some w) x n there h k = below_by x w n n k refl h

line_fits : (items before more : List Item) (state input f : Frame) (id : ℕ) (b : Body) → items ≡ before ++ more → IsWellFormed before
    → bits_of items id ≡ unwrap_or (width_of_body items b) 0 → BodyIsAccepted before b → WordsFit items before f → StateFits items state id b → InputFits items input id b
    → LineHolds items state input f id b → is_some (node_sort b) ≡ true → f id < 2 ^ bits_of items id
line_fits items before more state input f id b e wf bits says fits given in_word h node =
    fits_by (line_word items state input f id b) (f id) (bits_of items id) (line_word-there items state input f id b node)
    (line_word-fits items before more state input f id b e wf bits says fits given in_word) h

-- the width of a node that stands in the list
bits_own : (items : List Item) (x : Item) → IsWellFormed items → IsIn items x → bits_of items x.id ≡ unwrap_or (width_of_body items x.body) 0
bits_own items x w at = ap (λ (o : Option Item). unwrap_or (option_and_then (λ (y : Item). width_of_body items y.body) o) 0) (find_item-in items x w at)

fits_from : (items : List Item) (state input f : Frame) (before rest : List Item) → IsWellFormed items → items ≡ before ++ rest → IsWellFormedAfter before rest
    → AllByRecursion (λ (x : Item). StateFits items state x.id x.body) rest → AllByRecursion (λ (x : Item). InputFits items input x.id x.body) rest → AllByRecursion (λ (x : Item). LineHolds items state input f x.id x.body) rest → WordsFit items before f → WordsFit items (before ++ rest) f
fits_from items state input f before [] whole e w states inputs h fits = rw append-nil fits
fits_from items state input f before (x ∷ xs) whole e w states inputs h fits =
    let accepted = IsAccepted-from_refusal before x w.0 in
    let at : IsIn items x = record { before = before; after = xs; splits = e } in
    let own = line_fits items before (x ∷ xs) state input f x.id x.body e (IsWellFormed-front before (x ∷ xs) (subst IsWellFormed e whole)) (bits_own items x whole at) accepted.says fits states.0 inputs.0 h.0 in
    let more : WordsFit items (before ++ x ∷ []) f =
    λ id y found node. ⊎_elim
    (λ old. fits id y old node)
    (λ last. subst (λ (k : ℕ). f k < 2 ^ bits_of items k) (sym last.0) (own (ap (λ (z : Item). is_some (node_sort z.body)) last.1 ∙ node)))
    (found_cases before x id y found) in
    rw append_assoc at (fits_from items state input f (before ++ x ∷ []) xs whole (rw append_assoc e) w.1 states.1 inputs.1 h.1 more)

-- in a frame from words that fit each node's word fits
pub words_fit_frame : (items : List Item) (state input f : Frame) → IsWellFormed items → IsState items state → IsInput items input → IsFrame items state input f
    → (id : ℕ) → is_some (node_width items id) ≡ true → f id < 2 ^ bits_of items id
words_fit_frame items state input f w states inputs h id there =
    let node = some_of (node_width items id) there in
    operand_fits items items f id node.0 (fits_from items state input f [] items w refl w states inputs h (λ j y e k. absurd (none-some y e))) node.1

-- a state that stands in the list is named as one
names_own : (items : List Item) (x : Item) → IsWellFormed items → IsIn items x → is_state x.body ≡ true → names_state items x.id ≡ true
names_own items x w at h =
    ap (λ (o : Option Item). is_some (option_and_then (λ (y : Item). cond (is_state y.body) (Some y) None) o)) (find_item-in items x w at) ∙ ap (λ (b : Bool). is_some (cond b (Some x) None)) h

-- each state that is not free has a next line
abbrev HasNexts : List Item → Type 0
HasNexts items = (id : ℕ) → names_state items id ≡ true → is_free items id ≡ false → is_some (next_value items id) ≡ true

state_after : (items : List Item) (f : Frame) (id : ℕ) (b : Body) → IsWellFormed items → (is_state b ≡ true → names_state items id ≡ true)
    → HasNexts items → ((k : ℕ) → is_some (node_width items k) ≡ true → f k < 2 ^ bits_of items k)
    → StateFits items (next_state items f) id b
state_after items f id (body.State s) w named nexts fits = λ carried.
    let value = some_of (next_value items id) (nexts id (named refl) carried) in
    let line = IsNextOf-from_value items id value.0 w value.1 in
    let word = ap (λ (o : Option ℕ). unwrap_or (option_map f o) 0) value.1 in
    let bits = ap (λ (o : Option ℕ). unwrap_or o 0) (line.of_state ∙ sym line.of_value) in
    below_by (next_state items f id) (f value.0) (bits_of items id) (bits_of items value.0) word bits (fits value.0 (is_some_from (node_width items value.0) line.width line.of_value))
state_after items f id _ w named nexts fits = tt

states_after : (items : List Item) (f : Frame) (before rest : List Item) → IsWellFormed items → items ≡ before ++ rest
    → HasNexts items → ((k : ℕ) → is_some (node_width items k) ≡ true → f k < 2 ^ bits_of items k)
    → AllByRecursion (λ (x : Item). StateFits items (next_state items f) x.id x.body) rest
states_after items f before [] w e nexts fits = tt
states_after items f before (x ∷ xs) w e nexts fits = (
  state_after items f x.id x.body w (names_own items x w (record { before = before; after = xs; splits = e })) nexts fits,
  states_after items f (before ++ x ∷ []) xs w (rw append_assoc e) nexts fits,
)

-- where each state that is not free has a next line, the state that a frame leaves fits
pub next_state_fits : (items : List Item) (state input f : Frame) → IsWellFormed items → IsState items state → IsInput items input → IsFrame items state input f
    → HasNexts items → IsState items (next_state items f)
next_state_fits items state input f w states inputs h nexts =
    states_after items f [] items w refl nexts (words_fit_frame items state input f w states inputs h)

-- ---- how long traces are

-- a trace has as many frames as words are given for
pub trace_length : (items : List Item) (state : Frame) (inputs fs : List Frame) → IsTrace items state inputs fs → length fs ≡ length inputs
trace_length items state [] [] h = refl
trace_length items state [] (f ∷ fs) h = absurd h
trace_length items state (i ∷ is) [] h = absurd h
trace_length items state (i ∷ is) (f ∷ fs) h = ap suc (trace_length items (next_state items f) is fs h.1)

-- and so it is of so many of the first
pub trace_taken : (items : List Item) (s : Frame) (is fs : List Frame) (n : ℕ) → IsTrace items s is fs → IsTrace items s (take n is) (take n fs)
trace_taken items s [] [] zero t = tt
trace_taken items s [] [] (suc n) t = tt
trace_taken items s [] (f ∷ fs) n t = absurd t
trace_taken items s (i ∷ is) [] n t = absurd t
trace_taken items s (i ∷ is) (f ∷ fs) zero t = tt
trace_taken items s (i ∷ is) (f ∷ fs) (suc n) t = (t.0, trace_taken items (next_state items f) is fs n t.1)
