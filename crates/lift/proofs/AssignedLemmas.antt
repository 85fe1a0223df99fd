-- The witness over a model that a witness of its circuit is lifted to: its words, its lines, and that it is one.
use Rattle.std.proofs.Common.{◌≡◌, ℕ, suc, ◌+◌, ◌<◌, ◌≤◌, ◌^◌, ◌==◌, ◌&&◌, ◌||◌, not, nat_eq, eq-eqb, eqb-true, Bool, true, false, List, [], ◌∷◌, ◌++◌, Option, Some, None, IfSome, option_and_then, map, reverse, length, take, drop, get_or, decimal, length-append, length-drop, length-take-le, append_assoc, refl, sym, ap, ap₂, subst, ◌∙◌, arith}
use Rattle.std.specs.Prelude.{if◌then◌else◌}
use Rattle.std.specs.List.{list_any, AllByRecursion}
use Rattle.std.proofs.Math.Seq.{get_or-append_seam}
use Rattle.std.proofs.lemmas.Bool.{and_parts, not-true, false_from_ne_true}
use Rattle.std.proofs.lemmas.List.Folds.{list_any-append}
use Rattle.std.proofs.lemmas.List.Sums.{sum_by-cons}
use Rattle.base.specs.Word.{word, bits}
use Rattle.base.proofs.BitLemmas.{word_below, bits-word_of_length}
use Rattle.btor2.specs.declared.item.Item.{Item}
use Rattle.btor2.specs.Items.{is_input, is_state, is_free}
use Rattle.btor2.specs.Trace.{bits_of}
use Rattle.btor2.specs.Symbols.{is_symbol}
use Rattle.btor2.specs.Lists.{of_kind as leaves_of}
use Rattle.btor2.specs.Leaves.{kind_width}
use Rattle.blast.specs.Cost.{input_width}
use Rattle.witness.specs.Texts.{Assignment, Parts, Witness, shape_of, has_free, is_free_index, free_of, digit, symbol_part, assignment_line, are_distinct, IsAssignment}
use Rattle.witness.specs.BitTexts.{BitWitness}
use Rattle.lift.specs.Lifted.{at_frame, name_in_frame, names, word_line, word_lines}

-- ---- the words of leaves

-- a leaf is given the word of some bits, with a name
abbrev pub assign : ℕ → List Bool → Option (List ℕ) → Assignment
assign index bits name = record { index = index; word = word bits; symbol = name }

-- the words of some leaves, as their lines give them
abbrev pub assigned : List Item → (Item → Bool) → (Item → Option (List ℕ)) → ℕ → List Item → List Bool → List Assignment
assigned items takes name index [] bits = []
assigned items takes name index (x ∷ xs) bits =
    if takes x
    then assign index (take (bits_of items x.id) bits) (name x) ∷ assigned items takes name (suc index) xs (drop (bits_of items x.id) bits)
    else assigned items takes name (suc index) xs bits

-- which leaves of a kind take bits: all, or states by whether they are free
abbrev pub any_leaf : Item → Bool
any_leaf = λ x. true

abbrev pub takes_free : List Item → Item → Bool
takes_free items = λ x. is_free items x.id

abbrev pub takes_carried : List Item → Item → Bool
takes_carried items = λ x. not (is_free items x.id)

abbrev pub assigned_inputs : List Item → (Item → Option (List ℕ)) → List Bool → List Assignment
assigned_inputs items name bits = assigned items any_leaf name 0 (leaves_of is_input items) bits

abbrev pub assigned_carried : List Item → (Item → Option (List ℕ)) → List Bool → List Assignment
assigned_carried items name bits = assigned items (takes_carried items) name 0 (leaves_of is_state items) bits

abbrev pub assigned_free : List Item → (Item → Option (List ℕ)) → List Bool → List Assignment
assigned_free items name bits = assigned items (takes_free items) name 0 (leaves_of is_state items) bits

-- ---- the witness

abbrev pub first_parts : Bool → List Item → List Bool → List Bool → Parts
first_parts named items initial bits =
    record { states = Some (assigned_carried items (names named 0) initial ++ assigned_free items (names named 0) (drop (input_width items) bits)); inputs = assigned_inputs items (names named 0) bits }

abbrev pub later_parts : Bool → List Item → ℕ → List Bool → Parts
later_parts named items k bits =
    record { states = if has_free (shape_of items) then Some (assigned_free items (names named k) (drop (input_width items) bits)) else None; inputs = assigned_inputs items (names named k) bits }

-- the frames from k on, behind the first
abbrev pub later_frames : Bool → List Item → ℕ → List (List Bool) → List Parts
later_frames named items k [] = []
later_frames named items k (bits ∷ more) = later_parts named items k bits ∷ later_frames named items (suc k) more

abbrev pub lifted_frames : Bool → List Item → List Bool → List (List Bool) → List Parts
lifted_frames named items initial [] = []
lifted_frames named items initial (bits ∷ more) = first_parts named items initial bits ∷ later_frames named items 1 more

abbrev pub lifted_witness : Bool → List Item → BitWitness → Witness
lifted_witness named items w = record { claims = w.claim ∷ []; frames = lifted_frames named items w.initial w.frames }

-- ---- names

abbrev pub IsName : Option (List ℕ) → Type 0
IsName name = IfSome name (λ bytes. is_symbol bytes ≡ true)

name_is : (name : List ℕ) (b : Bool) → is_symbol name ≡ b → IsName (if b then Some name else None)
name_is name true is = is
name_is name false is = tt

pub are_names : (named : Bool) (k : ℕ) (x : Item) → IsName (names named k x)
are_names false k x = tt
are_names true k x = by x.symbol
  where
    by : (o : Option (List ℕ)) → IsName (option_and_then (name_in_frame k) o)
    by None = tt
    by (Some symbol) = name_is (at_frame symbol k) (is_symbol (at_frame symbol k)) refl

-- ---- lists

seam : {A : Type 0} (xs ys : List A) (y d : A) (k : ℕ) → length xs ≡ k → get_or (xs ++ y ∷ ys) k d ≡ y
seam xs ys y d k e = subst (λ (j : ℕ). get_or (xs ++ y ∷ ys) j d ≡ y) e (get_or-append_seam xs y ys d)

one_more : {A : Type 0} (xs : List A) (y : A) (k : ℕ) → length xs ≡ k → length (xs ++ y ∷ []) ≡ suc k
one_more xs y k e = omega (arith, e, length-append xs (y ∷ []))

-- where a list stands in another
abbrev Behind : {A : Type 0} → List A → List A → List A → ℕ → Type 0
Behind whole front rest k = (whole ≡ front ++ rest) × (length front ≡ k)

next_behind : {A : Type 0} (whole front rest : List A) (y : A) (k : ℕ) → Behind whole front (y ∷ rest) k → Behind whole (front ++ y ∷ []) rest (suc k)
next_behind whole front rest y k h = (h.0 ∙ sym (append_assoc front (y ∷ []) rest), one_more front y k h.1)

behind_at : {A : Type 0} (whole front rest : List A) (y d : A) (k : ℕ) → Behind whole front (y ∷ rest) k → get_or whole k d ≡ y
behind_at whole front rest y d k h = ap (λ l. get_or l k d) h.0 ∙ seam front rest y d k h.1

behind_within : {A : Type 0} (whole front rest : List A) (y : A) (k : ℕ) → Behind whole front (y ∷ rest) k → k < length whole
behind_within whole front rest y k h = omega (arith, ap length h.0, length-append front (y ∷ rest), h.1)

-- the bits of one leaf more
one_leaf_more : (items : List Item) (takes : Item → Bool) (x : Item) (xs : List Item) (n : ℕ) → kind_width items takes (x ∷ xs) ≤ n → (if takes x then bits_of items x.id else 0) + kind_width items takes xs ≤ n
one_leaf_more items takes x xs n h = subst (λ (k : ℕ). k ≤ n) (sum_by-cons (λ (y : Item). if takes y then bits_of items y.id else 0) x xs) h

-- ---- lines

one_line : (widths : List ℕ) (index n : ℕ) (bs : List Bool) (name : Option (List ℕ)) → get_or widths index 0 ≡ n → length bs ≡ n → assignment_line widths (assign index bs name) ≡ word_line index bs name
one_line widths index n bs name at long =
    ap (λ (l : List Bool). decimal index ++ 32 ∷ map digit (reverse l) ++ symbol_part name) (ap (λ (k : ℕ). bits k (word bs)) at ∙ bits-word_of_length n bs long)

abbrev widths_in : List Item → List Item → List ℕ
widths_in items xs = map (λ (x : Item). bits_of items x.id) xs

pub assigned_lines : (items : List Item) (takes : Item → Bool) (name : Item → Option (List ℕ)) (widths front : List ℕ) (index : ℕ) (xs : List Item) (bs : List Bool) → Behind widths front (widths_in items xs) index → kind_width items takes xs ≤ length bs
    → map (assignment_line widths) (assigned items takes name index xs bs) ≡ word_lines items takes name index xs bs
assigned_lines items takes name widths front index [] bs at long = refl
assigned_lines items takes name widths front index (x ∷ xs) bs at long =
    by (takes x) (one_leaf_more items takes x xs (length bs) long) (λ cs. assigned_lines items takes name widths (front ++ bits_of items x.id ∷ []) (suc index) xs cs (next_behind widths front (widths_in items xs) (bits_of items x.id) index at))
  where
    by : (b : Bool) → (if b then bits_of items x.id else 0) + kind_width items takes xs ≤ length bs
        → ((cs : List Bool) → kind_width items takes xs ≤ length cs → map (assignment_line widths) (assigned items takes name (suc index) xs cs) ≡ word_lines items takes name (suc index) xs cs)
        → map (assignment_line widths) (if b then assign index (take (bits_of items x.id) bs) (name x) ∷ assigned items takes name (suc index) xs (drop (bits_of items x.id) bs) else assigned items takes name (suc index) xs bs)
        ≡ (if b then word_line index (take (bits_of items x.id) bs) (name x) ∷ word_lines items takes name (suc index) xs (drop (bits_of items x.id) bs) else word_lines items takes name (suc index) xs bs)
    by true long rest =
        ap₂ ◌∷◌
        (one_line widths index (bits_of items x.id) (take (bits_of items x.id) bs) (name x) (behind_at widths front (widths_in items xs) (bits_of items x.id) 0 index at) (length-take-le (bits_of items x.id) bs (omega (arith, long))))
        (rest (drop (bits_of items x.id) bs) (omega (arith, long, length-drop (bits_of items x.id) bs)))
    by false long rest = rest bs (omega (arith, long))

-- ---- each word fits

one_fits : (widths : List ℕ) (index n : ℕ) (bs : List Bool) (name : Option (List ℕ)) → index < length widths → get_or widths index 0 ≡ n → length bs ≡ n → IsName name → IsAssignment widths (assign index bs name)
one_fits widths index n bs name within at long is =
    record { index = within; word = subst (λ (k : ℕ). word bs < 2 ^ k) (long ∙ sym at) (word_below bs); symbol = is }

pub assigned_fit : (items : List Item) (takes : Item → Bool) (name : Item → Option (List ℕ)) (widths front : List ℕ) (index : ℕ) (xs : List Item) (bs : List Bool) → Behind widths front (widths_in items xs) index → kind_width items takes xs ≤ length bs → ((x : Item) → IsName (name x))
    → AllByRecursion (IsAssignment widths) (assigned items takes name index xs bs)
assigned_fit items takes name widths front index [] bs at long sound = tt
assigned_fit items takes name widths front index (x ∷ xs) bs at long sound =
    by (takes x) (one_leaf_more items takes x xs (length bs) long) (λ cs long. assigned_fit items takes name widths (front ++ bits_of items x.id ∷ []) (suc index) xs cs (next_behind widths front (widths_in items xs) (bits_of items x.id) index at) long sound)
  where
    by : (b : Bool) → (if b then bits_of items x.id else 0) + kind_width items takes xs ≤ length bs
        → ((cs : List Bool) → kind_width items takes xs ≤ length cs → AllByRecursion (IsAssignment widths) (assigned items takes name (suc index) xs cs))
        → AllByRecursion (IsAssignment widths) (if b then assign index (take (bits_of items x.id) bs) (name x) ∷ assigned items takes name (suc index) xs (drop (bits_of items x.id) bs) else assigned items takes name (suc index) xs bs)
    by true long rest = (
      one_fits widths index (bits_of items x.id) (take (bits_of items x.id) bs) (name x) (behind_within widths front (widths_in items xs) (bits_of items x.id) index at) (behind_at widths front (widths_in items xs) (bits_of items x.id) 0 index at)
          (length-take-le (bits_of items x.id) bs (omega (arith, long))) (sound x),
      rest (drop (bits_of items x.id) bs) (omega (arith, long, length-drop (bits_of items x.id) bs)),
    )
    by false long rest = rest bs (omega (arith, long))

-- ---- no index stands twice

abbrev pub indices : List Assignment → List ℕ
indices list = map (λ (a : Assignment). a.index) list

pub greater_is_other : (i j : ℕ) → i < j → nat_eq j i ≡ false
greater_is_other i j h = false_from_ne_true (nat_eq j i) (λ e. absurd (omega (arith, h, eqb-true j i e)))

lower_index : (items : List Item) (takes : Item → Bool) (name : Item → Option (List ℕ)) (i index : ℕ) (xs : List Item) (bs : List Bool) → i < index → list_any (λ y. y == i) (indices (assigned items takes name index xs bs)) ≡ false
lower_index items takes name i index [] bs h = refl
lower_index items takes name i index (x ∷ xs) bs h = by (takes x) (λ cs. lower_index items takes name i (suc index) xs cs (omega (arith, h)))
  where
    by : (b : Bool) → ((cs : List Bool) → list_any (λ y. y == i) (indices (assigned items takes name (suc index) xs cs)) ≡ false)
        → list_any (λ y. y == i) (indices (if b then assign index (take (bits_of items x.id) bs) (name x) ∷ assigned items takes name (suc index) xs (drop (bits_of items x.id) bs) else assigned items takes name (suc index) xs bs)) ≡ false
    by true rest = ap (λ (b : Bool). b || list_any (λ y. y == i) (indices (assigned items takes name (suc index) xs (drop (bits_of items x.id) bs)))) (greater_is_other i index h) ∙ rest (drop (bits_of items x.id) bs)
    by false rest = rest bs

pub assigned_distinct : (items : List Item) (takes : Item → Bool) (name : Item → Option (List ℕ)) (index : ℕ) (xs : List Item) (bs : List Bool) → are_distinct (indices (assigned items takes name index xs bs)) ≡ true
assigned_distinct items takes name index [] bs = refl
assigned_distinct items takes name index (x ∷ xs) bs = by (takes x) (λ cs. assigned_distinct items takes name (suc index) xs cs)
  where
    by : (b : Bool) → ((cs : List Bool) → are_distinct (indices (assigned items takes name (suc index) xs cs)) ≡ true)
        → are_distinct (indices (if b then assign index (take (bits_of items x.id) bs) (name x) ∷ assigned items takes name (suc index) xs (drop (bits_of items x.id) bs) else assigned items takes name (suc index) xs bs)) ≡ true
    by true rest =
        ap (λ (b : Bool). not b && are_distinct (indices (assigned items takes name (suc index) xs (drop (bits_of items x.id) bs)))) (lower_index items takes name index (suc index) xs (drop (bits_of items x.id) bs) (omega arith))
        ∙ rest (drop (bits_of items x.id) bs)
    by false rest = rest bs

pub both_distinct : (ps qs : List ℕ) → are_distinct ps ≡ true → are_distinct qs ≡ true → ((i : ℕ) → list_any (λ y. y == i) ps ≡ true → list_any (λ y. y == i) qs ≡ false) → are_distinct (ps ++ qs) ≡ true
both_distinct [] qs h k apart = k
both_distinct (a ∷ ps) qs h k apart =
    let parts = and_parts (not (list_any (λ y. y == a) ps)) (are_distinct ps) h in
    let none : list_any (λ y. y == a) ps ≡ false = not-true (list_any (λ y. y == a) ps) parts.0 in
    let none_behind : list_any (λ y. y == a) qs ≡ false = apart a (ap (λ (b : Bool). b || list_any (λ y. y == a) ps) (eq-eqb a a refl)) in
    let nowhere : list_any (λ y. y == a) (ps ++ qs) ≡ false = list_any-append (λ y. y == a) ps qs ∙ ap₂ ◌||◌ none none_behind in
    ap₂ (λ (b c : Bool). not b && c) nowhere (both_distinct ps qs parts.1 k (λ i e. apart i (or_true (nat_eq a i) (list_any (λ y. y == i) ps) e)))
  where
    or_true : (b c : Bool) → c ≡ true → (b || c) ≡ true
    or_true true c e = refl
    or_true false c e = e

-- ---- whether the states with words are free

assigned_flags : (items : List Item) (takes g : Item → Bool) (name : Item → Option (List ℕ)) (v : Bool) (flags front : List Bool) (index : ℕ) (xs : List Item) (bs : List Bool) → Behind flags front (map g xs) index → ((x : Item) → takes x ≡ true → g x ≡ v)
    → AllByRecursion (λ (a : Assignment). get_or flags a.index false ≡ v) (assigned items takes name index xs bs)
assigned_flags items takes g name v flags front index [] bs at same = tt
assigned_flags items takes g name v flags front index (x ∷ xs) bs at same =
    by (takes x) refl (λ cs. assigned_flags items takes g name v flags (front ++ g x ∷ []) (suc index) xs cs (next_behind flags front (map g xs) (g x) index at) same)
  where
    by : (b : Bool) → takes x ≡ b → ((cs : List Bool) → AllByRecursion (λ (a : Assignment). get_or flags a.index false ≡ v) (assigned items takes name (suc index) xs cs))
        → AllByRecursion (λ (a : Assignment). get_or flags a.index false ≡ v) (if b then assign index (take (bits_of items x.id) bs) (name x) ∷ assigned items takes name (suc index) xs (drop (bits_of items x.id) bs) else assigned items takes name (suc index) xs bs)
    by true is rest = (behind_at flags front (map g xs) (g x) false index at ∙ same x is, rest (drop (bits_of items x.id) bs))
    by false is rest = rest bs

pub flag_of_index : (flags : List Bool) (v : Bool) (list : List Assignment) (i : ℕ) → AllByRecursion (λ (a : Assignment). get_or flags a.index false ≡ v) list → list_any (λ y. y == i) (indices list) ≡ true → get_or flags i false ≡ v
flag_of_index flags v [] i h e = absurd (cc)
flag_of_index flags v (a ∷ list) i h e = by (nat_eq a.index i) refl e (flag_of_index flags v list i h.1)
  where
    by : (b : Bool) → nat_eq a.index i ≡ b → (b || list_any (λ y. y == i) (indices list)) ≡ true → (list_any (λ y. y == i) (indices list) ≡ true → get_or flags i false ≡ v) → get_or flags i false ≡ v
    by true is e rest = subst (λ (k : ℕ). get_or flags k false ≡ v) (eqb-true a.index i is) h.0
    by false is e rest = rest e

pub free_flags : (items : List Item) (name : Item → Option (List ℕ)) (bs : List Bool) → AllByRecursion (λ (a : Assignment). is_free_index (shape_of items) a.index ≡ true) (assigned_free items name bs)
free_flags items name bs = assigned_flags items (takes_free items) (λ x. is_free items x.id) name true (free_of items) [] 0 (leaves_of is_state items) bs (refl, refl) (λ x e. e)

pub carried_flags : (items : List Item) (name : Item → Option (List ℕ)) (bs : List Bool) → AllByRecursion (λ (a : Assignment). is_free_index (shape_of items) a.index ≡ false) (assigned_carried items name bs)
carried_flags items name bs = assigned_flags items (takes_carried items) (λ x. is_free items x.id) name false (free_of items) [] 0 (leaves_of is_state items) bs (refl, refl) (λ x e. not-true (is_free items x.id) e)
