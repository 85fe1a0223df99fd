-- The parts of pieces, as they are put.
use Rattle.std.proofs.Common.{◌≡◌, ℕ, zero, suc, ◌+◌, ◌<◌, ◌≤◌, ◌==◌, ◌||◌, if◌then◌else◌, Bool, true, false, Option, Some, option_and_then, slice_get, List, [], ◌∷◌, ◌++◌, length, map, reverse, take, drop, get_or, codes, decimal, refl, sym, ap, subst, ◌∙◌, drop-cons, add-one, arith, ap₂}
use Rattle.std.specs.List.{list_any}
use Rattle.std.specs.Fmt.{digits}
use Rattle.std.proofs.Math.Seq.{take_all}
use Rattle.std.proofs.lemmas.Bool.{or_right, lt-ltb, le-ltb}
use Rattle.std.specs.Str.{bytes_eq}
use Rattle.std.proofs.lemmas.List.{reverse-append, map-append, take-map, drop-map}
use Rattle.std.proofs.lemmas.List.Concat.{flat_map-append}
use Rattle.base.specs.Lines.{text_of_lines}
use Rattle.btor2.specs.declared.item.Item.{Item}
use Rattle.btor2.specs.Items.{is_state}
use Rattle.btor2.specs.Lists.{places, is_free_at}
use Rattle.btor2.specs.declared.leaves.Leaves.{Leaves}
use Rattle.btor2.specs.declared.leaves.Leaves.TheVariants as leaves
use Rattle.btor2.specs.Leaves.{list_of, is_leaf_at, leaf_width}
use Rattle.btor2.specs.Check.{IsWellFormed}
use Rattle.blast.specs.Cost.{input_width}
use Rattle.witness.specs.Texts.{most_lines, shape_of, has_free}
use Rattle.witness.proofs.ShapeLemmas.{free_at_places}
use Rattle.lift.specs.Lifted.{names, bits_of_line, initial_piece, free_piece, frame_piece, piece}
use Rattle.lift.specs.Placed.{taken_line, placed_lines, leaf_lines, Pieces, put_piece_for}
use Rattle.lift.proofs.LeafLemmas.{lifted_input_lines, inputs_placed, carried_placed, free_placed}

-- what is made of each element is reversed with them
pub map-reversed : {X Y : Type 0} (f : X → Y) (xs : List X) → map f (reverse xs) ≡ reverse (map f xs)
map-reversed f [] = refl
map-reversed f (x ∷ xs) =
    ap (map f) (reverse-append (x ∷ []) xs) ∙ map-append f (reverse xs) (x ∷ []) ∙ ap (λ l. l ++ f x ∷ []) (map-reversed f xs) ∙ sym (reverse-append (f x ∷ []) (map f xs))

-- the leaves behind some others
pub leaves_left : (l : Leaves) (items : List Item) (name : Item → Option (List ℕ)) (index p d : ℕ) (ps : List ℕ) (bits : List Bool) → index < length ps → p ≡ get_or ps index d
    → placed_lines l items name index (drop index ps) bits ≡ taken_line (is_leaf_at items l p) index (take (leaf_width items l p) bits) (option_and_then name (slice_get items p)) ++ placed_lines l items name (index + 1) (drop (index + 1) ps) (drop (leaf_width items l p) bits)
leaves_left l items name index p d ps bits lt at =
    subst (λ (x : ℕ). placed_lines l items name index (drop index ps) bits ≡ taken_line (is_leaf_at items l x) index (take (leaf_width items l x) bits) (option_and_then name (slice_get items x)) ++ placed_lines l items name (index + 1) (drop (index + 1) ps) (drop (leaf_width items l x) bits))
    (sym at) (rw (drop-cons ps index d lt, add-one index) refl)

-- the bits of a front, and those behind it
pub bits_before : (front bits : List ℕ) (n : ℕ) → front ≡ take n bits → bits_of_line front ≡ take n (bits_of_line bits)
bits_before front bits n e = ap bits_of_line e ∙ sym (take-map (λ b. b == 49) n bits)

pub bits_behind : (rest bits : List ℕ) (n m : ℕ) → rest ≡ drop n bits → n ≡ m → bits_of_line rest ≡ drop m (bits_of_line bits)
bits_behind rest bits n m e same = ap bits_of_line e ∙ (sym (drop-map (λ b. b == 49) n bits) ∙ ap (λ (k : ℕ). drop k (bits_of_line bits)) same)

-- the pieces
pub hash : (35 ∷ decimal 0) ≡ codes "#0"
unfolding digits
hash = refl

pub initial_parts : (named : Bool) (items : List Item) (bits : List Bool) → IsWellFormed items → text_of_lines (initial_piece named items bits) ≡ ((35 ∷ []) ++ (decimal 0 ++ 10 ∷ [])) ++ leaf_lines leaves.Carried items (names named 0) bits
initial_parts named items bits w = ap₂ (λ (h l : List ℕ). (h ++ 10 ∷ []) ++ l) (sym hash) (sym (carried_placed items (names named 0) bits w))

pub first_free : (named : Bool) (items : List Item) (frame : ℕ) (bits : List Bool) → IsWellFormed items → frame ≡ 0 → text_of_lines (free_piece named items frame bits) ≡ leaf_lines leaves.Free items (names named 0) bits
first_free named items frame bits w e = ap (λ (k : ℕ). text_of_lines (free_piece named items k bits)) e ∙ sym (free_placed items (names named 0) bits w)

pub later_free : (named : Bool) (items : List Item) (frame : ℕ) (bits : List Bool) → IsWellFormed items → (frame ≡ 0 → ⊥) → has_free (shape_of items) ≡ true
    → text_of_lines (free_piece named items frame bits) ≡ ((35 ∷ []) ++ (decimal frame ++ 10 ∷ [])) ++ leaf_lines leaves.Free items (names named frame) bits
later_free named items zero bits w some free = absurd (some refl)
later_free named items (suc k) bits w some free = rw free (ap (λ (l : List ℕ). ((35 ∷ decimal (suc k)) ++ 10 ∷ []) ++ l) (sym (free_placed items (names named (suc k)) bits w)))

pub no_free : (named : Bool) (items : List Item) (frame : ℕ) (bits : List Bool) → (frame ≡ 0 → ⊥) → has_free (shape_of items) ≡ false → text_of_lines (free_piece named items frame bits) ≡ []
no_free named items zero bits some none = absurd (some refl)
no_free named items (suc k) bits some none = rw none refl

pub frame_parts : (named : Bool) (items : List Item) (frame : ℕ) (bits : List Bool) → IsWellFormed items
    → text_of_lines (frame_piece named items frame bits) ≡ text_of_lines (free_piece named items frame (drop (input_width items) bits)) ++ (((64 ∷ []) ++ (decimal frame ++ 10 ∷ [])) ++ leaf_lines leaves.Inputs items (names named frame) bits)
frame_parts named items frame bits w =
    flat_map-append (λ line. line ++ 10 ∷ []) (free_piece named items frame (drop (input_width items) bits)) ((64 ∷ decimal frame) ∷ lifted_input_lines items (names named frame) bits)
    ∙ ap (λ (l : List ℕ). text_of_lines (free_piece named items frame (drop (input_width items) bits)) ++ (((64 ∷ decimal frame) ++ 10 ∷ []) ++ l)) (sym (inputs_placed items (names named frame) bits w))

-- the piece by the number of the line
pub piece_of_header : (named : Bool) (items : List Item) (n : ℕ) (line : List ℕ) → n ≡ 0 → text_of_lines (piece named items n line) ≡ text_of_lines (codes "sat" ∷ [])
piece_of_header named items n line e = ap (λ (m : ℕ). text_of_lines (piece named items m line)) e

pub piece_of_claim : (named : Bool) (items : List Item) (n : ℕ) (line : List ℕ) → n ≡ 1 → text_of_lines (piece named items n line) ≡ text_of_lines (line ∷ [])
piece_of_claim named items n line e = ap (λ (m : ℕ). text_of_lines (piece named items m line)) e

pub piece_of_initial : (named : Bool) (items : List Item) (n : ℕ) (line : List ℕ) → n ≡ 2 → text_of_lines (piece named items n line) ≡ text_of_lines (initial_piece named items (bits_of_line line))
piece_of_initial named items n line e = ap (λ (m : ℕ). text_of_lines (piece named items m line)) e

pub piece_of_frame : (named : Bool) (items : List Item) (n m : ℕ) (line : List ℕ) → n ≡ m + 3 → text_of_lines (piece named items n line) ≡ text_of_lines (piece named items (m + 3) line)
piece_of_frame named items n m line e = ap (λ (k : ℕ). text_of_lines (piece named items k line)) e

-- in the place of a frame
at_frame : (named : Bool) (items : List Item) (n : ℕ) (line : List ℕ) → piece named items (n + 3) line ≡ (if bytes_eq line (codes ".") then line ∷ [] else frame_piece named items n (bits_of_line line))
at_frame named items n line =
    let same : n + 3 ≡ suc (suc (suc n)) = omega arith in
    ap (λ (k : ℕ). piece named items k line) same

pub piece_of_end : (named : Bool) (items : List Item) (n : ℕ) (line : List ℕ) → bytes_eq line (codes ".") ≡ true → text_of_lines (piece named items (n + 3) line) ≡ text_of_lines (line ∷ [])
piece_of_end named items n line is =
    let chosen : (if bytes_eq line (codes ".") then line ∷ [] else frame_piece named items n (bits_of_line line)) ≡ line ∷ [] = rw is refl in
    ap text_of_lines (at_frame named items n line ∙ chosen)

pub piece_of_bits : (named : Bool) (items : List Item) (n : ℕ) (line : List ℕ) → bytes_eq line (codes ".") ≡ false → text_of_lines (piece named items (n + 3) line) ≡ text_of_lines (frame_piece named items n (bits_of_line line))
piece_of_bits named items n line is =
    let chosen : (if bytes_eq line (codes ".") then line ∷ [] else frame_piece named items n (bits_of_line line)) ≡ frame_piece named items n (bits_of_line line) = rw is refl in
    ap text_of_lines (at_frame named items n line ∙ chosen)

-- the leaves, in a loop
pub leaves_step : (l : Leaves) (items : List Item) (name : Item → Option (List ℕ)) (index d w : ℕ) (t : Bool) (x : Item) (bits word behind : List Bool) → index < length (places (list_of l) 0 items)
    → w ≡ leaf_width items l (get_or (places (list_of l) 0 items) index d) → t ≡ is_leaf_at items l (get_or (places (list_of l) 0 items) index d) → slice_get items (get_or (places (list_of l) 0 items) index d) ≡ Some x → word ≡ take w bits → behind ≡ drop w bits
    → placed_lines l items name index (drop index (places (list_of l) 0 items)) bits ≡ taken_line t index word (name x) ++ placed_lines l items name (index + 1) (drop (index + 1) (places (list_of l) 0 items)) behind
leaves_step l items name index d w t x bits word behind lt width takes at front rest =
    leaves_left l items name index (get_or (places (list_of l) 0 items) index d) d (places (list_of l) 0 items) bits lt refl
    ∙ ap (λ (o : Option Item). taken_line (is_leaf_at items l (get_or (places (list_of l) 0 items) index d)) index (take (leaf_width items l (get_or (places (list_of l) 0 items) index d)) bits) (option_and_then name o)
    ++ placed_lines l items name (index + 1) (drop (index + 1) (places (list_of l) 0 items)) (drop (leaf_width items l (get_or (places (list_of l) 0 items) index d)) bits)) at
    ∙ ap (λ (n : ℕ). taken_line (is_leaf_at items l (get_or (places (list_of l) 0 items) index d)) index (take n bits) (name x) ++ placed_lines l items name (index + 1) (drop (index + 1) (places (list_of l) 0 items)) (drop n bits)) (sym width)
    ∙ ap (λ (b : Bool). taken_line b index (take w bits) (name x) ++ placed_lines l items name (index + 1) (drop (index + 1) (places (list_of l) 0 items)) (drop w bits)) (sym takes)
    ∙ ap (λ (bs : List Bool). taken_line t index bs (name x) ++ placed_lines l items name (index + 1) (drop (index + 1) (places (list_of l) 0 items)) (drop w bits)) (sym front)
    ∙ ap (λ (bs : List Bool). taken_line t index word (name x) ++ placed_lines l items name (index + 1) (drop (index + 1) (places (list_of l) 0 items)) bs) (sym rest)

-- ---- whether there is a free state

any_of_map : (f : ℕ → Bool) (ps : List ℕ) → list_any (λ (b : Bool). b) (map f ps) ≡ list_any f ps
any_of_map f [] = refl
any_of_map f (p ∷ ps) = ap (λ (b : Bool). f p || b) (any_of_map f ps)

free_by_places : (items : List Item) → has_free (shape_of items) ≡ list_any (is_free_at items) (places is_state 0 items)
free_by_places items = ap (list_any (λ (b : Bool). b)) (sym (free_at_places items)) ∙ any_of_map (is_free_at items) (places is_state 0 items)

any_found : (f : ℕ → Bool) (ps : List ℕ) (k d : ℕ) → k < length ps → f (get_or ps k d) ≡ true → list_any f ps ≡ true
any_found f [] k d lt h = absurd (omega (arith, lt))
any_found f (p ∷ ps) zero d lt h = rw h refl
any_found f (p ∷ ps) (suc k) d lt h = or_right (f p) (list_any f ps) (any_found f ps k d (omega (arith, lt)) h)

pub free_found : (items : List Item) (k d : ℕ) → k < length (places is_state 0 items) → is_free_at items (get_or (places is_state 0 items) k d) ≡ true → true ≡ has_free (shape_of items)
free_found items k d lt h = sym (free_by_places items ∙ any_found (is_free_at items) (places is_state 0 items) k d lt h)

pub none_free : (items : List Item) (k : ℕ) → length (places is_state 0 items) ≤ k → list_any (is_free_at items) (take k (places is_state 0 items)) ≡ false → false ≡ has_free (shape_of items)
none_free items k le h = sym (free_by_places items ∙ ap (list_any (is_free_at items)) (sym (take_all k (places is_state 0 items) le)) ∙ h)

-- ---- the piece of a line, where so many may be admitted

pub put_known : (p : Pieces) (n : ℕ) (line : List ℕ) → n < most_lines → put_piece_for p n line ≡ text_of_lines (piece p.named p.items n line)
put_known p n line few = ap (λ (b : Bool). if b then text_of_lines (piece p.named p.items n line) else []) (lt-ltb n most_lines few)

pub put_past : (p : Pieces) (n : ℕ) (line : List ℕ) → most_lines ≤ n → put_piece_for p n line ≡ []
put_past p n line many = ap (λ (b : Bool). if b then text_of_lines (piece p.named p.items n line) else []) (le-ltb n most_lines many)
