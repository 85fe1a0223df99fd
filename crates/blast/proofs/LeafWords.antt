-- The words that bits stand for, leaf after leaf: a frame that has these words has these bits.
use Rattle.std.proofs.Common.{◌≡◌, ℕ, zero, suc, ◌+◌, ◌*◌, ◌^◌, ◌<◌, ◌≤◌, nat_eq, eq-eqb, eqb-true, Bool, true, false, List, [], ◌∷◌, ◌++◌, length, take, drop, Option, Some, None, refl, sym, ap, ap₂, subst, ◌∙◌, pow_pos, length-drop, length-take-le, take-append-drop, arith, unwrap_or}
use Rattle.std.specs.Prelude.{if◌then◌else◌}
use Rattle.std.specs.List.{AllByRecursion}
use Rattle.std.proofs.Math.Seq.{take-add}
use Rattle.std.proofs.lemmas.Bool.{and_parts}
use Rattle.std.proofs.lemmas.Option.{none-some, same_Some}
use Rattle.std.proofs.lemmas.List.{take_all}
use Rattle.std.proofs.lemmas.List.Sums.{sum_by-cons}
use Rattle.base.specs.Word.{bit_number, word, bits}
use Rattle.base.proofs.BitLemmas.{two_more, bits-word_of_length}
use Rattle.btor2.specs.declared.item.Item.{Item}
use Rattle.btor2.specs.Items.{is_input, is_state, is_free, is_free_state, is_carried_state, names_state}
use Rattle.btor2.specs.Check.{IsWellFormed}
use Rattle.btor2.specs.Trace.{Frame, bits_of}
use Rattle.btor2.specs.Leaves.{kind_width}
use Rattle.btor2.proofs.IdLemmas.{AreOthers, AreFresh, ids_fresh, ids_named, input_is_no_state}
use Rattle.blast.specs.Cost.{input_width, given_width, carried_width}
use Rattle.blast.specs.Leaves.{by_body, given_by_kind, leaf_bits, input_bits, state_bits}

-- ---- the word that a leaf with an id takes of the bits

-- of some items, each of those that pass a test takes as many bits as it is wide, behind those before it
abbrev pub word_for : List Item → (Item → Bool) → List Item → List Bool → ℕ → Option ℕ
word_for items takes [] bs id = None
word_for items takes (x ∷ xs) bs id =
    if nat_eq id x.id
    then (if takes x then Some (word (take (bits_of items x.id) bs)) else None)
    else word_for items takes xs (if takes x then drop (bits_of items x.id) bs else bs) id

-- a frame has the words of all items that pass
abbrev pub Has : List Item → (Item → Bool) → List Bool → Frame → Type 0
Has items takes bs f = (id v : ℕ) → word_for items takes items bs id ≡ Some v → f id ≡ v

-- a word of so many bits at most
taken_below : (n : ℕ) (bs : List Bool) → word (take n bs) < 2 ^ n
taken_below zero bs = pow_pos 0
taken_below (suc n) [] = pow_pos (suc n)
taken_below (suc n) (b ∷ bs) = word_step b (word (take n bs)) n (taken_below n bs)
  where
    word_step : (b : Bool) (w n : ℕ) → w < 2 ^ n → bit_number b + 2 * w < 2 ^ suc n
    word_step true w n h = omega (arith, two_more n)
    word_step false w n h = omega (arith, two_more n)

pub word_fits : (items : List Item) (takes : Item → Bool) (xs : List Item) (bs : List Bool) (id v : ℕ) → word_for items takes xs bs id ≡ Some v → v < 2 ^ bits_of items id
word_fits items takes [] bs id v e = absurd (cc)
word_fits items takes (x ∷ xs) bs id v e = by (nat_eq id x.id) (takes x) refl e (λ cs. word_fits items takes xs cs id v)
  where
    by : (b t : Bool) → nat_eq id x.id ≡ b
        → (if b then (if t then Some (word (take (bits_of items x.id) bs)) else None) else word_for items takes xs (if t then drop (bits_of items x.id) bs else bs) id) ≡ Some v
        → ((cs : List Bool) → word_for items takes xs cs id ≡ Some v → v < 2 ^ bits_of items id) → v < 2 ^ bits_of items id
    by true true is e rest =
        let own : word (take (bits_of items x.id) bs) ≡ v = same_Some (word (take (bits_of items x.id) bs)) v e in
        subst (λ (n : ℕ). v < 2 ^ bits_of items n) (sym (eqb-true id x.id is)) (subst (λ (k : ℕ). k < 2 ^ bits_of items x.id) own (taken_below (bits_of items x.id) bs))
    by true false is e rest = absurd (none-some v e)
    by false t is e rest = rest (if t then drop (bits_of items x.id) bs else bs) e

-- a word that may be there is below 2 to a width
abbrev pub Below : ℕ → Option ℕ → Type 0
Below n o = (v : ℕ) → o ≡ Some v → v < 2 ^ n

pub below_or_0 : (n : ℕ) (o : Option ℕ) → Below n o → unwrap_or o 0 < 2 ^ n
below_or_0 n None h = pow_pos n
below_or_0 n (Some v) h = h v refl

-- a test of the ids of leaves that take bits
pub word_test : (items : List Item) (takes : Item → Bool) (p : ℕ → Bool) (b : Bool) (xs : List Item) → AllByRecursion (λ (x : Item). takes x ≡ true → p x.id ≡ b) xs → (bs : List Bool) (id v : ℕ) → word_for items takes xs bs id ≡ Some v → p id ≡ b
word_test items takes p b [] h bs id v e = absurd (none-some v e)
word_test items takes p b (x ∷ xs) h bs id v e = by (nat_eq id x.id) (takes x) refl refl e (λ cs. word_test items takes p b xs h.1 cs id v)
  where
    by : (c t : Bool) → nat_eq id x.id ≡ c → takes x ≡ t
        → (if c then (if t then Some (word (take (bits_of items x.id) bs)) else None) else word_for items takes xs (if t then drop (bits_of items x.id) bs else bs) id) ≡ Some v
        → ((cs : List Bool) → word_for items takes xs cs id ≡ Some v → p id ≡ b) → p id ≡ b
    by true true is takes_it e rest = ap p (eqb-true id x.id is) ∙ h.0 takes_it
    by true false is takes_it e rest = absurd (none-some v e)
    by false t is takes_it e rest = rest (if t then drop (bits_of items x.id) bs else bs) e

-- inputs are no states
pub input_named : (items : List Item) (bs : List Bool) (id v : ℕ) → IsWellFormed items → word_for items (by_body is_input) items bs id ≡ Some v → names_state items id ≡ false
input_named items bs id v w e = word_test items (by_body is_input) (names_state items) false items (ids_named items (by_body is_input) false w (λ x. input_is_no_state x.body)) bs id v e

pub free_named : (items : List Item) (bs : List Bool) (id v : ℕ) → IsWellFormed items → word_for items (is_free_state items) items bs id ≡ Some v → names_state items id ≡ true
free_named items bs id v w e =
    word_test items (is_free_state items) (names_state items) true items (ids_named items (is_free_state items) true w (λ x h. (and_parts (is_state x.body) (is_free items x.id) h).0)) bs id v e

-- ---- a frame with these words has these bits

-- an id that has a word is not that of another leaf
others_test : (takes : Item → Bool) (x : Item) (xs : List Item) → AreOthers x xs → AllByRecursion (λ (y : Item). takes y ≡ true → nat_eq y.id x.id ≡ false) xs
others_test takes x [] h = tt
others_test takes x (y ∷ ys) h = (λ t. h.0, others_test takes x ys h.1)

other_word : (items : List Item) (takes : Item → Bool) (x : Item) (xs : List Item) (bs : List Bool) (id v : ℕ) → AreOthers x xs → word_for items takes xs bs id ≡ Some v → nat_eq id x.id ≡ false
other_word items takes x xs bs id v h e = word_test items takes (λ n. nat_eq n x.id) false xs (others_test takes x xs h) bs id v e

bits_are : (items : List Item) (takes : Item → Bool) (f : Frame) (xs : List Item) (bs : List Bool) → AreFresh xs → kind_width items takes xs ≤ length bs → ((id v : ℕ) → word_for items takes xs bs id ≡ Some v → f id ≡ v)
    → given_by_kind takes (leaf_bits items f) xs ≡ take (kind_width items takes xs) bs
bits_are items takes f [] bs fresh long same = refl
bits_are items takes f (x ∷ xs) bs fresh long same =
    by (takes x) (subst (λ (n : ℕ). n ≤ length bs) sum long) same (λ cs. bits_are items takes f xs cs fresh.1) ∙ ap (λ (n : ℕ). take n bs) (sym sum)
  where
    sum : kind_width items takes (x ∷ xs) ≡ (if takes x then bits_of items x.id else 0) + kind_width items takes xs
    sum = sum_by-cons (λ (y : Item). if takes y then bits_of items y.id else 0) x xs

    own : (t : Bool) (o : Option ℕ) → (if nat_eq x.id x.id then (if t then Some (word (take (bits_of items x.id) bs)) else None) else o) ≡ (if t then Some (word (take (bits_of items x.id) bs)) else None)
    own t o = ap (λ (b : Bool). if b then (if t then Some (word (take (bits_of items x.id) bs)) else None) else o) (eq-eqb x.id x.id refl)

    behind : (t : Bool) (cs : List Bool) (id v : ℕ) → word_for items takes xs cs id ≡ Some v → (if nat_eq id x.id then (if t then Some (word (take (bits_of items x.id) bs)) else None) else word_for items takes xs cs id) ≡ Some v
    behind t cs id v e = ap (λ (b : Bool). if b then (if t then Some (word (take (bits_of items x.id) bs)) else None) else word_for items takes xs cs id) (other_word items takes x xs cs id v fresh.0 e) ∙ e

    by : (t : Bool) → (if t then bits_of items x.id else 0) + kind_width items takes xs ≤ length bs
        → ((id v : ℕ) → (if nat_eq id x.id then (if t then Some (word (take (bits_of items x.id) bs)) else None) else word_for items takes xs (if t then drop (bits_of items x.id) bs else bs) id) ≡ Some v → f id ≡ v)
        → ((cs : List Bool) → kind_width items takes xs ≤ length cs → ((id v : ℕ) → word_for items takes xs cs id ≡ Some v → f id ≡ v) → given_by_kind takes (leaf_bits items f) xs ≡ take (kind_width items takes xs) cs)
        → (if t then leaf_bits items f x else []) ++ given_by_kind takes (leaf_bits items f) xs ≡ take ((if t then bits_of items x.id else 0) + kind_width items takes xs) bs
    by true long same rest =
        let mine : f x.id ≡ word (take (bits_of items x.id) bs) = same x.id (word (take (bits_of items x.id) bs)) (own true (word_for items takes xs (drop (bits_of items x.id) bs) x.id)) in
        let first : leaf_bits items f x ≡ take (bits_of items x.id) bs =
        ap (bits (bits_of items x.id)) mine ∙ bits-word_of_length (bits_of items x.id) (take (bits_of items x.id) bs) (length-take-le (bits_of items x.id) bs (omega (arith, long))) in
        let more : given_by_kind takes (leaf_bits items f) xs ≡ take (kind_width items takes xs) (drop (bits_of items x.id) bs) =
        rest (drop (bits_of items x.id) bs) (omega (arith, long, length-drop (bits_of items x.id) bs)) (λ id v e. same id v (behind true (drop (bits_of items x.id) bs) id v e)) in
        ap₂ ◌++◌ first more ∙ sym (take-add (bits_of items x.id) (kind_width items takes xs) bs)
    by false long same rest =
        let none : 0 + kind_width items takes xs ≡ kind_width items takes xs = omega arith in
        rest bs (omega (arith, long)) (λ id v e. same id v (behind false bs id v e)) ∙ ap (λ (n : ℕ). take n bs) (sym none)

pub state_bits_are : (items : List Item) (f : Frame) (bs : List Bool) → IsWellFormed items → length bs ≡ carried_width items → Has items (is_carried_state items) bs f → state_bits items f ≡ bs
state_bits_are items f bs w long has =
    bits_are items (is_carried_state items) f items bs (ids_fresh items w) (omega (arith, long)) has ∙ take_all (carried_width items) bs (omega (arith, long))

pub input_bits_are : (items : List Item) (f : Frame) (bs : List Bool) → IsWellFormed items → length bs ≡ given_width items → Has items (by_body is_input) bs f → Has items (is_free_state items) (drop (input_width items) bs) f → input_bits items f ≡ bs
input_bits_are items f bs w long has has_free =
    let behind : List Bool = drop (input_width items) bs in
    let many : length behind ≡ kind_width items (is_free_state items) items = omega (arith, long, length-drop (input_width items) bs) in
    ap₂ ◌++◌ (bits_are items (by_body is_input) f items bs (ids_fresh items w) (omega (arith, long)) has)
    (bits_are items (is_free_state items) f items behind (ids_fresh items w) (omega (arith, many)) has_free ∙ take_all (kind_width items (is_free_state items) items) behind (omega (arith, many)))
    ∙ take-append-drop (input_width items) bs
