-- The words that the assignments of a lifted witness give are those that its leaves take of the bits.
use Rattle.std.proofs.Common.{◌≡◌, ℕ, suc, ◌+◌, ◌<◌, ◌≤◌, ◌==◌, ◌&&◌, nat_eq, eq-eqb, eqb-true, Bool, true, false, cond, List, [], ◌∷◌, ◌++◌, Option, Some, None, option_and_then, option_map, find, take, drop, refl, ap, subst, ◌∙◌, arith}
use Rattle.std.specs.Prelude.{if◌then◌else◌}
use Rattle.std.specs.List.{position_from}
use Rattle.std.specs.Option.{option_or}
use Rattle.std.proofs.lemmas.Bool.{false_from_ne_true}
use Rattle.std.proofs.lemmas.Option.{none-some, same_Some}
use Rattle.base.specs.Word.{word}
use Rattle.btor2.specs.declared.item.Item.{Item}
use Rattle.btor2.specs.declared.item.Body.{Body}
use Rattle.btor2.specs.Trace.{bits_of}
use Rattle.btor2.specs.Lists.{of_kind as leaves_of}
use Rattle.blast.proofs.LeafWords.{word_for}
use Rattle.witness.specs.Texts.{Assignment}
use Rattle.witness.specs.Judgements.{pairs_of, given}
use Rattle.lift.proofs.AssignedLemmas.{greater_is_other, assign, assigned}

-- ---- the word that a leaf with an id takes of the bits

-- among all items it is the one among those of a kind
pub word_among : (items : List Item) (kind : Body → Bool) (takes k : Item → Bool) → ((x : Item) → k x ≡ (kind x.body && takes x)) → (xs : List Item) (bs : List Bool) (id v : ℕ) → word_for items k xs bs id ≡ Some v
    → word_for items takes (leaves_of kind xs) bs id ≡ Some v
word_among items kind takes k same [] bs id v e = absurd (none-some v e)
word_among items kind takes k same (x ∷ xs) bs id v e =
    by (kind x.body) (subst (λ (b : Bool). (if nat_eq id x.id then (if b then Some (word (take (bits_of items x.id) bs)) else None) else word_for items k xs (if b then drop (bits_of items x.id) bs else bs) id) ≡ Some v) (same x) e)
    (λ cs. word_among items kind takes k same xs cs id v)
  where
    keep : (c : Bool) (a o p : Option ℕ) → (o ≡ Some v → p ≡ Some v) → (if c then a else o) ≡ Some v → (if c then a else p) ≡ Some v
    keep true a o p rest e = e
    keep false a o p rest e = rest e

    pass : (c : Bool) (o p : Option ℕ) → (o ≡ Some v → p ≡ Some v) → (if c then None else o) ≡ Some v → p ≡ Some v
    pass true o p rest e = absurd (none-some v e)
    pass false o p rest e = rest e

    taken : (t : Bool) → (if nat_eq id x.id then (if t then Some (word (take (bits_of items x.id) bs)) else None) else word_for items k xs (if t then drop (bits_of items x.id) bs else bs) id) ≡ Some v
        → ((cs : List Bool) → word_for items k xs cs id ≡ Some v → word_for items takes (leaves_of kind xs) cs id ≡ Some v)
        → (if nat_eq id x.id then (if t then Some (word (take (bits_of items x.id) bs)) else None) else word_for items takes (leaves_of kind xs) (if t then drop (bits_of items x.id) bs else bs) id) ≡ Some v
    taken true e rest =
        let behind : List Bool = drop (bits_of items x.id) bs in
        keep (nat_eq id x.id) (Some (word (take (bits_of items x.id) bs))) (word_for items k xs behind id) (word_for items takes (leaves_of kind xs) behind id) (rest behind) e
    taken false e rest = keep (nat_eq id x.id) None (word_for items k xs bs id) (word_for items takes (leaves_of kind xs) bs id) (rest bs) e

    by : (b : Bool) → (if nat_eq id x.id then (if b && takes x then Some (word (take (bits_of items x.id) bs)) else None) else word_for items k xs (if b && takes x then drop (bits_of items x.id) bs else bs) id) ≡ Some v
        → ((cs : List Bool) → word_for items k xs cs id ≡ Some v → word_for items takes (leaves_of kind xs) cs id ≡ Some v)
        → word_for items takes (if b then x ∷ leaves_of kind xs else leaves_of kind xs) bs id ≡ Some v
    by true e rest = taken (takes x) e rest
    by false e rest = pass (nat_eq id x.id) (word_for items k xs bs id) (word_for items takes (leaves_of kind xs) bs id) (rest bs) e

-- ---- the words that a part gives

lower_place : (test : Item → Bool) (i k : ℕ) (xs : List Item) → position_from test i xs ≡ Some k → i ≤ k
lower_place test i k [] e = absurd (none-some k e)
lower_place test i k (x ∷ xs) e = by (test x) e (λ d. omega (arith, lower_place test (i + 1) k xs d))
  where
    by : (b : Bool) → cond b (Some i) (position_from test (i + 1) xs) ≡ Some k → (position_from test (i + 1) xs ≡ Some k → i ≤ k) → i ≤ k
    by true e rest = omega (arith, same_Some i k e)
    by false e rest = rest e

given_lower : (items : List Item) (takes : Item → Bool) (name : Item → Option (List ℕ)) (i index : ℕ) (xs : List Item) (bs : List Bool) → i < index → given (pairs_of (assigned items takes name index xs bs)) i ≡ None
given_lower items takes name i index [] bs h = refl
given_lower items takes name i index (x ∷ xs) bs h = by (takes x) (λ cs. given_lower items takes name i (suc index) xs cs (omega (arith, h)))
  where
    by : (t : Bool) → ((cs : List Bool) → given (pairs_of (assigned items takes name (suc index) xs cs)) i ≡ None)
        → given (pairs_of (if t then assign index (take (bits_of items x.id) bs) (name x) ∷ assigned items takes name (suc index) xs (drop (bits_of items x.id) bs) else assigned items takes name (suc index) xs bs)) i ≡ None
    by true rest =
        ap (λ (b : Bool). option_map (λ (p : ℕ × ℕ). p.1) (cond b (Some (index, word (take (bits_of items x.id) bs))) (find (λ (p : ℕ × ℕ). p.0 == i) (pairs_of (assigned items takes name (suc index) xs (drop (bits_of items x.id) bs)))))) (greater_is_other i index h)
        ∙ rest (drop (bits_of items x.id) bs)
    by false rest = rest bs

-- a pair in front gives nothing to a later index
given_behind : (index w : ℕ) (ps : List (ℕ × ℕ)) (o : Option ℕ) → ((k : ℕ) → o ≡ Some k → index < k) → option_and_then (given ((index, w) ∷ ps)) o ≡ option_and_then (given ps) o
given_behind index w ps None h = refl
given_behind index w ps (Some k) h =
    ap (λ (b : Bool). option_map (λ (p : ℕ × ℕ). p.1) (cond b (Some (index, w)) (find (λ (p : ℕ × ℕ). p.0 == k) ps))) (false_from_ne_true (nat_eq index k) (λ e. absurd (omega (arith, h k refl, eqb-true index k e))))

pub looked_up : (items : List Item) (takes : Item → Bool) (name : Item → Option (List ℕ)) (id index : ℕ) (xs : List Item) (bs : List Bool)
    → option_and_then (given (pairs_of (assigned items takes name index xs bs))) (position_from (λ x. nat_eq id x.id) index xs) ≡ word_for items takes xs bs id
looked_up items takes name id index [] bs = refl
looked_up items takes name id index (x ∷ xs) bs =
    by (nat_eq id x.id) (takes x) (λ cs. ap (λ (n : ℕ). option_and_then (given (pairs_of (assigned items takes name (suc index) xs cs))) (position_from (λ y. nat_eq id y.id) n xs)) next ∙ looked_up items takes name id (suc index) xs cs)
  where
    next : index + 1 ≡ suc index
    next = omega arith

    by : (b t : Bool) → ((cs : List Bool) → option_and_then (given (pairs_of (assigned items takes name (suc index) xs cs))) (position_from (λ y. nat_eq id y.id) (index + 1) xs) ≡ word_for items takes xs cs id)
        → option_and_then (given (pairs_of (if t then assign index (take (bits_of items x.id) bs) (name x) ∷ assigned items takes name (suc index) xs (drop (bits_of items x.id) bs) else assigned items takes name (suc index) xs bs))) (cond b (Some index) (position_from (λ y. nat_eq id y.id) (index + 1) xs))
        ≡ (if b then (if t then Some (word (take (bits_of items x.id) bs)) else None) else word_for items takes xs (if t then drop (bits_of items x.id) bs else bs) id)
    by true true rest =
        ap (λ (b : Bool). option_map (λ (p : ℕ × ℕ). p.1) (cond b (Some (index, word (take (bits_of items x.id) bs))) (find (λ (p : ℕ × ℕ). p.0 == index) (pairs_of (assigned items takes name (suc index) xs (drop (bits_of items x.id) bs)))))) (eq-eqb index index refl)
    by true false rest = given_lower items takes name index (suc index) xs bs (omega arith)
    by false true rest =
        given_behind index (word (take (bits_of items x.id) bs)) (pairs_of (assigned items takes name (suc index) xs (drop (bits_of items x.id) bs))) (position_from (λ y. nat_eq id y.id) (index + 1) xs)
        (λ k e. omega (arith, lower_place (λ y. nat_eq id y.id) (index + 1) k xs e))
        ∙ rest (drop (bits_of items x.id) bs)
    by false false rest = rest bs

-- of two parts, one behind the other
given_both : (ps qs : List Assignment) (k : ℕ) → given (pairs_of (ps ++ qs)) k ≡ option_or (given (pairs_of ps) k) (given (pairs_of qs) k)
given_both [] qs k = refl
given_both (a ∷ ps) qs k = by (nat_eq a.index k) (given_both ps qs k)
  where
    by : (b : Bool) → given (pairs_of (ps ++ qs)) k ≡ option_or (given (pairs_of ps) k) (given (pairs_of qs) k)
        → option_map (λ (p : ℕ × ℕ). p.1) (cond b (Some (a.index, a.word)) (find (λ (p : ℕ × ℕ). p.0 == k) (pairs_of (ps ++ qs))))
        ≡ option_or (option_map (λ (p : ℕ × ℕ). p.1) (cond b (Some (a.index, a.word)) (find (λ (p : ℕ × ℕ). p.0 == k) (pairs_of ps)))) (given (pairs_of qs) k)
    by true rest = refl
    by false rest = rest

pub both_given : (ps qs : List Assignment) (o : Option ℕ) → option_and_then (given (pairs_of (ps ++ qs))) o ≡ option_or (option_and_then (given (pairs_of ps)) o) (option_and_then (given (pairs_of qs)) o)
both_given ps qs None = refl
both_given ps qs (Some k) = given_both ps qs k
