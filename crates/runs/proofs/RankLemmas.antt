-- How many items of a kind stand before an item.
use Rattle.std.proofs.Common.{◌≡◌, ◌≢◌, ℕ, zero, suc, ◌+◌, ◌<◌, Bool, true, false, cond, nat_eq, eq-eqb, eqb-true, List, [], ◌∷◌, ◌++◌, length, map, get_or, slice_get, Option, Some, None, is_some, option_and_then, refl, sym, ap, ◌∙◌, arith}
use Rattle.std.proofs.lemmas.Option.{none-some, same_Some}
use Rattle.std.proofs.lemmas.List.{length-map, get_or-map}
use Rattle.btor2.specs.declared.item.Item.{Item}
use Rattle.btor2.specs.declared.item.Body.{Body}
use Rattle.btor2.specs.declared.item.Body.TheVariants as body
use Rattle.btor2.specs.Items.{find_item, is_input, is_state, names_state}
use Rattle.btor2.specs.Check.{IsWellFormed}
use Rattle.btor2.specs.Lists.{places, of_kind}
use Rattle.btor2.proofs.ModelLemmas.{IsIn, IsAccepted-at, find_item-in}
use Rattle.runs.specs.Frames.{has_value, is_leaf, is_constant, ids_of, kind_rank, given_at, given_leaves}
use Rattle.runs.specs.Nodes.{slot, words_at}

-- what a kind's leaves are

pub state_is_leaf : (b : Body) → is_state b ≡ true → is_leaf b ≡ true
state_is_leaf (body.State s) h = refl
state_is_leaf _ h = absurd (cc)

pub input_is_leaf : (b : Body) → is_input b ≡ true → is_leaf b ≡ true
input_is_leaf (body.Input s) h = refl
input_is_leaf _ h = absurd (cc)

-- what is a leaf is a state or an input
pub leaf_cases : (P : Type 0) (b : Body) → is_leaf b ≡ true → (is_state b ≡ true → P) → (is_input b ≡ true → P) → P
leaf_cases P (body.State s) leaf of_state of_input = of_state refl
leaf_cases P (body.Input s) leaf of_state of_input = of_input refl
leaf_cases P _ leaf of_state of_input = absurd (cc)

pub leaf_has_value : (b : Body) → is_leaf b ≡ true → has_value b ≡ true
leaf_has_value (body.State s) h = refl
leaf_has_value (body.Input s) h = refl
leaf_has_value _ h = absurd (cc)

pub constant_has_value : (b : Body) → is_constant b ≡ true → has_value b ≡ true
constant_has_value (body.Zero s) h = refl
constant_has_value (body.One s) h = refl
constant_has_value (body.Ones s) h = refl
constant_has_value (body.Const s d v) h = refl
constant_has_value (body.Constd s v) h = refl
constant_has_value (body.Consth s d v) h = refl
constant_has_value _ h = absurd (cc)

no_leaf_is_constant : (b : Body) → is_leaf b ≡ true → is_constant b ≡ true → ⊥
no_leaf_is_constant (body.State s) h k = cc
no_leaf_is_constant (body.Input s) h k = cc
no_leaf_is_constant _ h k = cc

pub no_state_is_input : (b : Body) → is_state b ≡ true → is_input b ≡ true → ⊥
no_state_is_input (body.State s) h k = cc
no_state_is_input _ h k = cc

-- one item more

more_length : (b : Bool) (n : ℕ) (y : Item) (ys : List Item) → n ≡ length ys → cond b (suc n) n ≡ length (cond b (y ∷ ys) ys)
more_length true n y ys e = ap suc e
more_length false n y ys e = e

more_below : (b : Bool) (n : ℕ) (y : Item) (ys : List Item) → n < length ys → cond b (suc n) n < length (cond b (y ∷ ys) ys)
more_below true n y ys h = omega arith
more_below false n y ys h = h

more_found : (b : Bool) (n id : ℕ) (y : Item) (ys : List Item) → get_or (map (λ (x : Item). x.id) ys) n 0 ≡ id
    → get_or (map (λ (x : Item). x.id) (cond b (y ∷ ys) ys)) (cond b (suc n) n) 0 ≡ id
more_found true n id y ys e = e
more_found false n id y ys e = e

-- an item whose id none before it has stands behind all of its kind before it
pub rank-own : (test : Body → Bool) (before after : List Item) (x : Item) → find_item before x.id ≡ None → kind_rank test (before ++ x ∷ after) x.id ≡ length (of_kind test before)
rank-own test [] after x h = rw (eq-eqb x.id x.id refl) refl
rank-own test (y ∷ ys) after x h =
    elim (nat_eq x.id y.id)
    as (λ b. cond b (Some y) (find_item ys x.id) ≡ None
    → cond b 0 (cond (test y.body) (suc (kind_rank test (ys ++ x ∷ after) x.id)) (kind_rank test (ys ++ x ∷ after) x.id)) ≡ length (cond (test y.body) (y ∷ of_kind test ys) (of_kind test ys))) [
      | true ↦ λ e. absurd (none-some y (sym e))
      | false ↦ λ e. more_length (test y.body) (kind_rank test (ys ++ x ∷ after) x.id) y (of_kind test ys) (rank-own test ys after x e)
    ] h

-- items behind it do not count
pub rank-append : (test : Body → Bool) (before more : List Item) (id : ℕ) (y : Item) → find_item before id ≡ Some y → kind_rank test (before ++ more) id ≡ kind_rank test before id
rank-append test [] more id y h = absurd (none-some y h)
rank-append test (x ∷ xs) more id y h =
    elim (nat_eq id x.id)
    as (λ b. cond b (Some x) (find_item xs id) ≡ Some y
    → cond b 0 (cond (test x.body) (suc (kind_rank test (xs ++ more) id)) (kind_rank test (xs ++ more) id)) ≡ cond b 0 (cond (test x.body) (suc (kind_rank test xs id)) (kind_rank test xs id))) [
      | true ↦ λ e. refl
      | false ↦ λ e. ap (λ (n : ℕ). cond (test x.body) (suc n) n) (rank-append test xs more id y e)
    ] h

-- an item of the kind counts itself
pub rank-below : (test : Body → Bool) (items : List Item) (id : ℕ) (y : Item) → find_item items id ≡ Some y → test y.body ≡ true → kind_rank test items id < length (of_kind test items)
rank-below test [] id y h is = absurd (none-some y h)
rank-below test (x ∷ xs) id y h is =
    elim (nat_eq id x.id)
    as (λ b. cond b (Some x) (find_item xs id) ≡ Some y
    → cond b 0 (cond (test x.body) (suc (kind_rank test xs id)) (kind_rank test xs id)) < length (cond (test x.body) (x ∷ of_kind test xs) (of_kind test xs))) [
      | true ↦ λ e. let own : test x.body ≡ true = ap (λ (z : Item). test z.body) (same_Some x y e) ∙ is in rw own (omega arith)
      | false ↦ λ e. more_below (test x.body) (kind_rank test xs id) x (of_kind test xs) (rank-below test xs id y e is)
    ] h

-- and its id stands there among those of the kind
pub ids-rank : (test : Body → Bool) (items : List Item) (id : ℕ) (y : Item) → find_item items id ≡ Some y → test y.body ≡ true → get_or (ids_of test items) (kind_rank test items id) 0 ≡ id
ids-rank test [] id y h is = absurd (none-some y h)
ids-rank test (x ∷ xs) id y h is =
    here (λ e. ids-rank test xs id y e is) (nat_eq id x.id) refl h
  where
    here : (find_item xs id ≡ Some y → get_or (ids_of test xs) (kind_rank test xs id) 0 ≡ id) → (b : Bool) → nat_eq id x.id ≡ b → cond b (Some x) (find_item xs id) ≡ Some y
        → get_or (map (λ (z : Item). z.id) (cond (test x.body) (x ∷ of_kind test xs) (of_kind test xs))) (cond b 0 (cond (test x.body) (suc (kind_rank test xs id)) (kind_rank test xs id))) 0 ≡ id
    here behind true same e =
        let own : test x.body ≡ true = ap (λ (z : Item). test z.body) (same_Some x y e) ∙ is in
        rw own (sym (eqb-true id x.id same))
    here behind false other e = more_found (test x.body) (kind_rank test xs id) id x (of_kind test xs) (behind e)

-- nodes with one place are one
pub slot-one : (items : List Item) (i j : ℕ) (x y : Item) → find_item items i ≡ Some x → has_value x.body ≡ true → find_item items j ≡ Some y → has_value y.body ≡ true
    → slot items i ≡ slot items j → i ≡ j
slot-one items i j x y of_i has_i of_j has_j e =
    sym (ids-rank has_value items i x of_i has_i) ∙ ap (λ (n : ℕ). get_or (ids_of has_value items) n 0) e ∙ ids-rank has_value items j y of_j has_j

-- so no constant has that of a leaf
pub constant_apart : (items : List Item) (i j : ℕ) (x y : Item) → find_item items i ≡ Some x → is_constant x.body ≡ true → find_item items j ≡ Some y → is_leaf y.body ≡ true → slot items i ≢ slot items j
constant_apart items i j x y of_i constant of_j leaf e =
    let same = slot-one items i j x y of_i (constant_has_value x.body constant) of_j (leaf_has_value y.body leaf) e in
    no_leaf_is_constant y.body leaf (ap (λ (z : Item). is_constant z.body) (same_Some y x (sym of_j ∙ ap (find_item items) (sym same) ∙ of_i)) ∙ constant)

-- The k-th item of a kind.
pub record IsNth (test : Body → Bool) (items : List Item) (k : ℕ) (x : Item) : Type 0 where
  pub before : List Item
  pub after : List Item
  pub splits : items ≡ before ++ x ∷ after
  pub is : test x.body ≡ true
  pub count : length (of_kind test before) ≡ k
  pub id : get_or (ids_of test items) k 0 ≡ x.id
  pub stands : slice_get (of_kind test items) k ≡ Some x
  pub place : (at : ℕ) → get_or (places test at items) k 0 ≡ at + length before

pub nth : (test : Body → Bool) (items : List Item) (k : ℕ) → k < length (of_kind test items) → (x : Item) × IsNth test items k x
nth test [] k h = absurd (omega arith)
nth test (y ∷ ys) k h = by (nth test ys) (test y.body) refl k h
  where
    skip : (j : ℕ) (x : Item) (n : IsNth test ys j x) → test y.body ≡ false → IsNth test (y ∷ ys) j x
    skip j x n e =
        record {
          before = y ∷ n.before;
          after = n.after;
          splits = ap (λ (l : List Item). y ∷ l) n.splits;
          is = n.is;
          count = rw e n.count;
          id = rw e n.id;
          stands = rw e n.stands;
          place = λ at. rw e (n.place (suc at) ∙ omega arith);
        }

    pass : (j : ℕ) (x : Item) (n : IsNth test ys j x) → test y.body ≡ true → IsNth test (y ∷ ys) (suc j) x
    pass j x n e =
        record {
          before = y ∷ n.before;
          after = n.after;
          splits = ap (λ (l : List Item). y ∷ l) n.splits;
          is = n.is;
          count = rw e (ap suc n.count);
          id = rw e n.id;
          stands = rw e n.stands;
          place = λ at. rw e (n.place (suc at) ∙ omega arith);
        }

    by : ((j : ℕ) → j < length (of_kind test ys) → (x : Item) × IsNth test ys j x) → (b : Bool) → test y.body ≡ b → (k : ℕ)
        → k < length (cond b (y ∷ of_kind test ys) (of_kind test ys)) → (x : Item) × IsNth test (y ∷ ys) k x
    by behind true e zero h =
        (y, record { before = []; after = ys; splits = refl; is = e; count = refl; id = rw e refl; stands = rw e refl; place = λ at. rw e (omega arith) })
    by behind true e (suc k) h = let there = behind k (omega arith) in (there.0, pass k there.0 there.1 e)
    by behind false e k h = let there = behind k h in (there.0, skip k there.0 there.1 e)

pub length-ids : (test : Body → Bool) (items : List Item) → length (ids_of test items) ≡ length (of_kind test items)
length-ids test items = length-map (of_kind test items) (λ (x : Item). x.id)

pub length-places : (test : Body → Bool) (at : ℕ) (items : List Item) → length (places test at items) ≡ length (of_kind test items)
length-places test at [] = refl
length-places test at (x ∷ xs) = by (length-places test (suc at) xs) (test x.body)
  where
    by : length (places test (suc at) xs) ≡ length (of_kind test xs) → (b : Bool) → length (cond b (at ∷ places test (suc at) xs) (places test (suc at) xs)) ≡ length (cond b (x ∷ of_kind test xs) (of_kind test xs))
    by behind true = ap suc behind
    by behind false = behind

-- what the k-th of a kind is in a well-formed list
abbrev pub nth-in : (test : Body → Bool) (items : List Item) (k : ℕ) (x : Item) → IsNth test items k x → IsIn items x
nth-in test items k x n = record { before = n.before; after = n.after; splits = n.splits }

pub nth-found : (test : Body → Bool) (items : List Item) (k : ℕ) (x : Item) → IsWellFormed items → IsNth test items k x → find_item items x.id ≡ Some x
nth-found test items k x w n = find_item-in items x w (nth-in test items k x n)

-- a kind's k-th item is of rank k in it, and stands behind the nodes before it
pub nth-rank : (test other : Body → Bool) (items : List Item) (k : ℕ) (x : Item) → IsWellFormed items → (n : IsNth test items k x) → kind_rank other items x.id ≡ length (of_kind other n.before)
nth-rank test other items k x w n =
    ap (λ (l : List Item). kind_rank other l x.id) n.splits ∙ rank-own other n.before n.after x (IsAccepted-at items x w (nth-in test items k x n)).fresh

-- the given word of an item is the one at its place
pub given-at : (test : Body → Bool) (items : List Item) (values : List ℕ) (id : ℕ) (y : Item) → find_item items id ≡ Some y → test y.body ≡ true
    → given_at test items (words_at values (map (slot items) (ids_of test items))) id ≡ get_or values (slot items id) 0
given-at test items values id y found is =
    let below : kind_rank test items id < length (ids_of test items) = omega (arith, rank-below test items id y found is, length-ids test items) in
    let below' : kind_rank test items id < length (map (slot items) (ids_of test items)) = omega (arith, length-map (ids_of test items) (slot items)) in
    get_or-map (λ (k : ℕ). get_or values k 0) (map (slot items) (ids_of test items)) (kind_rank test items id) 0 0 below'
    ∙ ap (λ (k : ℕ). get_or values k 0) (get_or-map (slot items) (ids_of test items) (kind_rank test items id) 0 0 below ∙ ap (slot items) (ids-rank test items id y found is))

-- what is found as a state is named as one, and what is found as an input is not
not_state : (b : Body) → is_input b ≡ true → is_state b ≡ false
not_state (body.Input s) h = refl
not_state _ h = absurd (cc)

named_by : (items : List Item) (id : ℕ) (y : Item) (b : Bool) → find_item items id ≡ Some y → is_state y.body ≡ b → names_state items id ≡ b
named_by items id y b found is =
    ap (λ (o : Option Item). is_some (option_and_then (λ (x : Item). cond (is_state x.body) (Some x) None) o)) found ∙ ap (λ (c : Bool). is_some (cond c (Some y) None)) is ∙ by b
  where
    by : (c : Bool) → is_some (cond c (Some y) None) ≡ c
    by true = refl
    by false = refl

-- in the frame of words of states and inputs a state has that of its list, and so has an input
pub state_leaf : (items : List Item) (states inputs : List ℕ) (id : ℕ) (y : Item) → find_item items id ≡ Some y → is_state y.body ≡ true → given_leaves items states inputs id ≡ given_at is_state items states id
state_leaf items states inputs id y found is = ap (λ (b : Bool). cond b (given_at is_state items states id) (given_at is_input items inputs id)) (named_by items id y true found is)

pub input_leaf : (items : List Item) (states inputs : List ℕ) (id : ℕ) (y : Item) → find_item items id ≡ Some y → is_input y.body ≡ true → given_leaves items states inputs id ≡ given_at is_input items inputs id
input_leaf items states inputs id y found is =
    ap (λ (b : Bool). cond b (given_at is_state items states id) (given_at is_input items inputs id)) (named_by items id y false found (not_state y.body is))

-- one of two words that are the same
pub either_word : (b : Bool) (x y word : ℕ) → x ≡ word → y ≡ word → cond b y x ≡ word
either_word true x y word e d = d
either_word false x y word e d = e
