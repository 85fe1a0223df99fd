-- The pieces of words: what is told of them, one by one.
use Rattle.std.proofs.Common.{◌≡◌, ℕ, zero, suc, ◌+◌, ◌<◌, ◌≤◌, ◌==◌, Bool, false, cond, List, [], ◌∷◌, ◌++◌, Option, Some, None, unwrap_or, option_map, option_and_then, length, map, take, drop, replicate, get_or, set, refl, sym, ap, ap₂, ◌∙◌, arith, inl, inr}
use Rattle.std.proofs.lemmas.Bool.{or_parts, cases_eq, eq-eqb, ne_eqb}
use Rattle.std.proofs.lemmas.List.{get_or-map, length-map, map_more, take_all, replicate_more, length-append, length-take-le, length-drop, get_or_default}
use Rattle.std.proofs.lemmas.List.Edits.{map_over_more}
use Rattle.std.proofs.lemmas.Option.{get_or_from_slice_get}
use Rattle.btor2.specs.declared.item.Item.{Item}
use Rattle.btor2.specs.Items.{is_input, is_state, init_value, init_word, position_of}
use Rattle.btor2.proofs.LookUps.{init_some, init_none}
use Rattle.btor2.specs.Lists.{of_kind, places, init_place, constant_at}
use Rattle.runs.proofs.RankLemmas.{IsNth, nth, length-ids, length-places}
use Rattle.runs.proofs.StateLemmas.{init_at, init_inside}
use Rattle.witness.specs.Texts.{Assignment}
use Rattle.witness.specs.Judgements.{pairs_of, given}
use Rattle.witness.proofs.AssignmentLemmas.{stands_in}
use Rattle.unfit.specs.declared.told_pieces.Piece.{Piece}
use Rattle.unfit.specs.Joined.{pieces_from, state_words, input_words}
use Rattle.unfit.specs.Steps.{told_at, untold}

-- a piece of which nothing is told
abbrev pub fresh : ℕ → Piece
fresh x = record { told = None; otherwise = x }

pub pieces_fresh : (i : ℕ) (xs : List ℕ) → pieces_from [] i xs ≡ map fresh xs
pieces_fresh i [] = refl
pieces_fresh i (x ∷ xs) = ap (λ (ps : List Piece). fresh x ∷ ps) (pieces_fresh (suc i) xs)

pub length-pieces : (told : List (ℕ × ℕ)) (i : ℕ) (xs : List ℕ) → length (pieces_from told i xs) ≡ length xs
length-pieces told i [] = refl
length-pieces told i (x ∷ xs) = ap (λ (n : ℕ). suc n) (length-pieces told (suc i) xs)

-- ---- writes

pub told_is_set : (ps : List Piece) (i x : ℕ) (d : Piece) → i < length ps → set ps i (record { told = Some x; otherwise = (get_or ps i d).otherwise }) ≡ told_at ps i x
told_is_set [] i x d h = absurd (omega arith)
told_is_set (p ∷ ps) zero x d h = refl
told_is_set (p ∷ ps) (suc i) x d h = ap (λ (l : List Piece). p ∷ l) (told_is_set ps i x d (omega arith))

pub told_past : (ps : List Piece) (i x : ℕ) → length ps ≤ i → ps ≡ told_at ps i x
told_past [] i x h = refl
told_past (p ∷ ps) zero x h = absurd (omega arith)
told_past (p ∷ ps) (suc i) x h = ap (λ (l : List Piece). p ∷ l) (told_past ps i x (omega arith))

-- nothing is told any more
pub all_untold : (told : List (ℕ × ℕ)) (i : ℕ) (xs : List ℕ) → untold (pieces_from told i xs) ≡ pieces_from [] i xs
all_untold told i [] = refl
all_untold told i (x ∷ xs) = ap (λ (ps : List Piece). fresh x ∷ ps) (all_untold told (suc i) xs)

-- ---- one assignment more

given_new : (list : List Assignment) (a : Assignment) → stands_in a.index list ≡ false → given (pairs_of (list ++ a ∷ [])) a.index ≡ Some a.word
given_new [] a h = ap (λ (b : Bool). option_map (λ (p : ℕ × ℕ). p.1) (cond b (Some (a.index, a.word)) None)) (eq-eqb a.index a.index refl)
given_new (b ∷ list) a h =
    let parts = or_parts (b.index == a.index) (stands_in a.index list) h in
    rw parts.0 (given_new list a parts.1)

given_other : (list : List Assignment) (a : Assignment) (k : ℕ) → (a.index ≡ k → ⊥) → given (pairs_of (list ++ a ∷ [])) k ≡ given (pairs_of list) k
given_other [] a k n = rw (ne_eqb a.index k n) refl
given_other (b ∷ list) a k n =
    elim (cases_eq b.index k) [
      | inl e ↦ rw (eq-eqb b.index k e) refl
      | inr m ↦ rw (ne_eqb b.index k m) (given_other list a k n)
    ]

-- the pieces behind that of the assignment
others_same : (list : List Assignment) (a : Assignment) (i : ℕ) (xs : List ℕ) → a.index < i → pieces_from (pairs_of (list ++ a ∷ [])) i xs ≡ pieces_from (pairs_of list) i xs
others_same list a i [] h = refl
others_same list a i (x ∷ xs) h = ap₂ (λ (t : Option ℕ) (ps : List Piece). let p : Piece = record { told = t; otherwise = x } in p ∷ ps) (given_other list a i (λ e. omega (arith, h, e))) (others_same list a (suc i) xs (omega (arith, h)))

told_more_from : (list : List Assignment) (a : Assignment) (i k : ℕ) (xs : List ℕ) → a.index ≡ i + k → stands_in a.index list ≡ false → told_at (pieces_from (pairs_of list) i xs) k a.word ≡ pieces_from (pairs_of (list ++ a ∷ [])) i xs
told_more_from list a i k [] at new = refl
told_more_from list a i zero (x ∷ xs) at new =
    let here : a.index ≡ i = omega (arith, at) in
    ap₂ (λ (t : Option ℕ) (ps : List Piece). let p : Piece = record { told = t; otherwise = x } in p ∷ ps) (sym (given_new list a new) ∙ ap (given (pairs_of (list ++ a ∷ []))) here) (sym (others_same list a (suc i) xs (omega (arith, here))))
told_more_from list a i (suc k) (x ∷ xs) at new =
    ap₂ (λ (t : Option ℕ) (ps : List Piece). let p : Piece = record { told = t; otherwise = x } in p ∷ ps) (sym (given_other list a i (λ e. omega (arith, at, e)))) (told_more_from list a (suc i) k xs (omega (arith, at)) new)

pub told_more : (list : List Assignment) (a : Assignment) (xs : List ℕ) → stands_in a.index list ≡ false → told_at (pieces_from (pairs_of list) 0 xs) a.index a.word ≡ pieces_from (pairs_of (list ++ a ∷ [])) 0 xs
told_more list a xs new = told_more_from list a 0 a.index xs (omega arith) new

-- ---- of a model

pub state_count : (items : List Item) → length (state_words items) ≡ length (places is_state 0 items)
state_count items = length-map (of_kind is_state items) (λ x. unwrap_or (init_word items x.id) 0) ∙ sym (length-places is_state 0 items)

pub input_more : (ps qs : List Piece) (k : ℕ) → ps ≡ replicate k (fresh 0) → qs ≡ ps ++ fresh 0 ∷ [] → qs ≡ replicate (k + 1) (fresh 0)
input_more ps qs k is e = e ∙ ap (λ (l : List Piece). l ++ fresh 0 ∷ []) is ∙ replicate_more k (fresh 0)

pub state_more : (items : List Item) (ps qs : List Piece) (k x : ℕ) → k < length (places is_state 0 items) → ps ≡ map fresh (take k (state_words items)) → x ≡ get_or (state_words items) k 0 → qs ≡ ps ++ fresh x ∷ [] → qs ≡ map fresh (take (k + 1) (state_words items))
state_more items ps qs k x h is at e =
    e ∙ ap₂ (λ (l : List Piece) (y : ℕ). l ++ fresh y ∷ []) is at ∙ sym (map_more fresh (state_words items) k 0 (omega (arith, h, state_count items)))

pub all_states : (items : List Item) (ps : List Piece) (k : ℕ) → length (places is_state 0 items) ≤ k → ps ≡ map fresh (take k (state_words items)) → ps ≡ pieces_from [] 0 (state_words items)
all_states items ps k h is = is ∙ ap (map fresh) (take_all k (state_words items) (omega (arith, h, state_count items))) ∙ sym (pieces_fresh 0 (state_words items))

pub fresh_inputs : (items : List Item) → replicate (length (places is_input 0 items)) (fresh 0) ≡ pieces_from [] 0 (input_words items)
fresh_inputs items = ap (λ (n : ℕ). replicate n (fresh 0)) (length-places is_input 0 items) ∙ by 0 (of_kind is_input items)
  where
    by : (i : ℕ) (xs : List Item) → replicate (length xs) (fresh 0) ≡ pieces_from [] i (map (λ x. 0) xs)
    by i [] = refl
    by i (x ∷ xs) = ap (λ (ps : List Piece). fresh 0 ∷ ps) (by (suc i) xs)

module _ (items : List Item) (k : ℕ) (h : k < length (places is_state 0 items)) where
  inside : k < length (of_kind is_state items)
  inside = omega (arith, h, length-places is_state 0 items)

  own_place : (x : Item) → IsNth is_state items k x → init_place items (get_or (places is_state 0 items) k 0) ≡ option_and_then (position_of items) (init_value items x.id)
  own_place x n = init_at items k (omega (arith, h, length-ids is_state items, length-places is_state 0 items)) ∙ ap (λ (i : ℕ). option_and_then (position_of items) (init_value items i)) n.id

  own_word : (x : Item) → IsNth is_state items k x → get_or (state_words items) k 0 ≡ unwrap_or (init_word items x.id) 0
  own_word x n =
      get_or-map (λ (x : Item). unwrap_or (init_word items x.id) 0) (of_kind is_state items) k x 0 inside
      ∙ ap (λ (y : Item). unwrap_or (init_word items y.id) 0) (get_or_from_slice_get (of_kind is_state items) k x x n.stands)

  pub init_place_inside : (place : ℕ) → Some place ≡ init_place items (get_or (places is_state 0 items) k 0) → place < length items
  init_place_inside place e = init_inside items k place (omega (arith, h, length-ids is_state items, length-places is_state 0 items)) e

  pub word_of_init : (place : ℕ) (o : Option ℕ) → Some place ≡ init_place items (get_or (places is_state 0 items) k 0) → o ≡ constant_at items place → unwrap_or o 0 ≡ get_or (state_words items) k 0
  word_of_init place o e is =
      let there = nth is_state items k inside in
      ap (λ (p : Option ℕ). unwrap_or p 0) (is ∙ (init_some items (init_value items there.0.id) place (sym (own_place there.0 there.1) ∙ sym e)).0) ∙ sym (own_word there.0 there.1)

  pub word_without_init : None ≡ init_place items (get_or (places is_state 0 items) k 0) → 0 ≡ get_or (state_words items) k 0
  word_without_init e =
      let there = nth is_state items k inside in
      ap (λ (p : Option ℕ). unwrap_or p 0) (sym (init_none items (init_value items there.0.id) (sym (own_place there.0 there.1) ∙ sym e))) ∙ sym (own_word there.0 there.1)

pub untold_more : (xs ys : List Piece) (i : ℕ) (d : Piece) → i < length xs → ys ≡ untold (take i xs) ++ drop i xs → set ys i (record { told = None; otherwise = (get_or ys i d).otherwise }) ≡ untold (take (i + 1) xs) ++ drop (i + 1) xs
untold_more xs ys i d h is =
    let many : length ys ≡ length xs = ap length is ∙ length-append (untold (take i xs)) (drop i xs) ∙ omega (arith, length-map {B = Piece} (take i xs) (λ (p : Piece). record { told = None; otherwise = p.otherwise }), length-take-le i xs (omega (arith, h)), length-drop i xs) in
    map_over_more (λ (p : Piece). record { told = None; otherwise = p.otherwise }) xs ys i (get_or ys i d) h is (get_or_default ys i d (get_or ys i d) (omega (arith, h, many)))
