-- Which piece of which word has an index among the pieces of words, and what is given to it by the pieces of what is given to words.
use Rattle.std.proofs.Common.{◌≡◌, ℕ, zero, suc, ◌+◌, ◌/◌, ◌%◌, ◌^◌, ◌<◌, ◌≤◌, Bool, true, false, cond, nat_eq, eq-eqb, eqb-true, lt-ltb, le-ltb, List, [], ◌∷◌, ◌++◌, flat_map, length, slice_index, Option, Some, None, option_map, find, inl, inr, ⊎_elim, ◌⊎◌, ◌==◌, append_assoc, refl, sym, ap, subst, ◌∙◌, arith}
use Rattle.std.specs.List.{AllByRecursion, list_any, position_from}
use Rattle.std.specs.Option.{option_or}
use Rattle.std.proofs.lemmas.Bool.{cases_Bool, cases_order, both_ways, false_from_ne_true}
use Rattle.std.proofs.lemmas.Option.{none-some, same_Some}
use Rattle.fit.proofs.ListLemmas.{AreDistinct, distinct_behind, apart}
use Rattle.witness.specs.Texts.{Assignment}
use Rattle.witness.specs.Judgements.{pairs_of, given}
use Rattle.rejoin.specs.Pieces.{piece_count, first_piece, owner, pieces_from, split_assignment, split_part}
use Rattle.rejoin.proofs.PlaceLemmas.{place_later, place_in_front, place_behind, place_own, place_passes, none_passes, suc_of}

-- ---- words and their pieces by index

-- lists have as many elements as words of these widths have pieces
abbrev pub HaveCounts : (ℕ → List ℕ) → List ℕ → List ℕ → Type 0
HaveCounts pieces ids [] = ids ≡ []
HaveCounts pieces [] (n ∷ ns) = ⊥
HaveCounts pieces (id ∷ ids) (n ∷ ns) = (length (pieces id) ≡ piece_count n) × HaveCounts pieces ids ns

-- the owner of a piece, and of one of later words
owner_first : (n : ℕ) (ns : List ℕ) (i : ℕ) → i < piece_count n → owner (n ∷ ns) i ≡ 0
owner_first n ns i h = rw (lt-ltb i (piece_count n) h) refl

owner_later : (n : ℕ) (ns : List ℕ) (i : ℕ) → owner (n ∷ ns) (piece_count n + i) ≡ suc (owner ns i)
owner_later n ns i = rw (le-ltb (piece_count n + i) (piece_count n) (omega arith)) (ap (λ (j : ℕ). suc (owner ns j)) (omega arith))

-- the pieces of a word stand before those of a later one
pub pieces_before : (ns : List ℕ) (a k : ℕ) → a < k → k < length ns → first_piece ns a + piece_count (slice_index ns a) ≤ first_piece ns k
pieces_before [] a k l h = absurd (omega (arith, h))
pieces_before (n ∷ ns) a zero l h = absurd (omega (arith, l))
pieces_before (n ∷ ns) zero (suc k) l h = omega arith
pieces_before (n ∷ ns) (suc a) (suc k) l h = omega (arith, pieces_before ns a k (omega (arith, l)) (omega (arith, h)))

-- ---- the first that passes

-- among later words, one further
next_of : (o : Option ℕ) (ns : List ℕ) (n : ℕ) → option_map (λ i. 1 + i) (option_map (owner ns) o) ≡ option_map (owner (n ∷ ns)) (option_map (λ i. piece_count n + i) o)
next_of None ns n = refl
next_of (Some i) ns n = ap (λ (j : ℕ). Some j) (omega (arith, owner_later n ns i))

-- The first list of which an element passes is the owner of the first element that does.
pub first_owner : (pieces : ℕ → List ℕ) (passes test : ℕ → Bool) (ids ns : List ℕ) → HaveCounts pieces ids ns → AllByRecursion (λ id. passes id ≡ list_any test (pieces id)) ids
    → position_from passes 0 ids ≡ option_map (owner ns) (position_from test 0 (flat_map pieces ids))
first_owner pieces passes test [] ns counts same = refl
first_owner pieces passes test (id ∷ ids) [] counts same = absurd (cc)
first_owner pieces passes test (id ∷ ids) (n ∷ ns) counts same =
    ⊎_elim
    (λ e.
    let found = place_in_front test 0 (pieces id) (flat_map pieces ids) e in
    ap (λ (b : Bool). cond b (Some 0) (position_from passes 1 ids)) (same.0 ∙ e)
    ∙ ap (λ (j : ℕ). Some j) (sym (owner_first n ns (0 + found.0) (omega (arith, found.1, counts.0)))) ∙ ap (option_map (owner (n ∷ ns))) (sym found.2))
    (λ e.
    ap (λ (b : Bool). cond b (Some 0) (position_from passes 1 ids)) (same.0 ∙ e)
    ∙ place_later passes 1 0 ids ∙ ap (option_map (λ i. 1 + i)) (first_owner pieces passes test ids ns counts.1 same.1)
    ∙ next_of (position_from test 0 (flat_map pieces ids)) ns n
    ∙ ap (option_map (owner (n ∷ ns))) (ap (λ (m : ℕ). option_map (λ i. m + i) (position_from test 0 (flat_map pieces ids))) (sym counts.0) ∙ sym (place_later test (length (pieces id)) 0 (flat_map pieces ids))
    ∙ ap (λ (m : ℕ). position_from test m (flat_map pieces ids)) (omega arith) ∙ sym (place_behind test 0 (pieces id) (flat_map pieces ids) e)))
    (cases_Bool (list_any test (pieces id)))

-- ---- the place of a piece

-- Among elements that stand once, one of the list of a node stands at the first index of that, and behind those before it there.
pub piece_place : (pieces : ℕ → List ℕ) (ids ns : List ℕ) (id k p : ℕ) (before after : List ℕ) → HaveCounts pieces ids ns → AreDistinct (flat_map pieces ids) → position_from (nat_eq id) 0 ids ≡ Some k
    → pieces id ≡ before ++ p ∷ after → position_from (nat_eq p) 0 (flat_map pieces ids) ≡ Some (first_piece ns k + length before)
piece_place pieces [] ns id k p before after counts distinct e splits = absurd (none-some k e)
piece_place pieces (x ∷ ids) [] id k p before after counts distinct e splits = absurd (cc)
piece_place pieces (x ∷ ids) (n ∷ ns) id k p before after counts distinct e splits =
    by (nat_eq id x) refl e (λ j found. piece_place pieces ids ns id j p before after counts.1 (distinct_behind (pieces x) (flat_map pieces ids) distinct) found splits)
  where
    rest : List ℕ
    rest = flat_map pieces ids

    own : id ≡ x → position_from (nat_eq p) 0 (pieces x ++ rest) ≡ Some (length before)
    own same =
        let whole : pieces x ++ rest ≡ before ++ p ∷ (after ++ rest) = ap (λ (l : List ℕ). l ++ rest) (ap pieces (sym same) ∙ splits) ∙ append_assoc before (p ∷ after) rest in
        let others = apart before (p ∷ (after ++ rest)) (subst AreDistinct whole distinct) in
        ap (position_from (nat_eq p) 0) whole ∙ place_own 0 p before (after ++ rest) others.0 ∙ ap (λ (m : ℕ). Some m) (omega arith)

    elsewhere : (j : ℕ) → position_from (nat_eq p) 0 rest ≡ Some j → position_from (nat_eq p) 0 (pieces x ++ rest) ≡ Some (piece_count n + j)
    elsewhere j found =
        let one = place_passes (λ y. AllByRecursion (λ z. nat_eq y z ≡ false) (pieces x)) (nat_eq p) 0 j rest (apart (pieces x) rest distinct) found in
        let others = subst (λ (y : ℕ). AllByRecursion (λ z. nat_eq y z ≡ false) (pieces x)) (sym (eqb-true p one.0 one.2)) one.1 in
        place_behind (nat_eq p) 0 (pieces x) rest (none_passes (nat_eq p) (pieces x) others) ∙ ap (λ (m : ℕ). position_from (nat_eq p) m rest) (omega (arith, counts.0))
        ∙ place_later (nat_eq p) (piece_count n) 0 rest ∙ ap (option_map (λ i. piece_count n + i)) found

    by : (b : Bool) → nat_eq id x ≡ b → cond b (Some 0) (position_from (nat_eq id) 1 ids) ≡ Some k
        → ((j : ℕ) → position_from (nat_eq id) 0 ids ≡ Some j → position_from (nat_eq p) 0 rest ≡ Some (first_piece ns j + length before))
        → position_from (nat_eq p) 0 (pieces x ++ rest) ≡ Some (first_piece (n ∷ ns) k + length before)
    by true t e more = own (eqb-true id x t) ∙ subst (λ (m : ℕ). Some (length before) ≡ Some (first_piece (n ∷ ns) m + length before)) (same_Some 0 k e) (ap (λ (m : ℕ). Some m) (omega arith))
    by false t e more =
        let later = suc_of (position_from (nat_eq id) 0 ids) k (sym (place_later (nat_eq id) 1 0 ids) ∙ e) in
        elsewhere (first_piece ns later.0 + length before) (more later.0 later.1)
        ∙ subst (λ (m : ℕ). Some (piece_count n + (first_piece ns later.0 + length before)) ≡ Some (first_piece (n ∷ ns) m + length before)) (sym later.2) (ap (λ (m : ℕ). Some m) (omega arith))

-- ---- what is given to a piece

-- the word of the piece of a word with an index among its pieces
abbrev pub piece_of : ℕ → ℕ → ℕ
piece_of zero x = x % 2 ^ 64
piece_of (suc i) x = piece_of i (x / 2 ^ 64)

-- of two parts, one behind the other
given_both : (list more : List Assignment) (k : ℕ) → given (pairs_of (list ++ more)) k ≡ option_or (given (pairs_of list) k) (given (pairs_of more) k)
given_both [] more k = refl
given_both (a ∷ list) more k = by (nat_eq a.index k) (given_both list more k)
  where
    by : (b : Bool) → given (pairs_of (list ++ more)) k ≡ option_or (given (pairs_of list) k) (given (pairs_of more) k)
        → option_map (λ (p : ℕ × ℕ). p.1) (cond b (Some (a.index, a.word)) (find (λ (p : ℕ × ℕ). p.0 == k) (pairs_of (list ++ more))))
        ≡ option_or (option_map (λ (p : ℕ × ℕ). p.1) (cond b (Some (a.index, a.word)) (find (λ (p : ℕ × ℕ). p.0 == k) (pairs_of list)))) (given (pairs_of more) k)
    by true rest = refl
    by false rest = rest

-- the pieces of a word give nothing to others
nothing_else : (j m x k : ℕ) → (k < j) ⊎ (j + m ≤ k) → given (pairs_of (pieces_from j m x)) k ≡ None
nothing_else j zero x k h = refl
nothing_else j (suc m) x k h =
    ap (λ (b : Bool). option_map (λ (p : ℕ × ℕ). p.1) (cond b (Some (j, x % 2 ^ 64)) (find (λ (p : ℕ × ℕ). p.0 == k) (pairs_of (pieces_from (suc j) m (x / 2 ^ 64))))))
    (false_from_ne_true (nat_eq j k) (λ e. ⊎_elim (λ (l : k < j). absurd (omega (arith, l, eqb-true j k e))) (λ (l : j + suc m ≤ k). absurd (omega (arith, l, eqb-true j k e))) h))
    ∙ nothing_else (suc j) m (x / 2 ^ 64) k (⊎_elim (λ l. inl (omega (arith, l))) (λ l. inr (omega (arith, l))) h)

-- and to each of theirs its word
piece_given : (j m x i k : ℕ) → i < m → k ≡ j + i → given (pairs_of (pieces_from j m x)) k ≡ Some (piece_of i x)
piece_given j zero x i k h e = absurd (omega (arith, h))
piece_given j (suc m) x zero k h e =
    ap (λ (b : Bool). option_map (λ (p : ℕ × ℕ). p.1) (cond b (Some (j, x % 2 ^ 64)) (find (λ (p : ℕ × ℕ). p.0 == k) (pairs_of (pieces_from (suc j) m (x / 2 ^ 64)))))) (eq-eqb j k (omega (arith, e)))
piece_given j (suc m) x (suc i) k h e =
    ap (λ (b : Bool). option_map (λ (p : ℕ × ℕ). p.1) (cond b (Some (j, x % 2 ^ 64)) (find (λ (p : ℕ × ℕ). p.0 == k) (pairs_of (pieces_from (suc j) m (x / 2 ^ 64))))))
    (false_from_ne_true (nat_eq j k) (λ t. absurd (omega (arith, e, eqb-true j k t))))
    ∙ piece_given (suc j) m (x / 2 ^ 64) i k (omega (arith, h)) (omega (arith, e))

-- the piece of one word is none of another's
apart_of : (ns : List ℕ) (a k i : ℕ) → a < length ns → k < length ns → i < piece_count (slice_index ns k) → nat_eq a k ≡ false
    → (first_piece ns k + i < first_piece ns a) ⊎ (first_piece ns a + piece_count (slice_index ns a) ≤ first_piece ns k + i)
apart_of ns a k i h l m e =
    ⊎_elim (λ same. absurd (both_ways (nat_eq a k) e (eq-eqb a k same)))
    (⊎_elim (λ before. inr (omega (arith, pieces_before ns a k before l))) (λ behind. inl (omega (arith, pieces_before ns k a behind h, m)))) (cases_order a k)

-- What is cut into pieces gives to a piece the piece of what it gives to the word, and nothing where it gives that nothing.
pub given_piece : (ns : List ℕ) (list : List Assignment) (k i : ℕ) → AllByRecursion (λ (a : Assignment). a.index < length ns) list → k < length ns → i < piece_count (slice_index ns k)
    → given (pairs_of (split_part ns list)) (first_piece ns k + i) ≡ option_map (piece_of i) (given (pairs_of list) k)
given_piece ns [] k i inside h l = refl
given_piece ns (a ∷ list) k i inside h l = given_both (split_assignment ns a) (split_part ns list) (first_piece ns k + i) ∙ by (nat_eq a.index k) refl (given_piece ns list k i inside.1 h l)
  where
    by : (b : Bool) → nat_eq a.index k ≡ b → given (pairs_of (split_part ns list)) (first_piece ns k + i) ≡ option_map (piece_of i) (given (pairs_of list) k)
        → option_or (given (pairs_of (split_assignment ns a)) (first_piece ns k + i)) (given (pairs_of (split_part ns list)) (first_piece ns k + i))
        ≡ option_map (piece_of i) (option_map (λ (p : ℕ × ℕ). p.1) (cond b (Some (a.index, a.word)) (find (λ (p : ℕ × ℕ). p.0 == k) (pairs_of list))))
    by true t rest =
        let same = eqb-true a.index k t in
        ap (λ (o : Option ℕ). option_or o (given (pairs_of (split_part ns list)) (first_piece ns k + i)))
        (ap (λ (j : ℕ). given (pairs_of (pieces_from (first_piece ns j) (piece_count (slice_index ns j)) a.word)) (first_piece ns k + i)) same
        ∙ piece_given (first_piece ns k) (piece_count (slice_index ns k)) a.word i (first_piece ns k + i) l refl)
    by false t rest =
        ap (λ (o : Option ℕ). option_or o (given (pairs_of (split_part ns list)) (first_piece ns k + i)))
        (nothing_else (first_piece ns a.index) (piece_count (slice_index ns a.index)) a.word (first_piece ns k + i) (apart_of ns a.index k i inside.0 h l t)) ∙ rest
