-- The words that are joined of the pieces of leaves, by the ids of the leaves.
use Rattle.std.proofs.Common.{◌≡◌, ℕ, suc, ◌+◌, ◌*◌, ◌^◌, ◌<◌, nat_eq, eq-eqb, eqb-true, Bool, true, false, cond, List, [], ◌∷◌, ◌++◌, Option, Some, None, is_some, unwrap_or, option_and_then, length, map, flat_map, refl, sym, ap, ap₂, subst, ◌∙◌, append_assoc, arith}
use Rattle.std.specs.List.{AllByRecursion, position_from}
use Rattle.std.proofs.lemmas.Bool.{ne_eqb, or_parts}
use Rattle.std.proofs.lemmas.List.{map-append, length-map, length-append, take_at, drop_at}
use Rattle.base.specs.Operator.{concat_value}
use Rattle.btor2.specs.Trace.{Frame}
use Rattle.fit.specs.Fitting.{pieces_word}
use Rattle.fit.proofs.ListLemmas.{AreDistinct, apart}
use Rattle.pieces.specs.Cuts.{IsCut}
use Rattle.witness.specs.Texts.{Assignment}
use Rattle.witness.specs.Judgements.{pairs_of, given}
use Rattle.rejoin.specs.Pieces.{piece_count}
use Rattle.rejoin.proofs.PlaceLemmas.{place_own, place_later, suc_of}
use Rattle.unfit.specs.declared.told_pieces.Piece.{Piece}
use Rattle.unfit.specs.Joined.{any_told, joined_word, join_word, join_from, pieces_from}

-- the pieces with some ids, by what is told of each and what it has otherwise
abbrev pub piece_at : (ℕ → Option ℕ) → (ℕ → ℕ) → ℕ → Piece
piece_at has other p = record { told = has p; otherwise = other p }

abbrev pub pieces_at : (ℕ → Option ℕ) → (ℕ → ℕ) → List ℕ → List Piece
pieces_at has other ps = map (piece_at has other) ps

-- the word of each id where it has one
abbrev pub words_with : (ℕ → Option ℕ) → (ℕ → ℕ) → Frame
words_with has other p = unwrap_or (has p) (other p)

-- what is told by place is told by id
by_id_from : (told : List (ℕ × ℕ)) (other : ℕ → ℕ) (front rest : List ℕ) → AreDistinct (front ++ rest)
    → pieces_from told (length front) (map other rest) ≡ pieces_at (λ p. option_and_then (given told) (position_from (nat_eq p) 0 (front ++ rest))) other rest
by_id_from told other front [] distinct = refl
by_id_from told other front (p ∷ rest) distinct =
    let place : position_from (nat_eq p) 0 (front ++ p ∷ rest) ≡ Some (0 + length front) = place_own 0 p front rest (apart front (p ∷ rest) distinct).0 in
    let at : 0 + length front ≡ length front = omega arith in
    let moved : (front ++ p ∷ []) ++ rest ≡ front ++ p ∷ rest = append_assoc front (p ∷ []) rest in
    let count : length (front ++ p ∷ []) ≡ suc (length front) = omega (arith, length-append front (p ∷ [])) in
    let later : pieces_from told (suc (length front)) (map other rest) ≡ pieces_at (λ q. option_and_then (given told) (position_from (nat_eq q) 0 (front ++ p ∷ rest))) other rest =
    ap (λ (n : ℕ). pieces_from told n (map other rest)) (sym count) ∙ by_id_from told other (front ++ p ∷ []) rest (subst AreDistinct (sym moved) distinct)
    ∙ ap (λ (l : List ℕ). pieces_at (λ q. option_and_then (given told) (position_from (nat_eq q) 0 l)) other rest) moved in
    ap₂ (λ (o : Option ℕ) (ps : List Piece). let q : Piece = record { told = o; otherwise = other p } in q ∷ ps) (sym (ap (option_and_then (given told)) place ∙ ap (given told) at)) later

pub by_id : (told : List (ℕ × ℕ)) (other : ℕ → ℕ) (ids : List ℕ) → AreDistinct ids → pieces_from told 0 (map other ids) ≡ pieces_at (λ p. option_and_then (given told) (position_from (nat_eq p) 0 ids)) other ids
by_id told other ids distinct = by_id_from told other [] ids distinct

-- ---- the words of leaves

abbrev pub words_at : (ℕ → Option (List ℕ)) → (ℕ → List Piece) → ℕ → List ℕ → List Assignment
words_at name of k [] = []
words_at name of k (id ∷ ids) = join_word (name k) k (of id) ++ words_at name of (suc k) ids

pub joined_by_id : (name : ℕ → Option (List ℕ)) (layout : ℕ → List ℕ) (bits : ℕ → ℕ) (has : ℕ → Option ℕ) (other : ℕ → ℕ) (k : ℕ) (ids : List ℕ) → AllByRecursion (λ id. length (layout id) ≡ piece_count (bits id)) ids
    → join_from name k (map bits ids) (pieces_at has other (flat_map layout ids)) ≡ words_at name (λ id. pieces_at has other (layout id)) k ids
joined_by_id name layout bits has other k [] counts = refl
joined_by_id name layout bits has other k (id ∷ ids) counts =
    let here : List Piece = pieces_at has other (layout id) in
    let rest : List Piece = pieces_at has other (flat_map layout ids) in
    let both : pieces_at has other (layout id ++ flat_map layout ids) ≡ here ++ rest = map-append (piece_at has other) (layout id) (flat_map layout ids) in
    let many : length here ≡ piece_count (bits id) = length-map (layout id) (piece_at has other) ∙ counts.0 in
    ap (λ (ps : List Piece). join_from name k (bits id ∷ map bits ids) ps) both
    ∙ ap₂ (λ (a b : List Piece). join_word (name k) k a ++ join_from name (suc k) (map bits ids) b) (take_at here rest (piece_count (bits id)) many) (drop_at here rest (piece_count (bits id)) many)
    ∙ ap (λ (l : List Assignment). join_word (name k) k here ++ l) (joined_by_id name layout bits has other (suc k) ids counts.1)

-- ---- what is given to a leaf

-- the word of a leaf of which a piece is told
abbrev pub told_word : List Piece → Option ℕ
told_word pieces = cond (any_told pieces) (Some (joined_word pieces)) None

other_word : (name : Option (List ℕ)) (k i : ℕ) (pieces : List Piece) (more : List Assignment) → (k ≡ i → ⊥) → given (pairs_of (join_word name k pieces ++ more)) i ≡ given (pairs_of more) i
other_word name k i pieces more apart = by (any_told pieces)
  where
    by : (b : Bool) → given (pairs_of (cond b (record { index = k; word = joined_word pieces; symbol = name } ∷ []) [] ++ more)) i ≡ given (pairs_of more) i
    by true = rw (ne_eqb k i apart) refl
    by false = refl

own_word : (name : Option (List ℕ)) (k : ℕ) (pieces : List Piece) (more : List Assignment) → given (pairs_of more) k ≡ None → given (pairs_of (join_word name k pieces ++ more)) k ≡ told_word pieces
own_word name k pieces more none = by (any_told pieces)
  where
    by : (b : Bool) → given (pairs_of (cond b (record { index = k; word = joined_word pieces; symbol = name } ∷ []) [] ++ more)) k ≡ cond b (Some (joined_word pieces)) None
    by true = rw (eq-eqb k k refl) refl
    by false = none

none_before : (name : ℕ → Option (List ℕ)) (of : ℕ → List Piece) (k i : ℕ) (ids : List ℕ) → i < k → given (pairs_of (words_at name of k ids)) i ≡ None
none_before name of k i [] h = refl
none_before name of k i (id ∷ ids) h = other_word (name k) k i (of id) (words_at name of (suc k) ids) (λ e. omega (arith, h, e)) ∙ none_before name of (suc k) i ids (omega (arith, h))

given_at_from : (name : ℕ → Option (List ℕ)) (of : ℕ → List Piece) (k j id : ℕ) (ids : List ℕ) → position_from (nat_eq id) 0 ids ≡ Some j → given (pairs_of (words_at name of k ids)) (k + j) ≡ told_word (of id)
given_at_from name of k j id [] e = absurd (cc)
given_at_from name of k j id (x ∷ ids) e = by (nat_eq id x) refl e (λ i later. given_at_from name of (suc k) i id ids later)
  where
    by : (b : Bool) → nat_eq id x ≡ b → cond b (Some 0) (position_from (nat_eq id) 1 ids) ≡ Some j → ((i : ℕ) → position_from (nat_eq id) 0 ids ≡ Some i → given (pairs_of (words_at name of (suc k) ids)) (suc k + i) ≡ told_word (of id))
        → given (pairs_of (join_word (name k) k (of x) ++ words_at name of (suc k) ids)) (k + j) ≡ told_word (of id)
    by true t e more =
        let first : 0 ≡ j = cc in
        let at : k + j ≡ k = omega (arith, first) in
        ap (given (pairs_of (join_word (name k) k (of x) ++ words_at name of (suc k) ids))) at
        ∙ own_word (name k) k (of x) (words_at name of (suc k) ids) (none_before name of (suc k) k ids (omega arith))
        ∙ ap (λ (y : ℕ). told_word (of y)) (sym (eqb-true id x t))
    by false t e more =
        let later = suc_of (position_from (nat_eq id) 0 ids) j (sym (place_later (nat_eq id) 1 0 ids) ∙ e) in
        let at : k + j ≡ suc k + later.0 = omega (arith, later.2) in
        other_word (name k) k (k + j) (of x) (words_at name of (suc k) ids) (λ e. omega (arith, later.2, e)) ∙ ap (given (pairs_of (words_at name of (suc k) ids))) at ∙ more later.0 later.1

pub given_at : (name : ℕ → Option (List ℕ)) (of : ℕ → List Piece) (j id : ℕ) (ids : List ℕ) → position_from (nat_eq id) 0 ids ≡ Some j → given (pairs_of (words_at name of 0 ids)) j ≡ told_word (of id)
given_at name of j id ids e = let at : j ≡ 0 + j = omega arith in ap (given (pairs_of (words_at name of 0 ids))) at ∙ given_at_from name of 0 j id ids e

-- ---- words of pieces

-- they are those that the pieces make one behind the other
pub word_of_ids : (width : ℕ → ℕ) (has : ℕ → Option ℕ) (other : ℕ → ℕ) (ps : List ℕ) → IsCut 64 (map width ps) → joined_word (pieces_at has other ps) ≡ pieces_word width (words_with has other) ps
word_of_ids width has other [] cut = refl
word_of_ids width has other (p ∷ []) cut = omega arith
word_of_ids width has other (p ∷ q ∷ qs) cut =
    let low : ℕ = words_with has other p in
    ap (λ (high : ℕ). low + 2 ^ 64 * high) (word_of_ids width has other (q ∷ qs) cut.1)
    ∙ (let turned : low + 2 ^ 64 * pieces_word width (words_with has other) (q ∷ qs) ≡ concat_value (pieces_word width (words_with has other) (q ∷ qs)) 64 low = omega arith in turned)
    ∙ ap (λ (n : ℕ). concat_value (pieces_word width (words_with has other) (q ∷ qs)) n low) (sym cut.0)

-- where none is told, none has a word
pub none_told : (has : ℕ → Option ℕ) (other : ℕ → ℕ) (ps : List ℕ) → any_told (pieces_at has other ps) ≡ false → AllByRecursion (λ p. has p ≡ None) ps
none_told has other [] none = tt
none_told has other (p ∷ ps) none =
    let parts = or_parts (is_some (has p)) (any_told (pieces_at has other ps)) none in
    (by (has p) parts.0, none_told has other ps parts.1)
  where
    by : (o : Option ℕ) → is_some o ≡ false → o ≡ None
    by None e = refl
    by (Some x) e = absurd (cc)
