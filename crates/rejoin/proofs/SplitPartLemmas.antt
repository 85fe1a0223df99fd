-- What the pieces of what is given to words give to the pieces of a word.
use Rattle.std.proofs.Common.{◌≡◌, ℕ, suc, ◌+◌, ◌/◌, ◌^◌, ◌<◌, Bool, true, false, cond, nat_eq, eqb-true, ◌==◌, List, [], ◌∷◌, ◌++◌, map, filter, flat_map, length, slice_index, find, Option, Some, None, IfSome, option_map, option_and_then, append_assoc, refl, sym, ap, subst, ◌∙◌, arith}
use Rattle.std.specs.List.{AllByRecursion, position_from}
use Rattle.std.proofs.lemmas.List.{length-append, length-map}
use Rattle.btor2.specs.declared.item.Item.{Item}
use Rattle.btor2.specs.declared.item.Body.{Body}
use Rattle.btor2.specs.Lists.{of_kind}
use Rattle.btor2.specs.Trace.{Frame, bits_of}
use Rattle.fit.specs.Fitting.{Layout, ids_of}
use Rattle.fit.proofs.ListLemmas.{all_with, all_both, AreDistinct}
use Rattle.witness.specs.Texts.{Assignment, widths_of}
use Rattle.witness.specs.Judgements.{pairs_of, given, given_to}
use Rattle.rejoin.specs.Pieces.{piece_count, split_part}
use Rattle.rejoin.proofs.PlaceLemmas.{place_map, Stands, all_stand, at_place}
use Rattle.rejoin.proofs.PieceIndexLemmas.{HaveCounts, piece_place, piece_of, given_piece}
use Rattle.rejoin.proofs.CutWordLemmas.{ArePiecesOf, count_of_cut}
use Rattle.rejoin.proofs.LeafLemmas.{IsCutTo}
use Rattle.rejoin.proofs.ShapeLemmas.{map_ids}

-- ---- pieces of what is given

-- each piece of a word, counted from a place on, has the piece of what the word has
abbrev pub HavePieces : (ℕ → Option ℕ) → Option ℕ → ℕ → List ℕ → Type 0
HavePieces has o i [] = Unit {0}
HavePieces has o i (p ∷ ps) = (has p ≡ option_map (piece_of i) o) × HavePieces has o (suc i) ps

have_same : (has other : ℕ → Option ℕ) (o : Option ℕ) (i : ℕ) (ps : List ℕ) → ((p : ℕ) → other p ≡ has p) → HavePieces has o i ps → HavePieces other o i ps
have_same has other o i [] same h = tt
have_same has other o i (p ∷ ps) same h = (same p ∙ h.0, have_same has other o (suc i) ps same h.1)

-- where the word has none, no piece has one
pub have_none : (has : ℕ → Option ℕ) (i : ℕ) (ps : List ℕ) → HavePieces has None i ps → AllByRecursion (λ p. has p ≡ None) ps
have_none has i [] h = tt
have_none has i (p ∷ ps) h = (h.0, have_none has (suc i) ps h.1)

have_from : (has : ℕ → Option ℕ) (f : Frame) (x y i : ℕ) (ps : List ℕ) → HavePieces has (Some x) i ps → AllByRecursion (λ p. (v : ℕ) → has p ≡ Some v → f p ≡ v) ps → ((j : ℕ) → piece_of (i + j) x ≡ piece_of j y) → ArePiecesOf f y ps
have_from has f x y i [] h says same = tt
have_from has f x y i (p ∷ ps) h says same =
    let here : i ≡ i + 0 = omega arith in
    let later : (j : ℕ) → suc i + j ≡ i + suc j = λ j. omega arith in (
      says.0 (piece_of i x) h.0 ∙ ap (λ (m : ℕ). piece_of m x) here ∙ same 0,
      have_from has f x (y / 2 ^ 64) (suc i) ps h.1 says.1 (λ j. ap (λ (m : ℕ). piece_of m x) (later j) ∙ same (suc j)),
    )

-- where it has a word, the pieces have those of the word
pub have_word : (has : ℕ → Option ℕ) (f : Frame) (x : ℕ) (ps : List ℕ) → HavePieces has (Some x) 0 ps → AllByRecursion (λ p. (v : ℕ) → has p ≡ Some v → f p ≡ v) ps → ArePiecesOf f x ps
have_word has f x ps h says =
    let from : (j : ℕ) → 0 + j ≡ j = λ j. omega arith in
    have_from has f x x 0 ps h says (λ j. ap (λ (m : ℕ). piece_of m x) (from j))

-- ---- parts that are split

given_from : (layout : Layout) (ids ns : List ℕ) (list : List Assignment) (id k : ℕ) (front rest : List ℕ) → HaveCounts layout ids ns → AreDistinct (flat_map layout ids)
    → AllByRecursion (λ (a : Assignment). a.index < length ns) list → position_from (nat_eq id) 0 ids ≡ Some k → k < length ns → length (layout id) ≡ piece_count (slice_index ns k) → layout id ≡ front ++ rest
    → HavePieces (λ p. option_and_then (given (pairs_of (split_part ns list))) (position_from (nat_eq p) 0 (flat_map layout ids))) (given (pairs_of list) k) (length front) rest
given_from layout ids ns list id k front [] counts distinct inside at within count splits = tt
given_from layout ids ns list id k front (p ∷ rest) counts distinct inside at within count splits =
    let place = piece_place layout ids ns id k p front rest counts distinct at splits in
    let below : length front < piece_count (slice_index ns k) = omega (arith, count, ap length splits, length-append front (p ∷ rest)) in
    let more = given_from layout ids ns list id k (front ++ p ∷ []) rest counts distinct inside at within count (splits ∙ sym (append_assoc front (p ∷ []) rest)) in (
      ap (option_and_then (given (pairs_of (split_part ns list)))) place ∙ given_piece ns list k (length front) inside within below,
      subst (λ (m : ℕ). HavePieces (λ p. option_and_then (given (pairs_of (split_part ns list))) (position_from (nat_eq p) 0 (flat_map layout ids))) (given (pairs_of list) k) m rest) (omega (arith, length-append front (p ∷ []))) more,
    )

-- the index of an item of a kind, by its id
pub index_by_ids : (kind : Body → Bool) (items : List Item) (id : ℕ) → position_from (λ (x : Item). nat_eq id x.id) 0 (of_kind kind items) ≡ position_from (nat_eq id) 0 (ids_of (λ x. kind x.body) items)
index_by_ids kind items id = place_map (nat_eq id) (λ (x : Item). x.id) 0 (of_kind kind items)

-- the pieces of a leaf are given those of what it is given
abbrev pub SplitsAt : (Body → Bool) → List Item → Layout → List Item → List Assignment → ℕ → Type 0
SplitsAt kind wide layout narrow list id = HavePieces (given_to kind narrow (pairs_of (split_part (widths_of kind wide) list))) (given_to kind wide (pairs_of list) id) 0 (layout id)

pub part_splits : (kind : Body → Bool) (wide narrow : List Item) (layout : Layout) (list : List Assignment) → HaveCounts layout (ids_of (λ x. kind x.body) wide) (widths_of kind wide)
    → flat_map layout (ids_of (λ x. kind x.body) wide) ≡ ids_of (λ x. kind x.body) narrow → AreDistinct (ids_of (λ x. kind x.body) narrow) → AllByRecursion (IsCutTo wide layout narrow) (ids_of (λ x. kind x.body) wide)
    → AllByRecursion (λ (a : Assignment). a.index < length (widths_of kind wide)) list → AllByRecursion (SplitsAt kind wide layout narrow list) (ids_of (λ x. kind x.body) wide)
part_splits kind wide narrow layout list counts same distinct cuts inside =
    all_with (λ k. Stands ids k × IsCutTo wide layout narrow k) (SplitsAt kind wide layout narrow list) ids each (all_both (Stands ids) (IsCutTo wide layout narrow) ids (all_stand ids) cuts)
  where
    ids : List ℕ
    ids = ids_of (λ x. kind x.body) wide

    widths : widths_of kind wide ≡ map (bits_of wide) ids
    widths = map_ids (bits_of wide) (filter (λ x. kind x.body) wide)

    has : ℕ → Option ℕ
    has p = option_and_then (given (pairs_of (split_part (widths_of kind wide) list))) (position_from (nat_eq p) 0 (flat_map layout ids))

    each : (id : ℕ) → Stands ids id × IsCutTo wide layout narrow id → SplitsAt kind wide layout narrow list id
    each id h =
        let within : h.0.0 < length (widths_of kind wide) = omega (arith, h.0.1, ap length widths, length-map ids (bits_of wide)) in
        let width : slice_index (widths_of kind wide) h.0.0 ≡ bits_of wide id = ap (λ (l : List ℕ). slice_index l h.0.0) widths ∙ at_place (bits_of wide) ids id h.0.0 h.0.2 in
        let count = count_of_cut (bits_of narrow) (layout id) (bits_of wide id) h.1 ∙ ap piece_count (sym width) in
        have_same has (given_to kind narrow (pairs_of (split_part (widths_of kind wide) list))) (given_to kind wide (pairs_of list) id) 0 (layout id)
        (λ p. ap (option_and_then (given (pairs_of (split_part (widths_of kind wide) list)))) (index_by_ids kind narrow p ∙ ap (position_from (nat_eq p) 0) (sym same)))
        (subst (λ (o : Option ℕ). HavePieces has (option_and_then (given (pairs_of list)) o) 0 (layout id)) (sym (index_by_ids kind wide id ∙ h.0.2))
        (given_from layout ids (widths_of kind wide) list id h.0.0 [] (layout id) counts (subst AreDistinct (sym same) distinct) inside h.0.2 within count refl))

-- ---- words that are given fit

pub given_below : (ns : List ℕ) (list : List Assignment) (k : ℕ) → AllByRecursion (λ (a : Assignment). a.word < 2 ^ slice_index ns a.index) list → IfSome (given (pairs_of list) k) (λ x. x < 2 ^ slice_index ns k)
given_below ns [] k h = tt
given_below ns (a ∷ list) k h = by (nat_eq a.index k) refl (given_below ns list k h.1)
  where
    by : (b : Bool) → nat_eq a.index k ≡ b → IfSome (given (pairs_of list) k) (λ x. x < 2 ^ slice_index ns k)
        → IfSome (option_map (λ (p : ℕ × ℕ). p.1) (cond b (Some (a.index, a.word)) (find (λ (p : ℕ × ℕ). p.0 == k) (pairs_of list)))) (λ x. x < 2 ^ slice_index ns k)
    by true e rest = subst (λ (j : ℕ). a.word < 2 ^ slice_index ns j) (eqb-true a.index k e) h.0
    by false e rest = rest

pub given_fits : (kind : Body → Bool) (items : List Item) (list : List Assignment) (id : ℕ) → AllByRecursion (λ (a : Assignment). a.word < 2 ^ slice_index (widths_of kind items) a.index) list
    → IfSome (given_to kind items (pairs_of list) id) (λ x. x < 2 ^ bits_of items id)
given_fits kind items list id h = subst (λ (o : Option ℕ). IfSome (option_and_then (given (pairs_of list)) o) (λ x. x < 2 ^ bits_of items id)) (sym (index_by_ids kind items id)) (by (position_from (nat_eq id) 0 ids) refl)
  where
    ids : List ℕ
    ids = ids_of (λ x. kind x.body) items

    by : (o : Option ℕ) → position_from (nat_eq id) 0 ids ≡ o → IfSome (option_and_then (given (pairs_of list)) o) (λ x. x < 2 ^ bits_of items id)
    by None e = tt
    by (Some k) e =
        subst (λ (n : ℕ). IfSome (given (pairs_of list) k) (λ x. x < 2 ^ n)) (ap (λ (l : List ℕ). slice_index l k) (map_ids (bits_of items) (filter (λ x. kind x.body) items)) ∙ at_place (bits_of items) ids id k e)
        (given_below (widths_of kind items) list k h)
