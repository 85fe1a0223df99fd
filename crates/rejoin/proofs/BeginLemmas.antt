-- The words that states begin with, and those of their pieces: where the one differs from its init line, one of the others does.
use Rattle.std.proofs.Common.{◌≡◌, ℕ, ◌+◌, ◌*◌, ◌^◌, ◌<◌, Bool, true, false, not, ◌||◌, nat_eq, eq-eqb, eqb-true, List, [], ◌∷◌, Option, Some, None, is_some, unwrap_or, option_map, option_and_then, inl, inr, ◌⊎◌, refl, sym, ap, ap₂, subst, ◌∙◌}
use Rattle.std.specs.List.{AllByRecursion, list_any, position_from}
use Rattle.std.proofs.lemmas.Bool.{both_ways, false_from_ne_true}
use Rattle.std.proofs.lemmas.Nat.{same_from_place}
use Rattle.btor2.specs.declared.item.Item.{Item}
use Rattle.btor2.specs.Items.{is_state, is_free, constant_of, init_value, init_word}
use Rattle.wide.specs.WideModels.{greatest_width, IsWideModel}
use Rattle.btor2.specs.Lists.{of_kind}
use Rattle.btor2.specs.Trace.{Frame, bits_of, IsState}
use Rattle.btor2.proofs.InitLemmas.{init_not_free}
use Rattle.fit.specs.Fitting.{Layout, pieces_word, joined, init_words, given_ids, carried_ids, AbsenceIsCarried, IsFittingOf}
use Rattle.fit.proofs.ListLemmas.{all_with, all_both, all_pieces}
use Rattle.fit.proofs.PieceLemmas.{word_zero}
use Rattle.fit.proofs.FrameLemmas.{FitAt, state_to_ids}
use Rattle.fit.proofs.LawLemmas.{init_says}
use Rattle.fit.proofs.ModelLemmas.{given_are_free, init_words_fit}
use Rattle.witness.specs.Texts.{widths_of}
use Rattle.witness.specs.Judgements.{differs, first_different}
use Rattle.rejoin.specs.Pieces.{owner}
use Rattle.fitting.specs.Models.{state_ids, IsFit}
use Rattle.rejoin.proofs.PlaceLemmas.{place_map, none_passes}
use Rattle.rejoin.proofs.PieceIndexLemmas.{first_owner}
use Rattle.rejoin.proofs.LeafLemmas.{states_from}
use Rattle.rejoin.proofs.ShapeLemmas.{state_counts}

-- ---- init lines

-- a state and its pieces have none, or those of the pieces give words that make the one of the state's
abbrev pub InitsAgree : List Item → Layout → List Item → ℕ → Type 0
InitsAgree wide layout narrow k =
    ((init_word wide k ≡ None) × AllByRecursion (λ p. init_word narrow p ≡ None) (layout k))
    ⊎ ((init_word wide k ≡ Some (joined narrow layout (init_words narrow) k)) × AllByRecursion (λ p. is_some (init_word narrow p) ≡ true) (layout k))

no_word : (items : List Item) (k : ℕ) → init_value items k ≡ None → init_word items k ≡ None
no_word items k e = ap (option_and_then (constant_of items)) e

-- a free state has none
free_has_none : (items : List Item) (k : ℕ) → is_free items k ≡ true → init_word items k ≡ None
free_has_none items k h = by (init_value items k) refl
  where
    by : (o : Option ℕ) → init_value items k ≡ o → init_word items k ≡ None
    by None e = no_word items k e
    by (Some v) e = absurd (both_ways (is_free items k) (init_not_free items k v e) h)

agree_by : (wide narrow : List Item) (layout : Layout) (k : ℕ) (o : Option ℕ) → IsFittingOf wide layout narrow → AbsenceIsCarried wide layout narrow k → init_value wide k ≡ o → InitsAgree wide layout narrow k
agree_by wide narrow layout k None fit absent e = inl (no_word wide k e, all_with (λ p. init_value narrow p ≡ None) (λ p. init_word narrow p ≡ None) (layout k) (no_word narrow) (absent e))
agree_by wide narrow layout k (Some v) fit absent e =
    let says = init_says wide narrow layout wide k v fit.inits e in
    inr (ap (option_and_then (constant_of wide)) e ∙ says.1, says.0)

pub inits_agree : (wide narrow : List Item) (layout : Layout) → IsFittingOf wide layout narrow → AllByRecursion (InitsAgree wide layout narrow) (carried_ids wide)
inits_agree wide narrow layout fit =
    all_with (AbsenceIsCarried wide layout narrow) (InitsAgree wide layout narrow) (carried_ids wide) (λ k absent. agree_by wide narrow layout k (init_value wide k) fit absent refl) fit.no_other_inits

-- the words that a state begins with where nothing else is said
pub begins_alike : (wide narrow : List Item) (layout : Layout) (k : ℕ) → InitsAgree wide layout narrow k → joined narrow layout (init_words narrow) k ≡ init_words wide k
begins_alike wide narrow layout k (inl none) =
    word_zero (bits_of narrow) (init_words narrow) (layout k) (all_with (λ p. init_word narrow p ≡ None) (λ p. init_words narrow p ≡ 0) (layout k) (λ p e. ap (λ (o : Option ℕ). unwrap_or o 0) e) none.1)
    ∙ ap (λ (o : Option ℕ). unwrap_or o 0) (sym none.0)
begins_alike wide narrow layout k (inr some) = ap (λ (o : Option ℕ). unwrap_or o 0) (sym some.0)

-- ---- words that differ

-- numbers of two digits differ where one of the digits does
digits_differ : (a b c d w : ℕ) → b < w → d < w → not (nat_eq (a * w + b) (c * w + d)) ≡ (not (nat_eq b d) || not (nat_eq a c))
digits_differ a b c d w h k = by (nat_eq b d) refl (nat_eq a c) refl
  where
    other : ((a ≡ c) × (b ≡ d) → ⊥) → not (nat_eq (a * w + b) (c * w + d)) ≡ true
    other apart = ap not (false_from_ne_true (nat_eq (a * w + b) (c * w + d)) (λ e. apart (same_from_place a b c d w h k (eqb-true (a * w + b) (c * w + d) e))))

    by : (low : Bool) → nat_eq b d ≡ low → (high : Bool) → nat_eq a c ≡ high → not (nat_eq (a * w + b) (c * w + d)) ≡ (not low || not high)
    by true e true t = ap not (eq-eqb (a * w + b) (c * w + d) (ap₂ (λ (x y : ℕ). x * w + y) (eqb-true a c t) (eqb-true b d e)))
    by true e false t = other (λ same. both_ways (nat_eq a c) t (eq-eqb a c same.0))
    by false e high t = other (λ same. both_ways (nat_eq b d) e (eq-eqb b d same.1))

differs_some : (o : Option ℕ) (x : ℕ) → is_some o ≡ true → not (nat_eq (unwrap_or o 0) x) ≡ differs o x
differs_some None x h = absurd (cc)
differs_some (Some c) x h = refl

-- a word that pieces make differs from another where a piece does
abbrev differs_at : List Item → Frame → ℕ → Bool
differs_at items f k = differs (init_word items k) (f k)

pieces_differ : (narrow : List Item) (t : Frame) (ps : List ℕ) → IsWideModel greatest_width narrow → AllByRecursion (λ p. is_some (init_word narrow p) ≡ true) ps → FitAt narrow t ps
    → not (nat_eq (pieces_word (bits_of narrow) (init_words narrow) ps) (pieces_word (bits_of narrow) t ps)) ≡ list_any (differs_at narrow t) ps
pieces_differ narrow t [] w there fits = refl
pieces_differ narrow t (p ∷ ps) w there fits =
    digits_differ (pieces_word (bits_of narrow) (init_words narrow) ps) (init_words narrow p) (pieces_word (bits_of narrow) t ps) (t p) (2 ^ bits_of narrow p) (init_words_fit narrow p w) fits.0
    ∙ ap₂ ◌||◌ (differs_some (init_word narrow p) (t p) there.0) (pieces_differ narrow t ps w there.1 fits.1)

none_differs : (narrow : List Item) (t : Frame) (ps : List ℕ) → AllByRecursion (λ p. init_word narrow p ≡ None) ps → list_any (differs_at narrow t) ps ≡ false
none_differs narrow t ps h = none_passes (differs_at narrow t) ps (all_with (λ p. init_word narrow p ≡ None) (λ p. differs_at narrow t p ≡ false) ps (λ p e. ap (λ (o : Option ℕ). differs o (t p)) e) h)

-- a state's word differs from that of its init line where that of a piece does
abbrev DiffersAlike : List Item → Layout → List Item → Frame → Frame → ℕ → Type 0
DiffersAlike wide layout narrow s t k = differs_at wide s k ≡ list_any (differs_at narrow t) (layout k)

carried_differs : (wide narrow : List Item) (layout : Layout) (s t : Frame) (k : ℕ) → IsWideModel greatest_width narrow → joined narrow layout t k ≡ s k → FitAt narrow t (layout k) → InitsAgree wide layout narrow k
    → DiffersAlike wide layout narrow s t k
carried_differs wide narrow layout s t k w same fits (inl none) = ap (λ (o : Option ℕ). differs o (s k)) none.0 ∙ sym (none_differs narrow t (layout k) none.1)
carried_differs wide narrow layout s t k w same fits (inr some) =
    ap₂ differs some.0 (sym same) ∙ pieces_differ narrow t (layout k) w some.1 fits

free_differs : (wide narrow : List Item) (layout : Layout) (s t : Frame) (k : ℕ) → AllByRecursion (λ p. is_free narrow p ≡ true) (layout k) → is_free wide k ≡ true → DiffersAlike wide layout narrow s t k
free_differs wide narrow layout s t k pieces h =
    ap (λ (o : Option ℕ). differs o (s k)) (free_has_none wide k h)
    ∙ sym (none_differs narrow t (layout k) (all_with (λ p. is_free narrow p ≡ true) (λ p. init_word narrow p ≡ None) (layout k) (free_has_none narrow) pieces))

abbrev Carried : List Item → Layout → List Item → Frame → Frame → ℕ → Type 0
Carried wide layout narrow s t k = (joined narrow layout t k ≡ s k) × (FitAt narrow t (layout k) × InitsAgree wide layout narrow k)

all_differ : (wide narrow : List Item) (layout : Layout) → IsFittingOf wide layout narrow → (s t : Frame) → AllByRecursion (λ k. joined narrow layout t k ≡ s k) (carried_ids wide) → IsState narrow t
    → AllByRecursion (DiffersAlike wide layout narrow s t) (state_ids wide)
all_differ wide narrow layout fit s t same state =
    states_from wide (DiffersAlike wide layout narrow s t)
    (all_with (λ k. AllByRecursion (λ p. is_free narrow p ≡ true) (layout k)) (λ k. is_free wide k ≡ true → DiffersAlike wide layout narrow s t k) (given_ids wide)
    (λ k pieces. free_differs wide narrow layout s t k pieces)
    (all_pieces (λ p. is_free narrow p ≡ true) layout (given_ids wide) (subst (AllByRecursion (λ p. is_free narrow p ≡ true)) (sym fit.given) (given_are_free narrow fit.well_formed))))
    (all_with (Carried wide layout narrow s t) (λ k. is_free wide k ≡ false → DiffersAlike wide layout narrow s t k) (carried_ids wide)
    (λ k h e. carried_differs wide narrow layout s t k fit.well_formed h.0 h.1.0 h.1.1)
    (all_both (λ k. joined narrow layout t k ≡ s k) (λ k. FitAt narrow t (layout k) × InitsAgree wide layout narrow k) (carried_ids wide) same
    (all_both (λ k. FitAt narrow t (layout k)) (InitsAgree wide layout narrow) (carried_ids wide)
    (all_pieces (λ p. t p < 2 ^ bits_of narrow p) layout (carried_ids wide) (subst (FitAt narrow t) (sym fit.carried) (state_to_ids narrow t state)))
    (inits_agree wide narrow layout fit))))

-- The first state whose word is not that of its init line is the owner of the first piece of which that is so.
pub first_alike : (wide narrow : List Item) (fit : IsFit wide narrow) (s t : Frame) → AllByRecursion (λ k. joined narrow fit.layout t k ≡ s k) (carried_ids wide) → IsState narrow t
    → first_different wide s ≡ option_map (owner (widths_of is_state wide)) (first_different narrow t)
first_alike wide narrow fit s t same state =
    place_map (differs_at wide s) (λ (x : Item). x.id) 0 (of_kind is_state wide)
    ∙ first_owner fit.layout (differs_at wide s) (differs_at narrow t) (state_ids wide) (widths_of is_state wide) (state_counts wide narrow fit) (all_differ wide narrow fit.layout fit.fits s t same state)
    ∙ ap (λ (l : List ℕ). option_map (owner (widths_of is_state wide)) (position_from (differs_at narrow t) 0 l)) fit.states
    ∙ ap (option_map (owner (widths_of is_state wide))) (sym (place_map (differs_at narrow t) (λ (x : Item). x.id) 0 (of_kind is_state narrow)))
