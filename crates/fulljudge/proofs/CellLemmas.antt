-- The words of a list are those that are told: leaves that stand one behind the other make the value of which they are the words.
use Rattle.std.proofs.Common.{◌≡◌, ℕ, zero, suc, ◌+◌, ◌*◌, ◌%◌, ◌^◌, Bool, nat_eq, List, [], ◌∷◌, ◌++◌, map, flat_map, replicate, length, Option, Some, None, unwrap_or, option_and_then, append_assoc, refl, sym, ap, ap₂, subst, ◌∙◌, arith}
use Rattle.std.specs.List.{AllByRecursion, position_from}
use Rattle.std.proofs.lemmas.List.{length-append, length-map, length-replicate}
use Rattle.std.proofs.Math.Nat.{zero-div, zero-mod}
use Rattle.base.specs.Operator.{concat_value}
use Rattle.btor2.specs.declared.item.Item.{Item}
use Rattle.btor2.specs.declared.item.Body.{Body}
use Rattle.btor2.specs.Trace.{Frame}
use Rattle.btor2.specs.Lists.{of_kind}
use Rattle.fit.specs.Fitting.{pieces_word, ids_of}
use Rattle.fit.proofs.ListLemmas.{AreDistinct, apart, heads}
use Rattle.full.specs.Cells.{read_value}
use Rattle.full.specs.Lines.{Sort, words, arrays}
use Rattle.witness.specs.Judgements.{given, given_to}
use Rattle.rejoin.proofs.PlaceLemmas.{place_map, place_own}
use Rattle.fulljudge.specs.Shapes.{Leaf, word_count, word_width, word_widths}
use Rattle.fulljudge.specs.Told.{told, told_cells, ByIndex}

-- ---- where an id stands

-- what is given to the leaf of a kind that stands behind some is what is given to its index
pub given_at : (kind : Body → Bool) (items : List Item) (list : List (ℕ × ℕ)) (before after : List ℕ) (p : ℕ) → AreDistinct (ids_of (λ x. kind x.body) items) → ids_of (λ x. kind x.body) items ≡ before ++ p ∷ after
    → given_to kind items list p ≡ given list (length before)
given_at kind items list before after p distinct e =
    let own : position_from (nat_eq p) 0 (before ++ p ∷ after) ≡ Some (length before) = place_own 0 p before after (apart before (p ∷ after) (subst AreDistinct e distinct)).0 ∙ ap (λ (n : ℕ). Some n) (omega arith) in
    ap (option_and_then (given list)) (place_map (nat_eq p) (λ (x : Item). x.id) 0 (of_kind kind items) ∙ ap (position_from (nat_eq p) 0) e ∙ own)

-- ---- the words of a value

-- each leaf of some has the word that is given to its index, else 0
abbrev pub HaveGiven : List (ℕ × ℕ) → Frame → List ℕ → Type 0
HaveGiven list g ids = (before after : List ℕ) (p : ℕ) → ids ≡ before ++ p ∷ after → g p ≡ unwrap_or (given list (length before)) 0

nothing_read : (n c : ℕ) → read_value n 0 c ≡ 0
nothing_read n c = ap (λ (x : ℕ). x % 2 ^ n) (zero-div (2 ^ (n * c))) ∙ zero-mod (2 ^ n)

given_or : (o : Option ℕ) (x y : ℕ) → x ≡ y → unwrap_or o x ≡ unwrap_or o y
given_or None x y e = e
given_or (Some v) x y e = refl

cells_told : (list : List (ℕ × ℕ)) (g : Frame) (width : ℕ → ℕ) (ids before ps after : List ℕ) (first c n : ℕ) → HaveGiven list g ids → ids ≡ before ++ (ps ++ after) → length before ≡ first + c → AllByRecursion (λ p. width p ≡ n) ps
    → pieces_word width g ps ≡ told_cells list n first 0 c (length ps)
cells_told list g width ids before [] after first c n has e at widths = refl
cells_told list g width ids before (p ∷ ps) after first c n has e at widths =
    let rest = cells_told list g width ids (before ++ p ∷ []) ps after first (suc c) n has (e ∙ sym (append_assoc before (p ∷ []) (ps ++ after))) (length-append before (p ∷ []) ∙ omega (arith, at)) widths.1 in
    let word : g p ≡ unwrap_or (given list (first + c)) (read_value n 0 c) = has before (ps ++ after) p e ∙ ap (λ (k : ℕ). unwrap_or (given list k) 0) at ∙ given_or (given list (first + c)) 0 (read_value n 0 c) (sym (nothing_read n c)) in
    ap (λ (x : ℕ). concat_value x (width p) (g p)) rest ∙ ap₂ (λ (m x : ℕ). concat_value (told_cells list n first 0 (suc c) (length ps)) m x) widths.0 word

pub widths_all : (width : ℕ → ℕ) (ps : List ℕ) (m n : ℕ) → map width ps ≡ replicate m n → AllByRecursion (λ p. width p ≡ n) ps × (length ps ≡ m)
widths_all width [] zero n e = (tt, refl)
widths_all width [] (suc m) n e = absurd (cc)
widths_all width (p ∷ ps) zero n e = absurd (cc)
widths_all width (p ∷ ps) (suc m) n e =
    let parts = heads (width p) n (map width ps) (replicate m n) e in
    let rest = widths_all width ps m n parts.1 in ((parts.0, rest.0), ap (λ (k : ℕ). suc k) rest.1)

-- the word of one leaf
pub value_told : (list : List (ℕ × ℕ)) (g : Frame) (width : ℕ → ℕ) (ids before ps after : List ℕ) (s : Sort) (first : ℕ) → HaveGiven list g ids → ids ≡ before ++ (ps ++ after) → length before ≡ first → map width ps ≡ word_widths s
    → pieces_word width g ps ≡ told list s first 0
value_told list g width ids before [] after (words n) first has e at widths = absurd (cc)
value_told list g width ids before (p ∷ q ∷ ps) after (words n) first has e at widths = absurd (cc)
value_told list g width ids before (p ∷ []) after (words n) first has e at widths =
    let word : g p ≡ unwrap_or (given list first) 0 = has before after p e ∙ ap (λ (k : ℕ). unwrap_or (given list k) 0) at in
    omega (arith, word)
value_told list g width ids before ps after (arrays k n) first has e at widths =
    let all = widths_all width ps (2 ^ k) n widths in
    cells_told list g width ids before ps after first 0 n has e (at ∙ omega arith) all.0 ∙ ap (told_cells list n first 0 0) all.1

-- of all leaves
pub values_told : (list : List (ℕ × ℕ)) (g : Frame) (width : ℕ → ℕ) (pieces : Leaf → List ℕ) (ids before rest : List ℕ) (leaves : List Leaf) (i : ℕ) → HaveGiven list g ids → ids ≡ before ++ (flat_map pieces leaves ++ rest) → length before ≡ i
    → AllByRecursion (λ (l : Leaf). map width (pieces l) ≡ word_widths l.sort) leaves → ByIndex (λ i l. pieces_word width g (pieces l) ≡ told list l.sort i 0) i leaves
values_told list g width pieces ids before rest [] i has e at widths = tt
values_told list g width pieces ids before rest (l ∷ leaves) i has e at widths =
    let count : length (pieces l) ≡ word_count l.sort = sym (length-map (pieces l) width) ∙ ap length widths.0 ∙ length-replicate (word_count l.sort) (word_width l.sort) in
    let front : ids ≡ before ++ (pieces l ++ (flat_map pieces leaves ++ rest)) = e ∙ ap (λ (xs : List ℕ). before ++ xs) (append_assoc (pieces l) (flat_map pieces leaves) rest) in (
      value_told list g width ids before (pieces l) (flat_map pieces leaves ++ rest) l.sort i has front at widths.0,
      values_told list g width pieces ids (before ++ pieces l) rest leaves (i + word_count l.sort) has (front ∙ sym (append_assoc before (pieces l) (flat_map pieces leaves ++ rest)))
          (length-append before (pieces l) ∙ omega (arith, at, count)) widths.1,
    )
