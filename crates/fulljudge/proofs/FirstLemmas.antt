-- The words that states begin with: what is told of a state agrees with its init line where that is so of each of its words.
use Rattle.std.proofs.Common.{◌≡◌, ℕ, zero, suc, ◌+◌, ◌*◌, ◌^◌, ◌<◌, true, List, [], ◌∷◌, ◌++◌, map, flat_map, length, slice_get, Option, Some, is_some, unwrap_or, option_and_then, append_assoc, refl, sym, ap, ap₂, subst, ◌∙◌, arith}
use Rattle.std.specs.List.{AllByRecursion}
use Rattle.std.specs.Option.{option_or}
use Rattle.std.proofs.lemmas.List.{length-append, length-map, length-replicate}
use Rattle.std.proofs.lemmas.Option.{none-some, same_Some}
use Rattle.base.specs.Operator.{concat_value}
use Rattle.btor2.specs.declared.item.Item.{Item}
use Rattle.btor2.specs.declared.item.Body.{Body}
use Rattle.btor2.specs.declared.item.Body.TheVariants as body
use Rattle.btor2.specs.Items.{is_state, names_state, constant_of, init_value, init_word}
use Rattle.btor2.specs.Trace.{Frame, bits_of, InitHolds}
use Rattle.btor2.proofs.AppendLemmas.{some_of, then_parts}
use Rattle.wide.specs.WideModels.{greatest_width, IsWideModel}
use Rattle.full.specs.Cells.{read_value}
use Rattle.full.specs.Lines.{Sort, words, arrays}
use Rattle.full.specs.WrittenOut.{Places}
use Rattle.full.proofs.CellLemmas.{lowest_cell}
use Rattle.full.proofs.WideLemmas.{IsInitLine, init_lines}
use Rattle.fit.specs.Fitting.{Layout, pieces_word, pieces_width, joined, ids_of, init_words, IsFittingOf}
use Rattle.fit.proofs.LawLemmas.{init_says}
use Rattle.fit.proofs.ListLemmas.{all_with, AreDistinct}
use Rattle.fit.proofs.ModelLemmas.{init_words_fit}
use Rattle.fit.proofs.PieceLemmas.{word_below}
use Rattle.witness.specs.Judgements.{Words, given, given_to, initial_part, initial_words}
use Rattle.fulljudge.specs.Shapes.{Leaf, word_count, word_width, word_widths}
use Rattle.fulljudge.specs.Told.{told, ByIndex}
use Rattle.fulljudge.specs.Written.{ConstantTold}
use Rattle.fulljudge.proofs.CellLemmas.{given_at, widths_all}
use Rattle.fulljudge.proofs.ToldLemmas.{own_word, WordsFit, WordsAre, high_cell, told_own}

-- ---- the words of a value

read_pieces : (width : ℕ → ℕ) (g : Frame) (n c q : ℕ) (ps : List ℕ) → AllByRecursion (λ p. width p ≡ n) ps → AllByRecursion (λ p. g p < 2 ^ width p) ps → slice_get ps c ≡ Some q → read_value n (pieces_word width g ps) c ≡ g q
read_pieces width g n c q [] widths fit e = absurd (none-some q e)
read_pieces width g n zero q (p ∷ ps) widths fit e =
    let below : g p < 2 ^ n = subst (λ (m : ℕ). g p < 2 ^ m) widths.0 fit.0 in
    ap (λ (m : ℕ). read_value n (concat_value (pieces_word width g ps) m (g p)) 0) widths.0 ∙ lowest_cell n (pieces_word width g ps) (g p) below ∙ ap g (same_Some p q e)
read_pieces width g n (suc c) q (p ∷ ps) widths fit e =
    let below : g p < 2 ^ n = subst (λ (m : ℕ). g p < 2 ^ m) widths.0 fit.0 in
    ap (λ (m : ℕ). read_value n (concat_value (pieces_word width g ps) m (g p)) (suc c)) widths.0 ∙ high_cell n (pieces_word width g ps) (g p) c below ∙ read_pieces width g n c q ps widths.1 fit.1 e

pub own_of_pieces : (width : ℕ → ℕ) (g : Frame) (s : Sort) (c q : ℕ) (ps : List ℕ) → map width ps ≡ word_widths s → AllByRecursion (λ p. g p < 2 ^ width p) ps → slice_get ps c ≡ Some q → own_word s (pieces_word width g ps) c ≡ g q
own_of_pieces width g (words n) c q [] widths fit e = absurd (none-some q e)
own_of_pieces width g (words n) zero q (p ∷ []) widths fit e = omega (arith, ap g (same_Some p q e))
own_of_pieces width g (words n) (suc c) q (p ∷ []) widths fit e = absurd (none-some q e)
own_of_pieces width g (words n) c q (p ∷ r ∷ ps) widths fit e = absurd (cc)
own_of_pieces width g (arrays k n) c q ps widths fit e = read_pieces width g n c q ps (widths_all width ps (2 ^ k) n widths).0 fit e

pub total_width : (width : ℕ → ℕ) (ps : List ℕ) (n : ℕ) → AllByRecursion (λ p. width p ≡ n) ps → pieces_width width ps ≡ length ps * n
total_width width [] n h = omega arith
total_width width (p ∷ ps) n h = omega (arith, h.0, total_width width ps n h.1)

value_below : (width : ℕ → ℕ) (g : Frame) (s : Sort) (ps : List ℕ) → map width ps ≡ word_widths s → AllByRecursion (λ p. g p < 2 ^ width p) ps → pieces_word width g ps < 2 ^ (word_count s * word_width s)
value_below width g s ps widths fit =
    let all = widths_all width ps (word_count s) (word_width s) widths in
    subst (λ (e : ℕ). pieces_word width g ps < 2 ^ e) (total_width width ps (word_width s) all.0 ∙ ap (λ (m : ℕ). m * word_width s) all.1) (word_below width g ps fit)

-- ---- where words stand

-- some stand among others behind so many
pub record StandAt (ids ps : List ℕ) (i : ℕ) : Type 0 where
  pub before : List ℕ
  pub after : List ℕ
  pub is : ids ≡ before ++ (ps ++ after)
  pub at : length before ≡ i

get_split : (ps : List ℕ) (c q : ℕ) → slice_get ps c ≡ Some q → (front rest : List ℕ) × (ps ≡ front ++ q ∷ rest) × (length front ≡ c)
get_split [] c q e = absurd (none-some q e)
get_split (p ∷ ps) zero q e = ([], ps, ap (λ (x : ℕ). x ∷ ps) (same_Some p q e), refl)
get_split (p ∷ ps) (suc c) q e = let more = get_split ps c q e in (p ∷ more.0, more.1, ap (λ (l : List ℕ). p ∷ l) more.2, ap (λ (n : ℕ). suc n) more.3)

get_there : (ps : List ℕ) (c : ℕ) → c < length ps → (q : ℕ) × (slice_get ps c ≡ Some q)
get_there [] c h = absurd (omega (arith, h))
get_there (p ∷ ps) zero h = (p, refl)
get_there (p ∷ ps) (suc c) h = get_there ps c (omega (arith, h))

pub leaves_stand : (width : ℕ → ℕ) (pieces : Leaf → List ℕ) (ids before rest : List ℕ) (leaves : List Leaf) (i : ℕ) → ids ≡ before ++ (flat_map pieces leaves ++ rest) → length before ≡ i
    → AllByRecursion (λ (l : Leaf). map width (pieces l) ≡ word_widths l.sort) leaves → ByIndex (λ i l. StandAt ids (pieces l) i × (map width (pieces l) ≡ word_widths l.sort)) i leaves
leaves_stand width pieces ids before rest [] i e at widths = tt
leaves_stand width pieces ids before rest (l ∷ leaves) i e at widths =
    let count : length (pieces l) ≡ word_count l.sort = sym (length-map (pieces l) width) ∙ ap length widths.0 ∙ length-replicate (word_count l.sort) (word_width l.sort) in
    let front : ids ≡ before ++ (pieces l ++ (flat_map pieces leaves ++ rest)) = e ∙ ap (λ (xs : List ℕ). before ++ xs) (append_assoc (pieces l) (flat_map pieces leaves) rest) in (
      (record { before = before; after = flat_map pieces leaves ++ rest; is = front; at = at }, widths.0),
      leaves_stand width pieces ids (before ++ pieces l) rest leaves (i + word_count l.sort) (front ∙ sym (append_assoc before (pieces l) (flat_map pieces leaves ++ rest)))
          (length-append before (pieces l) ∙ omega (arith, at, count)) widths.1,
    )

module _ (celled : List Item) (model : IsWideModel greatest_width celled) (distinct : AreDistinct (ids_of (λ x. is_state x.body) celled)) where
  abbrev states : List ℕ
  states = ids_of (λ x. is_state x.body) celled

  -- what is given to a word
  pub given_word : (list : List (ℕ × ℕ)) (ps : List ℕ) (i c q : ℕ) → StandAt states ps i → slice_get ps c ≡ Some q → given_to is_state celled list q ≡ given list (i + c)
  given_word list ps i c q s e =
      let split = get_split ps c q e in
      let whole : states ≡ (s.before ++ split.0) ++ q ∷ (split.1 ++ s.after) =
      s.is ∙ ap (λ (l : List ℕ). s.before ++ (l ++ s.after)) split.2 ∙ ap (λ (l : List ℕ). s.before ++ l) (append_assoc split.0 (q ∷ split.1) s.after) ∙ sym (append_assoc s.before split.0 (q ∷ (split.1 ++ s.after))) in
      given_at is_state celled list (s.before ++ split.0) (split.1 ++ s.after) q distinct whole ∙ ap (given list) (length-append s.before split.0 ∙ ap₂ (λ (a b : ℕ). a + b) s.at split.3)

  -- each state with an init line has its word
  abbrev pub BeginsSo : Frame → Type 0
  BeginsSo begin = (q k : ℕ) → names_state celled q ≡ true → init_word celled q ≡ Some k → k ≡ begin q

  holds_at : (begin : Frame) (b : Body) → BeginsSo begin → IsInitLine celled b → InitHolds celled begin b
  holds_at begin (body.Init s t v) so line =
      let word = some_of (constant_of celled v) line.2 in
      word.1 ∙ ap (λ (k : ℕ). Some k) (so t word.0 line.0 (ap (option_and_then (constant_of celled)) line.1 ∙ word.1))
  holds_at begin _ so line = tt

  pub inits_hold : (begin : Frame) → BeginsSo begin → AllByRecursion (λ (x : Item). InitHolds celled begin x.body) celled
  inits_hold begin so = all_with (λ (x : Item). IsInitLine celled x.body) (λ (x : Item). InitHolds celled begin x.body) celled (λ x line. holds_at begin x.body so line) (init_lines greatest_width celled model)

  begins_word : (w : Words) (q v : ℕ) → given_to is_state celled (initial_part w.frames) q ≡ Some v → initial_words celled w q ≡ v
  begins_word w q v e = ap (λ (o : Option ℕ). unwrap_or (option_or o (init_word celled q)) 0) e

  pub init_fits : (ps : List ℕ) → AllByRecursion (λ q. init_words celled q < 2 ^ bits_of celled q) ps
  init_fits [] = tt
  init_fits (q ∷ ps) = (init_words_fit celled q model, init_fits ps)

  all_at_place : (P : ℕ → Type 0) (ps : List ℕ) (c q : ℕ) → AllByRecursion P ps → slice_get ps c ≡ Some q → P q
  all_at_place P [] c q h e = absurd (none-some q e)
  all_at_place P (p ∷ ps) zero q h e = subst P (same_Some p q e) h.0
  all_at_place P (p ∷ ps) (suc c) q h e = all_at_place P ps c q h.1 e

  -- told words are those of the init line's constant, where the words that states begin with agree with their init lines
  words_are : (w : Words) (s : Sort) (ps : List ℕ) (i : ℕ) → BeginsSo (initial_words celled w) → StandAt states ps i → map (bits_of celled) ps ≡ word_widths s → AllByRecursion (λ q. is_some (init_word celled q) ≡ true) ps
      → AllByRecursion (λ q. names_state celled q ≡ true) ps → WordsAre (initial_part w.frames) s i (pieces_word (bits_of celled) (init_words celled) ps)
  words_are w s ps i so stand widths inits names = λ c v within e.
      let all = widths_all (bits_of celled) ps (word_count s) (word_width s) widths in
      let q = get_there ps c (subst (λ (n : ℕ). c < n) (sym all.1) within) in
      let init = some_of (init_word celled q.0) (all_at_place (λ k. is_some (init_word celled k) ≡ true) ps c q.0 inits q.1) in
      let word : init.0 ≡ v = so q.0 init.0 (all_at_place (λ k. names_state celled k ≡ true) ps c q.0 names q.1) init.1 ∙ begins_word w q.0 v (given_word (initial_part w.frames) ps i c q.0 stand q.1 ∙ e) in
      let own : own_word s (pieces_word (bits_of celled) (init_words celled) ps) c ≡ init.0 = own_of_pieces (bits_of celled) (init_words celled) s c q.0 ps widths (init_fits ps) q.1 ∙ ap (λ (o : Option ℕ). unwrap_or o 0) init.1 in
      sym word ∙ sym own

  module _ (wide : List Item) (layout : Layout) (fits : IsFittingOf wide layout celled) where
    -- the constant of an init line, by the words of the state
    pub constant_is : (a x : ℕ) → init_word wide a ≡ Some x → AllByRecursion (λ q. is_some (init_word celled q) ≡ true) (layout a) × (x ≡ pieces_word (bits_of celled) (init_words celled) (layout a))
    constant_is a x e =
        let init = then_parts (constant_of wide) (init_value wide a) x e in
        let says = init_says wide celled layout wide a init.0 fits.inits init.1 in
        (says.0, same_Some x (joined celled layout (init_words celled) a) (sym init.2 ∙ says.1))

    pub constant_told : (p : Places) (w : Words) (i : ℕ) (l : Leaf) → BeginsSo (initial_words celled w) → StandAt states (layout (p.leaf l.id)) i → map (bits_of celled) (layout (p.leaf l.id)) ≡ word_widths l.sort
        → AllByRecursion (λ q. names_state celled q ≡ true) (layout (p.leaf l.id)) → WordsFit (initial_part w.frames) l.sort i → ConstantTold p wide (initial_part w.frames) i l
    constant_told p w i l so stand widths names fit = λ x e.
        let is = constant_is (p.leaf l.id) x e in
        subst (λ (y : ℕ). told (initial_part w.frames) l.sort i y ≡ y) (sym is.1)
        (told_own (initial_part w.frames) l.sort i (pieces_word (bits_of celled) (init_words celled) (layout (p.leaf l.id))) fit
        (words_are w l.sort (layout (p.leaf l.id)) i so stand widths is.0 names)
        (value_below (bits_of celled) (init_words celled) l.sort (layout (p.leaf l.id)) widths (init_fits (layout (p.leaf l.id)))))
