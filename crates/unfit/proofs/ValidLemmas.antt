-- Parts that are joined are parts of a witness.
use Rattle.std.proofs.Common.{◌≡◌, ℕ, zero, suc, ◌^◌, ◌<◌, ◌==◌, ◌||◌, Bool, true, false, cond, nat_eq, eqb-true, List, [], ◌∷◌, ◌++◌, map, filter, flat_map, length, replicate, get_or, slice_index, Option, Some, None, IfSome, is_some, unwrap_or, option_map, option_and_then, find, All, refl, sym, ap, subst, ◌∙◌, append_assoc, arith, pow_pos}
use Rattle.std.specs.List.{AllByRecursion, list_any, position_from}
use Rattle.std.proofs.lemmas.Bool.{ne_eqb}
use Rattle.std.proofs.lemmas.List.{length-append, length-map, get_or-map, get_or_at}
use Rattle.std.proofs.lemmas.List.Elements.{All-from_recursion}
use Rattle.std.proofs.lemmas.List.Folds.{list_any-append}
use Rattle.std.proofs.lemmas.Option.{same_Some, none-some}
use Rattle.btor2.specs.declared.item.Item.{Item}
use Rattle.btor2.specs.declared.item.Body.{Body}
use Rattle.btor2.specs.Items.{is_input, is_state, is_free}
use Rattle.btor2.specs.Symbols.{is_symbol}
use Rattle.btor2.specs.Trace.{bits_of}
use Rattle.btor2.proofs.IdLemmas.{ids_fresh}
use Rattle.fit.specs.Fitting.{Layout, HasWidthOfPieces, ids_of, init_words, given_ids, carried_ids}
use Rattle.fit.proofs.LawLemmas.{all_of}
use Rattle.fit.proofs.ModelLemmas.{init_words_fit}
use Rattle.fit.proofs.ListLemmas.{AreDistinct, all_with, all_both, all_join, distinct_ids}
use Rattle.fit.proofs.PieceLemmas.{word_below}
use Rattle.fitting.specs.Models.{state_ids, IsCutBy, IsFit}
use Rattle.witness.specs.Texts.{Shape, Assignment, IsAssignment, IsPart, IsFreePart, are_distinct, is_free_index, has_free, shape_of, widths_of, free_of}
use Rattle.witness.specs.Judgements.{pairs_of, given, given_to}
use Rattle.rejoin.specs.Pieces.{piece_count, repeated}
use Rattle.rejoin.proofs.LeafLemmas.{IsCutTo, states_cut_to, inputs_cut_to, FreeAlike, free_alike, states_from, inputs_from}
use Rattle.rejoin.proofs.PlaceLemmas.{place_later, suc_of}
use Rattle.rejoin.proofs.ShapeLemmas.{map_ids, free_states}
use Rattle.rejoin.proofs.SplitPartLemmas.{index_by_ids, given_fits}
use Rattle.unfit.specs.declared.told_pieces.Piece.{Piece}
use Rattle.unfit.specs.Joined.{any_told, joined_word, join_word}
use Rattle.unfit.proofs.JoinLemmas.{pieces_at, words_with, words_at, word_of_ids}
use Rattle.unfit.proofs.AlikeLemmas.{has, of, part, part_by_id, AreBelow, joined_states}

-- ---- the words of leaves, one by one

module _ (name : ℕ → Option (List ℕ)) (pieces : ℕ → List Piece) (P : Assignment → Type 0) (Q : ℕ → Type 0) where
  one_word : (k id : ℕ) (b : Bool) → (b ≡ true → P (record { index = k; word = joined_word (pieces id); symbol = name k })) → let a : Assignment = record { index = k; word = joined_word (pieces id); symbol = name k } in AllByRecursion P (cond b (a ∷ []) [])
  one_word k id true h = (h refl, tt)
  one_word k id false h = tt

  pub each_word : (whole front rest : List ℕ) → whole ≡ front ++ rest
      → ((k id : ℕ) → k < length whole → get_or whole k 0 ≡ id → Q id → any_told (pieces id) ≡ true → P (record { index = k; word = joined_word (pieces id); symbol = name k })) → AllByRecursion Q rest → AllByRecursion P (words_at name pieces (length front) rest)
  each_word whole front [] is says h = tt
  each_word whole front (id ∷ rest) is says h =
      let within : length front < length whole = omega (arith, ap length is, length-append front (id ∷ rest)) in
      let here : get_or whole (length front) 0 ≡ id = ap (λ (l : List ℕ). get_or l (length front) 0) is ∙ get_or_at front id rest 0 (length front) refl in
      let count : length (front ++ id ∷ []) ≡ suc (length front) = omega (arith, length-append front (id ∷ [])) in
      all_join P (join_word (name (length front)) (length front) (pieces id)) (words_at name pieces (suc (length front)) rest)
      (one_word (length front) id (any_told (pieces id)) (says (length front) id within here h.0))
      (subst (λ (n : ℕ). AllByRecursion P (words_at name pieces n rest)) count (each_word whole (front ++ id ∷ []) rest (is ∙ sym (append_assoc front (id ∷ []) rest)) says h.1))

-- ---- no index stands twice

module _ (name : ℕ → Option (List ℕ)) (pieces : ℕ → List Piece) where
  abbrev indices : List Assignment → List ℕ
  indices list = map (λ a. a.index) list

  no_earlier : (i k : ℕ) (ids : List ℕ) → i < k → list_any (λ y. y == i) (indices (words_at name pieces k ids)) ≡ false
  no_earlier i k [] h = refl
  no_earlier i k (id ∷ more) h = by (any_told (pieces id)) (no_earlier i (suc k) more (omega (arith, h)))
    where
      by : (b : Bool) → list_any (λ y. y == i) (indices (words_at name pieces (suc k) more)) ≡ false
          → let a : Assignment = record { index = k; word = joined_word (pieces id); symbol = name k } in list_any (λ y. y == i) (indices (cond b (a ∷ []) [] ++ words_at name pieces (suc k) more)) ≡ false
      by true later = rw (ne_eqb k i (λ e. omega (arith, h, e))) later
      by false later = later

  pub words_distinct : (k : ℕ) (ids : List ℕ) → are_distinct (indices (words_at name pieces k ids)) ≡ true
  words_distinct k [] = refl
  words_distinct k (id ∷ more) = by (any_told (pieces id)) (words_distinct (suc k) more)
    where
      by : (b : Bool) → are_distinct (indices (words_at name pieces (suc k) more)) ≡ true
          → let a : Assignment = record { index = k; word = joined_word (pieces id); symbol = name k } in are_distinct (indices (cond b (a ∷ []) [] ++ words_at name pieces (suc k) more)) ≡ true
      by true later = rw (no_earlier k (suc k) more (omega arith)) later
      by false later = later

-- ---- a part

module _ (kind : Body → Bool) (wide narrow : List Item) (layout : Layout) (other : ℕ → ℕ) (list : List Assignment) (name : ℕ → Option (List ℕ)) (same : flat_map layout (ids_of (λ x. kind x.body) wide) ≡ ids_of (λ x. kind x.body) narrow) (distinct : AreDistinct (ids_of (λ x. kind x.body) narrow))
    (cut_to : AllByRecursion (IsCutTo wide layout narrow) (ids_of (λ x. kind x.body) wide)) (cuts : AllByRecursion (IsCutBy layout narrow) (ids_of (λ x. kind x.body) wide)) (widths : AllByRecursion (HasWidthOfPieces wide layout narrow) (ids_of (λ x. kind x.body) wide))
    (below : AreBelow (widths_of kind narrow) list) (fits : (p : ℕ) → other p < 2 ^ bits_of narrow p) where
  abbrev told : ℕ → Option ℕ
  told = has kind wide narrow layout other list name

  abbrev pieces : ℕ → List Piece
  pieces = of kind wide narrow layout other list name

  abbrev joined : List Assignment
  joined = part kind wide narrow layout other list name

  abbrev leaves : List ℕ
  leaves = ids_of (λ x. kind x.body) wide

  joined_is : joined ≡ words_at name pieces 0 leaves
  joined_is = part_by_id kind wide narrow layout other list name same distinct cut_to

  told_fits : (p : ℕ) → words_with told other p < 2 ^ bits_of narrow p
  told_fits p = by (told p) (given_fits kind narrow list p below)
    where
      by : (o : Option ℕ) → IfSome o (λ x. x < 2 ^ bits_of narrow p) → unwrap_or o (other p) < 2 ^ bits_of narrow p
      by None h = fits p
      by (Some x) h = h

  word_fits : (id : ℕ) → IsCutBy layout narrow id → HasWidthOfPieces wide layout narrow id → joined_word (pieces id) < 2 ^ bits_of wide id
  word_fits id cut width =
      rw (word_of_ids (bits_of narrow) told other (layout id) cut, width) (word_below (bits_of narrow) (words_with told other) (layout id) (all_of (λ p. words_with told other p < 2 ^ bits_of narrow p) (layout id) told_fits))

  widths_are : widths_of kind wide ≡ map (bits_of wide) leaves
  widths_are = map_ids (bits_of wide) (filter (λ x. kind x.body) wide)

  all_leaves : AllByRecursion (λ id. joined_word (pieces id) < 2 ^ bits_of wide id) leaves
  all_leaves =
      all_with (λ id. IsCutBy layout narrow id × HasWidthOfPieces wide layout narrow id) (λ id. joined_word (pieces id) < 2 ^ bits_of wide id) leaves (λ id h. word_fits id h.0 h.1)
      (all_both (IsCutBy layout narrow) (HasWidthOfPieces wide layout narrow) leaves cuts widths)

  pub part_valid : ((k : ℕ) → IfSome (name k) (λ bytes. is_symbol bytes ≡ true)) → IsPart (widths_of kind wide) joined
  part_valid symbols =
      subst (IsPart (widths_of kind wide)) (sym joined_is) (record {
        each = All-from_recursion (IsAssignment (widths_of kind wide)) (words_at name pieces 0 leaves)
            (each_word name pieces (IsAssignment (widths_of kind wide)) (λ id. joined_word (pieces id) < 2 ^ bits_of wide id) leaves [] leaves refl
            (λ k id within at word some. record {
              index = subst (λ (l : List ℕ). k < length l) (sym widths_are) (omega (arith, within, length-map leaves (bits_of wide)));
              word = subst (λ (n : ℕ). joined_word (pieces id) < 2 ^ n) (sym (ap (λ (l : List ℕ). slice_index l k) widths_are ∙ get_or-map (bits_of wide) leaves k 0 0 within ∙ ap (bits_of wide) at)) word;
              symbol = symbols k;
            }) all_leaves);
        distinct = words_distinct name pieces 0 leaves;
      })

-- ---- states that are free

place_flag : (f : ℕ → Bool) (xs : List ℕ) (x k : ℕ) → position_from (nat_eq x) 0 xs ≡ Some k → get_or (map f xs) k false ≡ f x
place_flag f [] x k e = absurd (none-some k e)
place_flag f (y ∷ xs) x k e = by (nat_eq x y) refl e (place_flag f xs x)
  where
    by : (b : Bool) → nat_eq x y ≡ b → cond b (Some 0) (position_from (nat_eq x) 1 xs) ≡ Some k → ((j : ℕ) → position_from (nat_eq x) 0 xs ≡ Some j → get_or (map f xs) j false ≡ f x) → get_or (f y ∷ map f xs) k false ≡ f x
    by true t e more = subst (λ (m : ℕ). get_or (f y ∷ map f xs) m false ≡ f x) (same_Some 0 k e) (ap f (sym (eqb-true x y t)))
    by false t e more =
        let later = suc_of (position_from (nat_eq x) 0 xs) k (sym (place_later (nat_eq x) 1 0 xs) ∙ e) in
        subst (λ (m : ℕ). get_or (f y ∷ map f xs) m false ≡ f x) (sym later.2) (more later.0 later.1)

given_free : (shape : Shape) (list : List Assignment) (i x : ℕ) → AllByRecursion (λ (a : Assignment). is_free_index shape a.index ≡ true) list → given (pairs_of list) i ≡ Some x → is_free_index shape i ≡ true
given_free shape [] i x free e = absurd (none-some x e)
given_free shape (a ∷ list) i x free e = by (nat_eq a.index i) refl e (given_free shape list i x free.1)
  where
    by : (b : Bool) → nat_eq a.index i ≡ b → option_map (λ (p : ℕ × ℕ). p.1) (cond b (Some (a.index, a.word)) (find (λ (p : ℕ × ℕ). p.0 == i) (pairs_of list))) ≡ Some x
        → (given (pairs_of list) i ≡ Some x → is_free_index shape i ≡ true) → is_free_index shape i ≡ true
    by true t d later = subst (λ (j : ℕ). is_free_index shape j ≡ true) (eqb-true a.index i t) free.0
    by false t d later = later d

-- a piece that is told in a part of free states is free
told_is_free : (narrow : List Item) (list : List Assignment) (p x : ℕ) → AllByRecursion (λ (a : Assignment). is_free_index (shape_of narrow) a.index ≡ true) list → given_to is_state narrow (pairs_of list) p ≡ Some x → is_free narrow p ≡ true
told_is_free narrow list p x free e = by (position_from (nat_eq p) 0 (state_ids narrow)) refl (ap (option_and_then (given (pairs_of list))) (sym (index_by_ids is_state narrow p)) ∙ e)
  where
    by : (o : Option ℕ) → position_from (nat_eq p) 0 (state_ids narrow) ≡ o → option_and_then (given (pairs_of list)) o ≡ Some x → is_free narrow p ≡ true
    by None at d = absurd (none-some x d)
    by (Some i) at d =
        sym (ap (λ (l : List Bool). get_or l i false) (map_ids (is_free narrow) (filter (λ x. is_state x.body) narrow)) ∙ place_flag (is_free narrow) (state_ids narrow) p i at) ∙ given_free (shape_of narrow) list i x free d

-- so the state of which a piece is told is free
some_free : (narrow : List Item) (tells : ℕ → Option ℕ) (other : ℕ → ℕ) (f : Bool) (ps : List ℕ) → AllByRecursion (λ p. is_free narrow p ≡ f) ps → ((p x : ℕ) → tells p ≡ Some x → is_free narrow p ≡ true) → any_told (pieces_at tells other ps) ≡ true → f ≡ true
some_free narrow tells other f [] same free some = absurd (cc)
some_free narrow tells other f (p ∷ ps) same free some = by (tells p) refl some (some_free narrow tells other f ps same.1 free)
  where
    by : (o : Option ℕ) → tells p ≡ o → (is_some o || any_told (pieces_at tells other ps)) ≡ true → (any_told (pieces_at tells other ps) ≡ true → f ≡ true) → f ≡ true
    by (Some x) e d later = sym same.0 ∙ free p x e
    by None e d later = later d

any_repeated : (ns : List ℕ) (bs : List Bool) → list_any (λ b. b) (repeated ns bs) ≡ true → list_any (λ b. b) bs ≡ true
any_repeated [] bs h = absurd (cc)
any_repeated (n ∷ ns) [] h = absurd (cc)
any_repeated (n ∷ ns) (true ∷ bs) h = refl
any_repeated (n ∷ ns) (false ∷ bs) h =
    any_repeated ns bs (sym (ap (λ (b : Bool). b || list_any (λ b. b) (repeated ns bs)) (none (piece_count n))) ∙ sym (list_any-append (λ b. b) (replicate (piece_count n) false) (repeated ns bs)) ∙ h)
  where
    none : (m : ℕ) → list_any (λ b. b) (replicate m false) ≡ false
    none zero = refl
    none (suc m) = none m

-- ---- parts of states and of inputs

module _ (wide narrow : List Item) (fit : IsFit wide narrow) (list : List Assignment) (name : ℕ → Option (List ℕ)) (symbols : (k : ℕ) → IfSome (name k) (λ bytes. is_symbol bytes ≡ true)) where
  state_widths : AllByRecursion (HasWidthOfPieces wide fit.layout narrow) (state_ids wide)
  state_widths =
      states_from wide (HasWidthOfPieces wide fit.layout narrow)
      (all_with (HasWidthOfPieces wide fit.layout narrow) (λ id. is_free wide id ≡ true → HasWidthOfPieces wide fit.layout narrow id) (given_ids wide) (λ id h e. h) fit.fits.given_widths)
      (all_with (HasWidthOfPieces wide fit.layout narrow) (λ id. is_free wide id ≡ false → HasWidthOfPieces wide fit.layout narrow id) (carried_ids wide) (λ id h e. h) fit.fits.carried_widths)

  pub states_valid : AreBelow (widths_of is_state narrow) list → IsPart (widths_of is_state wide) (joined_states wide narrow fit list name)
  states_valid below =
      part_valid is_state wide narrow fit.layout (init_words narrow) list name fit.states (distinct_ids (λ x. is_state x.body) narrow (ids_fresh narrow fit.well_formed)) (states_cut_to wide narrow fit) fit.state_cuts state_widths below
      (λ p. init_words_fit narrow p fit.fits.well_formed) symbols

  pub inputs_valid : AreBelow (widths_of is_input narrow) list → IsPart (widths_of is_input wide) (part is_input wide narrow fit.layout (λ p. 0) list name)
  inputs_valid below =
      part_valid is_input wide narrow fit.layout (λ p. 0) list name fit.inputs (distinct_ids (λ x. is_input x.body) narrow (ids_fresh narrow fit.well_formed)) (inputs_cut_to wide narrow fit) fit.input_cuts
      (inputs_from wide (HasWidthOfPieces wide fit.layout narrow) fit.fits.given_widths) below (λ p. pow_pos (bits_of narrow p)) symbols

  free_at : (k id : ℕ) → k < length (state_ids wide) → get_or (state_ids wide) k 0 ≡ id → is_free_index (shape_of wide) k ≡ is_free wide id
  free_at k id within at =
      ap (λ (l : List Bool). get_or l k false) (map_ids (is_free wide) (filter (λ x. is_state x.body) wide)) ∙ get_or-map (is_free wide) (state_ids wide) k 0 false within ∙ ap (is_free wide) at

  pub free_valid : AreBelow (widths_of is_state narrow) list → has_free (shape_of narrow) ≡ true → AllByRecursion (λ (a : Assignment). is_free_index (shape_of narrow) a.index ≡ true) list → IsFreePart (shape_of wide) (joined_states wide narrow fit list name)
  free_valid below some free =
      let told : ℕ → Option ℕ = has is_state wide narrow fit.layout (init_words narrow) list name in
      let by_id = part_by_id is_state wide narrow fit.layout (init_words narrow) list name fit.states (distinct_ids (λ x. is_state x.body) narrow (ids_fresh narrow fit.well_formed)) (states_cut_to wide narrow fit) in
      record {
        some = any_repeated (widths_of is_state wide) (free_of wide) (sym (ap (λ (l : List Bool). list_any (λ b. b) l) (free_states wide narrow fit)) ∙ some);
        part = states_valid below;
        free = subst (All (λ (a : Assignment). is_free_index (shape_of wide) a.index ≡ true)) (sym by_id)
            (All-from_recursion (λ (a : Assignment). is_free_index (shape_of wide) a.index ≡ true) (words_at name (of is_state wide narrow fit.layout (init_words narrow) list name) 0 (state_ids wide))
            (each_word name (of is_state wide narrow fit.layout (init_words narrow) list name) (λ (a : Assignment). is_free_index (shape_of wide) a.index ≡ true) (FreeAlike wide fit.layout narrow) (state_ids wide) [] (state_ids wide) refl
            (λ k id within at same some_told. free_at k id within at ∙ some_free narrow told (init_words narrow) (is_free wide id) (fit.layout id) same (λ p x e. told_is_free narrow list p x free e) some_told)
            (free_alike wide narrow fit.layout fit.fits)));
      }
