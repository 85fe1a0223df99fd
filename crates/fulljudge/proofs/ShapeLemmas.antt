-- What a witness needs to know of a list in which each word of a value has a leaf.
use Rattle.std.proofs.Common.{◌≡◌, ℕ, ◌+◌, Bool, true, false, not, List, [], ◌∷◌, ◌++◌, map, flat_map, filter, length, replicate, Option, Some, None, is_some, refl, sym, ap, ap₂, ◌∙◌}
use Rattle.std.specs.List.{AllByRecursion}
use Rattle.std.proofs.lemmas.List.{length-append, length-map, length-replicate, map-append}
use Rattle.btor2.specs.declared.item.Item.{Item}
use Rattle.btor2.specs.Items.{is_input, is_state, is_free, next_value}
use Rattle.btor2.specs.Trace.{bits_of}
use Rattle.btor2.proofs.AppendLemmas.{is_some_from}
use Rattle.btor2.proofs.StateWords.{not_free}
use Rattle.wide.specs.WideModels.{greatest_width, IsWideModel}
use Rattle.full.specs.Lines.{FullLine, Operand, next_of}
use Rattle.full.specs.Agreement.{names_full_state}
use Rattle.full.specs.WrittenOut.{Places, NextIsWritten, IsWrittenOut}
use Rattle.full.proofs.FullLookUps.{next_said}
use Rattle.full.proofs.PlaceLemmas.{placed}
use Rattle.fit.specs.Fitting.{Layout}
use Rattle.fit.proofs.ListLemmas.{all_with, all_both}
use Rattle.witness.specs.Texts.{Shape, widths_of, free_of}
use Rattle.rejoin.proofs.ShapeLemmas.{map_ids}
use Rattle.fulljudge.specs.Shapes.{Leaf, leaves_of, full_shape, word_count, word_width, word_widths, of_words, word_shape}
use Rattle.fulljudge.specs.Cells.{HasWords, HasWordsOf}
use Rattle.fulljudge.proofs.RunLemmas.{open_state, states_named}
use Rattle.fulljudge.proofs.DifferLemmas.{free_pieces, carried_pieces}

pub flat_fused : {A B C : Type 0} (f : B → List C) (g : A → B) (xs : List A) → flat_map f (map g xs) ≡ flat_map (λ x. f (g x)) xs
flat_fused f g [] = refl
flat_fused f g (x ∷ xs) = ap (λ ys. f (g x) ++ ys) (flat_fused f g xs)

-- what is said of all pieces of leaves, leaf by leaf
of_pieces : {A : Type 0} (f : ℕ → A) (pieces : Leaf → List ℕ) (g : Leaf → List A) (leaves : List Leaf) → AllByRecursion (λ (l : Leaf). map f (pieces l) ≡ g l) leaves → map f (flat_map pieces leaves) ≡ flat_map g leaves
of_pieces f pieces g [] h = refl
of_pieces f pieces g (l ∷ leaves) h = map-append f (pieces l) (flat_map pieces leaves) ∙ ap₂ ◌++◌ h.0 (of_pieces f pieces g leaves h.1)

words_of_flags : (flag : Leaf → Bool) (leaves : List Leaf) → of_words (map (λ (l : Leaf). l.sort) leaves) (map flag leaves) ≡ flat_map (λ (l : Leaf). replicate (word_count l.sort) (flag l)) leaves
words_of_flags flag [] = refl
words_of_flags flag (l ∷ leaves) = ap (λ (bs : List Bool). replicate (word_count l.sort) (flag l) ++ bs) (words_of_flags flag leaves)

all_same : (f : ℕ → Bool) (b : Bool) (ps : List ℕ) → AllByRecursion (λ q. f q ≡ b) ps → map f ps ≡ replicate (length ps) b
all_same f b [] h = refl
all_same f b (p ∷ ps) h = ap₂ ◌∷◌ h.0 (all_same f b ps h.1)

pub as_many_flags : (leaves : List Leaf) (flag : Leaf → Bool) → length (flat_map (λ (l : Leaf). replicate (word_count l.sort) (flag l)) leaves) ≡ length (flat_map (λ (l : Leaf). word_widths l.sort) leaves)
as_many_flags [] flag = refl
as_many_flags (l ∷ leaves) flag =
    length-append (replicate (word_count l.sort) (flag l)) (flat_map (λ (m : Leaf). replicate (word_count m.sort) (flag m)) leaves)
    ∙ ap₂ (λ (a b : ℕ). a + b) (length-replicate (word_count l.sort) (flag l) ∙ sym (length-replicate (word_count l.sort) (word_width l.sort))) (as_many_flags leaves flag)
    ∙ sym (length-append (word_widths l.sort) (flat_map (λ (m : Leaf). word_widths m.sort) leaves))

all_false : (f : ℕ → Bool) (ps : List ℕ) → AllByRecursion (λ q. f q ≡ false) ps → AllByRecursion (λ b. b ≡ false) (map f ps)
all_false f [] h = tt
all_false f (p ∷ ps) h = (h.0, all_false f ps h.1)

abbrev pub shape_by : ℕ → List ℕ → List Bool → List ℕ → Shape
shape_by bads states free inputs = record { bads = bads; states = states; free = free; inputs = inputs }

module _ (full : List FullLine) (p : Places) (wide : List Item) (layout : Layout) (celled : List Item) (h : IsWrittenOut full p wide) (c : HasWordsOf full p wide layout celled) (model : IsWideModel greatest_width celled) where
  abbrev leaves : List Leaf
  leaves = leaves_of is_state full

  abbrev pieces : Leaf → List ℕ
  pieces l = layout (p.leaf l.id)

  abbrev flag : Leaf → Bool
  flag l = not (is_some (next_of full l.id))

  pub state_widths : widths_of is_state celled ≡ (word_shape (full_shape full)).states ++ map (bits_of celled) c.more
  state_widths =
      map_ids (bits_of celled) (filter (λ (x : Item). is_state x.body) celled) ∙ ap (map (bits_of celled)) (sym c.states) ∙ map-append (bits_of celled) (flat_map pieces leaves) c.more
      ∙ ap (λ (l : List ℕ). l ++ map (bits_of celled) c.more) (of_pieces (bits_of celled) pieces (λ (l : Leaf). word_widths l.sort) leaves c.state_words ∙ sym (flat_fused word_widths (λ (l : Leaf). l.sort) leaves))

  pub input_widths : widths_of is_input celled ≡ (word_shape (full_shape full)).inputs
  input_widths =
      map_ids (bits_of celled) (filter (λ (x : Item). is_input x.body) celled) ∙ ap (map (bits_of celled)) (sym c.inputs)
      ∙ of_pieces (bits_of celled) (λ (l : Leaf). layout (p.node l.id)) (λ (l : Leaf). word_widths l.sort) (leaves_of is_input full) c.input_words ∙ sym (flat_fused word_widths (λ (l : Leaf). l.sort) (leaves_of is_input full))

  piece_free : (l : Leaf) → names_full_state full l.id ≡ true → AllByRecursion (λ q. is_free celled q ≡ flag l) (pieces l)
  piece_free l names = by (next_of full l.id) refl
    where
      by : (o : Option Operand) → next_of full l.id ≡ o → AllByRecursion (λ q. is_free celled q ≡ not (is_some o)) (pieces l)
      by None e = free_pieces wide celled layout c.fits model (p.leaf l.id) (placed full p wide l.id h names).state (open_state full p wide l.id h names e)
      by (Some o) e =
          let next = next_said (NextIsWritten full p wide) full l.id o h.nexts e in
          carried_pieces wide celled layout c.fits (p.leaf l.id) (placed full p wide l.id h names).state (not_free wide (p.leaf l.id) (is_some_from (next_value wide (p.leaf l.id)) next.0 next.1))

  flags_are : AllByRecursion (λ (l : Leaf). map (is_free celled) (pieces l) ≡ replicate (word_count l.sort) (flag l)) leaves
  flags_are =
      all_with (λ (l : Leaf). (names_full_state full l.id ≡ true) × HasWords layout celled p.leaf l) (λ (l : Leaf). map (is_free celled) (pieces l) ≡ replicate (word_count l.sort) (flag l)) leaves
      (λ l known.
      all_same (is_free celled) (flag l) (pieces l) (piece_free l known.0)
      ∙ ap (λ (n : ℕ). replicate n (flag l)) (sym (length-map (pieces l) (bits_of celled)) ∙ ap length known.1 ∙ length-replicate (word_count l.sort) (word_width l.sort)))
      (all_both (λ (l : Leaf). names_full_state full l.id ≡ true) (HasWords layout celled p.leaf) leaves (states_named full p wide h) c.state_words)

  pub state_flags : free_of celled ≡ (word_shape (full_shape full)).free ++ map (is_free celled) c.more
  state_flags =
      map_ids (is_free celled) (filter (λ (x : Item). is_state x.body) celled) ∙ ap (map (is_free celled)) (sym c.states) ∙ map-append (is_free celled) (flat_map pieces leaves) c.more
      ∙ ap (λ (l : List Bool). l ++ map (is_free celled) c.more) (of_pieces (is_free celled) pieces (λ (l : Leaf). replicate (word_count l.sort) (flag l)) leaves flags_are ∙ sym (words_of_flags flag leaves))

  pub none_more_free : AllByRecursion (λ b. b ≡ false) (map (is_free celled) c.more)
  none_more_free = all_false (is_free celled) c.more c.carried

  pub as_many : length (word_shape (full_shape full)).free ≡ length (word_shape (full_shape full)).states
  as_many = ap length (words_of_flags flag leaves) ∙ as_many_flags leaves flag ∙ sym (ap length (flat_fused word_widths (λ (l : Leaf). l.sort) leaves))
