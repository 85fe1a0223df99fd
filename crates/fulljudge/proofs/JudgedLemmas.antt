-- What is judged by a trace of the list that a model is written out as.
use Rattle.std.proofs.Common.{◌≡◌, ℕ, zero, suc, ◌+◌, nat_eq, Bool, true, false, cond, eq-eqb, List, [], ◌∷◌, map, flat_map, length, slice_get, Option, Some, None, is_some, option_and_then, refl, sym, ap, ap₂, subst, ◌∙◌, ⊎_elim, inl, inr, arith}
use Rattle.std.specs.List.{AllByRecursion, AllZip, list_any}
use Rattle.std.proofs.lemmas.Bool.{true≢false}
use Rattle.std.proofs.lemmas.List.{length-append}
use Rattle.std.proofs.lemmas.Option.{none-some, same_Some}
use Rattle.base.specs.Shown.{Shown}
use Rattle.btor2.specs.declared.item.Item.{Item}
use Rattle.btor2.specs.declared.item.Body.TheVariants as body
use Rattle.btor2.specs.Items.{is_state, is_bad, constant_of, init_value, init_word}
use Rattle.btor2.specs.Trace.{Frame, IsFrame, IsTrace, IsInput, IsInitial}
use Rattle.btor2.specs.Reachability.{nodes_of, model_shows}
use Rattle.btor2.proofs.AppendLemmas.{some_of, then_parts}
use Rattle.btor2.proofs.StateWords.{carried_word}
use Rattle.btor2.proofs.InitLemmas.{init_not_free, init_words_say}
use Rattle.full.specs.Lines.{Operand, Says, form, FullLine, with_minuses, operands_of, is_form, lines_of, full_nodes, init_of}
use Rattle.full.specs.Agreement.{names_full_state}
use Rattle.full.specs.Runs.{full_shows}
use Rattle.full.specs.WrittenOut.{Places, read_by, HasWord, IsAsItIs, IsByFirstWord, InitIsWritten, IsWrittenOut}
use Rattle.full.proofs.FullLookUps.{init_said}
use Rattle.full.proofs.PlaceLemmas.{placed}
use Rattle.full.proofs.UpLemmas.{run_up}
use Rattle.witness.specs.declared.judgement.Judgement.TheVariants as judgement
use Rattle.witness.specs.Judgements.{FrameWords, Words, verdict}
use Rattle.rises.specs.FirstRises.{first_rises_from}
use Rattle.fulljudge.specs.Shapes.{Leaf, leaves_of, word_count, first_index}
use Rattle.fulljudge.specs.Told.{told, ByIndex, DiffersAt, FirstDiffers}
use Rattle.fulljudge.specs.Judgements.{IsJudged}
use Rattle.fulljudge.specs.Rises.{IsJudgedWithRises}
use Rattle.fulljudge.specs.Written.{AreGiven, ConstantTold, OtherTold, ConstantsTold, OthersTold}
use Rattle.fulljudge.proofs.RunLemmas.{states_named, are_told}

-- ---- bad properties

one_more : (a : ℕ) (minuses : List Bool) → length (with_minuses (a ∷ []) minuses) ≡ 1
one_more a [] = refl
one_more a (m ∷ minuses) = refl

one_operand : (b : Says) → is_form is_bad b ≡ true → length (operands_of b) ≡ 1
one_operand (form (body.Bad a) minuses) h = one_more a minuses
one_operand (form _ minuses) h = absurd (cc)
one_operand _ h = absurd (cc)

bad_lines : (xs : List FullLine) → length (full_nodes is_bad xs) ≡ length (lines_of is_bad xs)
bad_lines [] = refl
bad_lines (x ∷ xs) = by (is_form is_bad x.says) refl (bad_lines xs)
  where
    by : (b : Bool) → is_form is_bad x.says ≡ b → length (full_nodes is_bad xs) ≡ length (lines_of is_bad xs)
        → length (flat_map (λ (y : FullLine). operands_of y.says) (cond b (x ∷ lines_of is_bad xs) (lines_of is_bad xs))) ≡ length (cond b (x ∷ lines_of is_bad xs) (lines_of is_bad xs))
    by true e rest = length-append (operands_of x.says) (full_nodes is_bad xs) ∙ ap₂ (λ (a b : ℕ). a + b) (one_operand x.says e) rest ∙ omega arith
    by false e rest = rest

zip_length : {A B : Type 0} (P : A → B → Type 0) (xs : List A) (ys : List B) → AllZip P xs ys → length xs ≡ length ys
zip_length P [] [] h = refl
zip_length P [] (y ∷ ys) h = absurd h
zip_length P (x ∷ xs) [] h = absurd h
zip_length P (x ∷ xs) (y ∷ ys) h = ap (λ (n : ℕ). suc n) (zip_length P xs ys h.1)

pub bads_alike : (full : List FullLine) (p : Places) (wide : List Item) → IsWrittenOut full p wide → length (nodes_of is_bad wide) ≡ length (lines_of is_bad full)
bads_alike full p wide h = sym (zip_length (HasWord full p wide) (full_nodes is_bad full) (nodes_of is_bad wide) h.bads) ∙ bad_lines full

-- ---- leaves by their places

pub at_index : (Of : ℕ → Leaf → Type 0) (k i : ℕ) (leaves : List Leaf) (l : Leaf) → ByIndex Of k leaves → slice_get leaves i ≡ Some l → Of (k + first_index (map (λ (m : Leaf). m.sort) leaves) i) l
at_index Of k i [] l h e = absurd (none-some l e)
at_index Of k zero (m ∷ leaves) l h e = subst (λ (n : ℕ). Of n l) (omega arith) (subst (Of k) (same_Some m l e) h.0)
at_index Of k (suc i) (m ∷ leaves) l h e =
    subst (λ (n : ℕ). Of n l) (omega arith) (at_index Of (k + word_count m.sort) i leaves l h.1 e)

pub at_first : (Of : ℕ → Leaf → Type 0) (i : ℕ) (leaves : List Leaf) (l : Leaf) → ByIndex Of 0 leaves → slice_get leaves i ≡ Some l → Of (first_index (map (λ (m : Leaf). m.sort) leaves) i) l
at_first Of i leaves l h e = subst (λ (n : ℕ). Of n l) (omega arith) (at_index Of 0 i leaves l h e)

pub all_get : {A : Type 0} (P : A → Type 0) (xs : List A) (i : ℕ) (x : A) → AllByRecursion P xs → slice_get xs i ≡ Some x → P x
all_get P [] i x h e = absurd (none-some x e)
all_get P (y ∷ ys) zero x h e = subst P (same_Some y x e) h.0
all_get P (y ∷ ys) (suc i) x h e = all_get P ys i x h.1 e

-- ---- first rises

-- of so many bad properties, those that are claimed
abbrev pub rises_of : List ℕ → List Shown → ℕ → List (Option ℕ)
rises_of claims shown n = first_rises_from (λ k. list_any (λ c. nat_eq c k) claims) shown 0 n

-- of a state that begins otherwise nothing is said of them
pub differs_rising : (full : List FullLine) (w : Words) (i : ℕ) (firsts : List (Option ℕ)) → IsJudged full w (judgement.InitDiffers i) → IsJudgedWithRises full w (judgement.InitDiffers i) firsts
differs_rising full w i firsts judged = record { judged = judged; rises = λ other. absurd (other i refl) }

-- ---- first words

module _ (full : List FullLine) (p : Places) (wide : List Item) (h : IsWrittenOut full p wide) where
  -- a state whose leaf has an init line has that for its node
  pub node_is_leaf : (id v : ℕ) → names_full_state full id ≡ true → init_value wide (p.leaf id) ≡ Some v → p.node id ≡ p.leaf id
  node_is_leaf id v names begins = by (init_of full id) refl
    where
      by : (o : Option Operand) → init_of full id ≡ o → p.node id ≡ p.leaf id
      by None e = ((placed full p wide id h names).no_init e).0
      by (Some o) e =
          ⊎_elim (λ (same : IsAsItIs full p wide id o). same.same) (λ (choice : IsByFirstWord full p wide id o). absurd (none-some v (sym choice.begins_open ∙ begins)))
          (init_said (InitIsWritten full p wide) full id o h.inits e)

  pub constant_first : (state input g : Frame) (id x : ℕ) → IsInitial wide state → IsFrame wide state input g → names_full_state full id ≡ true → p.node id ≡ p.leaf id → init_word wide (p.leaf id) ≡ Some x → g (p.node id) ≡ x
  constant_first state input g id x initial frame names same begins =
      let init = then_parts (constant_of wide) (init_value wide (p.leaf id)) x begins in
      ap g same ∙ carried_word wide state input g (p.leaf id) frame (placed full p wide id h names).state (init_not_free wide (p.leaf id) init.0 init.1) ∙ sym (init_words_say wide state initial.inits (p.leaf id) x begins)

  first_as_told : (list : List (ℕ × ℕ)) (state input g : Frame) (i : ℕ) (l : Leaf) (o : Operand) → IsInitial wide state → IsFrame wide state input g → names_full_state full l.id ≡ true → init_of full l.id ≡ Some o
      → ConstantTold p wide list i l → OtherTold full p wide list (read_by p g) i l → told list l.sort i (g (p.node l.id)) ≡ g (p.node l.id)
  first_as_told list state input g i l o initial frame names has constant other =
      ⊎_elim
      (λ (same : IsAsItIs full p wide l.id o).
      let word = constant_first state input g l.id same.word initial frame names same.same same.begins in
      ap (told list l.sort i) word ∙ constant same.word same.begins ∙ sym word)
      (λ (choice : IsByFirstWord full p wide l.id o). other (ap is_some has) (ap (option_and_then (constant_of wide)) choice.begins_open))
      (init_said (InitIsWritten full p wide) full l.id o h.inits has)

  none_differs : (list : List (ℕ × ℕ)) (state input g : Frame) (i : ℕ) → IsInitial wide state → IsFrame wide state input g → ByIndex (ConstantTold p wide list) 0 (leaves_of is_state full) → ByIndex (OtherTold full p wide list (read_by p g)) 0 (leaves_of is_state full)
      → DiffersAt full list (read_by p g) i → ⊥
  none_differs list state input g i initial frame constants others differs =
      let l : Leaf = differs.leaf in
      let o = some_of (init_of full l.id) differs.has_init in
      let same = first_as_told list state input g (first_index (map (λ (m : Leaf). m.sort) (leaves_of is_state full)) i) l o.0 initial frame (all_get (λ (m : Leaf). names_full_state full m.id ≡ true) (leaves_of is_state full) i l (states_named full p wide h) differs.there) o.1
      (at_first (ConstantTold p wide list) i (leaves_of is_state full) l constants differs.there) (at_first (OtherTold full p wide list (read_by p g)) i (leaves_of is_state full) l others differs.there) in
      true≢false (sym (eq-eqb _ _ same) ∙ differs.other)

  nowhere : (ws : List FrameWords) (state : Frame) (inputs gs : List Frame) (i : ℕ) → IsInitial wide state → IsTrace wide state inputs gs → ConstantsTold full p wide ws → OthersTold full p wide ws (map (read_by p) gs) → FirstDiffers full ws (map (read_by p) gs) i → ⊥
  nowhere [] state inputs gs i initial trace constants others differs = differs
  nowhere (w ∷ ws) state inputs [] i initial trace constants others differs = differs
  nowhere (w ∷ ws) state [] (g ∷ gs) i initial trace constants others differs = absurd trace
  nowhere (w ∷ ws) state (input ∷ inputs) (g ∷ gs) i initial trace constants others differs = none_differs w.states state input g i initial trace.0 constants others differs

  -- ---- the judgement

  shown_alike : (claims : List ℕ) (gs : List Frame) → map (full_shows full) (map (read_by p) gs) ≡ map (model_shows wide) gs
      → verdict None claims (length (nodes_of is_bad wide)) (map (model_shows wide) gs) ≡ verdict None claims (length (lines_of is_bad full)) (map (full_shows full) (map (read_by p) gs))
  shown_alike claims gs same = ap₂ (λ (n : ℕ) (l : List Shown). verdict None claims n l) (bads_alike full p wide h) (sym same)

  -- by a trace whose words are as is told, with which all first words agree; the first rises in it are those in the run
  pub rising_by_trace : (w : Words) (state : Frame) (inputs gs : List Frame) (firsts : List (Option ℕ)) → IsInitial wide state → AllByRecursion (IsInput wide) inputs → IsTrace wide state inputs gs → AreGiven full p wide state w.frames inputs
      → ConstantsTold full p wide w.frames → OthersTold full p wide w.frames (map (read_by p) gs) → firsts ≡ rises_of w.claims (map (model_shows wide) gs) (length (nodes_of is_bad wide))
      → IsJudgedWithRises full w (verdict None w.claims (length (nodes_of is_bad wide)) (map (model_shows wide) gs)) firsts
  rising_by_trace w state inputs gs firsts initial fit trace given constants others are =
      let run = run_up full p wide state inputs gs h initial fit trace in
      record {
        judged = record {
          frames = map (read_by p) gs;
          run = run.0;
          told = are_told full p wide h w.frames state inputs gs trace given;
          says = inr ((λ i differs. nowhere w.frames state inputs gs i initial trace constants others differs), shown_alike w.claims gs run.1);
        };
        rises = λ same. are ∙ ap₂ (λ (n : ℕ) (l : List Shown). rises_of w.claims l n) (bads_alike full p wide h) (sym run.1);
      }

  pub judged_by_trace : (w : Words) (state : Frame) (inputs gs : List Frame) → IsInitial wide state → AllByRecursion (IsInput wide) inputs → IsTrace wide state inputs gs → AreGiven full p wide state w.frames inputs
      → ConstantsTold full p wide w.frames → OthersTold full p wide w.frames (map (read_by p) gs) → IsJudged full w (verdict None w.claims (length (nodes_of is_bad wide)) (map (model_shows wide) gs))
  judged_by_trace w state inputs gs initial fit trace given constants others = (rising_by_trace w state inputs gs _ initial fit trace given constants others refl).judged

  -- by one with which a first word does not agree
  pub judged_to_differ : (w : Words) (state : Frame) (inputs gs : List Frame) (i : ℕ) → IsInitial wide state → AllByRecursion (IsInput wide) inputs → IsTrace wide state inputs gs → AreGiven full p wide state w.frames inputs
      → FirstDiffers full w.frames (map (read_by p) gs) i → IsJudged full w (judgement.InitDiffers i)
  judged_to_differ w state inputs gs i initial fit trace given differs =
      record {
        frames = map (read_by p) gs;
        run = (run_up full p wide state inputs gs h initial fit trace).0;
        told = are_told full p wide h w.frames state inputs gs trace given;
        says = inl (i, refl, differs);
      }
