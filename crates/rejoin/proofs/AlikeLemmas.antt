-- Words that say the same over a list and over the model that it is fitted into are judged alike.
use Rattle.std.proofs.Common.{◌≡◌, ℕ, Bool, List, [], ◌∷◌, map, filter, length, Option, Some, None, option_map, refl, sym, ap, ap₂, ◌∙◌}
use Rattle.std.specs.List.{AllZip}
use Rattle.std.proofs.lemmas.List.{length-map}
use Rattle.base.specs.Shown.{Shown}
use Rattle.btor2.specs.declared.item.Item.{Item}
use Rattle.btor2.specs.Items.{is_bad, is_input, is_state}
use Rattle.btor2.specs.Reachability.{nodes_of, model_shows}
use Rattle.fit.specs.Fitting.{Layout, IsFittingOf, MakesInput}
use Rattle.fit.proofs.LawLemmas.{trace_below}
use Rattle.runs.proofs.RankLemmas.{length-places}
use Rattle.witness.specs.declared.judgement.Judgement.{Judgement}
use Rattle.witness.specs.Texts.{Shape, shape_of, widths_of, free_of}
use Rattle.witness.specs.Judgements.{FrameWords, Words, initial_words, given_words, given_frames, first_different, Violation, violation_from, unreached_from, first_of, verdict, JudgesWords}
use Rattle.witness.proofs.FrameLemmas.{bad_names, length-nodes}
use Rattle.rejoin.specs.Pieces.{owner, cut_shape, joined_judgement}
use Rattle.fitting.specs.Models.{IsFit}
use Rattle.rejoin.specs.Alike.{FrameAlike, AreAlike}
use Rattle.rejoin.proofs.ShapeLemmas.{state_widths, input_widths, free_states}
use Rattle.rejoin.proofs.BeginLemmas.{first_alike}

-- ---- bad properties

bads_alike : (wide narrow : List Item) (layout : Layout) → IsFittingOf wide layout narrow → length (nodes_of is_bad narrow) ≡ length (nodes_of is_bad wide)
bads_alike wide narrow layout fit = sym (length-map (nodes_of is_bad narrow) (λ p. p ∷ [])) ∙ sym (ap length fit.bads) ∙ length-map (nodes_of is_bad wide) layout

pub bad_nodes : (items : List Item) → length (nodes_of is_bad items) ≡ length (filter (λ (x : Item). is_bad x.body) items)
bad_nodes items = length-nodes is_bad items bad_names ∙ length-places is_bad 0 items

-- ---- the shape

shape_by : ℕ → List ℕ → List Bool → List ℕ → Shape
shape_by bads states free inputs = record { bads = bads; states = states; free = free; inputs = inputs }

pub shapes_cut : (wide narrow : List Item) → IsFit wide narrow → shape_of narrow ≡ cut_shape (shape_of wide)
unfolding shape_by
shapes_cut wide narrow fit =
    let bads : (shape_of narrow).bads ≡ (shape_of wide).bads = sym (bad_nodes narrow) ∙ bads_alike wide narrow fit.layout fit.fits ∙ bad_nodes wide in
    let cut : Shape = cut_shape (shape_of wide) in
    ap (λ (n : ℕ). shape_by n (widths_of is_state narrow) (free_of narrow) (widths_of is_input narrow)) bads
    ∙ ap (λ (l : List ℕ). shape_by cut.bads l (free_of narrow) (widths_of is_input narrow)) (state_widths wide narrow fit)
    ∙ ap₂ (shape_by cut.bads cut.states) (free_states wide narrow fit) (input_widths wide narrow fit)

-- ---- the judgement

joined_first : (shape : Shape) (different : Option ℕ) (breach : Option Violation) (unreached : Option ℕ) (n : ℕ)
    → joined_judgement shape (first_of different breach unreached n) ≡ first_of (option_map (owner shape.states) different) breach unreached n
joined_first shape (Some k) breach unreached n = refl
joined_first shape None (Some v) unreached n = refl
joined_first shape None None (Some claim) n = refl
joined_first shape None None None n = refl

inputs_made : (wide narrow : List Item) (layout : Layout) (fs gs : List FrameWords) → AllZip (FrameAlike wide layout narrow) fs gs → AllZip (MakesInput wide layout narrow) (map (given_words wide) fs) (map (given_words narrow) gs)
inputs_made wide narrow layout [] [] h = tt
inputs_made wide narrow layout [] (g ∷ gs) h = absurd h
inputs_made wide narrow layout (f ∷ fs) [] h = absurd h
inputs_made wide narrow layout (f ∷ fs) (g ∷ gs) h = ((h.0.fits, h.0.makes), inputs_made wide narrow layout fs gs h.1)

pub alike_judged : (wide narrow : List Item) (fit : IsFit wide narrow) (w v : Words) (j : Judgement) → AreAlike wide fit.layout narrow w v → JudgesWords narrow v j → JudgesWords wide w (joined_judgement (shape_of wide) j)
alike_judged wide narrow fit w v j alike judges fs trace =
    let below = trace_below wide narrow fit.layout fit.fits (initial_words wide w) (initial_words narrow v) (given_frames wide w) (given_frames narrow v) fs alike.makes alike.fits (inputs_made wide narrow fit.layout w.frames v.frames alike.frames) trace in
    let shown : List Shown = map (model_shows wide) fs in
    let different = first_alike wide narrow fit (initial_words wide w) (initial_words narrow v) alike.makes alike.fits in
    ap (joined_judgement (shape_of wide)) (judges below.0 below.1)
    ∙ joined_first (shape_of wide) (first_different narrow (initial_words narrow v)) (violation_from 0 (map (model_shows narrow) below.0)) (unreached_from v.claims (map (model_shows narrow) below.0) 0 (length (nodes_of is_bad narrow))) (length (map (model_shows narrow) below.0))
    ∙ ap (λ (l : List Shown). verdict (option_map (owner (shape_of wide).states) (first_different narrow (initial_words narrow v))) v.claims (length (nodes_of is_bad narrow)) l) below.2
    ∙ ap (λ (o : Option ℕ). verdict o v.claims (length (nodes_of is_bad narrow)) shown) (sym different)
    ∙ ap₂ (λ (claims : List ℕ) (n : ℕ). verdict (first_different wide (initial_words wide w)) claims n shown) alike.claims (bads_alike wide narrow fit.layout fit.fits)
