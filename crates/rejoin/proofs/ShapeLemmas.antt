-- The widths of the pieces of all inputs or states of a list, and which are free, are those of the list cut.
use Rattle.std.proofs.Common.{◌≡◌, ℕ, Bool, List, [], ◌∷◌, ◌++◌, map, flat_map, filter, length, replicate, refl, sym, ap, ap₂, subst, ◌∙◌}
use Rattle.std.specs.List.{AllByRecursion}
use Rattle.std.proofs.lemmas.List.{map-append}
use Rattle.btor2.specs.declared.item.Item.{Item}
use Rattle.btor2.specs.declared.item.Body.{Body}
use Rattle.btor2.specs.Items.{is_input, is_state, is_free}
use Rattle.btor2.specs.Trace.{bits_of}
use Rattle.fit.specs.Fitting.{Layout, ids_of}
use Rattle.fit.proofs.ListLemmas.{all_with, all_both}
use Rattle.witness.specs.Texts.{widths_of, free_of}
use Rattle.rejoin.specs.Pieces.{piece_count, cut_width, repeated}
use Rattle.fitting.specs.Models.{input_ids, state_ids, IsFit}
use Rattle.rejoin.proofs.CutWordLemmas.{count_of_cut}
use Rattle.rejoin.proofs.PieceIndexLemmas.{HaveCounts}
use Rattle.rejoin.proofs.LeafLemmas.{IsCutTo, states_cut_to, inputs_cut_to, FreeAlike, free_alike}

-- ---- over lists

pub map_ids : {A : Type 0} (f : ℕ → A) (xs : List Item) → map (λ x. f x.id) xs ≡ map f (map (λ x. x.id) xs)
map_ids f [] = refl
map_ids f (x ∷ xs) = ap (λ l. f x.id ∷ l) (map_ids f xs)

cut_pieces : (f g : ℕ → ℕ) (pieces : ℕ → List ℕ) (ids : List ℕ) → AllByRecursion (λ k. map f (pieces k) ≡ cut_width (g k)) ids → map f (flat_map pieces ids) ≡ flat_map cut_width (map g ids)
cut_pieces f g pieces [] h = refl
cut_pieces f g pieces (k ∷ ids) h = map-append f (pieces k) (flat_map pieces ids) ∙ ap₂ ◌++◌ h.0 (cut_pieces f g pieces ids h.1)

all_alike : (f : ℕ → Bool) (b : Bool) (ps : List ℕ) → AllByRecursion (λ p. f p ≡ b) ps → map f ps ≡ replicate (length ps) b
all_alike f b [] h = refl
all_alike f b (p ∷ ps) h = ap₂ ◌∷◌ h.0 (all_alike f b ps h.1)

repeated_pieces : (f g : ℕ → Bool) (bits : ℕ → ℕ) (pieces : ℕ → List ℕ) (ids : List ℕ) → AllByRecursion (λ k. AllByRecursion (λ p. f p ≡ g k) (pieces k) × (length (pieces k) ≡ piece_count (bits k))) ids
    → map f (flat_map pieces ids) ≡ repeated (map bits ids) (map g ids)
repeated_pieces f g bits pieces [] h = refl
repeated_pieces f g bits pieces (k ∷ ids) h =
    map-append f (pieces k) (flat_map pieces ids)
    ∙ ap₂ ◌++◌ (all_alike f (g k) (pieces k) h.0.0 ∙ ap (λ (n : ℕ). replicate n (g k)) h.0.1) (repeated_pieces f g bits pieces ids h.1)

have_counts : (bits : ℕ → ℕ) (pieces : ℕ → List ℕ) (ids : List ℕ) → AllByRecursion (λ k. length (pieces k) ≡ piece_count (bits k)) ids → HaveCounts pieces ids (map bits ids)
have_counts bits pieces [] h = refl
have_counts bits pieces (k ∷ ids) h = (h.0, have_counts bits pieces ids h.1)

-- ---- over the leaves of a list

-- as many pieces as the width says
counts_of : (wide narrow : List Item) (layout : Layout) (ids : List ℕ) → AllByRecursion (IsCutTo wide layout narrow) ids → AllByRecursion (λ k. length (layout k) ≡ piece_count (bits_of wide k)) ids
counts_of wide narrow layout ids h = all_with (IsCutTo wide layout narrow) (λ k. length (layout k) ≡ piece_count (bits_of wide k)) ids (λ k e. count_of_cut (bits_of narrow) (layout k) (bits_of wide k) e) h

kind_counts : (kind : Body → Bool) (wide narrow : List Item) (layout : Layout) → AllByRecursion (IsCutTo wide layout narrow) (ids_of (λ x. kind x.body) wide)
    → HaveCounts layout (ids_of (λ x. kind x.body) wide) (widths_of kind wide)
kind_counts kind wide narrow layout cuts =
    subst (HaveCounts layout (ids_of (λ x. kind x.body) wide)) (sym (map_ids (bits_of wide) (filter (λ x. kind x.body) wide)))
    (have_counts (bits_of wide) layout (ids_of (λ x. kind x.body) wide) (counts_of wide narrow layout (ids_of (λ x. kind x.body) wide) cuts))

pub state_counts : (wide narrow : List Item) (fit : IsFit wide narrow) → HaveCounts fit.layout (state_ids wide) (widths_of is_state wide)
state_counts wide narrow fit = kind_counts is_state wide narrow fit.layout (states_cut_to wide narrow fit)

pub input_counts : (wide narrow : List Item) (fit : IsFit wide narrow) → HaveCounts fit.layout (input_ids wide) (widths_of is_input wide)
input_counts wide narrow fit = kind_counts is_input wide narrow fit.layout (inputs_cut_to wide narrow fit)

kind_widths : (kind : Body → Bool) (wide narrow : List Item) (layout : Layout) → flat_map layout (ids_of (λ x. kind x.body) wide) ≡ ids_of (λ x. kind x.body) narrow
    → AllByRecursion (IsCutTo wide layout narrow) (ids_of (λ x. kind x.body) wide) → widths_of kind narrow ≡ flat_map cut_width (widths_of kind wide)
kind_widths kind wide narrow layout same cuts =
    map_ids (bits_of narrow) (filter (λ x. kind x.body) narrow) ∙ ap (map (bits_of narrow)) (sym same) ∙ cut_pieces (bits_of narrow) (bits_of wide) layout (ids_of (λ x. kind x.body) wide) cuts
    ∙ ap (flat_map cut_width) (sym (map_ids (bits_of wide) (filter (λ x. kind x.body) wide)))

pub state_widths : (wide narrow : List Item) → IsFit wide narrow → widths_of is_state narrow ≡ flat_map cut_width (widths_of is_state wide)
state_widths wide narrow fit = kind_widths is_state wide narrow fit.layout fit.states (states_cut_to wide narrow fit)

pub input_widths : (wide narrow : List Item) → IsFit wide narrow → widths_of is_input narrow ≡ flat_map cut_width (widths_of is_input wide)
input_widths wide narrow fit = kind_widths is_input wide narrow fit.layout fit.inputs (inputs_cut_to wide narrow fit)

pub free_states : (wide narrow : List Item) → IsFit wide narrow → free_of narrow ≡ repeated (widths_of is_state wide) (free_of wide)
free_states wide narrow fit =
    map_ids (is_free narrow) (filter (λ x. is_state x.body) narrow) ∙ ap (map (is_free narrow)) (sym fit.states)
    ∙ repeated_pieces (is_free narrow) (is_free wide) (bits_of wide) fit.layout (state_ids wide)
    (all_both (FreeAlike wide fit.layout narrow) (λ k. length (fit.layout k) ≡ piece_count (bits_of wide k)) (state_ids wide) (free_alike wide narrow fit.layout fit.fits) (counts_of wide narrow fit.layout (state_ids wide) (states_cut_to wide narrow fit)))
    ∙ ap₂ repeated (sym (map_ids (bits_of wide) (filter (λ x. is_state x.body) wide))) (sym (map_ids (is_free wide) (filter (λ x. is_state x.body) wide)))
