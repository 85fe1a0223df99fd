-- Lines that pieces carry.
use Rattle.std.proofs.Common.{◌≡◌, ℕ, Bool, true, false, cond, List, [], ◌∷◌, ◌++◌, map, flat_map, Option, Some, None, IfSome, append-nil, refl, sym, ap, subst, ◌∙◌}
use Rattle.std.specs.List.{AllByRecursion, AllZip}
use Rattle.btor2.specs.declared.item.Item.{Item}
use Rattle.btor2.specs.declared.item.Body.{Body}
use Rattle.btor2.specs.declared.item.Body.TheVariants as body
use Rattle.btor2.specs.Items.{find_item, is_input, is_state, is_free, next_value}
use Rattle.btor2.specs.Trace.{Frame, bits_of, line_word, LineHolds, IsFrame, IsInput, IsState}
use Rattle.btor2.specs.Reachability.{nodes_of}
use Rattle.btor2.proofs.ModelLemmas.{IsIn-from_find}
use Rattle.btor2.proofs.TraceLemmas.{line_among}
use Rattle.btor2.proofs.StateWords.{carried_word, free_word}
use Rattle.wide.specs.WideModels.{greatest_width, IsWideModel}
use Rattle.fit.specs.Fitting.{Layout, pieces_word, joined, is_output, Carries, next_pieces, NextIsByPieces, MakesNode, TakesNext, NextIsCarried, OutputsAreCarried, IsInputPiece, IsStatePiece}
use Rattle.fit.specs.Gives.{InFrames, Gives}
use Rattle.fit.proofs.ListLemmas.{all_with}
use Rattle.fit.proofs.PieceLemmas.{word_same}

-- what holds in each frame that goes on holds in the frames of the list itself
pub in_own_frames : (items : List Item) (Says : Frame → Type 0) → InFrames items Says → (state input g : Frame) → IsWideModel greatest_width items → IsState items state → IsInput items input → IsFrame items state input g → Says g
in_own_frames items Says h state input g = subst (λ (l : List Item). IsWideModel greatest_width l → IsState l state → IsInput l input → IsFrame l state input g → Says g) (append-nil items) (h [] state input g)

pub carries_word : (wide narrow : List Item) (layout : Layout) (x : Item) (bits : ℕ) (value : Frame → ℕ) → IsWideModel greatest_width narrow
    → ((state input g : Frame) → line_word wide state input (joined narrow layout g) x.id x.body ≡ Some (value g)) → Gives narrow bits value (layout x.id) → Carries wide layout narrow x
carries_word wide narrow layout x bits value w says gives state input g states inputs frame =
    let own = in_own_frames narrow (λ g. pieces_word (bits_of narrow) g (layout x.id) ≡ value g) gives.word state input g w states inputs frame in
    subst (λ (o : Option ℕ). IfSome o (λ (v : ℕ). joined narrow layout g x.id ≡ v)) (sym (says (joined narrow layout state) (joined narrow layout input) g)) own

pub carries_no_word : (wide narrow : List Item) (layout : Layout) (x : Item) → ((state input f : Frame) → line_word wide state input f x.id x.body ≡ None) → Carries wide layout narrow x
carries_no_word wide narrow layout x none state input g states inputs frame =
    subst (λ (o : Option ℕ). IfSome o (λ (v : ℕ). joined narrow layout g x.id ≡ v)) (sym (none (joined narrow layout state) (joined narrow layout input) (joined narrow layout g))) tt

-- ---- lines that are found

pub line_found : (items : List Item) (state input g : Frame) (id : ℕ) (x : Item) → IsFrame items state input g → find_item items id ≡ Some x → LineHolds items state input g id x.body
line_found items state input g id x frame found =
    let at = IsIn-from_find items id x found in
    let line = line_among items state input g at.0.before at.0.after x (subst (AllByRecursion (λ (y : Item). LineHolds items state input g y.id y.body)) at.0.splits frame) in
    subst (λ (k : ℕ). LineHolds items state input g k x.body) (sym at.1) line

-- ---- leaves

input_holds : (items : List Item) (state input f : Frame) (id : ℕ) (b : Body) → is_input b ≡ true → LineHolds items state input f id b → f id ≡ input id
input_holds items state input f id (body.Input s) is h = h
input_holds items state input f id _ is h = absurd (cc)

input_says : (items : List Item) (state input f : Frame) (id : ℕ) (b : Body) → is_input b ≡ true → f id ≡ input id → LineHolds items state input f id b
input_says items state input f id (body.Input s) is h = h
input_says items state input f id _ is h = absurd (cc)

input_word : (items : List Item) (state input g : Frame) (p : ℕ) → IsFrame items state input g → IsInputPiece items p → g p ≡ input p
input_word items state input g p frame h = input_holds items state input g p h.0.body h.2 (line_found items state input g p h.0 frame h.1)

pub carries_input : (wide narrow : List Item) (layout : Layout) (x : Item) → is_input x.body ≡ true → AllByRecursion (IsInputPiece narrow) (layout x.id) → Carries wide layout narrow x
carries_input wide narrow layout x is lines state input g states inputs frame =
    input_says wide (joined narrow layout state) (joined narrow layout input) (joined narrow layout g) x.id x.body is
    (word_same (bits_of narrow) g input (layout x.id) (all_with (IsInputPiece narrow) (λ p. g p ≡ input p) (layout x.id) (λ p line. input_word narrow state input g p frame line) lines))

state_says : (items : List Item) (state input f : Frame) (id : ℕ) (b : Body) → is_state b ≡ true → f id ≡ cond (is_free items id) (input id) (state id) → LineHolds items state input f id b
state_says items state input f id (body.State s) is h = h
state_says items state input f id _ is h = absurd (cc)

pub carries_state : (wide narrow : List Item) (layout : Layout) (x : Item) → is_state x.body ≡ true → AllByRecursion (IsStatePiece narrow (is_free wide x.id)) (layout x.id) → Carries wide layout narrow x
carries_state wide narrow layout x is pieces state input g states inputs frame =
    state_says wide (joined narrow layout state) (joined narrow layout input) (joined narrow layout g) x.id x.body is (by (is_free wide x.id) pieces)
  where
    by : (free : Bool) → AllByRecursion (IsStatePiece narrow free) (layout x.id) → joined narrow layout g x.id ≡ cond free (joined narrow layout input x.id) (joined narrow layout state x.id)
    by true pieces =
        word_same (bits_of narrow) g input (layout x.id)
        (all_with (IsStatePiece narrow true) (λ p. g p ≡ input p) (layout x.id) (λ p piece. free_word narrow state input g p frame piece.0 piece.1) pieces)
    by false pieces =
        word_same (bits_of narrow) g state (layout x.id)
        (all_with (IsStatePiece narrow false) (λ p. g p ≡ state p) (layout x.id) (λ p piece. carried_word narrow state input g p frame piece.0 piece.1) pieces)

-- ---- next lines and outputs by pieces

makes_itself : (narrow : List Item) (layout : Layout) (v : ℕ) → MakesNode layout narrow v (layout v)
makes_itself narrow layout v state input g states inputs frame = refl

next_by : (narrow : List Item) (layout : Layout) (o : Option ℕ) (ps : List ℕ) → map (next_value narrow) ps ≡ next_pieces layout o ps → TakesNext layout narrow o ps
next_by narrow layout None ps e = e
next_by narrow layout (Some v) ps e = (layout v, e, makes_itself narrow layout v)

-- the pieces of the next node make its word
pub next_by_pieces : (wide narrow : List Item) (layout : Layout) (id : ℕ) → NextIsByPieces wide layout narrow id → NextIsCarried wide layout narrow id
next_by_pieces wide narrow layout id e = next_by narrow layout (next_value wide id) (layout id) e

all_pieces_of : (layout : Layout) (ws : List ℕ) → flat_map (λ ps. ps) (map layout ws) ≡ flat_map layout ws
all_pieces_of layout [] = refl
all_pieces_of layout (w ∷ ws) = ap (λ (l : List ℕ). layout w ++ l) (all_pieces_of layout ws)

each_makes : (narrow : List Item) (layout : Layout) (ws : List ℕ) → AllZip (MakesNode layout narrow) ws (map layout ws)
each_makes narrow layout [] = tt
each_makes narrow layout (w ∷ ws) = (makes_itself narrow layout w, each_makes narrow layout ws)

-- so do the pieces of the nodes of outputs
pub outputs_by_pieces : (wide narrow : List Item) (layout : Layout) → flat_map layout (nodes_of is_output wide) ≡ nodes_of is_output narrow → OutputsAreCarried wide layout narrow
outputs_by_pieces wide narrow layout e = (map layout (nodes_of is_output wide), all_pieces_of layout (nodes_of is_output wide) ∙ e, each_makes narrow layout (nodes_of is_output wide))
