-- Worked dumps of texts.
use Rattle.std.proofs.Common.{◌≡◌, ℕ, List, [], ◌∷◌, ◌++◌, ◌==◌, cond, codes, refl, ap, ◌∙◌}
use Rattle.std.specs.Fmt.{digits}
use Rattle.base.specs.Lines.{text_of_lines}
use Rattle.base.specs.Operator.{unary_value}
use Rattle.base.specs.declared.operators.Unary.TheVariants as unary
use Rattle.std.proofs.lemmas.List.Elements.{All-nil, All-cons}
use Rattle.btor2.specs.declared.item.Item.{Item}
use Rattle.btor2.specs.Trace.{Frame, IsTrace}
use Rattle.btor2.specs.declared.item.Body.TheVariants as body
use Rattle.btor2.specs.Worked.{line, toggler_model, follower}
use Rattle.witness.specs.Judgements.{FrameWords, Words, initial_words, given_frames}
use Rattle.vcd.specs.declared.scope.Shown.TheVariants as shown
use Rattle.vcd.specs.Signals.{signals, signal_word}
use Rattle.vcd.specs.Dumps.{declaration_lines, vcd_text}
use Rattle.vcd.proofs.DumpLemmas.{Agree, dumps_agree}

abbrev no_words : FrameWords
no_words = record { states = []; inputs = [] }

-- nothing is given, for two frames, and for one
abbrev pub two_frames : Words
two_frames = record { claims = 0 ∷ []; frames = no_words ∷ no_words ∷ [] }

abbrev pub one_frame : Words
one_frame = record { claims = 0 ∷ []; frames = no_words ∷ [] }

-- the bit negated
not_word : (f : Frame) (x : ℕ) → f 3 ≡ x → f 5 ≡ unary_value unary.Not 1 (f 3) → f 5 ≡ unary_value unary.Not 1 x
not_word f x bit is = is ∙ ap (λ (y : ℕ). unary_value unary.Not 1 y) bit

-- frames agree at the signals of the two models
abbrev Same : Frame → Frame → Item → Type 0
Same f g x = signal_word f x ≡ signal_word g x

toggler_agrees : (f g : Frame) → f 3 ≡ g 3 → Agree (signals shown.Named toggler_model) f g
toggler_agrees f g e = All-cons (Same f g) (line 3 (body.State 1)) (line 7 (body.Bad 3) ∷ []) e (All-cons (Same f g) (line 7 (body.Bad 3)) [] e (All-nil (Same f g)))

follower_agrees : (f g : Frame) → f 4 ≡ g 4 → f 2 ≡ g 2 → f 3 ≡ g 3 → Agree (signals shown.Named follower) f g
follower_agrees f g input free state =
    All-cons (Same f g) (line 4 (body.Input 1)) (line 2 (body.State 1) ∷ line 3 (body.State 1) ∷ line 6 (body.Bad 3) ∷ []) input
    (All-cons (Same f g) (line 2 (body.State 1)) (line 3 (body.State 1) ∷ line 6 (body.Bad 3) ∷ []) free
    (All-cons (Same f g) (line 3 (body.State 1)) (line 6 (body.Bad 3) ∷ []) state (All-cons (Same f g) (line 6 (body.Bad 3)) [] state (All-nil (Same f g)))))

pub toggles_dump : (fs : List Frame) → IsTrace toggler_model (initial_words toggler_model two_frames) (given_frames toggler_model two_frames) fs
    → vcd_text shown.Named [] toggler_model fs ≡ text_of_lines (declaration_lines shown.Named [] toggler_model) ++ codes "#0\n0n3\n0n7\n#1\n1n3\n1n7\n#2\n"
unfolding digits vcd_text
toggles_dump [] t = absurd t
toggles_dump (f ∷ []) t = absurd t.1
toggles_dump (f ∷ g ∷ []) t =
    let first : f 3 ≡ 0 = t.0.1.1.0 in
    let negated : f 5 ≡ 1 = not_word f 0 first t.0.1.1.1.1.0 in
    let second : g 3 ≡ 1 = t.1.0.1.1.0 ∙ negated in
    dumps_agree shown.Named [] toggler_model (f ∷ g ∷ []) ((λ id. 0) ∷ (λ id. 1) ∷ []) (toggler_agrees f (λ id. 0) first, (toggler_agrees g (λ id. 1) second, tt))
toggles_dump (f ∷ g ∷ h ∷ fs) t = absurd t.1.1

pub cut_dump : (fs : List Frame) → IsTrace toggler_model (initial_words toggler_model one_frame) (given_frames toggler_model one_frame) fs
    → vcd_text shown.Named [] toggler_model fs ≡ text_of_lines (declaration_lines shown.Named [] toggler_model) ++ codes "#0\n0n3\n0n7\n#1\n"
unfolding digits vcd_text
cut_dump [] t = absurd t
cut_dump (f ∷ []) t =
    let first : f 3 ≡ 0 = t.0.1.1.0 in
    rw first refl
cut_dump (f ∷ g ∷ fs) t = absurd t.1

pub no_dump : (fs : List Frame) → IsTrace toggler_model (initial_words toggler_model (record { claims = []; frames = [] })) [] fs → vcd_text shown.Named [] toggler_model fs ≡ text_of_lines (declaration_lines shown.Named [] toggler_model)
unfolding digits vcd_text
no_dump [] t = refl
no_dump (f ∷ fs) t = absurd t

-- a frame of the words of three nodes
abbrev three : ℕ → ℕ → ℕ → Frame
three a b c id = cond (id == 2) a (cond (id == 3) b c)

-- a free state is given 1 and then 0
abbrev pub free_words : Words
free_words = record { claims = 0 ∷ []; frames = record { states = (0, 1) ∷ []; inputs = [] } ∷ record { states = (0, 0) ∷ []; inputs = [] } ∷ [] }

pub follows_dump : (fs : List Frame) → IsTrace follower (initial_words follower free_words) (given_frames follower free_words) fs
    → vcd_text shown.Named [] follower fs ≡ text_of_lines (declaration_lines shown.Named [] follower) ++ codes "#0\n0n4\n1n2\n0n3\n0n6\n#1\n0n2\n1n3\n1n6\n#2\n"
unfolding digits vcd_text
follows_dump [] t = absurd t
follows_dump (f ∷ []) t = absurd t.1
follows_dump (f ∷ g ∷ []) t =
    let free : f 2 ≡ 1 = t.0.1.0 in
    let first : f 3 ≡ 0 = t.0.1.1.0 in
    let input : f 4 ≡ 0 = t.0.1.1.1.0 in
    let later : g 2 ≡ 0 = t.1.0.1.0 in
    let second : g 3 ≡ 1 = t.1.0.1.1.0 ∙ free in
    let again : g 4 ≡ 0 = t.1.0.1.1.1.0 in
    dumps_agree shown.Named [] follower (f ∷ g ∷ []) (three 1 0 0 ∷ three 0 1 0 ∷ []) (follower_agrees f (three 1 0 0) input free first, (follower_agrees g (three 0 1 0) again later second, tt))
follows_dump (f ∷ g ∷ h ∷ fs) t = absurd t.1.1
