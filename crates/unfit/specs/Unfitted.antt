-- The text over a model with words of any width that says what the admitted lines of a text over the fitted model say.
use Rattle.std.specs.Prelude.{ℕ, suc, List, [], ◌∷◌, ◌++◌, Option, Some, None, codes, decimal, map, filter, option_map, length, slice_index}
use Rattle.base.specs.Lines.{text_of_lines}
use Rattle.btor2.specs.declared.item.Item.{Item}
use Rattle.witness.specs.declared.judgement.Judgement.{Judgement}
use Rattle.witness.specs.declared.judgement.Judgement.TheVariants as judgement
use Rattle.witness.specs.Texts.{Shape, Assignment, Parts, binary, symbol_part, claims_line, states_lines, frame_lines}
use Rattle.witness.specs.Admits.{Read, Place, AtStatus, AtClaims, AtParts, InStates, InFrame, AtEnd}
use Rattle.witness.specs.ClosedWords.{said_in}
use Rattle.witness.specs.Judgements.{Judges}
use Rattle.unfit.specs.Joined.{Wide, Fronts, Lined, front_at, is_told, join_frames, join_states}

-- the lines that say what is read up to a place, without comments, and without the part that is open
abbrev pub said_lines : Shape → Read → Place → List (List ℕ)
said_lines shape r AtStatus = []
said_lines shape r AtClaims = codes "sat" ∷ []
said_lines shape r AtParts = codes "sat" ∷ claims_line r.claims ∷ []
said_lines shape r InStates = codes "sat" ∷ claims_line r.claims ∷ frame_lines shape 0 r.closed
said_lines shape r InFrame = codes "sat" ∷ claims_line r.claims ∷ (frame_lines shape 0 r.closed ++ states_lines shape.states (length r.closed) r.states)
said_lines shape r AtEnd = codes "sat" ∷ claims_line r.claims ∷ (frame_lines shape 0 r.closed ++ codes "." ∷ [])

-- what is read over the fitted model, as what is read over the model with words of any width; of what is open nothing is said
abbrev pub join_read : Wide → List Item → Read → Read
join_read w narrow r =
    record r {
      closed = join_frames w narrow 0 r.closed;
      states = option_map (join_states w narrow (length r.closed)) r.states;
      open_part = [];
    }

-- the lines that say it
abbrev pub unfit_lines : Wide → List Item → Read → List (List ℕ)
unfit_lines w narrow r = said_lines w.shape (join_read w narrow r) r.place

-- the text that says what the lines of a text over the fitted model say that stand before the first faulty one, or all. Where the text makes no claim nothing is said
unfoldable pub unfit_text : Wide → List Item → List ℕ → List ℕ
unfit_text w narrow text = text_of_lines (unfit_lines w narrow (said_in narrow text))

-- ---- the same where other bytes than its index stand before the digits of a word

-- the line of a word in frame k: what stands before its digits, these, and its name; and those of the words that are told there
abbrev pub line_with : Fronts → ℕ → List ℕ → Assignment → List ℕ
line_with fronts k widths a = front_at fronts k a.index ++ 32 ∷ binary (slice_index widths a.index) a.word ++ symbol_part a.symbol

abbrev pub told_lines : Fronts → ℕ → List ℕ → List Assignment → List (List ℕ)
told_lines fronts k widths list = map (line_with fronts k widths) (filter (λ a. is_told fronts k a.index) list)

-- the lines of a part of states, and those of frames from frame k on
abbrev pub states_lines_with : Fronts → List ℕ → ℕ → Option (List Assignment) → List (List ℕ)
states_lines_with fronts widths k None = []
states_lines_with fronts widths k (Some list) = (35 ∷ decimal k) ∷ told_lines fronts k widths list

abbrev pub frame_lines_with : Lined → ℕ → List Parts → List (List ℕ)
frame_lines_with l k [] = []
frame_lines_with l k (parts ∷ more) =
    states_lines_with l.states l.wide.shape.states k parts.states ++ ((64 ∷ decimal k) ∷ (told_lines l.inputs k l.wide.shape.inputs parts.inputs ++ frame_lines_with l (suc k) more))

-- the lines that say what is read up to a place, as `said_lines` has them
abbrev pub said_lines_with : Lined → Read → Place → List (List ℕ)
said_lines_with l r AtStatus = []
said_lines_with l r AtClaims = codes "sat" ∷ []
said_lines_with l r AtParts = codes "sat" ∷ claims_line r.claims ∷ []
said_lines_with l r InStates = codes "sat" ∷ claims_line r.claims ∷ frame_lines_with l 0 r.closed
said_lines_with l r InFrame = codes "sat" ∷ claims_line r.claims ∷ (frame_lines_with l 0 r.closed ++ states_lines_with l.states l.wide.shape.states (length r.closed) r.states)
said_lines_with l r AtEnd = codes "sat" ∷ claims_line r.claims ∷ (frame_lines_with l 0 r.closed ++ codes "." ∷ [])

-- those of what is joined
abbrev pub unfit_lines_with : Lined → List Item → Read → List (List ℕ)
unfit_lines_with l narrow r = said_lines_with l (join_read l.wide narrow r) r.place

-- the text that says, with these bytes before the digits of words, what `unfit_text` says by indices
unfoldable pub unfit_text_with : Lined → List Item → List ℕ → List ℕ
unfit_text_with l narrow text = text_of_lines (unfit_lines_with l narrow (said_in narrow text))

-- ---- judgements

-- a judgement of a witness, by a run
abbrev pub IsOfWitness : Judgement → Type 0
IsOfWitness judgement.NoClaim = ⊥
IsOfWitness (judgement.Malformed line why) = ⊥
IsOfWitness _ = Unit {0}

-- what is judged of a text, where that says a witness, is judged of another over a model with words of any width
abbrev pub KeepsJudgement : List Item → List ℕ → Judgement → Type 0
KeepsJudgement wide written j = IsOfWitness j → Judges wide written j
