-- The lines of frames, one frame behind the other, and frames that are joined.
use Rattle.std.proofs.Common.{◌≡◌, ℕ, suc, ◌+◌, true, filter, List, [], ◌∷◌, ◌++◌, Option, Some, None, codes, decimal, length, map, refl, sym, ap, ap₂, ◌∙◌, append_assoc, append-nil, arith}
use Rattle.std.proofs.lemmas.List.Concat.{flat_map-append}
use Rattle.base.specs.Lines.{text_of_lines}
use Rattle.btor2.specs.declared.item.Item.{Item}
use Rattle.witness.specs.Texts.{Assignment, Parts, assignment_line, states_lines, frame_lines, claims_line}
use Rattle.witness.specs.Admits.{Place, AtStatus, AtClaims, AtParts, InStates, InFrame, AtEnd, Read}
use Rattle.witness.specs.ClosedWords.{said_in}
use Rattle.witness.proofs.ReadLemmas.{parts_of}
use Rattle.unfit.specs.Joined.{Wide, by_index, Lined, plain, join_parts, join_frames}
use Rattle.unfit.specs.Unfitted.{told_lines, states_lines_with, frame_lines_with, said_lines, said_lines_with, join_read, unfit_text, unfit_text_with}

-- ---- frames that are joined

pub length-joined : (w : Wide) (narrow : List Item) (k : ℕ) (frames : List Parts) → length (join_frames w narrow k frames) ≡ length frames
length-joined w narrow k [] = refl
length-joined w narrow k (parts ∷ more) = ap (λ (n : ℕ). suc n) (length-joined w narrow (suc k) more)

pub joined_more : (w : Wide) (narrow : List Item) (k : ℕ) (frames : List Parts) (parts : Parts) → join_frames w narrow k (frames ++ parts ∷ []) ≡ join_frames w narrow k frames ++ join_parts w narrow (k + length frames) parts ∷ []
joined_more w narrow k [] parts = let count : k ≡ k + 0 = omega arith in ap (λ (n : ℕ). join_parts w narrow n parts ∷ []) count
joined_more w narrow k (first ∷ frames) parts =
    let count : suc k + length frames ≡ k + suc (length frames) = omega arith in
    ap (λ (l : List Parts). join_parts w narrow k first ∷ l) (joined_more w narrow (suc k) frames parts ∙ ap (λ (n : ℕ). join_frames w narrow (suc k) frames ++ join_parts w narrow n parts ∷ []) count)

-- ---- their lines

frame_lines-append : (u : Lined) (k : ℕ) (xs ys : List Parts) → frame_lines_with u k (xs ++ ys) ≡ frame_lines_with u k xs ++ frame_lines_with u (k + length xs) ys
frame_lines-append u k [] ys = ap (λ (n : ℕ). frame_lines_with u n ys) (omega arith)
frame_lines-append u k (parts ∷ xs) ys =
    let count : suc k + length xs ≡ k + suc (length xs) = omega arith in
    let states : List (List ℕ) = states_lines_with u.states u.wide.shape.states k parts.states in
    let here : List (List ℕ) = told_lines u.inputs k u.wide.shape.inputs parts.inputs in
    let rest : List (List ℕ) = frame_lines_with u (suc k) xs in
    let behind : List (List ℕ) = frame_lines_with u (k + suc (length xs)) ys in
    ap (λ (ls : List (List ℕ)). states ++ ((64 ∷ decimal k) ∷ (here ++ ls))) (frame_lines-append u (suc k) xs ys ∙ ap (λ (n : ℕ). rest ++ frame_lines_with u n ys) count)
    ∙ sym (append_assoc states ((64 ∷ decimal k) ∷ (here ++ rest)) behind ∙ ap (λ (ls : List (List ℕ)). states ++ ((64 ∷ decimal k) ∷ ls)) (append_assoc here rest behind))

module _ (u : Lined) (frames : List Parts) where
  abbrev front : List (List ℕ)
  front = frame_lines_with u 0 frames

  abbrev mark : List ℕ
  mark = 64 ∷ decimal (length frames)

  abbrev lines : List Assignment → List (List ℕ)
  lines = told_lines u.inputs (length frames) u.wide.shape.inputs

  -- a frame behind others
  pub one_frame : (states : Option (List Assignment)) (list : List Assignment)
      → frame_lines_with u 0 (frames ++ parts_of states list ∷ []) ≡ front ++ (states_lines_with u.states u.wide.shape.states (length frames) states ++ (mark ∷ lines list))
  one_frame states list =
      let count : 0 + length frames ≡ length frames = omega arith in
      frame_lines-append u 0 frames (parts_of states list ∷ [])
      ∙ (ap (λ (n : ℕ). front ++ frame_lines_with u n (parts_of states list ∷ [])) count
      ∙ ap (λ (ls : List (List ℕ)). front ++ (states_lines_with u.states u.wide.shape.states (length frames) states ++ (mark ∷ ls))) (append-nil (lines list)))

-- ---- where each word is told by its index

all_kept : (list : List Assignment) → filter (λ (a : Assignment). true) list ≡ list
all_kept [] = refl
all_kept (a ∷ list) = ap (λ (l : List Assignment). a ∷ l) (all_kept list)

plain_lines : (widths : List ℕ) (k : ℕ) (list : List Assignment) → told_lines by_index k widths list ≡ map (assignment_line widths) list
plain_lines widths k list = ap (map (assignment_line widths)) (all_kept list)

plain_states : (widths : List ℕ) (k : ℕ) (o : Option (List Assignment)) → states_lines_with by_index widths k o ≡ states_lines widths k o
plain_states widths k None = refl
plain_states widths k (Some list) = ap (λ (ls : List (List ℕ)). (35 ∷ decimal k) ∷ ls) (plain_lines widths k list)

plain_frames : (w : Wide) (k : ℕ) (frames : List Parts) → frame_lines_with (plain w) k frames ≡ frame_lines w.shape k frames
plain_frames w k [] = refl
plain_frames w k (parts ∷ frames) =
    ap₂ (λ (a b : List (List ℕ)). a ++ ((64 ∷ decimal k) ∷ (told_lines by_index k w.shape.inputs parts.inputs ++ b))) (plain_states w.shape.states k parts.states) (plain_frames w (suc k) frames)
    ∙ ap (λ (ls : List (List ℕ)). states_lines w.shape.states k parts.states ++ ((64 ∷ decimal k) ∷ (ls ++ frame_lines w.shape (suc k) frames))) (plain_lines w.shape.inputs k parts.inputs)

plain_said : (w : Wide) (r : Read) (at : Place) → said_lines_with (plain w) r at ≡ said_lines w.shape r at
plain_said w r AtStatus = refl
plain_said w r AtClaims = refl
plain_said w r AtParts = refl
plain_said w r InStates = ap (λ (ls : List (List ℕ)). codes "sat" ∷ claims_line r.claims ∷ ls) (plain_frames w 0 r.closed)
plain_said w r InFrame =
    ap₂ (λ (a b : List (List ℕ)). codes "sat" ∷ claims_line r.claims ∷ (a ++ b)) (plain_frames w 0 r.closed) (plain_states w.shape.states (length r.closed) r.states)
plain_said w r AtEnd = ap (λ (ls : List (List ℕ)). codes "sat" ∷ claims_line r.claims ∷ (ls ++ codes "." ∷ [])) (plain_frames w 0 r.closed)

pub plain_text : (w : Wide) (narrow : List Item) (text : List ℕ) → unfit_text_with (plain w) narrow text ≡ unfit_text w narrow text
unfolding unfit_text unfit_text_with
plain_text w narrow text = ap text_of_lines (plain_said w (join_read w narrow (said_in narrow text)) (said_in narrow text).place)

-- ---- texts

pub text_put : (front part behind all : List (List ℕ)) (put : List ℕ) → put ≡ text_of_lines part ++ text_of_lines behind → front ++ (part ++ behind) ≡ all → text_of_lines front ++ put ≡ text_of_lines all
text_put front part behind all put is e =
    ap (λ (l : List ℕ). text_of_lines front ++ l) (is ∙ sym (flat_map-append (λ line. line ++ 10 ∷ []) part behind)) ∙ sym (flat_map-append (λ line. line ++ 10 ∷ []) front (part ++ behind)) ∙ ap text_of_lines e
