-- A text that is read says what it is read as, and whole lines are all admitted exactly where further lines make them the text of a witness.
use Rattle.std.proofs.Common.{◌≡◌, ℕ, suc, ◌+◌, ◌<◌, ◌≤◌, ◌==◌, true, false, ◌&&◌, List, [], ◌∷◌, ◌++◌, Option, Some, None, IfSome, Result, Ok, Err, IfOk, length, decimal, codes, append_assoc, length-append, refl, sym, ap, subst, ◌∙◌, arith, map}
use Rattle.std.specs.List.{list_any, AllByRecursion}
use Rattle.std.specs.Str.{bytes_eq}
use Rattle.std.proofs.lemmas.Bool.{and_parts}
use Rattle.std.proofs.lemmas.List.{append-nil, map-append}
use Rattle.std.proofs.lemmas.List.Elements.{All-push, All-nil, All-from_recursion}
use Rattle.std.proofs.lemmas.Slice.Eq.{bytes_eq-Decides}
use Rattle.std.proofs.lemmas.Result.{IfOk-at_ok}
use Rattle.base.specs.Lines.{IsLine, text_of_lines, whole_lines, unfinished}
use Rattle.base.proofs.LineLemmas.{EachLine, each_front, lines_are_lines, parts_of_text}
use Rattle.base.proofs.DecimalLemmas.{decimal_without}
use Rattle.witness.specs.declared.why.Why.{Why}
use Rattle.witness.specs.Texts.{Shape, is_free_index, has_free, Assignment, Parts, Witness, assignment_line, claims_line, states_lines, frame_lines, is_comment, are_distinct, IsAssignment, IsPart, IsFreePart, AreFrames, most_lines, Says, AreParts}
use Rattle.witness.specs.Admits.{Place, AtStatus, AtClaims, AtParts, InStates, InFrame, AtEnd, begins_part, opens_frame, opens_states, assignment_at, may_name, state_assignment_at, claims_at, frame_closed, Read, nothing_read, admit_at, admit, is_at_end, word_reader, read_text, witness_of}
use Rattle.witness.specs.WordStands.{NoFrame}
use Rattle.witness.proofs.ClaimLemmas.{AreBelow, claims_are_line, claims_at-claims_line}
use Rattle.witness.proofs.AssignmentLemmas.{stands_in, assignment_is_line, state_assignment_is_line}
use Rattle.witness.proofs.ReadingLemmas.{by_test, admit_all, admit_parts, text_was_read, Ends, no_more_lines, one_line, more_lines, Begins, admitted_begins, before_begins, none_begins, beginning_is_admitted as reading_is_admitted}
use Rattle.witness.proofs.ReadLemmas.{IsSmall, indices, stands_in-indices, distinct_with, parts_of, in_states, in_frame, IsStates, later_states, frame_lines-behind, all_read, says_read, status_line, line_of_claims, frames_begin, states_end, last_line, frames_have_lines}
use Rattle.witness.specs.Beginnings.{IsBeginning}
use Rattle.witness.specs.ClosedWords.{admitted_word_lines}
use Rattle.witness.proofs.StepWords.{after_assignment, after_claims, states_closed}

-- ---- parts and frames with one more

part_more : (widths : List ℕ) (before : List Assignment) (a : Assignment) → IsPart widths before → IsAssignment widths a → stands_in a.index before ≡ false → IsPart widths (before ++ a ∷ [])
part_more widths before a part valid new =
    let others : list_any (λ x. x == a.index) (indices before) ≡ false = sym (stands_in-indices a.index before) ∙ new in
    record {
      each = All-push (IsAssignment widths) before a part.each valid;
      distinct = ap are_distinct (map-append (λ (b : Assignment). b.index) before (a ∷ [])) ∙ distinct_with (indices before) a.index part.distinct others;
    }

empty_part : (widths : List ℕ) → IsPart widths []
empty_part widths = record { each = All-nil (IsAssignment widths); distinct = refl }

states_more : (shape : Shape) (closed : List Parts) (before : List Assignment) (a : Assignment) → IsStates shape closed before → IsAssignment shape.states a → may_name shape closed (Some a.index) ≡ true → stands_in a.index before ≡ false
    → IsStates shape closed (before ++ a ∷ [])
states_more shape [] before a part valid may new = part_more shape.states before a part valid new
states_more shape (x ∷ xs) before a part valid may new =
    record { some = part.some; part = part_more shape.states before a part.part valid new; free = All-push (λ (b : Assignment). is_free_index shape b.index ≡ true) before a part.free may }

empty_free : (shape : Shape) → has_free shape ≡ true → IsFreePart shape []
empty_free shape some = record { some = some; part = empty_part shape.states; free = All-nil (λ (a : Assignment). is_free_index shape a.index ≡ true) }

-- closed frames, or none
abbrev AreClosed : Shape → List Parts → Type 0
AreClosed shape closed = (closed ≡ [] → ⊥) → AreFrames shape closed

-- with the one that is open
frames_more : (shape : Shape) (closed : List Parts) (states : Option (List Assignment)) (list : List Assignment) → AreClosed shape closed → IfSome states (IsStates shape closed) → IsPart shape.inputs list
    → AreFrames shape (closed ++ parts_of states list ∷ [])
frames_more shape [] states list closed part inputs = (record { states = part; inputs = inputs }, All-nil (AreParts shape (IsFreePart shape)))
frames_more shape (first ∷ more) states list closed part inputs =
    let before = closed (λ e. cc) in
    (before.0, All-push (AreParts shape (IsFreePart shape)) more (parts_of states list) before.1 (record { states = part; inputs = inputs }))

frame_lines-append : (shape : Shape) (k : ℕ) (xs ys : List Parts) → frame_lines shape k (xs ++ ys) ≡ frame_lines shape k xs ++ frame_lines shape (k + length xs) ys
frame_lines-append shape k [] ys = ap (λ (n : ℕ). frame_lines shape n ys) (omega arith)
frame_lines-append shape k (parts ∷ xs) ys =
    let count : suc k + length xs ≡ k + suc (length xs) = omega arith in
    let states : List (List ℕ) = states_lines shape.states k parts.states in
    let here : List (List ℕ) = map (assignment_line shape.inputs) parts.inputs in
    let rest : List (List ℕ) = frame_lines shape (suc k) xs in
    ap (λ (ls : List (List ℕ)). states ++ ((64 ∷ decimal k) ∷ (here ++ ls))) (frame_lines-append shape (suc k) xs ys ∙ ap (λ (n : ℕ). rest ++ frame_lines shape n ys) count)
    ∙ sym (frame_lines-behind shape k parts xs (frame_lines shape (k + suc (length xs)) ys))

-- the same of one frame behind others
one_frame : (shape : Shape) (closed : List Parts) (states : Option (List Assignment)) (list : List Assignment)
    → frame_lines shape 0 (closed ++ parts_of states list ∷ []) ≡ frame_lines shape 0 closed ++ (states_lines shape.states (length closed) states ++ ((64 ∷ decimal (length closed)) ∷ map (assignment_line shape.inputs) list))
one_frame shape closed states list =
    let count : 0 + length closed ≡ length closed = omega arith in
    let front : List (List ℕ) = frame_lines shape 0 closed in
    let header : List ℕ = 64 ∷ decimal (length closed) in
    frame_lines-append shape 0 closed (parts_of states list ∷ [])
    ∙ (ap (λ (n : ℕ). front ++ frame_lines shape n (parts_of states list ∷ [])) count
    ∙ ap (λ (ls : List (List ℕ)). front ++ (states_lines shape.states (length closed) states ++ (header ∷ ls))) (append-nil (map (assignment_line shape.inputs) list)))

-- one more assignment in the last frame
frame_lines-assignment : (shape : Shape) (closed : List Parts) (states : Option (List Assignment)) (before : List Assignment) (a : Assignment)
    → frame_lines shape 0 (closed ++ parts_of states before ∷ []) ++ assignment_line shape.inputs a ∷ [] ≡ frame_lines shape 0 (closed ++ parts_of states (before ++ a ∷ []) ∷ [])
frame_lines-assignment shape closed states before a =
    let widths : List ℕ = shape.inputs in
    let front : List (List ℕ) = frame_lines shape 0 closed in
    let part : List (List ℕ) = states_lines shape.states (length closed) states in
    let header : List ℕ = 64 ∷ decimal (length closed) in
    let here : List (List ℕ) = map (assignment_line widths) before in
    let more : List (List ℕ) = assignment_line widths a ∷ [] in
    ap (λ (ls : List (List ℕ)). ls ++ more) (one_frame shape closed states before)
    ∙ (append_assoc front (part ++ (header ∷ here)) more
    ∙ (ap (λ (ls : List (List ℕ)). front ++ ls) (append_assoc part (header ∷ here) more)
    ∙ (ap (λ (ls : List (List ℕ)). front ++ (part ++ (header ∷ ls))) (sym (map-append (assignment_line widths) before (a ∷ [])))
    ∙ sym (one_frame shape closed states (before ++ a ∷ [])))))

-- one more frame, without a part of states
frame_lines-frame : (shape : Shape) (closed : List Parts) (parts : Parts)
    → frame_lines shape 0 (closed ++ parts ∷ []) ++ (64 ∷ decimal (suc (length closed))) ∷ [] ≡ frame_lines shape 0 ((closed ++ parts ∷ []) ++ parts_of None [] ∷ [])
frame_lines-frame shape closed parts =
    let frames : List Parts = closed ++ parts ∷ [] in
    let count : suc (length closed) ≡ length frames = omega (arith, length-append closed (parts ∷ [])) in
    ap (λ (n : ℕ). frame_lines shape 0 frames ++ (64 ∷ decimal n) ∷ []) count ∙ sym (one_frame shape frames None [])

-- its part of states begins
frame_lines-states : (shape : Shape) (closed : List Parts) (parts : Parts)
    → frame_lines shape 0 (closed ++ parts ∷ []) ++ (35 ∷ decimal (suc (length closed))) ∷ [] ≡ frame_lines shape 0 (closed ++ parts ∷ []) ++ states_lines shape.states (length (closed ++ parts ∷ [])) (Some [])
frame_lines-states shape closed parts =
    let frames : List Parts = closed ++ parts ∷ [] in
    let count : suc (length closed) ≡ length frames = omega (arith, length-append closed (parts ∷ [])) in
    ap (λ (n : ℕ). frame_lines shape 0 frames ++ (35 ∷ decimal n) ∷ []) count

-- one more assignment in a part of states
states_lines-assignment : (widths : List ℕ) (front : List (List ℕ)) (k : ℕ) (before : List Assignment) (a : Assignment)
    → (front ++ states_lines widths k (Some before)) ++ assignment_line widths a ∷ [] ≡ front ++ states_lines widths k (Some (before ++ a ∷ []))
states_lines-assignment widths front k before a =
    append_assoc front ((35 ∷ decimal k) ∷ map (assignment_line widths) before) (assignment_line widths a ∷ [])
    ∙ ap (λ (ls : List (List ℕ)). front ++ ((35 ∷ decimal k) ∷ ls)) (sym (map-append (assignment_line widths) before (a ∷ [])))

-- the line behind a part of states
frame_lines-behind_states : (shape : Shape) (closed : List Parts) (list : List Assignment)
    → (frame_lines shape 0 closed ++ states_lines shape.states (length closed) (Some list)) ++ (64 ∷ decimal (length closed)) ∷ [] ≡ frame_lines shape 0 (closed ++ parts_of (Some list) [] ∷ [])
frame_lines-behind_states shape closed list =
    append_assoc (frame_lines shape 0 closed) (states_lines shape.states (length closed) (Some list)) ((64 ∷ decimal (length closed)) ∷ [])
    ∙ sym (one_frame shape closed (Some list) [])

-- ---- what all admitted lines say

abbrev AreComments : List (List ℕ) → Type 0
AreComments comments = AllByRecursion (λ line. is_comment line ≡ true) comments

comment_more : (comments : List (List ℕ)) (line : List ℕ) → AreComments comments → is_comment line ≡ true → AreComments (comments ++ line ∷ [])
comment_more [] line marked is = (is, tt)
comment_more (c ∷ comments) line marked is = (marked.0, comment_more comments line marked.1 is)

-- claims that a claims line has
record IsClaimed (bads : ℕ) (claims : List ℕ) : Type 0 where
  some : claims ≡ [] → ⊥
  below : AreBelow bads claims
  distinct : are_distinct claims ≡ true

-- the lines behind the comments that are read as this
abbrev lines_of : Shape → Read → Place → List (List ℕ)
lines_of shape r AtStatus = []
lines_of shape r AtClaims = codes "sat" ∷ []
lines_of shape r AtParts = codes "sat" ∷ (claims_line r.claims ∷ [])
lines_of shape r InStates = codes "sat" ∷ (claims_line r.claims ∷ (frame_lines shape 0 r.closed ++ states_lines shape.states (length r.closed) (Some r.open_part)))
lines_of shape r InFrame = codes "sat" ∷ (claims_line r.claims ∷ frame_lines shape 0 (r.closed ++ parts_of r.states r.open_part ∷ []))
lines_of shape r AtEnd = codes "sat" ∷ (claims_line r.claims ∷ (frame_lines shape 0 r.closed ++ codes "." ∷ []))

abbrev Fits : Shape → Read → Place → Type 0
Fits shape r AtStatus = NoFrame r
Fits shape r AtClaims = NoFrame r
Fits shape r AtParts = IsClaimed shape.bads r.claims × NoFrame r
Fits shape r InStates = IsClaimed shape.bads r.claims × AreClosed shape r.closed × IsStates shape r.closed r.open_part
Fits shape r InFrame = IsClaimed shape.bads r.claims × AreClosed shape r.closed × IfSome r.states (IsStates shape r.closed) × IsPart shape.inputs r.open_part
Fits shape r AtEnd = IsClaimed shape.bads r.claims × AreFrames shape r.closed

-- what is read of lines is what they say
pub record Told (shape : Shape) (lines : List (List ℕ)) (r : Read) (at : Place) : Type 0 where
  pub comments : List (List ℕ)
  marked : AreComments comments
  pub spelled : lines ≡ comments ++ lines_of shape r at
  fits : Fits shape r at

pub nothing_told : (shape : Shape) → Told shape [] nothing_read AtStatus
nothing_told shape = record { comments = []; marked = tt; spelled = refl; fits = record { closed = refl; states = refl; open_part = refl } }

-- ---- one more line

module _ (shape : Shape) (small : IsSmall shape) (lines : List (List ℕ)) (line : List ℕ) (r : Read) where
  abbrev Tells : Read → Type 0
  Tells s = Told shape (lines ++ line ∷ []) s s.place

  tells : (at : Place) (s : Read) → Told shape lines r at → lines_of shape r at ++ line ∷ [] ≡ lines_of shape s s.place → Fits shape s s.place → Tells s
  tells at s told spelled fits =
      record {
        comments = told.comments;
        marked = told.marked;
        spelled = ap (λ (ls : List (List ℕ)). ls ++ line ∷ []) told.spelled ∙ (append_assoc told.comments (lines_of shape r at) (line ∷ []) ∙ ap (λ (ls : List (List ℕ)). told.comments ++ ls) spelled);
        fits = fits;
      }

  -- behind the claims
  behind : (front all : List (List ℕ)) (same : List ℕ) → bytes_eq line same ≡ true → front ++ same ∷ [] ≡ all → (codes "sat" ∷ (claims_line r.claims ∷ front)) ++ line ∷ [] ≡ codes "sat" ∷ (claims_line r.claims ∷ all)
  behind front all same is e = ap (λ (ls : List (List ℕ)). codes "sat" ∷ (claims_line r.claims ∷ ls)) (ap (λ (l : List ℕ). front ++ l ∷ []) ((bytes_eq-Decides line same).0 is) ∙ e)

  line_told : (at : Place) → r.place ≡ at → Told shape lines r at → IfOk (admit_at shape r line at) Tells
  line_told AtStatus there told =
      by_test Tells (is_comment line) _ _
      (λ e.
      let comments : List (List ℕ) = told.comments ++ line ∷ [] in
      let spelled = ap (λ (ls : List (List ℕ)). ls ++ line ∷ []) (told.spelled ∙ append-nil told.comments) ∙ sym (append-nil comments) in
      subst (Told shape (lines ++ line ∷ []) r) (sym there) (record { comments = comments; marked = comment_more told.comments line told.marked e; spelled = spelled; fits = told.fits }))
      (λ e. by_test Tells (bytes_eq line (codes "sat")) _ _
      (λ d. tells AtStatus (record r { place = AtClaims }) told (ap (λ (l : List ℕ). l ∷ []) ((bytes_eq-Decides line (codes "sat")).0 d)) (record { closed = told.fits.closed; states = told.fits.states; open_part = told.fits.open_part }))
      (λ d. tt))
  line_told AtClaims there told = by (claims_at shape.bads line) refl
    where
      by : (o : Result (List ℕ) Why) → claims_at shape.bads line ≡ o → IfOk (after_claims r o) Tells
      by (Ok claims) is =
          let are = claims_are_line shape.bads line claims small.bads is in
          tells AtClaims (record r { place = AtParts; claims = claims }) told (ap (λ (l : List ℕ). codes "sat" ∷ (l ∷ [])) are.spelled)
          (record { some = are.some; below = are.below; distinct = are.distinct }, record { closed = told.fits.closed; states = told.fits.states; open_part = told.fits.open_part })
      by (Err w) is = tt
  line_told AtParts there told =
      let none = told.fits.1 in
      let states : in_states r.claims [] [] ≡ record r { place = InStates } = cc (none.closed, none.states, none.open_part) in
      let inputs : in_frame r.claims [] None [] ≡ record r { place = InFrame } = cc (none.closed, none.states, none.open_part) in
      by_test Tells (opens_states 0 line) _ _
      (λ e. subst Tells states (tells AtParts (in_states r.claims [] []) told (behind [] ((35 ∷ decimal 0) ∷ []) (35 ∷ decimal 0) e refl) (told.fits.0, (λ some. absurd (some refl)), empty_part shape.states)))
      (λ e. by_test Tells (opens_frame 0 line) _ _
      (λ d. subst Tells inputs (tells AtParts (in_frame r.claims [] None []) told (behind [] ((64 ∷ decimal 0) ∷ []) (64 ∷ decimal 0) d refl) (told.fits.0, (λ some. absurd (some refl)), tt, empty_part shape.inputs)))
      (λ d. tt))
  line_told InStates there told =
      let count : ℕ = length r.closed in
      let front : List (List ℕ) = frame_lines shape 0 r.closed ++ states_lines shape.states count (Some r.open_part) in
      by_test Tells (opens_frame count line) _ _
      (λ e. tells InStates (states_closed r) told (behind front (frame_lines shape 0 (r.closed ++ parts_of (Some r.open_part) [] ∷ [])) (64 ∷ decimal count) e (frame_lines-behind_states shape r.closed r.open_part))
      (told.fits.0, told.fits.1, told.fits.2, empty_part shape.inputs))
      (λ e. by_test Tells (begins_part line) _ _ (λ d. tt) (λ d. by (state_assignment_at shape r.closed r.open_part line) refl))
    where
      by : (o : Result (List Assignment) Why) → state_assignment_at shape r.closed r.open_part line ≡ o → IfOk (after_assignment r o) Tells
      by (Ok list) h =
          let found = state_assignment_is_line shape r.closed r.open_part line list small.states h in
          let is = found.0 in
          let a : Assignment = is.assignment in
          let same : record r { place = InStates; open_part = r.open_part ++ a ∷ [] } ≡ record r { open_part = list } = cc (is.all, there) in
          subst Tells same
          (tells InStates (record r { place = InStates; open_part = r.open_part ++ a ∷ [] }) told
          (ap (λ (ls : List (List ℕ)). codes "sat" ∷ (claims_line r.claims ∷ ls))
          (ap (λ (l : List ℕ). (frame_lines shape 0 r.closed ++ states_lines shape.states (length r.closed) (Some r.open_part)) ++ l ∷ []) is.spelled ∙ states_lines-assignment shape.states (frame_lines shape 0 r.closed) (length r.closed) r.open_part a))
          (told.fits.0, told.fits.1, states_more shape r.closed r.open_part a told.fits.2 is.valid found.1 is.new))
      by (Err w) h = tt
  line_told InFrame there told =
      let k : ℕ = suc (length r.closed) in
      let last : Parts = parts_of r.states r.open_part in
      let frames : List Parts = r.closed ++ last ∷ [] in
      let front : List (List ℕ) = frame_lines shape 0 frames in
      let valid : AreFrames shape frames = frames_more shape r.closed r.states r.open_part told.fits.1 told.fits.2 told.fits.3 in
      by_test Tells (opens_frame k line) _ _
      (λ e. tells InFrame (frame_closed InFrame r) told (behind front (frame_lines shape 0 (frames ++ parts_of None [] ∷ [])) (64 ∷ decimal k) e (frame_lines-frame shape r.closed last)) (told.fits.0, (λ some. valid), tt, empty_part shape.inputs))
      (λ e. by_test Tells (opens_states k line && has_free shape) _ _
      (λ d.
      let both = and_parts (opens_states k line) (has_free shape) d in
      tells InFrame (frame_closed InStates r) told (behind front (front ++ states_lines shape.states (length frames) (Some [])) (35 ∷ decimal k) both.0 (frame_lines-states shape r.closed last))
      (told.fits.0, (λ some. valid), later_states shape r.closed last [] (empty_free shape both.1)))
      (λ d. by_test Tells (bytes_eq line (codes ".")) _ _
      (λ f. tells InFrame (frame_closed AtEnd r) told (behind front (front ++ codes "." ∷ []) (codes ".") f refl) (told.fits.0, valid))
      (λ f. by_test Tells (begins_part line) _ _ (λ g. tt) (λ g. by (assignment_at shape.inputs r.open_part line) refl))))
    where
      by : (o : Result (List Assignment) Why) → assignment_at shape.inputs r.open_part line ≡ o → IfOk (after_assignment r o) Tells
      by (Ok list) h =
          let is = assignment_is_line shape.inputs r.open_part line list small.inputs h in
          let a : Assignment = is.assignment in
          let same : record r { place = InFrame; open_part = r.open_part ++ a ∷ [] } ≡ record r { open_part = list } = cc (is.all, there) in
          subst Tells same
          (tells InFrame (record r { place = InFrame; open_part = r.open_part ++ a ∷ [] }) told
          (ap (λ (ls : List (List ℕ)). codes "sat" ∷ (claims_line r.claims ∷ ls)) (ap (λ (l : List ℕ). frame_lines shape 0 (r.closed ++ parts_of r.states r.open_part ∷ []) ++ l ∷ []) is.spelled ∙ frame_lines-assignment shape r.closed r.states r.open_part a))
          (told.fits.0, told.fits.1, told.fits.2, part_more shape.inputs r.open_part a told.fits.3 is.valid is.new))
      by (Err w) h = tt
  line_told AtEnd there told = tt

-- ---- all lines

pub told_lines : (shape : Shape) (before lines : List (List ℕ)) (r final : Read) → IsSmall shape → Told shape before r r.place → admit_all (word_reader shape) r lines ≡ Ok final → Told shape (before ++ lines) final final.place
unfolding admit
told_lines shape before [] r final small told h =
    let is : r ≡ final = cc in
    subst (λ (s : Read). Told shape (before ++ []) s s.place) is (subst (λ (ls : List (List ℕ)). Told shape ls r r.place) (sym (append-nil before)) told)
told_lines shape before (line ∷ lines) r final small told h =
    let parts = admit_parts (admit shape r line) (λ next. admit_all (word_reader shape) next lines) final h in
    subst (λ (ls : List (List ℕ)). Told shape ls final final.place) (append_assoc before (line ∷ []) lines)
    (told_lines shape (before ++ line ∷ []) lines parts.0 final small (IfOk-at_ok (Tells shape small before line r) parts.1.0 (line_told shape small before line r r.place refl told)) parts.1.1)

-- the last line was read
pub ended : (at : Place) → is_at_end at ≡ true → at ≡ AtEnd
ended AtEnd h = refl
ended _ h = absurd cc

-- a text that is read says what it is read as
pub read_says : (shape : Shape) (text : List ℕ) (r : Read) → IsSmall shape → read_text shape text ≡ Ok r → Says shape text (witness_of r)
read_says shape text r small h =
    let were = text_was_read (word_reader shape) text r h in
    let told : Told shape (whole_lines text) r AtEnd = subst (Told shape (whole_lines text) r) (ended r.place were.done) (told_lines shape [] (whole_lines text) nothing_read r small (nothing_told shape) were.all) in
    let each : EachLine (told.comments ++ lines_of shape r AtEnd) = subst EachLine told.spelled (lines_are_lines text) in
    let joined : text ≡ text_of_lines (whole_lines text) = sym (parts_of_text text) ∙ (ap (λ (t : List ℕ). text_of_lines (whole_lines text) ++ t) were.rest ∙ append-nil (text_of_lines (whole_lines text))) in
    let claimed : IsClaimed shape.bads r.claims = told.fits.0 in
    record {
      comments = told.comments;
      lines = All-from_recursion IsLine told.comments (each_front told.comments (lines_of shape r AtEnd) each);
      marked = All-from_recursion (λ line. is_comment line ≡ true) told.comments told.marked;
      whole = joined ∙ ap text_of_lines told.spelled;
      valid = record { some_claim = claimed.some; claims = All-from_recursion (λ i. i < shape.bads) r.claims claimed.below; distinct = claimed.distinct; frames = told.fits.1 };
      few = subst (λ (ls : List (List ℕ)). length ls ≤ most_lines) told.spelled were.few;
    }

-- a text says one witness
pub says_one : (shape : Shape) (text : List ℕ) (w v : Witness) → IsSmall shape → Says shape text w → Says shape text v → w ≡ v
says_one shape text w v small first second =
    let one = says_read shape text w small first in
    let other = says_read shape text v small second in
    let same : all_read w ≡ all_read v = cc in
    ap witness_of same

-- ---- the lines that end a witness

module _ (shape : Shape) where
  in_a_frame : (r : Read) → r.place ≡ InFrame → Ends (word_reader shape) 1 r
  in_a_frame r at = one_line (word_reader shape) 0 r (codes ".") (frame_closed AtEnd r) refl (last_line shape r at) (no_more_lines (word_reader shape) (frame_closed AtEnd r) refl)

  in_states_part : (r : Read) → r.place ≡ InStates → length r.closed ≤ most_lines → Ends (word_reader shape) 2 r
  in_states_part r at few =
      one_line (word_reader shape) 1 r (64 ∷ decimal (length r.closed)) (states_closed r) (decimal_without 10 (length r.closed) (omega arith) (omega arith)) (states_end shape r at) (in_a_frame (states_closed r) refl)

  behind_claims_line : (r : Read) → r.place ≡ AtParts → Ends (word_reader shape) 2 r
  behind_claims_line r at =
      let opened : Read = record r { place = InFrame } in
      one_line (word_reader shape) 1 r (64 ∷ decimal 0) opened (decimal_without 10 0 (omega arith) (omega arith)) (frames_begin shape r at) (in_a_frame opened refl)

  behind_status_line : (r : Read) → r.place ≡ AtClaims → IsSmall shape → 0 < shape.bads → Ends (word_reader shape) 3 r
  behind_status_line r at small some =
      let read = claims_at-claims_line shape.bads (0 ∷ []) small.bads (λ e. cc) (some, tt) refl in
      let claimed : Read = record r { place = AtParts; claims = 0 ∷ [] } in
      one_line (word_reader shape) 2 r (claims_line (0 ∷ [])) claimed (decimal_without 10 0 (omega arith) (omega arith)) (line_of_claims shape r (claims_line (0 ∷ [])) (0 ∷ []) at read) (behind_claims_line claimed refl)

  behind_comments_lines : (r : Read) → r.place ≡ AtStatus → IsSmall shape → 0 < shape.bads → Ends (word_reader shape) 4 r
  behind_comments_lines r at small some =
      let status : Read = record r { place = AtClaims } in
      one_line (word_reader shape) 3 r (codes "sat") status refl (status_line shape r at) (behind_status_line status refl small some)

  -- whatever was read of lines
  lines_end : (lines : List (List ℕ)) (r : Read) (at : Place) → r.place ≡ at → IsSmall shape → 0 < shape.bads → length lines ≤ most_lines → Told shape lines r at → Ends (word_reader shape) 4 r
  lines_end lines r AtStatus at small some few told = behind_comments_lines r at small some
  lines_end lines r AtClaims at small some few told = more_lines (word_reader shape) 3 4 r (omega arith) (behind_status_line r at small some)
  lines_end lines r AtParts at small some few told = more_lines (word_reader shape) 2 4 r (omega arith) (behind_claims_line r at)
  lines_end lines r InStates at small some few told =
      let front : List (List ℕ) = frame_lines shape 0 r.closed in
      let back : List (List ℕ) = states_lines shape.states (length r.closed) (Some r.open_part) in
      let count : length r.closed ≤ most_lines = omega (arith, few, ap length told.spelled, length-append told.comments (codes "sat" ∷ (claims_line r.claims ∷ (front ++ back))), length-append front back, frames_have_lines shape 0 r.closed) in
      more_lines (word_reader shape) 2 4 r (omega arith) (in_states_part r at count)
  lines_end lines r InFrame at small some few told = more_lines (word_reader shape) 1 4 r (omega arith) (in_a_frame r at)
  lines_end lines r AtEnd at small some few told = more_lines (word_reader shape) 0 4 r (omega arith) (no_more_lines (word_reader shape) r (ap is_at_end at))

-- ---- whole texts

-- of a text that others make that of a witness all whole lines are admitted
pub beginning_is_admitted : (shape : Shape) (text further : List ℕ) (w : Witness) → IsSmall shape → Says shape (text ++ further) w → admitted_word_lines shape text ≡ length (whole_lines text)
beginning_is_admitted shape text further w small says = reading_is_admitted (word_reader shape) text further (all_read w) (says_read shape (text ++ further) w small says)

module _ (shape : Shape) (small : IsSmall shape) (some : 0 < shape.bads) where
  each_ends : (lines : List (List ℕ)) (r : Read) → length lines ≤ most_lines → admit_all (word_reader shape) nothing_read lines ≡ Ok r → Ends (word_reader shape) 4 r
  each_ends lines r few h = lines_end shape lines r r.place refl small some few (told_lines shape [] lines nothing_read r small (nothing_told shape) h)

  is_beginning : (text : List ℕ) → Begins (word_reader shape) 4 text → IsBeginning shape text
  is_beginning text b =
      record {
        more = b.more;
        lines = All-from_recursion IsLine b.more b.lines;
        four = b.few;
        witness = witness_of b.final;
        says = read_says shape (text ++ text_of_lines b.more) b.final small b.read;
      }

  -- whole lines that are all admitted are the beginning of a witness
  pub admitted_is_beginning : (text : List ℕ) → unfinished text ≡ [] → length (whole_lines text) + 4 ≤ most_lines → admitted_word_lines shape text ≡ length (whole_lines text) → IsBeginning shape text
  admitted_is_beginning text ended few all = is_beginning text (admitted_begins (word_reader shape) 4 each_ends text ended few all)

  -- the lines before the first that is not admitted are the beginning of a witness
  pub beginning_before : (text : List ℕ) (before : List (List ℕ)) (line : List ℕ) (behind : List (List ℕ)) → whole_lines text ≡ before ++ line ∷ behind
      → admitted_word_lines shape text ≡ length before → length before + 4 ≤ most_lines → IsBeginning shape (text_of_lines before)
  beginning_before text before line behind split count few = is_beginning (text_of_lines before) (before_begins (word_reader shape) 4 each_ends text before line behind split count few)

-- with it they are none
pub no_beginning_with : (shape : Shape) (text : List ℕ) (before : List (List ℕ)) (line : List ℕ) (behind : List (List ℕ)) (further : List ℕ) (w : Witness) → IsSmall shape
    → whole_lines text ≡ before ++ line ∷ behind → admitted_word_lines shape text ≡ length before → Says shape (text_of_lines (before ++ line ∷ []) ++ further) w → ⊥
no_beginning_with shape text before line behind further w small split count says =
    none_begins (word_reader shape) text before line behind further (all_read w) split count (says_read shape (text_of_lines (before ++ line ∷ []) ++ further) w small says)
