-- A text that says a witness is read as it: line by line, and its lines together.
use Rattle.std.proofs.Common.{◌≡◌, ℕ, suc, ◌<◌, ◌^◌, ◌==◌, Bool, true, false, not, ◌&&◌, ◌||◌, inl, inr, List, [], ◌∷◌, ◌++◌, Option, Some, None, Ok, IfSome, All, length, map, decimal, codes, append_assoc, length-append, refl, sym, ap, ◌∙◌, arith, ◌+◌, ◌≤◌}
use Rattle.std.specs.Fmt.{digits}
use Rattle.std.specs.List.{list_any, AllByRecursion}
use Rattle.std.specs.Str.{bytes_eq}
use Rattle.std.proofs.lemmas.Bool.{or_parts, and_parts, eqb-false, ne_eqb, eq-eqb, cases_eq}
use Rattle.std.proofs.Math.Bool.{or-false}
use Rattle.std.proofs.lemmas.List.{append-nil, map-append}
use Rattle.std.proofs.lemmas.List.Elements.{All-weaker, recursion_from_All}
use Rattle.std.proofs.lemmas.List.Folds.{list_any-append}
use Rattle.std.proofs.lemmas.Slice.Eq.{bytes_eq-Decides}
use Rattle.base.proofs.DecimalLemmas.{decimal_without}
use Rattle.witness.specs.Texts.{Shape, has_free, Assignment, Parts, assignment_line, states_lines, frame_lines, is_comment, are_distinct, IsAssignment, IsPart, IsFreePart, Witness, claims_line, witness_lines, AreFrames, IsWitness, most_lines, Says, AreParts}
use Rattle.witness.specs.Admits.{assignment_at, may_name, state_assignment_at, claims_at, AtStatus, AtClaims, AtParts, InStates, InFrame, AtEnd, Read, nothing_read, frame_closed, admit, word_reader, read_text}
use Rattle.witness.proofs.StepWords.{states_closed}
use Rattle.witness.proofs.ReadingLemmas.{admit_all, admitted, text_is_read}
use Rattle.witness.proofs.AssignmentLemmas.{stands_in, assignment_at-assignment_line, state_assignment_at-assignment_line, IsPlain, assignment_line_is_plain, assignment_line_is_line, claims_line_is_line}
use Rattle.base.specs.Lines.{IsLine, whole_lines, unfinished}
use Rattle.base.proofs.LineLemmas.{EachLine, lines_of_text, unfinished_of_text}
use Rattle.witness.proofs.ClaimLemmas.{claims_at-claims_line}

-- the decimals of a model's properties, states and inputs can be read
pub record IsSmall (shape : Shape) : Type 0 where
  pub bads : shape.bads < 2 ^ 64
  pub states : length shape.states < 2 ^ 64
  pub inputs : length shape.inputs < 2 ^ 64

-- ---- no number stands twice

abbrev pub indices : List Assignment → List ℕ
indices list = map (λ a. a.index) list

pub stands_in-indices : (i : ℕ) (list : List Assignment) → stands_in i list ≡ list_any (λ x. x == i) (indices list)
stands_in-indices i [] = refl
stands_in-indices i (a ∷ list) = ap (λ (b : Bool). (a.index == i) || b) (stands_in-indices i list)

pub was_false : (b : Bool) → not b ≡ true → b ≡ false
was_false true h = absurd cc
was_false false h = refl

-- a number is none of those before it
none_before : (xs : List ℕ) (y : ℕ) (ys : List ℕ) → are_distinct (xs ++ y ∷ ys) ≡ true → list_any (λ x. x == y) xs ≡ false
none_before [] y ys h = refl
none_before (x ∷ xs) y ys h =
    let parts = and_parts (not (list_any (λ z. z == x) (xs ++ y ∷ ys))) (are_distinct (xs ++ y ∷ ys)) h in
    let all = sym (list_any-append (λ z. z == x) xs (y ∷ ys)) ∙ was_false (list_any (λ z. z == x) (xs ++ y ∷ ys)) parts.0 in
    let behind = (or_parts (list_any (λ z. z == x) xs) (list_any (λ z. z == x) (y ∷ ys)) all).1 in
    let first = ne_eqb x y (λ e. eqb-false y x (or_parts (y == x) (list_any (λ z. z == x) ys) behind).0 (sym e)) in
    rw first (none_before xs y ys parts.1)

-- numbers with one behind them
pub distinct_more : (xs : List ℕ) (y : ℕ) → are_distinct (xs ++ y ∷ []) ≡ (are_distinct xs && not (list_any (λ x. x == y) xs))
distinct_more [] y = refl
distinct_more (x ∷ xs) y =
    let all : list_any (λ z. z == x) (xs ++ y ∷ []) ≡ (list_any (λ z. z == x) xs || (x == y)) = list_any-append (λ z. z == x) xs (y ∷ []) ∙ ap (λ (b : Bool). list_any (λ z. z == x) xs || b) (or-false (y == x) ∙ turned) in
    rw (all, distinct_more xs y) (by (list_any (λ z. z == x) xs) (x == y) (are_distinct xs) (list_any (λ z. z == y) xs))
  where
    turned : (y == x) ≡ (x == y)
    turned =
        elim (cases_eq x y) [
          | inl e ↦ rw (eq-eqb x y e, eq-eqb y x (sym e)) refl
          | inr n ↦ rw (ne_eqb x y n, ne_eqb y x (λ e. n (sym e))) refl
        ]

    by : (some same apart twice : Bool) → (not (some || same) && (apart && not twice)) ≡ ((not some && apart) && not (same || twice))
    by true same apart twice = refl
    by false true true twice = refl
    by false true false twice = refl
    by false false apart twice = refl

pub distinct_with : (xs : List ℕ) (y : ℕ) → are_distinct xs ≡ true → list_any (λ x. x == y) xs ≡ false → are_distinct (xs ++ y ∷ []) ≡ true
distinct_with xs y distinct new = rw (distinct_more xs y, distinct, new) refl

-- ---- line by line

-- the parts of a frame
abbrev pub parts_of : Option (List Assignment) → List Assignment → Parts
parts_of states list = record { states = states; inputs = list }

-- what was read at each place
abbrev pub at_claims : Read
at_claims = record { place = AtClaims; claims = []; closed = []; states = None; open_part = [] }

abbrev pub at_parts : List ℕ → Read
at_parts claims = record { place = AtParts; claims = claims; closed = []; states = None; open_part = [] }

abbrev pub in_states : List ℕ → List Parts → List Assignment → Read
in_states claims closed list = record { place = InStates; claims = claims; closed = closed; states = None; open_part = list }

abbrev pub in_frame : List ℕ → List Parts → Option (List Assignment) → List Assignment → Read
in_frame claims closed states list = record { place = InFrame; claims = claims; closed = closed; states = states; open_part = list }

abbrev pub at_end : List ℕ → List Parts → Read
at_end claims frames = record { place = AtEnd; claims = claims; closed = frames; states = None; open_part = [] }

pub comment_line : (shape : Shape) (line : List ℕ) → is_comment line ≡ true → admit shape nothing_read line ≡ Ok nothing_read
unfolding admit
comment_line shape line is = rw is refl

same_line : (line : List ℕ) → bytes_eq line line ≡ true
same_line line = (bytes_eq-Decides line line).1 refl

-- whatever was read before
module _ (shape : Shape) (r : Read) where
  pub status_line : r.place ≡ AtStatus → admit shape r (codes "sat") ≡ Ok (record r { place = AtClaims })
  unfolding admit
  status_line at = rw at refl

  pub line_of_claims : (line claims : List ℕ) → r.place ≡ AtClaims → claims_at shape.bads line ≡ Ok claims → admit shape r line ≡ Ok (record r { place = AtParts; claims = claims })
  unfolding admit
  line_of_claims line claims at h = rw (at, h) refl

  pub states_begin : r.place ≡ AtParts → admit shape r (35 ∷ decimal 0) ≡ Ok (record r { place = InStates })
  unfolding admit digits
  states_begin at = rw at refl

  pub frames_begin : r.place ≡ AtParts → admit shape r (64 ∷ decimal 0) ≡ Ok (record r { place = InFrame })
  unfolding admit digits
  frames_begin at = rw at refl

  pub states_end : r.place ≡ InStates → admit shape r (64 ∷ decimal (length r.closed)) ≡ Ok (states_closed r)
  unfolding admit
  states_end at = rw (at, same_line (64 ∷ decimal (length r.closed))) refl

  next_frame : r.place ≡ InFrame → admit shape r (64 ∷ decimal (suc (length r.closed))) ≡ Ok (frame_closed InFrame r)
  unfolding admit
  next_frame at = rw (at, same_line (64 ∷ decimal (suc (length r.closed)))) refl

  next_states : r.place ≡ InFrame → has_free shape ≡ true → admit shape r (35 ∷ decimal (suc (length r.closed))) ≡ Ok (frame_closed InStates r)
  unfolding admit
  next_states at some = rw (at, same_line (35 ∷ decimal (suc (length r.closed))), some) refl

  pub last_line : r.place ≡ InFrame → admit shape r (codes ".") ≡ Ok (frame_closed AtEnd r)
  unfolding admit
  last_line at = rw at refl

  line_in_states : (line : List ℕ) (list : List Assignment) → r.place ≡ InStates → IsPlain line → state_assignment_at shape r.closed r.open_part line ≡ Ok list → admit shape r line ≡ Ok (record r { open_part = list })
  unfolding admit
  line_in_states line list at plain h = rw (at, plain.no_frame (decimal (length r.closed)), plain.no_part, h) refl

  line_in_frame : (line : List ℕ) (list : List Assignment) → r.place ≡ InFrame → IsPlain line → assignment_at shape.inputs r.open_part line ≡ Ok list → admit shape r line ≡ Ok (record r { open_part = list })
  unfolding admit
  line_in_frame line list at plain h =
      let k : ℕ = suc (length r.closed) in
      rw (at, plain.no_frame (decimal k), plain.no_states (decimal k), plain.no_end, plain.no_part, h) refl

-- ---- a part

-- an assignment's index is none of those before it in a part
new_index : (before : List Assignment) (a : Assignment) (list : List Assignment) → are_distinct (indices (before ++ a ∷ list)) ≡ true → stands_in a.index before ≡ false
new_index before a list h =
    let joined : are_distinct (indices before ++ a.index ∷ indices list) ≡ true = ap are_distinct (sym (map-append (λ (b : Assignment). b.index) before (a ∷ list))) ∙ h in
    stands_in-indices a.index before ∙ none_before (indices before) a.index (indices list) joined

moved : (before : List Assignment) (a : Assignment) (list : List Assignment) → are_distinct (indices (before ++ a ∷ list)) ≡ true → are_distinct (indices ((before ++ a ∷ []) ++ list)) ≡ true
moved before a list h = ap (λ (l : List Assignment). are_distinct (indices l)) (append_assoc before (a ∷ []) list) ∙ h

-- the lines of a part are read one after the other, at a place that goes by what was read of it
part_read : (shape : Shape) (widths : List ℕ) (at : List Assignment → Read) (Valid : Assignment → Type 0)
    → ((before : List Assignment) (a : Assignment) → Valid a → stands_in a.index before ≡ false → admit shape (at before) (assignment_line widths a) ≡ Ok (at (before ++ a ∷ [])))
    → (before list : List Assignment) (tail : List (List ℕ)) → AllByRecursion Valid list → are_distinct (indices (before ++ list)) ≡ true
    → admit_all (word_reader shape) (at before) (map (assignment_line widths) list ++ tail) ≡ admit_all (word_reader shape) (at (before ++ list)) tail
part_read shape widths at Valid step before [] tail each distinct = ap (λ (l : List Assignment). admit_all (word_reader shape) (at l) tail) (sym (append-nil before))
part_read shape widths at Valid step before (a ∷ list) tail each distinct =
    admitted (word_reader shape) (at before) (assignment_line widths a) (at (before ++ a ∷ [])) (map (assignment_line widths) list ++ tail) (step before a each.0 (new_index before a list distinct))
    ∙ (part_read shape widths at Valid step (before ++ a ∷ []) list tail each.1 (moved before a list distinct)
    ∙ ap (λ (l : List Assignment). admit_all (word_reader shape) (at l) tail) (append_assoc before (a ∷ []) list))

-- what a part of states may say behind these frames
abbrev pub IsStates : Shape → List Parts → List Assignment → Type 0
IsStates shape [] list = IsPart shape.states list
IsStates shape (x ∷ xs) list = IsFreePart shape list

pub later_states : (shape : Shape) (closed : List Parts) (last : Parts) (list : List Assignment) → IsFreePart shape list → IsStates shape (closed ++ last ∷ []) list
later_states shape [] last list part = part
later_states shape (x ∷ xs) last list part = part

-- an assignment that may stand there
abbrev MayStand : Shape → List Parts → Assignment → Type 0
MayStand shape closed a = may_name shape closed (Some a.index) ≡ true

each_may_stand : (shape : Shape) (closed : List Parts) (list : List Assignment) → IsStates shape closed list → IsPart shape.states list × All (MayStand shape closed) list
each_may_stand shape [] list part = (part, All-weaker (IsAssignment shape.states) (MayStand shape []) (λ a h. refl) list part.each)
each_may_stand shape (x ∷ xs) list part = (part.part, part.free)

states_part : (shape : Shape) (claims : List ℕ) (closed : List Parts) (list : List Assignment) (tail : List (List ℕ)) → IsSmall shape → IsStates shape closed list
    → admit_all (word_reader shape) (in_states claims closed []) (map (assignment_line shape.states) list ++ tail) ≡ admit_all (word_reader shape) (in_states claims closed list) tail
states_part shape claims closed list tail small part =
    let are = each_may_stand shape closed list part in
    part_read shape shape.states (in_states claims closed) (λ a. IsAssignment shape.states a × MayStand shape closed a)
    (λ before a is new. line_in_states shape (in_states claims closed before) (assignment_line shape.states a) (before ++ a ∷ []) refl (assignment_line_is_plain shape.states a small.states is.0) (state_assignment_at-assignment_line shape closed before a small.states is.0 is.1 new)) []
    list tail (both list (recursion_from_All (IsAssignment shape.states) list are.0.each) (recursion_from_All (MayStand shape closed) list are.1)) are.0.distinct
  where
    both : (l : List Assignment) → AllByRecursion (IsAssignment shape.states) l → AllByRecursion (MayStand shape closed) l → AllByRecursion (λ a. IsAssignment shape.states a × MayStand shape closed a) l
    both [] each may = tt
    both (a ∷ l) each may = ((each.0, may.0), both l each.1 may.1)

-- with the line behind it
pub states_read : (shape : Shape) (claims : List ℕ) (closed : List Parts) (list : List Assignment) (tail : List (List ℕ)) → IsSmall shape → IsStates shape closed list
    → admit_all (word_reader shape) (in_states claims closed []) (map (assignment_line shape.states) list ++ ((64 ∷ decimal (length closed)) ∷ tail)) ≡ admit_all (word_reader shape) (in_frame claims closed (Some list) []) tail
states_read shape claims closed list tail small part =
    states_part shape claims closed list ((64 ∷ decimal (length closed)) ∷ tail) small part
    ∙ admitted (word_reader shape) (in_states claims closed list) (64 ∷ decimal (length closed)) (in_frame claims closed (Some list) []) tail (states_end shape (in_states claims closed list) refl)

inputs_part : (shape : Shape) (claims : List ℕ) (closed : List Parts) (states : Option (List Assignment)) (list : List Assignment) (tail : List (List ℕ)) → IsSmall shape → IsPart shape.inputs list
    → admit_all (word_reader shape) (in_frame claims closed states []) (map (assignment_line shape.inputs) list ++ tail) ≡ admit_all (word_reader shape) (in_frame claims closed states list) tail
inputs_part shape claims closed states list tail small part =
    part_read shape shape.inputs (in_frame claims closed states) (IsAssignment shape.inputs)
    (λ before a is new. line_in_frame shape (in_frame claims closed states before) (assignment_line shape.inputs a) (before ++ a ∷ []) refl (assignment_line_is_plain shape.inputs a small.inputs is) (assignment_at-assignment_line shape.inputs before a small.inputs is new)) []
    list tail (recursion_from_All (IsAssignment shape.inputs) list part.each) part.distinct

-- ---- the frames, and the line behind them

-- lines behind those of some frames
pub frame_lines-behind : (shape : Shape) (k : ℕ) (next : Parts) (more : List Parts) (behind : List (List ℕ))
    → frame_lines shape k (next ∷ more) ++ behind ≡ states_lines shape.states k next.states ++ ((64 ∷ decimal k) ∷ (map (assignment_line shape.inputs) next.inputs ++ (frame_lines shape (suc k) more ++ behind)))
frame_lines-behind shape k next more behind =
    let states : List (List ℕ) = states_lines shape.states k next.states in
    let here : List (List ℕ) = map (assignment_line shape.inputs) next.inputs in
    let rest : List (List ℕ) = frame_lines shape (suc k) more in
    append_assoc states ((64 ∷ decimal k) ∷ (here ++ rest)) behind ∙ ap (λ (ls : List (List ℕ)). states ++ ((64 ∷ decimal k) ∷ ls)) (append_assoc here rest behind)

-- a frame behind another begins, by its states or by its line
next_begins : (shape : Shape) (claims : List ℕ) (closed : List Parts) (states : Option (List Assignment)) (list : List Assignment) (next : Option (List Assignment)) (tail : List (List ℕ)) → IsSmall shape → IfSome next (IsFreePart shape)
    → admit_all (word_reader shape) (in_frame claims closed states list) (states_lines shape.states (suc (length closed)) next ++ ((64 ∷ decimal (suc (length closed))) ∷ tail))
    ≡ admit_all (word_reader shape) (in_frame claims (closed ++ parts_of states list ∷ []) next []) tail
next_begins shape claims closed states list None tail small part =
    let k : ℕ = suc (length closed) in
    admitted (word_reader shape) (in_frame claims closed states list) (64 ∷ decimal k) (in_frame claims (closed ++ parts_of states list ∷ []) None []) tail (next_frame shape (in_frame claims closed states list) refl)
next_begins shape claims closed states list (Some free) tail small part =
    let k : ℕ = suc (length closed) in
    let others : List Parts = closed ++ parts_of states list ∷ [] in
    let count : k ≡ length others = omega (arith, length-append closed (parts_of states list ∷ [])) in
    admitted (word_reader shape) (in_frame claims closed states list) (35 ∷ decimal k) (in_states claims others []) (map (assignment_line shape.states) free ++ ((64 ∷ decimal k) ∷ tail)) (next_states shape (in_frame claims closed states list) refl part.some)
    ∙ (ap (λ (n : ℕ). admit_all (word_reader shape) (in_states claims others []) (map (assignment_line shape.states) free ++ ((64 ∷ decimal n) ∷ tail))) count
    ∙ states_read shape claims others free tail small (later_states shape closed (parts_of states list) free part))

pub frames_part : (shape : Shape) (claims : List ℕ) (closed : List Parts) (states : Option (List Assignment)) (list : List Assignment) (more : List Parts) → IsSmall shape → IsPart shape.inputs list → AllByRecursion (AreParts shape (IsFreePart shape)) more
    → admit_all (word_reader shape) (in_frame claims closed states []) (map (assignment_line shape.inputs) list ++ (frame_lines shape (suc (length closed)) more ++ codes "." ∷ [])) ≡ Ok (at_end claims (closed ++ parts_of states list ∷ more))
frames_part shape claims closed states list [] small part parts =
    inputs_part shape claims closed states list (codes "." ∷ []) small part
    ∙ admitted (word_reader shape) (in_frame claims closed states list) (codes ".") (at_end claims (closed ++ parts_of states list ∷ [])) [] (last_line shape (in_frame claims closed states list) refl)
frames_part shape claims closed states list (next ∷ more) small part parts =
    let k : ℕ = suc (length closed) in
    let others : List Parts = closed ++ parts_of states list ∷ [] in
    let count : suc k ≡ suc (length others) = omega (arith, length-append closed (parts_of states list ∷ [])) in
    let here : List (List ℕ) = map (assignment_line shape.inputs) next.inputs in
    let tail : List (List ℕ) = frame_lines shape (suc k) more ++ codes "." ∷ [] in
    inputs_part shape claims closed states list (frame_lines shape k (next ∷ more) ++ codes "." ∷ []) small part
    ∙ (ap (admit_all (word_reader shape) (in_frame claims closed states list)) (frame_lines-behind shape k next more (codes "." ∷ []))
    ∙ (next_begins shape claims closed states list next.states (here ++ tail) small parts.0.states
    ∙ (ap (λ (n : ℕ). admit_all (word_reader shape) (in_frame claims others next.states []) (here ++ (frame_lines shape n more ++ codes "." ∷ []))) count
    ∙ (frames_part shape claims others next.states next.inputs more small parts.0.inputs parts.1
    ∙ ap (λ (fs : List Parts). Ok (at_end claims fs)) (append_assoc closed (parts_of states list ∷ []) (next ∷ more))))))

-- ---- the frames behind the claims

-- the lines of the frames and the last one
abbrev pub frames_and_end : Shape → List Parts → List (List ℕ)
frames_and_end shape frames = frame_lines shape 0 frames ++ codes "." ∷ []

-- the first frame begins, by its states or by its line
first_begins : (shape : Shape) (claims : List ℕ) (states : Option (List Assignment)) (tail : List (List ℕ)) → IsSmall shape → IfSome states (IsPart shape.states)
    → admit_all (word_reader shape) (at_parts claims) (states_lines shape.states 0 states ++ ((64 ∷ decimal 0) ∷ tail)) ≡ admit_all (word_reader shape) (in_frame claims [] states []) tail
first_begins shape claims None tail small part = admitted (word_reader shape) (at_parts claims) (64 ∷ decimal 0) (in_frame claims [] None []) tail (frames_begin shape (at_parts claims) refl)
first_begins shape claims (Some list) tail small part =
    admitted (word_reader shape) (at_parts claims) (35 ∷ decimal 0) (in_states claims [] []) (map (assignment_line shape.states) list ++ ((64 ∷ decimal 0) ∷ tail)) (states_begin shape (at_parts claims) refl)
    ∙ states_read shape claims [] list tail small part

frames_read : (shape : Shape) (claims : List ℕ) (first : Parts) (more : List Parts) → IsSmall shape → AreParts shape (IsPart shape.states) first → AllByRecursion (AreParts shape (IsFreePart shape)) more
    → admit_all (word_reader shape) (at_parts claims) (frames_and_end shape (first ∷ more)) ≡ Ok (at_end claims (first ∷ more))
frames_read shape claims first more small parts later =
    let tail : List (List ℕ) = map (assignment_line shape.inputs) first.inputs ++ (frame_lines shape 1 more ++ codes "." ∷ []) in
    ap (admit_all (word_reader shape) (at_parts claims)) (frame_lines-behind shape 0 first more (codes "." ∷ []))
    ∙ (first_begins shape claims first.states tail small parts.states
    ∙ frames_part shape claims [] first.states first.inputs more small parts.inputs later)

-- ---- the comments, the status and the claims

comments_read : (shape : Shape) (comments lines : List (List ℕ)) → AllByRecursion (λ line. is_comment line ≡ true) comments
    → admit_all (word_reader shape) nothing_read (comments ++ lines) ≡ admit_all (word_reader shape) nothing_read lines
comments_read shape [] lines each = refl
comments_read shape (line ∷ comments) lines each =
    admitted (word_reader shape) nothing_read line nothing_read (comments ++ lines) (comment_line shape line each.0) ∙ comments_read shape comments lines each.1

-- what a witness says is what its lines are read as
abbrev pub all_read : Witness → Read
all_read w = at_end w.claims w.frames

all_frames_read : (shape : Shape) (claims : List ℕ) (frames : List Parts) → IsSmall shape → AreFrames shape frames
    → admit_all (word_reader shape) (at_parts claims) (frames_and_end shape frames) ≡ Ok (at_end claims frames)
all_frames_read shape claims [] small valid = absurd valid
all_frames_read shape claims (first ∷ more) small valid = frames_read shape claims first more small valid.0 (recursion_from_All (AreParts shape (IsFreePart shape)) more valid.1)

witness_read : (shape : Shape) (comments : List (List ℕ)) (w : Witness) → IsSmall shape → AllByRecursion (λ line. is_comment line ≡ true) comments → IsWitness shape w
    → admit_all (word_reader shape) nothing_read (witness_lines shape comments w) ≡ Ok (all_read w)
witness_read shape comments w small marked valid =
    let after : List (List ℕ) = frames_and_end shape w.frames in
    let claims = line_of_claims shape at_claims (claims_line w.claims) w.claims refl (claims_at-claims_line shape.bads w.claims small.bads valid.some_claim (recursion_from_All (λ i. i < shape.bads) w.claims valid.claims) valid.distinct) in
    comments_read shape comments (codes "sat" ∷ claims_line w.claims ∷ after) marked
    ∙ (admitted (word_reader shape) nothing_read (codes "sat") at_claims (claims_line w.claims ∷ after) (status_line shape nothing_read refl)
    ∙ (admitted (word_reader shape) at_claims (claims_line w.claims) (at_parts w.claims) after claims
    ∙ all_frames_read shape w.claims w.frames small valid.frames))

-- ---- no line has a byte 10

each_append : (front back : List (List ℕ)) → EachLine front → EachLine back → EachLine (front ++ back)
each_append [] back f b = b
each_append (line ∷ front) back f b = (f.0, each_append front back f.1 b)

each_assignment : (widths : List ℕ) (list : List Assignment) → length widths < 2 ^ 64 → AllByRecursion (IsAssignment widths) list → EachLine (map (assignment_line widths) list)
each_assignment widths [] small each = tt
each_assignment widths (a ∷ list) small each = (assignment_line_is_line widths a small each.0, each_assignment widths list small each.1)

-- any frame is one that the first may be
later_is_first : (shape : Shape) (more : List Parts) → AllByRecursion (AreParts shape (IsFreePart shape)) more → AllByRecursion (AreParts shape (IsPart shape.states)) more
later_is_first shape [] later = tt
later_is_first shape (parts ∷ more) later = (record { states = any_states shape parts.states later.0.states; inputs = later.0.inputs }, later_is_first shape more later.1)
  where
    any_states : (shape : Shape) (states : Option (List Assignment)) → IfSome states (IsFreePart shape) → IfSome states (IsPart shape.states)
    any_states shape None free = tt
    any_states shape (Some list) free = free.part

each_are_frames : (shape : Shape) (frames : List Parts) → AreFrames shape frames → AllByRecursion (AreParts shape (IsPart shape.states)) frames
each_are_frames shape [] valid = absurd valid
each_are_frames shape (first ∷ more) valid = (valid.0, later_is_first shape more (recursion_from_All (AreParts shape (IsFreePart shape)) more valid.1))

each_states : (widths : List ℕ) (k : ℕ) (states : Option (List Assignment)) → length widths < 2 ^ 64 → k < 2 ^ 64 → IfSome states (IsPart widths) → EachLine (states_lines widths k states)
each_states widths k None small lt part = tt
each_states widths k (Some list) small lt part = (decimal_without 10 k (omega arith) lt, each_assignment widths list small (recursion_from_All (IsAssignment widths) list part.each))

each_frame : (shape : Shape) (k : ℕ) (frames : List Parts) → IsSmall shape → k + length frames ≤ 2 ^ 62 → AllByRecursion (AreParts shape (IsPart shape.states)) frames → EachLine (frame_lines shape k frames)
each_frame shape k [] small few all = tt
each_frame shape k (parts ∷ more) small few all =
    let lt : k < 2 ^ 64 = omega arith in
    let fewer : suc k + length more ≤ 2 ^ 62 = omega arith in
    let here = each_assignment shape.inputs parts.inputs small.inputs (recursion_from_All (IsAssignment shape.inputs) parts.inputs all.0.inputs.each) in
    let inputs = each_append (map (assignment_line shape.inputs) parts.inputs) (frame_lines shape (suc k) more) here (each_frame shape (suc k) more small fewer all.1) in
    each_append (states_lines shape.states k parts.states) ((64 ∷ decimal k) ∷ (map (assignment_line shape.inputs) parts.inputs ++ frame_lines shape (suc k) more))
    (each_states shape.states k parts.states small.states lt all.0.states) (decimal_without 10 k (omega arith) lt, inputs)

-- each frame has a line
pub frames_have_lines : (shape : Shape) (k : ℕ) (frames : List Parts) → length frames ≤ length (frame_lines shape k frames)
frames_have_lines shape k [] = omega arith
frames_have_lines shape k (parts ∷ more) =
    let others = frames_have_lines shape (suc k) more in
    let behind : List (List ℕ) = (64 ∷ decimal k) ∷ (map (assignment_line shape.inputs) parts.inputs ++ frame_lines shape (suc k) more) in
    omega (arith, length-append (states_lines shape.states k parts.states) behind, length-append (map (assignment_line shape.inputs) parts.inputs) (frame_lines shape (suc k) more))

few_frames : (shape : Shape) (comments : List (List ℕ)) (w : Witness) → length (witness_lines shape comments w) ≤ most_lines → length w.frames ≤ 2 ^ 62
few_frames shape comments w few =
    let frames : List (List ℕ) = frame_lines shape 0 w.frames in
    omega (arith, length-append comments (codes "sat" ∷ (claims_line w.claims ∷ frames_and_end shape w.frames)), length-append frames (codes "." ∷ []), frames_have_lines shape 0 w.frames)

each_witness_line : (shape : Shape) (comments : List (List ℕ)) (w : Witness) → IsSmall shape → EachLine comments → IsWitness shape w → length (witness_lines shape comments w) ≤ most_lines → EachLine (witness_lines shape comments w)
each_witness_line shape comments w small lines valid few =
    let claims = claims_line_is_line shape.bads w.claims small.bads (recursion_from_All (λ i. i < shape.bads) w.claims valid.claims) in
    let number : 0 + length w.frames ≤ 2 ^ 62 = omega (arith, few_frames shape comments w few) in
    let frames = each_frame shape 0 w.frames small number (each_are_frames shape w.frames valid.frames) in
    each_append comments (codes "sat" ∷ (claims_line w.claims ∷ frames_and_end shape w.frames)) lines
    (refl, (claims, each_append (frame_lines shape 0 w.frames) (codes "." ∷ []) frames (refl, tt)))

-- ---- the whole text

-- a text that says a witness is read as it
pub says_read : (shape : Shape) (text : List ℕ) (w : Witness) → IsSmall shape → Says shape text w → read_text shape text ≡ Ok (all_read w)
says_read shape text w small says =
    let lines : List (List ℕ) = witness_lines shape says.comments w in
    let each = each_witness_line shape says.comments w small (recursion_from_All IsLine says.comments says.lines) says.valid says.few in
    let whole : whole_lines text ≡ lines = ap whole_lines says.whole ∙ lines_of_text lines each in
    let rest : unfinished text ≡ [] = ap unfinished says.whole ∙ unfinished_of_text lines in
    let read = witness_read shape says.comments w small (recursion_from_All (λ line. is_comment line ≡ true) says.comments says.marked) says.valid in
    text_is_read (word_reader shape) text (all_read w) (ap (admit_all (word_reader shape) nothing_read) whole ∙ read) refl rest (omega (arith, says.few, ap length whole))
