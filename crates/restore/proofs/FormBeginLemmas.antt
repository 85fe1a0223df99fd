-- What a longer text of a witness of an engine form is restored to begins with what a beginning of it is.
use Rattle.std.proofs.Common.{◌≡◌, ℕ, ◌<◌, ◌^◌, Bool, true, false, ◌&&◌, ◌==◌, List, [], ◌∷◌, ◌++◌, codes, length, map, take, Option, None, Ok, Err, refl, sym, ap, ap₂, subst, ◌∙◌, append_assoc, append-nil, arith, if◌then◌else◌, inl, inr}
use Rattle.std.specs.Str.{bytes_eq}
use Rattle.std.proofs.lemmas.Bool.{cases_Bool}
use Rattle.base.specs.Lines.{whole_lines, unfinished}
use Rattle.base.specs.Literal.{Valuation}
use Rattle.aiger.specs.Circuit.{Circuit, IsCircuit}
use Rattle.aiger.specs.Trace.{next_latch_bits}
use Rattle.engine_form.specs.EngineForm.{begins, all_hold}
use Rattle.witness.specs.declared.why.Why.TheVariants as why
use Rattle.witness.specs.BitTexts.{bit_line}
use Rattle.witness.specs.Readings.{lines_read, reading}
use Rattle.witness.specs.BitAdmits.{BitPlace, AtHeader, AtClaim, AtInitial, AtFirst, AtLater, AtDone, BitRead, bit_admit_at, bit_admit, bit_reader, is_done}
use Rattle.witness.specs.Reached.{bits_said_in}
use Rattle.restore.specs.Frames.{frame_of}
use Rattle.restore.specs.Restored.{rises_in, own_inputs, cut_inputs, written_frames, opening}
use Rattle.restore.specs.FormWitness.{property_of, restored_frame_lines, last_line, read_restored_lines}
use Rattle.witness.proofs.TextEndLemmas.{lines_behind_text}
use Rattle.restore.proofs.BitPlaceLemmas.{line_more}
use Rattle.restore.proofs.FormLineLemmas.{status_line, claim_line, initial_line, end_line, frame_line}

-- ---- frames

cut_more : (c : Circuit) (k : ℕ) (met : Bool) (state : List Bool) (xs ys : List (List Bool)) → (rest : List (List Bool)) × (cut_inputs c k met state xs ++ rest ≡ cut_inputs c k met state (xs ++ ys))
cut_more c k met state [] ys = (cut_inputs c k met state ys, refl)
cut_more c k met state (x ∷ xs) ys =
    let v : Valuation = frame_of c state x in
    by (rises_in c k met v) (cut_more c k (met && all_hold c v) (next_latch_bits c v) xs ys)
  where
    by : (b : Bool) → (rest : List (List Bool)) × (cut_inputs c k (met && all_hold c (frame_of c state x)) (next_latch_bits c (frame_of c state x)) xs ++ rest ≡ cut_inputs c k (met && all_hold c (frame_of c state x)) (next_latch_bits c (frame_of c state x)) (xs ++ ys))
        → (rest : List (List Bool))
        × ((x ∷ (if b then [] else cut_inputs c k (met && all_hold c (frame_of c state x)) (next_latch_bits c (frame_of c state x)) xs)) ++ rest ≡ x ∷ (if b then [] else cut_inputs c k (met && all_hold c (frame_of c state x)) (next_latch_bits c (frame_of c state x)) (xs ++ ys)))
    by true later = ([], refl)
    by false later = (later.0, ap (λ (l : List (List Bool)). x ∷ l) later.1)

map_behind : {A B : Type 0} (f : A → B) (xs ys : List A) → map f xs ++ map f ys ≡ map f (xs ++ ys)
map_behind f [] ys = refl
map_behind f (x ∷ xs) ys = ap (λ l. f x ∷ l) (map_behind f xs ys)

pub lines_begin : (c : Circuit) (k : ℕ) (given more : List (List Bool)) → (rest : List (List ℕ)) × (restored_frame_lines c k given ++ rest ≡ restored_frame_lines c k (given ++ more))
lines_begin c k [] more = (restored_frame_lines c k more, refl)
lines_begin c k (bits ∷ given) more =
    let cut = cut_more c k true (begins c (bits ∷ given)) (own_inputs c (bits ∷ given)) (own_inputs c more) in
    let all : written_frames c k (bits ∷ given) ++ cut.0 ≡ written_frames c k (bits ∷ (given ++ more)) = cut.1 ∙ ap (cut_inputs c k true (begins c (bits ∷ given))) (map_behind (take c.inputs) (bits ∷ given) more) in (
      map bit_line cut.0,
      append_assoc (opening c k (bits ∷ given)) (map bit_line (written_frames c k (bits ∷ given))) (map bit_line cut.0)
          ∙ ap (λ (l : List (List ℕ)). opening c k (bits ∷ given) ++ l) (map_behind bit_line (written_frames c k (bits ∷ given)) cut.0 ∙ ap (map bit_line) all),
    )

-- ---- one line

abbrev HasFrames : Circuit → BitRead → BitPlace → Type 0
HasFrames d r AtLater = (r.frames ≡ [] → ⊥) × (r.claim < length d.bads)
HasFrames d r AtDone = (r.frames ≡ [] → ⊥) × (r.claim < length d.bads)
HasFrames d r AtHeader = r.frames ≡ []
HasFrames d r AtClaim = r.frames ≡ []
HasFrames d r AtInitial = (r.frames ≡ []) × (r.claim < length d.bads)
HasFrames d r AtFirst = (r.frames ≡ []) × (r.claim < length d.bads)

-- there is a frame behind the first place of one, and none before; and the claim is there behind its place
abbrev IsFramed : Circuit → BitRead → Type 0
IsFramed d r = HasFrames d r r.place

nothing_restored : (c : Circuit) (choice : Option ℕ) (r : BitRead) → r.frames ≡ [] → is_done r.place ≡ false → read_restored_lines c choice r ≡ []
nothing_restored c choice r none going = ap₂ (λ (fs : List (List Bool)) (b : Bool). restored_frame_lines c (property_of choice r.claim) fs ++ last_line b) none going

abbrev Begins : Circuit → Option ℕ → BitRead → BitRead → Type 0
Begins c choice r next = (rest : List (List ℕ)) × (read_restored_lines c choice r ++ rest ≡ read_restored_lines c choice next)

begins_nothing : (c : Circuit) (choice : Option ℕ) (r next : BitRead) → r.frames ≡ [] → is_done r.place ≡ false → Begins c choice r next
begins_nothing c choice r next none going = (read_restored_lines c choice next, ap (λ (t : List (List ℕ)). t ++ read_restored_lines c choice next) (nothing_restored c choice r none going))

record Goes (c : Circuit) (choice : Option ℕ) (d : Circuit) (r next : BitRead) : Type 0 where
  begins : Begins c choice r next
  framed : IsFramed d next

so_far : (c : Circuit) (choice : Option ℕ) (r : BitRead) → is_done r.place ≡ false → read_restored_lines c choice r ≡ restored_frame_lines c (property_of choice r.claim) r.frames
so_far c choice r going = ap (λ (b : Bool). restored_frame_lines c (property_of choice r.claim) r.frames ++ last_line b) going ∙ append-nil (restored_frame_lines c (property_of choice r.claim) r.frames)

some_frame : (frames : List (List Bool)) (bits : List Bool) → frames ++ bits ∷ [] ≡ [] → ⊥
some_frame [] bits e = cc
some_frame (first ∷ frames) bits e = cc

goes : (c : Circuit) (choice : Option ℕ) (d : Circuit) (r next : BitRead) (line : List ℕ) (place : BitPlace) → length d.bads < 2 ^ 64 → r.place ≡ place → HasFrames d r place → bit_admit_at d r line place ≡ Ok next → Goes c choice d r next
goes c choice d r next line AtHeader few at none h =
    let is = status_line d r next line 0 AtHeader refl refl h in
    record { begins = begins_nothing c choice r next none (ap is_done at); framed = subst (IsFramed d) (sym is) none }
goes c choice d r next line AtClaim few at none h =
    let is = claim_line d r next line 1 AtClaim few refl refl h in
    record { begins = begins_nothing c choice r next none (ap is_done at); framed = subst (IsFramed d) (sym is.says) (none, is.below) }
goes c choice d r next line AtInitial few at none h =
    let i = initial_line d r next line 2 AtInitial refl refl h in
    record { begins = begins_nothing c choice r next none.0 (ap is_done at); framed = subst (IsFramed d) (sym i.1.0) none }
goes c choice d r next line AtFirst few at none h = elim (cases_Bool (bytes_eq line (codes "."))) [
  | inl end ↦ let no : Err why.FrameOrder ≡ Ok next = rw end at h in absurd cc
  | inr other ↦ let f = frame_line d r next line 3 AtFirst (omega arith) other refl h in record { begins = begins_nothing c choice r next none.0 (ap is_done at); framed = subst (IsFramed d) (sym f.0.says) (some_frame r.frames (map (λ b. b == 49) line), none.1) }
]
goes c choice d r next line AtLater few at some h =
    let k : ℕ = property_of choice r.claim in
    let now : read_restored_lines c choice r ≡ restored_frame_lines c k r.frames = so_far c choice r (ap is_done at) in
    elim (cases_Bool (bytes_eq line (codes "."))) [
      | inl end ↦
          let e = end_line d r next line 4 AtLater (omega arith) end (omega arith) h in
          record {
            begins = (codes "." ∷ [], ap (λ (t : List (List ℕ)). t ++ codes "." ∷ []) now ∙ ap (read_restored_lines c choice) (sym e.0));
            framed = subst (IsFramed d) (sym e.0) some;
          }
      | inr other ↦
          let f = frame_line d r next line 4 AtLater (omega arith) other (omega arith) h in
          let bits : List Bool = map (λ b. b == 49) line in
          let more = lines_begin c k r.frames (bits ∷ []) in
          record {
            begins = (more.0, ap (λ (t : List (List ℕ)). t ++ more.0) now ∙ more.1 ∙ sym (append-nil (restored_frame_lines c k (r.frames ++ bits ∷ []))) ∙ ap (read_restored_lines c choice) (sym f.0.says));
            framed = subst (IsFramed d) (sym f.0.says) (some_frame r.frames bits, some.1);
          }
    ]
goes c choice d r next line AtDone few at some h = absurd cc

-- ---- all lines

abbrev read_lines : Circuit → List (List ℕ) → BitRead
read_lines d lines = (lines_read (bit_reader d) lines).read

one_line : (c : Circuit) (choice : Option ℕ) (d : Circuit) (lines : List (List ℕ)) (line : List ℕ) → length d.bads < 2 ^ 64 → IsFramed d (read_lines d lines) → Goes c choice d (read_lines d lines) (read_lines d (lines ++ line ∷ []))
unfolding bit_admit
one_line c choice d lines line few framed = elim (line_more d lines line) [
  | inl p ↦ record { begins = ([], append-nil (read_restored_lines c choice (read_lines d lines)) ∙ ap (read_restored_lines c choice) (sym p.read)); framed = subst (IsFramed d) (sym p.read) framed }
  | inr a ↦ goes c choice d (read_lines d lines) (read_lines d (lines ++ line ∷ [])) line (read_lines d lines).place few refl framed a.reads
]

all_lines : (c : Circuit) (choice : Option ℕ) (d : Circuit) (lines more : List (List ℕ)) → length d.bads < 2 ^ 64 → IsFramed d (read_lines d lines) → Goes c choice d (read_lines d lines) (read_lines d (lines ++ more))
all_lines c choice d lines [] few framed = let same = ap (read_lines d) (append-nil lines) in record { begins = ([], append-nil (read_restored_lines c choice (read_lines d lines)) ∙ ap (read_restored_lines c choice) (sym same)); framed = subst (IsFramed d) (sym same) framed }
all_lines c choice d lines (line ∷ more) few framed =
    let one = one_line c choice d lines line few framed in
    let rest = all_lines c choice d (lines ++ line ∷ []) more few one.framed in
    let same = ap (read_lines d) (append_assoc lines (line ∷ []) more) in
    let both = subst (λ (x : BitRead). Begins c choice (read_lines d (lines ++ line ∷ [])) x) same rest.begins in
    record {
      begins = (
        one.begins.0 ++ both.0,
        sym (append_assoc (read_restored_lines c choice (read_lines d lines)) one.begins.0 both.0) ∙ ap (λ (t : List (List ℕ)). t ++ both.0) one.begins.1 ∙ both.1,
      );
      framed = subst (IsFramed d) same rest.framed;
    }

few_bads : (d : Circuit) → IsCircuit d → length d.bads < 2 ^ 64
few_bads d valid = omega (arith, valid.few.bads)

framed_read : (d : Circuit) (text : List ℕ) → IsCircuit d → IsFramed d (bits_said_in d text)
unfolding reading
framed_read d text valid = (all_lines d None d [] (whole_lines text) (few_bads d valid) refl).framed

pub done_has_frames : (d : Circuit) (text : List ℕ) → IsCircuit d → is_done (bits_said_in d text).place ≡ true → (bits_said_in d text).frames ≡ [] → ⊥
done_has_frames d text valid done = by (bits_said_in d text).place (framed_read d text valid) done
  where
    by : (p : BitPlace) → HasFrames d (bits_said_in d text) p → is_done p ≡ true → (bits_said_in d text).frames ≡ [] → ⊥
    by AtHeader framed done = absurd cc
    by AtClaim framed done = absurd cc
    by AtInitial framed done = absurd cc
    by AtFirst framed done = absurd cc
    by AtLater framed done = absurd cc
    by AtDone framed done = framed.0

-- where there is a frame, the claim is there
pub claim_read : (d : Circuit) (text : List ℕ) → IsCircuit d → ((bits_said_in d text).frames ≡ [] → ⊥) → (bits_said_in d text).claim < length d.bads
claim_read d text valid some = by (bits_said_in d text).place (framed_read d text valid)
  where
    by : (p : BitPlace) → HasFrames d (bits_said_in d text) p → (bits_said_in d text).claim < length d.bads
    by AtHeader framed = absurd (some framed)
    by AtClaim framed = absurd (some framed)
    by AtInitial framed = framed.1
    by AtFirst framed = framed.1
    by AtLater framed = framed.1
    by AtDone framed = framed.1

pub restored_begins : (c : Circuit) (choice : Option ℕ) (d : Circuit) (front rest : List ℕ) → IsCircuit d → Begins c choice (bits_said_in d front) (bits_said_in d (front ++ rest))
unfolding reading
restored_begins c choice d front rest valid =
    let behind : whole_lines (front ++ rest) ≡ whole_lines front ++ whole_lines (unfinished front ++ rest) = lines_behind_text front rest in
    subst (λ (ls : List (List ℕ)). Begins c choice (read_lines d (whole_lines front)) (read_lines d ls)) (sym behind) (all_lines c choice d (whole_lines front) (whole_lines (unfinished front ++ rest)) (few_bads d valid) (framed_read d front valid)).begins
