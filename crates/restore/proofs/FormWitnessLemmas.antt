-- What is accepted over an engine form is found again in what it is restored to.
use Rattle.std.proofs.Common.{◌≡◌, ◌≢◌, ℕ, zero, suc, ◌+◌, ◌<◌, ◌≤◌, min, Bool, true, false, cond, List, [], ◌∷◌, ◌++◌, length, map, take, replicate, get_or, All, Option, None, Some, unwrap_or, IfSome, Result, Ok, Err, refl, sym, ap, ap₂, subst, ◌∙◌, append_assoc, inl, inr, arith}
use Rattle.std.specs.List.{list_any, position_from}
use Rattle.std.proofs.lemmas.Bool.{cases_Bool}
use Rattle.std.proofs.lemmas.Bool.Decides.{nat_tests}
use Rattle.std.proofs.lemmas.List.{length-map, length-replicate}
use Rattle.std.proofs.lemmas.List.Elements.{All-nil, All-cons}
use Rattle.base.specs.Lines.{text_of_lines, whole_lines, unfinished}
use Rattle.base.specs.Shown.{Shown}
use Rattle.aiger.specs.Reachability.{circuit_shows}
use Rattle.aiger.specs.declared.circuit.Latch.{Latch}
use Rattle.aiger.specs.declared.circuit.Reset.TheVariants as reset
use Rattle.base.specs.Literal.{Valuation, literal_value}
use Rattle.aiger.specs.Circuit.{Circuit, IsCircuit}
use Rattle.aiger.specs.Trace.{IsCircuitTrace}
use Rattle.aiger.proofs.TraceLemmas.{trace_inputs}
use Rattle.engine_form.specs.EngineForm.{begins, input_count, chosen, has_chosen, GoTogether, IsEngineFormOf}
use Rattle.witness.specs.declared.judgement.Judgement.{Judgement}
use Rattle.witness.specs.declared.judgement.Judgement.TheVariants as judgement
use Rattle.witness.specs.declared.why.Why.{Why}
use Rattle.witness.specs.Judgements.{Violation, first_of, unplayed, JudgesAs, violation_from, unreached_from, verdict}
use Rattle.witness.specs.Texts.{most_lines}
use Rattle.witness.specs.Readings.{Reading, Fault, refused_for, read_or_fault, last_refusal, is_nothing, reading}
use Rattle.witness.specs.BitTexts.{BitWitness, bit_line, bit_witness_lines, BitSays}
use Rattle.witness.specs.BitAdmits.{BitRead, bit_reader, admitted_lines, is_done, read_bit_text, bit_witness_of}
use Rattle.witness.specs.declared.bit_lines.BitLines.{BitLines}
use Rattle.witness.specs.BitStands.{StandsForBitLines}
use Rattle.witness.specs.Reached.{bits_said_in}
use Rattle.witness.proofs.GrowthLemmas.{bit_trace_exists}
use Rattle.witness.specs.Fits.{breach_from}
use Rattle.witness.specs.BitPlays.{first_bit_violated, bit_rises}
use Rattle.witness.specs.BitJudgements.{first_reset_differing, makes_no_bit_claim, JudgesBits, BitJudges}
use Rattle.witness.proofs.JudgedLemmas.{accepted_reads}
use Rattle.witness.proofs.ShownLemmas.{bits_verdict}
use Rattle.restore.specs.Counterexample.{HasProperty, place_in, first_bad}
use Rattle.restore.specs.Restored.{opening, written_frames, restored_witness}
use Rattle.restore.specs.declared.told.Restored.{Restored}
use Rattle.restore.specs.Accepted.{IsFirstRise}
use Rattle.restore.specs.Answers.{form_lines_put, RestoresForm}
use Rattle.restore.specs.Putting.{as_it_is}
use Rattle.restore.proofs.TakenLemmas.{put_as_they_are}
use Rattle.restore.specs.FormSteps.{TellsRead, ReadsForm}
use Rattle.restore.specs.Plays.{Play, play_judgement, play_told, taken}
use Rattle.restore.specs.FormWitness.{property_of, restored_frame_lines, last_line, read_restored_lines, read_restored, form_restored_text, FormJudges, IsFoundAgain}
use Rattle.witness.proofs.BitReadLemmas.{many_lines}
use Rattle.restore.proofs.RiseLemmas.{says_of, accepted_of}
use Rattle.restore.proofs.FormBeginLemmas.{done_has_frames, claim_read}
use Rattle.restore.proofs.LinesReadLemmas.{whole, text_goes, nothing_admitted}
use Rattle.restore.proofs.ToldLemmas.{nothing_rises, judged_whole, first_told}
use Rattle.restore.proofs.RestoredLemmas as frames

-- ---- what an accepted text reads as

-- a text that is read ends with the last line
read_last : (ended : Bool) (n : ℕ) (empty : Bool) (g : Reading BitRead) (r : BitRead) → refused_for g (last_refusal ended n empty) ≡ Ok r → (g.read ≡ r) × (ended ≡ true)
read_last true n true g r h = (cc, refl)
read_last true n false g r h = absurd (grind arith)
read_last false n empty g r h = absurd (grind arith)

read_whole : (ended : BitRead → Bool) (g : Reading BitRead) (last : List ℕ) (o : Option Why) (r : BitRead) → read_or_fault ended g last o ≡ Ok r → (g.read ≡ r) × (ended g.read ≡ true)
read_whole ended g last (Some w) r h = absurd cc
read_whole ended g last None r h = read_last (ended g.read) g.admitted (is_nothing last) g r h

-- ---- initial bits

all_zero : (k n : ℕ) (ls : List Latch) (bits : List Bool) → map (λ (l : Latch). l.reset) ls ≡ replicate n reset.Zero → length bits ≡ length ls → first_reset_differing k ls bits ≡ None → bits ≡ replicate (length ls) false
all_zero k n [] [] zeros many none = refl
all_zero k n [] (b ∷ bits) zeros many none = absurd (omega (arith, many))
all_zero k n (l ∷ ls) [] zeros many none = absurd (omega (arith, many))
all_zero k zero (l ∷ ls) (b ∷ bits) zeros many none = absurd cc
all_zero k (suc n) (l ∷ ls) (b ∷ bits) zeros many none =
    let first : l.reset ≡ reset.Zero = cc in
    let rest : map (λ (l : Latch). l.reset) ls ≡ replicate n reset.Zero = cc in
    by b (λ h. all_zero (suc k) n ls bits rest (omega (arith, many)) h) (rw first at none)
  where
    by : (b : Bool) → (first_reset_differing (suc k) ls bits ≡ None → bits ≡ replicate (length ls) false) → first_reset_differing k (record l { reset = reset.Zero } ∷ ls) (b ∷ bits) ≡ None → b ∷ bits ≡ replicate (length (l ∷ ls)) false
    by true later h = absurd cc
    by false later h = ap (λ (t : List Bool). false ∷ t) (later h)

-- ---- the claim

some_position : (p : Valuation → Bool) (k : ℕ) (vs : List Valuation) → list_any p vs ≡ true → (n : ℕ) × (position_from p k vs ≡ Some n)
some_position p k [] h = absurd cc
some_position p k (v ∷ vs) h = elim (cases_Bool (p v)) [
  | inl here ↦ (k, rw here refl)
  | inr other ↦ let rest = some_position p (k + 1) vs (rw other at h) in (rest.0, rw other rest.1)
]

reset_of : (o : Option ℕ) (breach : Option Violation) (risen : Bool) (claim frames m : ℕ) → judgement.Accepted m ≡ first_of o breach (cond risen None (Some claim)) frames → (o ≡ None) × (risen ≡ true)
reset_of None None true claim frames m h = (refl, refl)
reset_of None None false claim frames m h = absurd cc
reset_of None (Some v) risen claim frames m h = absurd cc
reset_of (Some k) breach risen claim frames m h = absurd cc

-- ---- properties of the form

abbrev pub HasTraces : Type 0
HasTraces = (c : Circuit) (state : List Bool) (inputs : List (List Bool)) → IsCircuit c → length state ≡ length c.latches → All (λ input. length input ≡ c.inputs) inputs → (vs : List Valuation) × IsCircuitTrace c state inputs vs

shown_bads : (c : Circuit) (choice : Option ℕ) (d : Circuit) (first met : Bool) (given : List (List Bool)) (state : List Bool) (vs ws : List Valuation) → given ≢ [] → IsCircuitTrace d state given ws → GoTogether c choice d first met vs ws → length d.bads ≡ length (chosen choice c.bads)
shown_bads c choice d first met [] state vs ws some t same = absurd (some refl)
shown_bads c choice d first met (bits ∷ given) state vs [] some t same = absurd t
shown_bads c choice d first met (bits ∷ given) state [] (w ∷ ws) some t same = absurd same
shown_bads c choice d first met (bits ∷ given) state (v ∷ vs) (w ∷ ws) some t same =
    sym (length-map d.bads (literal_value w)) ∙ ap length same.0.bads ∙ length-map (chosen choice c.bads) _

-- a claim over the form is of a property of the circuit, and stands at its place in the form
record IsOf (c : Circuit) (choice : Option ℕ) (j : ℕ) : Type 0 where
  below : property_of choice j < length c.bads
  has : HasProperty choice (property_of choice j)
  place : place_in choice (property_of choice j) ≡ j

is_of : (c : Circuit) (choice : Option ℕ) (j : ℕ) → has_chosen choice c.bads ≡ true → j < length (chosen choice c.bads) → IsOf c choice j
is_of c None j has below = record { below = below; has = tt; place = refl }
is_of c (Some k) j has below =
    let there : k < length c.bads = grind (arith, nat_tests) in
    let one : chosen (Some k) c.bads ≡ get_or c.bads k 0 ∷ [] = frames.chosen_at k c.bads there in
    let none : j < 1 = subst (λ (l : List ℕ). j < length l) one below in
    record { below = there; has = refl; place = omega (arith, none) }

pub claims_below : (c : Circuit) (choice : Option ℕ) (d : Circuit) (j : ℕ) → HasTraces → IsEngineFormOf c choice d → j < length d.bads → property_of choice j < length c.bads
claims_below c choice d j traces form below =
    let given : List (List Bool) = replicate (input_count c) false ∷ [] in
    let wide : All (λ bits. length bits ≡ input_count c) given = All-cons (λ (bits : List Bool). length bits ≡ input_count c) (replicate (input_count c) false) [] (length-replicate (input_count c) false) (All-nil (λ (bits : List Bool). length bits ≡ input_count c)) in
    let ws = traces d (replicate (length d.latches) false) given form.circuit (length-replicate (length d.latches) false) (subst (λ (n : ℕ). All (λ bits. length bits ≡ n) given) (sym form.inputs) wide) in
    let own = traces c (begins c given) (map (take c.inputs) given) form.original (frames.begins_length c given) (frames.own_inputs c.inputs (input_count c) given (omega arith) wide) in
    let many = shown_bads c choice d true true given (replicate (length d.latches) false) own.0 ws.0 (λ e. absurd cc) ws.1 (form.frames given own.0 ws.0 own.1 ws.1) in
    (is_of c choice j form.has_bad (subst (λ (n : ℕ). j < n) many below)).below

-- ---- all together

lines_of : (c : Circuit) (k : ℕ) (given : List (List Bool)) → given ≢ [] → restored_frame_lines c k given ++ last_line true ≡ bit_witness_lines (restored_witness c k given)
lines_of c k [] some = absurd (some refl)
lines_of c k (bits ∷ given) some = append_assoc (opening c k (bits ∷ given)) (map bit_line (written_frames c k (bits ∷ given))) (last_line true)

pub read_of_ok : (d : Circuit) (text : List ℕ) (r : BitRead) → read_bit_text d text ≡ Ok r → ((reading (bit_reader d) text).read ≡ r) × (is_done r.place ≡ true)
read_of_ok d text r is =
    let whole = read_whole (λ (r : BitRead). is_done r.place) (reading (bit_reader d) text) (unfinished text) (reading (bit_reader d) text).refused r is in
    (whole.0, sym (ap (λ (x : BitRead). is_done x.place) whole.0) ∙ whole.1)

restored_as : (c : Circuit) (choice : Option ℕ) (d : Circuit) (text : List ℕ) (r : BitRead) → read_bit_text d text ≡ Ok r → r.frames ≢ [] → form_restored_text c choice d text ≡ text_of_lines (bit_witness_lines (restored_witness c (property_of choice r.claim) r.frames))
unfolding form_restored_text
restored_as c choice d text r is some =
    let whole = read_of_ok d text r is in
    ap (read_restored c choice) whole.0
    ∙ ap (λ (b : Bool). text_of_lines (restored_frame_lines c (property_of choice r.claim) r.frames ++ last_line b)) whole.1
    ∙ ap text_of_lines (lines_of c (property_of choice r.claim) r.frames some)

pub found_again : (c : Circuit) (choice : Option ℕ) (d : Circuit) (text : List ℕ) (m : ℕ) → ((c : Circuit) (text : List ℕ) (r : BitRead) → IsCircuit c → read_bit_text c text ≡ Ok r → BitSays c text (bit_witness_of r)) → HasTraces
    → IsEngineFormOf c choice d → BitJudges d text (judgement.Accepted m) → IsFoundAgain c choice d text
found_again c choice d text m said traces form accepted =
    let read = accepted_reads (λ (r : BitRead). JudgesBits d (bit_witness_of r)) (makes_no_bit_claim (whole_lines text)) (read_bit_text d text) m accepted in
    let r : BitRead = read.what in
    let w : BitWitness = bit_witness_of r in
    let says : BitSays d text w = said d text r form.circuit read.is in
    let some : r.frames ≢ [] = says.valid.some_frame in
    let trace = traces d w.initial w.frames form.circuit says.valid.initial says.valid.frames in
    let ws : List Valuation = trace.0 in
    let verdict = reset_of (first_reset_differing 0 d.latches w.initial) (breach_from (first_bit_violated d) 0 ws) (bit_rises d w.claim ws) w.claim (length ws) m
    (read.judged ws trace.1 ∙ sym (bits_verdict d (first_reset_differing 0 d.latches w.initial) w.claim ws says.valid.claim)) in
    let zeros : w.initial ≡ replicate (length d.latches) false = all_zero 0 _ d.latches w.initial form.resets says.valid.initial verdict.0 in
    let begun : IsCircuitTrace d (replicate (length d.latches) false) w.frames ws = subst (λ (s : List Bool). IsCircuitTrace d s w.frames ws) zeros trace.1 in
    let wide : All (λ bits. length bits ≡ input_count c) w.frames = subst (λ (n : ℕ). All (λ bits. length bits ≡ n) w.frames) form.inputs says.valid.frames in
    let own = traces c (begins c w.frames) (map (take c.inputs) w.frames) form.original (frames.begins_length c w.frames) (frames.own_inputs c.inputs (input_count c) w.frames (omega arith) wide) in
    let many = shown_bads c choice d true true w.frames (replicate (length d.latches) false) own.0 ws some begun (form.frames w.frames own.0 ws own.1 begun) in
    let of = is_of c choice w.claim form.has_bad (subst (λ (n : ℕ). w.claim < n) many says.valid.claim) in
    let k : ℕ = property_of choice w.claim in
    let first = some_position (λ v. literal_value v (get_or d.bads w.claim 0)) 0 ws verdict.1 in
    let lines = many_lines w in
    let few : length w.frames + 4 ≤ most_lines = let f = says.few in omega (arith, lines, f) in
    let spelled = restored_as c choice d text r read.is some in
    let at : first_bad d (place_in choice k) ws ≡ Some first.0 = ap (λ (p : ℕ). first_bad d p ws) of.place ∙ first.1 in
    record {
      witness = w;
      says = says;
      trace = ws;
      is_trace = begun;
      last = first.0;
      first = first.1;
      restored = says_of c k (form_restored_text c choice d text) w.frames of.below some wide few spelled;
      accepted = accepted_of c choice k d (form_restored_text c choice d text) w.frames ws first.0 form of.has of.below some wide few spelled begun at;
    }

-- ---- what is told

verdict_unplayed : (different : Option ℕ) (claims : List ℕ) (bads : ℕ) (shown : List Shown) → unplayed (verdict different claims bads shown) ≡ None
verdict_unplayed different claims bads shown = by different (violation_from 0 shown) (unreached_from claims shown 0 bads)
  where
    by : (o : Option ℕ) (breach : Option Violation) (unreached : Option ℕ) → unplayed (first_of o breach unreached (length shown)) ≡ None
    by (Some k) breach unreached = refl
    by None (Some v) unreached = refl
    by None None (Some i) = refl
    by None None None = refl

judged_by : (P Q : BitRead → Judgement → Type 0) (none : Bool) (read : Result BitRead Fault) (over restored : Judgement) → ((r : BitRead) → read ≡ Ok r → P r over → unplayed over ≡ None) → ((r : BitRead) → read ≡ Ok r → Q r restored) → JudgesAs P none read over
    → JudgesAs Q none read (unwrap_or (unplayed over) restored)
judged_by P Q true read over restored kind is h = ap (λ (j : Judgement). unwrap_or (unplayed j) restored) h
judged_by P Q false (Err e) over restored kind is h = ap (λ (j : Judgement). unwrap_or (unplayed j) restored) h
judged_by P Q false (Ok r) over restored kind is h = subst (Q r) (sym (ap (λ (o : Option Judgement). unwrap_or o restored) (kind r refl h))) (is r refl)

abbrev pub Said : Type 0
Said = (c : Circuit) (text : List ℕ) (r : BitRead) → IsCircuit c → read_bit_text c text ≡ Ok r → BitSays c text (bit_witness_of r)

form_judged : (c : Circuit) (choice : Option ℕ) (d : Circuit) (text : List ℕ) (over restored : Judgement) → Said → HasTraces → IsCircuit d → BitJudges d text over → ((r : BitRead) → read_bit_text d text ≡ Ok r → BitJudges c (form_restored_text c choice d text) restored)
    → FormJudges c choice d text (unwrap_or (unplayed over) restored)
form_judged c choice d text over restored said traces valid judged again =
    judged_by (λ (r : BitRead). JudgesBits d (bit_witness_of r)) (λ (r : BitRead). BitJudges c (form_restored_text c choice d text)) (makes_no_bit_claim (whole_lines text)) (read_bit_text d text) over restored
    (λ r is h.
    let says = said d text r valid is in
    let trace = traces d r.initial r.frames valid says.valid.initial says.valid.frames in
    ap unplayed (h trace.0 trace.1) ∙ verdict_unplayed (first_reset_differing 0 d.latches r.initial) (r.claim ∷ []) (length d.bads) (map (circuit_shows d) trace.0))
    again judged

-- the lines that a text is restored to
pub text_of_read : (c : Circuit) (choice : Option ℕ) (d : Circuit) (text : List ℕ) → form_restored_text c choice d text ≡ text_of_lines (read_restored_lines c choice (bits_said_in d text))
unfolding form_restored_text
text_of_read c choice d text = refl

pub as_they_are : (c : Circuit) (choice : Option ℕ) (d : Circuit) (text : List ℕ) → form_lines_put as_it_is c choice d text ≡ form_restored_text c choice d text
as_they_are c choice d text = put_as_they_are 0 (read_restored_lines c choice (bits_said_in d text)) ∙ sym (text_of_read c choice d text)

-- each frame that is read has as many bits as the form has inputs
pub wide_read : (c : Circuit) (choice : Option ℕ) (d : Circuit) (text : List ℕ) → IsEngineFormOf c choice d → All (λ bits. length bits ≡ input_count c) (bits_said_in d text).frames
wide_read c choice d text form =
    let t = bit_trace_exists d text form.circuit in
    subst (λ (n : ℕ). All (λ bits. length bits ≡ n) (bits_said_in d text).frames) form.inputs (trace_inputs d (bits_said_in d text).initial (bits_said_in d text).frames t.0 t.1)

-- of what is told of the frames that were read, the judgement where all lines of a witness were, and the first rise
module _ (c : Circuit) (choice : Option ℕ) (d : Circuit) (text : List ℕ) (told : Restored) (form : IsEngineFormOf c choice d) (tells : TellsRead c (property_of choice (bits_said_in d text).claim) (bits_said_in d text).frames told) where
  abbrev r : BitRead
  r = bits_said_in d text

  abbrev k : ℕ
  k = property_of choice r.claim

  judged_read : is_done r.place ≡ true → BitJudges c (form_restored_text c choice d text) told.judgement
  judged_read done = by r.frames refl tells
    where
      by : (frames : List (List Bool)) → r.frames ≡ frames → TellsRead c k frames told → BitJudges c (form_restored_text c choice d text) told.judgement
      by [] is tells = absurd (done_has_frames d text form.circuit done is)
      by (bits ∷ more) is tells =
          let spelled : form_restored_text c choice d text ≡ text_of_lines (restored_frame_lines c k (bits ∷ more) ++ last_line true) =
          text_of_read c choice d text ∙ ap₂ (λ (fs : List (List Bool)) (b : Bool). text_of_lines (restored_frame_lines c k fs ++ last_line b)) is done in
          subst (BitJudges c (form_restored_text c choice d text)) (sym (ap (λ (t : Restored). t.judgement) tells.1.1.1 ∙ ap (λ (p : Play). play_judgement (taken p (bits ∷ more))) tells.1.0))
          (judged_whole c k tells.0.state tells.0.begins bits more form.original tells.1.1.0 (subst (All (λ bits. length bits ≡ input_count c)) is (wide_read c choice d text form)) (form_restored_text c choice d text) spelled)

  first_read : IsFirstRise c (form_restored_text c choice d text) told.first
  first_read = by r.frames refl tells (is_done r.place) refl
    where
      by : (frames : List (List Bool)) → r.frames ≡ frames → TellsRead c k frames told → (b : Bool) → is_done r.place ≡ b → IsFirstRise c (form_restored_text c choice d text) told.first
      by [] is tells true at = absurd (done_has_frames d text form.circuit at is)
      by [] is tells false at = subst (λ (t : List ℕ). IsFirstRise c t told.first) (sym (text_of_read c choice d text ∙ ap₂ (λ (fs : List (List Bool)) (b : Bool). text_of_lines (restored_frame_lines c k fs ++ last_line b)) is at)) (subst (IsFirstRise c []) (sym tells) (nothing_rises c))
      by (bits ∷ more) is tells b at =
          let spelled : form_restored_text c choice d text ≡ text_of_lines (restored_frame_lines c k (bits ∷ more) ++ last_line b) =
          text_of_read c choice d text ∙ ap₂ (λ (fs : List (List Bool)) (b : Bool). text_of_lines (restored_frame_lines c k fs ++ last_line b)) is at in
          subst (IsFirstRise c (form_restored_text c choice d text)) (sym (ap (λ (t : Restored). t.first) tells.1.1.1 ∙ ap (λ (p : Play). (play_told (taken p (bits ∷ more))).first) tells.1.0))
          (first_told c k tells.0.state tells.0.begins bits more form.original tells.1.1.0 (subst (All (λ bits. length bits ≡ input_count c)) is (wide_read c choice d text form)) b (form_restored_text c choice d text) spelled)

-- ---- all together

-- what is judged over the form, which its lines alone say or not
abbrev pub SaysOver : Circuit → BitLines → List ℕ → Option Judgement → Type 0
SaysOver d judge rest over = (text : List ℕ) (j : Judgement) → IsCircuit d → StandsForBitLines d judge text → BitJudges d (text ++ rest) j → over ≡ unplayed j

pub form_told : (put : ℕ → List ℕ → List ℕ) (c : Circuit) (choice : Option ℕ) (d : Circuit) (judge : BitLines) (rest : List ℕ) (source old new : Option (List ℕ)) (told : Restored) (over : Option Judgement) → Said → HasTraces → ((c : Circuit) (text : List ℕ) → IsCircuit c → (j : Judgement) × BitJudges c text j)
    → IsEngineFormOf c choice d → IfSome source (ReadsForm (Ok told) put c choice d judge rest old new) → SaysOver d judge rest over
    → IfSome source (RestoresForm (Ok (record told { judgement = unwrap_or over told.judgement })) put c choice d old new)
form_told put c choice d judge rest None old new told over said traces judgements form reads says = tt
form_told put c choice d judge rest (Some text) old new told over said traces judgements form reads says =
    let front : List ℕ = reads.0 in
    let tells = reads.1.1.1.0 in
    let j = judgements d text form.circuit in
    let is : over ≡ unplayed j.0 = says front j.0 form.circuit reads.1.1.0 (subst (λ (t : List ℕ). BitJudges d t j.0) (sym reads.1.0) j.1) in
    record {
      judged = subst (λ (o : Option Judgement). FormJudges c choice d text (unwrap_or o told.judgement)) (sym is)
          (form_judged c choice d text j.0 told.judgement said traces form.circuit j.1
          (λ r read. judged_read c choice d text told form tells (ap (λ (x : BitRead). is_done x.place) (read_of_ok d text r read).0 ∙ (read_of_ok d text r read).1)));
      first = first_read c choice d text told form tells;
      written = reads.1.1.1.1;
    }

-- ---- how what is restored is read

pub form_admitted : (c : Circuit) (choice : Option ℕ) (d : Circuit) (text : List ℕ) → HasTraces → IsEngineFormOf c choice d
    → (whole_lines (form_restored_text c choice d text) ≡ read_restored_lines c choice (bits_said_in d text)) × (admitted_lines c (form_restored_text c choice d text) ≡ min (length (read_restored_lines c choice (bits_said_in d text))) most_lines)
form_admitted c choice d text traces form = by r.frames refl (is_done r.place) refl
  where
    r : BitRead
    r = bits_said_in d text

    by : (frames : List (List Bool)) → r.frames ≡ frames → (b : Bool) → is_done r.place ≡ b
        → (whole_lines (form_restored_text c choice d text) ≡ read_restored_lines c choice r) × (admitted_lines c (form_restored_text c choice d text) ≡ min (length (read_restored_lines c choice r)) most_lines)
    by [] none true done = absurd (done_has_frames d text form.circuit done none)
    by [] none false going =
        let lines : read_restored_lines c choice r ≡ [] = ap₂ (λ (fs : List (List Bool)) (b : Bool). restored_frame_lines c (property_of choice r.claim) fs ++ last_line b) none going in
        let spelled : form_restored_text c choice d text ≡ [] = text_of_read c choice d text ∙ ap text_of_lines lines in
        (ap whole_lines spelled ∙ sym lines, ap (admitted_lines c) spelled ∙ nothing_admitted c ∙ ap (λ (ls : List (List ℕ)). min (length ls) most_lines) (sym lines))
    by (bits ∷ more) some b at =
        let k : ℕ = property_of choice r.claim in
        let lines : read_restored_lines c choice r ≡ restored_frame_lines c k (bits ∷ more) ++ last_line b = ap₂ (λ (fs : List (List Bool)) (b : Bool). restored_frame_lines c k fs ++ last_line b) some at in
        let spelled : form_restored_text c choice d text ≡ text_of_lines (restored_frame_lines c k (bits ∷ more) ++ last_line b) = text_of_read c choice d text ∙ ap text_of_lines lines in
        let below : k < length c.bads = claims_below c choice d r.claim traces form (claim_read d text form.circuit (λ e. let n : [] ≡ bits ∷ more = sym e ∙ some in absurd cc)) in
        let wide = subst (λ (fs : List (List Bool)). All (λ bits. length bits ≡ input_count c) fs) some (wide_read c choice d text form) in (
          whole c k bits more b form.original below wide (form_restored_text c choice d text) spelled ∙ sym lines,
          (text_goes c k bits more b form.original below wide (form_restored_text c choice d text) spelled).admitted ∙ ap (λ (ls : List (List ℕ)). min (length ls) most_lines) (sym lines),
        )
