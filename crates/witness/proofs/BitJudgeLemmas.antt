-- What a judge of witnesses of a circuit holds, line by line, and what it judges of a text.
use Rattle.std.proofs.Common.{◌≡◌, ℕ, ◌+◌, ◌<◌, ◌≤◌, ◌^◌, ◌==◌, Bool, true, false, ◌||◌, List, [], ◌∷◌, Result, IfOk, Ok, Err, codes, length, length-append, refl, sym, ap, subst, ◌∙◌, arith, cond, Option, Some, None, map}
use Rattle.std.specs.Str.{bytes_eq}
use Rattle.std.proofs.lemmas.Bool.{false_from_ne_true, ne_eqb}
use Rattle.base.specs.Lines.{whole_lines}
use Rattle.std.proofs.lemmas.Result.{IfOk-at_ok}
use Rattle.aiger.specs.Circuit.{Circuit, IsCircuit}
use Rattle.witness.specs.declared.why.Why.{Why}
use Rattle.witness.specs.Readings.{Reading, lines_read, reading, so_far, is_nothing}
use Rattle.witness.specs.BitAdmits.{claim_at, bits_at, BitPlace, AtHeader, AtClaim, AtInitial, AtFirst, AtLater, AtDone, BitRead, no_line_read, after_frame, bit_admit_at, bit_admit, bit_reader, is_done, bit_witness_of, read_bit_text}
use Rattle.witness.specs.declared.bit_lines.BitLines.{BitLines}
use Rattle.witness.specs.declared.bit_play.BitPlay.{BitPlay}
use Rattle.witness.specs.BitStands.{is_header, IsOfBitLines, read_of, bit_judging, PlaysAt, PlaysSaid, TellsUnplayed}
use Rattle.witness.specs.Reached.{bits_said_in}
use Rattle.witness.proofs.ReadingLemmas.{by_test, Goes, On, Until, goes, holds_behind, text_was_read}
use Rattle.witness.proofs.StandsLemmas.{awaits, none_awaited, ClaimsMore}
use Rattle.std.proofs.Math.Bool.{or-false}
use Rattle.base.specs.Literal.{Valuation}
use Rattle.aiger.specs.Trace.{IsCircuitTrace}
use Rattle.aiger.proofs.TraceLemmas.{trace_length, trace_exists}
use Rattle.witness.specs.declared.judgement.Judgement.{Judgement}
use Rattle.witness.specs.BitTexts.{BitWitness}
use Rattle.aiger.specs.Reachability.{circuit_shows}
use Rattle.witness.specs.BitJudgements.{first_reset_differing, makes_no_bit_claim, JudgesBits, BitJudges}
use Rattle.witness.specs.BitPlays.{PlaysBits, TracedBits}
use Rattle.witness.specs.Judgements.{Violation, first_of, verdict, unplayed}
use Rattle.witness.proofs.StepWords.{after_claim, after_initial}
use Rattle.witness.proofs.BitReadLemmas.{done, bit_read_says}
use Rattle.witness.proofs.BitOneJudgement.{same_bit_judgement}
use Rattle.witness.proofs.JudgedLemmas.{read_judged, judged_says}
use Rattle.witness.proofs.ShownLemmas.{bits_verdict}

-- what an admitted line changes
record Moves (r next : BitRead) : Type 0 where
  other : is_header next.place ≡ false
  frames : length next.frames ≤ length r.frames + 1

frame_moves : (r : BitRead) (o : Result (List Bool) Why) → IfOk (after_frame r o) (Moves r)
frame_moves r (Ok bits) = record { other = refl; frames = omega (arith, length-append r.frames (bits ∷ [])) }
frame_moves r (Err w) = tt

line_moves : (c : Circuit) (r : BitRead) (line : List ℕ) (place : BitPlace) → IfOk (bit_admit_at c r line place) (Moves r)
line_moves c r line AtHeader = by_test (Moves r) (bytes_eq line (codes "1")) _ _ (λ e. record { other = refl; frames = omega arith }) (λ e. tt)
line_moves c r line AtClaim = by (claim_at (length c.bads) line)
  where
    by : (o : Result ℕ Why) → IfOk (after_claim r o) (Moves r)
    by (Ok i) = record { other = refl; frames = omega arith }
    by (Err w) = tt
line_moves c r line AtInitial = by (bits_at (length c.latches) line)
  where
    by : (o : Result (List Bool) Why) → IfOk (after_initial r o) (Moves r)
    by (Ok bits) = record { other = refl; frames = omega arith }
    by (Err w) = tt
line_moves c r line AtFirst = by_test (Moves r) (bytes_eq line (codes ".")) _ _ (λ e. tt) (λ e. frame_moves r (bits_at c.inputs line))
line_moves c r line AtLater = by_test (Moves r) (bytes_eq line (codes ".")) _ _ (λ e. record { other = refl; frames = omega arith }) (λ e. frame_moves r (bits_at c.inputs line))
line_moves c r line AtDone = tt

admitted_moves : (c : Circuit) (r next : BitRead) (line : List ℕ) → bit_admit c r line ≡ Ok next → Moves r next
unfolding bit_admit
admitted_moves c r next line h = IfOk-at_ok (Moves r) h (line_moves c r line r.place)

-- as many frames at most as lines, and the first line where none is
abbrev InFrames : ℕ → BitRead → Type 0
InFrames n r = (length r.frames ≤ n) × (is_header r.place ≡ true → n ≡ 0)

in_frames : (c : Circuit) (lines : List (List ℕ)) → InFrames (lines_read (bit_reader c) lines).admitted (lines_read (bit_reader c) lines).read
in_frames c lines = holds_behind (bit_reader c) InFrames line_more (so_far 0 (bit_reader c).nothing) lines (omega arith, λ e. refl)
  where
    line_more : (n : ℕ) (r next : BitRead) (line : List ℕ) → bit_admit c r line ≡ Ok next → InFrames n r → InFrames (n + 1) next
    line_more n r next line is h =
        let moves = admitted_moves c r next line is in
        let grown = moves.frames in
        let before = h.0 in
        (omega (arith, grown, before), λ e. absurd (cc (moves.other, e)))

pub few_frames : (c : Circuit) (lines : List (List ℕ)) (b : BitLines) → IsOfBitLines c b lines → b.admitted < 2 ^ 62 → length (read_of c lines).frames < 2 ^ 62
few_frames c lines b is few =
    let count = (in_frames c lines).0 in
    omega (arith, count, few, is.admitted)

-- behind the first line none is awaited
not_awaited : (c : Circuit) (l : List ℕ) (lines : List (List ℕ)) → Goes (bit_reader c) 0 no_line_read (l ∷ lines) → awaits (λ (r : BitRead). is_header r.place) (lines_read (bit_reader c) (l ∷ lines)) ≡ false
not_awaited c l lines (On final few read is) =
    let held : InFrames (0 + length (l ∷ lines)) final = subst (λ (g : Reading BitRead). InFrames g.admitted g.read) is (in_frames c (l ∷ lines)) in
    let later : is_header final.place ≡ false = false_from_ne_true (is_header final.place) (λ e. absurd (omega (arith, held.1 e))) in
    none_awaited (λ (r : BitRead). is_header r.place) (lines_read (bit_reader c) (l ∷ lines)) (ap (λ (g : Reading BitRead). is_header g.read.place) is ∙ later)
not_awaited c l lines (Until m s w above below room is) = ap (awaits (λ (r : BitRead). is_header r.place)) is

pub claims_more : (c : Circuit) → ClaimsMore (bit_judging c)
claims_more c [] line = refl
claims_more c (l ∷ lines) line = rw (not_awaited c l lines (goes (bit_reader c) 0 no_line_read (l ∷ lines) (omega arith))) (sym (or-false (bytes_eq l (codes "0") || bytes_eq l (codes "2"))))

-- ---- the verdict

module _ (c : Circuit) (w : BitWitness) (p : BitPlay) (vs : List Valuation) (within : w.claim < length c.bads) (plays : PlaysBits c w.claim w.initial w.frames p) (trace : IsCircuitTrace c w.initial w.frames vs) where
  traced : TracedBits c w.claim w.initial p vs
  traced = plays.traced vs trace

  -- the claim, where it is not reached
  pub judged_whole : (o : Option ℕ) → o ≡ cond p.rose None (Some w.claim) → first_of p.differs p.breach o p.frames ≡ verdict (first_reset_differing 0 c.latches w.initial) (w.claim ∷ []) (length c.bads) (map (circuit_shows c) vs)
  judged_whole o e =
      rw (plays.differs, traced.breach, e, traced.rose, plays.count ∙ sym (trace_length c w.initial w.frames vs trace)) (bits_verdict c (first_reset_differing 0 c.latches w.initial) w.claim vs within)

-- ---- the judgement

abbrev pub Says : Circuit → BitRead → Judgement → Type 0
Says c r = JudgesBits c (bit_witness_of r)

-- what is judged of a whole witness
whole_witness : (c : Circuit) (r : BitRead) (p : BitPlay) (claim : ℕ) → is_done r.place ≡ true → PlaysSaid c r p → claim ≡ r.claim → Says c r (first_of p.differs p.breach (cond p.rose None (Some claim)) p.frames)
whole_witness c r p claim at_end played same vs t =
    let plays : PlaysAt c r p AtDone = subst (PlaysAt c r p) (done r.place at_end) played in
    judged_whole c (bit_witness_of r) p vs plays.1 plays.0 t (cond p.rose None (Some claim)) (ap (λ (i : ℕ). cond p.rose None (Some i)) same)

pub whole_judged : (c : Circuit) (text : List ℕ) (p : BitPlay) (claim : ℕ) → TellsUnplayed c text None → PlaysSaid c (read_of c (whole_lines text)) p → claim ≡ (read_of c (whole_lines text)).claim
    → BitJudges c text (first_of p.differs p.breach (cond p.rose None (Some claim)) p.frames)
unfolding reading
whole_judged c text p claim told plays same =
    let r : BitRead = read_of c (whole_lines text) in
    read_judged (Says c) (makes_no_bit_claim (whole_lines text)) (read_bit_text c text) (Ok r) _ told.0 told.1 (whole_witness c r p claim (text_was_read (bit_reader c) text r told.1).done plays same)

-- what is judged of it needs a run
played_verdict : (differs : Option ℕ) (breach : Option Violation) (unreached : Option ℕ) (frames : ℕ) → unplayed (first_of differs breach unreached frames) ≡ None
played_verdict (Some k) breach unreached frames = refl
played_verdict None (Some v) unreached frames = refl
played_verdict None None (Some i) frames = refl
played_verdict None None None frames = refl

pub nothing_counted : (bytes : List ℕ) → (length bytes == 0) ≡ is_nothing bytes
nothing_counted [] = refl
nothing_counted (b ∷ bytes) = ne_eqb (length (b ∷ bytes)) 0 (λ e. absurd (omega (arith, e)))

pub told_unplayed : (c : Circuit) (text : List ℕ) (o : Option Judgement) (j : Judgement) → IsCircuit c → TellsUnplayed c text o → BitJudges c text j → o ≡ unplayed j
told_unplayed c text (Some k) j circuit told judged = sym told.1 ∙ ap unplayed (same_bit_judgement c text k j circuit told.0 judged)
told_unplayed c text None j circuit told judged =
    let w : BitWitness = bit_witness_of (bits_said_in c text) in
    let valid = (bit_read_says c text (bits_said_in c text) circuit told.1).valid in
    let trace = trace_exists c w.initial w.frames circuit valid.initial valid.frames in
    let is = judged_says (Says c) (makes_no_bit_claim (whole_lines text)) (read_bit_text c text) (bits_said_in c text) j told.0 told.1 judged trace.0 trace.1 in
    sym (ap unplayed is ∙ played_verdict (first_reset_differing 0 c.latches w.initial) _ _ _)
