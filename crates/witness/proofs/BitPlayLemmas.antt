-- Frames of a witness of a circuit, closed one after the other.
use Rattle.std.proofs.Common.{◌≡◌, ℕ, suc, ◌+◌, ◌*◌, ◌<◌, ◌-◌, ◌^◌, min, Bool, true, false, ◌||◌, List, [], ◌∷◌, ◌++◌, Option, None, length, get_or, length-append, refl, sym, ap, ap₂, subst, ◌∙◌, arith}
use Rattle.std.specs.Option.{option_or}
use Rattle.std.proofs.lemmas.List.Folds.{list_any-append}
use Rattle.base.specs.Literal.{Valuation, literal_value}
use Rattle.aiger.specs.Circuit.{Circuit}
use Rattle.aiger.specs.Trace.{IsCircuitFrame, IsCircuitTrace, next_latch_bits}
use Rattle.runs.specs.Run.{more_steps}
use Rattle.runs.specs.CircuitRun.{CircuitRun, IsFrameNow, circuit_start, no_inputs, settle_steps}
use Rattle.base.proofs.StepLemmas.{more_steps-sum}
use Rattle.witness.specs.Judgements.{Violation, violated_at}
use Rattle.witness.specs.declared.bit_play.BitPlay.{BitPlay}
use Rattle.witness.specs.BitAdmits.{BitPlace, AtFirst, AtLater, BitRead}
use Rattle.witness.specs.BitStands.{PlaysAt, is_frame}
use Rattle.witness.specs.BitPlays.{first_bit_violated, bit_frame_steps, bit_steps_of, state_behind, play_start, TracedBits, PlaysBits, bit_rises}
use Rattle.witness.specs.Fits.{breach_from}
use Rattle.witness.specs.BitJudgements.{first_reset_differing}
use Rattle.std.proofs.Math.Bool.{or-false}
use Rattle.witness.proofs.JudgedLemmas.{breach_more}

-- ---- initial bits

traced_start : (c : Circuit) (claim : ℕ) (initial : List Bool) (p : BitPlay) (vs : List Valuation) → p.run.latches ≡ initial → p.breach ≡ None → p.rose ≡ false → IsCircuitTrace c initial [] vs → TracedBits c claim initial p vs
traced_start c claim initial p [] latches breach rose t = record { latches = latches; breach = breach; rose = rose }
traced_start c claim initial p (v ∷ vs) latches breach rose t = absurd t

pub no_steps : (n : ℕ) → 0 ≡ more_steps (0 * n) 0
no_steps n =
    let none : 0 * n ≡ 0 = omega arith in
    rw none refl

pub plays_start : (c : Circuit) (claim : ℕ) (bits : List Bool) → PlaysBits c claim bits [] (record (play_start c) { run = record (circuit_start c) { latches = bits }; differs = first_reset_differing 0 c.latches bits })
plays_start c claim bits =
    record {
      run = refl;
      differs = refl;
      count = refl;
      steps = no_steps (bit_frame_steps c);
      traced = λ vs t. traced_start c claim bits _ vs refl refl refl t;
    }

-- ---- the bits of a frame

pub plays_given : (c : Circuit) (claim : ℕ) (initial : List Bool) (frames : List (List Bool)) (p : BitPlay) (bits : List Bool) → PlaysBits c claim initial frames p → PlaysBits c claim initial frames (record p { run = record p.run { inputs = bits; settled = false } })
plays_given c claim initial frames p bits h =
    record {
      run = h.run;
      differs = h.differs;
      count = h.count;
      steps = h.steps;
      traced = λ vs t. let traced = h.traced vs t in record { latches = traced.latches; breach = traced.breach; rose = traced.rose };
    }

-- ---- a frame more

record SplitTrace (c : Circuit) (state : List Bool) (inputs : List (List Bool)) (last : List Bool) (vs : List Valuation) : Type 0 where
  front : List Valuation
  v : Valuation
  is : vs ≡ front ++ v ∷ []
  trace : IsCircuitTrace c state inputs front
  frame : IsCircuitFrame c (state_behind c state front) last v
  many : length front ≡ length inputs

-- the last frame of a trace, and those before
split_trace : (c : Circuit) (state : List Bool) (inputs : List (List Bool)) (last : List Bool) (vs : List Valuation) → IsCircuitTrace c state (inputs ++ last ∷ []) vs → SplitTrace c state inputs last vs
split_trace c state [] last [] t = absurd t
split_trace c state [] last (v ∷ []) t = record { front = []; v = v; is = refl; trace = tt; frame = t.0; many = refl }
split_trace c state [] last (v ∷ w ∷ vs) t = absurd t.1
split_trace c state (input ∷ inputs) last [] t = absurd t
split_trace c state (input ∷ inputs) last (v ∷ vs) t =
    let rest = split_trace c (next_latch_bits c v) inputs last vs t.1 in
    record { front = v ∷ rest.front; v = rest.v; is = ap (λ (us : List Valuation). v ∷ us) rest.is; trace = (t.0, rest.trace); frame = rest.frame; many = ap suc rest.many }

state_more : (c : Circuit) (state : List Bool) (vs : List Valuation) (v : Valuation) → state_behind c state (vs ++ v ∷ []) ≡ next_latch_bits c v
state_more c state [] v = refl
state_more c state (w ∷ vs) v = state_more c (next_latch_bits c w) vs v

rises_more : (c : Circuit) (claim : ℕ) (vs : List Valuation) (v : Valuation) → bit_rises c claim (vs ++ v ∷ []) ≡ (bit_rises c claim vs || literal_value v (get_or c.bads claim 0))
rises_more c claim vs v =
    list_any-append (λ (w : Valuation). literal_value w (get_or c.bads claim 0)) vs (v ∷ []) ∙ ap (λ (b : Bool). bit_rises c claim vs || b) (or-false (literal_value v (get_or c.bads claim 0)))

-- what is kept once a frame is closed
pub record Closes (c : Circuit) (claim : ℕ) (old new : BitPlay) : Type 0 where
  pub differs : new.differs ≡ old.differs
  pub frames : new.frames ≡ min (old.frames + 1) (2 ^ 64 - 1)
  pub run : new.run ≡ record old.run { latches = new.run.latches; inputs = no_inputs old.run.circuit; settled = false; steps = more_steps (length old.run.circuit.latches) (more_steps (settle_steps old.run.circuit) old.run.steps) }
  pub latches : (v : Valuation) → IsFrameNow old.run v → new.run.latches ≡ next_latch_bits old.run.circuit v
  pub breach : (v : Valuation) → IsFrameNow old.run v → new.breach ≡ option_or old.breach (violated_at old.frames (first_bit_violated c v) None)
  pub rose : (v : Valuation) → IsFrameNow old.run v → new.rose ≡ (old.rose || literal_value v (get_or c.bads claim 0))

module _ (c : Circuit) (claim : ℕ) (initial : List Bool) (frames : List (List Bool)) (old new : BitPlay) (plays : PlaysBits c claim initial frames old) (closes : Closes c claim old new) (few : length frames < 2 ^ 62) where
  abbrev here : List Bool
  here = old.run.inputs

  traced_more : (vs : List Valuation) → IsCircuitTrace c initial (frames ++ here ∷ []) vs → TracedBits c claim initial new vs
  traced_more vs t =
      let s = split_trace c initial frames here vs t in
      let was = plays.traced s.front s.trace in
      let now : IsFrameNow old.run s.v =
      subst (λ (k : Circuit). IsCircuitFrame k old.run.latches old.run.inputs s.v) (sym plays.run)
      (subst (λ (state : List Bool). IsCircuitFrame c state old.run.inputs s.v) (sym was.latches) s.frame) in
      let number : old.frames ≡ 0 + length s.front = plays.count ∙ (sym s.many ∙ omega arith) in
      record {
        latches = closes.latches s.v now ∙ (ap (λ (k : Circuit). next_latch_bits k s.v) plays.run ∙ (sym (state_more c initial s.front s.v) ∙ ap (state_behind c initial) (sym s.is)));
        breach =
            closes.breach s.v now
            ∙ (ap₂ (λ (o : Option Violation) (n : ℕ). option_or o (violated_at n (first_bit_violated c s.v) None)) was.breach number
            ∙ (sym (breach_more (first_bit_violated c) 0 s.front s.v) ∙ ap (breach_from (first_bit_violated c) 0) (sym s.is)));
        rose =
            closes.rose s.v now
            ∙ (ap (λ (b : Bool). b || literal_value s.v (get_or c.bads claim 0)) was.rose
            ∙ (sym (rises_more c claim s.front s.v) ∙ ap (bit_rises c claim) (sym s.is)));
      }

  steps_more : new.run.steps ≡ bit_steps_of c (length (frames ++ here ∷ []))
  steps_more =
      let n = length frames in
      let long : length (frames ++ here ∷ []) ≡ n + 1 = length-append frames (here ∷ []) in
      ap (λ (r : CircuitRun). r.steps) closes.run
      ∙ (ap₂ (λ (k : Circuit) (s : ℕ). more_steps (length k.latches) (more_steps (settle_steps k) s)) plays.run plays.steps
      ∙ (ap (λ (s : ℕ). more_steps (length c.latches) s) (more_steps-sum (n * bit_frame_steps c) (settle_steps c) 0)
      ∙ (more_steps-sum (n * bit_frame_steps c + settle_steps c) (length c.latches) 0
      ∙ ap (λ (m : ℕ). more_steps m 0) (product n (settle_steps c) (length c.latches) ∙ ap (λ (m : ℕ). m * bit_frame_steps c) (sym long)))))
    where
      product : (n s l : ℕ) → n * (s + l) + s + l ≡ (n + 1) * (s + l)
      product n s l = omega arith

  -- a frame more is closed
  pub plays_more : PlaysBits c claim initial (frames ++ here ∷ []) new
  plays_more =
      let count = plays.count in
      let long = length-append frames (here ∷ []) in
      record {
        run = ap (λ (r : CircuitRun). r.circuit) closes.run ∙ plays.run;
        differs = closes.differs ∙ plays.differs;
        count = closes.frames ∙ omega (arith, count, few, long);
        steps = steps_more;
        traced = traced_more;
      }

-- where the line of a frame comes next
pub frame_plays : (c : Circuit) (r : BitRead) (p : BitPlay) (at : BitPlace) → is_frame at ≡ true → PlaysAt c r p at → PlaysBits c r.claim r.initial r.frames p × (r.claim < length c.bads)
frame_plays c r p AtFirst f plays = plays
frame_plays c r p AtLater f plays = plays
frame_plays c r p _ f plays = absurd cc
