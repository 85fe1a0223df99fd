use Rattle.std.proofs.Common.{◌≡◌, ℕ, Bool, false, true, List, Option, None, ◌||◌, map, length, get_or, refl, subst, ap, ◌∙◌}
use Rattle.std.specs.Option.{option_or}
use Rattle.base.specs.Literal.{Valuation, literal_value}
use Rattle.aiger.specs.Circuit.{Circuit}
use Rattle.aiger.specs.Trace.{next_latch_bits}
use Rattle.runs.specs.Run.{more_steps}
use Rattle.runs.specs.CircuitRun.{CircuitRun, IsFrameNow, no_inputs, settle_steps}
use Rattle.witness.specs.declared.bit_play.BitPlay.{BitPlay}
use Rattle.witness.specs.Admits.{is_one_bit}
use Rattle.witness.specs.Judgements.{violated_at}
use Rattle.witness.specs.BitPlays.{first_bit_violated}
use Rattle.witness.proofs.BitPlayLemmas.{Closes, plays_given, plays_more}
use Rattle.witness.proofs.bit_play.BitPlay.close.Goals as goal

pub returns-clause-closed : goal.returns-clause-closed
returns-clause-closed c initial frames plays below few =
    let circuit : Circuit = c.args.circuit.now in
    let old : BitPlay = c.args.self.now in
    let bits : List Bool = map is_one_bit c.args.line.now in
    let given : BitPlay = record old { run = record old.run { inputs = bits; settled = false } } in
    let is : BitPlay = record { run = c.advance.new.self; differs = old.differs; frames = c.saturating_add-self.result; breach = c.note_breach.new.found; rose = old.rose || c.rises-rises.result } in
    let settled = c.settle.ensures ∙ ap (λ (r : CircuitRun). record r { settled = true; steps = more_steps (settle_steps r.circuit) r.steps }) c.set_input_digits.ensures in
    let closes : Closes circuit c.args.claim given is = record {
      differs = refl;
      frames = c.saturating_add-self.ensures;
      run = c.advance.ensures.others ∙ ap (λ (r : CircuitRun). record r { latches = c.advance.new.self.latches; inputs = no_inputs r.circuit; settled = false; steps = more_steps (length r.circuit.latches) r.steps }) settled;
      latches = subst (λ (r : CircuitRun). (v : Valuation) → IsFrameNow r v → c.advance.new.self.latches ≡ next_latch_bits r.circuit v) settled c.advance.ensures.latches;
      breach = λ v now.
          let found = subst (λ (r : CircuitRun). IsFrameNow r v → c.first_violated-violated.result ≡ first_bit_violated circuit v) settled (c.first_violated-violated.ensures v) now in
          c.note_breach.ensures ∙ ap (λ (o : Option ℕ). option_or old.breach (violated_at old.frames o None)) found;
      rose = λ v now.
          let risen = subst (λ (r : CircuitRun). IsFrameNow r v → c.rises-rises.result ≡ literal_value v (get_or circuit.bads c.args.claim 0)) settled (λ n. c.rises-rises.ensures v n below) now in
          ap (λ (b : Bool). old.rose || b) risen;
    } in
    plays_more circuit c.args.claim initial frames given is (plays_given circuit c.args.claim initial frames old bits plays) closes few
