use Rattle.std.proofs.Common.{◌≡◌, ℕ, false, Option, None, is_none, is_some, length, get_or, sym, ap, ◌∙◌}
use Rattle.std.specs.Option.{option_or}
use Rattle.std.proofs.lemmas.List.{length-map, length-replicate}
use Rattle.aiger.specs.declared.circuit.Latch.{Latch}
use Rattle.base.specs.Literal.{Valuation, literal_value}
use Rattle.aiger.specs.Circuit.{Circuit}
use Rattle.aiger.specs.Trace.{next_latch_bits}
use Rattle.runs.specs.Run.{more_steps}
use Rattle.runs.specs.CircuitRun.{CircuitRun, no_inputs, settle_steps}
use Rattle.witness.specs.Judgements.{violated_at}
use Rattle.witness.specs.BitPlays.{first_bit_violated}
use Rattle.restore.specs.Frames.{frame_of}
use Rattle.restore.specs.Plays.{Play as PlayValue, played}
use Rattle.restore.proofs.PlayedLemmas.{met_more}
use Rattle.restore.proofs.PlayLemmas.{by_other, settled_circuit, settled_now, is_played}
use Rattle.restore.proofs.play.Play.advance.Goals as goal

pub invariant_of-self : goal.invariant_of-self
invariant_of-self c =
    let k : Circuit = c.self.inside.circuit.now in
    let inv = c.self.invariant in
    let steps : ℕ = more_steps (settle_steps c.set_inputs.new.self.circuit) c.set_inputs.new.self.steps in
    let many : length c.args.inputs.now ≡ k.inputs = c.requires ∙ ap (λ (p : PlayValue). p.circuit.inputs) (sym c.self.view_is) in
    let now = settled_now k c.self.inside.run c.set_inputs.new.self steps c.args.inputs.now inv.valid inv.circuit inv.latches many c.set_inputs.ensures c.settle.new.self c.settle.ensures in
    let circuit : c.settle.new.self.circuit ≡ k = settled_circuit k c.self.inside.run c.set_inputs.new.self steps c.args.inputs.now inv.circuit c.set_inputs.ensures c.settle.new.self c.settle.ensures in
    let v : Valuation = frame_of k c.self.inside.run.latches c.args.inputs.now in
    record {
      valid = inv.valid;
      circuit = ap (λ (r : CircuitRun). r.circuit) c.advance.ensures.others ∙ circuit;
      latches =
          ap length (c.advance.ensures.latches v now) ∙ (ap (λ (m : Circuit). length (next_latch_bits m v)) circuit ∙ length-map k.latches (λ (latch : Latch). literal_value v latch.next));
      inputs = ap (λ (r : CircuitRun). length r.inputs) c.advance.ensures.others ∙ (ap (λ (m : Circuit). length (no_inputs m)) circuit ∙ length-replicate k.inputs false);
      begins = inv.begins;
      claim = inv.claim;
    }

pub returns : goal.returns
returns c =
    let k : Circuit = c.self.inside.circuit.now in
    let inv = c.self.invariant in
    let steps : ℕ = more_steps (settle_steps c.set_inputs.new.self.circuit) c.set_inputs.new.self.steps in
    let many : length c.args.inputs.now ≡ k.inputs = c.requires ∙ ap (λ (p : PlayValue). p.circuit.inputs) (sym c.self.view_is) in
    let now = settled_now k c.self.inside.run c.set_inputs.new.self steps c.args.inputs.now inv.valid inv.circuit inv.latches many c.set_inputs.ensures c.settle.new.self c.settle.ensures in
    let circuit : c.settle.new.self.circuit ≡ k = settled_circuit k c.self.inside.run c.set_inputs.new.self steps c.args.inputs.now inv.circuit c.set_inputs.ensures c.settle.new.self c.settle.ensures in
    let v : Valuation = frame_of k c.self.inside.run.latches c.args.inputs.now in
    let breach : c.note_breach.new.found ≡ option_or c.self.inside.breach (violated_at c.self.inside.frames (first_bit_violated k v) None) =
    c.note_breach.ensures ∙ ap (λ (o : Option ℕ). option_or c.self.inside.breach (violated_at c.self.inside.frames o None)) (c.first_violated-violated.ensures v now) in
    let bad = c.bad-is_bad.ensures v now ∙ ap (λ (m : Circuit). literal_value v (get_or m.bads c.self.inside.claim 0)) circuit in
    let met = by_other c.is_none.result (is_some c.note_breach.new.found) c.is_none.ensures ∙ ap is_none breach ∙ met_more k c.self.inside.frames c.self.inside.breach v in
    is_played k c.self.inside.claim c.self.inside.run.latches c.args.inputs.now c.self.inside.frames c.self.inside.breach c.self.inside.begins.items c.self.inside.first c.self.inside.risen
    (c.advance.ensures.latches v now ∙ ap (λ (m : Circuit). next_latch_bits m v) circuit) c.saturating_add-self-inside.ensures breach c.first_with-self-inside.ensures bad c.are_too_many.ensures met
    ∙ ap (λ (p : PlayValue). played p c.args.inputs.now) c.self.view_is
