use Rattle.std.proofs.Common.{◌≡◌, ℕ, ◌++◌, map, List, ap, sym, ◌∙◌, subst}
use Rattle.aigerlists.specs.declared.loose.LatchLine.{LatchLine}
use Rattle.base.specs.Literal.{variable}
use Rattle.aigerlists.specs.Loose.{Loose, latch_variable, gate_variable}
use Rattle.aigerlists.specs.Numbering.{IsOnce}
use Rattle.aigerlists.proofs.PlacesLemmas.{once_front}
use Rattle.aigerlists.proofs.loose.Loose.push_leaves.Goals as goal

pub push_inputs-requires-clause-once : goal.push_inputs-requires-clause-once
push_inputs-requires-clause-once c =
    let l : Loose = c.args.self.now in
    let once : IsOnce (map variable l.inputs) = once_front (map variable l.inputs) (map latch_variable l.latches) (once_front (map variable l.inputs ++ map latch_variable l.latches) (map gate_variable l.gates) c.inputs.ensures.valid.definitions.once) in
    let e : c.args.numbers.now ++ map variable c.inputs.result.now ≡ map variable l.inputs = ap (λ (xs : List ℕ). xs ++ map variable c.inputs.result.now) c.requires ∙ ap (map variable) c.inputs.ensures.items in
    subst IsOnce (sym e) once

pub push_latches-requires-clause-once : goal.push_latches-requires-clause-once
push_latches-requires-clause-once c =
    let l : Loose = c.args.self.now in
    let once : IsOnce (map variable l.inputs ++ map latch_variable l.latches) = once_front (map variable l.inputs ++ map latch_variable l.latches) (map gate_variable l.gates) c.inputs.ensures.valid.definitions.once in
    let e : c.args.numbers.now ++ map variable c.inputs.result.now ≡ map variable l.inputs = ap (λ (xs : List ℕ). xs ++ map variable c.inputs.result.now) c.requires ∙ ap (map variable) c.inputs.ensures.items in
    let f : c.push_inputs.new.self ++ map latch_variable c.latches.result.now ≡ map variable l.inputs ++ map latch_variable l.latches = ap (λ (xs : List ℕ). xs ++ map latch_variable c.latches.result.now) (c.in_ok-push_inputs.ensures ∙ e) ∙ ap (λ (lines : List LatchLine). map variable l.inputs ++ map latch_variable lines) c.latches.ensures.items in
    subst IsOnce (sym f) once
