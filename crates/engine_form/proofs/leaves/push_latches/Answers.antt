use Rattle.std.proofs.Common.{◌≡◌, ◌+◌, ◌*◌, ◌++◌, ◌∷◌, [], List, ℕ, rules, arith, take, append_assoc, ap, ap₂, ◌∙◌}
use Rattle.std.proofs.lemmas.List.Sums.{sum_by-take-le}
use Rattle.aiger.specs.declared.circuit.Latch.{Latch}
use Rattle.gates.specs.Made.{RefusesGate}
use Rattle.gates.proofs.LiteralLemmas.{Refuses-behind}
use Rattle.engine_form.specs.EngineForm.{taken_bits, free_count}
use Rattle.engine_form.proofs.TableLemmas.{latch-more, free-taken}
use Rattle.engine_form.proofs.leaves.push_latches.Goals as goal

pub returns-in_err-lit-clause-refused : goal.returns-in_err-lit-clause-refused
returns-in_err-lit-clause-refused g c =
    let ls = c.args.latches.now in
    let more = free-taken ls c.loop-j.j c.index-latches-j.result c.loop-j-test.true c.index-latches-j.is in
    let most = sum_by-take-le (λ (l : Latch). taken_bits l.reset) ls (c.loop-j.j + 1) in
    let refused : RefusesGate (g.G.Gates.made c.args.g.now) (g.G.Gates.made c.latch_literal.new.g) (3 * free_count ls) c.in_err-lit.field-0.0 =
    Refuses-behind _ _ _ (3 * free_count (take c.loop-j.j ls)) (3 * taken_bits c.index-latches-j.result.reset) (3 * free_count ls) _ (omega arith) c.loop-j.invariant.more.2.grows c.in_err-lit.ensures.refused
    in search rules

pub returns-in-Err-clause-refused : goal.returns-in-Err-clause-refused
returns-in-Err-clause-refused g c =
    let ls = c.args.latches.now in
    let more = free-taken ls c.loop-j.j c.index-latches-j.result c.loop-j-test.true c.index-latches-j.is in
    let most = sum_by-take-le (λ (l : Latch). taken_bits l.reset) ls (c.loop-j.j + 1) in
    let own : RefusesGate (g.G.Gates.made c.loop-j.g) (g.G.Gates.made c.latch_literal.new.g) (3 * taken_bits c.index-latches-j.result.reset) c.in-Err.fault = (let memory = c.in-Err.ensures.memory in record { grows = c.in_ok-lit.ensures.ok.grows; too_big = λ is. absurd (cc) }) in
    Refuses-behind _ _ _ (3 * free_count (take c.loop-j.j ls)) (3 * taken_bits c.index-latches-j.result.reset) (3 * free_count ls) _ (omega arith) c.loop-j.invariant.more.2.grows own

pub loop-j-preserved : goal.loop-j-preserved
loop-j-preserved g c =
    let ls = c.args.latches.now in
    let l = c.index-latches-j.result in
    let k = c.loop-j.invariant.more in
    let more = free-taken ls c.loop-j.j l c.loop-j-test.true c.index-latches-j.is in
    let given : c.variable_literal-in-loop-j.result ≡ 2 * (c.args.input + free_count (take c.loop-j.j ls)) = c.variable_literal-in-loop-j.ensures ∙ ap (λ (n : ℕ). 2 * n) c.loop-j.invariant.input in
    record {
      input = ap₂ ◌+◌ c.loop-j.invariant.input c.taken_bits-input.ensures ∙ omega arith;
      more = (
        k.0 ++ c.in_ok-lit.lit ∷ [],
        c.in-Ok.ensures.ok ∙ ap (λ (xs : List ℕ). xs ++ c.in_ok-lit.lit ∷ []) k.1 ∙ append_assoc c.args.table.now k.0 (c.in_ok-lit.lit ∷ []),
        latch-more _ _ _ ls k.0 c.loop-j.j l c.args.own c.args.input c.variable_literal.result c.variable_literal-in-loop-j.result c.args.started c.in_ok-lit.lit c.loop-j-test.true c.index-latches-j.is (omega (arith, c.requires.inputs, c.requires.some)) c.requires.some c.variable_literal.ensures given k.2 c.in_ok-lit.ensures.ok,
      );
    }
