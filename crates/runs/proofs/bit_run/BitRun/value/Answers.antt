use Rattle.std.proofs.Common.{◌≡◌, ℕ, true, List, ap, sym, subst, ◌∙◌}
use Rattle.base.specs.Literal.{Valuation, bit_of, literal_value, valuation_of}
use Rattle.aiger.specs.Net.{IsDefined}
use Rattle.aiger.specs.Circuit.{net}
use Rattle.runs.specs.CircuitRun.{CircuitRun, IsFrameNow}
use Rattle.runs.specs.Arranging.{placed}
use Rattle.runs.proofs.BitRunLemmas.{literal_now, place_small, placed_inside}
use Rattle.runs.proofs.bit_run.BitRun.value.Goals as goal

pub placed-requires : goal.placed-requires
placed-requires c = place_small _ _ _ _ _ _ c.self.invariant c.args.lit (subst (λ (r : CircuitRun). IsDefined (net r.circuit) c.args.lit) (sym c.self.view_is) c.requires.there)

pub literal_bit-requires-clause-inside : goal.literal_bit-requires-clause-inside
literal_bit-requires-clause-inside c =
    let there = subst (λ (r : CircuitRun). IsDefined (net r.circuit) c.args.lit) (sym c.self.view_is) c.requires.there in
    rw (c.number.ensures, c.placed.ensures, c.deref.ensures) (placed_inside _ _ _ _ _ _ c.self.invariant c.args.lit there)

pub returns : goal.returns
returns c =
    let there = subst (λ (r : CircuitRun). IsDefined (net r.circuit) c.args.lit) (sym c.self.view_is) c.requires.there in
    let done = subst (λ (r : CircuitRun). r.settled ≡ true) (sym c.self.view_is) c.requires.settled in
    let literal = placed c.self.inside.arrangement.places c.args.lit in
    let read = c.literal_bit.ensures ∙ ap (λ (l : ℕ). literal_value (valuation_of c.deref.result.now) l) (c.number.ensures ∙ c.placed.ensures) ∙ ap (λ (bits : List ℕ). literal_value (valuation_of bits) literal) c.deref.ensures in
    subst (λ (r : CircuitRun). (v : Valuation) → IsFrameNow r v → bit_of c.literal_bit.result ≡ literal_value v c.args.lit) c.self.view_is
    (λ v frame. read ∙ literal_now _ _ _ _ _ _ c.self.invariant done v frame c.args.lit there)
