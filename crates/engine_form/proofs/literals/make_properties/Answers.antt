use Rattle.std.proofs.Common.{◌≡◌, ◌+◌, ◌<◌, ◌≤◌, length, All, refl, sym, subst, ap, arith, rules}
use Rattle.base.specs.Literal.{variable}
use Rattle.gates.specs.Made.{RefusesGate}
use Rattle.gates.proofs.LiteralLemmas.{Refuses-behind}
use Rattle.engine_form.proofs.MadeLemmas.{chosen_inside, chosen_few, PropertiesRead-made}
use Rattle.engine_form.proofs.literals.make_properties.Goals as goal

pub bad_literals-requires-clause-inside : goal.bad_literals-requires-clause-inside
bad_literals-requires-clause-inside g c =
    subst (All (λ l. variable l < length c.args.table)) (sym c.chosen.ensures) (chosen_inside c.args.circuit.now c.args.choice c.args.table c.constraints.ensures.valid c.requires.many)

pub returns-clause-ok : goal.returns-clause-ok
returns-clause-ok g c = (
  refl,
  PropertiesRead-made c.args.circuit.now c.args.choice c.args.before _ _ _ c.args.table c.args.table c.args.table c.constraints.result.now c.chosen.result.now _ _
      refl refl c.constraints.ensures.items c.chosen.ensures c.in_ok-met.ensures.ok c.in_ok-bads.ensures.ok,
)

pub returns-in_err-bads-clause-refused : goal.returns-in_err-bads-clause-refused
returns-in_err-bads-clause-refused g c =
    let circuit = c.args.circuit.now in
    let held : length c.constraints.result.now ≡ length circuit.constraints = ap length c.constraints.ensures.items in
    let few : length c.chosen.result.now ≤ length circuit.bads = omega (arith, ap length c.chosen.ensures, chosen_few c.args.choice circuit.bads) in
    let refused : RefusesGate (g.G.Gates.made c.args.g.now) (g.G.Gates.made c.bad_literals.new.g) (length circuit.constraints + length circuit.bads) c.in_err-bads.field-0.0 =
    Refuses-behind _ _ _ (length c.constraints.result.now) (length c.chosen.result.now) (length circuit.constraints + length circuit.bads) _ (omega (arith, held, few)) c.in_ok-met.ensures.ok.grows c.in_err-bads.ensures.refused
    in search rules
