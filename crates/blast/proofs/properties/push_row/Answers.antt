use Rattle.std.proofs.Common.{◌≡◌, length, take, ap, sym, subst, arith}
use Rattle.std.proofs.lemmas.List.{take_all}
use Rattle.std.proofs.lemmas.List.Elements.{All-get_or}
use Rattle.aiger.specs.Limits.{greatest_count}
use Rattle.aiger.specs.Net.{Net, IsDefined}
use Rattle.aiger.specs.Circuit.{net}
use Rattle.blast.specs.Properties.{names_by}
use Rattle.blast.proofs.PropertyLemmas.{Adds-none, Adds-equal, Adds-net, Adds-bit, Adds-bits_few}
use Rattle.blast.proofs.properties.push_row.Goals as goal

pub loop-bit-init : goal.loop-bit-init
loop-bit-init c = Adds-none c.args.property c.args.circuit.now

pub push_bit-requires-clause-defined : goal.push_bit-requires-clause-defined
push_bit-requires-clause-defined c =
    subst (λ (n : Net). IsDefined n c.literal_of.result)
    (sym (Adds-net c.args.property c.args.circuit.now c.loop-bit.circuit (take c.loop-bit.bit c.args.row.now) (names_by c.args.property c.args.symbol.now 0 c.loop-bit.bit) c.loop-bit.invariant))
    (subst (IsDefined (net c.args.circuit.now)) (sym c.literal_of.ensures) (All-get_or (IsDefined (net c.args.circuit.now)) c.args.row.now c.loop-bit.bit 0 c.loop-bit-test.true c.requires.defined))

pub push_bit-requires-clause-few : goal.push_bit-requires-clause-few
push_bit-requires-clause-few c =
    Adds-bits_few c.args.property c.args.circuit.now c.loop-bit.circuit c.args.row.now (names_by c.args.property c.args.symbol.now 0 c.loop-bit.bit) c.loop-bit.bit greatest_count c.loop-bit.invariant c.loop-bit-test.true c.requires.few

pub loop-bit-preserved : goal.loop-bit-preserved
loop-bit-preserved c =
    Adds-bit c.args.property c.args.circuit.now c.loop-bit.circuit c.push_bit.new.circuit c.args.row.now c.args.symbol.now c.loop-bit.bit c.literal_of.result c.loop-bit.invariant c.loop-bit-test.true c.literal_of.ensures c.in_ok-push_bit.ensures.ok

pub returns-clause-ok : goal.returns-clause-ok
returns-clause-ok c =
    let all : c.loop-bit.bit ≡ length c.args.row.now = omega arith in
    Adds-equal c.args.property c.args.circuit.now c.loop-bit.circuit _ _ _ _ (take_all c.loop-bit.bit c.args.row.now (omega arith)) (ap (names_by c.args.property c.args.symbol.now 0) all) c.loop-bit.invariant
