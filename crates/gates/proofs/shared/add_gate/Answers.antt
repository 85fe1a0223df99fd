use Rattle.std.proofs.Common.{rules, ◌≡◌, ◌++◌, ◌∷◌, [], arith}
use Rattle.std.specs.HashMap.{get}
use Rattle.aiger.specs.Circuit.{net}
use Rattle.gates.specs.Chains.{longest, is_pair}
use Rattle.gates.proofs.ChainLemmas.{AreFound-noted, chain-inside}
use Rattle.gates.proofs.shared.add_gate.Goals as goal

pub note-requires-clause-inside : goal.note-requires-clause-inside
note-requires-clause-inside c =
    let chains = c.args.chains.now in
    let variables = c.requires.found.variables in
    chain-inside longest c.args.circuit.now.gates chains.last.items chains.before.items (get is_pair chains.beyond) c.args.pair c.args.chain
    (omega (arith, c.requires.greater)) (omega (arith, c.requires.smaller)) c.requires.absent

pub returns-clause-found : goal.returns-clause-found
returns-clause-found c =
    let old = c.args.chains.now in
    let new = c.note.new.self in
    let variables = c.requires.found.variables in
    let made : c.push.new.circuit ≡ record c.args.circuit.now { gates = c.args.circuit.now.gates ++ c.args.pair ∷ [] } = search rules in
    rw made
    (AreFound-noted 15 (net c.args.circuit.now) old.last.items new.last.items old.before.items new.before.items (get is_pair old.beyond) (get is_pair new.beyond) c.args.pair c.args.chain
    c.requires.found (omega (arith, c.requires.greater)) (omega (arith, c.requires.smaller)) c.requires.absent c.note.ensures.last c.note.ensures.before c.note.ensures.beyond)
