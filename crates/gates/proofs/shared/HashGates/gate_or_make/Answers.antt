use Rattle.std.proofs.Common.{rules, ◌≡◌, ◌+◌, ◌*◌, position, None, Some, Ok, refl, sym, ◌∙◌, ap}
use Rattle.std.specs.HashMap.{get}
use Rattle.aiger.specs.declared.circuit.Gate.{Gate}
use Rattle.aiger.specs.Net.{variables}
use Rattle.aiger.specs.Circuit.{net}
use Rattle.gates.specs.declared.chains.Look.TheVariants.{Found, Absent}
use Rattle.gates.specs.Chains.{longest, is_pair}
use Rattle.gates.specs.Shared.{is_gate_of, gate_literal}
use Rattle.gates.proofs.ChainLemmas.{found_there, place-found}
use Rattle.gates.proofs.SharedLemmas.{AreShared-made}
use Rattle.gates.proofs.shared.HashGates.gate_or_make.Goals as goal

pub gate_at-requires : goal.gate_at-requires
gate_at-requires c =
    let chains = c.self.inside.chains in
    (found_there longest (net c.self.inside.circuit) chains.last.items chains.before.items (get is_pair chains.beyond) c.self.invariant.1 c.pair_of-pair.result c.in-Found.place (sym c.find.ensures ∙ c.in-Found.is)).0

-- where the gate was found
place_found : (c : goal.After-gate_at) → Some c.in-Found.place ≡ position (is_gate_of c.args.a c.args.b) c.self.inside.circuit.gates
place_found c =
    let chains = c.self.inside.chains in
    place-found longest (net c.self.inside.circuit) chains.last.items chains.before.items (get is_pair chains.beyond) c.self.invariant.1 c.pair_of-pair.result (Found c.in-Found.place) (sym c.find.ensures ∙ c.in-Found.is)
    ∙ ap (λ (pair : Gate). position (is_pair pair) c.self.inside.circuit.gates) c.pair_of-pair.ensures

pub returns-in-Found-clause-standing : goal.returns-in-Found-clause-standing
returns-in-Found-clause-standing c =
    rw (← c.self.view_is)
    (λ k at.
    let both : Some c.in-Found.place ≡ Some k = place_found c ∙ at in
    let same : c.in-Found.place ≡ k = cc in
    (ap Ok (c.gate_at.ensures ∙ ap (gate_literal (net c.self.inside.circuit)) same), refl))

pub returns-in-Found-clause-fresh : goal.returns-in-Found-clause-fresh
returns-in-Found-clause-fresh c =
    rw (← c.self.view_is) (λ none. absurd (let both : Some c.in-Found.place ≡ None = place_found c ∙ none in cc))

pub returns-in-Found-clause-too_big : goal.returns-in-Found-clause-too_big
returns-in-Found-clause-too_big c =
    rw (← c.self.view_is)
    ((λ refused. absurd (search rules)), (λ needed. absurd (let both : Some c.in-Found.place ≡ None = place_found c ∙ needed.0 in cc)))

-- no gate stands where none was found
absent : (c : goal.After-make) → position (is_gate_of c.args.a c.args.b) c.self.inside.circuit.gates ≡ None
absent c =
    let chains = c.self.inside.chains in
    sym
    (place-found longest (net c.self.inside.circuit) chains.last.items chains.before.items (get is_pair chains.beyond) c.self.invariant.1 c.pair_of-pair.result (Absent c.in-Absent.chain) (sym c.find.ensures ∙ c.in-Absent.is)
    ∙ ap (λ (pair : Gate). position (is_pair pair) c.self.inside.circuit.gates) c.pair_of-pair.ensures)

pub invariant_of-self : goal.invariant_of-self
invariant_of-self c =
    let made = AreShared-made c.make.result c.self.inside.circuit c.make.new.circuit c.args.a c.args.b (λ l. l ≡ 2 * (variables (net c.self.inside.circuit) + 1)) (search rules) c.make.ensures.err c.self.invariant.0 c.self.invariant.2 c.requires.needed (absent c) in
    (made.0, c.make.ensures.found, made.1)

pub returns-in-Absent-clause-standing : goal.returns-in-Absent-clause-standing
returns-in-Absent-clause-standing c =
    rw (← c.self.view_is) (λ k at. absurd (let both : None ≡ Some k = sym (absent c) ∙ at in cc))

pub returns-in-Absent-clause-too_big : goal.returns-in-Absent-clause-too_big
returns-in-Absent-clause-too_big c =
    rw (← c.self.view_is) ((λ refused. (absent c, c.make.ensures.too_big.0 refused)), (λ needed. c.make.ensures.too_big.1 needed.1))

pub returns-in-Absent-clause-shared : goal.returns-in-Absent-clause-shared
returns-in-Absent-clause-shared c = (invariant_of-self c).2
