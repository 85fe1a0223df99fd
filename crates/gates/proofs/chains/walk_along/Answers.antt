use Rattle.std.proofs.Common.{◌≡◌, ℕ, suc, ◌+◌, ◌-◌, ◌<◌, true, false, List, length, get_or, sym, ◌∙◌, ap, arith}
use Rattle.std.proofs.lemmas.List.{get_or_read}
use Rattle.aiger.specs.declared.circuit.Gate.{Gate}
use Rattle.gates.specs.Chains.{is_pair, walked}
use Rattle.gates.proofs.ChainLemmas.{walked-end, walked-there, walked-on, walked-full}
use Rattle.gates.proofs.chains.walk_along.Goals as goal

-- a walk with a turn left, at an entry of a chain
at_entry : (gates : List Gate) (before : List ℕ) (pair : Gate) (turns turn entry : ℕ) → turn < turns → (entry ≡ 0 → ⊥)
    → walked gates before pair (turns - turn) entry ≡ walked gates before pair (suc (turns - (turn + 1))) (suc (entry - 1))
at_entry gates before pair turns turn entry left some =
    let turns_are : turns - turn ≡ suc (turns - (turn + 1)) = omega arith in
    let entry_is : entry ≡ suc (entry - 1) = omega arith in
    ap (λ t. walked gates before pair t entry) turns_are ∙ ap (walked gates before pair (suc (turns - (turn + 1)))) entry_is

-- the gate there, as it was read
gate_there : (gates : List Gate) (place : ℕ) (pair gate : Gate) → place < length gates → gate ≡ get_or gates place gate → is_pair pair (get_or gates place pair) ≡ is_pair pair gate
gate_there gates place pair gate inside is = ap (is_pair pair) (sym (get_or_read gates place gate inside is pair))

pub returns-then-entry-eq0 : goal.returns-then-entry-eq0
returns-then-entry-eq0 c =
    sym (c.loop.invariant.rest ∙ walked-end c.args.gates.now c.args.before.now c.args.pair (c.args.turns - c.loop.counter) c.loop.entry (omega arith) c.if-entry-eq0.true)

pub returns-then-is_of : goal.returns-then-is_of
returns-then-is_of c =
    let place = c.loop.entry - 1 in
    let there = gate_there c.args.gates.now place c.args.pair c.index-gates-place.result (omega arith) c.index-gates-place.is in
    let is : is_pair c.args.pair (get_or c.args.gates.now place c.args.pair) ≡ true = there ∙ (sym c.is_of.ensures ∙ c.if-is_of.true) in
    sym (c.loop.invariant.rest ∙ at_entry c.args.gates.now c.args.before.now c.args.pair c.args.turns c.loop.counter c.loop.entry c.loop-test.true c.if-entry-eq0.false
    ∙ walked-there c.args.gates.now c.args.before.now c.args.pair (c.args.turns - (c.loop.counter + 1)) place is)

pub loop-preserved : goal.loop-preserved
loop-preserved c =
    let place = c.loop.entry - 1 in
    let inside : place < length c.args.gates.now = omega arith in
    let there = gate_there c.args.gates.now place c.args.pair c.index-gates-place.result inside c.index-gates-place.is in
    let is_not : is_pair c.args.pair (get_or c.args.gates.now place c.args.pair) ≡ false = there ∙ (sym c.is_of.ensures ∙ c.if-is_of.false) in
    record {
      inside = c.requires.links place 0 (omega arith);
      rest = c.loop.invariant.rest ∙ at_entry c.args.gates.now c.args.before.now c.args.pair c.args.turns c.loop.counter c.loop.entry c.loop-test.true c.if-entry-eq0.false
          ∙ walked-on c.args.gates.now c.args.before.now c.args.pair (c.args.turns - (c.loop.counter + 1)) place is_not;
    }

pub returns : goal.returns
returns c =
    sym (c.loop.invariant.rest ∙ walked-full c.args.gates.now c.args.before.now c.args.pair (c.args.turns - c.loop.counter) c.loop.entry (omega arith))
