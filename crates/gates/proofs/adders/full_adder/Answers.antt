use Rattle.std.proofs.Common.{rules, arith}
use Rattle.std.proofs.lemmas.Result.{IfOk-weaker, IfErr-weaker}
use Rattle.gates.specs.Made.{RefusesGate}
use Rattle.gates.proofs.LaterLemmas.{Refuses-weaker}
use Rattle.gates.proofs.SumLemmas.{MakesColumn-full, MakesColumn-with_true}
use Rattle.gates.proofs.LiteralLemmas.{Refuses-behind}
use Rattle.gates.proofs.GrowthLemmas.{Grows-trans, IsDefined-grown}
use Rattle.gates.proofs.adders.full_adder.Goals as goal

pub returns-clause-ok : goal.returns-clause-ok
returns-clause-ok g c =
    let first = c.in_ok-first.first in
    let second = c.in_ok-second.second in
    MakesColumn-full _ _ _ _ c.args.a c.args.b c.args.c first.sum first.carry second.carry second.sum c.in_ok-carry.carry c.in_ok-first.ensures.ok c.in_ok-second.ensures.ok c.in_ok-carry.ensures.ok

pub returns-then-eq-clause-ok : goal.returns-then-eq-clause-ok
returns-then-eq-clause-ok g c = IfOk-weaker c.adder_with_one.result _ _ (λ column makes. MakesColumn-with_true _ _ c.args.a c.args.b c.args.c column.sum column.carry (search rules) makes) c.adder_with_one.ensures.ok

pub returns-in_err-carry-clause-refused : goal.returns-in_err-carry-clause-refused
returns-in_err-carry-clause-refused g c =
    let refused : RefusesGate (g.G.Gates.made c.args.g.now) (g.G.Gates.made c.disjunction.new.g) (7) c.in_err-carry.field-0.0 =
    Refuses-behind _ _ _ _ _ (7) _ (omega arith) (Grows-trans _ _ _ _ _ c.in_ok-first.ensures.ok.grows c.in_ok-second.ensures.ok.grows) c.in_err-carry.ensures.refused
    in search rules

pub half_adder-requires-2-clause-left : goal.half_adder-requires-2-clause-left
half_adder-requires-2-clause-left g c = c.in_ok-first.ensures.ok.sum_defined

pub half_adder-requires-2-clause-right : goal.half_adder-requires-2-clause-right
half_adder-requires-2-clause-right g c = IsDefined-grown _ _ _ c.in_ok-first.ensures.ok.grows _ c.requires.carry

pub disjunction-requires-clause-left : goal.disjunction-requires-clause-left
disjunction-requires-clause-left g c = IsDefined-grown _ _ _ c.in_ok-second.ensures.ok.grows _ c.in_ok-first.ensures.ok.carry_defined

pub disjunction-requires-clause-right : goal.disjunction-requires-clause-right
disjunction-requires-clause-right g c = c.in_ok-second.ensures.ok.carry_defined

pub returns-then-eq-clause-refused : goal.returns-then-eq-clause-refused
returns-then-eq-clause-refused g c =
    IfErr-weaker c.adder_with_one.result _ _ (λ e refused. Refuses-weaker _ _ 4 7 e (omega arith) refused) c.adder_with_one.ensures.refused

pub returns-in_err-first-clause-refused : goal.returns-in_err-first-clause-refused
returns-in_err-first-clause-refused g c =
    let refused : RefusesGate (g.G.Gates.made c.args.g.now) (g.G.Gates.made c.half_adder.new.g) 7 c.in_err-first.field-0.0 = Refuses-weaker _ _ 3 7 _ (omega arith) c.in_err-first.ensures.refused in
    search rules

pub returns-in_err-second-clause-refused : goal.returns-in_err-second-clause-refused
returns-in_err-second-clause-refused g c =
    let refused : RefusesGate (g.G.Gates.made c.args.g.now) (g.G.Gates.made c.half_adder-2.new.g) 7 c.in_err-second.field-0.0 = Refuses-behind _ _ _ 3 3 7 _ (omega arith) c.in_ok-first.ensures.ok.grows c.in_err-second.ensures.refused in
    search rules
