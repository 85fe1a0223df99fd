use Rattle.std.proofs.Common.{◌≡◌, ◌+◌, ◌-◌, ◌≤◌, length, take, get_or, refl, arith, rules}
use Rattle.std.proofs.lemmas.Result.{IfOk-weaker, IfErr-weaker}
use Rattle.std.proofs.lemmas.List.{length-take-le}
use Rattle.gates.specs.Made.{RefusesGate}
use Rattle.gates.proofs.LaterLemmas.{IsDefined-of_word, IsDefined-not, Refuses-weaker}
use Rattle.gates.proofs.LiteralLemmas.{Refuses-behind}
use Rattle.gates.proofs.GrowthLemmas.{Grows-trans, IsDefined-grown}
use Rattle.gates.proofs.SizeLemmas.{MakesLiteral-size_overflow}
use Rattle.gates.proofs.overflows.size_overflow.Goals as goal

pub returns-clause-ok : goal.returns-clause-ok
returns-clause-ok g c =
    let size = c.args.size.now in
    let n = length size in
    let x = c.index-size-top.result in
    let x_is : x ≡ get_or size (n - 1) x = c.index-size-top.is in
    IfOk-weaker c.and.result _ _
    (λ l makes. MakesLiteral-size_overflow _ _ _ _ size (take (n - 1) size) c.args.negative c.not.result c.in_ok-below.below c.in_ok-other.other x l c.requires.some refl x_is c.not.ensures
    c.in_ok-below.ensures.ok c.in_ok-other.ensures.ok makes)
    c.and.ensures.ok

pub returns-clause-refused : goal.returns-clause-refused
returns-clause-refused g c =
    let size = c.args.size.now in
    let n = length size in
    let front : length (take (n - 1) size) ≡ n - 1 = length-take-le (n - 1) size (omega arith) in
    let few : length (take (n - 1) size) + 1 + 1 ≤ n + 1 = omega (arith, front) in
    let below = c.in_ok-below.ensures.ok in
    IfErr-weaker c.and.result _ _
    (λ e refused. Refuses-behind _ _ _ (length (take (n - 1) size) + 1) 1 (n + 1) e few (Grows-trans _ _ _ (length (take (n - 1) size)) 1 below.grows c.in_ok-other.ensures.ok.grows) refused)
    c.and.ensures.refused

pub disjunction-requires-clause-left : goal.disjunction-requires-clause-left
disjunction-requires-clause-left g c = c.in_ok-below.ensures.ok.defined

pub disjunction-requires-clause-right : goal.disjunction-requires-clause-right
disjunction-requires-clause-right g c = IsDefined-not _ c.args.negative _ c.not.ensures (IsDefined-grown _ _ _ c.in_ok-below.ensures.ok.grows _ c.requires.literal)

pub and-requires-clause-left : goal.and-requires-clause-left
and-requires-clause-left g c =
    let size = c.args.size.now in
    let n = length size in
    let x = c.index-size-top.result in
    let x_is : x ≡ get_or size (n - 1) x = c.index-size-top.is in
    IsDefined-of_word _ _ _ size (n - 1) x (omega (arith, c.requires.some)) x_is c.requires.defined (Grows-trans _ _ _ _ _ c.in_ok-below.ensures.ok.grows c.in_ok-other.ensures.ok.grows)

pub and-requires-clause-right : goal.and-requires-clause-right
and-requires-clause-right g c = c.in_ok-other.ensures.ok.defined

pub returns-in_err-below-clause-refused : goal.returns-in_err-below-clause-refused
returns-in_err-below-clause-refused g c =
    let size = c.args.size.now in
    let n = length size in
    let front : length (take (n - 1) size) ≡ n - 1 = length-take-le (n - 1) size (omega arith) in
    let here = c.in_err-below.ensures.refused in
    let refused : RefusesGate (g.G.Gates.made c.args.g.now) (g.G.Gates.made c.connect_bits.new.g) (n + 1) c.in_err-below.field-0.0 =
    Refuses-weaker _ _ (length (take (n - 1) size)) (n + 1) _ (omega (arith, front)) here
    in search rules

pub returns-in_err-other-clause-refused : goal.returns-in_err-other-clause-refused
returns-in_err-other-clause-refused g c =
    let size = c.args.size.now in
    let n = length size in
    let front : length (take (n - 1) size) ≡ n - 1 = length-take-le (n - 1) size (omega arith) in
    let below = c.in_ok-below.ensures.ok in
    let refused : RefusesGate (g.G.Gates.made c.args.g.now) (g.G.Gates.made c.disjunction.new.g) (n + 1) c.in_err-other.field-0.0 =
    Refuses-behind _ _ _ (length (take (n - 1) size)) 1 (n + 1) _ (omega (arith, front)) below.grows c.in_err-other.ensures.refused
    in search rules
