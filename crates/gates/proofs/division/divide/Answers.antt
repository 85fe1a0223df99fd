use Rattle.std.proofs.lemmas.List.Elements.{All-cons}
use Rattle.std.proofs.Common.{◌≡◌, ℕ, ◌+◌, ◌-◌, ◌*◌, ◌∷◌, [], length, drop, get_or, sym, ap₂, ◌∙◌, arith, rules, ◌≤◌, length-drop, ap}
use Rattle.std.proofs.lemmas.List.{drop_more, drop_all}
use Rattle.std.proofs.lemmas.Nat.{mul-le}
use Rattle.aiger.specs.Net.{IsDefined}
use Rattle.gates.specs.Made.{RefusesGate}
use Rattle.gates.proofs.LaterLemmas.{IsDefined-of_word}
use Rattle.gates.proofs.GrowthLemmas.{All-defined-grown}
use Rattle.gates.proofs.QuotientLemmas.{MakesDivision-start, MakesDivision-step, MakesDivision-weaker}
use Rattle.gates.proofs.LiteralLemmas.{Refuses-behind}
use Rattle.gates.proofs.division.divide.Goals as goal

pub loop-done-init : goal.loop-done-init
loop-done-init g c =
    let a = c.args.a.now in
    let b = c.args.b.now in
    let none : drop (length a - 0) a ≡ [] = drop_all (length a - 0) a (omega arith) in
    let cost : (12 * length b + 9) * 0 ≡ 0 = omega arith in
    rw (none, cost, c.new-quotient.ensures, c.new-remainder.ensures) (MakesDivision-start (g.G.Gates.made c.args.g.now) b)

pub loop-done-preserved : goal.loop-done-preserved
loop-done-preserved g c =
    let a = c.args.a.now in
    let b = c.args.b.now in
    let done = c.loop-done.done in
    let next = c.index-a-place.result in
    let row = c.in_ok-row.row in
    let place = length a - (done + 1) in
    let at : next ≡ get_or a place next = c.index-a-place.is ∙ ap (λ (k : ℕ). get_or a k next) (omega arith) in
    let longer : drop place a ≡ next ∷ drop (length a - done) a = drop_more a place next (omega arith) ∙ ap₂ (λ (x k : ℕ). x ∷ drop k a) (sym at) (omega arith) in
    rw (longer, c.insert-in-loop-done.ensures.items)
    (MakesDivision-step _ _ _ ((12 * length b + 9) * done) (12 * length b + 9) ((12 * length b + 9) * (done + 1)) (drop (length a - done) a) b c.loop-done.quotient.items c.loop-done.remainder.items next row.bit row.remainder.items
    (omega arith) c.loop-done.invariant (rw (c.as_slice.ensures.value, c.insert.ensures.items) at c.in_ok-row.ensures.ok))

pub returns-in_err-row-clause-refused : goal.returns-in_err-row-clause-refused
returns-in_err-row-clause-refused g c =
    let n = length c.args.a.now in
    let m = 12 * length c.args.b.now + 9 in
    let refused : RefusesGate (g.G.Gates.made c.args.g.now) (g.G.Gates.made c.next_row.new.g) (12 * (n * n) + 12 * n) c.in_err-row.field-0.0 =
    Refuses-behind _ _ _ (m * c.loop-done.done) m (12 * (n * n) + 12 * n) _ (omega (arith, c.requires.equal, mul-le m (c.loop-done.done + 1) (12 * n + 9) n (omega (arith, c.requires.equal)) (omega arith))) c.loop-done.invariant.grows c.in_err-row.ensures.refused
    in search rules

-- the gates of all rows fit
few_rows : (n m k : ℕ) → m ≡ n → k ≡ n → (12 * m + 9) * k ≤ 12 * (n * n) + 12 * n
few_rows n m k same all = rw (same, all) (omega arith)

pub next_row-requires-clause-some : goal.next_row-requires-clause-some
next_row-requires-clause-some g c = rw (c.as_slice.ensures.value, c.insert.ensures.items) (omega arith)

pub next_row-requires-clause-inside : goal.next_row-requires-clause-inside
next_row-requires-clause-inside g c =
    let a = c.args.a.now in
    rw (c.as_slice.ensures.value, c.insert.ensures.items) (omega (arith, c.loop-done.invariant.remainder_wide, length-drop (length a - c.loop-done.done) a, c.requires.equal))

pub next_row-requires-clause-most : goal.next_row-requires-clause-most
next_row-requires-clause-most g c = omega (arith, c.requires.equal, c.requires.most)

pub next_row-requires-clause-left : goal.next_row-requires-clause-left
next_row-requires-clause-left g c =
    let a = c.args.a.now in
    let cur = g.G.Gates.made c.loop-done.g in
    let x = c.index-a-place.result in
    let defined : IsDefined cur x =
    IsDefined-of_word _ cur _ a (length c.args.a.now - 1 - c.loop-done.done) x (omega arith) c.index-a-place.is c.requires.left c.loop-done.invariant.grows
    in
    rw (c.as_slice.ensures.value, c.insert.ensures.items) (All-cons (IsDefined cur) x c.loop-done.remainder.items defined c.loop-done.invariant.remainder_defined)

pub next_row-requires-clause-right : goal.next_row-requires-clause-right
next_row-requires-clause-right g c = All-defined-grown _ _ _ c.loop-done.invariant.grows _ c.requires.right

pub returns-clause-ok : goal.returns-clause-ok
returns-clause-ok g c =
    let n = length c.args.a.now in
    let all : c.loop-done.done ≡ n = omega arith in
    let none : n - c.loop-done.done ≡ 0 = omega arith in
    MakesDivision-weaker _ _ _ _ c.args.a.now c.args.b.now _ _ (few_rows n _ _ c.requires.equal all) (rw none at c.loop-done.invariant)
