use Rattle.std.proofs.Common.{◌≡◌, ℕ, [], ◌∷◌, ◌++◌, sym, subst, arith}
use Rattle.aigertext.specs.Ascii.{numbers_line}
use Rattle.aigertext.proofs.FileReadLemmas.{gate-told}
use Rattle.aigertext.proofs.reading.ascii_definitions.GateLineDefinition.plain.Goals as goal

pub returns : goal.returns
returns c =
    let line = subst (λ (n : ℕ). c.args.text.now ≡ numbers_line (n ∷ c.in_ok-number.first ∷ c.in_ok-number.second ∷ []) ++ c.in_ok-number.behind.now) (sym c.from.ensures) c.in_ok-number.ensures in
    rw (c.new-rhs0.ensures, c.new-rhs1.ensures)
    (gate-told c.args.greatest (omega (arith, c.ranges.greatest.fits)) c.args.lists.now c.from.result c.in_ok-number.first c.in_ok-number.second c.in-Ok.lhs c.args.text.now c.in_ok-number.behind.now line (omega arith) c.if-first-greatest.false c.if-second-greatest.false c.in-Ok.ensures)
