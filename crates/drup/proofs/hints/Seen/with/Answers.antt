use Rattle.std.proofs.Common.{◌≡◌, ℕ, ◌++◌, ◌∷◌, [], ◌+◌, ◌∙◌, refl, sym, subst, arith}
use Rattle.drup.specs.Opened.{HasSeen}
use Rattle.drup.proofs.OpenedLemmas.{seen_negated, seen_open}
use Rattle.drup.proofs.hints.Seen.with.Goals as goal

pub returns-then-is_negated : goal.returns-then-is_negated
returns-then-is_negated c s before is h =
    let one : c.from.result ≡ 1 = rw (c.from.ensures, c.if-is_negated.true) refl in
    subst (λ (n : ℕ). HasSeen s (before ++ c.args.literal ∷ []) (record { negated = c.args.self.negated + n; last = c.args.self.last })) (sym one)
    (seen_negated s before c.args.literal c.args.self (is ∙ c.if-is_negated.true) h)

pub returns-else-is_negated : goal.returns-else-is_negated
returns-else-is_negated c s before is h =
    let none : c.from.result ≡ 0 = rw (c.from.ensures, c.if-is_negated.false) refl in
    subst (λ (n : ℕ). HasSeen s (before ++ c.args.literal ∷ []) (record { negated = n; last = c.args.literal })) (omega (arith, none)) (seen_open s before c.args.literal c.args.self (is ∙ c.if-is_negated.false) h)
