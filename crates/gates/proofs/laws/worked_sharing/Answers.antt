use Rattle.std.proofs.Common.{◌≡◌, Bool, true, false, not, ◌&&◌, ◌==◌, [], inl, refl, sym, true≢false, arith}
use Rattle.gates.proofs.laws.worked_sharing.Goals as goal

-- no bit is its own negation
not_itself : (x : Bool) → x ≡ (not x && not x) → ⊥
not_itself true e = true≢false e
not_itself false e = true≢false (sym e)

pub returns-clause-with_constant : goal.returns-clause-with_constant
returns-clause-with_constant c shared = let constant = (shared.needed 0 (record { rhs0 = 4; rhs1 = 1 }) (omega arith)).no_constant in absurd (omega arith)

pub returns-clause-of_one_variable : goal.returns-clause-of_one_variable
returns-clause-of_one_variable c shared = absurd ((shared.needed 0 (record { rhs0 = 3; rhs1 = 2 }) (omega arith)).two refl)

pub returns-clause-twice : goal.returns-clause-twice
returns-clause-twice c shared = absurd (shared.once 0 1 (record { rhs0 = 4; rhs1 = 2 }) (omega arith) (omega arith) (inl (refl, refl)))

pub returns-clause-valuation : goal.returns-clause-valuation
returns-clause-valuation c = record { valuation = λ k. k == 1; gates = (refl, tt); input_bits_are = refl; latch_bits_are = refl }

pub returns-clause-no_valuation : goal.returns-clause-no_valuation
returns-clause-no_valuation c has =
    let valued = has [] [] refl refl in
    not_itself (valued.valuation 1) valued.gates.0
