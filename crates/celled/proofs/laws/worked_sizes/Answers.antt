use Rattle.std.proofs.Common.{◌≡◌, ℕ, zero, suc, ◌*◌, ◌^◌, refl, arith}
use Rattle.celled.proofs.laws.worked_sizes.Goals as goal

pub returns-clause-two : goal.returns-clause-two
returns-clause-two c = ((1, refl), tt)

pub returns-clause-one : goal.returns-clause-one
returns-clause-one c = ((0, refl), tt)

none : (k : ℕ) → 6 ≡ 2 ^ k * 2 → ⊥
none zero e = absurd (cc)
none (suc zero) e = absurd (cc)
none (suc (suc k)) e = absurd (omega (arith, e))

pub returns-clause-three : goal.returns-clause-three
returns-clause-three c = λ h. none h.0 h.1

pub returns-clause-missing : goal.returns-clause-missing
returns-clause-missing c = λ h. h
