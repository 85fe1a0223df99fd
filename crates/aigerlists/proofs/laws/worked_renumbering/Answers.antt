use Rattle.std.proofs.Common.{rules, ◌≡◌, ◌<◌, ℕ, zero, suc, List, [], ◌∷◌, ◌⊎◌, inl, inr, refl, arith, ⊎_elim}
use Rattle.aigerlists.specs.Renumbering.{Uses, LeadsAlong, gate_line}
use Rattle.base.specs.Literal.{variable}
use Rattle.std.specs.List.Sorted.{IsStrictlySortedBy}
use Rattle.std.proofs.lemmas.List.Elements.{All-nil}
use Rattle.aiger.specs.Circuit.{IsNamed, HasFew, HasDefined, net}
use Rattle.aigerlists.specs.Worked.{straight, looped, led}
use Rattle.aigerlists.proofs.laws.worked_renumbering.Goals as goal

-- what holds of 0 holds of each number below 1
below_one : (P : ℕ → Type 0) → P 0 → (i : ℕ) → i < 1 → P i
below_one P p zero h = p
below_one P p (suc i) h = absurd (omega arith)

-- and what holds of 0 and 1 of each number below 2
below_two : (P : ℕ → Type 0) → P 0 → P 1 → (i : ℕ) → i < 2 → P i
below_two P p q zero h = p
below_two P p q (suc zero) h = q
below_two P p q (suc (suc i)) h = absurd (omega arith)

pub returns-clause-valid : goal.returns-clause-valid
unfolding IsStrictlySortedBy
returns-clause-valid c =
    let few : HasFew straight = search rules in
    let defined : HasDefined (net straight) straight = search rules in
    record {
      small = omega arith;
      few = few;
      ordered = (omega arith, omega arith, (omega arith, omega arith, tt));
      defined = defined;
      names = record { sorted = tt; named = All-nil (IsNamed straight) };
    }

pub returns-clause-cycle : goal.returns-clause-cycle
returns-clause-cycle c =
    let one : Uses looped 0 1 = record { user = omega arith; used = omega arith; operand = inl refl } in
    let two : Uses looped 1 0 = record { user = omega arith; used = omega arith; operand = inl refl } in
    record {
      leads = (0, (inl refl, (1 ∷ [], (one, two))));
      first = λ i h. absurd (omega arith);
    }

pub returns-clause-twice : goal.returns-clause-twice
returns-clause-twice c d = omega (arith, d.once 2)

-- and what holds of 0, 1 and 2 of each number below 3
below_three : (P : ℕ → Type 0) → P 0 → P 1 → P 2 → (i : ℕ) → i < 3 → P i
below_three P p q r zero h = p
below_three P p q r (suc zero) h = q
below_three P p q r (suc (suc zero)) h = r
below_three P p q r (suc (suc (suc i))) h = absurd (omega arith)

-- no gate has the variable of the one that leads to the cycle
none_uses : (j : ℕ) → ¬ Uses led j 0
none_uses j u =
    below_three (λ i. (variable (gate_line led i).rhs0 ≡ 4) ⊎ (variable (gate_line led i).rhs1 ≡ 4) → ⊥)
    (λ o. ⊎_elim (λ (e : 3 ≡ 4). omega (arith, e)) (λ (e : 1 ≡ 4). omega (arith, e)) o)
    (λ o. ⊎_elim (λ (e : 2 ≡ 4). omega (arith, e)) (λ (e : 1 ≡ 4). omega (arith, e)) o)
    (λ o. ⊎_elim (λ (e : 2 ≡ 4). omega (arith, e)) (λ (e : 1 ≡ 4). omega (arith, e)) o)
    j u.user u.operand

none_leads : (j : ℕ) (through : List ℕ) → LeadsAlong led j through 0 → ⊥
none_leads j [] u = none_uses j u
none_leads j (k ∷ ks) u = none_leads k ks u.1

pub returns-clause-led : goal.returns-clause-led
returns-clause-led c =
    let one : Uses led 0 2 = record { user = omega arith; used = omega arith; operand = inl refl } in
    let two : Uses led 2 1 = record { user = omega arith; used = omega arith; operand = inl refl } in
    let own : Uses led 1 1 = record { user = omega arith; used = omega arith; operand = inl refl } in (
      record {
        leads = (1, (inr (2 ∷ [], (one, two)), ([], own)));
        first = λ i h. absurd (omega arith);
      },
      (λ d. none_leads 0 d.0 d.1),
      ([], own),
    )
