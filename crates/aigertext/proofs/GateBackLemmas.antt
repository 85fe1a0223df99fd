-- From what reading gives back to the text: deltas and gates.
use Rattle.std.proofs.Common.{◌≡◌, ℕ, zero, suc, ◌+◌, ◌-◌, ◌*◌, ◌<◌, ◌≤◌, ◌==◌, ◌||◌, nat_lt, List, [], ◌∷◌, ◌++◌, length, get_or, Fits, w8, Result, Ok, Err, refl, sym, ap, subst, ◌∙◌, append_assoc, inl, inr, arith}
use Rattle.std.proofs.lemmas.Bool.{eqb-false, ltb-false, or_parts}
use Rattle.base.proofs.DecimalLemmas.{chosen}
use Rattle.deltas.specs.declared.reading.DeltaFault.{DeltaFault}
use Rattle.deltas.specs.Deltas.{delta, number_at}
use Rattle.deltas.proofs.BackLemmas.{AreBytes, number-back}
use Rattle.aiger.specs.declared.circuit.Gate.{Gate}
use Rattle.aiger.specs.Net.{AreOrderedFrom}
use Rattle.aigertext.specs.declared.fault.Stop.{Stop}
use Rattle.aigertext.specs.declared.fault.Why.{Why}
use Rattle.aigertext.specs.declared.fault.Why.TheVariants as why
use Rattle.aigertext.specs.declared.forms.Form.TheVariants.{Binary}
use Rattle.aigertext.specs.Binary.{gates_text}
use Rattle.aigertext.specs.Reading.{◌>>=◌, said_at_front, delta_told, delta_at, below, at_or_below, gate_at, gates_at}
use Rattle.aigertext.proofs.BackLemmas.{ok_same, not_err}
use Rattle.aigertext.proofs.GateLemmas.{next_literal}

-- bytes
pub bytes_of : (text : List ℕ) → ((i : ℕ) → Fits w8 (get_or text i 0)) → AreBytes text
bytes_of [] h = tt
bytes_of (b ∷ bs) h = (omega (arith, h 0), bytes_of bs (λ i. h (suc i)))

pub bytes_behind : (front rest : List ℕ) → AreBytes (front ++ rest) → AreBytes rest
bytes_behind [] rest h = h
bytes_behind (b ∷ front) rest h = bytes_behind front rest h.1

-- a delta at the front of a text
told_back : (r : Result (ℕ × List ℕ) DeltaFault) (x : ℕ × List ℕ) → delta_told r ≡ Ok x → r ≡ Ok x
told_back (Ok y) x e = ap (λ (p : ℕ × List ℕ). Ok p) (ok_same y x e)
told_back (Err f) x e = absurd (not_err _ _ e)

delta-back : (text : List ℕ) (n : ℕ) (rest : List ℕ) → AreBytes text → delta_at text ≡ Ok (n, rest) → text ≡ delta n ++ rest
unfolding delta_at
delta-back text n rest bytes e = number-back text n rest bytes (told_back (number_at text) (n, rest) e)

-- the operands of a gate
taken_twice : (a d : ℕ) → d ≤ a → a - (a - d) ≡ d
taken_twice a d h = omega arith

below-back : (own : ℕ) (text : List ℕ) (x : ℕ × List ℕ) (r : Result (ℕ × List ℕ) Why) → AreBytes text → delta_at text ≡ r → ◌>>=◌ {A = ℕ × List ℕ} {B = ℕ × List ℕ} {E = Why} r (below own) ≡ Ok x → (text ≡ delta (own - x.0) ++ x.1) × (x.0 < own)
below-back own text x (Err w) bytes f e = absurd (not_err _ _ e)
below-back own text x (Ok d) bytes f e =
    elim (chosen ((d.0 == 0) || nat_lt own d.0) (Err why.GateOrder) (Ok (own - d.0, d.1)) (Ok x) e) [
      | inl wrong ↦ absurd (not_err _ _ wrong.1)
      | inr good ↦
          let parts = or_parts (d.0 == 0) (nat_lt own d.0) good.0 in
          let le : d.0 ≤ own = ltb-false own d.0 parts.1 in
          subst (λ (p : ℕ × List ℕ). (text ≡ delta (own - p.0) ++ p.1) × (p.0 < own)) (ok_same (own - d.0, d.1) x good.1)
          (delta-back text d.0 d.1 bytes f ∙ ap (λ (k : ℕ). delta k ++ d.1) (sym (taken_twice own d.0 le)), omega (arith, le, eqb-false d.0 0 parts.0))
    ]

at_or_below-back : (first : ℕ) (text : List ℕ) (x : ℕ × List ℕ) (r : Result (ℕ × List ℕ) Why) → AreBytes text → delta_at text ≡ r → ◌>>=◌ {A = ℕ × List ℕ} {B = ℕ × List ℕ} {E = Why} r (at_or_below first) ≡ Ok x → (text ≡ delta (first - x.0) ++ x.1) × (x.0 ≤ first)
at_or_below-back first text x (Err w) bytes f e = absurd (not_err _ _ e)
at_or_below-back first text x (Ok d) bytes f e =
    elim (chosen (nat_lt first d.0) (Err why.GateOrder) (Ok (first - d.0, d.1)) (Ok x) e) [
      | inl wrong ↦ absurd (not_err _ _ wrong.1)
      | inr good ↦
          let le : d.0 ≤ first = ltb-false first d.0 good.0 in
          subst (λ (p : ℕ × List ℕ). (text ≡ delta (first - p.0) ++ p.1) × (p.0 ≤ first)) (ok_same (first - d.0, d.1) x good.1)
          (delta-back text d.0 d.1 bytes f ∙ ap (λ (k : ℕ). delta k ++ d.1) (sym (taken_twice first d.0 le)), omega arith)
    ]

-- a gate at the front of a text, whose operands are below it, the greater one first
abbrev IsGateAt : ℕ → List ℕ → Gate → List ℕ → Type 0
IsGateAt own text g rest = (text ≡ (delta (own - g.rhs0) ++ delta (g.rhs0 - g.rhs1)) ++ rest) × (g.rhs0 < own) × (g.rhs1 ≤ g.rhs0)

module _ (own : ℕ) (text : List ℕ) (g : Gate) (rest : List ℕ) (bytes : AreBytes text) where
  second_by : (x : ℕ × List ℕ) (r : Result (ℕ × List ℕ) Why) → (text ≡ delta (own - x.0) ++ x.1) × (x.0 < own) → ◌>>=◌ {A = ℕ × List ℕ} {B = ℕ × List ℕ} {E = Why} (delta_at x.1) (at_or_below x.0) ≡ r
      → ◌>>=◌ {A = ℕ × List ℕ} {B = Gate × List ℕ} {E = Stop} (said_at_front x.1 r) (λ y. Ok (record { rhs0 = x.0; rhs1 = y.0 }, y.1)) ≡ Ok (g, rest) → IsGateAt own text g rest
  second_by x (Err w) first f e = absurd (not_err _ _ e)
  second_by x (Ok y) first f e =
      let is : (record { rhs0 = x.0; rhs1 = y.0 }, y.1) ≡ (g, rest) = ok_same (record { rhs0 = x.0; rhs1 = y.0 }, y.1) (g, rest) e in
      let second = at_or_below-back x.0 x.1 y (delta_at x.1) (bytes_behind (delta (own - x.0)) x.1 (subst AreBytes first.0 bytes)) refl f in
      subst (λ (p : Gate × List ℕ). IsGateAt own text p.0 p.1) is
      (first.0 ∙ ap (λ (l : List ℕ). delta (own - x.0) ++ l) second.0 ∙ sym (append_assoc (delta (own - x.0)) (delta (x.0 - y.0)) y.1), first.1, second.1)

  first_by : (r : Result (ℕ × List ℕ) Why) → ◌>>=◌ {A = ℕ × List ℕ} {B = ℕ × List ℕ} {E = Why} (delta_at text) (below own) ≡ r
      → ◌>>=◌ {A = ℕ × List ℕ} {B = Gate × List ℕ} {E = Stop} (said_at_front text r) (λ x. ◌>>=◌ {A = ℕ × List ℕ} {B = Gate × List ℕ} {E = Stop} (said_at_front x.1 (◌>>=◌ {A = ℕ × List ℕ} {B = ℕ × List ℕ} {E = Why} (delta_at x.1) (at_or_below x.0))) (λ y. Ok (record { rhs0 = x.0; rhs1 = y.0 }, y.1))) ≡ Ok (g, rest)
      → IsGateAt own text g rest
  first_by (Err w) f e = absurd (not_err _ _ e)
  first_by (Ok x) f e = second_by x (◌>>=◌ {A = ℕ × List ℕ} {B = ℕ × List ℕ} {E = Why} (delta_at x.1) (at_or_below x.0)) (below-back own text x (delta_at text) bytes refl f) refl e

  pub gate-back : gate_at own text ≡ Ok (g, rest) → IsGateAt own text g rest
  unfolding gate_at
  gate-back e = first_by (◌>>=◌ {A = ℕ × List ℕ} {B = ℕ × List ℕ} {E = Why} (delta_at text) (below own)) refl e

-- so many gates
pub record AreGatesAt (first n : ℕ) (text : List ℕ) (gs : List Gate) (rest : List ℕ) : Type 0 where
  pub parts : text ≡ gates_text Binary first gs ++ rest
  pub count : length gs ≡ n
  pub ordered : AreOrderedFrom first gs

gates_by : (first n : ℕ) (text : List ℕ) (gs : List Gate) (rest : List ℕ) (x : Gate × List ℕ) (r : Result (List Gate × List ℕ) Stop)
    → IsGateAt (2 * first) text x.0 x.1 → ((hs : List Gate) (after : List ℕ) → r ≡ Ok (hs, after) → AreGatesAt (suc first) n x.1 hs after)
    → ◌>>=◌ {A = List Gate × List ℕ} {B = List Gate × List ℕ} {E = Stop} r (λ ys. Ok (x.0 ∷ ys.0, ys.1)) ≡ Ok (gs, rest) → AreGatesAt first (suc n) text gs rest
gates_by first n text gs rest x (Err w) one others e = absurd (not_err _ _ e)
gates_by first n text gs rest x (Ok ys) one others e =
    let is : (x.0 ∷ ys.0, ys.1) ≡ (gs, rest) = ok_same (x.0 ∷ ys.0, ys.1) (gs, rest) e in
    let o = others ys.0 ys.1 refl in
    subst (λ (p : List Gate × List ℕ). AreGatesAt first (suc n) text p.0 p.1) is
    (record {
      parts = one.0 ∙ ap (λ (l : List ℕ). (delta (2 * first - x.0.rhs0) ++ delta (x.0.rhs0 - x.0.rhs1)) ++ l) o.parts
          ∙ sym (append_assoc (delta (2 * first - x.0.rhs0) ++ delta (x.0.rhs0 - x.0.rhs1)) (gates_text Binary (suc first) ys.0) ys.1);
      count = ap suc o.count;
      ordered = (one.1, one.2, o.ordered);
    })

pub gates-back : (first n : ℕ) (text : List ℕ) (gs : List Gate) (rest : List ℕ) → AreBytes text → gates_at (2 * first) n text ≡ Ok (gs, rest) → AreGatesAt first n text gs rest
gates-back first zero text gs rest bytes e =
    let is : ([], text) ≡ (gs, rest) = ok_same ([], text) (gs, rest) e in
    subst (λ (p : List Gate × List ℕ). AreGatesAt first 0 text p.0 p.1) is (record { parts = refl; count = refl; ordered = tt })
gates-back first (suc n) text gs rest bytes e = by (gate_at (2 * first) text) refl e (λ x. gates-back (suc first) n x)
  where
    by : (r : Result (Gate × List ℕ) Stop) → gate_at (2 * first) text ≡ r
        → ◌>>=◌ {A = Gate × List ℕ} {B = List Gate × List ℕ} {E = Stop} r (λ g. ◌>>=◌ {A = List Gate × List ℕ} {B = List Gate × List ℕ} {E = Stop} (gates_at (2 * first + 2) n g.1) (λ ys. Ok (g.0 ∷ ys.0, ys.1))) ≡ Ok (gs, rest)
        → ((after : List ℕ) (hs : List Gate) (end : List ℕ) → AreBytes after → gates_at (2 * suc first) n after ≡ Ok (hs, end) → AreGatesAt (suc first) n after hs end)
        → AreGatesAt first (suc n) text gs rest
    by (Err w) f g again = absurd (not_err _ _ g)
    by (Ok x) f g again =
        let one = gate-back (2 * first) text x.0 x.1 bytes f in
        let after : AreBytes x.1 = bytes_behind (delta (2 * first - x.0.rhs0) ++ delta (x.0.rhs0 - x.0.rhs1)) x.1 (subst AreBytes one.0 bytes) in
        gates_by first n text gs rest x (gates_at (2 * first + 2) n x.1) one
        (λ hs end h. again x.1 hs end after (ap (λ (own : ℕ). gates_at own n x.1) (sym (next_literal first)) ∙ h)) g
