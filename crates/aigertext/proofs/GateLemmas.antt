-- The deltas of gates are read again.
use Rattle.std.proofs.Common.{◌≡◌, ℕ, suc, ◌+◌, ◌-◌, ◌*◌, ◌^◌, ◌<◌, ◌≤◌, false, ◌==◌, nat_lt, List, [], ◌∷◌, ◌++◌, length, Result, Ok, Err, refl, sym, ap, ◌∙◌, append_assoc, append-nil, arith}
use Rattle.std.proofs.lemmas.Bool.{ne_eqb}
use Rattle.std.proofs.lemmas.Bool.Decides.{nat_tests}
use Rattle.deltas.specs.Deltas.{delta}
use Rattle.deltas.proofs.ReadLemmas.{number-read}
use Rattle.aiger.specs.declared.circuit.Gate.{Gate}
use Rattle.aiger.specs.Net.{AreOrderedFrom}
use Rattle.aigertext.specs.declared.forms.Form.TheVariants.{Binary}
use Rattle.aigertext.specs.Binary.{gates_text}
use Rattle.aigertext.specs.declared.fault.Stop.{Stop}
use Rattle.aigertext.specs.Passes.{onto}
use Rattle.aigertext.specs.Reading.{◌>>=◌, delta_told, delta_at, below, at_or_below, gate_at, gates_at}
use Rattle.aigertext.proofs.PassLemmas.{onto_nothing}

-- a delta
pub delta-read : (n : ℕ) (rest : List ℕ) → n < 2 ^ 35 → delta_at (delta n ++ rest) ≡ Ok (n, rest)
unfolding delta_at
delta-read n rest h = ap delta_told (number-read n rest h)

-- what is left of a number from which the difference to a smaller one is taken
difference : (a b : ℕ) → b ≤ a → a - (a - b) ≡ b
difference a b h = omega arith

below-read : (own first : ℕ) (rest : List ℕ) → first < own → below own (own - first, rest) ≡ Ok (first, rest)
below-read own first rest h =
    let some : (own - first) == 0 ≡ false = ne_eqb (own - first) 0 (omega arith) in
    let small : nat_lt own (own - first) ≡ false = grind (arith, nat_tests) in
    rw (some, small) (ap (λ (m : ℕ). Ok (m, rest)) (difference own first (omega arith)))

at_or_below-read : (first second : ℕ) (rest : List ℕ) → second ≤ first → at_or_below first (first - second, rest) ≡ Ok (second, rest)
at_or_below-read first second rest h =
    let small : nat_lt first (first - second) ≡ false = grind (arith, nat_tests) in
    rw small (ap (λ (m : ℕ). Ok (m, rest)) (difference first second h))

-- a gate
gate-read : (own : ℕ) (g : Gate) (rest : List ℕ) → g.rhs0 < own → g.rhs1 ≤ g.rhs0 → own < 2 ^ 35
    → gate_at own ((delta (own - g.rhs0) ++ delta (g.rhs0 - g.rhs1)) ++ rest) ≡ Ok (g, rest)
unfolding gate_at
gate-read own g rest below' ordered small =
    let first : delta_at (delta (own - g.rhs0) ++ (delta (g.rhs0 - g.rhs1) ++ rest)) ≡ Ok (own - g.rhs0, delta (g.rhs0 - g.rhs1) ++ rest) = delta-read (own - g.rhs0) (delta (g.rhs0 - g.rhs1) ++ rest) (omega arith) in
    let second : delta_at (delta (g.rhs0 - g.rhs1) ++ rest) ≡ Ok (g.rhs0 - g.rhs1, rest) = delta-read (g.rhs0 - g.rhs1) rest (omega arith) in
    ap (gate_at own) (append_assoc (delta (own - g.rhs0)) (delta (g.rhs0 - g.rhs1)) rest)
    ∙ (rw (first, below-read own g.rhs0 (delta (g.rhs0 - g.rhs1) ++ rest) below', second, at_or_below-read g.rhs0 g.rhs1 rest ordered) refl)

-- the literal of the variable after one
pub next_literal : (first : ℕ) → 2 * first + 2 ≡ 2 * suc first
next_literal first = omega arith

-- the gates, and so many behind them
pub gates-read-on : (first more : ℕ) (gates : List Gate) (rest : List ℕ) → AreOrderedFrom first gates → first + length gates ≤ 2 ^ 32
    → gates_at (2 * first) (length gates + more) (gates_text Binary first gates ++ rest) ≡ onto gates (gates_at (2 * (first + length gates)) more rest)
gates-read-on first more [] rest ordered few =
    let none : 0 + more ≡ more = omega arith in
    let here : first ≡ first + 0 = omega arith in
    ap (λ (n : ℕ). gates_at (2 * first) n rest) none ∙ sym (onto_nothing (gates_at (2 * first) more rest)) ∙ ap (λ (k : ℕ). onto [] (gates_at (2 * k) more rest)) here
gates-read-on first more (g ∷ gs) rest ordered few =
    let text = append_assoc (delta (2 * first - g.rhs0) ++ delta (g.rhs0 - g.rhs1)) (gates_text Binary (suc first) gs) rest in
    let many : suc (length gs) + more ≡ suc (length gs + more) = omega arith in
    let one : gate_at (2 * first) ((delta (2 * first - g.rhs0) ++ delta (g.rhs0 - g.rhs1)) ++ (gates_text Binary (suc first) gs ++ rest)) ≡ Ok (g, gates_text Binary (suc first) gs ++ rest) = gate-read (2 * first) g (gates_text Binary (suc first) gs ++ rest) ordered.0 ordered.1 (omega arith) in
    let next : suc first + length gs ≡ first + suc (length gs) = omega arith in
    let others : gates_at (2 * first + 2) (length gs + more) (gates_text Binary (suc first) gs ++ rest) ≡ onto gs (gates_at (2 * (first + suc (length gs))) more rest) =
    ap (λ (own : ℕ). gates_at own (length gs + more) (gates_text Binary (suc first) gs ++ rest)) (next_literal first) ∙ gates-read-on (suc first) more gs rest ordered.2 (omega arith)
    ∙ ap (λ (k : ℕ). onto gs (gates_at (2 * k) more rest)) next in
    ap (λ (n : ℕ). gates_at (2 * first) n (gates_text Binary first (g ∷ gs) ++ rest)) many ∙ ap (gates_at (2 * first) (suc (length gs + more))) text ∙ (rw (one, others) (onto_one_more g gs (gates_at (2 * (first + suc (length gs))) more rest)))
  where
    onto_one_more : (g : Gate) (gs : List Gate) (r : Result (List Gate × List ℕ) Stop)
        → ◌>>=◌ {A = List Gate × List ℕ} {B = List Gate × List ℕ} {E = Stop} (onto gs r) (λ ys. Ok (g ∷ ys.0, ys.1)) ≡ onto (g ∷ gs) r
    onto_one_more g gs (Ok x) = refl
    onto_one_more g gs (Err e) = refl

-- the gates
pub gates-read : (first : ℕ) (gates : List Gate) (rest : List ℕ) → AreOrderedFrom first gates → first + length gates ≤ 2 ^ 32 → gates_at (2 * first) (length gates) (gates_text Binary first gates ++ rest) ≡ Ok (gates, rest)
gates-read first gates rest ordered few =
    let none : length gates ≡ length gates + 0 = omega arith in
    ap (λ (n : ℕ). gates_at (2 * first) n (gates_text Binary first gates ++ rest)) none ∙ gates-read-on first 0 gates rest ordered few ∙ ap (λ (gs : List Gate). Ok (gs, rest)) (append-nil gates)
