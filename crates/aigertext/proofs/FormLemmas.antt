-- The latches and gates of a text in a form, from a position on.
use Rattle.std.proofs.Common.{◌≡◌, ℕ, suc, ◌+◌, ◌*◌, ◌<◌, ◌≤◌, zero, List, [], ◌∷◌, ◌++◌, length, drop, get_or, refl, sym, subst, add-one, drop-cons, arith}
use Rattle.aiger.specs.declared.circuit.Gate.{Gate}
use Rattle.aiger.specs.declared.circuit.Latch.{Latch}
use Rattle.aiger.specs.Net.{AreOrderedFrom}
use Rattle.aigertext.specs.declared.forms.Form.{Form}
use Rattle.aigertext.specs.Binary.{latch_text, latches_text, gate_text, gates_text}

-- the latches
pub latches_text_at : (form : Form) (first i : ℕ) (latches : List Latch) (l : Latch) → i < length latches → l ≡ get_or latches i l
    → latches_text form first (drop i latches) ≡ latch_text form (2 * first) l ++ latches_text form (first + 1) (drop (i + 1) latches)
latches_text_at form first i latches l h e =
    subst (λ (x : Latch). latches_text form first (drop i latches) ≡ latch_text form (2 * first) x ++ latches_text form (first + 1) (drop (i + 1) latches)) (sym e) (rw (drop-cons latches i l, add-one i, add-one first) refl)

-- the gates
pub gates_text_at : (form : Form) (first i : ℕ) (gates : List Gate) (g : Gate) → i < length gates → g ≡ get_or gates i g
    → gates_text form first (drop i gates) ≡ gate_text form (2 * first) g ++ gates_text form (first + 1) (drop (i + 1) gates)
gates_text_at form first i gates g h e =
    subst (λ (x : Gate). gates_text form first (drop i gates) ≡ gate_text form (2 * first) x ++ gates_text form (first + 1) (drop (i + 1) gates)) (sym e) (rw (drop-cons gates i g, add-one i, add-one first) refl)

-- a gate in order has its operands below it
pub ordered_at : (first variable i : ℕ) (gates : List Gate) (g : Gate) → AreOrderedFrom first gates → i < length gates → variable ≡ first + i → g ≡ get_or gates i g → (g.rhs0 < 2 * variable) × (g.rhs1 ≤ g.rhs0)
ordered_at first variable i [] g o h v e = absurd (omega arith)
ordered_at first variable zero (x ∷ gates) g o h v e =
    subst (λ (y : Gate). (y.rhs0 < 2 * variable) × (y.rhs1 ≤ y.rhs0)) (sym e) (omega (arith, o.0, v), o.1)
ordered_at first variable (suc i) (x ∷ gates) g o h v e = ordered_at (suc first) variable i gates g o.2 (omega arith) (omega arith) e

-- gates in order are so in parts
pub ordered_parts : (first : ℕ) (gs hs : List Gate) → AreOrderedFrom first (gs ++ hs) → AreOrderedFrom first gs × AreOrderedFrom (first + length gs) hs
ordered_parts first [] hs o =
    let same : first ≡ first + 0 = omega arith in
    (tt, subst (λ (n : ℕ). AreOrderedFrom n hs) same o)
ordered_parts first (g ∷ gs) hs o =
    let p = ordered_parts (suc first) gs hs o.2 in
    let next : suc first + length gs ≡ first + suc (length gs) = omega arith in
    ((o.0, o.1, p.0), subst (λ (n : ℕ). AreOrderedFrom n hs) next p.1)
