-- Nets and literals: what stays as gates are added, and what a literal says in a valuation.
use Rattle.std.proofs.Common.{◌≡◌, ℕ, zero, suc, ◌+◌, ◌*◌, ◌<◌, ◌≤◌, ◌&&◌, List, [], ◌∷◌, ◌++◌, map, length, refl, ap, sym, ◌∙◌, subst, arith, length-append}
use Rattle.std.specs.List.{range_with_len}
use Rattle.base.specs.Literal.{Valuation, negation, literal_value}
use Rattle.base.proofs.LiteralLemmas.{variable-negation, literal_value-even}
use Rattle.aiger.specs.Net.{Net, variables, IsDefined, SatisfiesFrom, Satisfies, AreOrderedFrom, AreOrdered, bits_from}
use Rattle.aiger.specs.declared.circuit.Gate.{Gate}

-- gates after gates: what satisfies both satisfies each
pub SatisfiesFrom-split : (first : ℕ) (gs hs : List Gate) (v : Valuation) → SatisfiesFrom first (gs ++ hs) v → SatisfiesFrom first gs v × SatisfiesFrom (first + length gs) hs v
SatisfiesFrom-split first [] hs v s =
    let e : first ≡ first + zero = omega arith in
    (tt, subst (λ k. SatisfiesFrom k hs v) e s)
SatisfiesFrom-split first (g ∷ gs) hs v s =
    let r = SatisfiesFrom-split (suc first) gs hs v s.1 in
    let e : suc first + length gs ≡ first + suc (length gs) = omega arith in
    ((s.0, r.0), subst (λ k. SatisfiesFrom k hs v) e r.1)

-- and what satisfies each satisfies both
pub SatisfiesFrom-join : (first : ℕ) (gs hs : List Gate) (v : Valuation) → SatisfiesFrom first gs v → SatisfiesFrom (first + length gs) hs v → SatisfiesFrom first (gs ++ hs) v
SatisfiesFrom-join first [] hs v s t =
    let e : first + zero ≡ first = omega arith in
    subst (λ k. SatisfiesFrom k hs v) e t
SatisfiesFrom-join first (g ∷ gs) hs v s t =
    let e : first + suc (length gs) ≡ suc first + length gs = omega arith in
    (s.0, SatisfiesFrom-join (suc first) gs hs v s.1 (subst (λ k. SatisfiesFrom k hs v) e t))

-- gates in order stay so with one more, whose operands are below it
pub AreOrderedFrom-push : (first : ℕ) (gs : List Gate) (g : Gate) → AreOrderedFrom first gs → g.rhs0 < 2 * (first + length gs) → g.rhs1 ≤ g.rhs0 → AreOrderedFrom first (gs ++ g ∷ [])
AreOrderedFrom-push first [] g o below order = (omega arith, order, tt)
AreOrderedFrom-push first (h ∷ gs) g o below order =
    (o.0, o.1, AreOrderedFrom-push (suc first) gs g o.2 (omega arith) order)

-- a net stays ordered with one more gate of defined operands, the greater first
pub AreOrdered-push : (n : Net) (g : Gate) → AreOrdered n → IsDefined n g.rhs0 → g.rhs1 ≤ g.rhs0 → AreOrdered (record n { gates = n.gates ++ g ∷ [] })
AreOrdered-push n g o defined order =
    AreOrderedFrom-push (suc (n.inputs + n.latches)) n.gates g o (omega arith) order

-- a defined literal stays defined with more gates
pub IsDefined-append : (n : Net) (gs : List Gate) (l : ℕ) → IsDefined n l → IsDefined (record n { gates = n.gates ++ gs }) l
IsDefined-append n gs l d = omega (arith, length-append n.gates gs)

-- false is defined
pub IsDefined-false : (n : Net) → IsDefined n 0
IsDefined-false n = omega arith

-- a negation is defined where its literal is
pub IsDefined-negation : (n : Net) (l : ℕ) → IsDefined n l → IsDefined n (negation l)
IsDefined-negation n l d = rw variable-negation d

-- in what satisfies a net with one more gate, the gate's literal is true exactly when both its operands are
pub literal_value-new : (n : Net) (g : Gate) (v : Valuation) → Satisfies (record n { gates = n.gates ++ g ∷ [] }) v → literal_value v (2 * (variables n + 1)) ≡ (literal_value v g.rhs0 && literal_value v g.rhs1)
literal_value-new n g v s =
    let last = (SatisfiesFrom-split (suc (n.inputs + n.latches)) n.gates (g ∷ []) v s).1 in
    let e : suc (n.inputs + n.latches) + length n.gates ≡ variables n + 1 = omega arith in
    literal_value-even v (variables n + 1) (omega arith) ∙ (ap v (sym e) ∙ last.0)

-- the bits of so many variables are so many
pub length-bits_from : (first count : ℕ) (v : Valuation) → length (bits_from first count v) ≡ count
length-bits_from first zero v = refl
length-bits_from first (suc count) v = ap suc (length-bits_from (suc first) count v)

-- the bits of variables one after the other
pub bits_from-append : (first m n : ℕ) (v : Valuation) → bits_from first (m + n) v ≡ bits_from first m v ++ bits_from (first + m) n v
bits_from-append first zero n v =
    let e : zero + n ≡ n = omega arith in
    let f : first ≡ first + zero = omega arith in
    subst (λ k. bits_from first k v ≡ bits_from (first + zero) n v) (sym e) (ap (λ k. bits_from k n v) f)
bits_from-append first (suc m) n v =
    let e : suc (m + n) ≡ suc m + n = omega arith in
    let f : suc first + m ≡ first + suc m = omega arith in
    subst (λ k. bits_from first k v ≡ v first ∷ (bits_from (suc first) m v ++ bits_from (first + suc m) n v)) e
    (ap (λ bits. v first ∷ bits) (bits_from-append (suc first) m n v ∙ ap (λ k. bits_from (suc first) m v ++ bits_from k n v) f))

-- the literals of variables one after the other say the variables' bits
pub bits_from-literals : (first start count : ℕ) (v : Valuation) → 0 < first → map (λ i. literal_value v (2 * (first + i))) (range_with_len start count) ≡ bits_from (first + start) count v
bits_from-literals first start zero v h = refl
bits_from-literals first start (suc count) v h =
    let e : first + (start + 1) ≡ suc (first + start) = omega arith in
    let b : literal_value v (2 * (first + start)) ≡ v (first + start) = literal_value-even v (first + start) (omega arith) in
    let t : map (λ i. literal_value v (2 * (first + i))) (range_with_len (start + 1) count) ≡ bits_from (suc (first + start)) count v = bits_from-literals first (start + 1) count v h ∙ ap (λ k. bits_from k count v) e in
    cc
