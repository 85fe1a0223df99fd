-- Literals beside a circuit one by one, and beginnings.
use Rattle.std.proofs.Common.{◌≡◌, ℕ, zero, suc, ◌+◌, ◌<◌, Bool, true, ◌&&◌, List, [], ◌∷◌, ◌++◌, length, take, get_or, All, subst, Option, None, Some, refl, sym, ap, ap₂, ◌∙◌, arith}
use Rattle.std.proofs.Math.Bool.{and-true, and_assoc}
use Rattle.std.proofs.lemmas.List.Elements.{All-head, All-tail}
use Rattle.aiger.specs.Net.{Net, IsDefined}
use Rattle.aiger.specs.declared.circuit.Latch.{Latch}
use Rattle.base.specs.Literal.{Valuation, literal_value}
use Rattle.gates.specs.Made.{MakesLiteral}
use Rattle.gates.proofs.GrowthLemmas.{Grows-refl}
use Rattle.witness_circuits.specs.Made.{beside_literal, beside_literals, agrees, own_reset, own_initial, values}

beside-more : (table : List ℕ) (ms : List (Option ℕ)) (os : List ℕ) (i : ℕ) (m : Option ℕ) (o : ℕ) → i < length ms → length os ≡ length ms → m ≡ get_or ms i m → o ≡ get_or os i o
    → beside_literals table (take (suc i) ms) os ≡ beside_literals table (take i ms) os ++ beside_literal table m o ∷ []
beside-more table [] os i m o h e p q = absurd (omega arith)
beside-more table (x ∷ ms) [] i m o h e p q = absurd (cc)
beside-more table (x ∷ ms) (y ∷ os) zero m o h e p q = ap₂ (λ (a : Option ℕ) (b : ℕ). beside_literal table a b ∷ []) (sym p) (sym q)
beside-more table (x ∷ ms) (y ∷ os) (suc i) m o h e p q =
    let rest : length os ≡ length ms = cc in
    ap (λ (ls : List ℕ). beside_literal table x y ∷ ls) (beside-more table ms os i m o (omega arith) rest p q)

pub beside-next : (table : List ℕ) (ms : List (Option ℕ)) (os : List ℕ) (i : ℕ) (m : Option ℕ) (o : ℕ) → i < length ms → length os ≡ length ms → m ≡ get_or ms i m → o ≡ get_or os i o
    → beside_literals table (take (i + 1) ms) os ≡ beside_literals table (take i ms) os ++ beside_literal table m o ∷ []
beside-next table ms os i m o h e p q =
    let one : i + 1 ≡ suc i = omega arith in
    ap (λ (k : ℕ). beside_literals table (take k ms) os) one ∙ beside-more table ms os i m o h e p q

-- of no latch nothing is asked
none_left : (ms : List (Option ℕ)) (bs : List Bool) → own_initial ms [] bs ≡ true
none_left [] bs = refl
none_left (m ∷ ms) bs = refl

pub initial-none : (n : Net) (ms : List (Option ℕ)) (bs : List ℕ) (l : ℕ) → IsDefined n l → MakesLiteral n n 0 (λ v. literal_value v l && own_initial ms [] (values v bs)) l
initial-none n ms bs l d =
    record {
      grows = Grows-refl n 0;
      defined = d;
      means = λ v s. sym (ap (λ (b : Bool). literal_value v l && b) (none_left ms (values v bs)) ∙ and-true (literal_value v l));
    }

-- one latch more
initial-more : (ms : List (Option ℕ)) (ls : List Latch) (bs : List ℕ) (v : Valuation) (i : ℕ) (l : Latch) (b : ℕ) → i < length ls → length bs ≡ length ls → l ≡ get_or ls i l → b ≡ get_or bs i b
    → own_initial ms (take (suc i) ls) (values v bs) ≡ (own_initial ms (take i ls) (values v bs) && agrees (own_reset ms i l.reset) (literal_value v b))
initial-more ms [] bs v i l b h e p q = absurd (omega arith)
initial-more ms (x ∷ ls) [] v i l b h e p q = absurd (cc)
initial-more [] (x ∷ ls) (y ∷ bs) v zero l b h e p q =
    ap₂ (λ (a : Latch) (d : ℕ). agrees a.reset (literal_value v d) && true) (sym p) (sym q) ∙ and-true (agrees l.reset (literal_value v b))
initial-more [] (x ∷ ls) (y ∷ bs) v (suc i) l b h e p q =
    let rest : length bs ≡ length ls = cc in
    ap (λ (r : Bool). agrees x.reset (literal_value v y) && r) (initial-more [] ls bs v i l b (omega arith) rest p q)
    ∙ sym (and_assoc (agrees x.reset (literal_value v y)) (own_initial [] (take i ls) (values v bs)) (agrees l.reset (literal_value v b)))
initial-more (None ∷ ms) (x ∷ ls) (y ∷ bs) v zero l b h e p q =
    ap (λ (r : Bool). agrees x.reset (literal_value v y) && r) (none_left ms (values v bs))
    ∙ (ap₂ (λ (a : Latch) (d : ℕ). agrees a.reset (literal_value v d) && true) (sym p) (sym q) ∙ and-true (agrees l.reset (literal_value v b)))
initial-more (Some n ∷ ms) (x ∷ ls) (y ∷ bs) v zero l b h e p q = none_left ms (values v bs)
initial-more (None ∷ ms) (x ∷ ls) (y ∷ bs) v (suc i) l b h e p q =
    let rest : length bs ≡ length ls = cc in
    ap (λ (r : Bool). agrees x.reset (literal_value v y) && r) (initial-more ms ls bs v i l b (omega arith) rest p q)
    ∙ sym (and_assoc (agrees x.reset (literal_value v y)) (own_initial ms (take i ls) (values v bs)) (agrees (own_reset ms i l.reset) (literal_value v b)))
initial-more (Some n ∷ ms) (x ∷ ls) (y ∷ bs) v (suc i) l b h e p q =
    let rest : length bs ≡ length ls = cc in
    initial-more ms ls bs v i l b (omega arith) rest p q

pub initial-next : (ms : List (Option ℕ)) (ls : List Latch) (bs : List ℕ) (v : Valuation) (i : ℕ) (l : Latch) (b : ℕ) → i < length ls → length bs ≡ length ls → l ≡ get_or ls i l → b ≡ get_or bs i b
    → own_initial ms (take (i + 1) ls) (values v bs) ≡ (own_initial ms (take i ls) (values v bs) && agrees (own_reset ms i l.reset) (literal_value v b))
initial-next ms ls bs v i l b h e p q =
    let one : i + 1 ≡ suc i = omega arith in
    ap (λ (k : ℕ). own_initial ms (take k ls) (values v bs)) one ∙ initial-more ms ls bs v i l b h e p q

pub defined_at : (n : Net) (bs : List ℕ) (i b : ℕ) → i < length bs → b ≡ get_or bs i b → All (IsDefined n) bs → IsDefined n b
defined_at n [] i b h e all = absurd (omega arith)
defined_at n (x ∷ bs) zero b h e all = subst (IsDefined n) (sym e) (All-head (IsDefined n) x bs all)
defined_at n (x ∷ bs) (suc i) b h e all = defined_at n bs i b (omega arith) e (All-tail (IsDefined n) x bs all)
