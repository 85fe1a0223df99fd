-- How nets grow, and what stays true of literals.
use Rattle.std.proofs.Common.{◌≡◌, ℕ, suc, ◌+◌, ◌*◌, ◌≤◌, ◌<◌, Bool, true, false, ◌&&◌, List, [], ◌∷◌, ◌++◌, length, map, not, ◌-◌, ◌^◌, All, refl, sym, ap, ◌∙◌, arith, append_assoc, append-nil, length-append, inl, inr, cond, nat_le, nat_lt, Option, Some, None}
use Rattle.std.proofs.lemmas.List.{length-map}
use Rattle.std.proofs.lemmas.List.Elements.{All-weaker, All-map}
use Rattle.base.proofs.BitLemmas.{word-map_not}
use Rattle.base.specs.Literal.{negation, Valuation, literal_value, variable}
use Rattle.base.proofs.LiteralLemmas.{literal_value-negation}
use Rattle.aiger.proofs.NetLemmas.{IsDefined-negation, SatisfiesFrom-split, literal_value-new}
use Rattle.gates.specs.Made.{MakesWord, word_value, AreSame, Grows, MakesAnd}
use Rattle.base.specs.Word.{word}
use Rattle.aiger.specs.Net.{Net, variables, IsDefined, Satisfies, SatisfiesFrom}
use Rattle.std.proofs.lemmas.Bool.Decides.{nat_tests}
use Rattle.aiger.specs.declared.fault.CircuitFault.{CircuitFault}
use Rattle.aiger.specs.declared.fault.CircuitFault.TheVariants.{TooBig, OrderBroken, LiteralOutOfRange}
use Rattle.aiger.specs.Limits.{greatest_count}
use Rattle.aiger.specs.Circuit.{Circuit, net, with_gate, gate_refusal}

pub Grows-refl : (n : Net) (most : ℕ) → Grows n n most
Grows-refl n most = record { inputs = refl; latches = refl; gates = ([], sym (append-nil n.gates), omega arith) }

pub Grows-weaker : (old new : Net) (few most : ℕ) → few ≤ most → Grows old new few → Grows old new most
Grows-weaker old new few most le g = record { inputs = g.inputs; latches = g.latches; gates = (g.gates.0, g.gates.1, omega arith) }

pub Grows-trans : (a b c : Net) (m n : ℕ) → Grows a b m → Grows b c n → Grows a c (m + n)
Grows-trans a b c m n g h =
    record {
      inputs = h.inputs ∙ g.inputs;
      latches = h.latches ∙ g.latches;
      gates = (g.gates.0 ++ h.gates.0, h.gates.1 ∙ (rw g.gates.1 (append_assoc a.gates g.gates.0 h.gates.0)), omega (arith, length-append g.gates.0 h.gates.0));
    }

-- what satisfies the later gates satisfies the earlier ones
pub Satisfies-earlier : (old new : Net) (most : ℕ) → Grows old new most → (v : Valuation) → Satisfies new v → Satisfies old v
Satisfies-earlier old new most g v s =
    let at_old : SatisfiesFrom (suc (old.inputs + old.latches)) (old.gates ++ g.gates.0) v = rw (← g.gates.1, ← g.inputs, ← g.latches) s in
    (SatisfiesFrom-split (suc (old.inputs + old.latches)) old.gates g.gates.0 v at_old).0

-- variables are only added
pub variables-grown : (old new : Net) (most : ℕ) → Grows old new most → (variables old ≤ variables new) × (variables new ≤ variables old + most)
variables-grown old new most g =
    let longer = ap length g.gates.1 in
    let sum = length-append old.gates g.gates.0 in
    let i = g.inputs in
    let l = g.latches in
    (omega arith, omega arith)

pub IsDefined-grown : (old new : Net) (most : ℕ) → Grows old new most → (l : ℕ) → IsDefined old l → IsDefined new l
IsDefined-grown old new most g l d = let more = variables-grown old new most g in omega arith

pub All-defined-grown : (old new : Net) (most : ℕ) → Grows old new most → (ls : List ℕ) → All (IsDefined old) ls → All (IsDefined new) ls
All-defined-grown old new most g ls all = All-weaker (IsDefined old) (IsDefined new) (IsDefined-grown old new most g) ls all

-- the and of two literals is that of the same two in either order
pub and-same : (v : Valuation) (a b high low : ℕ) → AreSame a b high low → (literal_value v high && literal_value v low) ≡ (literal_value v a && literal_value v b)
and-same v a b high low (inl e) = rw (e.0, e.1) refl
and-same v a b high low (inr e) = rw (e.0, e.1) (swapped (literal_value v b) (literal_value v a))
  where
    swapped : (x y : Bool) → (x && y) ≡ (y && x)
    swapped true true = refl
    swapped true false = refl
    swapped false true = refl
    swapped false false = refl

-- a gate with the operands in order is the and of both
pub MakesAnd-gate : (n : Net) (a b high low l : ℕ) → AreSame a b high low → l ≡ 2 * (variables n + 1) → MakesAnd n (record n { gates = n.gates ++ record { rhs0 = high; rhs1 = low } ∷ [] }) a b l
MakesAnd-gate n a b high low l same is =
    record {
      grows = record { inputs = refl; latches = refl; gates = (record { rhs0 = high; rhs1 = low } ∷ [], refl, omega arith) };
      defined = omega (arith, length-append n.gates (record { rhs0 = high; rhs1 = low } ∷ []));
      means = λ v s. rw is (literal_value-new n (record { rhs0 = high; rhs1 = low }) v s) ∙ and-same v a b high low same;
    }

-- and so it is in a circuit
pub MakesAnd-push : (c : Circuit) (a b high low l : ℕ) → AreSame a b high low → l ≡ 2 * (variables (net c) + 1) → MakesAnd (net c) (net (with_gate c high low)) a b l
MakesAnd-push c a b high low l same is = MakesAnd-gate (net c) a b high low l same is

-- literals that stand, made with no gate
pub MakesWord-standing : (n : Net) (a : List ℕ) → All (IsDefined n) a → MakesWord n n 0 (length a) (λ v. word_value v a) a
MakesWord-standing n a defined = record { grows = Grows-refl n 0; wide = refl; defined = defined; means = λ v s. refl }

-- negated literals read as the negated word
pub word_value-negation : (v : Valuation) (ls : List ℕ) → word_value v (map negation ls) ≡ 2 ^ length ls - 1 - word_value v ls
word_value-negation v ls = ap word (negated ls) ∙ word-map_not (map (literal_value v) ls) ∙ ap (λ k. 2 ^ k - 1 - word_value v ls) (length-map ls (literal_value v))
  where
    negated : (ls : List ℕ) → map (literal_value v) (map negation ls) ≡ map not (map (literal_value v) ls)
    negated [] = refl
    negated (l ∷ ls) = rw (literal_value-negation v l, negated ls) refl

-- the literals of a word negated are those of the negated word
pub MakesWord-negated : (old new : Net) (most wide : ℕ) (f : Valuation → ℕ) (a bits : List ℕ) → bits ≡ map negation a → MakesWord old new most wide f a → MakesWord old new most wide (λ v. 2 ^ wide - 1 - f v) bits
MakesWord-negated old new most wide f a bits is m =
    rw is (record {
      grows = m.grows;
      wide = length-map a negation ∙ m.wide;
      defined = All-map (IsDefined new) negation a (All-weaker (IsDefined new) (λ l. IsDefined new (negation l)) (IsDefined-negation new) a m.defined);
      means = λ v s. word_value-negation v a ∙ ap (λ k. 2 ^ k - 1 - word_value v a) m.wide ∙ ap (λ w. 2 ^ wide - 1 - w) (m.means v s);
    })

-- negated literals are those of the negated word
pub MakesWord-not : (n : Net) (a bits : List ℕ) → All (IsDefined n) a → bits ≡ map negation a → MakesWord n n 0 (length a) (λ v. 2 ^ length a - 1 - word_value v a) bits
MakesWord-not n a bits defined is = MakesWord-negated n n 0 (length a) (λ v. word_value v a) a bits is (MakesWord-standing n a defined)

too_many : (n : ℕ) → cond (nat_le greatest_count n) (Some TooBig) None ≡ Some TooBig → greatest_count < n + 1
too_many n e = grind (arith, nat_tests)

second : (p : Bool) (r : Option CircuitFault) (P : Type 0) → (r ≡ Some TooBig → P) → cond p (Some OrderBroken) r ≡ Some TooBig → P
second true r P f e = absurd (cc)
second false r P f e = f e

first : (p : Bool) (r : Option CircuitFault) (P : Type 0) → (r ≡ Some TooBig → P) → cond p (Some LiteralOutOfRange) r ≡ Some TooBig → P
first true r P f e = absurd (cc)
first false r P f e = f e

-- a gate is too much only where its variable would be above the greatest
pub gate_too_big : (c : Circuit) (a b : ℕ) → gate_refusal c a b ≡ Some TooBig → greatest_count < variables (net c) + 1
gate_too_big c a b e =
    let m = variables (net c) in
    first (nat_lt m (variable a)) _ _ (first (nat_lt m (variable b)) _ _ (second (nat_lt a b) _ _ (too_many m))) e
