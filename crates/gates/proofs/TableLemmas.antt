-- Literals that stand for a circuit's, made one after the other.
use Rattle.std.proofs.Common.{◌≡◌, ℕ, zero, suc, ◌+◌, ◌*◌, ◌/◌, ◌%◌, ◌==◌, ◌<◌, ◌≤◌, Bool, true, false, ◌&&◌, List, [], ◌∷◌, ◌++◌, length, map, take, get_or, All, refl, sym, ap, ap₂, subst, ◌∙◌, length-append, append_assoc, arith}
use Rattle.std.specs.Prelude.{if◌then◌else◌}
use Rattle.std.specs.List.{list_all, range_with_len}
use Rattle.std.proofs.Math.Bool.{and_assoc}
use Rattle.std.proofs.lemmas.Bool.Decides.{nat_tests}
use Rattle.std.proofs.lemmas.List.{take_more, length-take-le, get_or_append_left}
use Rattle.std.proofs.Math.Seq.{get_or-append_seam}
use Rattle.std.proofs.lemmas.List.Folds.{list_all_more}
use Rattle.std.proofs.lemmas.List.Elements.{All-get_or, All-nil, All-cons, All-append}
use Rattle.aiger.specs.declared.circuit.Gate.{Gate}
use Rattle.base.specs.Literal.{Valuation, variable, negation, literal_value}
use Rattle.aiger.specs.Net.{Net, variables, IsDefined, SatisfiesFrom, AreOrderedFrom, bits_from}
use Rattle.base.proofs.LiteralLemmas.{literal_value-negation}
use Rattle.aiger.proofs.NetLemmas.{IsDefined-negation, SatisfiesFrom-join}
use Rattle.aiger.proofs.TraceLemmas.{AgreeBelow, literal_value-agree}
use Rattle.gates.specs.Made.{Grows, MakesAnd, MakesLiteral}
use Rattle.gates.specs.Reads.{read, literal_in, GatesRead}
use Rattle.gates.proofs.GrowthLemmas.{Grows-trans, Grows-weaker, Satisfies-earlier, All-defined-grown}
use Rattle.gates.proofs.LiteralLemmas.{MakesLiteral-and, MakesLiteral-then, MakesLiteral-same}

-- a literal that stands for one is defined
pub IsDefined-literal_of : (n : Net) (table : List ℕ) (l : ℕ) → variable l < length table → All (IsDefined n) table → IsDefined n (literal_in table l)
IsDefined-literal_of n table l inside all = by (l % 2 == 0)
  where
    own : IsDefined n (get_or table (variable l) 0)
    own = All-get_or (IsDefined n) table (variable l) 0 inside all

    by : (b : Bool) → IsDefined n (if b then get_or table (variable l) 0 else negation (get_or table (variable l) 0))
    by true = own
    by false = IsDefined-negation n (get_or table (variable l) 0) own

-- and says in a valuation what the literal says in the valuation of the circuit
pub value-literal_of : (table : List ℕ) (w : Valuation) (l : ℕ) → get_or table 0 0 ≡ 0 → literal_value w (literal_in table l) ≡ literal_value (read table w) l
value-literal_of table w zero z = ap (literal_value w) z
value-literal_of table w (suc zero) z = ap (λ (k : ℕ). literal_value w (negation k)) z
value-literal_of table w (suc (suc l)) z =
    let n = literal_value-negation w (get_or table (suc (suc l) / 2) 0) in
    grind (arith, nat_tests)

-- one constraint more
pub hold-more : (old mid new : Net) (table ls : List ℕ) (met i x l lit m : ℕ) → i < length ls → x ≡ get_or ls i x → lit ≡ literal_in table x
    → MakesLiteral old mid i (λ v. literal_value v met && list_all (λ y. literal_value v (literal_in table y)) (take i ls)) l → MakesAnd mid new l lit m
    → MakesLiteral old new (i + 1) (λ v. literal_value v met && list_all (λ y. literal_value v (literal_in table y)) (take (i + 1) ls)) m
hold-more old mid new table ls met i x l lit m inside at is before made =
    MakesLiteral-same old new (i + 1) (i + 1) m _ (λ v. literal_value v met && list_all (λ y. literal_value v (literal_in table y)) (take (i + 1) ls)) (omega arith)
    (λ v.
    and_assoc (literal_value v met) (list_all (λ y. literal_value v (literal_in table y)) (take i ls)) (literal_value v lit)
    ∙ ap (λ b. literal_value v met && b)
    (ap (λ (k : ℕ). list_all (λ y. literal_value v (literal_in table y)) (take i ls) && literal_value v k) (is ∙ ap (literal_in table) at)
    ∙ sym (list_all_more (λ y. literal_value v (literal_in table y)) ls i x inside)))
    (MakesLiteral-then old mid new i 1 l m (λ v. literal_value v met && list_all (λ y. literal_value v (literal_in table y)) (take i ls)) (λ v b. b && literal_value v lit) before (MakesLiteral-and mid new l lit m made))

-- what satisfies gates up to a variable does so whatever is above it
pub satisfied-agree : (first : ℕ) (gs : List Gate) (v w : Valuation) → 1 ≤ first → AreOrderedFrom first gs → AgreeBelow (first + length gs) v w → SatisfiesFrom first gs v → SatisfiesFrom first gs w
satisfied-agree first [] v w one o a s = tt
satisfied-agree first (g ∷ gs) v w one o a s =
    let below : AgreeBelow first v w = λ k low high. a k low (omega arith) in
    let l : literal_value v g.rhs0 ≡ literal_value w g.rhs0 = literal_value-agree first v w g.rhs0 below o.0 in
    let r : literal_value v g.rhs1 ≡ literal_value w g.rhs1 = literal_value-agree first v w g.rhs1 below (omega (arith, o.0, o.1)) in
    let h : v first ≡ w first = a first one (omega arith) in
    (sym h ∙ (s.0 ∙ ap₂ ◌&&◌ l r), satisfied-agree (suc first) gs v w (omega arith) o.2 (λ k low high. a k low (omega arith)) s.1)

-- the first gates of some are in order, and each has its operands below it
ordered-take : (first i : ℕ) (gs : List Gate) → AreOrderedFrom first gs → AreOrderedFrom first (take i gs)
ordered-take first zero gs o = tt
ordered-take first (suc i) [] o = tt
ordered-take first (suc i) (g ∷ gs) o = (o.0, o.1, ordered-take (suc first) i gs o.2)

pub ordered-at : (first i : ℕ) (gs : List Gate) (d : Gate) → i < length gs → AreOrderedFrom first gs → ((get_or gs i d).rhs0 < 2 * (first + i)) × ((get_or gs i d).rhs1 ≤ (get_or gs i d).rhs0)
ordered-at first i [] d h o = absurd (omega arith)
ordered-at first zero (g ∷ gs) d h o = (omega (arith, o.0), o.1)
ordered-at first (suc i) (g ∷ gs) d h o =
    let rest = ordered-at (suc first) i gs d (omega arith) o.2 in
    (omega (arith, rest.0), rest.1)

-- one gate more
pub gates-more : (old mid new : Net) (gs : List Gate) (before more : List ℕ) (i : ℕ) (g : Gate) (a b m : ℕ)
    → AreOrderedFrom (length before) gs → 0 < length before → get_or before 0 0 ≡ 0 → i < length gs → g ≡ get_or gs i g
    → a ≡ literal_in (before ++ more) g.rhs0 → b ≡ literal_in (before ++ more) g.rhs1
    → GatesRead old mid (length before) (take i gs) before more → MakesAnd mid new a b m
    → GatesRead old new (length before) (take (i + 1) gs) before (more ++ m ∷ [])
gates-more old mid new gs before more i g a b m ordered some zeroed inside at is_a is_b done made =
    let first : ℕ = length before in
    let longer : take (i + 1) gs ≡ take i gs ++ g ∷ [] = take_more gs i g inside ∙ ap (λ (y : Gate). take i gs ++ y ∷ []) (sym at) in
    let so_far : length (take i gs) ≡ i = length-take-le i gs (omega arith) in
    let many : length more ≡ i = done.many ∙ so_far in
    let whole : length (before ++ more) ≡ first + i = (let e = length-append before more in omega arith) in
    let above = ordered-at first i gs g inside ordered in
    let above0 : g.rhs0 < 2 * (first + i) = subst (λ (x : Gate). x.rhs0 < 2 * (first + i)) (sym at) above.0 in
    let above1 : g.rhs1 < 2 * (first + i) = (let e : g.rhs1 ≤ g.rhs0 = subst (λ (x : Gate). x.rhs1 ≤ x.rhs0) (sym at) above.1 in omega arith) in
    let zero_there : get_or (before ++ more) 0 0 ≡ 0 = get_or_append_left before more 0 0 some ∙ zeroed in
    subst (λ (xs : List Gate). GatesRead old new first xs before (more ++ m ∷ [])) (sym longer)
    (record {
      grows = Grows-weaker old new (length (take i gs) + 1) (length (take i gs ++ g ∷ [])) (omega (arith, length-append (take i gs) (g ∷ []))) (Grows-trans old mid new _ 1 done.grows made.grows);
      defined = All-append (IsDefined new) more (m ∷ []) (All-defined-grown mid new 1 made.grows more done.defined) (All-cons (IsDefined new) m [] made.defined (All-nil (IsDefined new)));
      many = length-append more (m ∷ []) ∙ ap (λ (k : ℕ). k + 1) done.many ∙ sym (length-append (take i gs) (g ∷ []));
      satisfied = λ w s.
          let old_read : Valuation = read (before ++ more) w in
          let new_read : Valuation = read (before ++ (more ++ m ∷ [])) w in
          let again : (before ++ more) ++ m ∷ [] ≡ before ++ (more ++ m ∷ []) = append_assoc before more (m ∷ []) in
          let agree : AgreeBelow (first + i) old_read new_read = λ k low high.
          ap (literal_value w) (sym (get_or_append_left (before ++ more) (m ∷ []) 0 k (omega arith)) ∙ ap (λ (xs : List ℕ). get_or xs k 0) again) in
          let front : SatisfiesFrom first (take i gs) new_read = satisfied-agree first (take i gs) old_read new_read some (ordered-take first i gs ordered) (subst (λ (n : ℕ). AgreeBelow (first + n) old_read new_read) (sym so_far) agree) (done.satisfied w (Satisfies-earlier mid new 1 made.grows w s)) in
          let left : literal_value w a ≡ literal_value new_read g.rhs0 = ap (literal_value w) is_a ∙ value-literal_of (before ++ more) w g.rhs0 zero_there ∙ literal_value-agree (first + i) old_read new_read g.rhs0 agree above0 in
          let right : literal_value w b ≡ literal_value new_read g.rhs1 = ap (literal_value w) is_b ∙ value-literal_of (before ++ more) w g.rhs1 zero_there ∙ literal_value-agree (first + i) old_read new_read g.rhs1 agree above1 in
          let here : new_read (first + length (take i gs)) ≡ literal_value w m =
          ap (λ (k : ℕ). literal_value w (get_or (before ++ (more ++ m ∷ [])) k 0)) (ap (λ (k : ℕ). first + k) so_far ∙ sym whole)
          ∙ ap (literal_value w) (ap (λ (xs : List ℕ). get_or xs (length (before ++ more)) 0) (sym again) ∙ get_or-append_seam (before ++ more) m [] 0) in
          SatisfiesFrom-join first (take i gs) (g ∷ []) new_read front (here ∙ made.means w s ∙ ap₂ ◌&&◌ left right, tt);
    })

-- the operands of the next gate have literals
pub gates-inside : (old mid : Net) (gs : List Gate) (before more table : List ℕ) (i : ℕ) (g : Gate) → AreOrderedFrom (length before) gs → i < length gs → g ≡ get_or gs i g → table ≡ before ++ more
    → GatesRead old mid (length before) (take i gs) before more → (variable g.rhs0 < length table) × (variable g.rhs1 < length table)
gates-inside old mid gs before more table i g ordered inside at is done =
    let so_far : length (take i gs) ≡ i = length-take-le i gs (omega arith) in
    let whole : length table ≡ length before + i = ap length is ∙ length-append before more ∙ ap (λ (k : ℕ). length before + k) (done.many ∙ so_far) in
    let above = ordered-at (length before) i gs g inside ordered in
    let above0 : g.rhs0 < 2 * (length before + i) = subst (λ (x : Gate). x.rhs0 < 2 * (length before + i)) (sym at) above.0 in
    let above1 : g.rhs1 ≤ g.rhs0 = subst (λ (x : Gate). x.rhs1 ≤ x.rhs0) (sym at) above.1 in
    (omega arith, omega arith)

-- literals that were defined, and those behind them
pub both_defined : (old mid : Net) (most : ℕ) (before more table : List ℕ) → Grows old mid most → All (IsDefined old) before → All (IsDefined mid) more → table ≡ before ++ more → All (IsDefined mid) table
both_defined old mid most before more table grows first rest is = subst (All (IsDefined mid)) (sym is) (All-append (IsDefined mid) before more (All-defined-grown old mid most grows before first) rest)

-- the literals of variables that are there are defined
pub doubles_defined : (n : Net) (a m : ℕ) → a + m ≤ suc (variables n) → All (IsDefined n) (map (λ k. 2 * k) (range_with_len a m))
doubles_defined n a zero h = All-nil (IsDefined n)
doubles_defined n a (suc m) h = All-cons (IsDefined n) (2 * a) (map (λ k. 2 * k) (range_with_len (a + 1) m)) (omega arith) (doubles_defined n (a + 1) m (omega arith))

-- literals between others, and what they say of the variables that they stand for
pub read_middle : (xs ys zs : List ℕ) (w : Valuation) → bits_from (length xs) (length ys) (read (xs ++ (ys ++ zs)) w) ≡ map (literal_value w) ys
read_middle xs [] zs w = refl
read_middle xs (y ∷ ys) zs w =
    let again : (xs ++ y ∷ []) ++ (ys ++ zs) ≡ xs ++ (y ∷ ys ++ zs) = append_assoc xs (y ∷ []) (ys ++ zs) in
    let next : length (xs ++ y ∷ []) ≡ suc (length xs) = (let e = length-append xs (y ∷ []) in omega arith) in
    ap₂ ◌∷◌ (ap (literal_value w) (get_or-append_seam xs y (ys ++ zs) 0))
    (ap₂ (λ (l : List ℕ) (k : ℕ). bits_from k (length ys) (read l w)) (sym again) (sym next) ∙ read_middle (xs ++ y ∷ []) ys zs w)
