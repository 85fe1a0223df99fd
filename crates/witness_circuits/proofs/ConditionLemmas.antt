-- What the literals of conditions say, by what the literals of variables stand for.
use Rattle.std.proofs.Common.{◌≡◌, ℕ, zero, suc, ◌+◌, ◌<◌, Bool, false, not, ◌&&◌, ◌||◌, List, [], ◌∷◌, length, map, get_or, unwrap_or, All, Option, refl, sym, ap, ap₂, ◌∙◌, arith}
use Rattle.std.specs.Prelude.{slice_get}
use Rattle.std.specs.List.{list_all}
use Rattle.std.proofs.lemmas.List.Elements.{All-weaker}
use Rattle.aiger.specs.declared.circuit.Latch.{Latch}
use Rattle.base.specs.Literal.{Valuation, variable, negation, literal_value}
use Rattle.aiger.specs.Net.{Net, IsDefined}
use Rattle.aiger.specs.Circuit.{Circuit, net}
use Rattle.base.proofs.LiteralLemmas.{literal_value-negation}
use Rattle.gates.specs.Made.{Grows, MakesAnd, MakesLiteral}
use Rattle.gates.specs.Reads.{read, literal_in}
use Rattle.gates.proofs.GrowthLemmas.{Grows-trans, Satisfies-earlier, All-defined-grown}
use Rattle.gates.proofs.LiteralLemmas.{MakesLiteral-and, MakesLiteral-same, MakesLiteral-then, MakesLiteral-join}
use Rattle.gates.proofs.TableLemmas.{value-literal_of}
use Rattle.witness_circuits.specs.Certificate.{constraints_hold, bad_rises, property_candidates, property_fails}
use Rattle.witness_circuits.specs.Tests.{claim_holds}
use Rattle.witness_circuits.specs.Made.{own_initial, values, fails_by, StandFor}

-- literals that stand for variables do so over more gates
pub StandFor-grown : (c : Circuit) (old new : Net) (most : ℕ) (table : List ℕ) → Grows old new most → StandFor c old table → StandFor c new table
StandFor-grown c old new most table grows s = record { zero_is = s.zero_is; many = s.many; defined = All-defined-grown old new most grows table s.defined }

all_read : (table : List ℕ) (v : Valuation) (ls : List ℕ) → get_or table 0 0 ≡ 0 → list_all (λ l. literal_value v (literal_in table l)) ls ≡ list_all (literal_value (read table v)) ls
all_read table v [] z = refl
all_read table v (l ∷ ls) z = ap₂ ◌&&◌ (value-literal_of table v l z) (all_read table v ls z)

-- that all constraints hold
pub constraints_read : (c : Circuit) (old new n : Net) (table ls : List ℕ) (l : ℕ) → ls ≡ c.constraints → StandFor c n table
    → MakesLiteral old new (length ls) (λ v. literal_value v 1 && list_all (λ x. literal_value v (literal_in table x)) ls) l
    → MakesLiteral old new (length c.constraints) (λ v. constraints_hold c (read table v)) l
constraints_read c old new n table ls l is s made =
    MakesLiteral-same old new (length ls) (length c.constraints) l (λ v. literal_value v 1 && list_all (λ x. literal_value v (literal_in table x)) ls) (λ v. constraints_hold c (read table v)) (let e = ap length is in omega arith)
    (λ v. all_read table v ls s.zero_is ∙ ap (λ (xs : List ℕ). list_all (literal_value (read table v)) xs) is) made

first_of : (f : ℕ → Bool) (ls : List ℕ) → 0 < length ls → unwrap_or (slice_get (map f ls) 0) false ≡ f (get_or ls 0 0)
first_of f [] h = absurd (omega arith)
first_of f (l ∷ ls) h = refl

-- the property of a witness circuit
pub property_read : (w : Circuit) (n : Net) (table : List ℕ) (v : Valuation) → 0 < length (property_candidates w) → StandFor w n table
    → literal_value v (literal_in table (get_or (property_candidates w) 0 0)) ≡ property_fails w (read table v)
property_read w n table v some s = value-literal_of table v (get_or (property_candidates w) 0 0) s.zero_is ∙ sym (first_of (literal_value (read table v)) (property_candidates w) some)

-- what it claims
pub claim_read : (w : Circuit) (old mid new n : Net) (table : List ℕ) (met property other l : ℕ) → 0 < length (property_candidates w) → StandFor w n table
    → property ≡ literal_in table (get_or (property_candidates w) 0 0) → other ≡ negation property
    → MakesLiteral old mid (length w.constraints) (λ v. constraints_hold w (read table v)) met → MakesAnd mid new met other l
    → MakesLiteral old new (length w.constraints + 1) (λ v. claim_holds w (read table v)) l
claim_read w old mid new n table met property other l some s is turned first second =
    MakesLiteral-same old new (length w.constraints + 1) (length w.constraints + 1) l (λ v. constraints_hold w (read table v) && literal_value v other) (λ v. claim_holds w (read table v)) (omega arith)
    (λ v.
    ap (λ (b : Bool). constraints_hold w (read table v) && b)
    (ap (literal_value v) turned ∙ (literal_value-negation v property ∙ ap not (ap (literal_value v) is ∙ property_read w n table v some s))))
    (MakesLiteral-then old mid new (length w.constraints) 1 met l (λ v. constraints_hold w (read table v)) (λ v b. b && literal_value v other) first (MakesLiteral-and mid new met other l second))

number_at : (f : ℕ → Bool) (ls : List ℕ) (k d : ℕ) → k < length ls → unwrap_or (slice_get (map f ls) k) false ≡ f (get_or ls k d)
number_at f [] k d h = absurd (omega arith)
number_at f (l ∷ ls) zero d h = refl
number_at f (l ∷ ls) (suc k) d h = number_at f ls k d (omega arith)

-- the bad property with a number
pub bad_read : (c : Circuit) (n : Net) (table bads : List ℕ) (v : Valuation) (k x : ℕ) → bads ≡ c.bads → x ≡ get_or bads k x → k < length c.bads → StandFor c n table
    → literal_value v (literal_in table x) ≡ bad_rises c k (read table v)
bad_read c n table bads v k x is at inside s =
    ap (λ (l : ℕ). literal_value v (literal_in table l)) (at ∙ ap (λ (xs : List ℕ). get_or xs k x) is)
    ∙ (value-literal_of table v (get_or c.bads k x) s.zero_is ∙ sym (number_at (literal_value (read table v)) c.bads k x inside))

-- that a condition fails, from seven gates
pub fails_made : (n0 n1 n2 n3 n4 n5 n6 n7 : Net) (met begin holds next_met next_holds bad holds_not next_not a b d e f h l : ℕ)
    → holds_not ≡ negation holds → next_not ≡ negation next_holds
    → MakesAnd n0 n1 begin holds_not a → MakesAnd n1 n2 next_met next_not b → MakesAnd n2 n3 holds b d → MakesAnd n3 n4 holds bad e
    → MakesLiteral n4 n5 1 (λ v. literal_value v d || literal_value v e) f → MakesLiteral n5 n6 1 (λ v. literal_value v a || literal_value v f) h → MakesAnd n6 n7 met h l
    → MakesLiteral n0 n7 7 (λ v. fails_by (literal_value v met) (literal_value v begin) (literal_value v holds) (literal_value v next_met) (literal_value v next_holds) (literal_value v bad)) l
fails_made n0 n1 n2 n3 n4 n5 n6 n7 met begin holds next_met next_holds bad holds_not next_not a b d e f h l is is_next ma mb md me mf mh ml =
    let first : MakesLiteral n0 n1 1 (λ v. literal_value v begin && not (literal_value v holds)) a =
    MakesLiteral-same n0 n1 1 1 a (λ v. literal_value v begin && literal_value v holds_not) (λ v. literal_value v begin && not (literal_value v holds)) (omega arith)
    (λ v. ap (λ (x : Bool). literal_value v begin && x) (ap (literal_value v) is ∙ literal_value-negation v holds)) (MakesLiteral-and n0 n1 begin holds_not a ma) in
    let behind : MakesLiteral n1 n2 1 (λ v. literal_value v next_met && not (literal_value v next_holds)) b =
    MakesLiteral-same n1 n2 1 1 b (λ v. literal_value v next_met && literal_value v next_not) (λ v. literal_value v next_met && not (literal_value v next_holds)) (omega arith)
    (λ v. ap (λ (x : Bool). literal_value v next_met && x) (ap (literal_value v) is_next ∙ literal_value-negation v next_holds)) (MakesLiteral-and n1 n2 next_met next_not b mb) in
    let second : MakesLiteral n1 n3 2 (λ v. literal_value v holds && (literal_value v next_met && not (literal_value v next_holds))) d =
    MakesLiteral-then n1 n2 n3 1 1 b d (λ v. literal_value v next_met && not (literal_value v next_holds)) (λ v x. literal_value v holds && x) behind (MakesLiteral-and n2 n3 holds b d md) in
    let third : MakesLiteral n3 n4 1 (λ v. literal_value v holds && literal_value v bad) e = MakesLiteral-and n3 n4 holds bad e me in
    let later : MakesLiteral n1 n5 4 (λ v. (literal_value v holds && (literal_value v next_met && not (literal_value v next_holds))) || (literal_value v holds && literal_value v bad)) f =
    MakesLiteral-join n1 n3 n4 n5 2 1 1 d e f (λ v. literal_value v holds && (literal_value v next_met && not (literal_value v next_holds))) (λ v. literal_value v holds && literal_value v bad) (λ (x y : Bool). x || y) second third mf in
    let any : MakesLiteral n0 n6 6 (λ v. (literal_value v begin && not (literal_value v holds)) || ((literal_value v holds && (literal_value v next_met && not (literal_value v next_holds))) || (literal_value v holds && literal_value v bad))) h =
    MakesLiteral-join n0 n1 n5 n6 1 4 1 a f h (λ v. literal_value v begin && not (literal_value v holds))
    (λ v. (literal_value v holds && (literal_value v next_met && not (literal_value v next_holds))) || (literal_value v holds && literal_value v bad)) (λ (x y : Bool). x || y) first later mh in
    MakesLiteral-then n0 n6 n7 6 1 h l
    (λ v. (literal_value v begin && not (literal_value v holds)) || ((literal_value v holds && (literal_value v next_met && not (literal_value v next_holds))) || (literal_value v holds && literal_value v bad)))
    (λ v x. literal_value v met && x) any (MakesLiteral-and n6 n7 met h l ml)

-- that both circuits begin
pub both_begin_made : (c w : Circuit) (old mid new : Net) (ms stands : List (Option ℕ)) (ls own_ls : List Latch) (bits own : List ℕ) (begun l : ℕ) → ls ≡ c.latches → own_ls ≡ w.latches → stands ≡ ms
    → MakesLiteral old mid (length ls) (λ v. literal_value v 1 && own_initial [] ls (values v bits)) begun
    → MakesLiteral mid new (length own_ls) (λ v. literal_value v begun && own_initial stands own_ls (values v own)) l
    → MakesLiteral old new (length c.latches + length w.latches) (λ v. own_initial [] c.latches (values v bits) && own_initial ms w.latches (values v own)) l
both_begin_made c w old mid new ms stands ls own_ls bits own begun l is own_is stands_is first second =
    MakesLiteral-same old new (length ls + length own_ls) (length c.latches + length w.latches) l
    (λ v. own_initial [] ls (values v bits) && own_initial stands own_ls (values v own)) (λ v. own_initial [] c.latches (values v bits) && own_initial ms w.latches (values v own))
    (let e = ap length is in let f = ap length own_is in omega arith)
    (λ v.
    ap₂ (λ (xs ys : List Latch). own_initial [] xs (values v bits) && own_initial stands ys (values v own)) is own_is
    ∙ ap (λ (zs : List (Option ℕ)). own_initial [] c.latches (values v bits) && own_initial zs w.latches (values v own)) stands_is)
    (MakesLiteral-then old mid new (length ls) (length own_ls) begun l (λ v. literal_value v 1 && own_initial [] ls (values v bits)) (λ v b. b && own_initial stands own_ls (values v own)) first second)

-- six gates before a seventh
pub six_grown : (n0 n1 n2 n3 n4 n5 n6 : Net) → Grows n0 n1 1 → Grows n1 n2 1 → Grows n2 n3 1 → Grows n3 n4 1 → Grows n4 n5 1 → Grows n5 n6 1 → Grows n0 n6 6
six_grown n0 n1 n2 n3 n4 n5 n6 a b c d e f =
    Grows-trans n0 n5 n6 5 1 (Grows-trans n0 n4 n5 4 1 (Grows-trans n0 n3 n4 3 1 (Grows-trans n0 n2 n3 2 1 (Grows-trans n0 n1 n2 1 1 a b) c) d) e) f

-- five literals, and one of them and a sixth
module _ (m0 m1 m2 m3 m4 m5 : Net) (n1 n2 n3 n4 n5 : ℕ) (f1 f2 f3 f4 f5 : Valuation → Bool) (met begin holds next_met next_holds : ℕ)
    (first : MakesLiteral m0 m1 n1 f1 met) (second : MakesLiteral m1 m2 n2 f2 begin) (third : MakesLiteral m2 m3 n3 f3 holds) (fourth : MakesLiteral m3 m4 n4 f4 next_met) (fifth : MakesLiteral m4 m5 n5 f5 next_holds) where
  pub five_grown : Grows m0 m5 (n1 + n2 + n3 + n4 + n5)
  five_grown =
      Grows-trans m0 m4 m5 (n1 + n2 + n3 + n4) n5
      (Grows-trans m0 m3 m4 (n1 + n2 + n3) n4 (Grows-trans m0 m2 m3 (n1 + n2) n3 (Grows-trans m0 m1 m2 n1 n2 first.grows second.grows) third.grows) fourth.grows) fifth.grows

  pub condition_made : (m6 : Net) (bad l : ℕ)
      → MakesLiteral m5 m6 7 (λ v. fails_by (literal_value v met) (literal_value v begin) (literal_value v holds) (literal_value v next_met) (literal_value v next_holds) (literal_value v bad)) l
      → MakesLiteral m0 m6 (n1 + n2 + n3 + n4 + n5 + 7) (λ v. fails_by (f1 v) (f2 v) (f3 v) (f4 v) (f5 v) (literal_value v bad)) l
  condition_made m6 bad l last =
      record {
        grows = Grows-trans m0 m5 m6 (n1 + n2 + n3 + n4 + n5) 7 five_grown last.grows;
        defined = last.defined;
        means = λ v s6.
            let s5 = Satisfies-earlier m5 m6 7 last.grows v s6 in
            let s4 = Satisfies-earlier m4 m5 n5 fifth.grows v s5 in
            let s3 = Satisfies-earlier m3 m4 n4 fourth.grows v s4 in
            let s2 = Satisfies-earlier m2 m3 n3 third.grows v s3 in
            let s1 = Satisfies-earlier m1 m2 n2 second.grows v s2 in
            last.means v s6
            ∙ (ap₂ (λ (a b : Bool). fails_by a b (literal_value v holds) (literal_value v next_met) (literal_value v next_holds) (literal_value v bad)) (first.means v s1) (second.means v s2)
            ∙ (ap₂ (λ (a b : Bool). fails_by (f1 v) (f2 v) a b (literal_value v next_holds) (literal_value v bad)) (third.means v s3) (fourth.means v s4)
            ∙ ap (λ (a : Bool). fails_by (f1 v) (f2 v) (f3 v) (f4 v) a (literal_value v bad)) (fifth.means v s5)));
      }
