-- Clauses that are put behind those of a formula, one after the other.
use Rattle.std.proofs.Common.{◌≡◌, ℕ, zero, suc, ◌+◌, ◌-◌, ◌*◌, ◌<◌, ◌≤◌, List, [], ◌∷◌, ◌++◌, length, map, get_or, drop, All, refl, sym, ap, ap₂, subst, ◌∙◌, arith}
use Rattle.std.proofs.lemmas.List.{append_assoc, append-nil, drop_more}
use Rattle.std.proofs.lemmas.List.Elements.{All-nil, All-cons, All-head, All-tail}
use Rattle.aiger.specs.declared.circuit.Gate.{Gate}
use Rattle.aiger.specs.Circuit.{Circuit}
use Rattle.base.specs.Literal.{negation}
use Rattle.drup.specs.Formula.{Formula, IsLiteral}
use Rattle.certificates.specs.Invariants.{AreOver}
use Rattle.certificates.specs.Obligation.{over, gate_clauses, gates_clauses, outside_clause, next_literal, next_clauses, nexts_clauses, rise_variable, fails_clause}
use Rattle.certificates.specs.Made.{AddsClauses}
use Rattle.certificates.proofs.ClauseLemmas.{literals_from, from_more}

-- of all the clauses that are to be put behind those of a formula, these are left
pub record Leaves (old new : Formula) (all rest : List (List ℕ)) : Type 0 where
  pub variables : new.variables ≡ old.variables
  pub clauses : new.clauses ++ rest ≡ old.clauses ++ all
  pub literals : AreOver new.variables rest

pub over_front : (n : ℕ) (xs ys : List (List ℕ)) → AreOver n (xs ++ ys) → AreOver n xs
over_front n [] ys all = All-nil (All (IsLiteral n))
over_front n (x ∷ xs) ys all = All-cons (All (IsLiteral n)) x xs (All-head (All (IsLiteral n)) x (xs ++ ys) all) (over_front n xs ys (All-tail (All (IsLiteral n)) x (xs ++ ys) all))

over_behind : (n : ℕ) (xs ys : List (List ℕ)) → AreOver n (xs ++ ys) → AreOver n ys
over_behind n [] ys all = all
over_behind n (x ∷ xs) ys all = over_behind n xs ys (All-tail (All (IsLiteral n)) x (xs ++ ys) all)

pub leaves_all : (f : Formula) (all : List (List ℕ)) → AreOver f.variables all → Leaves f f all all
leaves_all f all literals = record { variables = refl; clauses = refl; literals = literals }

-- the first of those that are left are over the variables
pub leaves_front : (old new : Formula) (all rest front behind : List (List ℕ)) → rest ≡ front ++ behind → Leaves old new all rest → AreOver new.variables front
leaves_front old new all rest front behind e l = over_front new.variables front behind (subst (AreOver new.variables) e l.literals)

-- once they are put, the others are left
pub leaves_less : (old mid new : Formula) (all rest front behind : List (List ℕ)) → rest ≡ front ++ behind → Leaves old mid all rest → AddsClauses mid new front → Leaves old new all behind
leaves_less old mid new all rest front behind e l adds =
    record {
      variables = adds.variables ∙ l.variables;
      clauses =
          ap (λ (cs : List (List ℕ)). cs ++ behind) adds.clauses ∙ (append_assoc mid.clauses front behind ∙ (ap (λ (cs : List (List ℕ)). mid.clauses ++ cs) (sym e) ∙ l.clauses));
      literals = subst (λ (n : ℕ). AreOver n behind) (sym adds.variables) (over_behind mid.variables front behind (subst (AreOver mid.variables) e l.literals));
    }

-- ---- the clauses of a gate

pub gate_first : (n truth v x : ℕ) (g : Gate) → AreOver n (gate_clauses truth v g) → x ≡ over truth g.rhs0 → All (IsLiteral n) ((2 * v + 1) ∷ x ∷ [])
gate_first n truth v x g all e =
    subst (λ (y : ℕ). All (IsLiteral n) ((2 * v + 1) ∷ y ∷ [])) (sym e)
    (All-head (All (IsLiteral n)) ((2 * v + 1) ∷ over truth g.rhs0 ∷ []) (((2 * v + 1) ∷ over truth g.rhs1 ∷ []) ∷ ((2 * v) ∷ negation (over truth g.rhs0) ∷ negation (over truth g.rhs1) ∷ []) ∷ []) all)

gate_later : (n truth v : ℕ) (g : Gate) → AreOver n (gate_clauses truth v g) → AreOver n (((2 * v + 1) ∷ over truth g.rhs1 ∷ []) ∷ ((2 * v) ∷ negation (over truth g.rhs0) ∷ negation (over truth g.rhs1) ∷ []) ∷ [])
gate_later n truth v g all =
    All-tail (All (IsLiteral n)) ((2 * v + 1) ∷ over truth g.rhs0 ∷ []) (((2 * v + 1) ∷ over truth g.rhs1 ∷ []) ∷ ((2 * v) ∷ negation (over truth g.rhs0) ∷ negation (over truth g.rhs1) ∷ []) ∷ []) all

pub gate_second : (n truth v x : ℕ) (g : Gate) → AreOver n (gate_clauses truth v g) → x ≡ over truth g.rhs1 → All (IsLiteral n) ((2 * v + 1) ∷ x ∷ [])
gate_second n truth v x g all e =
    subst (λ (y : ℕ). All (IsLiteral n) ((2 * v + 1) ∷ y ∷ [])) (sym e)
    (All-head (All (IsLiteral n)) ((2 * v + 1) ∷ over truth g.rhs1 ∷ []) (((2 * v) ∷ negation (over truth g.rhs0) ∷ negation (over truth g.rhs1) ∷ []) ∷ []) (gate_later n truth v g all))

pub gate_third : (n truth v x y : ℕ) (g : Gate) → AreOver n (gate_clauses truth v g) → x ≡ negation (over truth g.rhs0) → y ≡ negation (over truth g.rhs1) → All (IsLiteral n) ((2 * v) ∷ x ∷ y ∷ [])
gate_third n truth v x y g all e f =
    subst (λ (z : ℕ). All (IsLiteral n) ((2 * v) ∷ z ∷ y ∷ [])) (sym e)
    (subst (λ (z : ℕ). All (IsLiteral n) ((2 * v) ∷ negation (over truth g.rhs0) ∷ z ∷ [])) (sym f)
    (All-head (All (IsLiteral n)) ((2 * v) ∷ negation (over truth g.rhs0) ∷ negation (over truth g.rhs1) ∷ []) []
    (All-tail (All (IsLiteral n)) ((2 * v + 1) ∷ over truth g.rhs1 ∷ []) (((2 * v) ∷ negation (over truth g.rhs0) ∷ negation (over truth g.rhs1) ∷ []) ∷ []) (gate_later n truth v g all))))

-- the one clause of some
pub only_clause : (n : ℕ) (clause : List ℕ) → AreOver n (clause ∷ []) → All (IsLiteral n) clause
only_clause n clause all = All-head (All (IsLiteral n)) clause [] all

-- ---- the clauses from a place on

pub drop_end : {A : Type 0} (xs : List A) (k : ℕ) → length xs ≤ k → drop k xs ≡ []
drop_end [] zero h = refl
drop_end [] (suc k) h = refl
drop_end (x ∷ xs) zero h = absurd (omega arith)
drop_end (x ∷ xs) (suc k) h = drop_end xs k (omega arith)

pub gates_at : (truth v w k : ℕ) (gs : List Gate) (g : Gate) → w ≡ v + k → k < length gs → g ≡ get_or gs k g
    → gates_clauses truth (v + k) (drop k gs) ≡ gate_clauses truth w g ++ gates_clauses truth (v + (k + 1)) (drop (k + 1) gs)
gates_at truth v w k gs g e h is =
    let next : suc w ≡ v + (k + 1) = omega arith in
    ap (λ (n : ℕ). gates_clauses truth n (drop k gs)) (sym e)
    ∙ (ap (gates_clauses truth w) (drop_more gs k g h)
    ∙ (ap (λ (x : Gate). gate_clauses truth w x ++ gates_clauses truth (suc w) (drop (k + 1) gs)) (sym is)
    ∙ ap (λ (n : ℕ). gate_clauses truth w g ++ gates_clauses truth n (drop (k + 1) gs)) next))

pub outsides_at : (d : Circuit) (k : ℕ) (cubes : List (List ℕ)) (cube : List ℕ) → k < length cubes → cube ≡ get_or cubes k []
    → map (outside_clause d) (drop k cubes) ≡ (outside_clause d cube ∷ []) ++ map (outside_clause d) (drop (k + 1) cubes)
outsides_at d k cubes cube h is =
    ap (map (outside_clause d)) (drop_more cubes k [] h)
    ∙ ap (λ (c : List ℕ). outside_clause d c ∷ map (outside_clause d) (drop (k + 1) cubes)) (sym is)

pub nexts_at : (d : Circuit) (v w k : ℕ) (cubes : List (List ℕ)) (cube : List ℕ) → w ≡ v + k → k < length cubes → cube ≡ get_or cubes k []
    → nexts_clauses d (v + k) (drop k cubes) ≡ next_clauses d w cube ++ nexts_clauses d (v + (k + 1)) (drop (k + 1) cubes)
nexts_at d v w k cubes cube e h is =
    let next : suc w ≡ v + (k + 1) = omega arith in
    ap (λ (n : ℕ). nexts_clauses d n (drop k cubes)) (sym e)
    ∙ (ap (nexts_clauses d w) (drop_more cubes k [] h)
    ∙ (ap (λ (c : List ℕ). next_clauses d w c ++ nexts_clauses d (suc w) (drop (k + 1) cubes)) (sym is)
    ∙ ap (λ (n : ℕ). next_clauses d w cube ++ nexts_clauses d n (drop (k + 1) cubes)) next))

pub next_at : (d : Circuit) (v k : ℕ) (cube : List ℕ) (x : ℕ) → k < length cube
    → next_clauses d v (drop k cube) ≡ (((2 * v + 1) ∷ next_literal d (get_or cube k x) ∷ []) ∷ []) ++ next_clauses d v (drop (k + 1) cube)
next_at d v k cube x h = ap (next_clauses d v) (drop_more cube k x h)

-- ---- a step of a loop

pub gates_front : (old new : Formula) (all : List (List ℕ)) (truth v w k : ℕ) (gs : List Gate) (g : Gate) → w ≡ v + k → k < length gs → g ≡ get_or gs k g
    → Leaves old new all (gates_clauses truth (v + k) (drop k gs)) → AreOver new.variables (gate_clauses truth w g)
gates_front old new all truth v w k gs g e h is l = leaves_front old new all (gates_clauses truth (v + k) (drop k gs)) (gate_clauses truth w g) (gates_clauses truth (v + (k + 1)) (drop (k + 1) gs)) (gates_at truth v w k gs g e h is) l

pub outsides_front : (old new : Formula) (all : List (List ℕ)) (d : Circuit) (k : ℕ) (cubes : List (List ℕ)) (cube clause : List ℕ) → k < length cubes → cube ≡ get_or cubes k [] → clause ≡ outside_clause d cube
    → Leaves old new all (map (outside_clause d) (drop k cubes)) → All (IsLiteral new.variables) clause
outsides_front old new all d k cubes cube clause h is e l =
    subst (All (IsLiteral new.variables)) (sym e)
    (only_clause new.variables (outside_clause d cube)
    (leaves_front old new all (map (outside_clause d) (drop k cubes)) (outside_clause d cube ∷ []) (map (outside_clause d) (drop (k + 1) cubes)) (outsides_at d k cubes cube h is) l))

pub outsides_less : (old mid new : Formula) (all : List (List ℕ)) (d : Circuit) (k : ℕ) (cubes : List (List ℕ)) (cube clause : List ℕ) → k < length cubes → cube ≡ get_or cubes k [] → clause ≡ outside_clause d cube
    → Leaves old mid all (map (outside_clause d) (drop k cubes)) → AddsClauses mid new (clause ∷ []) → Leaves old new all (map (outside_clause d) (drop (k + 1) cubes))
outsides_less old mid new all d k cubes cube clause h is e l adds =
    leaves_less old mid new all (map (outside_clause d) (drop k cubes)) (outside_clause d cube ∷ []) (map (outside_clause d) (drop (k + 1) cubes)) (outsides_at d k cubes cube h is) l
    (subst (λ (c : List ℕ). AddsClauses mid new (c ∷ [])) e adds)

pub nexts_front : (old new : Formula) (all : List (List ℕ)) (d : Circuit) (v w k : ℕ) (cubes : List (List ℕ)) (cube : List ℕ) → w ≡ v + k → k < length cubes → cube ≡ get_or cubes k []
    → Leaves old new all (nexts_clauses d (v + k) (drop k cubes)) → AreOver new.variables (next_clauses d w cube)
nexts_front old new all d v w k cubes cube e h is l = leaves_front old new all (nexts_clauses d (v + k) (drop k cubes)) (next_clauses d w cube) (nexts_clauses d (v + (k + 1)) (drop (k + 1) cubes)) (nexts_at d v w k cubes cube e h is) l

pub nexts_less : (old mid new : Formula) (all : List (List ℕ)) (d : Circuit) (v w k : ℕ) (cubes : List (List ℕ)) (cube : List ℕ) → w ≡ v + k → k < length cubes → cube ≡ get_or cubes k []
    → Leaves old mid all (nexts_clauses d (v + k) (drop k cubes)) → AddsClauses mid new (next_clauses d w cube) → Leaves old new all (nexts_clauses d (v + (k + 1)) (drop (k + 1) cubes))
nexts_less old mid new all d v w k cubes cube e h is l adds =
    leaves_less old mid new all (nexts_clauses d (v + k) (drop k cubes)) (next_clauses d w cube) (nexts_clauses d (v + (k + 1)) (drop (k + 1) cubes)) (nexts_at d v w k cubes cube e h is) l adds

pub next_front : (old new : Formula) (all : List (List ℕ)) (d : Circuit) (v k : ℕ) (cube : List ℕ) (x r : ℕ) → k < length cube → r ≡ next_literal d (get_or cube k x)
    → Leaves old new all (next_clauses d v (drop k cube)) → All (IsLiteral new.variables) ((2 * v + 1) ∷ r ∷ [])
next_front old new all d v k cube x r h e l =
    subst (λ (y : ℕ). All (IsLiteral new.variables) ((2 * v + 1) ∷ y ∷ [])) (sym e)
    (only_clause new.variables ((2 * v + 1) ∷ next_literal d (get_or cube k x) ∷ [])
    (leaves_front old new all (next_clauses d v (drop k cube)) (((2 * v + 1) ∷ next_literal d (get_or cube k x) ∷ []) ∷ []) (next_clauses d v (drop (k + 1) cube)) (next_at d v k cube x h) l))

pub next_less : (old mid new : Formula) (all : List (List ℕ)) (d : Circuit) (v k : ℕ) (cube : List ℕ) (x r : ℕ) → k < length cube → r ≡ next_literal d (get_or cube k x)
    → Leaves old mid all (next_clauses d v (drop k cube)) → AddsClauses mid new (((2 * v + 1) ∷ r ∷ []) ∷ []) → Leaves old new all (next_clauses d v (drop (k + 1) cube))
next_less old mid new all d v k cube x r h e l adds =
    leaves_less old mid new all (next_clauses d v (drop k cube)) (((2 * v + 1) ∷ next_literal d (get_or cube k x) ∷ []) ∷ []) (next_clauses d v (drop (k + 1) cube)) (next_at d v k cube x h) l
    (subst (λ (y : ℕ). AddsClauses mid new (((2 * v + 1) ∷ y ∷ []) ∷ [])) e adds)

-- a clause is put before the others
pub first_put : (f g : Formula) (clause clause' : List ℕ) (rest : List (List ℕ)) → clause' ≡ clause → AreOver f.variables (clause ∷ rest) → AddsClauses f g (clause' ∷ []) → Leaves f g (clause ∷ rest) rest
first_put f g clause clause' rest e all adds =
    leaves_less f f g (clause ∷ rest) (clause ∷ rest) (clause ∷ []) rest refl (leaves_all f (clause ∷ rest) all) (subst (λ (c : List ℕ). AddsClauses f g (c ∷ [])) e adds)

pub first_clause : (n : ℕ) (clause clause' : List ℕ) (rest : List (List ℕ)) → clause' ≡ clause → AreOver n (clause ∷ rest) → All (IsLiteral n) clause'
first_clause n clause clause' rest e all = subst (All (IsLiteral n)) (sym e) (All-head (All (IsLiteral n)) clause rest all)

-- ---- the literals of a clause that is written

pub written_more : (items items' rest rest' all : List ℕ) (l : ℕ) → items' ≡ items ++ l ∷ [] → rest ≡ l ∷ rest' → items ++ rest ≡ all → items' ++ rest' ≡ all
written_more items items' rest rest' all l e f h =
    ap (λ (xs : List ℕ). xs ++ rest') e ∙ (append_assoc items (l ∷ []) rest' ∙ (ap (λ (xs : List ℕ). items ++ xs) (sym f) ∙ h))

pub written_none : (items rest all : List ℕ) → rest ≡ [] → items ++ rest ≡ all → items ≡ all
written_none items rest all e h = sym (append-nil items) ∙ (ap (λ (xs : List ℕ). items ++ xs) (sym e) ∙ h)

pub literals_at : (first k count : ℕ) → k < count → literals_from (first + k) (count - k) ≡ (2 * (first + k)) ∷ literals_from (first + (k + 1)) (count - (k + 1))
literals_at first k count h =
    let more : count - k ≡ suc (count - (k + 1)) = omega arith in
    let next : suc (first + k) ≡ first + (k + 1) = omega arith in
    ap (literals_from (first + k)) more
    ∙ (from_more (first + k) (count - (k + 1)) ∙ ap (λ (n : ℕ). (2 * (first + k)) ∷ literals_from n (count - (k + 1))) next)

pub no_literals : (first k count : ℕ) → count ≤ k → literals_from (first + k) (count - k) ≡ []
no_literals first k count h = let none : count - k ≡ 0 = omega arith in ap (literals_from (first + k)) none

-- the last clause, as the variables from that of the bad property on
pub fails_is : (d : Circuit) (count rise n : ℕ) → rise ≡ rise_variable d → n ≡ count + 1 → literals_from rise n ≡ fails_clause d count
fails_is d count rise n e f =
    let more : n ≡ suc count = omega arith in
    ap₂ literals_from e more ∙ from_more (rise_variable d) count
