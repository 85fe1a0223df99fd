-- Gates that are made once: what a new one keeps, and what a folded one says.
use Rattle.std.proofs.Common.{◌≡◌, ℕ, zero, suc, ◌+◌, ◌*◌, ◌<◌, ◌≤◌, Bool, true, false, not, ◌&&◌, ◌||◌, ◌==◌, List, [], ◌∷◌, ◌++◌, length, get_or, max, min, position, Option, None, Some, inl, inr, ⊎_elim, refl, sym, ◌∙◌, ap, arith, rules, true≢false, Result, Ok, Err, IfOk, OnErr, if◌then◌else◌}
use Rattle.std.proofs.lemmas.Bool.{cases_lt}
use Rattle.std.proofs.lemmas.Bool.Decides.{nat_tests}
use Rattle.std.proofs.lemmas.List.Elements.{All-push}
use Rattle.std.proofs.lemmas.List.Quantifiers.{all_pairs_push, position-Some}
use Rattle.std.proofs.lemmas.Result.{IfOk-weaker}
use Rattle.std.proofs.lemmas.List.Sums.{fails_before_first}
use Rattle.aiger.specs.declared.circuit.Gate.{Gate}
use Rattle.aiger.specs.Circuit.{Circuit, net}
use Rattle.base.specs.Literal.{Valuation, negation, literal_value}
use Rattle.aiger.specs.Net.{Net, variables, IsDefined, SatisfiesFrom}
use Rattle.base.proofs.LiteralLemmas.{literal_value-even, literal_value-negation}
use Rattle.gates.specs.Made.{AreSame, MakesAnd, gates_only}
use Rattle.gates.proofs.GrowthLemmas.{Grows-refl, and-same, MakesAnd-gate}
use Rattle.gates.specs.Shared.{folded_and, gate_of, is_gate_of, gate_literal, IsNeeded, AreShared}

-- where there is no first place that passes, none passes
pub none_passes : {X : Type 0} (p : X → Bool) (xs : List X) → position p xs ≡ None → (k : ℕ) (d : X) → k < length xs → p (get_or xs k d) ≡ false
none_passes p xs none k d h = fails_before_first p xs k d (grind (arith, nat_tests))

-- an and that is neither one of the two literals nor a constant needs a gate
pub IsNeeded-gate_of : (a b : ℕ) → folded_and a b ≡ None → IsNeeded (gate_of a b)
IsNeeded-gate_of a b none = record {
  order = grind (arith, nat_tests);
  no_constant = grind (arith, nat_tests);
  two = grind (arith, nat_tests);
}

-- a gate whose operands are not those of another, which is ordered as it is, has others in either order
pub differs : (g : Gate) (a b : ℕ) → IsNeeded g → is_gate_of a b g ≡ false → ¬ AreSame g.rhs0 g.rhs1 (gate_of a b).rhs0 (gate_of a b).rhs1
differs g a b needed not_it (inl e) = let first = e.0 in let second = e.1 in absurd (true≢false (sym it ∙ not_it))
  where
    it : is_gate_of a b g ≡ true
    it = let first = e.0 in let second = e.1 in grind (arith, nat_tests)
differs g a b needed not_it (inr e) = let first = e.0 in let second = e.1 in let order = needed.order in absurd (omega arith)

-- shared gates stay so with a gate more that is needed and does not stand
pub AreShared-push : (gs : List Gate) (a b : ℕ) → AreShared gs → folded_and a b ≡ None → position (is_gate_of a b) gs ≡ None → AreShared (gs ++ gate_of a b ∷ [])
AreShared-push gs a b shared needed absent = record {
  needed = All-push IsNeeded gs (gate_of a b) shared.needed (IsNeeded-gate_of a b needed);
  once = all_pairs_push (λ g h. ¬ AreSame g.rhs0 g.rhs1 h.rhs0 h.rhs1) gs (gate_of a b) shared.once (λ k d h. differs (get_or gs k d) a b (shared.needed k d h) (none_passes (is_gate_of a b) gs absent k d h));
}

-- the greater and the smaller one of two literals are the two
pub gate_of-same : (a b : ℕ) → AreSame a b (gate_of a b).rhs0 (gate_of a b).rhs1
gate_of-same a b =
    ⊎_elim (λ (less : a < b). inr (grind (arith, nat_tests), grind (arith, nat_tests)))
    (λ (more : b ≤ a). inl (grind (arith, nat_tests), grind (arith, nat_tests)))
    (cases_lt a b)

-- in what satisfies gates, the variable of the gate at a place is true exactly when both its operands are
pub Satisfies-at : (first : ℕ) (gs : List Gate) (v : Valuation) (k : ℕ) (d : Gate) → SatisfiesFrom first gs v → k < length gs
    → v (first + k) ≡ (literal_value v (get_or gs k d).rhs0 && literal_value v (get_or gs k d).rhs1)
Satisfies-at first [] v k d s h = absurd (omega arith)
Satisfies-at first (g ∷ gs) v zero d s h = let e : first + zero ≡ first = omega arith in rw e s.0
Satisfies-at first (g ∷ gs) v (suc k) d s h =
    let e : first + suc k ≡ suc first + k = omega arith in
    rw e (Satisfies-at (suc first) gs v k d s.1 (omega arith))

-- a gate that passes the test is the gate of the two
is_gate_of-true : (a b : ℕ) (g : Gate) → is_gate_of a b g ≡ true → (g.rhs0 ≡ max a b) × (g.rhs1 ≡ min a b)
is_gate_of-true a b g it = (grind (arith, nat_tests), grind (arith, nat_tests))

-- the literal of a gate that stands is the and of its operands
pub MakesAnd-gate_at : (n : Net) (a b k : ℕ) → position (is_gate_of a b) n.gates ≡ Some k → MakesAnd n n a b (gate_literal n k)
MakesAnd-gate_at n a b k at =
    let d : Gate = record { rhs0 = 0; rhs1 = 0 } in
    let found = position-Some (is_gate_of a b) n.gates k d at in
    let same = is_gate_of-true a b (get_or n.gates k d) found.1 in
    let within = found.0 in
    record {
      grows = Grows-refl n 1;
      defined = omega arith;
      means = λ v s.
          let gate = Satisfies-at (suc (n.inputs + n.latches)) n.gates v k d s within in
          let here : n.inputs + n.latches + k + 1 ≡ suc (n.inputs + n.latches) + k = omega arith in
          let even = literal_value-even v (n.inputs + n.latches + k + 1) (omega arith) in
          even ∙ (ap v here ∙ (gate ∙ (rw (same.0, same.1) (and-same v a b (max a b) (min a b) (gate_of-same a b)))));
    }

-- so is what an and is folded to
pub MakesAnd-folded : (n : Net) (a b l : ℕ) → IsDefined n a → IsDefined n b → folded_and a b ≡ Some l → MakesAnd n n a b l
MakesAnd-folded n a b l left right is = by (a == 0) (b == 0) (a == negation b) (a == 1) (a == b) (b == 1) refl refl refl refl refl refl is
  where
    made : IsDefined n l → ((v : Valuation) → literal_value v l ≡ (literal_value v a && literal_value v b)) → MakesAnd n n a b l
    made defined means = record { grows = Grows-refl n 1; defined = defined; means = λ v s. means v }

    none_left : (y : Bool) → (y && false) ≡ false
    none_left true = refl
    none_left false = refl

    not_both : (y : Bool) → (not y && y) ≡ false
    not_both true = refl
    not_both false = refl

    all_right : (y : Bool) → (y && true) ≡ y
    all_right true = refl
    all_right false = refl

    twice : (y : Bool) → (y && y) ≡ y
    twice true = refl
    twice false = refl

    by : (x y z p q r : Bool) → (a == 0) ≡ x → (b == 0) ≡ y → (a == negation b) ≡ z → (a == 1) ≡ p → (a == b) ≡ q → (b == 1) ≡ r
        → (if x || y || z then Some 0 else (if p || q then Some b else (if r then Some a else None))) ≡ Some l → MakesAnd n n a b l
    by true y z p q r e f g h i j is =
        let at : a ≡ 0 = grind (arith, nat_tests) in
        let same : 0 ≡ l = search rules in
        made (omega arith) (λ v. rw (← same, at) refl)
    by false true z p q r e f g h i j is =
        let at : b ≡ 0 = grind (arith, nat_tests) in
        let same : 0 ≡ l = search rules in
        made (omega arith) (λ v. rw (← same, at) (sym (none_left (literal_value v a))))
    by false false true p q r e f g h i j is =
        let at : a ≡ negation b = grind (arith, nat_tests) in
        let same : 0 ≡ l = search rules in
        made (omega arith) (λ v. rw (← same, at, literal_value-negation v b) (sym (not_both (literal_value v b))))
    by false false false true q r e f g h i j is =
        let at : a ≡ 1 = grind (arith, nat_tests) in
        let same : b ≡ l = search rules in
        made (rw (← same) right) (λ v. rw (← same, at) refl)
    by false false false false true r e f g h i j is =
        let at : a ≡ b = grind (arith, nat_tests) in
        let same : b ≡ l = search rules in
        made (rw (← same) right) (λ v. rw (← same, at) (sym (twice (literal_value v b))))
    by false false false false false true e f g h i j is =
        let at : b ≡ 1 = grind (arith, nat_tests) in
        let same : a ≡ l = search rules in
        made (rw (← same) left) (λ v. rw (← same, at) (sym (all_right (literal_value v a))))
    by false false false false false false e f g h i j is = absurd (search rules)

-- no gates are shared gates
pub AreShared-none : (gs : List Gate) → gs ≡ [] → AreShared gs
AreShared-none gs none = let no_gates : length gs ≡ 0 = ap length none in record { needed = λ k d h. absurd (omega arith); once = λ j k d h i. absurd (omega arith) }

-- shared gates stay so where a gate that is needed and does not stand was added, and where nothing was
pub AreShared-made : {T E : Type 0} (result : Result T E) (old new : Circuit) (a b : ℕ) (P : T → Type 0)
    → IfOk result (λ l. (new ≡ record old { gates = old.gates ++ gate_of a b ∷ [] }) × P l) → OnErr result (new ≡ old)
    → old ≡ gates_only (net old) → AreShared old.gates → folded_and a b ≡ None → position (is_gate_of a b) old.gates ≡ None
    → (new ≡ gates_only (net new)) × AreShared new.gates
AreShared-made (Ok l) old new a b P made kept only shared needed absent =
    let pushed = AreShared-push old.gates a b shared needed absent in
    rw made.0 ((λ j. record (only j) { gates = old.gates ++ gate_of a b ∷ [] }), pushed)
AreShared-made (Err e) old new a b P made kept only shared needed absent = rw kept (only, shared)

-- an and that is not folded: the gate that stands, or the one that was made
pub MakesAnd-made : {E : Type 0} (result : Result ℕ E) (old new : Net) (a b : ℕ) → IsDefined old a → IsDefined old b
    → ((k : ℕ) → position (is_gate_of a b) old.gates ≡ Some k → (result ≡ Ok (gate_literal old k)) × (new ≡ old))
    → (position (is_gate_of a b) old.gates ≡ None → IfOk result (λ l. (new ≡ record old { gates = old.gates ++ gate_of a b ∷ [] }) × (l ≡ 2 * (variables old + 1))))
    → IfOk result (MakesAnd old new a b)
MakesAnd-made {E} result old new a b left right standing fresh = by (position (is_gate_of a b) old.gates) refl
  where
    by : (at : Option ℕ) → position (is_gate_of a b) old.gates ≡ at → IfOk result (MakesAnd old new a b)
    by (Some k) at = let made = standing k at in rw (made.0, made.1) (MakesAnd-gate_at old a b k at)
    by None at = IfOk-weaker result _ _ (λ l done. rw done.0 (MakesAnd-gate old a b _ _ l (gate_of-same a b) done.1)) (fresh at)
