-- Worked rows of proofs, and how they are judged.
use Rattle.std.proofs.Common.{cond, ◌+◌, ◌≡◌, ℕ, zero, suc, true, List, [], ◌∷◌, ◌++◌, inl, inr, refl, sym, ap, subst, ◌∙◌, arith}
use Rattle.std.specs.Prelude.{◌==◌, ◌&&◌, Some, None, codes}
use Rattle.base.specs.Decimals.{is_decimal, capped_value, number_of}
use Rattle.drup.specs.declared.why.Why.TheVariants as why
use Rattle.drup.specs.declared.judgement.Judgement.{Judgement}
use Rattle.drup.specs.declared.judgement.Judgement.TheVariants as judgement
use Rattle.drup.specs.Formula.{Formula}
use Rattle.drup.specs.Propagation.{Literals, no_literal, IsClosed, Holds, IsClosure, MeetsConflict, Implied}
use Rattle.drup.specs.Propagation.Conflict.{opposite}
use Rattle.drup.specs.Proofs.{ProofReading, ended, addition, deletion}
use Rattle.drup.specs.ProofForms.{read_proof}
use Rattle.drup.specs.Judgements.{JudgesReading, JudgesProof}
use Rattle.drup.specs.Without.{AreSameClause, NoneAlikeFrom, IsWithout}
use Rattle.drup.specs.Without.IsWithout.{last, none}
use Rattle.drup.specs.Worked.{one, all_eight, eight, three_steps}
use Rattle.drup.proofs.WorkedLemmas.{both_true, given, closed, no_conflict, nothing_consistent, one_consistent, equal, all_eight-implied, all_eight-not_implied, all_eight-free}

-- ---- what is read

pub reads-steps : read_proof 3 (codes "1 2 0\n1 0\n2 0\n") ≡ three_steps
unfolding number_of is_decimal capped_value
reads-steps = refl

pub reads-over_lines : read_proof 3 (codes "c 1 0\n-1\r\n\t2  0 d 3\ncomment\n0") ≡ record { steps = ended 3 (addition (3 ∷ 4 ∷ [])) ∷ ended 5 (deletion (6 ∷ [])) ∷ []; fault = None }
unfolding number_of is_decimal capped_value
reads-over_lines = refl

pub reads-no_literals : read_proof 3 (codes "0\nd 0\n") ≡ record { steps = ended 1 (addition []) ∷ ended 2 (deletion []) ∷ []; fault = None }
unfolding number_of is_decimal capped_value
reads-no_literals = refl

pub reads-word : read_proof 3 (codes "1 0\n1 +2 0\n") ≡ record { steps = ended 1 (addition (2 ∷ [])) ∷ []; fault = Some (record { line = 2; why = why.BadWord }) }
unfolding number_of is_decimal capped_value
reads-word = refl

pub reads-zeros : read_proof 3 (codes "01 0\n") ≡ record { steps = []; fault = Some (record { line = 1; why = why.BadWord }) }
unfolding number_of is_decimal capped_value
reads-zeros = refl

pub reads-within : read_proof 3 (codes "1 d 2 0\n") ≡ record { steps = []; fault = Some (record { line = 1; why = why.BadWord }) }
unfolding number_of is_decimal capped_value
reads-within = refl

pub reads-variable : read_proof 3 (codes "\n-4 0\n") ≡ record { steps = []; fault = Some (record { line = 2; why = why.BadVariable }) }
unfolding number_of is_decimal capped_value
reads-variable = refl

pub reads-cut_off : read_proof 3 (codes "1 0\nd\n") ≡ record { steps = ended 1 (addition (2 ∷ [])) ∷ []; fault = Some (record { line = 3; why = why.CutOff }) }
unfolding number_of is_decimal capped_value
reads-cut_off = refl

abbrev first_two : ProofReading
first_two = record { steps = ended 1 (addition (2 ∷ [])) ∷ ended 2 (addition (4 ∷ [])) ∷ []; fault = None }

abbrev first_alone : ProofReading
first_alone = record { steps = ended 1 (addition (2 ∷ 4 ∷ [])) ∷ []; fault = None }

reads-first : read_proof 3 (codes "1 0\n2 0\n") ≡ first_two
unfolding number_of is_decimal capped_value
reads-first = refl

reads-one : read_proof 3 (codes "1 2 0\n") ≡ first_alone
unfolding number_of is_decimal capped_value
reads-one = refl

reads-one_more : read_proof 3 (codes "1 2 0\n1 x 0\n") ≡ record { steps = ended 1 (addition (2 ∷ 4 ∷ [])) ∷ []; fault = Some (record { line = 2; why = why.BadWord }) }
unfolding number_of is_decimal capped_value
reads-one_more = refl

abbrev first_cut : ProofReading
first_cut = record { steps = ended 1 (addition (2 ∷ 4 ∷ [])) ∷ []; fault = Some (record { line = 2; why = why.CutOff }) }

-- ---- how it is judged

judged : (f : Formula) (text : List ℕ) (r : ProofReading) (j : Judgement) → read_proof f.variables text ≡ r → JudgesReading f r j → JudgesProof f text j
judged f text r j e h = subst (λ (x : ProofReading). JudgesReading f x j) (sym e) h

none_holds : (s : Literals) → Holds no_literal s
none_holds s l on = absurd (cc)

nothing_closure : (clauses : List (List ℕ)) → IsClosed clauses no_literal → IsClosure clauses no_literal no_literal
nothing_closure clauses c = record { holds = none_holds no_literal; closed = c; least = λ t tc holds. none_holds t }

abbrev nine : List (List ℕ)
nine = all_eight ++ (2 ∷ 4 ∷ []) ∷ []

abbrev ten : List (List ℕ)
ten = nine ++ (2 ∷ []) ∷ []

abbrev eleven : List (List ℕ)
eleven = ten ++ (4 ∷ []) ∷ []

nine-free : MeetsConflict nine no_literal → ⊥
nine-free met = no_conflict nine no_literal nothing_consistent refl (met no_literal (closed nine no_literal refl) (λ l on. on))

two_ways : (s : Literals) (x y : ℕ) → s x ≡ true → s y ≡ true → (s x && (s y && true)) ≡ true
two_ways s x y a b = both_true (s x) (s y && true) a (both_true (s y) true b refl)

nine-implied : Implied nine no_literal (2 ∷ [])
nine-implied s c holds all =
    let a : s 3 ≡ true = all 0 (omega arith) in
    let b : s 4 ≡ true = given nine s c 8 1 (omega arith) (omega arith) (both_true (s 3) true a refl) in
    opposite 6 (given nine s c 2 2 (omega arith) (omega arith) (two_ways s 3 4 a b)) (given nine s c 3 2 (omega arith) (omega arith) (two_ways s 3 4 a b))

ten-free : MeetsConflict ten no_literal → ⊥
ten-free met = no_conflict ten (one 2) (one_consistent 2 (λ e. omega (arith, e))) refl (met (one 2) (closed ten (one 2) refl) (none_holds (one 2)))

ten-closure : IsClosure ten no_literal (one 2)
ten-closure = record {
  holds = none_holds (one 2);
  closed = closed ten (one 2) refl;
  least = λ s c holds l on. ap s (equal l 2 on) ∙ given ten s c 9 0 (omega arith) (omega arith) refl;
}

ten-implied : Implied ten (one 2) (4 ∷ [])
ten-implied s c holds all =
    let a : s 2 ≡ true = holds 2 refl in
    let b : s 5 ≡ true = all 0 (omega arith) in
    opposite 6 (given ten s c 4 2 (omega arith) (omega arith) (two_ways s 2 5 a b)) (given ten s c 5 2 (omega arith) (omega arith) (two_ways s 2 5 a b))

eleven-met : MeetsConflict eleven (one 2)
eleven-met s c holds =
    let a : s 2 ≡ true = holds 2 refl in
    let b : s 4 ≡ true = given eleven s c 10 0 (omega arith) (omega arith) refl in
    opposite 6 (given eleven s c 6 2 (omega arith) (omega arith) (two_ways s 2 4 a b)) (given eleven s c 7 2 (omega arith) (omega arith) (two_ways s 2 4 a b))

eight-closure : IsClosure all_eight no_literal no_literal
eight-closure = nothing_closure all_eight (closed all_eight no_literal refl)

nine-closure : IsClosure nine no_literal no_literal
nine-closure = nothing_closure nine (closed nine no_literal refl)

three-judged : JudgesReading eight three_steps (judgement.Derived 3)
three-judged =
    inr (all_eight-free, (no_literal, (eight-closure, inr (all_eight-implied, inr (nine-free, (no_literal, (nine-closure, inr (nine-implied, inr (ten-free, (one 2, (ten-closure, inr (ten-implied, inl (eleven-met, refl)))))))))))))

two-judged : JudgesReading eight first_two (judgement.NotImplied 1)
two-judged = inr (all_eight-free, (no_literal, (eight-closure, inl (all_eight-not_implied, refl))))

one-judged : JudgesReading eight first_alone judgement.NotDerived
one-judged = inr (all_eight-free, (no_literal, (eight-closure, inr (all_eight-implied, inr (nine-free, (no_literal, (nine-closure, refl)))))))

pub judges-derived : JudgesProof eight (codes "1 2 0\n1 0\n2 0\n") (judgement.Derived 3)
judges-derived = judged eight (codes "1 2 0\n1 0\n2 0\n") three_steps (judgement.Derived 3) reads-steps three-judged

pub judges-not_implied : JudgesProof eight (codes "1 0\n2 0\n") (judgement.NotImplied 1)
judges-not_implied = judged eight (codes "1 0\n2 0\n") first_two (judgement.NotImplied 1) reads-first two-judged

pub judges-not_derived : JudgesProof eight (codes "1 2 0\n") judgement.NotDerived
judges-not_derived = judged eight (codes "1 2 0\n") first_alone judgement.NotDerived reads-one one-judged

pub judges-malformed : JudgesProof eight (codes "1 2 0\n1 x 0\n") (judgement.Malformed 2 why.BadWord)
judges-malformed =
    judged eight (codes "1 2 0\n1 x 0\n") (record { steps = ended 1 (addition (2 ∷ 4 ∷ [])) ∷ []; fault = Some (record { line = 2; why = why.BadWord }) }) (judgement.Malformed 2 why.BadWord) reads-one_more
    (inr (all_eight-free, (no_literal, (eight-closure, inr (all_eight-implied, inr (nine-free, (no_literal, (nine-closure, refl))))))))

pub judges-by_itself : JudgesProof (record { variables = 1; clauses = (2 ∷ []) ∷ (3 ∷ []) ∷ [] }) (codes "x") (judgement.Derived 0)
judges-by_itself = inl (λ s c holds. opposite 2 (given ((2 ∷ []) ∷ (3 ∷ []) ∷ []) s c 0 0 (omega arith) (omega arith) refl) (given ((2 ∷ []) ∷ (3 ∷ []) ∷ []) s c 1 0 (omega arith) (omega arith) refl), refl)

pub judges_binary-derived : JudgesProof eight (97 ∷ 2 ∷ 4 ∷ 0 ∷ 97 ∷ 2 ∷ 0 ∷ 97 ∷ 4 ∷ 0 ∷ []) (judgement.Derived 3)
judges_binary-derived = judged eight (97 ∷ 2 ∷ 4 ∷ 0 ∷ 97 ∷ 2 ∷ 0 ∷ 97 ∷ 4 ∷ 0 ∷ []) three_steps (judgement.Derived 3) refl three-judged

pub judges_binary-not_implied : JudgesProof eight (97 ∷ 2 ∷ 0 ∷ 97 ∷ 4 ∷ 0 ∷ []) (judgement.NotImplied 1)
judges_binary-not_implied = judged eight (97 ∷ 2 ∷ 0 ∷ 97 ∷ 4 ∷ 0 ∷ []) first_two (judgement.NotImplied 1) refl two-judged

pub judges_binary-not_derived : JudgesProof eight (97 ∷ 2 ∷ 4 ∷ 0 ∷ []) judgement.NotDerived
judges_binary-not_derived = judged eight (97 ∷ 2 ∷ 4 ∷ 0 ∷ []) first_alone judgement.NotDerived refl one-judged

pub judges_binary-malformed : JudgesProof eight (97 ∷ 2 ∷ 4 ∷ 0 ∷ 97 ∷ 2 ∷ []) (judgement.Malformed 2 why.CutOff)
judges_binary-malformed =
    judged eight (97 ∷ 2 ∷ 4 ∷ 0 ∷ 97 ∷ 2 ∷ []) first_cut (judgement.Malformed 2 why.CutOff) refl
    (inr (all_eight-free, (no_literal, (eight-closure, inr (all_eight-implied, inr (nine-free, (no_literal, (nine-closure, refl))))))))

-- ---- a clause taken away

abbrev pair : List (List ℕ)
pair = (2 ∷ 4 ∷ []) ∷ (4 ∷ 2 ∷ []) ∷ (6 ∷ []) ∷ []

swapped : AreSameClause (2 ∷ 4 ∷ []) (4 ∷ 2 ∷ [])
swapped l = let a : ℕ = cond (2 == l) 1 0 in let b : ℕ = cond (4 == l) 1 0 in let e : (0 + a) + b ≡ (0 + b) + a = omega arith in e

none_later : NoneAlikeFrom pair (2 ∷ 4 ∷ []) 2
none_later zero low h a = omega (arith, low)
none_later (suc zero) low h a = omega (arith, low)
none_later (suc (suc zero)) low h a = let e = a 2 in cc
none_later (suc (suc (suc j))) low h a = omega (arith, h)

pub without-last : IsWithout pair (2 ∷ 4 ∷ []) ((2 ∷ 4 ∷ []) ∷ (6 ∷ []) ∷ [])
without-last = last 1 (record { inside = omega arith; alike = swapped; later = none_later }) refl

none_at : NoneAlikeFrom ((2 ∷ 2 ∷ 4 ∷ []) ∷ []) (2 ∷ 4 ∷ []) 0
none_at zero low h a = let e = a 2 in cc
none_at (suc j) low h a = omega (arith, h)

pub without-none : IsWithout ((2 ∷ 2 ∷ 4 ∷ []) ∷ []) (2 ∷ 4 ∷ []) ((2 ∷ 2 ∷ 4 ∷ []) ∷ [])
without-none = none none_at refl
