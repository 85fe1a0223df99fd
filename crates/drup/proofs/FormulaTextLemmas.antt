-- The text of a formula, piece by piece.
use Rattle.std.proofs.Common.{◌≡◌, ℕ, zero, suc, ◌+◌, ◌<◌, List, [], ◌∷◌, ◌++◌, length, get_or, drop, codes, decimal, append_assoc, refl, sym, ap, ◌∙◌, arith}
use Rattle.drup.specs.Formula.{Formula}
use Rattle.drup.specs.FormulaTexts.{literal_text, literals_text, clause_line, clauses_text, header_line}

pub clause_parts : (clause : List ℕ) → clause_line clause ++ 10 ∷ [] ≡ literals_text clause ++ codes "0\n"
clause_parts clause = append_assoc (literals_text clause) (codes "0") (10 ∷ [])

pub header_parts : (f : Formula) → header_line f ++ 10 ∷ [] ≡ codes "p cnf " ++ (decimal f.variables ++ (32 ∷ [] ++ (decimal (length f.clauses) ++ 10 ∷ [])))
header_parts f =
    append_assoc (codes "p cnf ") (decimal f.variables ++ 32 ∷ decimal (length f.clauses)) (10 ∷ [])
    ∙ ap (λ (l : List ℕ). codes "p cnf " ++ l) (append_assoc (decimal f.variables) (32 ∷ decimal (length f.clauses)) (10 ∷ []))

-- the first clause of the rest, and the first literal

clauses_next : (k : ℕ) (clauses : List (List ℕ)) → k < length clauses → clauses_text (drop k clauses) ≡ (clause_line (get_or clauses k []) ++ 10 ∷ []) ++ clauses_text (drop (suc k) clauses)
clauses_next k [] h = absurd (omega arith)
clauses_next zero (c ∷ cs) h = refl
clauses_next (suc k) (c ∷ cs) h = clauses_next k cs (omega arith)

pub clauses_at : (k : ℕ) (clauses : List (List ℕ)) (clause : List ℕ) → k < length clauses → clause ≡ get_or clauses k [] → clauses_text (drop k clauses) ≡ (clause_line clause ++ 10 ∷ []) ++ clauses_text (drop (k + 1) clauses)
clauses_at k clauses clause h is =
    let next : suc k ≡ k + 1 = omega arith in
    clauses_next k clauses h
    ∙ ap (λ (c : List ℕ). (clause_line c ++ 10 ∷ []) ++ clauses_text (drop (suc k) clauses)) (sym is)
    ∙ ap (λ (n : ℕ). (clause_line clause ++ 10 ∷ []) ++ clauses_text (drop n clauses)) next

literals_next : (i : ℕ) (literals : List ℕ) (default : ℕ) → i < length literals → literals_text (drop i literals) ≡ (literal_text (get_or literals i default) ++ 32 ∷ []) ++ literals_text (drop (suc i) literals)
literals_next i [] default h = absurd (omega arith)
literals_next zero (l ∷ ls) default h = refl
literals_next (suc i) (l ∷ ls) default h = literals_next i ls default (omega arith)

pub literals_at : (i : ℕ) (literals : List ℕ) (default : ℕ) → i < length literals → literals_text (drop i literals) ≡ (literal_text (get_or literals i default) ++ 32 ∷ []) ++ literals_text (drop (i + 1) literals)
literals_at i literals default h =
    let next : suc i ≡ i + 1 = omega arith in
    literals_next i literals default h
    ∙ ap (λ (n : ℕ). (literal_text (get_or literals i default) ++ 32 ∷ []) ++ literals_text (drop n literals)) next
