-- How a proof over a formula is judged: each step by unit propagation, from the clauses that stand and the literals that followed so far (the checks by
-- reverse unit propagation of DRUP, and the deletions of DRAT). This project's own: what followed stays when a clause is taken away, a deletion of a clause
-- that does not stand is passed over, and where the same literals stand twice the last clause goes.
use Rattle.std.specs.Prelude.{◌≡◌, ℕ, ◌⊎◌, List, [], ◌∷◌, ◌++◌, Option, Some, None}
use Rattle.drup.specs.declared.judgement.Judgement.{Judgement}
use Rattle.drup.specs.declared.judgement.Judgement.TheVariants as judgement
use Rattle.drup.specs.Formula.{Formula}
use Rattle.drup.specs.Propagation.{Literals, no_literal, IsClosure, MeetsConflict, Implied}
use Rattle.drup.specs.Without.{IsWithout}
use Rattle.drup.specs.Proofs.{addition, deletion, Ended, ended, ProofFault, ProofReading}
use Rattle.drup.specs.ProofForms.{read_proof}

-- where the steps have ended
abbrev pub at_end : Option ProofFault → Judgement
at_end None = judgement.NotDerived
at_end (Some f) = judgement.Malformed f.line f.why

-- how steps, and the fault behind them, are judged from clauses that stand and literals that followed
abbrev pub JudgesSteps : Option ProofFault → List Ended → List (List ℕ) → Literals → Judgement → Type 0
JudgesSteps fault [] clauses followed j = j ≡ at_end fault
JudgesSteps fault (ended n (addition clause) ∷ steps) clauses followed j =
    ((¬ Implied clauses followed clause) × (j ≡ judgement.NotImplied n))
    ⊎ (Implied clauses followed clause
    × ((MeetsConflict (clauses ++ clause ∷ []) followed × (j ≡ judgement.Derived n))
    ⊎ ((¬ MeetsConflict (clauses ++ clause ∷ []) followed)
    × ((s : Literals) × (IsClosure (clauses ++ clause ∷ []) followed s × JudgesSteps fault steps (clauses ++ clause ∷ []) s j)))))
JudgesSteps fault (ended n (deletion clause) ∷ steps) clauses followed j =
    (left : List (List ℕ)) × (IsWithout clauses clause left × JudgesSteps fault steps left followed j)

-- what steps, and the fault behind them, are judged as over a formula
abbrev pub JudgesReading : Formula → ProofReading → Judgement → Type 0
JudgesReading f reading j =
    (MeetsConflict f.clauses no_literal × (j ≡ judgement.Derived 0))
    ⊎ ((¬ MeetsConflict f.clauses no_literal) × ((s : Literals) × (IsClosure f.clauses no_literal s × JudgesSteps reading.fault reading.steps f.clauses s j)))

-- what a text is judged as over a formula
abbrev pub JudgesProof : Formula → List ℕ → Judgement → Type 0
JudgesProof f text j = JudgesReading f (read_proof f.variables text) j
