-- The obligation of cubes over a circuit of bad properties alone (an engine form): a formula that nothing satisfies exactly where the states in no cube are
-- closed and the bad property does not rise in them. Its variables are those of the circuit, then one that is true, one for "the bad property rises", and for
-- each cube one for "the next state is in it". Only what is needed is said of the last two: that the bad property rises where the variable is true, and that
-- each literal of the cube is true of the next state.
use Rattle.std.specs.Prelude.{ℕ, suc, ◌+◌, ◌-◌, ◌*◌, ◌/◌, ◌%◌, ◌==◌, List, [], ◌∷◌, ◌++◌, map, length, slice_index_or, if◌then◌else◌}
use Rattle.std.specs.List.{range_with_len}
use Rattle.aiger.specs.declared.circuit.Gate.{Gate}
use Rattle.aiger.specs.Net.{variables}
use Rattle.aiger.specs.Circuit.{Circuit, net}
use Rattle.base.specs.Literal.{negation}
use Rattle.drup.specs.Formula.{Formula}
use Rattle.certificates.specs.Invariants.{bad_literal}

-- the variable that is true, that for "the bad property rises", and that of the first cube
abbrev pub truth_variable : Circuit → ℕ
truth_variable d = suc (variables (net d))

abbrev pub rise_variable : Circuit → ℕ
rise_variable d = suc (truth_variable d)

abbrev pub cube_variable : Circuit → ℕ
cube_variable d = suc (rise_variable d)

-- the literal of the formula for one of the circuit, where this variable is the one that is true: 0 and 1 are of that variable
abbrev pub over : ℕ → ℕ → ℕ
over truth l = if l == 0 then 2 * truth + 1 else (if l == 1 then 2 * truth else l)

-- a gate's variable is true exactly where both its operands are
abbrev pub gate_clauses : ℕ → ℕ → Gate → List (List ℕ)
gate_clauses truth v g =
    ((2 * v + 1) ∷ over truth g.rhs0 ∷ [])
    ∷ ((2 * v + 1) ∷ over truth g.rhs1 ∷ [])
    ∷ ((2 * v) ∷ negation (over truth g.rhs0) ∷ negation (over truth g.rhs1) ∷ [])
    ∷ []

-- gates, of which the first has this variable
abbrev pub gates_clauses : ℕ → ℕ → List Gate → List (List ℕ)
gates_clauses truth v [] = []
gates_clauses truth v (g ∷ gs) = gate_clauses truth v g ++ gates_clauses truth (suc v) gs

-- the state is not in a cube, whose literals over latches are those of the circuit behind its inputs
abbrev pub outside_clause : Circuit → List ℕ → List ℕ
outside_clause d cube = map (λ l. negation (2 * d.inputs + l)) cube

-- the literal that a latch, counted from 0, takes for the next state
abbrev pub taken_literal : Circuit → ℕ → ℕ
taken_literal d k = slice_index_or (map (λ latch. latch.next) d.latches) k 0

-- the formula's literal for one over latches, of the next state
abbrev pub next_literal : Circuit → ℕ → ℕ
next_literal d l =
    if l % 2 == 0 then over (truth_variable d) (taken_literal d (l / 2 - 1))
    else negation (over (truth_variable d) (taken_literal d (l / 2 - 1)))

-- where a variable is true, the next state is in a cube
abbrev pub next_clauses : Circuit → ℕ → List ℕ → List (List ℕ)
next_clauses d v cube = map (λ l. (2 * v + 1) ∷ next_literal d l ∷ []) cube

-- cubes, of which the first has this variable
abbrev pub nexts_clauses : Circuit → ℕ → List (List ℕ) → List (List ℕ)
nexts_clauses d v [] = []
nexts_clauses d v (cube ∷ cubes) = next_clauses d v cube ++ nexts_clauses d (suc v) cubes

-- the bad property rises, or the next state is in one of so many cubes
abbrev pub fails_clause : Circuit → ℕ → List ℕ
fails_clause d count = (2 * rise_variable d) ∷ map (λ v. 2 * v) (range_with_len (cube_variable d) count)

-- the clauses of the present state: of the variable that is true, of the gates, and that the state is in no cube
abbrev pub now_clauses : Circuit → List (List ℕ) → List (List ℕ)
now_clauses d cubes =
    ((2 * truth_variable d) ∷ [])
    ∷ (gates_clauses (truth_variable d) (suc (d.inputs + length d.latches)) d.gates ++ map (outside_clause d) cubes)

-- the clauses of what is to fail: where its variable is true, the bad property rises; and it rises, or the next state is in a cube
abbrev pub failing_clauses : Circuit → List (List ℕ) → List (List ℕ)
failing_clauses d cubes =
    ((2 * rise_variable d + 1) ∷ over (truth_variable d) (bad_literal d) ∷ [])
    ∷ (nexts_clauses d (cube_variable d) cubes ++ fails_clause d (length cubes) ∷ [])

-- the formula: all clauses, in this order
abbrev pub obligation : Circuit → List (List ℕ) → Formula
obligation d cubes = record { variables = rise_variable d + length cubes; clauses = now_clauses d cubes ++ failing_clauses d cubes }
