-- The text of a formula in DIMACS CNF: `p cnf <variables> <clauses>`, and each clause on a line, its literals and `0` with a blank between; variable v is
-- written v, and its negation -v. Without comments.
use Rattle.std.specs.Prelude.{ℕ, ◌/◌, ◌%◌, List, [], ◌∷◌, ◌++◌, ◌==◌, if◌then◌else◌, codes, decimal, map, length, flat_map}
use Rattle.base.specs.Lines.{text_of_lines}
use Rattle.drup.specs.Formula.{Formula}

abbrev pub literal_text : ℕ → List ℕ
literal_text l = if l % 2 == 0 then decimal (l / 2) else 45 ∷ decimal (l / 2)

abbrev pub literals_text : List ℕ → List ℕ
literals_text literals = flat_map (λ l. literal_text l ++ 32 ∷ []) literals

abbrev pub clause_line : List ℕ → List ℕ
clause_line clause = literals_text clause ++ codes "0"

abbrev pub clauses_text : List (List ℕ) → List ℕ
clauses_text clauses = text_of_lines (map clause_line clauses)

abbrev pub header_line : Formula → List ℕ
header_line f = codes "p cnf " ++ decimal f.variables ++ 32 ∷ decimal (length f.clauses)

abbrev pub formula_text : Formula → List ℕ
formula_text f = text_of_lines (header_line f ∷ map clause_line f.clauses)
