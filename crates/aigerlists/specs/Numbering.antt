-- What stands between the parts of numbering: the slots of a file's gates, and their order as far as it goes.
use Rattle.std.specs.Prelude.{◌≡◌, ℕ, suc, ◌-◌, ◌<◌, ◌≤◌, slice_index_or, count_by, Bool, not, false, true, List, [], ◌∷◌, ◌++◌, map, take, length, nat_eq, if◌then◌else◌, ◌==◌}
use Rattle.std.specs.List.{position_or_len, flat_map, list_all, list_any}
use Rattle.aigerlists.specs.declared.loose.GateLine.{GateLine}
use Rattle.base.specs.Literal.{variable}
use Rattle.aigerlists.specs.Loose.{Loose, gate_variable}
use Rattle.aigerlists.specs.Renumbering.{AreInTurn, has_number, is_ready, is_known}
use Rattle.aigerlists.specs.Readiness.{AreDone}

-- a line with a literal whose variable is neither 0 nor defined
abbrev pub is_unknown : Loose → List ℕ → Bool
is_unknown l lits = not (list_all (is_known l) lits)

-- no variable stands twice
abbrev pub IsOnce : List ℕ → Type 0
IsOnce names = (v : ℕ) → count_by (nat_eq v) names ≤ 1

-- the gate line at a position
abbrev pub line_in : List GateLine → ℕ → GateLine
line_in lines j = slice_index_or lines j (record { lhs = 0; rhs0 = 0; rhs1 = 0 })

-- the variable of the gate line at a position
abbrev pub gate_name_at : List GateLine → ℕ → ℕ
gate_name_at lines j = gate_variable (line_in lines j)

-- the number of a variable in a list of variables in the order of their numbers, from 1; 0 where it does not stand there
abbrev pub number_among : List ℕ → ℕ → ℕ
number_among names v = if list_any (nat_eq v) names then suc (position_or_len (nat_eq v) names) else 0

-- what a literal waits for, by the places of the defined variables, of which so many first ones are no gates
abbrev pub slot_of : List ℕ → ℕ → ℕ → ℕ
slot_of names leaves lit = if variable lit == 0 then 0 else suc (position_or_len (nat_eq (variable lit)) names) - leaves

-- the slots of gates: two for each
abbrev pub slots_of : List ℕ → ℕ → List GateLine → List ℕ
slots_of names leaves gates = flat_map (λ line. slot_of names leaves line.rhs0 ∷ slot_of names leaves line.rhs1 ∷ []) gates

-- the operands of each gate wait for no gate but those before it
abbrev pub WaitForEarlier : List ℕ → ℕ → List GateLine → Type 0
WaitForEarlier names leaves gates = (j : ℕ) → j < length gates → (slot_of names leaves (line_in gates j).rhs0 ≤ j) × (slot_of names leaves (line_in gates j).rhs1 ≤ j)

-- the operands of each gate of an order have numbers once the gates before it have theirs, behind those of these variables
abbrev pub UseNumbered : List ℕ → List GateLine → List ℕ → Type 0
UseNumbered names lines order = (k j : ℕ) → k < length order → j ≡ slice_index_or order k j
    → (has_number (names ++ map (gate_name_at lines) (take k order)) (line_in lines j).rhs0 ≡ true) × (has_number (names ++ map (gate_name_at lines) (take k order)) (line_in lines j).rhs1 ≡ true)

-- the gates of a file in the order of readiness, until none is ready, and for how many operands each waits then
pub record IsReadyOrder (l : Loose) (order : List ℕ) (waiting : List ℕ) : Type 0 where
  pub in_turn : AreInTurn l [] order
  pub done : AreDone (length l.gates) order waiting
  pub whole : (j : ℕ) → is_ready l order j ≡ false
