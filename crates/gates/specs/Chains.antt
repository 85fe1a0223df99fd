-- Where a sharing maker finds its gates: each variable has a chain of some gates that have an operand of it, and the gates that neither of the chains of their two variables took stand in a map. No contract of the maker says anything of it but that each gate is found.
use Rattle.std.specs.Prelude.{false, ◌≡◌, ℕ, zero, suc, ◌+◌, ◌<◌, ◌≤◌, Bool, ◌&&◌, ◌==◌, List, All, length, get_or, slice_set, Option, None, Some, if◌then◌else◌}
use Rattle.aiger.specs.declared.circuit.Gate.{Gate}
use Rattle.base.specs.Literal.{variable}
use Rattle.aiger.specs.Net.{Net, variables}
use Rattle.gates.specs.declared.chains.Walk.{Walk}
use Rattle.gates.specs.declared.chains.Walk.TheVariants.{Met, End, Full}
use Rattle.gates.specs.declared.chains.Look.{Look}
use Rattle.gates.specs.declared.chains.Look.TheVariants.{Found, Absent}

-- how many gates a chain has at most
abbrev pub longest : ℕ
longest = 16

-- whether a gate has these operands
abbrev pub is_pair : Gate → Gate → Bool
is_pair pair g = pair.rhs0 == g.rhs0 && pair.rhs1 == g.rhs1

-- how a walk along a chain ends that looks at so many gates at most. An entry of a chain is 1 more than the place of a gate, or 0 at its end
unfoldable pub walked : List Gate → List ℕ → Gate → ℕ → ℕ → Walk
walked gates before pair zero entry = Full
walked gates before pair (suc turns) zero = End
walked gates before pair (suc turns) (suc place) =
    if is_pair pair (get_or gates place pair) then Met place else walked gates before pair turns (get_or before place 0)

-- how a look ends by the walk along a variable's chain: behind a full one it goes on
abbrev pub looked : Walk → ℕ → Look → Look
looked (Met place) v more = Found place
looked End v more = Absent (Some v)
looked Full v more = more

-- how a look ends by what the map says
abbrev pub looked_up : Option ℕ → Look
looked_up None = Absent None
looked_up (Some place) = Found place

-- how a look for a gate ends by the last gate of each variable's chain, the gate before each gate in its chain, and the map, where a chain has at most so many gates: the chain of its greater operand's variable comes first, then that of its smaller one's, then the map
abbrev pub finds : ℕ → List Gate → List ℕ → List ℕ → (Gate → Option ℕ) → Gate → Look
finds most gates last before beyond pair =
    let greater : ℕ = variable pair.rhs0 in
    let smaller : ℕ = variable pair.rhs1 in
    looked (walked gates before pair most (get_or last greater 0)) greater
    (looked (walked gates before pair most (get_or last smaller 0)) smaller (looked_up (beyond pair)))

-- the last gates of the chains with one that a variable's chain took, or that stands in the map
abbrev pub chained : List ℕ → Option ℕ → ℕ → List ℕ
chained last None entry = last
chained last (Some v) entry = slice_set last v entry

-- the gate before one that a variable's chain took, or that stands in the map
abbrev pub link : List ℕ → Option ℕ → ℕ
link last None = 0
link last (Some v) = get_or last v 0

-- whether a gate that no chain took has these operands
abbrev pub is_beyond : Option ℕ → Gate → Gate → Bool
is_beyond None pair other = is_pair pair other
is_beyond (Some v) pair other = false

-- each gate of a net is found at its place, by a walk or in the map
pub record AreFound (most : ℕ) (n : Net) (last before : List ℕ) (beyond : Gate → Option ℕ) : Type 0 where
  pub variables : length last ≡ variables n + 1
  pub places : length before ≡ length n.gates
  pub firsts : All (λ entry. entry ≤ length n.gates) last
  pub links : All (λ entry. entry ≤ length n.gates) before
  pub map : (pair : Gate) (place : ℕ) → beyond pair ≡ Some place → (place < length n.gates) × (get_or n.gates place pair ≡ pair)
  pub each : (place : ℕ) (d : Gate) → place < length n.gates → finds most n.gates last before beyond (get_or n.gates place d) ≡ Found place
