-- What the lines of a model need, and circles of it.
use Rattle.std.specs.Prelude.{◌≡◌, ℕ, suc, ◌<◌, true, List, [], ◌∷◌, Option, Some, None, option_map, unwrap_or, map, take, length, slice_get, ◌==◌, if◌then◌else◌, is_some, Contains}
use Rattle.std.specs.List.{AllByRecursion}
use Rattle.btor2.specs.declared.item.Body.{Body}
use Rattle.btor2.specs.Items.{node_sort, operands, is_state}
use Rattle.full.specs.Lines.{Operand, FullLine, operands_of, is_form, sort_named, find_line, init_of}
use Rattle.writeout.specs.declared.way.Way.{Way}
use Rattle.writeout.specs.declared.way.Way.TheVariants as way
use Rattle.writeout.specs.Ways.{way_of}

-- ids are those of lines
abbrev pub AreFound : List FullLine → List ℕ → Type 0
AreFound full ids = AllByRecursion (λ a. is_some (find_line full a) ≡ true) ids

-- the place of the first line with an id
abbrev pub place_of : List FullLine → ℕ → ℕ
place_of [] id = 0
place_of (x ∷ xs) id = if id == x.id then 0 else suc (place_of xs id)

-- the value of an init, where there is one
abbrev pub init_ids : Option Operand → List ℕ
init_ids None = []
init_ids (Some o) = o.id ∷ []

-- the value of the init of a state that is written by its first word
abbrev pub first_ids : Way → Option Operand → List ℕ
first_ids way.First o = init_ids o
first_ids way.Open o = []
first_ids way.Constant o = []
first_ids way.Zeros o = []
first_ids way.Ones o = []

-- an id, where there is one
abbrev pub option_ids : Option ℕ → List ℕ
option_ids None = []
option_ids (Some a) = a ∷ []

-- the operands of the form of a node
abbrev pub node_operands : Body → List ℕ
node_operands b = if is_some (node_sort b) then operands b else []

-- the ids of what a form needs
abbrev pub form_needs : List FullLine → ℕ → Body → List ℕ
form_needs full id b = if is_state b then first_ids (way_of full id) (init_of full id) else node_operands b

-- the ids of what a line needs before its node is made
abbrev pub needed : List FullLine → FullLine → List ℕ
needed full x =
    if is_form is_state x.says then first_ids (way_of full x.id) (init_of full x.id)
    else if is_some (sort_named x.says) then map (λ (o : Operand). o.id) (operands_of x.says) else []

-- their places
abbrev pub row_of : List FullLine → FullLine → List ℕ
row_of full x = map (place_of full) (needed full x)

-- An order of the places of the lines: each line with a place stands in it behind all that it needs.
pub record IsLineOrder (full : List FullLine) (list : List ℕ) : Type 0 where
  pub stands : (k : ℕ) → k < length full → Contains list k
  pub within : (i k : ℕ) → slice_get list i ≡ Some k → k < length full
  pub behind : (i k : ℕ) (x : FullLine) → slice_get list i ≡ Some k → slice_get full k ≡ Some x → AllByRecursion (λ a. Contains (take i list) (place_of full a)) (needed full x)

-- what the word of a node in a frame depends on: the operands of a line, and for a state the value of its init, since its first word is that
abbrev pub depends_on : List FullLine → FullLine → List ℕ
depends_on full x = if is_form is_state x.says then init_ids (init_of full x.id) else map (λ (o : Operand). o.id) (operands_of x.says)

abbrev pub depends_at : List FullLine → ℕ → List ℕ
depends_at full id = unwrap_or (option_map (depends_on full) (find_line full id)) []

-- a line depends on the first of some, each of these on the next one, and the last of them on another
abbrev pub IsDependence : List FullLine → ℕ → List ℕ → ℕ → Type 0
IsDependence full id [] last = Contains (depends_at full id) last
IsDependence full id (next ∷ between) last = Contains (depends_at full id) next × IsDependence full next between last

-- a line depends on itself
abbrev pub IsCircle : List FullLine → ℕ → Type 0
IsCircle full id = (between : List ℕ) × IsDependence full id between id
