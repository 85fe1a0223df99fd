-- Worked rows: a list in which each word has a leaf by which a model tells values whose states are a bit and an array of 2 cells of 2 bits, and whose inputs are such an
-- array and a word of 3 bits.
use Rattle.std.specs.Prelude.{ℕ, Bool, List, [], ◌∷◌, ◌++◌, Some, None, codes}
use Rattle.btor2.specs.declared.item.Item.{Item}
use Rattle.btor2.specs.declared.item.Body.{Body}
use Rattle.btor2.specs.declared.item.Body.TheVariants as body
use Rattle.witness.specs.Texts.{shape_of}
use Rattle.unfit.specs.Joined.{Names}
use Rattle.fulljudge.specs.Compared.{StateWords}
use Rattle.fulljudge.specs.Worked.{two_arrays}
use Rattle.fullunfit.specs.Unfitted.{unfit_full_text}

-- an item without a name
abbrev pub item : ℕ → Body → Item
item id b = record { id = id; symbol = None; body = b }

-- the list, with sorts of 1, 2 and 3 bits, and a bad property
abbrev pub narrow : List Item
narrow =
    item 1 (body.Sort 1) ∷ item 2 (body.Sort 2) ∷ item 3 (body.Sort 3) ∷ item 4 (body.State 1) ∷ item 5 (body.State 2) ∷ item 6 (body.State 2) ∷ item 7 (body.Input 2) ∷ item 8 (body.Input 2) ∷ item 9 (body.Input 3) ∷ item 10 (body.Bad 4) ∷ []

-- the names of the states and inputs of the model
abbrev pub names : Names
names = record { states = Some (codes "t") ∷ Some (codes "mem") ∷ []; inputs = Some (codes "in") ∷ None ∷ [] }

-- where the words of states stand, of which each has its leaf for its node
abbrev pub constants : StateWords
constants = record { leaves = 4 ∷ 5 ∷ []; nodes = 4 ∷ 5 ∷ []; places = [] }

-- what is written of a text over the list
abbrev pub written : Bool → List ℕ → List ℕ
written named text = unfit_full_text two_arrays.states two_arrays.inputs (shape_of narrow) names named constants narrow text

-- the same where the array has another node, and one state more stands behind its cells
abbrev pub begun : StateWords
begun = record { leaves = 4 ∷ 5 ∷ []; nodes = 4 ∷ 12 ∷ []; places = [] }

abbrev pub with_first : List Item
with_first = narrow ++ item 11 (body.State 1) ∷ []

abbrev pub begun_written : Bool → List ℕ → List ℕ
begun_written named text = unfit_full_text two_arrays.states two_arrays.inputs (shape_of with_first) names named begun with_first text
