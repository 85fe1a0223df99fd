-- The names of cells. A cell of a leaf with a name and more than one cell is named after the leaf, with its index in brackets: `mem[5]`.
-- Where that would be longer than a symbol may be, the leaf's name is cut.
use Rattle.std.specs.Prelude.{◌≡◌, ℕ, suc, ◌||◌, true, List, [], ◌∷◌, ◌++◌, decimal, Option, Some, None}
use Rattle.std.specs.List.{AllZip}
use Rattle.btor2.specs.declared.item.Item.{Item}
use Rattle.btor2.specs.Items.{is_input, is_state}
use Rattle.fit.specs.Fitting.{Layout}
use Rattle.fitting.specs.Names.{with_range, IsNamed}

-- `[i]`
abbrev pub index_text : ℕ → List ℕ
index_text index = 91 ∷ decimal index ++ 93 ∷ []

-- the name of a cell, where the leaf has a name
abbrev pub cell_symbol : Option (List ℕ) → ℕ → Option (List ℕ)
cell_symbol None index = None
cell_symbol (Some name) index = Some (with_range name (index_text index))

-- the names of cells from an index on
abbrev pub names_from : Option (List ℕ) → ℕ → List ℕ → List (Option (List ℕ))
names_from symbol index [] = []
names_from symbol index (p ∷ ps) = cell_symbol symbol index ∷ names_from symbol (suc index) ps

-- those of all cells of a leaf: one cell has the leaf's name
abbrev pub cell_names : Option (List ℕ) → List ℕ → List (Option (List ℕ))
cell_names symbol (p ∷ []) = symbol ∷ []
cell_names symbol ps = names_from symbol 0 ps

-- the cells of a leaf have these names
abbrev pub CellsAreNamed : Layout → List Item → Item → Type 0
CellsAreNamed layout celled x = (is_input x.body || is_state x.body) ≡ true → AllZip (IsNamed celled) (layout x.id) (cell_names x.symbol (layout x.id))
