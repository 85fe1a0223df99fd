-- Worked rows: models whose lines have names, and frames of them.
use Rattle.std.specs.Prelude.{ℕ, List, [], ◌∷◌, Some, codes, map, ◌==◌, if◌then◌else◌}
use Rattle.btor2.specs.declared.item.Item.{Item}
use Rattle.btor2.specs.declared.item.Body.{Body}
use Rattle.btor2.specs.declared.item.Body.TheVariants as body
use Rattle.base.specs.declared.operators.Binary.TheVariants as binary
use Rattle.btor2.specs.Trace.{Frame}
use Rattle.btor2.specs.Worked.{line}
use Rattle.vcd.specs.declared.scope.Scope.{Scope}
use Rattle.vcd.specs.declared.scope.Shown.{Shown}
use Rattle.vcd.specs.Signals.{signals_in, signal_name}

-- an item with a name
abbrev pub item_named : ℕ → List ℕ → Body → Item
item_named id symbol says = record { id = id; symbol = Some symbol; body = says }

-- names that are plain and names that are not, an operator with a name and one without, and a property
abbrev pub many_names : List Item
many_names =
    line 1 (body.Sort 4)
    ∷ line 2 (body.Sort 1)
    ∷ item_named 3 (codes "top.a_1") (body.Input 1)
    ∷ item_named 4 (codes "mem[3]") (body.State 1)
    ∷ item_named 5 (codes "$end") (body.Input 1)
    ∷ line 6 (body.Binary binary.Add 1 3 5)
    ∷ item_named 7 (codes "1st") (body.Binary binary.Eq 2 6 4)
    ∷ item_named 8 (codes "reached") (body.Bad 7)
    ∷ line 9 (body.Output 6)
    ∷ line 10 (body.Next 1 4 6)
    ∷ []

-- signals of one name, names that could be that of a signal without a symbol or of one that is told apart, and properties with symbols and without
abbrev pub alike : List Item
alike =
    line 1 (body.Sort 1)
    ∷ item_named 2 (codes "a") (body.Input 1)
    ∷ item_named 3 (codes "a") (body.Input 1)
    ∷ item_named 4 (codes "n5") (body.Input 1)
    ∷ line 5 (body.Input 1)
    ∷ item_named 6 (codes "a#3") (body.Input 1)
    ∷ item_named 7 (codes "a#b") (body.Input 1)
    ∷ item_named 8 (codes "a") (body.State 1)
    ∷ item_named 9 (codes "kept") (body.Constraint 2)
    ∷ item_named 10 (codes "1") (body.Bad 2)
    ∷ line 11 (body.Bad 3)
    ∷ line 12 (body.Constraint 3)
    ∷ line 13 (body.Bad 4)
    ∷ item_named 14 (codes "bad:2") (body.Output 4)
    ∷ []

-- the names of the signals of a scope
abbrev pub names_in : Shown → List Item → Scope → List (List ℕ)
names_in s items c = map (signal_name s items c) (signals_in s items c)

-- a frame in which one node has a word, and all others 0
abbrev pub one_word : ℕ → ℕ → Frame
one_word node word id = if id == node then word else 0
