-- Worked rows: small models whose lowering can be worked out by hand. The model of one bit that toggles is `toggler` of the models' crate.
use Rattle.std.specs.Prelude.{ℕ, List, [], ◌∷◌, Some, codes}
use Rattle.base.specs.declared.operators.Unary.TheVariants as unary
use Rattle.base.specs.declared.operators.Binary.TheVariants as binary
use Rattle.btor2.specs.declared.item.Item.{Item}
use Rattle.btor2.specs.declared.item.Body.{Body}
use Rattle.btor2.specs.declared.item.Body.TheVariants as body
use Rattle.btor2.specs.Worked.{line, items_numbered}
use Rattle.aiger.specs.declared.circuit.Reset.TheVariants as reset
use Rattle.aiger.specs.Circuit.{Circuit, fresh_circuit}

-- an item with a name
abbrev pub named_item : ℕ → List ℕ → Body → Item
named_item id name says = record { id = id; symbol = Some name; body = says }

-- a state of two bits, without an init line, whose next word is its and with an input
abbrev pub masked : List Item
masked = items_numbered 1 (body.Sort 2 ∷ body.Input 1 ∷ body.State 1 ∷ body.Binary binary.And 1 2 3 ∷ body.Next 1 3 4 ∷ [])

-- the toggling bit with the name t, bad where it is 1; a bit of input, x, is asked to be 1
abbrev pub named_toggler : List Item
named_toggler =
    line 1 (body.Sort 1)
    ∷ line 2 (body.Zero 1)
    ∷ named_item 3 (codes "t") (body.State 1)
    ∷ line 4 (body.Init 1 3 2)
    ∷ line 5 (body.Unary unary.Not 1 3)
    ∷ line 6 (body.Next 1 3 5)
    ∷ named_item 7 (codes "p") (body.Bad 3)
    ∷ named_item 8 (codes "x") (body.Input 1)
    ∷ line 9 (body.Constraint 8)
    ∷ []

-- a free state f, a state s that has its word a frame later and is bad where it is 1, and an input x that nothing names
abbrev pub named_follower : List Item
named_follower =
    line 1 (body.Sort 1)
    ∷ named_item 2 (codes "f") (body.State 1)
    ∷ named_item 3 (codes "s") (body.State 1)
    ∷ named_item 4 (codes "x") (body.Input 1)
    ∷ line 5 (body.Next 1 3 2)
    ∷ line 6 (body.Bad 3)
    ∷ []

-- its circuit: x and then f are the inputs, and s is a latch that takes f
abbrev pub follower_circuit : Circuit
follower_circuit =
    record (fresh_circuit 2 1) {
      latches = record { next = 4; reset = reset.Free } ∷ [];
      bads = 6 ∷ [];
      names = ((0, 0), codes "x[0]") ∷ ((0, 1), codes "f[0]") ∷ ((1, 0), codes "s[0]") ∷ [];
    }

-- a free state alone, its circuit of one input, and a circuit that takes it for a latch
abbrev pub free_alone : List Item
free_alone = items_numbered 1 (body.Sort 1 ∷ body.State 1 ∷ [])

abbrev pub input_circuit : Circuit
input_circuit = fresh_circuit 1 0

abbrev pub latch_circuit : Circuit
latch_circuit = fresh_circuit 0 1

-- a state with an init line and no next line
abbrev pub init_alone : List Item
init_alone = items_numbered 1 (body.Sort 1 ∷ body.Zero 1 ∷ body.State 1 ∷ body.Init 1 3 2 ∷ [])

-- two bits of input, bad where both are 1
abbrev pub both_bits : List Item
both_bits = items_numbered 1 (body.Sort 1 ∷ body.Input 1 ∷ body.Input 1 ∷ body.Binary binary.And 1 2 3 ∷ body.Bad 4 ∷ [])

-- two inputs, a bad property that is false, and a gate that would be its own negation, which no valuation satisfies
abbrev pub unsatisfied : Circuit
unsatisfied = record (fresh_circuit 2 0) { gates = record { rhs0 = 7; rhs1 = 1 } ∷ []; bads = 0 ∷ [] }

-- two bits of input, x, which are shown negated, as y
abbrev pub named_inverter : List Item
named_inverter =
    line 1 (body.Sort 2)
    ∷ named_item 2 (codes "x") (body.Input 1)
    ∷ line 3 (body.Unary unary.Not 1 2)
    ∷ named_item 4 (codes "y") (body.Output 3)
    ∷ []

-- its circuit: the outputs are the negated inputs
abbrev pub inverter_circuit : Circuit
inverter_circuit =
    record (fresh_circuit 2 0) {
      outputs = 3 ∷ 5 ∷ [];
      names = ((0, 0), codes "x[0]") ∷ ((0, 1), codes "x[1]") ∷ ((2, 0), codes "y[0]") ∷ ((2, 1), codes "y[1]") ∷ [];
    }

-- and the same without outputs
abbrev pub without_outputs : Circuit
without_outputs = record inverter_circuit { outputs = []; names = ((0, 0), codes "x[0]") ∷ ((0, 1), codes "x[1]") ∷ [] }

-- a state of two bits, s, that keeps its word, bad where its higher bit is 1
abbrev pub named_keeper : List Item
named_keeper =
    line 1 (body.Sort 2)
    ∷ line 2 (body.Sort 1)
    ∷ named_item 3 (codes "s") (body.State 1)
    ∷ line 4 (body.Next 1 3 3)
    ∷ line 5 (body.Slice 2 3 1 1)
    ∷ line 6 (body.Bad 5)
    ∷ []

-- its circuit: each latch takes its own bit, and the second is the bad property
abbrev pub keeper_circuit : Circuit
keeper_circuit =
    record (fresh_circuit 0 2) {
      latches = record { next = 2; reset = reset.Free } ∷ record { next = 4; reset = reset.Free } ∷ [];
      bads = 4 ∷ [];
      names = ((1, 0), codes "s[0]") ∷ ((1, 1), codes "s[1]") ∷ [];
    }

-- a fairness line before a justice line, and a justice line before a state with an init line and no next line
abbrev pub fair_first : List Item
fair_first = items_numbered 1 (body.Sort 1 ∷ body.Input 1 ∷ body.Fair 2 ∷ body.Justice (2 ∷ []) ∷ [])

abbrev pub justice_first : List Item
justice_first = items_numbered 1 (body.Sort 1 ∷ body.Zero 1 ∷ body.Justice (2 ∷ []) ∷ body.State 1 ∷ body.Init 1 4 2 ∷ [])
