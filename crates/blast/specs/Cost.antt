-- How many AND gates and variables a lowering takes at most (the bounds of this project's profile).
use Rattle.std.specs.Prelude.{ℕ, ◌+◌, List, sum_by}
use Rattle.btor2.specs.declared.item.Item.{Item}
use Rattle.btor2.specs.declared.item.Body.{Body}
use Rattle.btor2.specs.declared.item.Body.TheVariants as body
use Rattle.btor2.specs.Items.{is_input, is_state, is_free_state, is_carried_state}
use Rattle.btor2.specs.Trace.{bits_of}
use Rattle.btor2.specs.Leaves.{kind_width}
use Rattle.gates.specs.Bound.{unary_bound, binary_bound, ite_bound}

-- the gate bound of a line: an operator's at the width of its operands, 0 for every other line
abbrev pub line_cost : List Item → Body → ℕ
line_cost items (body.Unary op s a) = unary_bound op (bits_of items a)
line_cost items (body.Binary op s a b) = binary_bound op (bits_of items a)
line_cost items (body.Ite s c t e) = ite_bound (bits_of items t)
line_cost items _ = 0

-- the gate bound of a model: the sum of those of its lines
abbrev pub cost : List Item → ℕ
cost items = sum_by (λ x. line_cost items x.body) items

-- how many bits the inputs, the states, and the states that are not free of a model have together
abbrev pub input_width : List Item → ℕ
input_width items = kind_width items (λ x. is_input x.body) items

abbrev pub state_width : List Item → ℕ
state_width items = kind_width items (λ x. is_state x.body) items

abbrev pub carried_width : List Item → ℕ
carried_width items = kind_width items (is_carried_state items) items

-- how many bits are given in each frame: those of the inputs and of the free states. So many inputs the circuit of a model has, and as many latches as bits that are carried
abbrev pub given_width : List Item → ℕ
given_width items = input_width items + kind_width items (is_free_state items) items

-- the most variables that the circuit of a model takes: one for each input bit, each state bit and each gate
abbrev pub bound : List Item → ℕ
bound items = input_width items + state_width items + cost items
