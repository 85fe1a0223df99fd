-- What a lowering makes of the leaves and the observed lines of a model, in file order ("Btor2, BtorMC and Boolector 3.0" on one side, "AIGER 1.9 and Beyond" on the other; how the one becomes the other is this project's profile).
use Rattle.std.specs.Prelude.{ℕ, zero, suc, Bool, true, false, List, [], ◌∷◌, ◌++◌, Option, Some, None, if◌then◌else◌, map, replicate, decimal}
use Rattle.base.specs.Word.{bits}
use Rattle.btor2.specs.declared.item.Item.{Item}
use Rattle.btor2.specs.declared.item.Body.{Body}
use Rattle.btor2.specs.declared.item.Body.TheVariants as body
use Rattle.btor2.specs.Items.{is_input, is_bad, is_constraint, is_free_state, is_carried_state, init_word}
use Rattle.btor2.specs.Trace.{Frame, bits_of}
use Rattle.aiger.specs.declared.circuit.Reset.{Reset}
use Rattle.aiger.specs.declared.circuit.Reset.TheVariants as reset
use Rattle.aiger.specs.Circuit.{Names}

-- a test of an item by its body alone
abbrev pub by_body : (Body → Bool) → Item → Bool
by_body test x = test x.body

-- what the items of a kind give, one after another: of those that pass a test
abbrev pub given_by_kind : {A : Type 0} → (Item → Bool) → (Item → List A) → List Item → List A
given_by_kind kind give [] = []
given_by_kind kind give (x ∷ xs) = (if kind x then give x else []) ++ given_by_kind kind give xs

-- the bits of a leaf's word in a frame, the lowest first
abbrev pub leaf_bits : List Item → Frame → Item → List Bool
leaf_bits items f x = bits (bits_of items x.id) (f x.id)

-- the bits of the words that are given in a frame, leaf after leaf: of all inputs, and then of all free states
abbrev pub input_bits : List Item → Frame → List Bool
input_bits items input = given_by_kind (λ x. is_input x.body) (leaf_bits items input) items ++ given_by_kind (is_free_state items) (leaf_bits items input) items

-- the bits of the words that are carried into a frame, state after state: of all states that are not free
abbrev pub state_bits : List Item → Frame → List Bool
state_bits items state = given_by_kind (is_carried_state items) (leaf_bits items state) items

-- the name of a bit: the symbol, and the bit's number in brackets
abbrev pub bit_name : List ℕ → ℕ → List ℕ
bit_name symbol bit = symbol ++ 91 ∷ decimal bit ++ 93 ∷ []

-- the names of so many bits from a first one on: none without a symbol
abbrev pub bit_names : Option (List ℕ) → ℕ → ℕ → Names
bit_names symbol first zero = []
bit_names None first (suc count) = None ∷ bit_names None (suc first) count
bit_names (Some symbol) first (suc count) = Some (bit_name symbol first) ∷ bit_names (Some symbol) (suc first) count

-- the names of a leaf's bits, from bit 0 on
abbrev pub leaf_names : List Item → Item → Names
leaf_names items x = bit_names x.symbol 0 (bits_of items x.id)

-- the names of the bits that are given: of all inputs, and then of all free states
abbrev pub input_names : List Item → Names
input_names items = given_by_kind (λ x. is_input x.body) (leaf_names items) items ++ given_by_kind (is_free_state items) (leaf_names items) items

-- the names of the bits that are carried: of all states that are not free
abbrev pub state_names : List Item → Names
state_names items = given_by_kind (is_carried_state items) (leaf_names items) items

-- the name of a bad property or a constraint is its symbol
abbrev pub own_name : Item → Names
own_name x = x.symbol ∷ []

-- the names of the bad properties
abbrev pub bad_names : List Item → Names
bad_names items = given_by_kind (λ x. is_bad x.body) own_name items

-- the names of the constraints
abbrev pub constraint_names : List Item → Names
constraint_names items = given_by_kind (λ x. is_constraint x.body) own_name items

-- how a latch begins for a bit of an init constant
abbrev pub reset_of_bit : Bool → Reset
reset_of_bit true = reset.One
reset_of_bit false = reset.Zero

-- how the latches of so many bits begin: with the bits of a word, and freely without one
abbrev pub resets_of_word : ℕ → Option ℕ → List Reset
resets_of_word width None = replicate width reset.Free
resets_of_word width (Some x) = map reset_of_bit (bits width x)

-- how the latches of one state of a model begin: with the bits of its word
abbrev pub leaf_resets : List Item → Item → List Reset
leaf_resets items x = resets_of_word (bits_of items x.id) (init_word items x.id)

-- how the latches begin: those of all states that are not free
abbrev pub state_resets : List Item → List Reset
state_resets items = given_by_kind (is_carried_state items) (leaf_resets items) items

-- whether a line is an output
abbrev pub is_output : Body → Bool
is_output (body.Output a) = true
is_output _ = false

-- how many bits an output line shows, and which they are in a frame, the lowest first: those of its node's word
abbrev pub shown_width : List Item → Body → ℕ
shown_width items (body.Output a) = bits_of items a
shown_width items _ = 0

abbrev pub shown_bits : List Item → Frame → Body → List Bool
shown_bits items f (body.Output a) = bits (bits_of items a) (f a)
shown_bits items f _ = []

-- the bits that are shown in a frame, output after output
abbrev pub output_bits : List Item → Frame → List Bool
output_bits items f = given_by_kind (λ x. is_output x.body) (λ x. shown_bits items f x.body) items

-- the names of the bits that are shown: of each output line's, from bit 0 on
abbrev pub output_names : List Item → Names
output_names items = given_by_kind (λ x. is_output x.body) (λ x. bit_names x.symbol 0 (shown_width items x.body)) items
