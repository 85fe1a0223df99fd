-- The lifted text of a witness of a circuit: what it says over the model that the circuit was made of ("AIGER 1.9 and Beyond" and "Btor2, BtorMC and Boolector 3.0", their witnesses; how the one becomes the other is this project's).
-- Each line of the witness gives a piece of whole lines, by the line's place and its bytes alone. Words are lifted with names behind them, as BtorMC writes them, or without.
use Rattle.std.specs.Prelude.{ℕ, zero, suc, Bool, true, false, not, List, [], ◌∷◌, ◌++◌, ◌==◌, Option, Some, None, option_and_then, if◌then◌else◌, codes, decimal, map, reverse, filter, take, drop}
use Rattle.std.specs.Str.{bytes_eq}
use Rattle.base.specs.Lines.{text_of_lines, whole_lines}
use Rattle.btor2.specs.declared.item.Item.{Item}
use Rattle.btor2.specs.Items.{is_input, is_state, is_free}
use Rattle.btor2.specs.Trace.{bits_of}
use Rattle.btor2.specs.Symbols.{is_symbol}
use Rattle.aiger.specs.Circuit.{Circuit}
use Rattle.blast.specs.Cost.{input_width}
use Rattle.witness.specs.Texts.{digit, symbol_part, shape_of, has_free}
use Rattle.witness.specs.BitAdmits.{admitted_lines}

-- ---- names

-- a symbol in a frame: behind it `@` and the frame's number
abbrev pub at_frame : List ℕ → ℕ → List ℕ
at_frame symbol k = symbol ++ 64 ∷ decimal k

-- the name of an item with a symbol in a frame: the symbol in the frame, where that is a symbol
abbrev pub name_in_frame : ℕ → List ℕ → Option (List ℕ)
name_in_frame k symbol = if is_symbol (at_frame symbol k) then Some (at_frame symbol k) else None

-- the name of an item in a frame: none where names are not asked for, or where it has no symbol
abbrev pub names : Bool → ℕ → Item → Option (List ℕ)
names false k x = None
names true k x = option_and_then (name_in_frame k) x.symbol

-- ---- words

-- the line that gives a leaf its word, of which these are the bits, the lowest first: the leaf's index, a space, and a digit for each bit, the highest first; then a space and the name, where there is one
abbrev pub word_line : ℕ → List Bool → Option (List ℕ) → List ℕ
word_line index bits name = decimal index ++ 32 ∷ map digit (reverse bits) ++ symbol_part name

-- the lines of some leaves of a model, whose indices count from a first one on: each that passes a test takes as many of the bits as it is wide, behind those of the leaves before it, and the others take none and have no line
abbrev pub word_lines : List Item → (Item → Bool) → (Item → Option (List ℕ)) → ℕ → List Item → List Bool → List (List ℕ)
word_lines items takes name index [] bits = []
word_lines items takes name index (x ∷ xs) bits =
    if takes x
    then word_line index (take (bits_of items x.id) bits) (name x) ∷ word_lines items takes name (suc index) xs (drop (bits_of items x.id) bits)
    else word_lines items takes name (suc index) xs bits

-- of the states that are free; an index counts all states in file order
abbrev pub free_lines : List Item → (Item → Option (List ℕ)) → List Bool → List (List ℕ)
free_lines items name bits = word_lines items (λ x. is_free items x.id) name 0 (filter (λ x. is_state x.body) items) bits

-- ---- pieces

-- of the initial bits: the words of the states that are carried from frame to frame; an index counts all states in file order
abbrev pub initial_piece : Bool → List Item → List Bool → List (List ℕ)
initial_piece named items bits = codes "#0" ∷ word_lines items (λ x. not (is_free items x.id)) (names named 0) 0 (filter (λ x. is_state x.body) items) bits

-- of the bits of the free states in a frame: in the first frame their words follow those of the initial bits, in a later one they stand behind a line of their own, where there is a free state
abbrev pub free_piece : Bool → List Item → ℕ → List Bool → List (List ℕ)
free_piece named items zero bits = free_lines items (names named 0) bits
free_piece named items (suc k) bits = if has_free (shape_of items) then (35 ∷ decimal (suc k)) ∷ free_lines items (names named (suc k)) bits else []

-- of the bits of a frame: those of the inputs come first, whose index counts all inputs in file order, and then those of the free states
abbrev pub frame_piece : Bool → List Item → ℕ → List Bool → List (List ℕ)
frame_piece named items k bits = free_piece named items k (drop (input_width items) bits) ++ (64 ∷ decimal k) ∷ word_lines items (λ x. true) (names named k) 0 (filter (λ x. is_input x.body) items) bits

-- the bits of a line
abbrev pub bits_of_line : List ℕ → List Bool
bits_of_line line = map (λ b. b == 49) line

-- the piece of a line behind so many others: the status, the claim, the initial bits, then a frame each, and the end
abbrev pub piece : Bool → List Item → ℕ → List ℕ → List (List ℕ)
piece named items zero line = codes "sat" ∷ []
piece named items (suc zero) line = line ∷ []
piece named items (suc (suc zero)) line = initial_piece named items (bits_of_line line)
piece named items (suc (suc (suc k))) line = if bytes_eq line (codes ".") then line ∷ [] else frame_piece named items k (bits_of_line line)

-- ---- a whole text

-- the pieces of lines, of which the first stands behind so many others
abbrev pub lifted_lines : Bool → List Item → ℕ → List (List ℕ) → List (List ℕ)
lifted_lines named items n [] = []
lifted_lines named items n (line ∷ lines) = piece named items n line ++ lifted_lines named items (suc n) lines

-- the lifted text of a source, with names or without: the pieces of its lines before the faulty one, or of all lines. Where the source makes no claim no line is admitted, and nothing is lifted
unfoldable pub lifted_with : Bool → List Item → Circuit → List ℕ → List ℕ
lifted_with named items c text = text_of_lines (lifted_lines named items 0 (take (admitted_lines c text) (whole_lines text)))

-- without names
abbrev pub lifted_text : List Item → Circuit → List ℕ → List ℕ
lifted_text items c text = lifted_with false items c text

-- with the symbols of inputs and states behind their words
abbrev pub named_text : List Item → Circuit → List ℕ → List ℕ
named_text items c text = lifted_with true items c text
