-- The lines of a circuit's text ("AIGER 1.9 and Beyond", ascii format): the one spelling that the writer gives.
use Rattle.std.specs.Prelude.{ℕ, suc, zero, ◌*◌, List, [], ◌∷◌, ◌++◌, length, Option, Some, None, codes, flat_map, decimal}
use Rattle.aiger.specs.declared.circuit.Reset.{Reset}
use Rattle.aiger.specs.declared.circuit.Reset.TheVariants.{Zero, One, Free}
use Rattle.aigertext.specs.declared.forms.Form.{Form}
use Rattle.aigertext.specs.declared.forms.Form.TheVariants.{Ascii, Binary}
use Rattle.aiger.specs.declared.circuit.Section.{Section}
use Rattle.aiger.specs.Circuit.{Circuit, Names, letter, all_sections, section_names}
use Rattle.aigertext.specs.Counts.{first_of_counts, last_of_counts, counts_in}

-- a line of numbers: decimals with one space between, and byte 10
abbrev pub numbers_line : List ℕ → List ℕ
numbers_line [] = 10 ∷ []
numbers_line (n ∷ []) = decimal n ++ 10 ∷ []
numbers_line (n ∷ m ∷ ns) = decimal n ++ 32 ∷ numbers_line (m ∷ ns)

-- a number and those behind it, nothing where all of them are 0
abbrev pub before_kept : ℕ → List ℕ → List ℕ
before_kept zero [] = []
before_kept (suc n) [] = suc n ∷ []
before_kept n (m ∷ ns) = n ∷ m ∷ ns

-- numbers without the zeros at their end
abbrev pub without_zero_tail : List ℕ → List ℕ
without_zero_tail [] = []
without_zero_tail (n ∷ ns) = before_kept n (without_zero_tail ns)

-- the first word of a text
abbrev pub form_word : Form → List ℕ
form_word Ascii = codes "aag"
form_word Binary = codes "aig"

-- the header: the form's word, the first counts, and then the last counts as far as they are not 0
abbrev pub header : Form → Circuit → List ℕ
header form c = form_word form ++ 32 ∷ numbers_line (first_of_counts (counts_in c) ++ without_zero_tail (last_of_counts (counts_in c)))

-- a line of numbers, where there are any
abbrev pub kept_line : List ℕ → List ℕ
kept_line [] = []
kept_line (n ∷ ns) = numbers_line (n ∷ ns)

-- a line for each input: its literal. The first has the given variable
abbrev pub input_lines : ℕ → ℕ → List ℕ
input_lines first zero = []
input_lines first (suc count) = numbers_line (2 * first ∷ []) ++ input_lines (suc first) count

-- the number of a reset, left out where it is 0: 1, or the latch's own literal where it has no initial value
abbrev pub reset_numbers : ℕ → Reset → List ℕ
reset_numbers own Zero = []
reset_numbers own One = 1 ∷ []
reset_numbers own Free = own ∷ []

-- a line for each literal
abbrev pub literal_lines : List ℕ → List ℕ
literal_lines [] = []
literal_lines (l ∷ ls) = numbers_line (l ∷ []) ++ literal_lines ls

-- a line for each list: how many literals it has
abbrev pub size_lines : List (List ℕ) → List ℕ
size_lines [] = []
size_lines (ls ∷ lists) = numbers_line (length ls ∷ []) ++ size_lines lists

-- a line for each literal of each list
abbrev pub list_lines : List (List ℕ) → List ℕ
list_lines [] = []
list_lines (ls ∷ lists) = literal_lines ls ++ list_lines lists

-- the lines of the justice properties: the sizes of all of them, then their literals
abbrev pub justice_lines : List (List ℕ) → List ℕ
justice_lines lists = size_lines lists ++ list_lines lists

-- the line of a name: the section's letter with the position, a space and the name; nothing where there is no name
abbrev pub name_line : ℕ → ℕ → Option (List ℕ) → List ℕ
name_line letter position None = []
name_line letter position (Some name) = letter ∷ decimal position ++ 32 ∷ name ++ 10 ∷ []

-- a line for each name of a section, the first of which has the given position
abbrev pub name_lines : ℕ → ℕ → Names → List ℕ
name_lines letter position [] = []
name_lines letter position (n ∷ ns) = name_line letter position n ++ name_lines letter (suc position) ns

-- a line for each name of a section
abbrev pub names_of : Circuit → Section → List ℕ
names_of c s = name_lines (letter s) 0 (section_names s c)

-- the names, by section in the order of the letters i l o b c j f
abbrev pub all_names : Circuit → List ℕ
all_names c = flat_map (names_of c) all_sections

-- the lines of outputs, bad properties, constraints, justice properties and fairness constraints
abbrev pub property_lines : Circuit → List ℕ
property_lines c =
    literal_lines c.outputs ++ (literal_lines c.bads ++ (literal_lines c.constraints
    ++ (justice_lines c.justice ++ literal_lines c.fair)))
