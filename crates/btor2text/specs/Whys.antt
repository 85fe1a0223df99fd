-- The numbers and names of what can be wrong with a model's text (they are this project's).
use Rattle.std.specs.Prelude.{ℕ, List, codes}
use Rattle.btor2.specs.Faults as push
use Rattle.btor2text.specs.declared.fault.Why.{Why}
use Rattle.btor2text.specs.declared.fault.Why.TheVariants.{BadToken, ArraySort, ArrayOperator, UnknownOperator, NegativeOperand, ConstantDoesNotFit, BadSymbol, Refused, Unfinished, Device, NoMemory}

-- The number and the name of a why. For a refusal of the model by another number the number is 27, whatever that number is, and the name is that refusal's own.
abbrev pub line_why_row : Why → ℕ × List ℕ
line_why_row BadToken = (20, codes "BadToken")
line_why_row ArraySort = (21, codes "ArraySort")
line_why_row ArrayOperator = (22, codes "ArrayOperator")
line_why_row UnknownOperator = (23, codes "UnknownOperator")
line_why_row NegativeOperand = (24, codes "NegativeOperand")
line_why_row ConstantDoesNotFit = (25, codes "ConstantDoesNotFit")
line_why_row BadSymbol = (26, codes "BadSymbol")
line_why_row (Refused f) = (27, push.push_fault_name f)
line_why_row Unfinished = (28, codes "Unfinished")
line_why_row Device = (29, codes "Device")
line_why_row NoMemory = (30, codes "NoMemory")

abbrev pub line_why_number : Why → ℕ
line_why_number w = (line_why_row w).0

-- the number that is printed for a why: a refusal of the model is told by its own
abbrev pub printed_number : Why → ℕ
printed_number (Refused f) = push.push_fault_number f
printed_number w = line_why_number w

-- the name that is printed for a why
abbrev pub line_why_name : Why → List ℕ
line_why_name w = (line_why_row w).1
