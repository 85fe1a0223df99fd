-- The lines of a model as `full` has them, of those that are kept.
use Rattle.std.specs.Prelude.{◌≡◌, ℕ, List, [], map, Option, None}
use Rattle.wide.specs.Lines.{number_of_digits, constant_body}
use Rattle.wide.specs.Entries.{digits_sort}
use Rattle.fullmodel.specs.declared.line.Operand.{Operand}
use Rattle.fullmodel.specs.declared.line.Line.{Line}
use Rattle.fullmodel.specs.declared.line.Says.{Says}
use Rattle.fullmodel.specs.declared.line.Says.TheVariants as says
use Rattle.fullmodel.specs.declared.sorts.Sort.{Sort}
use Rattle.fullmodel.specs.declared.sorts.Sort.TheVariants as sort
use Rattle.full.specs.Lines as full

-- an operand
abbrev pub operand_of : Operand → full.Operand
operand_of o = full.operand o.id o.minus

-- a sort
abbrev pub sort_value : Sort → full.Sort
sort_value (sort.Words n) = full.words n
sort_value (sort.Arrays k n) = full.arrays k n

-- what a line says: a constant in digits is a form of its number
abbrev pub says_of : Says → full.Says
says_of (says.Form b minuses) = full.form b minuses.items
says_of (says.Constant s spelling count number) = full.form (constant_body spelling s count (number_of_digits number.items)) []
says_of (says.ArraySort index element) = full.array_sort index element
says_of (says.Read s array index) = full.read s array (operand_of index)
says_of (says.Write s array index word) = full.write s array (operand_of index) (operand_of word)

-- a line, and lines
abbrev pub line_of : Line → full.FullLine
line_of x = record { id = x.id; symbol = x.symbol; says = says_of x.says }

abbrev pub lines_in : List Line → List full.FullLine
lines_in lines = map line_of lines

-- a form is no constant in digits
abbrev pub HasNoDigits : Says → Type 0
HasNoDigits (says.Form b minuses) = digits_sort b ≡ None
HasNoDigits _ = Unit {0}
