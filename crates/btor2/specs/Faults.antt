-- The numbers and names of the refusals of a push, and of bytes that are no symbol (they are this project's).
use Rattle.std.specs.Prelude.{ℕ, List, codes}
use Rattle.btor2.specs.declared.symbol.SymbolFault.{SymbolFault}
use Rattle.btor2.specs.declared.symbol.SymbolFault.TheVariants as symbol
use Rattle.btor2.specs.declared.fault.PushFault.{PushFault}
use Rattle.btor2.specs.declared.fault.PushFault.TheVariants.{TooManyItems, IdOutOfRange, IdTaken, NoSuchSort, NoSuchNode, NotAState, WidthOutOfRange, SliceOutOfRange, SortMismatch, ConstantDoesNotFit, InitNotConstant, SecondInit, SecondNext, JusticeEmpty, NoMemory}

-- the number and the name that are printed for a refusal
abbrev pub push_fault_row : PushFault → ℕ × List ℕ
push_fault_row IdTaken = (1, codes "IdTaken")
push_fault_row IdOutOfRange = (2, codes "IdOutOfRange")
push_fault_row NoSuchSort = (3, codes "NoSuchSort")
push_fault_row NoSuchNode = (4, codes "NoSuchNode")
push_fault_row WidthOutOfRange = (5, codes "WidthOutOfRange")
push_fault_row SortMismatch = (6, codes "SortMismatch")
push_fault_row SliceOutOfRange = (7, codes "SliceOutOfRange")
push_fault_row NotAState = (8, codes "NotAState")
push_fault_row SecondInit = (9, codes "SecondInit")
push_fault_row SecondNext = (10, codes "SecondNext")
push_fault_row InitNotConstant = (11, codes "InitNotConstant")
push_fault_row TooManyItems = (12, codes "TooManyItems")
push_fault_row JusticeEmpty = (13, codes "JusticeEmpty")
push_fault_row NoMemory = (14, codes "NoMemory")
push_fault_row ConstantDoesNotFit = (15, codes "ConstantDoesNotFit")

abbrev pub push_fault_number : PushFault → ℕ
push_fault_number fault = (push_fault_row fault).0

abbrev pub push_fault_name : PushFault → List ℕ
push_fault_name fault = (push_fault_row fault).1

-- the number that is printed for bytes that are no symbol
abbrev pub symbol_fault_number : SymbolFault → ℕ
symbol_fault_number symbol.BadBytes = 16
symbol_fault_number symbol.NoMemory = 17

-- the name that is printed for them
abbrev pub symbol_fault_name : SymbolFault → List ℕ
symbol_fault_name symbol.BadBytes = codes "BadBytes"
symbol_fault_name symbol.NoMemory = codes "NoMemory"
