-- What is printed of what is wrong with a counterexample over an engine form, or of why it is not read or written: a number, a space and a name.
use Rattle.std.specs.Prelude.{ℕ, Bool, true, false, List, codes}
use Rattle.restore.specs.declared.fault.RestoreWhy.{RestoreWhy}
use Rattle.restore.specs.declared.fault.RestoreWhy.TheVariants.{NoFrame, InitialOne, NoBit, WrongLength, NoMemory, Device, Write}

-- the number that is printed for what is wrong
abbrev pub restore_why_number : RestoreWhy → ℕ
restore_why_number NoFrame = 150
restore_why_number InitialOne = 151
restore_why_number NoBit = 152
restore_why_number WrongLength = 153
restore_why_number NoMemory = 154
restore_why_number Device = 155
restore_why_number Write = 156

-- and the name
abbrev pub restore_why_name : RestoreWhy → List ℕ
restore_why_name NoFrame = codes "NoFrame"
restore_why_name InitialOne = codes "InitialOne"
restore_why_name NoBit = codes "NoBit"
restore_why_name WrongLength = codes "WrongLength"
restore_why_name NoMemory = codes "NoMemory"
restore_why_name Device = codes "Device"
restore_why_name Write = codes "Write"

-- whether it is wrong with a text: neither with its source, nor with what is written to, nor for want of memory
abbrev pub is_of_text : RestoreWhy → Bool
is_of_text Device = false
is_of_text NoMemory = false
is_of_text Write = false
is_of_text _ = true
