-- The numbers and names of what can be wrong with a circuit's text (they are this project's).
use Rattle.std.specs.Prelude.{ℕ, List, codes}
use Rattle.aigertext.specs.declared.fault.Why.{Why}
use Rattle.aigertext.specs.declared.fault.Why.TheVariants.{BadHeader, CountsDisagree, BadNumber, BadLatch, GateOrder, DeltaNotShortest, DeltaTooLong, BadSymbol, Truncated, TooBig, Cycle, Undefined, Device, NoMemory}

-- the number and the name that are printed for a why
abbrev pub why_row : Why → ℕ × List ℕ
why_row BadHeader = (50, codes "BadHeader")
why_row CountsDisagree = (51, codes "CountsDisagree")
why_row BadNumber = (52, codes "BadNumber")
why_row BadLatch = (53, codes "BadLatch")
why_row GateOrder = (54, codes "GateOrder")
why_row DeltaNotShortest = (55, codes "DeltaNotShortest")
why_row DeltaTooLong = (56, codes "DeltaTooLong")
why_row BadSymbol = (57, codes "BadSymbol")
why_row Truncated = (58, codes "Truncated")
why_row TooBig = (59, codes "TooBig")
why_row Device = (60, codes "Device")
why_row NoMemory = (61, codes "NoMemory")
why_row Cycle = (62, codes "Cycle")
why_row Undefined = (63, codes "Undefined")

abbrev pub circuit_why_number : Why → ℕ
circuit_why_number w = (why_row w).0

abbrev pub circuit_why_name : Why → List ℕ
circuit_why_name w = (why_row w).1
