-- What the faults say of rows of needs.
use Rattle.std.specs.Prelude.{ℕ, List}
use Rattle.order.specs.declared.fault.OrderFault.{OrderFault}
use Rattle.order.specs.declared.fault.OrderFault.TheVariants.{Circle, NoMemory}
use Rattle.order.specs.Orders.{IsInCircle}

-- the number of a circle lies on one
abbrev pub FaultHolds : List (List ℕ) → OrderFault → Type 0
FaultHolds needs (Circle k) = IsInCircle needs k
FaultHolds needs NoMemory = Unit {0}
