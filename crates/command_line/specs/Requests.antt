-- What is asked for at a terminal.
use Rattle.std.specs.Prelude.{Bool}
use Rattle.std.specs.Bool.{⊤}
use Rattle.invocation.specs.declared.tasks.Order.{Order}
use Rattle.invocation.specs.declared.tasks.Request.{Request}
use Rattle.invocation.specs.declared.tasks.Request.TheVariants as request

-- P of the order that is asked for, where it is one
abbrev pub IfOne : Request → (Order → Type 0) → Type 0
IfOne (request.One o) P = P o
IfOne (request.Many l) P = ⊤

-- the same with progress told or not
abbrev pub with_progress : Bool → Request → Request
with_progress told (request.One o) = request.One (record o { tells_progress = told })
with_progress told (request.Many l) = request.Many l
