-- A worked net that begins to grow: two inputs with no gate.
use Rattle.std.specs.Prelude.{[]}
use Rattle.aiger.specs.Net.{Net}

-- two inputs and no gate
abbrev pub no_gate : Net
no_gate = record { inputs = 2; latches = 0; gates = [] }
