-- Worked rows: a latch that stays as it is, a circuit that watches one input, and what they share.
use Rattle.std.specs.Prelude.{[], ◌∷◌, None, Some, codes}
use Rattle.aiger.specs.declared.circuit.Reset.TheVariants.{Zero}
use Rattle.aiger.specs.Circuit.{Circuit, fresh_circuit}
use Rattle.aiger.specs.Worked.{toggler}
use Rattle.witness_circuits.specs.Mapping.{Mapping}

-- one latch that begins with 0 and takes itself, and is bad where it is 1
abbrev pub stays_off : Circuit
stays_off = record toggler { latches = record { next = 2; reset = Zero } ∷ [] }

-- an input, bad where it is 1
abbrev pub watcher : Circuit
watcher = record (fresh_circuit 1 0) { bads = 2 ∷ [] }

-- the same, whose property is an output
abbrev pub output_watcher : Circuit
output_watcher = record (fresh_circuit 1 0) { outputs = 2 ∷ [] }

-- the same, whose input is named as one that stands for literal 2
abbrev pub named_watcher : Circuit
named_watcher = record watcher { names = ((0, 0), codes "= 2") ∷ [] }

-- the latch of a circuit of one latch stands for that of another one, or for nothing
abbrev pub shared_latch : Mapping
shared_latch = record { inputs = []; latches = Some 2 ∷ [] }

abbrev pub own_latch : Mapping
own_latch = record { inputs = []; latches = None ∷ [] }

-- the input stands for it
abbrev pub watched_latch : Mapping
watched_latch = record { inputs = Some 2 ∷ []; latches = [] }

-- the input stands for nothing
abbrev pub watched_nothing : Mapping
watched_nothing = record { inputs = None ∷ []; latches = [] }
