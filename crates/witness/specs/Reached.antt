-- Which claims of a text are reached in its closed frames: over a model ("Btor2, BtorMC and Boolector 3.0", semantics of witnesses) and over a circuit
-- ("AIGER 1.9 and Beyond", semantics).
use Rattle.std.specs.Prelude.{ℕ, Bool, ◌&&◌, ◌==◌, List, map}
use Rattle.std.specs.List.{list_any}
use Rattle.base.specs.Shown.{rises_in_some}
use Rattle.btor2.specs.declared.item.Item.{Item}
use Rattle.btor2.specs.Trace.{Frame}
use Rattle.btor2.specs.Reachability.{model_shows}
use Rattle.base.specs.Literal.{Valuation}
use Rattle.aiger.specs.Circuit.{Circuit}
use Rattle.aiger.specs.Trace.{IsCircuitTrace}
use Rattle.aiger.specs.Reachability.{circuit_shows}
use Rattle.witness.specs.Readings.{reading}
use Rattle.witness.specs.BitAdmits.{BitRead, bit_reader}
use Rattle.witness.specs.ClosedWords.{said_in}

-- ---- over a model

-- the lines of a text before the faulty one claim the bad property at a position
abbrev pub word_claimed : List Item → List ℕ → ℕ → Bool
word_claimed items text k = list_any (λ c. c == k) (said_in items text).claims

-- it is claimed, and 1 in a closed frame of the text
abbrev pub word_reached : List Item → List ℕ → List Frame → ℕ → Bool
word_reached items text fs k = word_claimed items text k && rises_in_some k (map (model_shows items) fs)

-- ---- over a circuit

-- what the lines of a text before the faulty one say
abbrev pub bits_said_in : Circuit → List ℕ → BitRead
bits_said_in c text = (reading (bit_reader c) text).read

-- a trace of the frames of a text whose lines stand before the faulty line
abbrev pub IsClosedBitTrace : Circuit → List ℕ → List Valuation → Type 0
IsClosedBitTrace c text vs = IsCircuitTrace c (bits_said_in c text).initial (bits_said_in c text).frames vs

-- the claim of a text is the bad property at a position
abbrev pub bit_claimed : Circuit → List ℕ → ℕ → Bool
bit_claimed c text k = (bits_said_in c text).claim == k

-- it is claimed, and 1 in a closed frame of the text
abbrev pub bit_reached : Circuit → List ℕ → List Valuation → ℕ → Bool
bit_reached c text vs k = bit_claimed c text k && rises_in_some k (map (circuit_shows c) vs)
