-- In which frame each claim of a text is reached first: over a model ("Btor2, BtorMC and Boolector 3.0", semantics of witnesses) and over a circuit
-- ("AIGER 1.9 and Beyond", semantics). That it is told is this project's.
use Rattle.std.specs.Prelude.{◌≡◌, ℕ, zero, suc, Bool, List, [], ◌∷◌, map, length, Option, None, if◌then◌else◌}
use Rattle.std.specs.List.{position_from}
use Rattle.base.specs.Shown.{Shown, is_bad_in}
use Rattle.base.specs.Literal.{Valuation}
use Rattle.btor2.specs.declared.item.Item.{Item}
use Rattle.btor2.specs.Items.{is_bad}
use Rattle.btor2.specs.Trace.{Frame}
use Rattle.btor2.specs.Reachability.{nodes_of, model_shows}
use Rattle.aiger.specs.Circuit.{Circuit}
use Rattle.aiger.specs.Reachability.{circuit_shows}
use Rattle.witness.specs.Reached.{word_claimed, IsClosedBitTrace, bit_claimed}

-- the first frame, counted from 0, in which a bad property is 1
abbrev pub first_rise : List Shown → ℕ → Option ℕ
first_rise shown k = position_from (is_bad_in k) 0 shown

-- the first rises of so many bad properties, which are counted from k on: of each that is claimed, and none of another
abbrev pub first_rises_from : (ℕ → Bool) → List Shown → ℕ → ℕ → List (Option ℕ)
first_rises_from claimed shown k zero = []
first_rises_from claimed shown k (suc more) = (if claimed k then first_rise shown k else None) ∷ first_rises_from claimed shown (suc k) more

-- of the bad properties of a model, in file order, in the closed frames of a text
abbrev pub word_first_rises : List Item → List ℕ → List Frame → List (Option ℕ)
word_first_rises items text fs = first_rises_from (word_claimed items text) (map (model_shows items) fs) 0 (length (nodes_of is_bad items))

-- the same of a circuit
abbrev pub bit_first_rises : Circuit → List ℕ → List Valuation → List (Option ℕ)
bit_first_rises c text vs = first_rises_from (bit_claimed c text) (map (circuit_shows c) vs) 0 (length c.bads)

-- these are the first rises of a text over a circuit: those in each trace of its closed frames
abbrev pub AreBitFirstRises : Circuit → List ℕ → List (Option ℕ) → Type 0
AreBitFirstRises c text firsts = (vs : List Valuation) → IsClosedBitTrace c text vs → firsts ≡ bit_first_rises c text vs
