-- Counterexamples over an engine form as texts (those that ABC writes by `write_cex -a`: a line of initial bits, then one of input bits for each frame), and what they are of the circuit.
use Rattle.std.specs.Prelude.{◌≡◌, ◌≢◌, ℕ, Bool, false, Option, None, Some, slice_get, slice_index, unwrap_or, List, [], ◌∷◌, ◌++◌, length, map, take, replicate, All, ◌⊎◌}
use Rattle.std.specs.List.{position_from}
use Rattle.base.specs.Literal.{Valuation, literal_value}
use Rattle.aiger.specs.Circuit.{Circuit}
use Rattle.witness.specs.BitTexts.{BitWitness, bit_line}
use Rattle.engine_form.specs.EngineForm.{begins}

-- a line's end, or nothing of it, where the text ends: a mark ends it too, whatever stands behind
abbrev pub IsEndOfLine : List ℕ → Type 0
IsEndOfLine [] = Unit {0}
IsEndOfLine (b ∷ rest) = b ≡ 35

-- what may stand behind the bits of the last frame: nothing, the end of its line, or a mark there or at the begin of the next line
abbrev pub IsEndOfFrames : List ℕ → Type 0
IsEndOfFrames [] = Unit {0}
IsEndOfFrames (b ∷ rest) = (b ≡ 35) ⊎ ((b ≡ 10) × IsEndOfLine rest)

-- lines, with a line's end between two of them
abbrev pub lines_joined : List (List ℕ) → List ℕ
lines_joined [] = []
lines_joined (line ∷ []) = line
lines_joined (line ∷ next ∷ more) = line ++ 10 ∷ lines_joined (next ∷ more)

-- a text says these input frames, each of so many bits: a line of initial bits, of whatever number and all 0, then the frames, and the end
pub record SaysFrames (width : ℕ) (text : List ℕ) (given : List (List Bool)) : Type 0 where
  pub zeros : ℕ
  pub end : List ℕ
  pub whole : text ≡ lines_joined (replicate zeros 48 ∷ map bit_line given) ++ end
  pub some_frame : given ≢ []
  pub frames : All (λ bits. length bits ≡ width) given
  pub ends : IsEndOfFrames end

-- what input frames of an engine form are of its circuit: a witness with the bits that the latches begin with by the first frame, and the circuit's own inputs of each
abbrev pub restored : Circuit → ℕ → List (List Bool) → BitWitness
restored c claim given = record { claim = claim; initial = begins c given; frames = map (take c.inputs) given }

-- whether the first bad property of a form is 1 in the last of some frames
abbrev pub ends_bad : Circuit → List Valuation → Bool
ends_bad d [] = false
ends_bad d (w ∷ []) = unwrap_or (slice_get (map (literal_value w) d.bads) 0) false
ends_bad d (w ∷ next ∷ more) = ends_bad d (next ∷ more)

-- an engine form has property k of its circuit: it was made with all properties, or with that one alone; and where it stands among those of the form
abbrev pub HasProperty : Option ℕ → ℕ → Type 0
HasProperty None k = Unit {0}
HasProperty (Some j) k = j ≡ k

abbrev pub place_in : Option ℕ → ℕ → ℕ
place_in None k = k
place_in (Some j) k = 0

-- the first frame in which a bad property of a form is 1
abbrev pub first_bad : Circuit → ℕ → List Valuation → Option ℕ
first_bad d place ws = position_from (λ w. literal_value w (slice_index d.bads place)) 0 ws
