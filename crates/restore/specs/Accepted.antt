-- When what a text is restored to is a counterexample of the circuit again (the theorem of the way back).
use Rattle.std.specs.Prelude.{◌≡◌, ℕ, ◌+◌, ◌≤◌, Bool, false, List, length, map, replicate, Option, Some, option_map}
use Rattle.std.specs.List.{position_from}
use Rattle.base.specs.Literal.{Valuation}
use Rattle.base.specs.Shown.{is_bad_in}
use Rattle.aiger.specs.Circuit.{Circuit}
use Rattle.aiger.specs.Reachability.{circuit_shows}
use Rattle.aiger.specs.Trace.{IsCircuitTrace}
use Rattle.engine_form.specs.EngineForm.{input_count, IsEngineFormOf}
use Rattle.witness.specs.declared.judgement.Judgement.{Judgement}
use Rattle.witness.specs.declared.judgement.Judgement.TheVariants as judgement
use Rattle.witness.specs.Reached.{bits_said_in, IsClosedBitTrace}
use Rattle.witness.specs.Texts.{most_lines}
use Rattle.restore.specs.Counterexample.{HasProperty, place_in, first_bad}
use Rattle.restore.specs.Reading.{whole, read_found}

-- A judgement over a circuit of what a text is restored to: where the text's frames make the property of an engine form 1 in a frame, it is accepted, with the frames up to and with the first such one.
abbrev pub FindsAgain : Circuit → ℕ → List ℕ → Judgement → Type 0
FindsAgain c k text j =
    (choice : Option ℕ) (d : Circuit) (given : List (List Bool)) (ws : List Valuation) (n : ℕ) → IsEngineFormOf c choice d → HasProperty choice k
    → read_found (input_count c) text ≡ whole given → length given + 4 ≤ most_lines → IsCircuitTrace d (replicate (length d.latches) false) given ws → first_bad d (place_in choice k) ws ≡ Some n
    → j ≡ judgement.Accepted (n + 1)

-- this is the bad property that a text over a circuit claims, with the first of the text's closed frames in which it is 1, where there is one
abbrev pub IsFirstRise : Circuit → List ℕ → Option (ℕ × ℕ) → Type 0
IsFirstRise c text first =
    (vs : List Valuation) → IsClosedBitTrace c text vs
    → first ≡ option_map (λ frame. ((bits_said_in c text).claim, frame)) (position_from (is_bad_in (bits_said_in c text).claim) 0 (map (circuit_shows c) vs))
