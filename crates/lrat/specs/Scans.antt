-- Where the next byte of a proof in the binary form stands.
use Rattle.std.specs.Prelude.{◌≡◌, ℕ, nat_lt, true, false, List}
use Rattle.base.specs.Decimals.{is_nothing}
use Rattle.drup.specs.Numbers.{SpellsNumber}
use Rattle.drup.specs.Proofs.{most_proof_lines}
use Rattle.lrat.specs.declared.scan.Scan.{Scan}
use Rattle.lrat.specs.declared.scan.Spot.{Spot as CodeSpot}
use Rattle.lrat.specs.declared.scan.Spot.TheVariants as spot
use Rattle.lrat.specs.BinaryHintedProofs.{Spot, at_step, at_id, at_literal, at_other}

-- where a piece stands, as the code has it
abbrev pub spot_of : CodeSpot → Spot
spot_of spot.Step = at_step
spot_of spot.Id = at_id
spot_of spot.Literal = at_literal
spot_of spot.Other = at_other

-- in a place it is not between two steps
abbrev pub IsWithin : CodeSpot → Type 0
IsWithin spot.Step = ⊥
IsWithin spot.Id = Unit {0}
IsWithin spot.Literal = Unit {0}
IsWithin spot.Other = Unit {0}

-- a number begins where the next byte stands: none has, and it is not between two steps
pub record BeginsNumber (s : Scan) : Type 0 where
  pub within : IsWithin s.spot
  pub none : (bytes : List ℕ) → SpellsNumber s.number bytes → is_nothing bytes ≡ true

-- a step that adds a clause begins with a byte: none has, and it is not one too many
pub record BeginsAddition (s : Scan) (byte : ℕ) : Type 0 where
  pub at : s.spot ≡ spot.Step
  pub letter : byte ≡ 97
  pub few : nat_lt most_proof_lines s.step ≡ false
  pub none : (bytes : List ℕ) → SpellsNumber s.number bytes → is_nothing bytes ≡ true

-- in a place it is in a list
abbrev pub IsInList : CodeSpot → Type 0
IsInList spot.Step = ⊥
IsInList spot.Id = ⊥
IsInList spot.Literal = Unit {0}
IsInList spot.Other = Unit {0}

-- with a byte where a number begins a list ends
abbrev pub EndsList : Scan → ℕ → Type 0
EndsList s byte = IsInList s.spot × (byte ≡ 0)
