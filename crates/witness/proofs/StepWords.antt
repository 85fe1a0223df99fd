-- Words of proofs for what a line makes of what is read, part by part.
use Rattle.std.proofs.Common.{ℕ, Bool, false, List, ◌∷◌, Option, Some, Result, option_map, option_and_then, []}
use Rattle.std.specs.Option.{option_map_or}
use Rattle.witness.specs.declared.why.Why.{Why}
use Rattle.witness.specs.Texts.{Shape, is_free_index, Assignment}
use Rattle.witness.specs.Readings.{with_said}
use Rattle.witness.specs.Admits.{Claim, Read, AtParts, InFrame}
use Rattle.witness.specs.BitAdmits.{BitRead, AtInitial, AtFirst}

-- the bytes before a space, and those behind it where there is one
abbrev pub Cut : Type 0
Cut = List ℕ × Option (List ℕ)

abbrev pub to_front : ℕ → Cut → Cut
to_front b cut = (b ∷ cut.0, cut.1)

-- a claim with this number, and one before others
abbrev pub claim_with : Bool → Option ℕ → Option Claim
claim_with justice o = option_map (λ (i : ℕ). record { justice = justice; index = i }) o

abbrev pub with_claim : Option Claim → Option (List Claim) → Option (List Claim)
with_claim o more = option_and_then (λ (c : Claim). option_map (λ (list : List Claim). c ∷ list) more) o

-- a number that is there and is the index of a free state
abbrev pub names_free : Shape → Option ℕ → Bool
names_free shape o = option_map_or (is_free_index shape) o false

-- what is read behind a line of claims, of an assignment, of a claim and of initial bits
abbrev pub after_claims : Read → Result (List ℕ) Why → Result Read Why
after_claims r o = with_said (λ (claims : List ℕ). record r { place = AtParts; claims = claims }) o

abbrev pub after_assignment : Read → Result (List Assignment) Why → Result Read Why
after_assignment r o = with_said (λ (list : List Assignment). record r { open_part = list }) o

abbrev pub after_claim : BitRead → Result ℕ Why → Result BitRead Why
after_claim r o = with_said (λ (i : ℕ). record r { place = AtInitial; claim = i }) o

abbrev pub after_initial : BitRead → Result (List Bool) Why → Result BitRead Why
after_initial r o = with_said (λ (bits : List Bool). record r { place = AtFirst; initial = bits }) o

-- the states' part is closed, and the frame's inputs follow
abbrev pub states_closed : Read → Read
states_closed r = record r { place = InFrame; states = Some r.open_part; open_part = [] }
