-- When a lifted text says over the model what its source says over the circuit (the order of the judgements is this project's, and so is what becomes of each by lifting).
use Rattle.std.specs.Prelude.{◌≡◌, ℕ, suc, ◌≤◌, List, [], ◌∷◌, ◌++◌, Some, if◌then◌else◌, filter, length, replicate, slice_get}
use Rattle.base.specs.Lines.{whole_lines}
use Rattle.btor2.specs.declared.item.Item.{Item}
use Rattle.btor2.specs.Items.{is_state, is_free}
use Rattle.btor2.specs.Trace.{bits_of}
use Rattle.aiger.specs.Circuit.{Circuit}
use Rattle.witness.specs.declared.judgement.Judgement.{Judgement}
use Rattle.witness.specs.declared.judgement.Judgement.TheVariants as judgement
use Rattle.witness.specs.Texts.{Witness, Says, shape_of, most_lines}
use Rattle.witness.specs.Judgements.{Judges}
use Rattle.witness.specs.BitTexts.{BitWitness, BitSays}
use Rattle.lift.specs.Lifted.{lifted_text}

-- for each latch of some states of a model, whose indices count from a first one on, the index of the state that it belongs to: as many latches belong to a state that is carried as it is wide, and none to a free one
abbrev pub owners : List Item → ℕ → List Item → List ℕ
owners items index [] = []
owners items index (x ∷ xs) = (if is_free items x.id then [] else replicate (bits_of items x.id) index) ++ owners items (suc index) xs

-- of all states, in file order
abbrev pub latch_states : List Item → List ℕ
latch_states items = owners items 0 (filter (λ x. is_state x.body) items)

-- a judgement over the model is the same verdict as one over the circuit: where an initial bit differs it names the state that the latch belongs to, and else it is the same judgement
abbrev pub IsSameVerdict : List Item → Judgement → Judgement → Type 0
IsSameVerdict items (judgement.InitDiffers latch) k = (state : ℕ) × ((slice_get (latch_states items) latch ≡ Some state) × (k ≡ judgement.InitDiffers state))
IsSameVerdict items judgement.NoClaim k = k ≡ judgement.NoClaim
IsSameVerdict items (judgement.Malformed line why) k = k ≡ judgement.Malformed line why
IsSameVerdict items (judgement.Violated frame constraint) k = k ≡ judgement.Violated frame constraint
IsSameVerdict items (judgement.NotReached index) k = k ≡ judgement.NotReached index
IsSameVerdict items (judgement.Accepted frames) k = k ≡ judgement.Accepted frames

-- The verdict over the circuit of a text is kept by another text: where the first says a witness, and the other has no more lines than a witness may have, that
-- says a witness over the model with the same claim, and what is judged of it is the same verdict.
pub record KeepsVerdictIn (items : List Item) (c : Circuit) (text written : List ℕ) (j : Judgement) : Type 0 where
  pub claim : (w : BitWitness) → BitSays c text w → length (whole_lines written) ≤ most_lines
      → (v : Witness) × (Says (shape_of items) written v × (v.claims ≡ w.claim ∷ []))
  pub verdict : (w : BitWitness) (k : Judgement) → BitSays c text w → length (whole_lines written) ≤ most_lines → Judges items written k → IsSameVerdict items j k

-- by its lifted text
abbrev pub KeepsVerdict : List Item → Circuit → List ℕ → Judgement → Type 0
KeepsVerdict items c text j = KeepsVerdictIn items c text (lifted_text items c text) j
