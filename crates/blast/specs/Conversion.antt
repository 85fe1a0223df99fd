-- What a conversion from a model's text to a circuit's text answers, and what it has written then.
use Rattle.std.specs.Prelude.{◌≡◌, ℕ, List, Option, None, IfSome, Result, Ok, Err, ◌⊎◌}
use Rattle.std.specs.Io.KnownBytes.{Appends, IsAtEnd}
use Rattle.base.specs.Device.{AppendsBeginning, HasRisen}
use Rattle.btor2.specs.declared.item.Item.{Item}
use Rattle.btor2.specs.Check.{IsWellFormed}
use Rattle.btor2text.specs.declared.fault.Why.{Why}
use Rattle.btor2text.specs.declared.fault.Why.TheVariants as why
use Rattle.btor2text.specs.FirstFault.{IsFaultOf}
use Rattle.btor2text.specs.Spelling.{IsModelOf}
use Rattle.aiger.specs.Circuit.{Circuit}
use Rattle.aigertext.specs.declared.forms.Form.{Form}
use Rattle.aigertext.specs.Binary.{circuit_text}
use Rattle.blast.specs.declared.fault.LowerFault.{LowerFault}
use Rattle.blast.specs.declared.fault.ConvertFault.{ConvertFault}
use Rattle.blast.specs.declared.fault.ConvertFault.TheVariants as fault
use Rattle.blast.specs.Lowering.{Lowers}
use Rattle.blast.specs.Refusal.{AnswersLowering, lowering_refusal}

-- all that was to come is a text of some model that nothing speaks against, and what is said of what was written holds of the text of a circuit that lowers it
pub record Converts (known : Option (List ℕ)) (form : Form) (Written : List ℕ → Type 0) : Type 0 where
  pub items : List Item
  pub circuit : Circuit
  pub text : IsModelOf known items
  pub accepted : lowering_refusal items ≡ None
  pub lowers : Lowers items circuit
  pub appends : Written (circuit_text form circuit)

-- the text is of some model, whose lowering is refused for this reason
pub record RefusesModel (known : Option (List ℕ)) (e : LowerFault) : Type 0 where
  pub items : List Item
  pub well_formed : IsWellFormed items
  pub text : IsModelOf known items
  pub answer : AnswersLowering {T = Circuit} (Err e) (lowering_refusal items)

-- what a conversion's answer says: done, the circuit's text is written; the model refused; or the write failed, only a beginning of that text is; why a text is refused says TellsFirstFault. `known` is the bytes to come; `written` and `now` are what the sink held before and holds after
abbrev pub AnswersConversion : Option (List ℕ) → Option (List ℕ) → Option (List ℕ) → Form → Result (Unit {0}) ConvertFault → Type 0
AnswersConversion known written now form (Ok u) = Converts known form (Appends written now)
AnswersConversion known written now form (Err (fault.Read e)) = Unit {0}
AnswersConversion known written now form (Err (fault.Lower e)) = RefusesModel known e
AnswersConversion known written now form (Err (fault.Write e)) = Converts known form (AppendsBeginning written now)

-- the fault is of what stands behind the reading, the lowering or the write: a model that was read is never told as unread
abbrev pub IsBehindReading : ConvertFault → Type 0
IsBehindReading (fault.Read e) = ⊥
IsBehindReading _ = Unit {0}

-- the source was read to its end, unless reading it ended for the device or for memory. `now` is the bytes to come then
abbrev pub ReadsToEnd : Result (Unit {0}) ConvertFault → Option (List ℕ) → Type 0
ReadsToEnd (Err (fault.Read e)) now = ¬ (e.why ≡ why.Device) → ¬ (e.why ≡ why.NoMemory) → IsAtEnd now
ReadsToEnd _ now = IsAtEnd now

-- a fault of reading is that of the first faulty line, by its first why, unless the device failed or memory was wanting
abbrev pub TellsFirstFault : Option (List ℕ) → ConvertFault → Type 0
TellsFirstFault known (fault.Read e) = IfSome known (λ text. (e.why ≡ why.Device) ⊎ ((e.why ≡ why.NoMemory) ⊎ IsFaultOf text e))
TellsFirstFault known _ = Unit {0}

-- a fault of reading has line 0 where the device failed or memory was wanting
abbrev pub HasNoLine : ConvertFault → Type 0
HasNoLine (fault.Read e) = (e.why ≡ why.Device) ⊎ (e.why ≡ why.NoMemory) → e.line ≡ 0
HasNoLine _ = Unit {0}

-- nothing was written: the fault is one of reading or lowering
abbrev pub IsBeforeWriting : ConvertFault → Type 0
IsBeforeWriting (fault.Write e) = ⊥
IsBeforeWriting _ = Unit {0}

-- a count of failures has risen exactly where the device failed: that of the source where reading failed for it, that of the sink where writing failed; else both are as before
abbrev pub ReadFailures : Why → ℕ → ℕ → Type 0
ReadFailures why.Device old new = HasRisen old new
ReadFailures _ old new = new ≡ old

abbrev pub RaisesFailures : Result (Unit {0}) ConvertFault → ℕ → ℕ → ℕ → ℕ → Type 0
RaisesFailures (Ok u) source source' sink sink' = (source' ≡ source) × (sink' ≡ sink)
RaisesFailures (Err (fault.Read e)) source source' sink sink' = ReadFailures e.why source source' × (sink' ≡ sink)
RaisesFailures (Err (fault.Lower e)) source source' sink sink' = (source' ≡ source) × (sink' ≡ sink)
RaisesFailures (Err (fault.Write e)) source source' sink sink' = (source' ≡ source) × HasRisen sink sink'
