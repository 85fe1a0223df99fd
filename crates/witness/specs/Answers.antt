-- What judging a text answers where there is no judgement.
use Rattle.std.specs.Prelude.{◌≡◌, ℕ, List, Option, Some, None, Result, Err, codes}
use Rattle.base.specs.Device.{HasRisen}
use Rattle.witness.specs.declared.fault.JudgeFault.{JudgeFault}
use Rattle.witness.specs.declared.fault.JudgeFault.TheVariants as fault

-- the number that is printed for a fault
abbrev pub judge_number : JudgeFault → ℕ
judge_number fault.Device = 100
judge_number fault.NoMemory = 101
judge_number (fault.NoNext id) = 70

-- its name
abbrev pub judge_name : JudgeFault → List ℕ
judge_name fault.Device = codes "Device"
judge_name fault.NoMemory = codes "NoMemory"
judge_name (fault.NoNext id) = codes "NoNext"

-- a fault names a state with an init and no next
abbrev pub NamesState : JudgeFault → Type 0
NamesState (fault.NoNext id) = Unit {0}
NamesState _ = ⊥

-- a state with an init and no next is named exactly where there is one, and it is the first
abbrev pub AnswersJudge : {T : Type 0} → Result T JudgeFault → Option ℕ → Type 0
AnswersJudge (Err (fault.NoNext id)) lacking = lacking ≡ Some id
AnswersJudge _ lacking = lacking ≡ None

-- a source's count of failures, before and after: one more where its fault is answered, and else as before
abbrev pub CountsJudge : {T : Type 0} → Result T JudgeFault → ℕ → ℕ → Type 0
CountsJudge (Err fault.Device) old new = HasRisen old new
CountsJudge _ old new = new ≡ old
