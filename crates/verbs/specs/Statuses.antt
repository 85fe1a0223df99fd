-- Which failures are counted of a verb that is not done, and what stands then.
use Rattle.std.specs.Prelude.{◌≡◌, ℕ, Result, Ok, Err, IfErr}
use Rattle.base.specs.Device.{HasRisen}
use Rattle.verbs.specs.declared.refusals.Device.TheVariants as device
use Rattle.verbs.specs.declared.refusals.Fault.{Fault}
use Rattle.verbs.specs.declared.refusals.Refusal.{Refusal}
use Rattle.verbs.specs.declared.refusals.Refusal.TheVariants as refusal

-- the counts of failures of the first file, the second, standard output and standard error, before and after, of a command that reads no third file and refuses no second one: one more of the one that is told, and no other
abbrev pub Counts : {T : Type 0} → Result T Refusal → ℕ → ℕ → ℕ → ℕ → ℕ → ℕ → ℕ → ℕ → Type 0
Counts (Err (refusal.Failed device.First)) f f' s s' o o' e e' = HasRisen f f' × (s' ≡ s) × (o' ≡ o) × (e' ≡ e)
Counts (Err (refusal.Failed device.Second)) f f' s s' o o' e e' = (f' ≡ f) × HasRisen s s' × (o' ≡ o) × (e' ≡ e)
Counts (Err (refusal.Failed device.Output)) f f' s s' o o' e e' = (f' ≡ f) × (s' ≡ s) × HasRisen o o' × (e' ≡ e)
Counts (Err (refusal.Failed device.Error)) f f' s s' o o' e e' = (f' ≡ f) × (s' ≡ s) × (o' ≡ o) × HasRisen e e'
Counts (Err (refusal.Failed device.Third)) f f' s s' o o' e e' = ⊥
Counts (Err (refusal.Second x)) f f' s s' o o' e e' = ⊥
Counts _ f f' s s' o o' e e' = (f' ≡ f) × (s' ≡ s) × (o' ≡ o) × (e' ≡ e)

-- the same of any command, with the count of the third file behind that of the second
abbrev pub CountsAll : {T : Type 0} → Result T Refusal → ℕ → ℕ → ℕ → ℕ → ℕ → ℕ → ℕ → ℕ → ℕ → ℕ → Type 0
CountsAll (Err (refusal.Failed device.Third)) f f' s s' t t' o o' e e' = (f' ≡ f) × (s' ≡ s) × HasRisen t t' × (o' ≡ o) × (e' ≡ e)
CountsAll (Err (refusal.Second x)) f f' s s' t t' o o' e e' = ((f' ≡ f) × (s' ≡ s) × (o' ≡ o) × (e' ≡ e)) × (t' ≡ t)
CountsAll r f f' s s' t t' o o' e e' = Counts r f f' s s' o o' e e' × (t' ≡ t)

-- a refusal is none of an input
abbrev pub IsOfNoInput : {T : Type 0} → Result T Refusal → Type 0
IsOfNoInput (Err (refusal.Input f)) = ⊥
IsOfNoInput _ = Unit {0}

-- nothing was told before a refusal, but where standard error failed
abbrev pub ErrUntold : {T : Type 0} → Result T Refusal → Type 0 → Type 0
ErrUntold (Err (refusal.Failed device.Error)) unchanged = Unit {0}
ErrUntold (Err r) unchanged = unchanged
ErrUntold (Ok x) unchanged = Unit {0}

-- what a refusal of an input says of its fault
abbrev pub IfInput : (Fault → Type 0) → Refusal → Type 0
IfInput P (refusal.Input f) = P f
IfInput P _ = Unit {0}

-- what a refusal of a second input says of its fault
abbrev pub IfSecond : (Fault → Type 0) → Refusal → Type 0
IfSecond P (refusal.Second f) = P f
IfSecond P _ = Unit {0}

-- a file or a stream of a command: one that it does not use; or one that it does, with the count of its failures, as it was and as it is
pub data Use : Type 1 where
  Unused : Use
  Used : {S : Type 0} → (S → ℕ) → S → S → Use

-- what is so of the counts before and after; where it is not used, of every count
abbrev pub OverCounts : Use → (ℕ → ℕ → Type 0) → Type 0
OverCounts Unused P = (n : ℕ) → P n n
OverCounts (Used failures old new) P = P (failures old) (failures new)

-- what is so of that it is as it was, where it is used
abbrev pub IfUsed : Use → (Type 0 → Type 0) → Type 0
IfUsed Unused P = Unit {0}
IfUsed (Used failures old new) P = P (new ≡ old)

-- the failures of a command that uses the first file, the second, standard output and standard error so
abbrev pub CountsUses : {T : Type 0} → Result T Refusal → Use → Use → Use → Use → Type 0
CountsUses r first second out err = OverCounts first (λ f f'. OverCounts second (λ s s'. OverCounts out (λ o o'. OverCounts err (Counts r f f' s s' o o'))))

-- how a command ends that uses them so: the failure that is told is counted, and no other; nothing is written of an input that is refused; and nothing is told before a refusal, but where standard error failed
pub record Ends {T : Type 0} (r : Result T Refusal) (first second out err : Use) : Type 0 where
  pub counted : CountsUses r first second out err
  pub unwritten : IfUsed out (λ unchanged. IfErr r (IfInput (λ _. unchanged)))
  pub untold : IfUsed err (ErrUntold r)

-- the same of one that refuses no input
pub record EndsUnrefused {T : Type 0} (r : Result T Refusal) (first second out err : Use) : Type 0 where
  pub counted : CountsUses r first second out err
  pub no_input : IsOfNoInput r
  pub untold : IfUsed err (ErrUntold r)

-- the same of any command, with the third file behind the second: nothing is written of a second input that is refused, either
pub record EndsAll {T : Type 0} (r : Result T Refusal) (first second third out err : Use) : Type 0 where
  pub counted : OverCounts first (λ f f'. OverCounts second (λ s s'. OverCounts third (λ t t'. OverCounts out (λ o o'. OverCounts err (CountsAll r f f' s s' t t' o o')))))
  pub unwritten : IfUsed out (λ unchanged. IfErr r (IfInput (λ _. unchanged)))
  pub unwritten_second : IfUsed out (λ unchanged. IfErr r (IfSecond (λ _. unchanged)))
  pub untold : IfUsed err (ErrUntold r)
