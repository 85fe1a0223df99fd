-- Failures that are told.
use Rattle.std.proofs.Common.{◌≡◌, ◌<◌, ◌⊎◌, ℕ, zero, suc, List, Option, None, Result, Ok, Err, OnOk, inl, inr, codes, refl, sym, subst, ◌∙◌, arith}
use Rattle.std.specs.Io.KnownBytes.{Appends}
use Rattle.base.specs.Device.{CountsFaults, HasRisen}
use Rattle.base.specs.declared.device.DeviceFault.{DeviceFault}
use Rattle.base.specs.declared.reasons.Reason.{Reason}
use Rattle.subcommands.specs.declared.answers.Answer.{Answer}
use Rattle.subcommands.specs.declared.answers.Answer.TheVariants as answer
use Rattle.verbs.specs.declared.refusals.Device.TheVariants as device
use Rattle.verbs.specs.declared.refusals.Fault.{Fault}
use Rattle.verbs.specs.declared.refusals.Fault.TheVariants as fault
use Rattle.verbs.specs.declared.refusals.Refusal.{Refusal}
use Rattle.verbs.specs.declared.refusals.Refusal.TheVariants as refusal
use Rattle.subcommands.specs.Refusals.{refusal_line, second_name, status_of_fault}
use Rattle.subcommands.specs.Statuses.{Tells, TellsFault}
use Rattle.verbs.specs.Statuses.{CountsAll, ErrUntold}
use Rattle.verbs.proofs.CountLemmas.{risen}
use Rattle.commands.specs.Statuses.{HasFailed, TellsFailure}

-- standard error failed where another failure was to be told
pub untold_failed : (r : Refusal) (f f' s s' t t' o o' e m e' : ℕ) → (r ≡ refusal.Failed device.Error → ⊥) → CountsAll {T = Answer} (Err r) f f' s s' t t' o o' e m → HasRisen m e' → HasRisen e e'
untold_failed (refusal.Input x) f f' s s' t t' o o' e m e' other c rise = risen e m e' c.0.3 rise
untold_failed (refusal.Second x) f f' s s' t t' o o' e m e' other c rise = risen e m e' c.0.3 rise
untold_failed (refusal.Failed device.First) f f' s s' t t' o o' e m e' other c rise = risen e m e' c.0.3 rise
untold_failed (refusal.Failed device.Second) f f' s s' t t' o o' e m e' other c rise = risen e m e' c.0.3 rise
untold_failed (refusal.Failed device.Third) f f' s s' t t' o o' e m e' other c rise = risen e m e' c.4 rise
untold_failed (refusal.Failed device.Output) f f' s s' t t' o o' e m e' other c rise = risen e m e' c.0.3 rise
untold_failed (refusal.Failed device.Error) f f' s s' t t' o o' e m e' other c rise = absurd (other refl)
untold_failed refusal.NoMemory f f' s s' t t' o o' e m e' other c rise = risen e m e' c.0.3 rise

not_three : (x : Fault) → status_of_fault x ≡ 3 → ⊥
not_three (fault.Unchosen c) is = absurd (cc)
not_three (fault.SameName j k) is = absurd (cc)
not_three _ is = absurd (cc)

-- the fault of a file was told, with status 3 where there was no memory for its line
fault_told : {S : Type 0} (written : S → Option (List ℕ)) (old mid : S) (x : Fault) (about file : List ℕ) (second third output : Option (List ℕ)) (reason : Option Reason) (status : ℕ) (after : Option (List ℕ)) (f f' s s' t t' o o' e m e' : ℕ)
    → CountsAll {T = Unit {0}} (Err refusal.NoMemory) f f' s s' t t' o o' e m → e' ≡ m → mid ≡ old → TellsFault about x status (written mid) after → status ≡ 3 → TellsFailure file second third output (written old) after f f' s s' t t' o o' e e'
fault_told written old mid x about file second third output reason status after f f' s s' t t' o o' e m e' c same untold (inl h) three = absurd (not_three x (sym h.0 ∙ three))
fault_told written old mid x about file second third output reason status after f f' s s' t t' o o' e m e' c same untold (inr h) three =
    record { why = refusal.NoMemory; reason = reason; is_told = tt; counted = ((c.0.0, c.0.1, c.0.2, same ∙ c.0.3), c.1); line = subst (λ n. Appends (written n) after (codes "no memory\n")) untold h.1 }

-- a refusal was told with status 3
pub told_failed : {S : Type 0} (written : S → Option (List ℕ)) (old mid : S) (r : Refusal) (file : List ℕ) (second third output : Option (List ℕ)) (reason : Option Reason) (status : ℕ) (after : Option (List ℕ)) (f f' s s' t t' o o' e m e' : ℕ)
    → CountsAll {T = Answer} (Err r) f f' s s' t t' o o' e m → e' ≡ m → ErrUntold {T = Answer} (Err r) (mid ≡ old) → Tells file second third output reason r status (written mid) after → status ≡ 3
    → HasFailed file second third output (written old) after f f' s s' t t' o o' e e'
told_failed written old mid (refusal.Input x) file second third output reason status after f f' s s' t t' o o' e m e' c same untold told three =
    inr (fault_told written old mid x file file second third output reason status after f f' s s' t t' o o' e m e' c same untold told three)
told_failed written old mid (refusal.Second x) file second third output reason status after f f' s s' t t' o o' e m e' c same untold told three =
    inr (fault_told written old mid x (second_name second) file second third output reason status after f f' s s' t t' o o' e m e' c same untold told three)
told_failed written old mid (refusal.Failed device.First) file second third output reason status after f f' s s' t t' o o' e m e' c same untold told three =
    inr (record { why = refusal.Failed device.First; reason = reason; is_told = tt; counted = ((c.0.0, c.0.1, c.0.2, same ∙ c.0.3), c.1); line = subst (λ n. Appends (written n) after (refusal_line file second third output reason (refusal.Failed device.First))) untold told.1 })
told_failed written old mid (refusal.Failed device.Second) file second third output reason status after f f' s s' t t' o o' e m e' c same untold told three =
    inr (record { why = refusal.Failed device.Second; reason = reason; is_told = tt; counted = ((c.0.0, c.0.1, c.0.2, same ∙ c.0.3), c.1); line = subst (λ n. Appends (written n) after (refusal_line file second third output reason (refusal.Failed device.Second))) untold told.1 })
told_failed written old mid (refusal.Failed device.Third) file second third output reason status after f f' s s' t t' o o' e m e' c same untold told three =
    inr (record { why = refusal.Failed device.Third; reason = reason; is_told = tt; counted = (c.0, c.1, c.2, c.3, same ∙ c.4); line = subst (λ n. Appends (written n) after (refusal_line file second third output reason (refusal.Failed device.Third))) untold told.1 })
told_failed written old mid (refusal.Failed device.Output) file second third output reason status after f f' s s' t t' o o' e m e' c same untold told three =
    inr (record { why = refusal.Failed device.Output; reason = reason; is_told = tt; counted = ((c.0.0, c.0.1, c.0.2, same ∙ c.0.3), c.1); line = subst (λ n. Appends (written n) after (refusal_line file second third output reason (refusal.Failed device.Output))) untold told.1 })
told_failed written old mid (refusal.Failed device.Error) file second third output reason status after f f' s s' t t' o o' e m e' c same untold told three = inl (subst (HasRisen e) (sym same) c.0.3)
told_failed written old mid refusal.NoMemory file second third output reason status after f f' s s' t t' o o' e m e' c same untold told three =
    inr (record { why = refusal.NoMemory; reason = reason; is_told = tt; counted = ((c.0.0, c.0.1, c.0.2, same ∙ c.0.3), c.1); line = subst (λ n. Appends (written n) after (codes "no memory\n")) untold told.1 })

-- what was done where the status is 0 or 1
pub answered_by : (Answered : Answer → Type 0) (status : ℕ) → status < 2 → (status ≡ 0 → Answered answer.Done) → (status ≡ 1 → Answered answer.NotAccepted) → (a : Answer) × Answered a
answered_by Answered zero few done other = (answer.Done, done refl)
answered_by Answered (suc zero) few done other = (answer.NotAccepted, other refl)
answered_by Answered (suc (suc n)) few done other = absurd (omega (arith, few))

-- a line was told, or standard error failed
pub told_or_failed : (r : Result ℕ DeviceFault) (before after : Option (List ℕ)) (line : List ℕ) (e m e' : ℕ) → m ≡ e → OnOk r (Appends before after line) → CountsFaults r m e' → HasRisen e e' ⊎ Appends before after line
told_or_failed (Ok x) before after line e m e' same told counted = inr told
told_or_failed (Err x) before after line e m e' same told counted = inl (subst (λ (n : ℕ). HasRisen n e') same counted)

-- it was told that memory was wanting, or standard error failed
pub no_memory_told : (r : Result ℕ DeviceFault) (file : List ℕ) (second third output told told' : Option (List ℕ)) (e e' : ℕ) → OnOk r (Appends told told' (codes "no memory\n")) → CountsFaults r e e' → HasFailed file second third output told told' 0 0 0 0 0 0 0 0 e e'
no_memory_told (Ok x) file second third output told told' e e' line counted = inr (record { why = refusal.NoMemory; reason = None; is_told = tt; counted = ((refl, refl, refl, counted), refl); line = line })
no_memory_told (Err x) file second third output told told' e e' line counted = inl counted

pub over_second : {A B C : Type 0} → (B → C) → A ⊎ B → A ⊎ C
over_second f (inl a) = inl a
over_second f (inr b) = inr (f b)
