-- The claims that are told of a witness, by the first rises of all bad properties, and the bad property that is asked for.
use Rattle.std.proofs.Common.{arith, ◌≡◌, ◌<◌, ◌+◌, ◌^◌, ◌++◌, ◌∷◌, ◌∙◌, ℕ, zero, suc, Bool, true, false, List, [], length, drop, Option, Some, option_and_then, slice_get, decimal, append_assoc, refl, sym, ap, subst}
use Rattle.base.specs.Decimals.{number_of}
use Rattle.verbs.specs.Asked.{AsksFor, IsAskedBy}
use Rattle.verbs.specs.Judging.{IsJudgedFittedFor, IsJudgedFor, IsJudgedOverFor, IsJudgedOverGiven, claim_over}
use Rattle.verbs.specs.declared.judging.JudgedOverCircuit.{JudgedOverCircuit}
use Rattle.verbs.specs.declared.judging.JudgedOverModel.{JudgedOverModel}
use Rattle.verbs.specs.declared.judging_whole.JudgedFitted.{JudgedFitted}
use Rattle.verbs.specs.declared.given.GivenModel.{GivenModel}
use Rattle.verbs.specs.declared.given.GivenModel.TheVariants as given_model
use Rattle.verbs.specs.declared.outcomes.Outcome.{Outcome}
use Rattle.capi.specs.Answers.{outcome_verdict_of}
use Rattle.capi.specs.Buffers.{Fills, Needs}
use Rattle.capi.specs.Flags.{choice_of, word_asked}
use Rattle.capi.specs.Judged.{CallJudgesFor, CallJudgesOverFor, CallJudgesWholeFor, claim_of, claims_from, told_claims}
use Rattle.capi.specs.declared.answers.Claim.{Claim}
use Rattle.capi.specs.declared.answers.Verdict.{Verdict}

-- ---- the list of claims

claims_step : (k n : ℕ) (firsts : List (Option ℕ)) → k < length firsts
    → claims_from n (drop k firsts) ≡ claim_of n (option_and_then (λ first. first) (slice_get firsts k)) ++ claims_from (suc n) (drop (suc k) firsts)
claims_step k n [] there = absurd (omega (arith, there))
claims_step zero n (x ∷ xs) there = refl
claims_step (suc k) n (x ∷ xs) there = claims_step k n xs (omega (arith, there))

-- the claims from one bad property on, and those behind it
pub claims_next : (k : ℕ) (firsts : List (Option ℕ)) (before : List Claim) (all : List Claim) → k < length firsts → before ++ claims_from k (drop k firsts) ≡ all
    → (before ++ claim_of k (option_and_then (λ first. first) (slice_get firsts k))) ++ claims_from (k + 1) (drop (k + 1) firsts) ≡ all
claims_next k firsts before all there is =
    let next : suc k ≡ k + 1 = omega arith in
    subst (λ (n : ℕ). (before ++ claim_of k (option_and_then (λ first. first) (slice_get firsts k))) ++ claims_from n (drop n firsts) ≡ all) next
    (append_assoc before (claim_of k (option_and_then (λ first. first) (slice_get firsts k))) (claims_from (suc k) (drop (suc k) firsts)) ∙ ap (λ (l : List Claim). before ++ l) (sym (claims_step k k firsts there)) ∙ is)

-- ---- what is asked for

-- what is asked for by the word of a position is that position
asked_position : (chosen : Bool) (bad count : ℕ) (called : List ℕ → ℕ → Bool) (claim : Option ℕ) → ((n : ℕ) → n < 2 ^ 64 → number_of (decimal n) ≡ Some n) → bad < 2 ^ 64
    → AsksFor (word_asked chosen bad) count called claim → claim ≡ choice_of chosen bad
asked_position false bad count called claim read small asks = asks
asked_position true bad count called claim read small (k, asked) =
    let same : IsAskedBy (Some bad) count (called (decimal bad)) k = subst (λ (n : Option ℕ). IsAskedBy n count (called (decimal bad)) k) (read bad small) asked.1 in
    asked.0 ∙ ap (λ (n : ℕ). Some n) same.0

-- a number is read from its decimal
abbrev pub ReadsDecimals : Type 0
ReadsDecimals = (n : ℕ) → n < 2 ^ 64 → number_of (decimal n) ≡ Some n

pub judges_for : (chosen : Bool) (bad : ℕ) (model witness : List ℕ) (word : Option (List ℕ)) (answer : JudgedOverModel) (told verdict : Verdict) (list : List Claim)
    → ReadsDecimals → bad < 2 ^ 64 → word ≡ word_asked chosen bad → IsJudgedFor word (Some model) (Some witness) answer → told ≡ outcome_verdict_of answer.outcome → verdict ≡ told → list ≡ told_claims told answer.firsts
    → CallJudgesFor chosen bad model witness verdict list
judges_for chosen bad model witness word answer told verdict list read small spelled judged tells same listed =
    let is : IsJudgedFor (word_asked chosen bad) (Some model) (Some witness) answer = subst (λ (w : Option (List ℕ)). IsJudgedFor w (Some model) (Some witness) answer) spelled judged in
    record { answer = answer; is = is; for_choice = asked_position chosen bad _ _ is.claim read small is.asked; told = same ∙ tells; listed = listed ∙ ap (λ (v : Verdict). told_claims v answer.firsts) (sym same) }

-- it is so of what is asked for over a model
choice_over : (chosen : Bool) (bad : ℕ) (known witness : Option (List ℕ)) (m : GivenModel) (told : Outcome) (firsts : List (Option ℕ)) → ReadsDecimals → bad < 2 ^ 64
    → (is : IsJudgedOverGiven (word_asked chosen bad) known witness m told firsts) → claim_over (word_asked chosen bad) known witness m told firsts is ≡ choice_of chosen bad
choice_over chosen bad known witness (given_model.Profile items) told firsts read small is = asked_position chosen bad _ _ is.claim read small is.asked
choice_over chosen bad known witness (given_model.Whole full) told firsts read small is = asked_position chosen bad _ _ is.claim read small is.asked

pub judges_whole_for : (chosen : Bool) (bad : ℕ) (model witness : List ℕ) (word : Option (List ℕ)) (answer : JudgedFitted) (told verdict : Verdict) (list : List Claim)
    → ReadsDecimals → bad < 2 ^ 64 → word ≡ word_asked chosen bad → IsJudgedFittedFor word (Some model) (Some witness) answer → told ≡ outcome_verdict_of answer.outcome → verdict ≡ told → list ≡ told_claims told answer.firsts
    → CallJudgesWholeFor chosen bad model witness verdict list
judges_whole_for chosen bad model witness word answer told verdict list read small spelled judged tells same listed =
    let is : IsJudgedFittedFor (word_asked chosen bad) (Some model) (Some witness) answer = subst (λ (w : Option (List ℕ)). IsJudgedFittedFor w (Some model) (Some witness) answer) spelled judged in
    record {
      answer = answer;
      is = is;
      for_choice = choice_over chosen bad (Some model) (Some witness) answer.model answer.outcome answer.firsts read small is;
      told = same ∙ tells;
      listed = listed ∙ ap (λ (v : Verdict). told_claims v answer.firsts) (sym same);
    }

pub judges_over_for : (chosen : Bool) (bad : ℕ) (circuit witness : List ℕ) (word : Option (List ℕ)) (answer : JudgedOverCircuit) (told verdict : Verdict) (list : List Claim)
    → ReadsDecimals → bad < 2 ^ 64 → word ≡ word_asked chosen bad → IsJudgedOverFor word (Some circuit) (Some witness) answer → told ≡ outcome_verdict_of answer.outcome → verdict ≡ told → list ≡ told_claims told answer.firsts
    → CallJudgesOverFor chosen bad circuit witness verdict list
judges_over_for chosen bad circuit witness word answer told verdict list read small spelled judged tells same listed =
    let is : IsJudgedOverFor (word_asked chosen bad) (Some circuit) (Some witness) answer = subst (λ (w : Option (List ℕ)). IsJudgedOverFor w (Some circuit) (Some witness) answer) spelled judged in
    record { answer = answer; is = is; for_choice = asked_position chosen bad _ _ is.claim read small is.asked; told = same ∙ tells; listed = listed ∙ ap (λ (v : Verdict). told_claims v answer.firsts) (sym same) }

-- ---- what goes into a buffer

pub fills : {T : Type 0} {P Q : List T → Type 0} {old new : List T} {needed : ℕ} → ((list : List T) → P list → Q list) → Fills P old new needed → Fills Q old new needed
fills so f = record { bytes = f.bytes; is_so = so f.bytes f.is_so; number = f.number; room = f.room; filled = f.filled }

pub needs : {T : Type 0} {P Q : List T → Type 0} {old new : List T} {needed : ℕ} → ((list : List T) → P list → Q list) → Needs P old new needed → Needs Q old new needed
needs so f = record { bytes = f.bytes; is_so = so f.bytes f.is_so; number = f.number; small = f.small; stays = f.stays }
