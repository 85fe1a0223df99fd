-- Of models with words of any width that are known and fitted, what is refused and how a command ends.
use Rattle.std.proofs.Common.{◌≡◌, ◌∙◌, ℕ, Bool, List, Option, Some, None, Err, IfSome, refl, sym, subst}
use Rattle.btor2.specs.declared.item.Item.{Item}
use Rattle.btor2.specs.Lists.{first_init_without_next}
use Rattle.fitting.specs.Models.{IsFit}
use Rattle.fitting.proofs.LackLemmas.{nothing_lacks}
use Rattle.rejoin.specs.Faults.{AnswersUnfit}
use Rattle.rejoin.specs.declared.fault.UnfitFault.{UnfitFault}
use Rattle.rejoin.specs.declared.fault.UnfitFault.TheVariants as unfit
use Rattle.witness.specs.Answers.{AnswersJudge}
use Rattle.witness.specs.declared.fault.JudgeFault.{JudgeFault}
use Rattle.witness.specs.declared.fault.JudgeFault.TheVariants as judge
use Rattle.spread.specs.Answers.{IsOfFitted}
use Rattle.verbs.specs.declared.unfitting.Ready.{Ready}
use Rattle.verbs.specs.declared.refusals.Fault.{Fault}
use Rattle.verbs.specs.declared.refusals.Refusal.TheVariants as refusal
use Rattle.verbs.specs.Conversions.{of_judging, of_unfitting}
use Rattle.verbs.specs.Statuses.{Ends, IfInput}
use Rattle.verbs.specs.Statuses.Use.{Unused}
use Rattle.std.specs.Io.KnownBytes.{Appends}
use Rattle.rejoin.specs.Pieces.{joined_judgement}
use Rattle.unfit.specs.Joined.{Wide}
use Rattle.unfit.specs.Unfitted.{KeepsJudgement, unfit_text}
use Rattle.witness.specs.declared.judgement.Judgement.{Judgement}
use Rattle.witness.specs.Judgements.{Judges}
use Rattle.witness.specs.Texts.{Shape}
use Rattle.verbs.specs.Unfitting.{IsReady, IsReadyFor, IsUnfittedWide, known_of}

-- ---- refusals

pub memory_ends : {T : Type 0} → Ends {T = T} (Err refusal.NoMemory) Unused Unused Unused Unused
memory_ends {T} = record { counted = λ a b c d. (refl, refl, refl, refl); unwritten = tt; untold = tt }

-- ---- what is told of a text that was read, of what was to come

pub ready_as : (known : Option (List ℕ)) (text : List ℕ) (wide narrow : List Item) → IfSome known (λ all. text ≡ all) → IsReady (Some text) wide narrow → IsReady known wide narrow
ready_as None text wide narrow same h = record { stands = tt; fit = h.fit; each_has_next_or_is_free = h.each_has_next_or_is_free }
ready_as (Some all) text wide narrow same h = subst (λ (t : List ℕ). IsReady (Some t) wide narrow) same h

-- ---- of a list of which each state has a next or is free, no state of the model is named

none_some : (id : ℕ) (o : Option ℕ) → o ≡ Some id → o ≡ None → ⊥
none_some id o some none = let clash : Some id ≡ None = sym some ∙ none in absurd (cc)

pub none_named : (T : Type 0) (wide narrow : List Item) (e : UnfitFault) (P : Fault → Type 0) → IsFit wide narrow → first_init_without_next wide wide ≡ None
    → AnswersUnfit {T = T} (Err e) (first_init_without_next narrow narrow) → IfInput P (of_unfitting e)
none_named T wide narrow (unfit.NoNext id) P fit free answer = absurd (none_some id (first_init_without_next narrow narrow) answer (nothing_lacks wide narrow fit free))
none_named T wide narrow unfit.Read P fit free answer = tt
none_named T wide narrow unfit.Write P fit free answer = tt
none_named T wide narrow unfit.NoMemory P fit free answer = tt

pub none_named_judging : (T : Type 0) (wide narrow : List Item) (e : JudgeFault) (P : Fault → Type 0) → IsFit wide narrow → first_init_without_next wide wide ≡ None
    → AnswersJudge {T = T} (Err e) (first_init_without_next narrow narrow) → IfInput P (of_judging e)
none_named_judging T wide narrow (judge.NoNext id) P fit free answer = absurd (none_some id (first_init_without_next narrow narrow) answer (nothing_lacks wide narrow fit free))
none_named_judging T wide narrow judge.Device P fit free answer = tt
none_named_judging T wide narrow judge.NoMemory P fit free answer = tt

-- ---- what is known of a list

pub of_ready : (text : List ℕ) (r : Ready) (h : IsReadyFor text r) → IsOfFitted r.known.shape r.narrow h.wide
of_ready text r h = record { is_shape = h.known.shape; model = h.ready.stands.well_formed; fit = h.ready.fit }

known_same : (named : Bool) (text : List ℕ) (r : Ready) (h : IsReadyFor text r) → record { shape = r.known.shape; names = r.known.names; named = named } ≡ known_of named h.wide
known_same named text r h = rw (h.known.shape, h.known.names) refl

pub unfitted_ready : (named : Bool) (text : List ℕ) (r : Ready) (h : IsReadyFor text r) (witness before now : Option (List ℕ)) (j : Judgement)
    → IfSome witness (λ t. (k : Judgement) × (Judges r.narrow t k × (j ≡ joined_judgement r.known.shape k)))
    → IfSome witness (λ t. Appends before now (unfit_text (record { shape = r.known.shape; names = r.known.names; named = named }) r.narrow t))
    → IfSome witness (λ t. KeepsJudgement h.wide (unfit_text (record { shape = r.known.shape; names = r.known.names; named = named }) r.narrow t) j)
    → (u : IsUnfittedWide named (Some text) witness before now j) × (u.narrow ≡ r.narrow)
unfitted_ready named text r h witness before now j judged written kept =
    let is = known_same named text r h in (
      record {
        wide = h.wide;
        narrow = r.narrow;
        ready = h.ready;
        judged = subst (λ (s : Shape). IfSome witness (λ t. (k : Judgement) × (Judges r.narrow t k × (j ≡ joined_judgement s k)))) h.known.shape judged;
        written = subst (λ (w : Wide). IfSome witness (λ t. Appends before now (unfit_text w r.narrow t))) is written;
        kept = subst (λ (w : Wide). IfSome witness (λ t. KeepsJudgement h.wide (unfit_text w r.narrow t) j)) is kept;
      },
      refl,
    )
