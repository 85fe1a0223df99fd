-- Texts that are fitted, and that are not.
use Rattle.std.proofs.Common.{◌≡◌, ◌≢◌, ◌⊎◌, inl, inr, ℕ, List, Option, None, Some, IfSome, MatchOption, Result, Ok, Err, IfOk, subst, sym}
use Rattle.btor2.specs.declared.item.Item.{Item}
use Rattle.btor2.specs.Lists.{first_init_without_next}
use Rattle.btor2text.specs.Spelling.{StandsFor}
use Rattle.fitting.specs.Models.{IsUnfit}
use Rattle.fitting.specs.declared.fault.FitFault.{FitFault}
use Rattle.fitting.specs.declared.fault.FitFault.TheVariants as fit
use Rattle.full.specs.Lines.{FullLine}
use Rattle.celled.specs.Written.{IsWrittenInCells}
use Rattle.fulltext.specs.Spelling.{StandsForFull}
use Rattle.widetext.specs.Spelling.{StandsForWide}
use Rattle.writeout.specs.Faults.{IsUnwritten}
use Rattle.writeout.specs.declared.fault.WriteFault.{WriteFault}
use Rattle.writeout.specs.declared.fault.WriteFault.TheVariants as write
use Rattle.verbs.specs.declared.refusals.Fault.TheVariants as fault
use Rattle.verbs.specs.declared.refusals.Refusal.{Refusal}
use Rattle.verbs.specs.declared.refusals.Refusal.TheVariants as refusal
use Rattle.verbs.specs.Conversions.{of_fitting, of_fitting_written}
use Rattle.verbs.specs.Fitting.{FitsFirst, FitsWhole, IsFitText, IsKept, IsNotFit, IsNotFitted, IsOfWords, IsProfileOf, IsUnwrittenOrLong, IsWritingFault}
use Rattle.verbs.specs.Statuses.{IfInput}
use Rattle.verbs.specs.Unfitting.{IsUnfitAlone}

-- it is kept by whatever is made of it
pub all_kept : (r : Result (List Item) Refusal) (text : List ℕ) → ((items : List Item) → StandsFor text items → ¬ (first_init_without_next items items ≡ None)) → IfOk r (IsKept text)
all_kept (Ok m) text none = λ items stands ready. absurd (none items stands ready)
all_kept (Err e) text none = tt

-- a model of the profile that was read, and what there is of it where each of its states has a next or is free
pub profile_of : (text : List ℕ) (m : List Item) (r : Option (List Item)) → ((items : List Item) → StandsFor text items → StandsFor text m → items ≡ m) → StandsFor text m
    → MatchOption r (first_init_without_next m m ≢ None) (λ x. (x ≡ m) × (first_init_without_next m m ≡ None)) → IsProfileOf text r
profile_of text m (Some x) same stands h = (subst (StandsFor text) (sym h.0) stands, subst (λ (y : List Item). first_init_without_next y y ≡ None) (sym h.0) h.1)
profile_of text m None same stands h = λ items also ready. h (subst (λ (y : List Item). first_init_without_next y y ≡ None) (same items also stands) ready)

-- the same of a model with words of any width
pub words_of_text : (text : List ℕ) (m : List Item) (r : Option (List Item)) → ((items : List Item) → StandsForWide text items → StandsForWide text m → items ≡ m) → StandsForWide text m
    → MatchOption r (first_init_without_next m m ≢ None) (λ x. (x ≡ m) × (first_init_without_next m m ≡ None)) → IsOfWords text r
words_of_text text m (Some x) same stands h = (subst (StandsForWide text) (sym h.0) stands, subst (λ (y : List Item). first_init_without_next y y ≡ None) (sym h.0) h.1)
words_of_text text m None same stands h = λ items also ready. h (subst (λ (y : List Item). first_init_without_next y y ≡ None) (same items also stands) ready)

-- a text of no such list is of no such model of the profile
pub no_profile : (text : List ℕ) → ((text : List ℕ) (items : List Item) → StandsFor text items → StandsForWide text items) → IsOfWords text None → IsProfileOf text None
no_profile text wide none = λ items stands ready. none items (wide text items stands) ready

-- ---- refusals

-- a model with words of any width that is not fitted
pub not_fit_words : (text : List ℕ) (wide : List Item) (e : FitFault) → IsProfileOf text None → StandsForWide text wide → IsUnfit wide e → IfInput (IsNotFit text) (of_fitting e)
not_fit_words text wide fit.NoMemory none stands unfit = tt
not_fit_words text wide _ none stands unfit = inl (record { not_profile = none; wide = wide; stands = stands; unfit = unfit })

-- the same of one that is not written out
pub unfit_alone : (text : List ℕ) (wide : List Item) (e : FitFault) → IsProfileOf text None → StandsForWide text wide → IsUnfit wide e → IfInput (IsUnfitAlone text) (of_fitting e)
unfit_alone text wide fit.NoMemory none stands unfit = tt
unfit_alone text wide _ none stands unfit = record { not_profile = none; wide = wide; stands = stands; unfit = unfit }

-- a list that a model was written out as, and that is not fitted
pub not_fit_written : (text : List ℕ) (lines : List FullLine) (wide : List Item) (e : FitFault) → IsProfileOf text None → StandsForFull text lines → IsWrittenInCells lines wide → IsUnfit wide e
    → IfInput (IsNotFit text) (of_fitting_written e)
not_fit_written text lines wide fit.NoMemory none stands written unfit = tt
not_fit_written text lines wide (fit.TooManyItems id) none stands written unfit =
    record { not_profile = none; lines = lines; stands = stands; unwritten = inr (record { wide = wide; written = written; id = id; unfit = unfit }) }
not_fit_written text lines wide _ none stands written unfit = inr (record { not_profile = none; lines = lines; stands = stands; wide = wide; written = written; unfit = unfit })

-- a model that is not written out
pub or_long : (lines : List FullLine) (e : WriteFault) → IsUnwritten lines e → IsUnwrittenOrLong lines e
or_long lines write.TooManyItems h = inl h
or_long lines _ h = h

pub unwritten_text : (text : List ℕ) (lines : List FullLine) (x : Refusal) → IsProfileOf text None → StandsForFull text lines → IfInput (IsWritingFault lines) x → IfInput (IsNotFit text) x
unwritten_text text lines (refusal.Input (fault.Writing e)) none stands h = record { not_profile = none; lines = lines; stands = stands; unwritten = or_long lines e h }
unwritten_text text lines (refusal.Input _) none stands h = absurd h
unwritten_text text lines _ none stands h = tt

-- none of two that cannot be
pub neither : {P Q : Type 0} → (P → ⊥) → (Q → ⊥) → P ⊎ Q → ⊥
neither {P} {Q} p q (inl h) = p h
neither {P} {Q} p q (inr h) = q h

-- ---- a text that is all that was to come

-- what is so of the text is so of all that was to come
pub seen : (P : List ℕ → Type 0) (known : Option (List ℕ)) (text : List ℕ) → IfSome known (λ all. text ≡ all) → P text → IfSome known P
seen P None text same p = tt
seen P (Some all) text same p = subst P same p

pub fits_first : (r : Result (List Item) Refusal) (known : Option (List ℕ)) (text : List ℕ) → IfSome known (λ all. text ≡ all) → IfOk r (IsFitText text) → IfOk r (FitsFirst known)
fits_first (Ok narrow) known text same fit = record {
  lines = fit.lines;
  stands = seen (λ t. StandsForFull t fit.lines) known text same fit.stands;
  fitted = seen (λ t. IsFitText t narrow) known text same fit;
  rise_alike = fit.rise_alike;
}
fits_first (Err x) known text same fit = tt

pub fits_known : (known : Option (List ℕ)) (text : List ℕ) (narrow : List Item) → IfSome known (λ all. text ≡ all) → IsFitText text narrow → FitsFirst known narrow
unfolding fits_first
fits_known known text narrow same fit = fits_first (Ok narrow) known text same fit

-- the model that the text stands for is that which is fitted
pub fits_whole : (known : Option (List ℕ)) (text : List ℕ) (narrow : List Item) (full : List FullLine) → IfSome known (λ all. text ≡ all) → IsFitText text narrow → StandsForFull text full
    → ((t : List ℕ) (one other : List FullLine) → StandsForFull t one → StandsForFull t other → one ≡ other) → FitsWhole known narrow full
unfolding fits_first
fits_whole known text narrow full same fit stands one = record { fits = fits_first (Ok narrow) known text same fit; lines = one text fit.lines full fit.stands stands }

pub fits_both : (r : Result (List Item × List FullLine) Refusal) (known : Option (List ℕ)) (text : List ℕ) → IfSome known (λ all. text ≡ all) → IfOk r (λ both. IsFitText text both.0 × StandsForFull text both.1)
    → ((t : List ℕ) (one other : List FullLine) → StandsForFull t one → StandsForFull t other → one ≡ other) → IfOk r (λ both. FitsWhole known both.0 both.1)
fits_both (Ok both) known text same h one = fits_whole known text both.0 both.1 same h.0 h.1 one
fits_both (Err x) known text same h one = tt

-- what keeps the text from being fitted keeps all that was to come from it
pub not_fitted : (known : Option (List ℕ)) (text : List ℕ) (x : Refusal) → IfSome known (λ all. text ≡ all) → IfInput (IsNotFit text) x → IfInput (IsNotFitted known) x
not_fitted known text (refusal.Input (fault.Model e)) same is = seen (λ t. IsNotFit t (fault.Model e)) known text same is
not_fitted known text (refusal.Input (fault.Fitting e)) same is = seen (λ t. IsNotFit t (fault.Fitting e)) known text same is
not_fitted known text (refusal.Input (fault.Writing e)) same is = seen (λ t. IsNotFit t (fault.Writing e)) known text same is
not_fitted known text (refusal.Input _) same is = absurd is
not_fitted known text _ same is = tt
