-- Of models of the whole language that are written out and fitted, what is refused, what is judged and what is written.
use Rattle.std.proofs.Common.{◌≡◌, inl, inr, ℕ, Bool, List, [], ◌∷◌, ◌++◌, Option, Some, None, IfSome, Result, Ok, Err, IfOk, IfErr, is_some, length, refl, subst, ap}
use Rattle.std.specs.Io.KnownBytes.{Appends}
use Rattle.std.specs.List.{AllZip}
use Rattle.btor2.specs.declared.item.Item.{Item}
use Rattle.wide.specs.WideModels.{greatest_width, IsWideModel}
use Rattle.celled.specs.Whole.{IsWhole}
use Rattle.fit.specs.Fitting.{Layout}
use Rattle.fitting.specs.Laid.{AreWords}
use Rattle.btor2.specs.Items.{is_bad}
use Rattle.full.specs.Lines.{FullLine, Sort, lines_of}
use Rattle.fulljudge.specs.Cells.{HasWordsOf}
use Rattle.fulljudge.specs.Judged.{IsJudgeable}
use Rattle.fulljudge.specs.Judgements.{judged_by}
use Rattle.fulljudge.specs.Lines.{words_text}
use Rattle.fulljudge.specs.Shapes.{full_shape}
use Rattle.fulljudge.specs.Spreading.{KeepsSpread}
use Rattle.fulltext.specs.Spelling.{StandsForFull}
use Rattle.fullunfit.specs.Titles.{names_of}
use Rattle.fullunfit.specs.Unfitted.{KeepsFullJudgement, unfit_full_text}
use Rattle.rejoin.specs.Pieces.{joined_judgement}
use Rattle.spread.specs.Spread.{IsShort, spread_text}
use Rattle.unfit.specs.Joined.{Names}
use Rattle.witness.specs.declared.judgement.Judgement.{Judgement}
use Rattle.witness.specs.Judgements.{Judges}
use Rattle.witness.specs.Texts.{Shape, shape_of}
use Rattle.verbs.specs.declared.refusals.Fault.{Fault}
use Rattle.verbs.specs.declared.refusals.Fault.TheVariants as fault
use Rattle.verbs.specs.declared.refusals.Refusal.{Refusal}
use Rattle.verbs.specs.declared.refusals.Refusal.TheVariants as refusal
use Rattle.verbs.specs.declared.whole.Whole.{Whole}
use Rattle.verbs.specs.Asked.{AsksForNone, IsNotFittedWith, IsUnjudgedFor, is_symbol_of}
use Rattle.verbs.specs.Judging.{IsJudgedFor, IsJudgedFittedFor, IsJudgedOverGiven}
use Rattle.verbs.specs.declared.given.GivenModel.{GivenModel}
use Rattle.verbs.specs.declared.given.GivenModel.TheVariants as given_model
use Rattle.verbs.specs.declared.judging.JudgedOverModel.{JudgedOverModel}
use Rattle.verbs.specs.declared.judging_whole.JudgedFitted.{JudgedFitted}
use Rattle.verbs.specs.declared.outcomes.Outcome.{Outcome}
use Rattle.btor2.specs.Lists.{first_init_without_next}
use Rattle.btor2text.specs.Spelling.{IsModelOf}
use Rattle.verbs.specs.Fitting.{IsNoWholeModel, IsNotFit, IsNotFitted, IsProfileOf}
use Rattle.verbs.specs.Statuses.{IfInput}
use Rattle.verbs.specs.Subjects.{whole_told}
use Rattle.verbs.specs.Unfitting.{IsSpreadWide, IsUnfittedWide}
use Rattle.verbs.specs.Whole.{IsJudgedByWhole, IsJudgedFitted, IsJudgedWhole, IsNotWhole, IsSpread, IsSpreadByWhole, IsSpreadWhole, IsUnfittedByWhole, IsUnfittedWhole, IsWholeOf}
use Rattle.verbs.proofs.FittedLemmas.{not_fitted, seen}
use Rattle.verbs.proofs.UnfittingLemmas.{ready_as}

-- ---- refusals

-- the same of a text that stands for it
pub not_fit_whole : (text : List ℕ) (lines : List FullLine) (x : Refusal) → IsProfileOf text None → StandsForFull text lines → IfInput (IsNotWhole lines) x → IfInput (IsNotFit text) x
not_fit_whole text lines (refusal.Input (fault.Writing e)) none stands h = record { not_profile = none; lines = lines; stands = stands; unwritten = h }
not_fit_whole text lines (refusal.Input (fault.Fitting e)) none stands h = inr (record { not_profile = none; lines = lines; stands = stands; wide = h.0; written = h.1; unfit = h.2 })
not_fit_whole text lines (refusal.Input _) none stands h = absurd h
not_fit_whole text lines _ none stands h = tt

-- ---- the same where a word may ask for a bad property

-- what refuses a text that is of no model
pub no_model_with : (word known : Option (List ℕ)) (x : Refusal) → IfInput (IsNoWholeModel known) x → IfInput (IsNotFittedWith word known) x
no_model_with None known (refusal.Input (fault.Model e)) h = h
no_model_with (Some word) known (refusal.Input (fault.Model e)) h = h
no_model_with word known (refusal.Input _) h = absurd h
no_model_with word known _ h = tt

-- what keeps the model from being written out, or fitted
pub not_whole_with : (word : Option (List ℕ)) (text : List ℕ) (lines : List FullLine) (x : Refusal) → IsProfileOf text None → StandsForFull text lines → IfInput (IsNotWhole lines) x
    → IfInput (IsNotFittedWith word (Some text)) x
not_whole_with None text lines (refusal.Input (fault.Writing e)) none stands h = not_fit_whole text lines (refusal.Input (fault.Writing e)) none stands h
not_whole_with None text lines (refusal.Input (fault.Fitting e)) none stands h = not_fit_whole text lines (refusal.Input (fault.Fitting e)) none stands h
not_whole_with (Some word) text lines (refusal.Input (fault.Writing e)) none stands h = not_fit_whole text lines (refusal.Input (fault.Writing e)) none stands h
not_whole_with (Some word) text lines (refusal.Input (fault.Fitting e)) none stands h = not_fit_whole text lines (refusal.Input (fault.Fitting e)) none stands h
not_whole_with word text lines (refusal.Input _) none stands h = absurd h
not_whole_with word text lines _ none stands h = tt

-- what a word asks for in vain
pub unasked_whole : (word known : Option (List ℕ)) (full : List FullLine) (f : Fault) → IfSome known (λ text. StandsForFull text full)
    → AsksForNone word (length (lines_of is_bad full)) (is_symbol_of (whole_told full)) f → IsNotFittedWith word known f
unasked_whole None known full f stands none = absurd none
unasked_whole (Some word) known full (fault.Engine e) stands none = inr (record { full = full; text = stands; unasked = none })
unasked_whole (Some word) known full (fault.SameName j k) stands none = inr (record { full = full; text = stands; unasked = none })
unasked_whole (Some word) known full _ stands none = absurd none

-- the same of a model that needs no fitting
pub not_fitted_profile : (word known : Option (List ℕ)) (items : List Item) (x : Refusal) → IsModelOf known items → first_init_without_next items items ≡ None → IfInput (IsUnjudgedFor word items) x
    → IfInput (IsNotFittedWith word known) x
not_fitted_profile word known items (refusal.Input (fault.NoNext id)) text ready h = absurd (cc (h, ready))
not_fitted_profile None known items (refusal.Input _) text ready h = absurd h
not_fitted_profile (Some word) known items (refusal.Input (fault.Engine e)) text ready h = inl (record { items = items; text = text; unasked = h })
not_fitted_profile (Some word) known items (refusal.Input (fault.SameName j k)) text ready h = inl (record { items = items; text = text; unasked = h })
not_fitted_profile (Some word) known items (refusal.Input _) text ready h = absurd h
not_fitted_profile word known items _ text ready h = tt

pub judged_over_profile : (word known witness : Option (List ℕ)) (r : JudgedOverModel) → IsJudgedFor word known witness r
    → IsJudgedFittedFor word known witness (record { model = given_model.Profile r.model; outcome = r.outcome; firsts = r.firsts })
judged_over_profile word known witness r is = is

-- of all that was to come
unread_refused : (word : Option (List ℕ)) (text : List ℕ) (f : Fault) → IsNotFittedWith word (Some text) f → IsNotFittedWith word None f
unread_refused None text (fault.Model e) h = tt
unread_refused None text (fault.Fitting e) h = tt
unread_refused None text (fault.Writing e) h = tt
unread_refused (Some word) text (fault.Model e) h = tt
unread_refused (Some word) text (fault.Fitting e) h = tt
unread_refused (Some word) text (fault.Writing e) h = tt
unread_refused (Some word) text (fault.Engine e) (inl h) = inl (record { items = h.items; text = tt; unasked = h.unasked })
unread_refused (Some word) text (fault.Engine e) (inr h) = inr (record { full = h.full; text = tt; unasked = h.unasked })
unread_refused (Some word) text (fault.SameName j k) (inl h) = inl (record { items = h.items; text = tt; unasked = h.unasked })
unread_refused (Some word) text (fault.SameName j k) (inr h) = inr (record { full = h.full; text = tt; unasked = h.unasked })
unread_refused word text _ h = absurd h

with_all : (word known : Option (List ℕ)) (text : List ℕ) (x : Refusal) → IfSome known (λ all. text ≡ all) → IfInput (IsNotFittedWith word (Some text)) x → IfInput (IsNotFittedWith word known) x
with_all word None text (refusal.Input f) same h = unread_refused word text f h
with_all word (Some all) text (refusal.Input f) same h = subst (λ (t : List ℕ). IsNotFittedWith word (Some t) f) same h
with_all word known text _ same h = tt

pub refused_with_all : (r : Result JudgedFitted Refusal) (word known : Option (List ℕ)) (text : List ℕ) → IfSome known (λ all. text ≡ all) → IfErr r (IfInput (IsNotFittedWith word (Some text)))
    → IfErr r (IfInput (IsNotFittedWith word known))
refused_with_all (Ok j) word known text same h = tt
refused_with_all (Err x) word known text same h = with_all word known text x same h

unread_judged : (word witness : Option (List ℕ)) (text : List ℕ) (m : GivenModel) (o : Outcome) (firsts : List (Option ℕ)) → IsJudgedOverGiven word (Some text) witness m o firsts → IsJudgedOverGiven word None witness m o firsts
unread_judged word witness text (given_model.Profile items) o firsts h = record {
  claim = h.claim;
  verdict = h.verdict;
  claimed = h.claimed;
  text = tt;
  well_formed = h.well_formed;
  each_has_next_or_is_free = h.each_has_next_or_is_free;
  asked = h.asked;
  judged = h.judged;
  reached = h.reached;
  claims = h.claims;
  rises = h.rises;
  outcome = h.outcome;
}
unread_judged word witness text (given_model.Whole full) o firsts h = record {
  claim = h.claim;
  verdict = h.verdict;
  claimed = h.claimed;
  stands = tt;
  asked = h.asked;
  judged = h.judged;
  claims = h.claims;
  outcome = h.outcome;
}

pub judged_over_all : (r : Result JudgedFitted Refusal) (word known witness : Option (List ℕ)) (text : List ℕ) → IfSome known (λ all. text ≡ all) → IfOk r (IsJudgedFittedFor word (Some text) witness)
    → IfOk r (IsJudgedFittedFor word known witness)
judged_over_all (Ok j) word None witness text same h = unread_judged word witness text j.model j.outcome j.firsts h
judged_over_all (Ok j) word (Some all) witness text same h = subst (λ (t : List ℕ). IsJudgedFittedFor word (Some t) witness j) same h
judged_over_all (Err x) word known witness text same h = tt

-- ---- what is refused for nothing

-- what refuses no input refuses none for this
pub never_input : (P : Fault → Type 0) (x : Refusal) → IfInput (λ f. ⊥) x → IfInput P x
never_input P (refusal.Input f) h = absurd h
never_input P _ h = tt

pub never_refused : (r : Result Judgement Refusal) (P : Fault → Type 0) → IfErr r (IfInput (λ f. ⊥)) → IfErr r (IfInput P)
never_refused (Ok j) P h = tt
never_refused (Err x) P h = never_input P x h

-- the same of all that was to come, of what was read of it
pub refused_over_all : (r : Result Judgement Refusal) (known : Option (List ℕ)) (text : List ℕ) → IfSome known (λ all. text ≡ all) → IfErr r (IfInput (IsNotFit text)) → IfErr r (IfInput (IsNotFitted known))
refused_over_all (Ok j) known text same h = tt
refused_over_all (Err x) known text same h = not_fitted known text x same h

-- ---- the nodes with the words of states

-- nodes that have whole words have values
pub are_words : (wide : List Item) (layout : Layout) (celled : List Item) (ids nodes : List ℕ) → AllZip (IsWhole wide layout celled) ids nodes → AreWords celled nodes
are_words wide layout celled [] [] h = tt
are_words wide layout celled (i ∷ is) (n ∷ ns) h = (ap is_some h.0.width, are_words wide layout celled is ns h.1)
are_words wide layout celled (i ∷ is) [] h = absurd h
are_words wide layout celled [] (n ∷ ns) h = absurd h

pub both_words : (celled : List Item) (leaves nodes : List ℕ) → AreWords celled leaves → AreWords celled nodes → AreWords celled (leaves ++ nodes)
both_words celled [] nodes h k = k
both_words celled (n ∷ ns) nodes h k = (h.0, both_words celled ns nodes h.1 k)

-- ---- by what a witness of a model is judged

pub of_whole : (full : List FullLine) (w : Whole) (h : IsWholeOf full w) → HasWordsOf full h.written.places h.written.wide h.written.cells.layout h.celled → IsWideModel greatest_width h.celled
    → IsJudgeable w.states w.inputs w.words w.shape w.narrow full h.written.places h.written.wide h.written.cells.layout h.celled
of_whole full w h words model = record {
  is_states = h.states;
  is_inputs = h.inputs;
  written = h.written.written;
  words = words;
  fitted = record { is_shape = h.shape; model = model; fit = h.placed.fit };
  state_words = h.placed.state_words;
}

-- ---- what is written

pub spread_by : (full : List FullLine) (w : Whole) (h : IsWholeOf full w) (witness before now : Option (List ℕ)) (j : Judgement) → IsJudgedByWhole full witness j
    → IfSome witness (λ text. IsShort text → Appends before now (spread_text w.shape (words_text (full_shape full) text)))
    → IfSome witness (λ text. IsShort text → KeepsSpread w.states w.shape w.narrow full text j)
    → IsSpreadByWhole full witness before now j
spread_by full w h witness before now j judged written kept = record {
  celled = h.celled;
  narrow = w.narrow;
  written_out = h.written;
  fit = h.placed.fit;
  judged = judged;
  written = subst (λ (s : Shape). IfSome witness (λ text. IsShort text → Appends before now (spread_text s (words_text (full_shape full) text)))) h.shape written;
  kept = subst (λ (t : List Sort). IfSome witness (λ text. IsShort text → KeepsSpread t (shape_of h.celled) w.narrow full text j)) h.states
      (subst (λ (s : Shape). IfSome witness (λ text. IsShort text → KeepsSpread w.states s w.narrow full text j)) h.shape kept);
}

-- what the lines of a witness are made with
record Made : Type 0 where
  states : List Sort
  inputs : List Sort
  shape : Shape
  names : Names

abbrev made_with : Whole → Names → Made
made_with w names = record { states = w.states; inputs = w.inputs; shape = w.shape; names = names }

abbrev made_of : List FullLine → List Item → Made
made_of full celled = record { states = (full_shape full).states; inputs = (full_shape full).inputs; shape = shape_of celled; names = names_of full }

made_same : (full : List FullLine) (w : Whole) (names : Names) (h : IsWholeOf full w) → names ≡ names_of full → made_with w names ≡ made_of full h.celled
made_same full w names h same = rw (h.states, h.inputs, h.shape, same) refl

pub unfitted_by : (named : Bool) (full : List FullLine) (w : Whole) (names : Names) (h : IsWholeOf full w) → names ≡ names_of full → (witness before now : Option (List ℕ)) (j : Judgement)
    → IfSome witness (λ text. (k : Judgement) × (Judges w.narrow text k × (j ≡ judged_by w.states None (joined_judgement w.shape k))))
    → IfSome witness (λ text. Appends before now (unfit_full_text w.states w.inputs w.shape names named w.words w.narrow text))
    → IfSome witness (λ text. KeepsFullJudgement full h.celled (unfit_full_text w.states w.inputs w.shape names named w.words w.narrow text) j)
    → (u : IsUnfittedByWhole named full witness before now j) × (u.narrow ≡ w.narrow)
unfitted_by named full w names h same witness before now j judged written kept =
    let is = made_same full w names h same in (
      record {
        celled = h.celled;
        narrow = w.narrow;
        words = w.words;
        written_out = h.written;
        placed = h.placed;
        judged = subst (λ (m : Made). IfSome witness (λ text. (k : Judgement) × (Judges w.narrow text k × (j ≡ judged_by m.states None (joined_judgement m.shape k))))) is judged;
        written = subst (λ (m : Made). IfSome witness (λ text. Appends before now (unfit_full_text m.states m.inputs m.shape m.names named w.words w.narrow text))) is written;
        kept = subst (λ (m : Made). IfSome witness (λ text. KeepsFullJudgement full h.celled (unfit_full_text m.states m.inputs m.shape m.names named w.words w.narrow text) j)) is kept;
      },
      refl,
    )

-- ---- what is so over a text that was read is so over what was to come

stands_as : (known : Option (List ℕ)) (text : List ℕ) (lines : List FullLine) → IfSome known (λ all. text ≡ all) → IfSome (Some text) (λ t. StandsForFull t lines) → IfSome known (λ t. StandsForFull t lines)
stands_as known text lines same h = seen (λ t. StandsForFull t lines) known text same h

judged_as : (known : Option (List ℕ)) (text : List ℕ) (witness : Option (List ℕ)) (j : Judgement) → IfSome known (λ all. text ≡ all) → IsJudgedFitted (Some text) witness j
    → IsJudgedFitted known witness j
judged_as known text witness j same (inl h) = inl (record { wide = h.wide; narrow = h.narrow; ready = ready_as known text h.wide h.narrow same h.ready; judged = h.judged })
judged_as known text witness j same (inr h) = inr (record { lines = h.lines; stands = stands_as known text h.lines same h.stands; judged = h.judged })

-- ---- what is so over one of the two is so

-- what is so of a judgement, where there is one, by what else is so of it
pub where_judged : (P Q : Judgement → Type 0) (r : Result Judgement Refusal) → ((j : Judgement) → P j → Q j) → IfOk r P → IfOk r Q
where_judged P Q (Ok j) f h = f j h
where_judged P Q (Err x) f h = tt

pub over_all : (r : Result Judgement Refusal) (known : Option (List ℕ)) (text : List ℕ) (witness : Option (List ℕ)) → IfSome known (λ all. text ≡ all) → IfOk r (IsJudgedFitted (Some text) witness)
    → IfOk r (IsJudgedFitted known witness)
over_all r known text witness same h = where_judged (IsJudgedFitted (Some text) witness) (IsJudgedFitted known witness) r (λ j k. judged_as known text witness j same k) h

pub over_text : (r : Result Judgement Refusal) (text : List ℕ) (lines : List FullLine) (witness : Option (List ℕ)) → StandsForFull text lines → IfOk r (IsJudgedByWhole lines witness)
    → IfOk r (IsJudgedWhole (Some text) witness)
over_text r text lines witness stands h = where_judged (IsJudgedByWhole lines witness) (IsJudgedWhole (Some text) witness) r (λ j k. record { lines = lines; stands = stands; judged = k }) h

-- the same of what is spread
pub spread_by_words : (r : Result Judgement Refusal) (model witness before now : Option (List ℕ)) → IfOk r (IsSpreadWide model witness before now) → IfOk r (IsSpread model witness before now)
spread_by_words r model witness before now h = where_judged (IsSpreadWide model witness before now) (IsSpread model witness before now) r (λ j k. inl k) h

pub spread_by_whole : (r : Result Judgement Refusal) (model witness before now : Option (List ℕ)) → IfOk r (IsSpreadWhole model witness before now) → IfOk r (IsSpread model witness before now)
spread_by_whole r model witness before now h = where_judged (IsSpreadWhole model witness before now) (IsSpread model witness before now) r (λ j k. inr k) h

pub spread_over_text : (r : Result Judgement Refusal) (text : List ℕ) (lines : List FullLine) (witness before now : Option (List ℕ)) → StandsForFull text lines
    → IfOk r (IsSpreadByWhole lines witness before now) → IfOk r (IsSpreadWhole (Some text) witness before now)
spread_over_text r text lines witness before now stands h =
    where_judged (IsSpreadByWhole lines witness before now) (IsSpreadWhole (Some text) witness before now) r (λ j k. record { lines = lines; stands = stands; spread = k }) h

pub unfitted_over_text : (named : Bool) (r : Result Judgement Refusal) (text : List ℕ) (lines : List FullLine) (narrow : List Item) (witness before now : Option (List ℕ)) → StandsForFull text lines
    → IfOk r (λ j. (u : IsUnfittedByWhole named lines witness before now j) × (u.narrow ≡ narrow)) → IfOk r (IsUnfittedWhole named (Some text) witness before now)
unfitted_over_text named r text lines narrow witness before now stands h =
    where_judged (λ j. (u : IsUnfittedByWhole named lines witness before now j) × (u.narrow ≡ narrow)) (IsUnfittedWhole named (Some text) witness before now) r (λ j k. record { lines = lines; stands = stands; unfitted = k.0 }) h

-- the same of a list of words
pub unfitted_words : (named : Bool) (r : Result Judgement Refusal) (model witness before now : Option (List ℕ)) (narrow : List Item) → IfOk r (λ j. (u : IsUnfittedWide named model witness before now j) × (u.narrow ≡ narrow))
    → IfOk r (IsUnfittedWide named model witness before now)
unfitted_words named r model witness before now narrow h =
    where_judged (λ j. (u : IsUnfittedWide named model witness before now j) × (u.narrow ≡ narrow)) (IsUnfittedWide named model witness before now) r (λ j k. k.0) h
