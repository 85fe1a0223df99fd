-- What is left of a text's reading before a line is what the line gives and what is left behind it.
use Rattle.std.proofs.Common.{◌≡◌, ℕ, Bool, true, false, ◌==◌, List, [], ◌∷◌, length, Option, None, Some, Result, Ok, Err, refl, ap, ◌∙◌, inl, inr}
use Rattle.std.specs.Prelude.{IfOk, IfErr}
use Rattle.std.specs.Io.KnownBytes.{IsAtEnd}
use Rattle.std.proofs.lemmas.Bool.{cases_Bool}
use Rattle.restore.specs.declared.fault.RestoreWhy.{RestoreWhy}
use Rattle.restore.specs.declared.fault.RestoreFault.{RestoreFault}
use Rattle.restore.specs.declared.place.Place.{Place}
use Rattle.restore.specs.declared.place.Place.TheVariants as place
use Rattle.base.specs.Lines.{all_lines}
use Rattle.restore.specs.Reading.{before_mark, initial_why, whole}
use Rattle.restore.specs.Steps.{FramesReader, may_follow, IsTextFault, read_at, frames_to_come, AgreeAsGiven, GivesFound, StepsOn, TellsNoFrame, lines_from, given_by, TakesFound}

pub initial_of_text : (line : List ℕ) (n : ℕ) (w : RestoreWhy) → initial_why line ≡ Some w → IsTextFault (record { line = n; why = w })
initial_of_text [] n w h = absurd (cc)
initial_of_text (b ∷ line) n w h =
    elim (cases_Bool (b == 48)) [
      | inl zeroes ↦ initial_of_text line n w (let rest = rw zeroes at h in rest)
      | inr other ↦
          elim (cases_Bool (b == 49)) [
            | inl one ↦ let e = rw (other, one) at h in (λ d. cc, (λ d. cc, λ d. cc))
            | inr none ↦ let e = rw (other, none) at h in (λ d. cc, (λ d. cc, λ d. cc))
          ]
    ]

-- a line was taken
pub agree_by : (a b : Option (List ℕ)) (line : List ℕ) (last found : Bool) (old new : FramesReader) → TakesFound line last a b
    → ((more : List (List ℕ)) → read_at old.place (length old.frame) (lines_from line last more) ≡ given_by found new.frame (read_at new.place (length new.frame) more))
    → AgreeAsGiven (frames_to_come old) (λ rest. given_by found new.frame (frames_to_come new rest)) a b
agree_by None b line last found old new takes reads = tt
agree_by (Some text) None line last found old new takes reads = absurd takes
agree_by (Some text) (Some rest) line last found old new takes reads =
    ap (read_at old.place (length old.frame)) takes ∙ reads (all_lines (before_mark rest))

-- where no line may follow, no byte counts
closed_gives : (r : FramesReader) (xs ys : List ℕ) → may_follow r.place ≡ false → frames_to_come r xs ≡ frames_to_come r ys
closed_gives r xs ys closed = by r.place (length r.frame) (all_lines (before_mark xs)) (all_lines (before_mark ys)) closed
  where
    by : (p : Place) (width : ℕ) (l m : List (List ℕ)) → may_follow p ≡ false → read_at p width l ≡ read_at p width m
    by place.Start width l m closed = absurd (cc)
    by place.First width l m closed = absurd (cc)
    by (place.Going n) width l m closed = absurd (cc)
    by place.Ended width l m closed = refl
    by (place.Failed e) width l m closed = refl

gives_closed : (a b : Option (List ℕ)) (old now : FramesReader) → AgreeAsGiven (frames_to_come old) (frames_to_come now) a b → may_follow now.place ≡ false → GivesFound old a (frames_to_come now [])
gives_closed None b old now same closed = tt
gives_closed (Some x) None old now same closed = absurd same
gives_closed (Some x) (Some y) old now same closed = same ∙ closed_gives now y [] closed

gives_none : (a b : Option (List ℕ)) (old now : FramesReader) → AgreeAsGiven (frames_to_come old) (frames_to_come now) a b → now.place ≡ place.Ended → GivesFound old a (whole [])
gives_none None b old now same ended = tt
gives_none (Some x) None old now same ended = absurd same
gives_none (Some x) (Some y) old now same ended = same ∙ ap (λ (p : Place). read_at p (length now.frame) (all_lines (before_mark y))) ended

-- the reading is at its end
pub ends_steps : (r : Result Bool RestoreFault) (old now : FramesReader) (p : Place) (a b c end : Option (List ℕ)) (fails failed : ℕ) → AgreeAsGiven (frames_to_come old) (frames_to_come now) a b → may_follow now.place ≡ false → now.place ≡ p
    → IfOk r (λ more. (more ≡ false) × ((p ≡ place.Ended) × (IsAtEnd end × (failed ≡ fails))))
    → IfErr r (λ e. TellsNoFrame e p end fails failed)
    → StepsOn r old now a c
ends_steps (Ok true) old now p a b c end fails failed same closed at none fault = absurd (let e = none.0 in cc)
ends_steps (Ok false) old now p a b c end fails failed same closed at none fault = (at ∙ none.1.0, gives_none a b old now same (at ∙ none.1.0))
ends_steps (Err e) old now p a b c end fails failed same closed at none (inl device) = (inl (inl device.0), inr (closed, gives_closed a b old now same closed))
ends_steps (Err e) old now p a b c end fails failed same closed at none (inr told) = (inr (at ∙ told.0, told.1.0), inr (closed, gives_closed a b old now same closed))
