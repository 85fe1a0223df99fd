-- Readers of steps.
use Rattle.std.proofs.Common.{◌≡◌, ℕ, ◌==◌, length, Bool, true, false, List, [], ◌∷◌, ◌++◌, refl, sym, ap, ap₂, subst, ◌∙◌, append_assoc, append-nil, arith}
use Rattle.std.proofs.lemmas.Bool.{ne_eqb}
use Rattle.std.specs.Prelude.{Option, Some, None, Result, IfOk}
use Rattle.base.specs.Decimals.{is_nothing}
use Rattle.drup.specs.declared.fault.ClauseFault.{ClauseFault}
use Rattle.drup.specs.declared.judgement.Judgement.{Judgement}
use Rattle.drup.specs.declared.why.Why.{Why}
use Rattle.drup.specs.declared.why.Why.TheVariants as why
use Rattle.drup.specs.Formula.{Formula}
use Rattle.drup.specs.Proofs.{ends, deletes, literal, faulty, Mark, mark, Ended, ended, ProofFault, ProofReading, step_of, has_begun, refused, reading_from}
use Rattle.drup.specs.Judgements.{JudgesReading}
use Rattle.drup.specs.StepJudges.{StepJudge, StandsForSteps, HasJudged}
use Rattle.drup.specs.StepReaders.{StepReader, behind_steps, Open, Closed, StandsAtStep, StandsForWords, HasReadAt, HasRead, BeginsReader}
use Rattle.drup.proofs.StepJudgeLemmas.{stands_begun as steps_begun}

abbrev made : List Ended → Option ProofFault → ProofReading
made steps fault = record { steps = steps; fault = fault }

-- a word more, in front of what follows
reads_mark : (f : Formula) (r : StepReader) (marks : List Mark) (m : Mark) (o : Open f r marks) (last : ℕ) (more : List Mark)
    → reading_from last false [] ((marks ++ m ∷ []) ++ more) ≡ behind_steps o.steps (reading_from last r.deleting r.clause (m ∷ more))
reads_mark f r marks m o last more = ap (reading_from last false []) (append_assoc marks (m ∷ []) more) ∙ o.reads last (m ∷ more)

open_end : (f : Formula) (r : StepReader) (marks : List Mark) (line : ℕ) (judge : StepJudge) (clause : List ℕ) (closed failed : Bool) → clause ≡ []
    → ((steps : List Ended) → StandsForSteps f steps r.judge → StandsForSteps f (steps ++ ended line (step_of r.deleting r.clause) ∷ []) judge)
    → Open f r marks → Open f (record { judge = judge; clause = clause; deleting = false; closed = closed; failed = failed }) (marks ++ mark line ends ∷ [])
open_end f r marks line judge clause closed failed empty over o =
    let e : Ended = ended line (step_of r.deleting r.clause) in
    record {
      steps = o.steps ++ e ∷ [];
      stands = over o.steps o.stands;
      reads = λ last more. reads_mark f r marks (mark line ends) o last more
          ∙ ap (λ (xs : List Ended). made xs (reading_from last false [] more).fault) (sym (append_assoc o.steps (e ∷ []) (reading_from last false [] more).steps))
          ∙ ap (λ (c : List ℕ). behind_steps (o.steps ++ e ∷ []) (reading_from last false c more)) (sym empty);
    }

-- the same behind a word
open_next : (f : Formula) (old new : StepReader) (marks : List Mark) (m : Mark) → new.judge ≡ old.judge
    → ((last : ℕ) (more : List Mark) → reading_from last old.deleting old.clause (m ∷ more) ≡ reading_from last new.deleting new.clause more) → Open f old marks → Open f new (marks ++ m ∷ [])
open_next f old new marks m same over o =
    record {
      steps = o.steps;
      stands = subst (StandsForSteps f o.steps) (sym same) o.stands;
      reads = λ last more. reads_mark f old marks m o last more ∙ ap (behind_steps o.steps) (over last more);
    }

closed_by : (f : Formula) (r : StepReader) (marks : List Mark) (m : Mark) (line : ℕ) (w : Why) (judge : StepJudge) (clause : List ℕ) (deleting closed failed : Bool)
    → ((last : ℕ) (more : List Mark) → reading_from last r.deleting r.clause (m ∷ more) ≡ refused line w)
    → ((steps : List Ended) → StandsForSteps f steps r.judge → HasJudged f steps (record { line = line; why = w }) judge)
    → Open f r marks → Closed f (record { judge = judge; clause = clause; deleting = deleting; closed = closed; failed = failed }) (marks ++ m ∷ [])
closed_by f r marks m line w judge clause deleting closed failed is over o =
    record {
      steps = o.steps;
      fault = record { line = line; why = w };
      judged = over o.steps o.stands;
      reads = λ last more. reads_mark f r marks m o last more ∙ ap (behind_steps o.steps) (is last more)
          ∙ ap (λ (xs : List Ended). made xs (Some (record { line = line; why = w }))) (append-nil o.steps);
    }

-- what an open reader stands for
opened : (f : Formula) (r : StepReader) (marks : List Mark) → r.closed ≡ false → r.failed ≡ false → StandsForWords f r marks → Open f r marks
opened f r marks is ok s = subst (StandsAtStep f r marks) is (s ok)

stands_open : (f : Formula) (r : StepReader) (marks : List Mark) → r.closed ≡ false → Open f r marks → StandsForWords f r marks
stands_open f r marks is o ok = subst (StandsAtStep f r marks) (sym is) o

pub stands_end : (f : Formula) (r : StepReader) (marks : List Mark) (line : ℕ) (judge : StepJudge) (clause : List ℕ) → r.closed ≡ false → clause ≡ []
    → ((steps : List Ended) → StandsForSteps f steps r.judge → StandsForSteps f (steps ++ ended line (step_of r.deleting r.clause) ∷ []) judge)
    → StandsForWords f r marks → StandsForWords f (record { judge = judge; clause = clause; deleting = false; closed = r.closed; failed = r.failed }) (marks ++ mark line ends ∷ [])
stands_end f r marks line judge clause is empty over s ok =
    stands_open f (record { judge = judge; clause = clause; deleting = false; closed = r.closed; failed = r.failed }) (marks ++ mark line ends ∷ []) is
    (open_end f r marks line judge clause r.closed r.failed empty over (opened f r marks is ok s)) ok

pub stands_refused : (f : Formula) (r : StepReader) (marks : List Mark) (line : ℕ) (w : Why) (judge : StepJudge) → r.closed ≡ false
    → ((steps : List Ended) → StandsForSteps f steps r.judge → HasJudged f steps (record { line = line; why = w }) judge)
    → StandsForWords f r marks → StandsForWords f (record { judge = judge; clause = r.clause; deleting = r.deleting; closed = true; failed = r.failed }) (marks ++ mark line (faulty w) ∷ [])
stands_refused f r marks line w judge is over s ok =
    closed_by f r marks (mark line (faulty w)) line w judge r.clause r.deleting true r.failed (λ last more. refl) over (opened f r marks is ok s)

-- a `d` within a step is refused
refused_within : (f : Formula) (r : StepReader) (marks : List Mark) (line last : ℕ) (more : List Mark) → has_begun r.deleting r.clause ≡ true
    → reading_from last r.deleting r.clause (mark line deletes ∷ more) ≡ reading_from last r.deleting r.clause (mark line (faulty why.BadWord) ∷ more)
refused_within f r marks line last more begun = rw begun refl

-- words that read alike, whatever follows
alike_open : (f : Formula) (r : StepReader) (marks : List Mark) (m n : Mark) → ((last : ℕ) (more : List Mark) → reading_from last false [] ((marks ++ m ∷ []) ++ more) ≡ reading_from last false [] ((marks ++ n ∷ []) ++ more))
    → StandsForWords f r (marks ++ n ∷ []) → StandsForWords f r (marks ++ m ∷ [])
alike_open f r marks m n same s ok = at r.closed (s ok)
  where
    at : (closed : Bool) → StandsAtStep f r (marks ++ n ∷ []) closed → StandsAtStep f r (marks ++ m ∷ []) closed
    at true c = record { steps = c.steps; fault = c.fault; judged = c.judged; reads = λ last more. same last more ∙ c.reads last more }
    at false o = record { steps = o.steps; stands = o.stands; reads = λ last more. same last more ∙ o.reads last more }

pub stands_within : (f : Formula) (old new : StepReader) (marks : List Mark) (line : ℕ) → old.closed ≡ false → (new.failed ≡ false → old.failed ≡ false) → has_begun old.deleting old.clause ≡ true
    → (StandsForWords f old marks → StandsForWords f new (marks ++ mark line (faulty why.BadWord) ∷ [])) → StandsForWords f old marks → StandsForWords f new (marks ++ mark line deletes ∷ [])
stands_within f old new marks line is was begun over s ok =
    let o = opened f old marks is (was ok) s in
    alike_open f new marks (mark line deletes) (mark line (faulty why.BadWord))
    (λ last more. reads_mark f old marks (mark line deletes) o last more ∙ ap (behind_steps o.steps) (refused_within f old marks line last more begun) ∙ sym (reads_mark f old marks (mark line (faulty why.BadWord)) o last more))
    (over s) ok

pub stands_deleting : (f : Formula) (r : StepReader) (marks : List Mark) (line : ℕ) → r.closed ≡ false → has_begun r.deleting r.clause ≡ false
    → StandsForWords f r marks → StandsForWords f (record { judge = r.judge; clause = r.clause; deleting = true; closed = r.closed; failed = r.failed }) (marks ++ mark line deletes ∷ [])
stands_deleting f r marks line is none s ok =
    let new : StepReader = record { judge = r.judge; clause = r.clause; deleting = true; closed = r.closed; failed = r.failed } in
    stands_open f new (marks ++ mark line deletes ∷ []) is
    (open_next f r new marks (mark line deletes) refl (λ last more. begins r.deleting r.clause last more none) (opened f r marks is ok s)) ok
  where
    begins : (deleting : Bool) (clause : List ℕ) (last : ℕ) (more : List Mark) → has_begun deleting clause ≡ false → reading_from last deleting clause (mark line deletes ∷ more) ≡ reading_from last true clause more
    begins true clause last more none = absurd (cc)
    begins false [] last more none = refl
    begins false (l ∷ ls) last more none = absurd (cc)

pub stands_literal : (f : Formula) (r : StepReader) (marks : List Mark) (line l : ℕ) (clause : List ℕ) → r.closed ≡ false → clause ≡ r.clause ++ l ∷ []
    → StandsForWords f r marks → StandsForWords f (record { judge = r.judge; clause = clause; deleting = r.deleting; closed = r.closed; failed = r.failed }) (marks ++ mark line (literal l) ∷ [])
stands_literal f r marks line l clause is more_is s ok =
    let new : StepReader = record { judge = r.judge; clause = clause; deleting = r.deleting; closed = r.closed; failed = r.failed } in
    stands_open f new (marks ++ mark line (literal l) ∷ []) is
    (open_next f r new marks (mark line (literal l)) refl (λ last more. ap (λ (c : List ℕ). reading_from last r.deleting c more) (sym more_is)) (opened f r marks is ok s)) ok

-- ---- before any word

pub stands_begun : (f : Formula) (r : StepReader) → BeginsReader f r → StandsForWords f r []
stands_begun f r b = stands_open f r [] b.closed (record {
  steps = [];
  stands = steps_begun f r.judge b.begins;
  reads = λ last more. ap₂ (λ (d : Bool) (c : List ℕ). reading_from last d c more) (sym b.deleting) (sym b.clause);
})

-- ---- the end

whole_marks : (last : ℕ) (marks : List Mark) → reading_from last false [] marks ≡ reading_from last false [] (marks ++ [])
whole_marks last marks = ap (reading_from last false []) (sym (append-nil marks))

pub read_closed : (f : Formula) (r : StepReader) (marks : List Mark) (last : ℕ) → r.closed ≡ true → StandsForWords f r marks → HasRead f r (reading_from last false [] marks)
read_closed f r marks last is s ok =
    let c : Closed f r marks = subst (StandsAtStep f r marks) is (s ok) in
    subst (HasReadAt f r (reading_from last false [] marks)) (sym is) (c.steps, (c.fault, (c.judged, whole_marks last marks ∙ c.reads last [])))

pub read_open : (f : Formula) (r : StepReader) (marks : List Mark) (last : ℕ) → r.closed ≡ false → has_begun r.deleting r.clause ≡ false → StandsForWords f r marks → HasRead f r (reading_from last false [] marks)
read_open f r marks last is none s ok =
    let o : Open f r marks = opened f r marks is ok s in
    let end : reading_from last r.deleting r.clause [] ≡ made [] None = rw none refl in
    subst (HasReadAt f r (reading_from last false [] marks)) (sym is)
    (o.steps, (o.stands, whole_marks last marks ∙ o.reads last [] ∙ ap (behind_steps o.steps) end ∙ ap (λ (xs : List Ended). made xs None) (append-nil o.steps)))

pub read_cut : (f : Formula) (old new : StepReader) (marks : List Mark) (last : ℕ) → old.closed ≡ false → (new.failed ≡ false → old.failed ≡ false) → new.closed ≡ true → has_begun old.deleting old.clause ≡ true
    → (StandsForWords f old marks → StandsForWords f new (marks ++ mark last (faulty why.CutOff) ∷ [])) → StandsForWords f old marks → HasRead f new (reading_from last false [] marks)
read_cut f old new marks last is was closed begun over s ok =
    let o : Open f old marks = opened f old marks is (was ok) s in
    let m : Mark = mark last (faulty why.CutOff) in
    let cut : reading_from last old.deleting old.clause [] ≡ reading_from last old.deleting old.clause (m ∷ []) = rw begun refl in
    let same : reading_from last false [] marks ≡ reading_from last false [] (marks ++ m ∷ []) = whole_marks last marks ∙ o.reads last [] ∙ ap (behind_steps o.steps) cut ∙ sym (o.reads last (m ∷ [])) in
    subst (λ (reading : ProofReading). HasReadAt f new reading new.closed) (sym same) (read_closed f new (marks ++ m ∷ []) last closed (over s) ok)

pub read_as : (f : Formula) (r : StepReader) (reading whole : ProofReading) → (r.failed ≡ false → reading ≡ whole) → HasRead f r whole → HasRead f r reading
read_as f r reading whole same h ok = subst (λ (g : ProofReading). HasReadAt f r g r.closed) (sym (same ok)) (h ok)

pub nothing_by_length : (xs : List ℕ) → (length xs == 0) ≡ is_nothing xs
nothing_by_length [] = refl
nothing_by_length (x ∷ xs) = ne_eqb (length (x ∷ xs)) 0 (λ e. omega (arith, e))

pub judges_read : (f : Formula) (r : StepReader) (reading : ProofReading) (result : Result Judgement ClauseFault) → r.failed ≡ false
    → ((steps : List Ended) → StandsForSteps f steps r.judge → IfOk result (λ j. JudgesReading f (record { steps = steps; fault = None }) j))
    → ((steps : List Ended) (fault : ProofFault) → HasJudged f steps fault r.judge → IfOk result (λ j. JudgesReading f (record { steps = steps; fault = Some fault }) j))
    → HasRead f r reading → IfOk result (λ j. JudgesReading f reading j)
judges_read f r reading result ok none some h = at r.closed (h ok)
  where
    at : (closed : Bool) → HasReadAt f r reading closed → IfOk result (λ j. JudgesReading f reading j)
    at true x = subst (λ (g : ProofReading). IfOk result (λ j. JudgesReading f g j)) (sym x.1.1.1) (some x.0 x.1.0 x.1.1.0)
    at false x = subst (λ (g : ProofReading). IfOk result (λ j. JudgesReading f g j)) (sym x.1.1) (none x.0 x.1.0)
