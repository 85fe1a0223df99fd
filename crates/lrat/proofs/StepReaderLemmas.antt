-- Readers of steps with hints.
use Rattle.std.proofs.Common.{◌≡◌, ℕ, ◌==◌, length, Bool, true, false, List, [], ◌∷◌, ◌++◌, refl, sym, ap, ap₂, subst, ◌∙◌, append_assoc, append-nil, arith}
use Rattle.std.specs.Prelude.{◌+◌, ◌*◌, nat_lt, Option, Some, None, if◌then◌else◌, Result, IfOk}
use Rattle.std.proofs.lemmas.Bool.{ne_eqb}
use Rattle.base.specs.Decimals.{is_nothing}
use Rattle.drup.specs.declared.fault.ClauseFault.{ClauseFault}
use Rattle.drup.specs.declared.judgement.Judgement.{Judgement}
use Rattle.drup.specs.declared.judgement.Judgement.TheVariants as judgement
use Rattle.drup.specs.declared.why.Why.{Why}
use Rattle.drup.specs.declared.why.Why.TheVariants as why
use Rattle.drup.specs.Formula.{Formula}
use Rattle.drup.specs.Proofs.{ProofFault}
use Rattle.drup.specs.Hints.{Named, named_from, HintedStep, HintedEnded, ended, HintedReading, judge_named, judge_hinted}
use Rattle.drup.specs.HintedJudges.{HintedJudge, continued, StandsForHinted, HasJudgedHinted, BeginsHintedAt, BeginsHinted}
use Rattle.lrat.specs.declared.step_reader.Part.{Part}
use Rattle.lrat.specs.declared.step_reader.Part.TheVariants as part
use Rattle.lrat.specs.HintedProofs.{Token, faulty, Mark, mark, Begun, between, literals, hints, deletions, Taken, goes_on, gives, refuses, with_literal, literal_taken, taken, behind_steps, by_taken, refused, has_begun, reading_from}
use Rattle.drup.specs.Words.{sign_of}
use Rattle.lrat.specs.Words.{token_said, signed}
use Rattle.lrat.specs.StepReaders.{StepReader, is_literals, is_hints, begun_of, HasTaken, Open, Closed, StandsAtStep, StandsForWords, Takes, HasRead, BeginsReader}

abbrev made : List HintedEnded → Option ProofFault → HintedReading
made steps fault = record { steps = steps; fault = fault }

-- a word more, in front of what follows
reads_mark : (f : Formula) (r : StepReader) (marks : List Mark) (line : ℕ) (token : Token) (does : Taken) (o : Open f r marks) → taken r.variables r.begun token ≡ does → (last : ℕ) (more : List Mark)
    → reading_from r.variables last between ((marks ++ mark line token ∷ []) ++ more) ≡ behind_steps o.steps (by_taken line (λ after. reading_from r.variables last after more) does)
reads_mark f r marks line token does o is last more =
    ap (reading_from r.variables last between) (append_assoc marks (mark line token ∷ []) more)
    ∙ o.reads last (mark line token ∷ more)
    ∙ ap (λ (d : Taken). behind_steps o.steps (by_taken line (λ after. reading_from r.variables last after more) d)) is

-- what an open reader stands for
opened : (f : Formula) (r : StepReader) (marks : List Mark) → r.closed ≡ false → r.failed ≡ false → StandsForWords f r marks → Open f r marks
opened f r marks is ok s = subst (StandsAtStep f r marks) is (s ok)

stands_open : (f : Formula) (r : StepReader) (marks : List Mark) → r.closed ≡ false → Open f r marks → StandsForWords f r marks
stands_open f r marks is o ok = subst (StandsAtStep f r marks) (sym is) o

-- ---- what a word does

pub takes_failed : (old new : StepReader) (line : ℕ) (does : Taken) → new.failed ≡ true → Takes old line does new
takes_failed old new line does is f marks token does_is s ok = absurd (cc (is, ok))

pub takes_over : (old now new : StepReader) (line : ℕ) (does : Taken) → old ≡ now → Takes old line does new → Takes now line does new
takes_over old now new line does same t = subst (λ (x : StepReader). Takes x line does new) same t

pub takes_as : (old new : StepReader) (line : ℕ) (does other : Taken) → does ≡ other → Takes old line does new → Takes old line other new
takes_as old new line does other same t = subst (λ (d : Taken). Takes old line d new) same t

pub takes_goes : (old : StepReader) (line : ℕ) (begun : Begun) → old.closed ≡ false → Takes old line (goes_on begun) (record old { begun = begun })
takes_goes old line begun open_is f marks token is s ok =
    let o : Open f old marks = opened f old marks open_is ok s in
    let new : StepReader = record old { begun = begun } in
    stands_open f new (marks ++ mark line token ∷ []) open_is (record {
      steps = o.steps;
      stands = o.stands;
      reads = λ last more. reads_mark f old marks line token (goes_on begun) o is last more;
    }) ok

pub takes_gives : (old : StepReader) (line : ℕ) (step : HintedStep) (begun : Begun) (judge : HintedJudge) → old.closed ≡ false
    → ((f : Formula) (steps : List HintedEnded) → StandsForHinted f steps old.judge → StandsForHinted f (steps ++ ended line step ∷ []) judge)
    → Takes old line (gives step begun) (record old { judge = judge; begun = begun })
takes_gives old line step begun judge open_is over f marks token is s ok =
    let o : Open f old marks = opened f old marks open_is ok s in
    let new : StepReader = record old { judge = judge; begun = begun } in
    stands_open f new (marks ++ mark line token ∷ []) open_is (record {
      steps = o.steps ++ ended line step ∷ [];
      stands = over f o.steps o.stands;
      reads = λ last more. reads_mark f old marks line token (gives step begun) o is last more
          ∙ ap (λ (xs : List HintedEnded). made xs (reading_from old.variables last begun more).fault)
          (sym (append_assoc o.steps (ended line step ∷ []) (reading_from old.variables last begun more).steps));
    }) ok

pub takes_refuses : (old : StepReader) (line : ℕ) (w : Why) (judge : HintedJudge) → old.closed ≡ false
    → ((f : Formula) (steps : List HintedEnded) → StandsForHinted f steps old.judge → HasJudgedHinted f steps (record { line = line; why = w }) judge)
    → Takes old line (refuses w) (record old { judge = judge; closed = true })
takes_refuses old line w judge open_is over f marks token is s ok =
    let o : Open f old marks = opened f old marks open_is ok s in
    record {
      steps = o.steps;
      fault = record { line = line; why = w };
      judged = over f o.steps o.stands;
      reads = λ last more. reads_mark f old marks line token (refuses w) o is last more
          ∙ ap (λ (xs : List HintedEnded). made xs (Some (record { line = line; why = w }))) (append-nil o.steps);
    }

-- the same from what is seen of a reader

pub goes : (old now : StepReader) (line : ℕ) (begun other : Begun) → old ≡ now → now.closed ≡ false → other ≡ begun → Takes now line (goes_on begun) (record old { begun = other })
goes old now line begun other same open_is is =
    takes_over old now (record old { begun = other }) line (goes_on begun) same
    (subst (λ (b : Begun). Takes old line (goes_on begun) (record old { begun = b })) (sym is) (takes_goes old line begun (ap (λ (x : StepReader). x.closed) same ∙ open_is)))

pub gives_step : (old now : StepReader) (line : ℕ) (step : HintedStep) (begun : Begun) (judge : HintedJudge) → old ≡ now → now.closed ≡ false
    → ((f : Formula) (steps : List HintedEnded) → StandsForHinted f steps old.judge → StandsForHinted f (steps ++ ended line step ∷ []) judge)
    → Takes now line (gives step begun) (record old { judge = judge; begun = begun })
gives_step old now line step begun judge same open_is over =
    takes_over old now (record old { judge = judge; begun = begun }) line (gives step begun) same (takes_gives old line step begun judge (ap (λ (x : StepReader). x.closed) same ∙ open_is) over)

pub refuses_word : (old now : StepReader) (line : ℕ) (w : Why) (judge : HintedJudge) → old ≡ now → now.closed ≡ false
    → ((f : Formula) (steps : List HintedEnded) → StandsForHinted f steps old.judge → HasJudgedHinted f steps (record { line = line; why = w }) judge)
    → Takes now line (refuses w) (record old { judge = judge; closed = true })
refuses_word old now line w judge same open_is over =
    takes_over old now (record old { judge = judge; closed = true }) line (refuses w) same (takes_refuses old line w judge (ap (λ (x : StepReader). x.closed) same ∙ open_is) over)

-- ---- what has come of a step

pub faulty_refused : (variables : ℕ) (begun : Begun) (w : Why) → taken variables begun (faulty w) ≡ refuses w
faulty_refused variables between w = refl
faulty_refused variables (literals id clause) w = refl
faulty_refused variables (hints id clause before) w = refl
faulty_refused variables deletions w = refl

-- literals that are kept, where an id and literals have come
pub literals_kept : (p : Part) (i : ℕ) (c h : List ℕ) (id : ℕ) (clause : List ℕ) → begun_of p i c h ≡ literals id clause → (p ≡ part.Literals) × (i ≡ id) × (c ≡ clause)
literals_kept part.Between i c h id clause is = absurd (cc)
literals_kept part.Literals i c h id clause is = (refl, cc, cc)
literals_kept part.Hints i c h id clause is = absurd (cc)
literals_kept part.Deletions i c h id clause is = absurd (cc)

pub hints_kept : (p : Part) (i : ℕ) (c h : List ℕ) (id : ℕ) (clause before : List ℕ) → begun_of p i c h ≡ hints id clause before → (p ≡ part.Hints) × (i ≡ id) × (c ≡ clause) × (h ≡ before)
hints_kept part.Between i c h id clause before is = absurd (cc)
hints_kept part.Literals i c h id clause before is = absurd (cc)
hints_kept part.Hints i c h id clause before is = (refl, cc, cc, cc)
hints_kept part.Deletions i c h id clause before is = absurd (cc)

pub literal_more : (p : Part) (i : ℕ) (c h : List ℕ) (id : ℕ) (clause : List ℕ) (l : ℕ) (more : List ℕ) → begun_of p i c h ≡ literals id clause → more ≡ c ++ l ∷ [] → begun_of p i more h ≡ literals id (clause ++ l ∷ [])
literal_more p i c h id clause l more is by =
    let own = literals_kept p i c h id clause is in
    rw (own.0, own.1, by, own.2) refl

pub literals_there : (b : Begun) → is_literals b ≡ true → (id : ℕ) × ((clause : List ℕ) × (b ≡ literals id clause))
literals_there between is = absurd (cc (is))
literals_there (literals id clause) is = (id, (clause, refl))
literals_there (hints id clause before) is = absurd (cc (is))
literals_there deletions is = absurd (cc (is))

-- a number with a minus or without, as a literal
pub signed_taken : (v id : ℕ) (clause : List ℕ) (negative : Bool) (n : ℕ) → literal_taken v id clause (token_said (signed negative n)) ≡ with_literal v id clause (sign_of negative) n
signed_taken v id clause false n = refl
signed_taken v id clause true n = refl

pub hints_there : (b : Begun) → is_hints b ≡ true → (id : ℕ) × ((clause : List ℕ) × ((before : List ℕ) × (b ≡ hints id clause before)))
hints_there between is = absurd (cc (is))
hints_there (literals id clause) is = absurd (cc (is))
hints_there (hints id clause before) is = (id, (clause, (before, refl)))
hints_there deletions is = absurd (cc (is))

pub hint_more : (p : Part) (i : ℕ) (c h : List ℕ) (id : ℕ) (clause before : List ℕ) (l : ℕ) (more : List ℕ) → begun_of p i c h ≡ hints id clause before → more ≡ h ++ l ∷ [] → begun_of p i c more ≡ hints id clause (before ++ l ∷ [])
hint_more p i c h id clause before l more is by =
    let own = hints_kept p i c h id clause before is in
    rw (own.0, own.1, own.2, by, own.3) refl

pub nothing_by_length : (xs : List ℕ) → (length xs == 0) ≡ is_nothing xs
nothing_by_length [] = refl
nothing_by_length (x ∷ xs) = ne_eqb (length (x ∷ xs)) 0 (λ e. omega (arith, e))

-- ---- a variable's number

pub literal_zero : (v id : ℕ) (clause : List ℕ) (sign n : ℕ) → n ≡ 0 → refuses why.BadWord ≡ with_literal v id clause sign n
literal_zero v id clause sign n is = rw is refl

pub literal_beyond : (v id : ℕ) (clause : List ℕ) (sign n : ℕ) → (n == 0) ≡ false → nat_lt v n ≡ true → refuses why.BadVariable ≡ with_literal v id clause sign n
literal_beyond v id clause sign n some many = rw (some, many) refl

pub literal_within : (v id : ℕ) (clause : List ℕ) (sign n l : ℕ) → (n == 0) ≡ false → nat_lt v n ≡ false → l ≡ 2 * n + sign → goes_on (literals id (clause ++ l ∷ [])) ≡ with_literal v id clause sign n
literal_within v id clause sign n l some few is = rw (some, few, is) refl

-- ---- before any word

hinted_begun : (f : Formula) (judge : HintedJudge) → BeginsHinted f judge → StandsForHinted f [] judge
hinted_begun f judge b ok fault rest = at judge.found (b ok)
  where
    at : (found : Option Judgement) → BeginsHintedAt f judge found → judge_hinted f (record { steps = rest; fault = fault }) ≡ continued judge found fault rest
    at None h =
        ap (λ (t : Bool). if t then judgement.Derived 0 else judge_named fault rest (named_from 1 f.clauses) (length f.clauses)) h.2
        ∙ ap₂ (λ (n : Named) (last : ℕ). judge_named fault rest n last) (λ i k. sym (h.0 k) i) (sym h.1)
    at (Some found) h = ap (λ (t : Bool). if t then judgement.Derived 0 else judge_named fault rest (named_from 1 f.clauses) (length f.clauses)) h.1 ∙ sym h.0

pub stands_begun : (f : Formula) (r : StepReader) → BeginsReader f r → StandsForWords f r []
stands_begun f r b = stands_open f r [] b.closed (record {
  steps = [];
  stands = hinted_begun f r.judge b.begins;
  reads = λ last more. ap (λ (begun : Begun). reading_from r.variables last begun more) (sym b.begun);
})

-- ---- the end

whole_marks : (v last : ℕ) (marks : List Mark) → reading_from v last between marks ≡ reading_from v last between (marks ++ [])
whole_marks v last marks = ap (reading_from v last between) (sym (append-nil marks))

pub read_closed : (f : Formula) (r : StepReader) (marks : List Mark) (last : ℕ) → r.closed ≡ true → StandsForWords f r marks → HasRead f r (reading_from r.variables last between marks)
read_closed f r marks last is s ok =
    let c : Closed f r marks = subst (StandsAtStep f r marks) is (s ok) in
    (c.steps, (Some c.fault, (c.judged, whole_marks r.variables last marks ∙ c.reads last [])))

pub read_open : (f : Formula) (r : StepReader) (marks : List Mark) (last : ℕ) → r.closed ≡ false → has_begun r.begun ≡ false → StandsForWords f r marks → HasRead f r (reading_from r.variables last between marks)
read_open f r marks last is none s ok =
    let o : Open f r marks = opened f r marks is ok s in
    let end : reading_from r.variables last r.begun [] ≡ made [] None = rw none refl in (
      o.steps,
      (
        None,
        (
          o.stands,
          whole_marks r.variables last marks ∙ o.reads last [] ∙ ap (behind_steps o.steps) end ∙ ap (λ (xs : List HintedEnded). made xs None) (append-nil o.steps),
        ),
      ),
    )

pub read_cut : (f : Formula) (old new : StepReader) (marks : List Mark) (last : ℕ) → old.closed ≡ false → new.failed ≡ old.failed → new.variables ≡ old.variables → new.closed ≡ true → has_begun old.begun ≡ true → Takes old last (refuses why.CutOff) new
    → StandsForWords f old marks → HasRead f new (reading_from old.variables last between marks)
read_cut f old new marks last is same variables closed begun over s ok =
    let o : Open f old marks = opened f old marks is (sym same ∙ ok) s in
    let cut : reading_from old.variables last old.begun [] ≡ refused last why.CutOff = rw begun refl in
    let m : Mark = mark last (faulty why.CutOff) in
    let refused_is : taken old.variables old.begun (faulty why.CutOff) ≡ refuses why.CutOff = faulty_refused old.variables old.begun why.CutOff in
    let alike : reading_from old.variables last between marks ≡ reading_from old.variables last between ((marks ++ m ∷ []) ++ []) =
    whole_marks old.variables last marks ∙ o.reads last [] ∙ ap (behind_steps o.steps) cut ∙ sym (reads_mark f old marks last (faulty why.CutOff) (refuses why.CutOff) o refused_is last []) in
    let c : Closed f new (marks ++ m ∷ []) = subst (StandsAtStep f new (marks ++ m ∷ [])) closed (over f marks (faulty why.CutOff) refused_is s ok) in
    (c.steps, (Some c.fault, (c.judged, alike ∙ ap (λ (v : ℕ). reading_from v last between ((marks ++ m ∷ []) ++ [])) (sym variables) ∙ c.reads last [])))

pub read_as : (f : Formula) (r : StepReader) (reading whole : HintedReading) → (r.failed ≡ false → reading ≡ whole) → HasRead f r whole → HasRead f r reading
read_as f r reading whole same h ok = let own = h ok in (own.0, (own.1.0, (own.1.1.0, same ok ∙ own.1.1.1)))

pub judged_as : (f : Formula) (r : StepReader) (result : Result Judgement ClauseFault) → ((steps : List HintedEnded) → StandsForHinted f steps r.judge → IfOk result (λ j. j ≡ judge_hinted f (record { steps = steps; fault = None })))
    → ((steps : List HintedEnded) (fault : ProofFault) → HasJudgedHinted f steps fault r.judge → IfOk result (λ j. j ≡ judge_hinted f (record { steps = steps; fault = Some fault })))
    → (steps : List HintedEnded) (fault : Option ProofFault) → HasTaken f steps fault r.judge → IfOk result (λ j. j ≡ judge_hinted f (record { steps = steps; fault = fault }))
judged_as f r result none some steps None h = none steps h
judged_as f r result none some steps (Some fault) h = some steps fault h
