-- What a judge of witnesses of either kind holds, line by line and part by part, and what it reads of a whole text.
use Rattle.std.proofs.Common.{◌≡◌, ℕ, ◌+◌, ◌-◌, ◌<◌, ◌≤◌, ◌^◌, min, nat_le, Bool, true, false, not, ◌&&◌, ◌||◌, List, [], ◌∷◌, ◌++◌, Option, Some, None, is_some, Result, Ok, Err, refl, sym, ap, ap₂, subst, ◌∙◌, arith}
use Rattle.std.proofs.lemmas.Bool.{le-leb, lt-leb}
use Rattle.base.specs.Lines.{IsLine, whole_lines, unfinished}
use Rattle.witness.specs.declared.why.Why.{Why}
use Rattle.witness.specs.declared.why.Why.TheVariants as why
use Rattle.witness.specs.declared.judgement.Judgement.{Judgement}
use Rattle.witness.specs.declared.judgement.Judgement.TheVariants as judgement
use Rattle.witness.specs.Texts.{most_lines}
use Rattle.witness.specs.Readings.{Reading, so_far, next_line, lines_read, reading, is_nothing, last_refusal, Fault, refused_for, read_or_fault, text_read}
use Rattle.witness.specs.Judgements.{JudgesAs}
use Rattle.witness.specs.Stands.{Judge, Judging, IsOfLines, StandsForLines}
use Rattle.witness.proofs.ReadingLemmas.{whole_is, goes, lines_append, few_read}
use Rattle.witness.proofs.JudgedLemmas.{read_judged}
use Rattle.witness.proofs.TextEndLemmas.{whole_lines-part, unfinished-part}
use Rattle.std.proofs.Math.Bool.{or-false}

-- whether there is a refusal, by the test
pub no_refusal : (o : Option Why) → is_some o ≡ false → o ≡ None
no_refusal None h = refl
no_refusal (Some w) h = absurd cc

pub some_refusal : (o : Option Why) → is_some o ≡ true → (w : Why) × (o ≡ Some w)
some_refusal None h = absurd cc
some_refusal (Some w) h = (w, refl)

-- the next line may be the status
abbrev pub awaits : {R : Type 0} → (R → Bool) → Reading R → Bool
awaits status g = not (is_some g.refused) && (not (nat_le most_lines g.admitted) && status g.read)

pub none_awaited : {R : Type 0} → (status : R → Bool) (g : Reading R) → status g.read ≡ false → awaits status g ≡ false
none_awaited status g other =
    elim (is_some g.refused) as (λ s. (not s && (not (nat_le most_lines g.admitted) && status g.read)) ≡ false) [
      | true ↦ refl
      | false ↦ elim (nat_le most_lines g.admitted) as (λ b. (not b && status g.read) ≡ false) [ true ↦ refl | false ↦ other ]
    ]

-- whether there is a claim, behind a line more
abbrev pub ClaimsMore : {R Q L : Type 0} → Judging R Q L → Type 0
ClaimsMore g =
    (lines : List (List ℕ)) (line : List ℕ) → g.makes_no_claim (lines ++ line ∷ []) ≡ (g.makes_no_claim lines || (awaits g.awaits_status (lines_read g.reader lines) && g.says_none line))

-- ---- a line behind others

module _ {R Q L : Type 0} (g : Judging R Q L) (claims_more : ClaimsMore g) (lines : List (List ℕ)) (line taken : List ℕ) (j : Judge Q L) (is : IsOfLines g j lines taken) where
  abbrev now : Reading R
  now = lines_read g.reader lines

  claim_with : (awaited : Bool) → awaits g.awaits_status now ≡ awaited → (j.no_claim || (awaited && g.says_none line)) ≡ g.makes_no_claim (lines ++ line ∷ [])
  claim_with awaited e = ap₂ (λ (b c : Bool). b || (c && g.says_none line)) is.no_claim (sym e) ∙ sym (claims_more lines line)

  claim_stays : awaits g.awaits_status now ≡ false → j.no_claim ≡ g.makes_no_claim (lines ++ line ∷ [])
  claim_stays e = sym (or-false j.no_claim) ∙ claim_with false e

  one_more : lines_read g.reader (lines ++ line ∷ []) ≡ next_line g.reader now line
  one_more = lines_append g.reader (so_far 0 g.reader.nothing) lines (line ∷ [])

  -- what is read then
  one_read : (next : Reading R) → next_line g.reader now line ≡ next → (lines_read g.reader (lines ++ line ∷ [])).read ≡ next.read
  one_read next is = ap (λ (x : Reading R). x.read) (one_more ∙ is)

  refused_then : (q : Q) (w : Why) (no_claim : Bool) → next_line g.reader now line ≡ record now { refused = Some w } → no_claim ≡ g.makes_no_claim (lines ++ line ∷ []) → g.Counts q now.read
      → IsOfLines g (record j { reader = q; refused = Some w; no_claim = no_claim }) (lines ++ line ∷ []) []
  refused_then q w no_claim next claims counts =
      let all : lines_read g.reader (lines ++ line ∷ []) ≡ record now { refused = Some w } = one_more ∙ next in
      record {
        admitted = is.admitted ∙ ap (λ (x : Reading R). x.admitted) (sym all);
        refused = ap (λ (x : Reading R). x.refused) (sym all);
        no_claim = claims;
        counts = subst (λ (x : Reading R). g.Counts q x.read) (sym all) counts;
        reads = λ e. absurd cc;
      }

  -- behind a refused line nothing changes
  pub stays_refused : (w : Why) → j.refused ≡ Some w → (s : L) → IsOfLines g (record j { line = s }) (lines ++ line ∷ []) []
  unfolding next_line
  stays_refused w refused s =
      let was : now.refused ≡ Some w = sym is.refused ∙ refused in
      let all : lines_read g.reader (lines ++ line ∷ []) ≡ now = one_more ∙ rw was refl in
      record {
        admitted = is.admitted ∙ ap (λ (x : Reading R). x.admitted) (sym all);
        refused = is.refused ∙ ap (λ (x : Reading R). x.refused) (sym all);
        no_claim = claim_stays (rw was refl);
        counts = subst (λ (x : Reading R). g.Counts j.reader x.read) (sym all) is.counts;
        reads = λ none. absurd (cc (none, refused));
      }

  pub stays_read : (w : Why) → j.refused ≡ Some w → (lines_read g.reader (lines ++ line ∷ [])).read ≡ now.read
  unfolding next_line
  stays_read w refused = let was : now.refused ≡ Some w = sym is.refused ∙ refused in one_read now (rw was refl)

  module _ (none : j.refused ≡ None) where
    not_refused : now.refused ≡ None
    not_refused = sym is.refused ∙ none

    pub too_many : most_lines ≤ j.admitted → IsOfLines g (record j { refused = Some why.TooLong }) (lines ++ line ∷ []) []
    unfolding next_line
    too_many many =
        let full : nat_le most_lines now.admitted ≡ true = ap (nat_le most_lines) (sym is.admitted) ∙ le-leb most_lines j.admitted many in
        refused_then j.reader why.TooLong j.no_claim (rw (not_refused, full) refl) (claim_stays (rw (not_refused, full) refl)) is.counts

    pub too_many_read : most_lines ≤ j.admitted → (lines_read g.reader (lines ++ line ∷ [])).read ≡ now.read
    unfolding next_line
    too_many_read many =
        let full : nat_le most_lines now.admitted ≡ true = ap (nat_le most_lines) (sym is.admitted) ∙ le-leb most_lines j.admitted many in
        one_read (record now { refused = Some why.TooLong }) (rw (not_refused, full) refl)

    module _ (few : j.admitted < most_lines) where
      room : nat_le most_lines now.admitted ≡ false
      room = ap (nat_le most_lines) (sym is.admitted) ∙ lt-leb most_lines j.admitted few

      claim_now : (no_claim status : Bool) → status ≡ g.awaits_status now.read → no_claim ≡ (j.no_claim || (status && g.says_none line)) → no_claim ≡ g.makes_no_claim (lines ++ line ∷ [])
      claim_now no_claim status same e = e ∙ claim_with status (rw (not_refused, room) (sym same))

      pub not_admitted : (q : Q) (w : Why) (no_claim status : Bool) → g.Counts q now.read → g.reader.admit now.read line ≡ Err w → status ≡ g.awaits_status now.read → no_claim ≡ (j.no_claim || (status && g.says_none line))
          → IsOfLines g (record j { reader = q; refused = Some w; no_claim = no_claim }) (lines ++ line ∷ []) []
      unfolding next_line
      not_admitted q w no_claim status counts refuses same claims = refused_then q w no_claim (rw (not_refused, room, refuses) refl) (claim_now no_claim status same claims) counts

      pub not_admitted_read : (w : Why) → g.reader.admit now.read line ≡ Err w → (lines_read g.reader (lines ++ line ∷ [])).read ≡ now.read
      unfolding next_line
      not_admitted_read w refuses = one_read (record now { refused = Some w }) (rw (not_refused, room, refuses) refl)

      pub admitted_read : (next : R) → g.reader.admit now.read line ≡ Ok next → (lines_read g.reader (lines ++ line ∷ [])).read ≡ next
      unfolding next_line
      admitted_read next admits = one_read (so_far (now.admitted + 1) next) (rw (not_refused, room, admits) refl)

      pub line_admitted : (q : Q) (next : R) (no_claim status : Bool) → g.reader.admit now.read line ≡ Ok next → g.Reads q next [] → g.Counts q next → status ≡ g.awaits_status now.read → no_claim ≡ (j.no_claim || (status && g.says_none line))
          → IsOfLines g (record j { reader = q; admitted = j.admitted + 1; no_claim = no_claim }) (lines ++ line ∷ []) []
      unfolding next_line
      line_admitted q next no_claim status admits reads counts same claims =
          let all : lines_read g.reader (lines ++ line ∷ []) ≡ so_far (now.admitted + 1) next = one_more ∙ rw (not_refused, room, admits) refl in
          record {
            admitted = ap (λ (n : ℕ). n + 1) is.admitted ∙ ap (λ (x : Reading R). x.admitted) (sym all);
            refused = none ∙ ap (λ (x : Reading R). x.refused) (sym all);
            no_claim = claim_now no_claim status same claims;
            counts = subst (λ (x : Reading R). g.Counts q x.read) (sym all) counts;
            reads = λ e. subst (λ (x : Reading R). g.Reads q x.read []) (sym all) reads;
          }

-- ---- a part of a line

module _ {R Q L : Type 0} (g : Judging R Q L) where
  -- what is kept of the next line is other bytes'
  pub with_bytes : (lines : List (List ℕ)) (line next : List ℕ) (j : Judge Q L) (q : Q) (s : L) → IsOfLines g j lines line → g.Counts q (lines_read g.reader lines).read
      → (j.refused ≡ None → g.Reads q (lines_read g.reader lines).read next) → IsOfLines g (record j { reader = q; line = s }) lines next
  with_bytes lines line next j q s is counts reads = record { admitted = is.admitted; refused = is.refused; no_claim = is.no_claim; counts = counts; reads = reads }

  pub part_more : (text part : List ℕ) (j : Judge Q L) (q : Q) (s : L) → IsLine part → StandsForLines g j text → g.Keeps s (unfinished text ++ part) → g.Counts q (lines_read g.reader (whole_lines text)).read
      → (j.refused ≡ None → g.Reads q (lines_read g.reader (whole_lines text)).read (unfinished text ++ part)) → StandsForLines g (record j { reader = q; line = s }) (text ++ part)
  part_more text part j q s one stands keeps counts reads =
      let new : Judge Q L = record j { reader = q; line = s } in
      let lines : IsOfLines g new (whole_lines text) (unfinished text ++ part) = with_bytes (whole_lines text) (unfinished text) (unfinished text ++ part) j q s stands.lines counts reads in
      record {
        lines = subst (λ (ls : List (List ℕ)). IsOfLines g new ls (unfinished (text ++ part))) (sym (whole_lines-part text part one)) (subst (IsOfLines g new (whole_lines text)) (sym (unfinished-part text part one)) lines);
        line = subst (g.Keeps s) (sym (unfinished-part text part one)) keeps;
      }

  -- behind the end of a line
  pub line_ended : (text : List ℕ) (lines : List (List ℕ)) (j : Judge Q L) → whole_lines text ≡ lines → unfinished text ≡ [] → IsOfLines g j lines [] → g.Keeps j.line [] → StandsForLines g j text
  line_ended text lines j whole none is empty =
      record {
        lines = subst (λ (ls : List (List ℕ)). IsOfLines g j ls (unfinished text)) (sym whole) (subst (IsOfLines g j lines) (sym none) is);
        line = subst (g.Keeps j.line) (sym none) empty;
      }

-- ---- the end of a text

-- by what is judged of what it says
module _ {R Q L : Type 0} (g : Judging R Q L) (Says : R → Judgement → Type 0) (text part : List ℕ) (j : Judge Q L) (is : IsOfLines g j (whole_lines text) part) where
  abbrev all : Reading R
  all = lines_read g.reader (whole_lines text)

  abbrev Judged : Judgement → Type 0
  Judged result = JudgesAs Says (g.makes_no_claim (whole_lines text)) (text_read g.reader text) result

  -- by the whole lines
  by_lines : (o : Option Why) (read : Result R Fault) (result : Judgement) → j.no_claim ≡ false → j.refused ≡ o → read_or_fault g.reader.ended all (unfinished text) o ≡ read → JudgesAs Says false read result → Judged result
  unfolding reading
  by_lines o read result claims refused said =
      read_judged Says (g.makes_no_claim (whole_lines text)) (text_read g.reader text) read result (sym is.no_claim ∙ claims)
      (ap (read_or_fault g.reader.ended all (unfinished text)) (sym is.refused ∙ refused) ∙ said)

  number : (n : ℕ) → n ≡ min (j.admitted + 1) (2 ^ 64 - 1) → n ≡ all.admitted + 1
  number n e = omega (arith, e, few_read g.reader (whole_lines text) (goes g.reader 0 g.reader.nothing (whole_lines text) (omega arith)), is.admitted)

  pub refused_line : (w : Why) (n : ℕ) → j.no_claim ≡ false → j.refused ≡ Some w → n ≡ min (j.admitted + 1) (2 ^ 64 - 1) → Judged (judgement.Malformed n w)
  refused_line w n claims refused count =
      by_lines (Some w) (Err (record { line = n; why = w })) (judgement.Malformed n w) claims refused (ap (λ (m : ℕ). Err (record { line = m; why = w })) (sym (number n count))) refl

  same_refusal : (ended empty : Bool) → ended ≡ g.reader.ended all.read → empty ≡ is_nothing (unfinished text) → last_refusal ended j.admitted empty ≡ last_refusal (g.reader.ended all.read) all.admitted (is_nothing (unfinished text))
  same_refusal ended empty end none = rw (end, none, is.admitted) refl

  pub refused_last : (w : Why) (n : ℕ) (ended empty : Bool) → j.no_claim ≡ false → j.refused ≡ None → ended ≡ g.reader.ended all.read → empty ≡ is_nothing (unfinished text) → last_refusal ended j.admitted empty ≡ Some w
      → n ≡ min (j.admitted + 1) (2 ^ 64 - 1) → Judged (judgement.Malformed n w)
  refused_last w n ended empty claims none end rest last count =
      by_lines None (Err (record { line = n; why = w })) (judgement.Malformed n w) claims none
      (ap (refused_for all) (sym (same_refusal ended empty end rest) ∙ last) ∙ ap (λ (m : ℕ). Err (record { line = m; why = w })) (sym (number n count))) refl

  pub whole_text : (ended empty : Bool) (result : Judgement) → j.no_claim ≡ false → j.refused ≡ None → ended ≡ g.reader.ended all.read → empty ≡ is_nothing (unfinished text) → last_refusal ended j.admitted empty ≡ None
      → (g.reader.ended all.read ≡ true → Says all.read result) → Judged result
  whole_text ended empty result claims none end rest last says =
      by_lines None (Ok all.read) result claims none (ap (refused_for all) (sym (same_refusal ended empty end rest) ∙ last)) (says (sym end ∙ (whole_is ended j.admitted empty last).0))

  pub whole_read : (ended empty : Bool) → j.refused ≡ None → ended ≡ g.reader.ended all.read → empty ≡ is_nothing (unfinished text) → last_refusal ended j.admitted empty ≡ None → text_read g.reader text ≡ Ok (reading g.reader text).read
  unfolding reading
  whole_read ended empty none end rest last = ap (read_or_fault g.reader.ended all (unfinished text)) (sym is.refused ∙ none) ∙ ap (refused_for all) (sym (same_refusal ended empty end rest) ∙ last)
