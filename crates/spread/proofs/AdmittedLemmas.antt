-- What an admitted line is spread to, and which part is open behind it.
use Rattle.std.proofs.Common.{◌≡◌, ℕ, suc, ◌<◌, ◌≤◌, ◌^◌, ◌==◌, Bool, true, false, cond, ◌&&◌, List, [], ◌∷◌, ◌++◌, Option, Some, None, Result, Ok, Err, IfOk, codes, decimal, length, length-append, inl, inr, refl, sym, ap, ap₂, ◌∙◌, arith}
use Rattle.std.specs.Str.{bytes_eq}
use Rattle.std.proofs.lemmas.Bool.{cases_Bool, eqb-true, or_parts, and_parts}
use Rattle.std.proofs.lemmas.Slice.Eq.{bytes_eq-Decides}
use Rattle.std.proofs.lemmas.Result.{IfOk-at_ok}
use Rattle.base.proofs.DecimalLemmas.{chosen}
use Rattle.base.specs.Decimals.{number_of}
use Rattle.witness.specs.declared.why.Why.{Why}
use Rattle.witness.specs.declared.why.Why.TheVariants as why
use Rattle.witness.specs.Texts.{Shape, Assignment, claims_line, is_comment, has_free}
use Rattle.witness.specs.Readings.{Reading, with_said, next_line, lines_behind}
use Rattle.witness.specs.Admits.{Place, AtStatus, AtClaims, AtParts, InStates, InFrame, AtEnd, Read, cut_at_space, may_name, claims_at, with_value, assignment_at, state_assignment_at, begins_part, opens_frame, opens_states, admit_at, admit, word_reader}
use Rattle.witness.proofs.ReadLemmas.{IsSmall}
use Rattle.witness.proofs.ClaimLemmas.{claims_are_line}
use Rattle.witness.proofs.AssignmentLemmas.{stands_in}
use Rattle.witness.proofs.StepWords.{after_claims}
use Rattle.witness.proofs.ReadingLemmas.{by_test}
use Rattle.rejoin.specs.Pieces.{piece_count, widths_from}
use Rattle.spread.specs.declared.spreader.Part.{Part}
use Rattle.spread.specs.declared.spreader.Part.TheVariants as part
use Rattle.spread.specs.Spread.{part_lines, spread_line}
use Rattle.spread.specs.Passing.{passing_in, passing_at}
use Rattle.spread.specs.Stands.{kept, kept_lines, part_behind, part_at, passing_in_part, IsWideShape}
use Rattle.spread.proofs.WidthLemmas.{pieces, HaveBits, length-widths_from, some_piece}
use Rattle.spread.proofs.AssignedLemmas.{plain_line, named_at, line_index, value_behind}
use Rattle.spread.proofs.AlikeLemmas.{said_in_states, said_in_frame, anywhere}
use Rattle.spread.proofs.GivingLemmas.{admitted_or_not}

-- ---- few words

pub words_few : (widths : List ℕ) → HaveBits widths → length widths ≤ length (pieces widths)
words_few [] have = omega arith
words_few (n ∷ ns) have =
    let rest = words_few ns have.1 in
    omega (arith, rest, length-append (widths_from (piece_count n) n) (pieces ns), length-widths_from (piece_count n) n, some_piece n have.0.0)

pub wide_is_small : (shape : Shape) → IsWideShape shape → IsSmall shape
wide_is_small shape good =
    record {
      bads = good.bads;
      states = omega (arith, words_few shape.states good.states, good.few_states);
      inputs = omega (arith, words_few shape.inputs good.inputs, good.few_inputs);
    }

-- ---- lines that are kept

-- behind a faulty line the lines are refused
pub still_refused : (shape : Shape) (g : Reading Read) (lines : List (List ℕ)) (w : Why) → g.refused ≡ Some w → (lines_behind (word_reader shape) g lines).refused ≡ None → ⊥
unfolding next_line
still_refused shape g [] w some none = cc
still_refused shape g (line ∷ lines) w some none =
    let same : next_line (word_reader shape) g line ≡ g = rw some refl in
    still_refused shape g lines w some (ap (λ (h : Reading Read). (lines_behind (word_reader shape) h lines).refused) (sym same) ∙ none)

-- none is refused
pub all_kept : (shape : Shape) (g : Reading Read) (lines : List (List ℕ)) → (lines_behind (word_reader shape) g lines).refused ≡ None → kept_lines shape g lines ≡ lines
unfolding next_line
all_kept shape g [] none = refl
all_kept shape g (line ∷ lines) none =
    elim (admitted_or_not shape g line) [
      | inl e ↦ ap₂ (λ (o : Option Why) (ls : List (List ℕ)). kept line o ++ ls) e.1 (all_kept shape (next_line (word_reader shape) g line) lines none)
      | inr e ↦ absurd (still_refused shape (next_line (word_reader shape) g line) lines e.1.0 e.1.1 none)
    ]

-- none is admitted
never_fewer : (shape : Shape) (g : Reading Read) (lines : List (List ℕ)) → g.admitted ≤ (lines_behind (word_reader shape) g lines).admitted
never_fewer shape g [] = omega arith
never_fewer shape g (line ∷ lines) =
    let rest = never_fewer shape (next_line (word_reader shape) g line) lines in
    elim (admitted_or_not shape g line) [
      | inl e ↦ omega (arith, rest, e.0)
      | inr e ↦ omega (arith, rest, e.0)
    ]

pub none_kept : (shape : Shape) (g : Reading Read) (lines : List (List ℕ)) → (lines_behind (word_reader shape) g lines).admitted ≡ g.admitted → kept_lines shape g lines ≡ []
none_kept shape g [] same = refl
none_kept shape g (line ∷ lines) same =
    let rest = never_fewer shape (next_line (word_reader shape) g line) lines in
    elim (admitted_or_not shape g line) [
      | inl e ↦ absurd (omega (arith, rest, e.0, same))
      | inr e ↦ ap₂ (λ (o : Option Why) (ls : List (List ℕ)). kept line o ++ ls) e.1.1 (none_kept shape (next_line (word_reader shape) g line) lines (same ∙ sym e.0))
    ]

-- ---- what goes on for a line where a part is open

pub in_its_part : (shape : Shape) (at : Place) (line : List ℕ) → passing_in_part shape.states shape.inputs (part_at at) line ≡ passing_at shape at line
in_its_part shape InStates line = refl
in_its_part shape InFrame line = refl
in_its_part shape AtStatus line = elim (begins_part line) as (λ b. cond b (line ∷ []) (line ∷ []) ≡ line ∷ []) [ true ↦ refl | false ↦ refl ]
in_its_part shape AtClaims line = elim (begins_part line) as (λ b. cond b (line ∷ []) (line ∷ []) ≡ line ∷ []) [ true ↦ refl | false ↦ refl ]
in_its_part shape AtParts line = elim (begins_part line) as (λ b. cond b (line ∷ []) (line ∷ []) ≡ line ∷ []) [ true ↦ refl | false ↦ refl ]
in_its_part shape AtEnd line = elim (begins_part line) as (λ b. cond b (line ∷ []) (line ∷ []) ≡ line ∷ []) [ true ↦ refl | false ↦ refl ]

-- ---- an admitted line

-- a line that is another begins as it
begins_as : (p : Part) (line other : List ℕ) → bytes_eq line other ≡ true → part_behind p line ≡ part_behind p other
begins_as p line other e = ap (part_behind p) ((bytes_eq-Decides line other).0 e)

-- a line of an assignment leaves the part open
stays_open : (p : Part) (line : List ℕ) → begins_part line ≡ false → part_behind p line ≡ p
stays_open p [] h = refl
stays_open p (b ∷ bs) h =
    let first = or_parts (b == 35) _ h in
    let rest = or_parts (b == 64) (b == 46) first.1 in
    rw (first.0, rest.0, rest.1) refl

comment_opens_none : (line : List ℕ) → is_comment line ≡ true → part_behind part.Outside line ≡ part.Outside
comment_opens_none [] h = refl
comment_opens_none (b ∷ bs) h = let is : b ≡ 59 = eqb-true b 59 h in rw is refl

-- a line of claims begins with `b` or `j`
claims_open_none : (bads : ℕ) (line claims : List ℕ) → bads < 2 ^ 64 → claims_at bads line ≡ Ok claims → part_behind part.Outside line ≡ part.Outside
claims_open_none bads line claims few h =
    let are = claims_are_line bads line claims few h in
    ap (part_behind part.Outside) are.spelled ∙ by claims
  where
    by : (claims : List ℕ) → part_behind part.Outside (claims_line claims) ≡ part.Outside
    by [] = refl
    by (i ∷ []) = refl
    by (i ∷ j ∷ more) = refl

module _ (shape : Shape) (few : shape.bads < 2 ^ 64) (r : Read) (line : List ℕ) where
  abbrev Opened : Part → Read → Type 0
  Opened p next = part_behind p line ≡ part_at next.place

  opens_in : (p : Part) (put : List Assignment → Read) → ((list : List Assignment) → part_at (put list).place ≡ p) → (o : Result (List Assignment) Why) → begins_part line ≡ false → IfOk (with_said put o) (Opened p)
  opens_in p put same (Ok list) h = stays_open p line h ∙ sym (same list)
  opens_in p put same (Err w) h = tt

  opened_at : (at : Place) → r.place ≡ at → IfOk (admit_at shape r line at) (Opened (part_at at))
  opened_at AtStatus there =
      by_test (Opened part.Outside) (is_comment line) _ _ (λ e. comment_opens_none line e ∙ sym (ap part_at there)) (λ e. by_test (Opened part.Outside) (bytes_eq line (codes "sat")) _ _ (λ d. begins_as part.Outside line (codes "sat") d) (λ d. tt))
  opened_at AtClaims there = by (claims_at shape.bads line) refl
    where
      by : (o : Result (List ℕ) Why) → claims_at shape.bads line ≡ o → IfOk (after_claims r o) (Opened part.Outside)
      by (Ok claims) is = claims_open_none shape.bads line claims few is
      by (Err w) is = tt
  opened_at AtParts there =
      by_test (Opened part.Outside) (opens_states 0 line) _ _ (λ e. begins_as part.Outside line (35 ∷ decimal 0) e) (λ e. by_test (Opened part.Outside) (opens_frame 0 line) _ _ (λ d. begins_as part.Outside line (64 ∷ decimal 0) d) (λ d. tt))
  opened_at InStates there =
      by_test (Opened part.States) (opens_frame (length r.closed) line) _ _ (λ e. begins_as part.States line (64 ∷ decimal (length r.closed)) e)
      (λ e. by_test (Opened part.States) (begins_part line) _ _ (λ d. tt) (λ d. opens_in part.States (λ list. record r { open_part = list }) (λ list. ap part_at there) (state_assignment_at shape r.closed r.open_part line) d))
  opened_at InFrame there =
      let k : ℕ = suc (length r.closed) in
      by_test (Opened part.Inputs) (opens_frame k line) _ _ (λ e. begins_as part.Inputs line (64 ∷ decimal k) e)
      (λ e. by_test (Opened part.Inputs) (opens_states k line && has_free shape) _ _ (λ d. begins_as part.Inputs line (35 ∷ decimal k) (and_parts (opens_states k line) (has_free shape) d).0)
      (λ d. by_test (Opened part.Inputs) (bytes_eq line (codes ".")) _ _ (λ f. begins_as part.Inputs line (codes ".") f)
      (λ f. by_test (Opened part.Inputs) (begins_part line) _ _ (λ g. tt) (λ g. opens_in part.Inputs (λ list. record r { open_part = list }) (λ list. ap part_at there) (assignment_at shape.inputs r.open_part line) g))))
  opened_at AtEnd there = tt

  pub part_opens : (next : Read) → admit shape r line ≡ Ok next → part_behind (part_at r.place) line ≡ part_at next.place
  unfolding admit
  part_opens next h = IfOk-at_ok (Opened (part_at r.place)) h (opened_at r.place refl)

-- where an assignment is read behind others, it is read alone
read_alone : (widths : List ℕ) (before : List Assignment) (line : List ℕ) (list : List Assignment) → assignment_at widths before line ≡ Ok list → (l : List Assignment) × (assignment_at widths [] line ≡ Ok l)
read_alone widths before line list h =
    elim (line_index widths line) [
      | inl none ↦ absurd (cc (h, none before))
      | inr has ↦
          let read : cond (stands_in has.index before) (Err why.IndexTwice) (with_value widths before has.index has.rest) ≡ Ok list = sym (has.gives (λ o. true) before) ∙ h in
          elim (chosen (stands_in has.index before) (Err why.IndexTwice) (with_value widths before has.index has.rest) (Ok list) read) [
            | inl e ↦ absurd (cc (e.1))
            | inr e ↦ by (with_value widths [] has.index has.rest) (with_value widths [] has.index has.rest) refl (sym (value_behind widths before has.index has.rest) ∙ e.1) has.alone
          ]
    ]
  where
    by : (o v : Result (List Assignment) Why) → v ≡ o → with_said (λ (l : List Assignment). before ++ l) v ≡ Ok list → assignment_at widths [] line ≡ v → (l : List Assignment) × (assignment_at widths [] line ≡ Ok l)
    by (Ok l) v e said alone = (l, alone ∙ e)
    by (Err w) v e said alone = absurd (cc (said, e))

-- so the line is spread
spread_in : (widths : List ℕ) (line : List ℕ) (l : List Assignment) → assignment_at widths [] line ≡ Ok l → part_lines widths line ≡ passing_in widths line
spread_in widths line l h = rw h refl

-- in a part, where the line is admitted
named_spread : (may : Option ℕ → Bool) (widths : List ℕ) (before : List Assignment) (line : List ℕ) (put : List Assignment → Read) (next : Read) → with_said put (named_at may widths before line) ≡ Ok next → part_lines widths line ≡ passing_in widths line
named_spread may widths before line put next h = by (named_at may widths before line) refl h
  where
    by : (o : Result (List Assignment) Why) → named_at may widths before line ≡ o → with_said put o ≡ Ok next → part_lines widths line ≡ passing_in widths line
    by (Err w) is said = absurd cc
    by (Ok list) is said =
        elim (chosen (may (number_of (cut_at_space line).0)) (assignment_at widths before line) (Err why.BadIndex) (Ok list) is) [
          | inl e ↦ let alone = read_alone widths before line list e.1 in spread_in widths line alone.0 alone.1
          | inr e ↦ absurd (cc (e.1))
        ]

pub admitted_is_spread : (shape : Shape) (r next : Read) (line : List ℕ) → admit shape r line ≡ Ok next → spread_line shape r.place line ≡ passing_at shape r.place line
admitted_is_spread shape r next line h = by r.place refl
  where
    in_states : r.place ≡ InStates → part_lines shape.states line ≡ passing_in shape.states line
    in_states there =
        elim (cases_Bool (begins_part line)) [
          | inl e ↦ rw e refl
          | inr e ↦ named_spread (may_name shape r.closed) shape.states r.open_part line (λ list. record r { open_part = list }) next (sym (said_in_states shape r line there (plain_line line e)) ∙ h)
        ]

    in_frame : r.place ≡ InFrame → part_lines shape.inputs line ≡ passing_in shape.inputs line
    in_frame there =
        elim (cases_Bool (begins_part line)) [
          | inl e ↦ rw e refl
          | inr e ↦ named_spread anywhere shape.inputs r.open_part line (λ list. record r { open_part = list }) next (sym (said_in_frame shape r line there (plain_line line e)) ∙ h)
        ]

    by : (at : Place) → r.place ≡ at → spread_line shape at line ≡ passing_at shape at line
    by AtStatus there = refl
    by AtClaims there = refl
    by AtParts there = refl
    by AtEnd there = refl
    by InStates there = in_states there
    by InFrame there = in_frame there
