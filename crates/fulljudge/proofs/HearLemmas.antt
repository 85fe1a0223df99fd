-- What is told in the part of states of the first frame, line by line.
use Rattle.std.proofs.Common.{◌≡◌, ℕ, zero, suc, ◌<◌, ◌≤◌, ◌^◌, ◌==◌, ◌&&◌, ◌||◌, Bool, true, false, cond, List, [], ◌∷◌, ◌++◌, codes, decimal, Option, Some, None, Result, Ok, Err, IfOk, is_some, length, replicate, set, slice_index, option_map, unwrap_or, append_assoc, eqb-true, eq-eqb, refl, sym, ap, ap₂, subst, ◌∙◌, inl, inr, arith}
use Rattle.std.specs.List.{find}
use Rattle.std.specs.Str.{bytes_eq}
use Rattle.std.proofs.lemmas.Bool.{ne_eqb, cases_Bool}
use Rattle.std.proofs.lemmas.Result.{IfOk-at_ok}
use Rattle.std.proofs.lemmas.Slice.Eq.{bytes_eq-Decides}
use Rattle.base.specs.Decimals.{number_of, is_decimal}
use Rattle.witness.specs.declared.why.Why.{Why}
use Rattle.base.proofs.DecimalLemmas.{number_of-decimal, decimal_without}
use Rattle.witness.specs.Texts.{Shape, Assignment, Parts, IsAssignment, assignment_line, binary, symbol_part, is_comment, has_free}
use Rattle.witness.specs.Readings.{with_said}
use Rattle.witness.specs.Admits.{Place, AtStatus, AtClaims, AtParts, InStates, InFrame, AtEnd, Read, cut_at_space, claims_at, assignment_at, state_assignment_at, begins_part, opens_frame, opens_states, frame_closed, admit_at, admit}
use Rattle.witness.specs.Judgements.{pairs_of, given}
use Rattle.witness.specs.WordStands.{SaidAt, NoFrame}
use Rattle.witness.proofs.AssignmentLemmas.{state_assignment_is_line}
use Rattle.witness.proofs.PieceLemmas.{cut_at_space-parts}
use Rattle.witness.proofs.ReadingLemmas.{by_test}
use Rattle.witness.proofs.ReadLemmas.{IsSmall}
use Rattle.spread.specs.declared.spreader.Part.{Part}
use Rattle.spread.specs.declared.spreader.Part.TheVariants as part
use Rattle.spread.specs.Stands.{part_at}
use Rattle.fulljudge.specs.Compared.{flag_at, noted, noted_in, told_more, first_told, Flag, FirstWords, AwaitsFirst, OfStates, IsOfStates}

-- ---- flags

pub length-noted : (flags : List Bool) (i : ℕ) → length (noted flags i) ≡ length flags
length-noted [] i = refl
length-noted (b ∷ flags) zero = refl
length-noted (b ∷ flags) (suc i) = ap (λ (n : ℕ). suc n) (length-noted flags i)

next_alike : (i k : ℕ) → (suc i == suc k) ≡ (i == k)
next_alike i k =
    elim (cases_Bool (i == k)) [
      | inl e ↦ eq-eqb (suc i) (suc k) (ap (λ (n : ℕ). suc n) (eqb-true i k e)) ∙ sym e
      | inr e ↦ ne_eqb (suc i) (suc k) (λ same. cc (e, eq-eqb i k (omega (arith, same)))) ∙ sym e
    ]

or_false : (b : Bool) → (b || false) ≡ b
or_false true = refl
or_false false = refl

noted_at : (flags : List Bool) (i k : ℕ) → k < length flags → flag_at (noted flags i) k ≡ (flag_at flags k || (i == k))
noted_at [] i k within = absurd (omega (arith, within))
noted_at (b ∷ flags) zero zero within = elim b as (λ (c : Bool). true ≡ (c || true)) [ true ↦ refl | false ↦ refl ]
noted_at (b ∷ flags) zero (suc k) within = sym (ap (λ (c : Bool). flag_at flags k || c) (ne_eqb 0 (suc k) (λ e. cc e)) ∙ or_false (flag_at flags k))
noted_at (b ∷ flags) (suc i) zero within = sym (ap (λ (c : Bool). b || c) (ne_eqb (suc i) 0 (λ e. cc e)) ∙ or_false b)
noted_at (b ∷ flags) (suc i) (suc k) within = noted_at flags i k (omega (arith, within)) ∙ sym (ap (λ (c : Bool). flag_at flags k || c) (next_alike i k))

given_more : (list : List Assignment) (a : Assignment) (k : ℕ) → is_some (given (pairs_of (list ++ a ∷ [])) k) ≡ (is_some (given (pairs_of list) k) || (a.index == k))
given_more [] a k = elim (a.index == k) as (λ (b : Bool). is_some (option_map (λ (p : ℕ × ℕ). p.1) (cond b (Some (a.index, a.word)) None)) ≡ (false || b)) [ true ↦ refl | false ↦ refl ]
given_more (x ∷ list) a k =
    elim (x.index == k) as (λ (b : Bool). is_some (option_map (λ (p : ℕ × ℕ). p.1) (cond b (Some (x.index, x.word)) (find (λ (p : ℕ × ℕ). p.0 == k) (pairs_of (list ++ a ∷ [])))))
    ≡ (is_some (option_map (λ (p : ℕ × ℕ). p.1) (cond b (Some (x.index, x.word)) (find (λ (p : ℕ × ℕ). p.0 == k) (pairs_of list)))) || (a.index == k))) [
      | true ↦ refl
      | false ↦ given_more list a k
    ]

flags_more : (flags : List Bool) (list : List Assignment) (a : Assignment) → Flag flags (pairs_of list) → Flag (noted flags a.index) (pairs_of (list ++ a ∷ []))
flags_more flags list a are = λ k within.
    let inside : k < length flags = subst (λ (n : ℕ). k < n) (length-noted flags a.index) within in
    noted_at flags a.index k inside ∙ ap (λ (b : Bool). b || (a.index == k)) (are k inside) ∙ sym (given_more list a k)

-- the line of an assignment begins with its index
index_of : (widths : List ℕ) (a : Assignment) → length widths < 2 ^ 64 → IsAssignment widths a → number_of (cut_at_space (assignment_line widths a)).0 ≡ Some a.index
index_of widths a small is =
    let within = is.index in
    let small_index : a.index < 2 ^ 64 = omega arith in
    ap (λ (bytes : List ℕ). number_of (cut_at_space bytes).0) (append_assoc (decimal a.index) (32 ∷ binary (slice_index widths a.index) a.word) (symbol_part a.symbol))
    ∙ ap (λ (c : List ℕ × Option (List ℕ)). number_of c.0) (cut_at_space-parts (decimal a.index) (Some (binary (slice_index widths a.index) a.word ++ symbol_part a.symbol)) (decimal_without 32 a.index (omega arith) small_index)) ∙ number_of-decimal a.index small_index

length-noted_in : (flags : List Bool) (p : Part) (o : Option ℕ) → length (noted_in flags p o) ≡ length flags
length-noted_in flags part.Outside o = refl
length-noted_in flags part.Inputs o = refl
length-noted_in flags part.States None = refl
length-noted_in flags part.States (Some i) = length-noted flags i

-- a line more changes none of what is known of the states
pub told_keeps : (of : OfStates) (h : FirstWords) (line : List ℕ) → IsOfStates of h → IsOfStates of (told_more h line)
told_keeps of h line is = record { sorts = is.sorts; words = is.words; count = length-noted_in h.flags h.part (number_of (cut_at_space line).0) ∙ is.count }

-- what the code makes of them
pub noted_is_set : (flags : List Bool) (i : ℕ) → i < length flags → set flags i true ≡ noted flags i
noted_is_set [] i within = absurd (omega (arith, within))
noted_is_set (b ∷ flags) zero within = refl
noted_is_set (b ∷ flags) (suc i) within = ap (λ (l : List Bool). b ∷ l) (noted_is_set flags i (omega (arith, within)))

pub noted_past : (flags : List Bool) (i : ℕ) → length flags ≤ i → flags ≡ noted flags i
noted_past [] i past = refl
noted_past (b ∷ flags) zero past = absurd (omega (arith, past))
noted_past (b ∷ flags) (suc i) past = ap (λ (l : List Bool). b ∷ l) (noted_past flags i (omega (arith, past)))

-- where none is told
pub none_flagged : (n : ℕ) → Flag (replicate n false) []
none_flagged zero k within = absurd (omega (arith, within))
none_flagged (suc n) zero within = refl
none_flagged (suc n) (suc k) within = none_flagged n k (omega (arith, within))

-- ---- a line

-- behind a line that is admitted no frame is closed yet, or the first is: then nothing more is read, and this is told of its states
pub record ClosesFirst (h : FirstWords) (next : Read) : Type 0 where
  pub first : Parts
  pub is : next.closed ≡ first ∷ []
  pub flags : Flag h.flags (pairs_of (unwrap_or first.states []))
  pub states : next.states ≡ None
  pub open_part : next.open_part ≡ []

abbrev pub GoesOnOrCloses : FirstWords → List ℕ → Read → Type 0
GoesOnOrCloses h line next = (next.closed ≡ [] → (SaidAt next next.place) × Flag (told_more h line).flags (first_told next next.place)) × ((next.closed ≡ [] → ⊥) → ClosesFirst h next)

module _ (shape : Shape) (small : IsSmall shape) (h : FirstWords) (r : Read) (line : List ℕ) (a : AwaitsFirst h r) where
  abbrev Goes : Read → Type 0
  Goes next = GoesOnOrCloses h line next

  -- outside of states nothing is told
  outside : (p : Part) → (p ≡ part.States → ⊥) → noted_in h.flags p (number_of (cut_at_space line).0) ≡ h.flags
  outside part.Outside other = refl
  outside part.Inputs other = refl
  outside part.States other = absurd (other refl)

  stays : (at : Place) → r.place ≡ at → (part_at at ≡ part.States → ⊥) → (told_more h line).flags ≡ h.flags
  stays at there other = ap (λ (p : Part). noted_in h.flags p (number_of (cut_at_space line).0)) (a.part ∙ ap part_at there) ∙ outside (part_at at) other

  none_closed : (next : Read) → next.closed ≡ [] → ((next.closed ≡ [] → ⊥) → ClosesFirst h next)
  none_closed next none some = absurd (some none)

  -- the flags stay
  as_before : (at : Place) (next : Read) → r.place ≡ at → (part_at at ≡ part.States → ⊥) → next.closed ≡ [] → SaidAt next next.place → first_told next next.place ≡ first_told r r.place → Goes next
  as_before at next there other none said same =
      (λ e. (said, subst (λ (flags : List Bool). Flag flags (first_told next next.place)) (sym (stays at there other)) (subst (Flag h.flags) (sym same) a.flags)), none_closed next none)

  closes : (at : Place) → r.place ≡ InFrame → Goes (frame_closed at r)
  closes at there = (
    λ e. absurd (cc e),
    λ some. record {
      first = record { states = r.states; inputs = r.open_part };
      is = ap (λ (closed : List Parts). closed ++ record { states = r.states; inputs = r.open_part } ∷ []) a.none;
      flags = subst (λ (p : Place). Flag h.flags (first_told r p)) there a.flags;
      states = refl;
      open_part = refl;
    },
  )

  no_frame : (at : Place) → r.place ≡ at → (SaidAt r at → NoFrame r) → NoFrame r
  no_frame at there of = of (subst (SaidAt r) there a.said)

  -- the line that opens the part of inputs begins with no number
  begun : (k : ℕ) → opens_frame k line ≡ true → number_of (cut_at_space line).0 ≡ None
  unfolding number_of is_decimal
  begun k e = ap (λ (bytes : List ℕ). number_of (cut_at_space bytes).0) ((bytes_eq-Decides line (64 ∷ decimal k)).0 e) ∙ refl

  noted_none : (p : Part) → noted_in h.flags p None ≡ h.flags
  noted_none part.Outside = refl
  noted_none part.States = refl
  noted_none part.Inputs = refl

  stays_begun : opens_frame (length r.closed) line ≡ true → (told_more h line).flags ≡ h.flags
  stays_begun e = ap (noted_in h.flags h.part) (begun (length r.closed) e) ∙ noted_none h.part

  goes_at : (at : Place) → r.place ≡ at → IfOk (admit_at shape r line at) Goes
  goes_at AtStatus there =
      let none = no_frame AtStatus there (λ n. n) in
      by_test Goes (is_comment line) _ _ (λ e. as_before AtStatus r there (λ o. cc) a.none a.said refl)
      (λ e. by_test Goes (bytes_eq line (codes "sat")) _ _ (λ d. as_before AtStatus (record r { place = AtClaims }) there (λ o. cc) a.none (record { closed = none.closed; states = none.states; open_part = none.open_part }) (sym (ap (first_told r) there))) (λ d. tt))
  goes_at AtClaims there = by (claims_at shape.bads line)
    where
      by : (o : Result (List ℕ) Why) → IfOk (with_said (λ (claims : List ℕ). record r { place = AtParts; claims = claims }) o) Goes
      by (Ok claims) =
          let none = no_frame AtClaims there (λ n. n) in
          as_before AtClaims (record r { place = AtParts; claims = claims }) there (λ o. cc) a.none (record { closed = none.closed; states = none.states; open_part = none.open_part }) (sym (ap (first_told r) there))
      by (Err w) = tt
  goes_at AtParts there =
      let none = no_frame AtParts there (λ n. n) in
      by_test Goes (opens_states 0 line) _ _ (λ e. as_before AtParts (record r { place = InStates }) there (λ o. cc) a.none tt (ap pairs_of none.open_part ∙ sym (ap (first_told r) there)))
      (λ e. by_test Goes (opens_frame 0 line) _ _ (λ d. as_before AtParts (record r { place = InFrame }) there (λ o. cc) a.none tt (ap (λ (o : Option (List Assignment)). pairs_of (unwrap_or o [])) none.states ∙ sym (ap (first_told r) there))) (λ d. tt))
  goes_at InStates there =
      by_test Goes (opens_frame (length r.closed) line) _ _ (λ e. opened e)
      (λ e. by_test Goes (begins_part line) _ _ (λ d. tt) (λ d. by (state_assignment_at shape r.closed r.open_part line) refl))
    where
      opened : opens_frame (length r.closed) line ≡ true → Goes (record r { place = InFrame; states = Some r.open_part; open_part = [] })
      opened e =
          (λ c. (tt, subst (λ (flags : List Bool). Flag flags (pairs_of r.open_part)) (sym (stays_begun e)) (subst (λ (p : Place). Flag h.flags (first_told r p)) there a.flags)), none_closed (record r { place = InFrame; states = Some r.open_part; open_part = [] }) a.none)

      by : (o : Result (List Assignment) Why) → state_assignment_at shape r.closed r.open_part line ≡ o → IfOk (with_said (λ (list : List Assignment). record r { open_part = list }) o) Goes
      by (Err w) e = tt
      by (Ok list) e =
          let is = (state_assignment_is_line shape r.closed r.open_part line list small.states e).0 in
          let number : number_of (cut_at_space line).0 ≡ Some is.assignment.index = ap (λ (bytes : List ℕ). number_of (cut_at_space bytes).0) is.spelled ∙ index_of shape.states is.assignment small.states is.valid in
          let flags : (told_more h line).flags ≡ noted h.flags is.assignment.index = ap₂ (noted_in h.flags) (a.part ∙ ap part_at there) number in
          let before : Flag h.flags (pairs_of r.open_part) = subst (λ (p : Place). Flag h.flags (first_told r p)) there a.flags in
          let after : Flag (told_more h line).flags (pairs_of list) =
          subst (λ (l : List Bool). Flag l (pairs_of list)) (sym flags) (subst (λ (l : List Assignment). Flag (noted h.flags is.assignment.index) (pairs_of l)) (sym is.all) (flags_more h.flags r.open_part is.assignment before)) in
          (λ c. (subst (SaidAt (record r { open_part = list })) (sym there) tt, subst (λ (p : Place). Flag (told_more h line).flags (first_told (record r { open_part = list }) p)) (sym there) after), none_closed (record r { open_part = list }) a.none)
  goes_at InFrame there =
      let k : ℕ = suc (length r.closed) in
      by_test Goes (opens_frame k line) _ _ (λ e. closes InFrame there)
      (λ e. by_test Goes (opens_states k line && has_free shape) _ _ (λ d. closes InStates there)
      (λ d. by_test Goes (bytes_eq line (codes ".")) _ _ (λ f. closes AtEnd there)
      (λ f. by_test Goes (begins_part line) _ _ (λ g. tt) (λ g. by (assignment_at shape.inputs r.open_part line)))))
    where
      by : (o : Result (List Assignment) Why) → IfOk (with_said (λ (list : List Assignment). record r { open_part = list }) o) Goes
      by (Err w) = tt
      by (Ok list) = as_before InFrame (record r { open_part = list }) there (λ o. cc) a.none (subst (SaidAt (record r { open_part = list })) (sym there) tt) (ap (first_told (record r { open_part = list })) there ∙ sym (ap (first_told r) there))
  goes_at AtEnd there = tt

  pub line_goes : (next : Read) → admit shape r line ≡ Ok next → Goes next
  unfolding admit
  line_goes next e = IfOk-at_ok Goes e (goes_at r.place refl)
