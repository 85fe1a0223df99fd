-- The first faulty step of a binary proof.
use Rattle.std.proofs.Common.{◌≡◌, ◌≢◌, ℕ, suc, ◌≤◌, ◌==◌, nat_lt, Bool, true, false, List, [], ◌∷◌, ◌++◌, length, length-append, All, Some, refl, sym, ap, subst, ◌∙◌, append_assoc, inl, inr, ◌⊎◌, arith}
use Rattle.std.specs.List.{concat}
use Rattle.std.proofs.lemmas.Bool.{cases_Bool, ne_eqb}
use Rattle.std.proofs.lemmas.Bool.Decides.{nat_tests}
use Rattle.std.proofs.lemmas.List.Elements.{All-nil, All-cons, All-head, All-tail}
use Rattle.base.specs.Lines.{line_of}
use Rattle.drup.specs.declared.why.Why.{Why}
use Rattle.drup.specs.declared.why.Why.TheVariants as why
use Rattle.drup.specs.Proofs.{most_proof_lines, ProofFault, ProofReading, refused}
use Rattle.drup.specs.BinaryProofs.{number_pieces, last_byte, read_binary_proof}
use Rattle.meaning.specs.BinaryProofs.{IsWholeNumber, BeginsBinaryProof, IsFirstFaultyStep, EndsWithinBinaryStep}
use Rattle.meaning.proofs.PieceLemmas.{concat_both}
use Rattle.meaning.proofs.MarkLemmas.{with_steps}
use Rattle.meaning.proofs.ProofLineLemmas.{same_fault, no_fault}
use Rattle.meaning.proofs.NumberLemmas.{IsTop, IsCutUp, cut_up, whole_first, wholes_first, top_first}
use Rattle.meaning.proofs.WalkLemmas.{Stand, between, within, step_number, reads_from, Walks, HaltsAt, walk}

-- numbers that are gone through begin a proof without a fault: nothing more, or a 0 where a step has begun
goes_on : (variables : ℕ) (ps : List (List ℕ)) → All IsWholeNumber ps → (w : Walks variables (between 1) ps) → BeginsBinaryProof variables (concat ps)
goes_on variables ps whole w = by w.next refl
  where
    reads : (more : List ℕ) (next : Stand) → w.next ≡ next → read_binary_proof variables (concat ps ++ more) ≡ with_steps w.steps (reads_from variables next (number_pieces more))
    reads more next is =
        ap (reads_from variables (between 1)) (wholes_first ps more whole) ∙ w.is (number_pieces more) ∙ ap (λ (s : Stand). with_steps w.steps (reads_from variables s (number_pieces more))) is

    by : (next : Stand) → w.next ≡ next → BeginsBinaryProof variables (concat ps)
    by (between n) is = record { more = []; whole = ap (λ (r : ProofReading). r.fault) (reads [] (between n) is) }
    by (within n deleting clause) is = record { more = 0 ∷ []; whole = ap (λ (r : ProofReading). r.fault) (reads (0 ∷ []) (within n deleting clause) is) }

-- what is read, where a piece is refused whatever follows
module _ (variables : ℕ) (bytes : List ℕ) (e : ProofFault) (told : (read_binary_proof variables bytes).fault ≡ Some e) where
  module _ (ps : List (List ℕ)) (whole : All IsWholeNumber ps) (w : Walks variables (between 1) ps) (because : Why) (rest : List (List ℕ)) (pieces : number_pieces bytes ≡ ps ++ rest) (refuses : reads_from variables w.next rest ≡ refused (step_number w.next) because) where
    here : read_binary_proof variables bytes ≡ record { steps = w.steps ++ []; fault = Some (record { line = step_number w.next; why = because }) }
    here = ap (reads_from variables (between 1)) pieces ∙ w.is rest ∙ ap (with_steps w.steps) refuses

    fault_is : record { line = step_number w.next; why = because } ≡ e
    fault_is = same_fault (record { line = step_number w.next; why = because }) e (sym (ap (λ (r : ProofReading). r.fault) here) ∙ told)

    because_is : because ≡ e.why
    because_is = ap (λ (x : ProofFault). x.why) fault_is

    number_is : suc (length (read_binary_proof variables bytes).steps) ≡ e.line
    number_is =
        let steps : length (read_binary_proof variables bytes).steps ≡ length (w.steps ++ []) = ap (λ (r : ProofReading). length r.steps) here in
        let number : step_number w.next ≡ e.line = ap (λ (x : ProofFault). x.line) fault_is in
        omega (arith, steps, number, w.count, length-append w.steps [])

    -- the next number, or its first byte
    module _ (piece behind : List ℕ) (one : IsWholeNumber piece ⊎ (length piece ≡ 1)) (parts : bytes ≡ concat ps ++ (piece ++ behind))
        (again : (more : List ℕ) → (p : List ℕ) × ((others : List (List ℕ)) × (number_pieces (piece ++ more) ≡ p ∷ others) × (reads_from variables w.next (p ∷ others) ≡ refused (step_number w.next) because))) where
      with_it : (more : List ℕ) → read_binary_proof variables ((concat ps ++ piece) ++ more) ≡ record { steps = w.steps ++ []; fault = Some (record { line = step_number w.next; why = because }) }
      with_it more =
          let a = again more in
          ap (λ (l : List ℕ). reads_from variables (between 1) (number_pieces l)) (append_assoc (concat ps) piece more)
          ∙ ap (reads_from variables (between 1)) (wholes_first ps (piece ++ more) whole ∙ ap (λ (l : List (List ℕ)). ps ++ l) a.1.1)
          ∙ w.is (a.0 ∷ a.1.0) ∙ ap (with_steps w.steps) a.1.2

      first_step : IsFirstFaultyStep variables bytes e.line
      first_step =
          record {
            numbers = ps;
            whole = whole;
            piece = piece;
            behind = behind;
            parts = parts;
            is = number_is;
            one = one;
            begins = goes_on variables ps whole w;
            none = λ b. no_fault (record { line = step_number w.next; why = because }) (sym (ap (λ (r : ProofReading). r.fault) (with_it b.more)) ∙ b.whole);
            same = λ more. with_it more ∙ sym here;
          }

-- ---- what may stand behind

all_front : (xs ys : List (List ℕ)) → All IsWholeNumber (xs ++ ys) → All IsWholeNumber xs
all_front [] ys all = All-nil IsWholeNumber
all_front (x ∷ xs) ys all = All-cons IsWholeNumber x xs (All-head IsWholeNumber x (xs ++ ys) all) (all_front xs ys (All-tail IsWholeNumber x (xs ++ ys) all))

all_back : (xs ys : List (List ℕ)) → All IsWholeNumber (xs ++ ys) → All IsWholeNumber ys
all_back [] ys all = all
all_back (x ∷ xs) ys all = all_back xs ys (All-tail IsWholeNumber x (xs ++ ys) all)

-- a byte with the top bit is refused between steps, whatever follows
between_top : (variables n b : ℕ) → 128 ≤ b → (w : Why) × ((w ≢ why.CutOff) × ((q : List ℕ) (others : List (List ℕ)) → reads_from variables (between n) ((b ∷ q) ∷ others) ≡ refused n w))
between_top variables n b top =
    elim (cases_Bool (nat_lt most_proof_lines n)) [
      | inl long ↦ (why.TooLong, ((λ e. cc), λ q others. rw long refl))
      | inr short ↦
          let adds : (b == 97) ≡ false = ne_eqb b 97 (λ e. omega (arith, e, top)) in
          let takes : (b == 100) ≡ false = ne_eqb b 100 (λ e. omega (arith, e, top)) in
          (why.BadWord, ((λ e. cc), λ q others. rw (short, adds, takes) refl))
    ]

-- within a step a number that does not end is cut off, and so is nothing
last_top : (b : ℕ) (bs : List ℕ) → 128 ≤ b → All IsTop bs → 128 ≤ last_byte b bs
last_top b [] top tops = top
last_top b (c ∷ cs) top tops = last_top c cs (All-head IsTop c cs tops) (All-tail IsTop c cs tops)

within_part : (variables n : ℕ) (deleting : Bool) (clause part : List ℕ) → All IsTop part → reads_from variables (within n deleting clause) (line_of part) ≡ refused n why.CutOff
within_part variables n deleting clause [] tops = refl
within_part variables n deleting clause (b ∷ bs) tops =
    let top = All-head IsTop b bs tops in
    let some : (b == 0) ≡ false = ne_eqb b 0 (λ e. omega (arith, e, top)) in
    let cut : nat_lt 127 (last_byte b bs) ≡ true = high (last_byte b bs) (last_top b bs top (All-tail IsTop b bs tops)) in
    rw (some, cut) refl
  where
    high : (n : ℕ) → 128 ≤ n → nat_lt 127 n ≡ true
    high n le = grind (arith, nat_tests)

-- ---- the two laws

module _ (variables : ℕ) (bytes : List ℕ) (e : ProofFault) (told : (read_binary_proof variables bytes).fault ≡ Some e) (c : IsCutUp bytes) where
  -- a whole number is refused
  module _ (h : HaltsAt variables (between 1) c.numbers) where
    abbrev left : List (List ℕ)
    left = h.behind ++ line_of c.part

    all : All IsWholeNumber (h.before ++ h.piece ∷ h.behind)
    all = subst (All IsWholeNumber) h.parts c.whole

    front : All IsWholeNumber h.before
    front = all_front h.before (h.piece ∷ h.behind) all

    number : IsWholeNumber h.piece
    number = All-head IsWholeNumber h.piece h.behind (all_back h.before (h.piece ∷ h.behind) all)

    pieces : number_pieces bytes ≡ h.before ++ (h.piece ∷ left)
    pieces = c.pieces ∙ ap (λ (l : List (List ℕ)). l ++ line_of c.part) h.parts ∙ append_assoc h.before (h.piece ∷ h.behind) (line_of c.part)

    at_number : IsFirstFaultyStep variables bytes e.line
    at_number =
        first_step variables bytes e told h.before front h.walks h.refuses.because (h.piece ∷ left) pieces (h.refuses.is left) h.piece (concat h.behind ++ c.part) (inl number)
        (c.parts ∙ ap (λ (l : List (List ℕ)). concat l ++ c.part) h.parts ∙ ap (λ (l : List ℕ). l ++ c.part) (concat_both h.before (h.piece ∷ h.behind)) ∙ regroup (concat h.before) h.piece (concat h.behind) c.part)
        (λ more. (h.piece, (number_pieces more, whole_first h.piece more number, h.refuses.is (number_pieces more))))
      where
        regroup : (a b d x : List ℕ) → (a ++ (b ++ d)) ++ x ≡ a ++ (b ++ (d ++ x))
        regroup a b d x = simp append_assoc

    not_cut : e.why ≢ why.CutOff
    not_cut cut = h.refuses.not_cut number (because_is variables bytes e told h.before front h.walks h.refuses.because (h.piece ∷ left) pieces (h.refuses.is left) ∙ cut)

  -- all whole numbers are gone through
  module _ (w : Walks variables (between 1) c.numbers) where
    reads : (s : Stand) → w.next ≡ s → read_binary_proof variables bytes ≡ with_steps w.steps (reads_from variables s (line_of c.part))
    reads s is = ap (reads_from variables (between 1)) c.pieces ∙ w.is (line_of c.part) ∙ ap (λ (t : Stand). with_steps w.steps (reads_from variables t (line_of c.part))) is

    nothing_left : (n : ℕ) → w.next ≡ between n → c.part ≡ [] → ⊥
    nothing_left n is none =
        no_fault e (sym told ∙ ap (λ (r : ProofReading). r.fault) (reads (between n) is ∙ ap (λ (p : List ℕ). with_steps w.steps (reads_from variables (between n) (line_of p))) none))

    module _ (n b : ℕ) (bs : List ℕ) (is : w.next ≡ between n) (part : c.part ≡ b ∷ bs) where
      top : 128 ≤ b
      top = All-head IsTop b bs (subst (All IsTop) part c.tops)

      because : Why
      because = (between_top variables n b top).0

      pieces' : number_pieces bytes ≡ c.numbers ++ ((b ∷ bs) ∷ [])
      pieces' = c.pieces ∙ ap (λ (p : List ℕ). c.numbers ++ line_of p) part

      refuses : (q : List ℕ) (others : List (List ℕ)) → reads_from variables w.next ((b ∷ q) ∷ others) ≡ refused (step_number w.next) because
      unfolding because
      refuses q others =
          ap (λ (s : Stand). reads_from variables s ((b ∷ q) ∷ others)) is ∙ (between_top variables n b top).1.1 q others
          ∙ ap (λ (s : Stand). refused (step_number s) (between_top variables n b top).0) (sym is)

      at_byte : IsFirstFaultyStep variables bytes e.line
      at_byte =
          first_step variables bytes e told c.numbers c.whole w because ((b ∷ bs) ∷ []) pieces' (refuses bs []) (b ∷ []) bs (inr refl)
          (c.parts ∙ ap (λ (p : List ℕ). concat c.numbers ++ p) part)
          (λ more. let t = top_first b more top in (b ∷ t.0, (t.1.0, t.1.1, refuses t.0 t.1.0)))

      byte_not_cut : e.why ≢ why.CutOff
      unfolding because
      byte_not_cut cut = (between_top variables n b top).1.0 (because_is variables bytes e told c.numbers c.whole w because ((b ∷ bs) ∷ []) pieces' (refuses bs []) ∙ cut)

    module _ (n : ℕ) (deleting : Bool) (clause : List ℕ) (is : w.next ≡ within n deleting clause) where
      ends : reads_from variables w.next (line_of c.part) ≡ refused (step_number w.next) why.CutOff
      ends =
          ap (λ (s : Stand). reads_from variables s (line_of c.part)) is ∙ within_part variables n deleting clause c.part c.tops
          ∙ ap (λ (s : Stand). refused (step_number s) why.CutOff) (sym is)

      cut_off : why.CutOff ≡ e.why
      cut_off = because_is variables bytes e told c.numbers c.whole w why.CutOff (line_of c.part) c.pieces ends

      in_step : EndsWithinBinaryStep variables bytes e.line
      in_step =
          record {
            numbers = c.numbers;
            whole = c.whole;
            part = c.part;
            tops = c.tops;
            parts = c.parts;
            is = number_is variables bytes e told c.numbers c.whole w why.CutOff (line_of c.part) c.pieces ends;
            begins = goes_on variables c.numbers c.whole w;
          }

    faulty : e.why ≢ why.CutOff → (s : Stand) → w.next ≡ s → (p : List ℕ) → c.part ≡ p → IsFirstFaultyStep variables bytes e.line
    faulty other (between n) is [] part = absurd (nothing_left n is part)
    faulty other (between n) is (b ∷ bs) part = at_byte n b bs is part
    faulty other (within n deleting clause) is p part = absurd (other (sym (cut_off n deleting clause is)))

    within_step : e.why ≡ why.CutOff → (s : Stand) → w.next ≡ s → (p : List ℕ) → c.part ≡ p → EndsWithinBinaryStep variables bytes e.line
    within_step cut (between n) is [] part = absurd (nothing_left n is part)
    within_step cut (between n) is (b ∷ bs) part = absurd (byte_not_cut n b bs is part cut)
    within_step cut (within n deleting clause) is p part = in_step n deleting clause is

pub first_faulty_step : (variables : ℕ) (bytes : List ℕ) (e : ProofFault) → (read_binary_proof variables bytes).fault ≡ Some e → e.why ≢ why.CutOff → IsFirstFaultyStep variables bytes e.line
first_faulty_step variables bytes e told other =
    let c = cut_up bytes in
    elim (walk variables (between 1) c.numbers) [
      | inr h ↦ at_number variables bytes e told c h
      | inl w ↦ faulty variables bytes e told c w other w.next refl c.part refl
    ]

pub ends_within_binary_step : (variables : ℕ) (bytes : List ℕ) (e : ProofFault) → (read_binary_proof variables bytes).fault ≡ Some e → e.why ≡ why.CutOff → EndsWithinBinaryStep variables bytes e.line
ends_within_binary_step variables bytes e told cut =
    let c = cut_up bytes in
    elim (walk variables (between 1) c.numbers) [
      | inr h ↦ absurd (not_cut variables bytes e told c h cut)
      | inl w ↦ within_step variables bytes e told c w cut w.next refl c.part refl
    ]
