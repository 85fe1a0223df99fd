-- Deltas and gates of the binary form that are read one after the other.
use Rattle.std.proofs.Common.{◌≡◌, ℕ, zero, suc, ◌+◌, ◌-◌, ◌*◌, ◌<◌, ◌≤◌, ◌==◌, ◌||◌, nat_lt, true, false, List, [], ◌∷◌, ◌++◌, length, All, Result, Ok, Err, refl, sym, ap, subst, ◌∙◌, inl, inr, ◌⊎◌, arith}
use Rattle.std.proofs.lemmas.Bool.{cases_Bool, ltb-true, ltb-false}
use Rattle.std.proofs.lemmas.Bool.Decides.{nat_tests}
use Rattle.std.proofs.lemmas.List.Elements.{All-nil, All-cons}
use Rattle.deltas.specs.declared.reading.DeltaFault.{DeltaFault}
use Rattle.deltas.specs.declared.reading.DeltaFault.TheVariants as fault
use Rattle.deltas.specs.Deltas.{before_others, more_digits, number_at}
use Rattle.aigertext.specs.declared.fault.Why.{Why}
use Rattle.aigertext.specs.declared.fault.Why.TheVariants as why
use Rattle.aigertext.specs.Reading.{◌>>=◌, stop, said_at_front, delta_why, delta_told, delta_at, below, at_or_below, gate_at, gates_at}
use Rattle.meaning.specs.Pieces.{IsWholeDelta, IsPartOfDelta}
use Rattle.meaning.proofs.PieceLemmas.{one_piece, stops_here}
use Rattle.meaning.proofs.ReaderLemmas.{Completes, GoesOn, deltas, Took, StopsAt, IsRefused, IsSound, nothing_read, then_sound}

-- ---- a delta

-- what is read of bytes, whatever follows: a number, or a fault
abbrev Answers : (List ℕ → Result (ℕ × List ℕ) DeltaFault) → List ℕ → Type 0
Answers r piece = ((n : ℕ) × ((more : List ℕ) → r (piece ++ more) ≡ Ok (n, more))) ⊎ ((e : DeltaFault) × ((more : List ℕ) → r (piece ++ more) ≡ Err e))

-- digits of which so many more may follow: the text ends in them
record Unended (most : ℕ) (r : List ℕ → Result (ℕ × List ℕ) DeltaFault) (text : List ℕ) : Type 0 where
  tops : All (λ b. 128 ≤ b) text
  few : length text ≤ most
  is : r text ≡ Err fault.Truncated

-- or they end
record Ended (most : ℕ) (r : List ℕ → Result (ℕ × List ℕ) DeltaFault) (text : List ℕ) : Type 0 where
  front : List ℕ
  last : ℕ
  rest : List ℕ
  parts : text ≡ (front ++ last ∷ []) ++ rest
  tops : All (λ b. 128 ≤ b) front
  few : length front ≤ most
  ends : (last < 128) ⊎ (length front ≡ most)
  answers : Answers r (front ++ last ∷ [])

abbrev DeltaView : ℕ → (List ℕ → Result (ℕ × List ℕ) DeltaFault) → List ℕ → Type 0
DeltaView most r text = Unended most r text ⊎ Ended most r text

-- one byte with the top bit more
module _ (most b : ℕ) (bs : List ℕ) (r s : List ℕ → Result (ℕ × List ℕ) DeltaFault) (top : 128 ≤ b) (step : (t : List ℕ) → s (b ∷ t) ≡ before_others b (r t)) where
  answers_more : (piece : List ℕ) → Answers r piece → Answers s (b ∷ piece)
  answers_more piece (inl n) = inl ((b - 128) + 128 * n.0, λ more. step (piece ++ more) ∙ ap (before_others b) (n.1 more))
  answers_more piece (inr e) = inr (e.0, λ more. step (piece ++ more) ∙ ap (before_others b) (e.1 more))

  ends_more : (last n : ℕ) → (last < 128) ⊎ (n ≡ most) → (last < 128) ⊎ (suc n ≡ suc most)
  ends_more last n (inl small) = inl small
  ends_more last n (inr same) = inr (ap suc same)

  view_more : DeltaView most r bs → DeltaView (suc most) s (b ∷ bs)
  view_more (inl u) = inl (record { tops = All-cons (λ c. 128 ≤ c) b bs top u.tops; few = omega (arith, u.few); is = step bs ∙ ap (before_others b) u.is })
  view_more (inr e) =
      inr (
      record {
        front = b ∷ e.front;
        last = e.last;
        rest = e.rest;
        parts = ap (λ (l : List ℕ). b ∷ l) e.parts;
        tops = All-cons (λ c. 128 ≤ c) b e.front top e.tops;
        few = omega (arith, e.few);
        ends = ends_more e.last (length e.front) e.ends;
        answers = answers_more (e.front ++ e.last ∷ []) e.answers;
      }
      )

view_alone : (most b : ℕ) (bs : List ℕ) (r : List ℕ → Result (ℕ × List ℕ) DeltaFault) → (b < 128) ⊎ (0 ≡ most) → Answers r (b ∷ []) → DeltaView most r (b ∷ bs)
view_alone most b bs r ends answers = inr (record { front = []; last = b; rest = bs; parts = refl; tops = All-nil (λ c. 128 ≤ c); few = omega arith; ends = ends; answers = answers })

-- the last digit behind others
last_answers : (more b : ℕ) → nat_lt b 128 ≡ true → Answers (more_digits more) (b ∷ [])
last_answers zero b small =
    elim (cases_Bool (b == 0)) [
      | inl z ↦ inr (fault.NotShortest, λ more. rw (small, z) refl)
      | inr nz ↦ inl (b, λ more. rw (small, nz) refl)
    ]
last_answers (suc m) b small =
    elim (cases_Bool (b == 0)) [
      | inl z ↦ inr (fault.NotShortest, λ more. rw (small, z) refl)
      | inr nz ↦ inl (b, λ more. rw (small, nz) refl)
    ]

more_view : (more : ℕ) (text : List ℕ) → DeltaView more (more_digits more) text
more_view zero [] = inl (record { tops = All-nil (λ c. 128 ≤ c); few = omega arith; is = refl })
more_view (suc m) [] = inl (record { tops = All-nil (λ c. 128 ≤ c); few = omega arith; is = refl })
more_view zero (b ∷ bs) =
    elim (cases_Bool (nat_lt b 128)) [
      | inl small ↦ view_alone zero b bs (more_digits zero) (inr refl) (last_answers zero b small)
      | inr large ↦ view_alone zero b bs (more_digits zero) (inr refl) (inr (fault.TooLong, λ more. rw large refl))
    ]
more_view (suc m) (b ∷ bs) =
    elim (cases_Bool (nat_lt b 128)) [
      | inl small ↦ view_alone (suc m) b bs (more_digits (suc m)) (inl (ltb-true b 128 small)) (last_answers (suc m) b small)
      | inr large ↦ view_more m b bs (more_digits m) (more_digits (suc m)) (ltb-false b 128 large) (λ t. rw large refl) (more_view m bs)
    ]

number_view : (text : List ℕ) → DeltaView 4 number_at text
unfolding number_at
number_view [] = inl (record { tops = All-nil (λ c. 128 ≤ c); few = omega arith; is = refl })
number_view (b ∷ bs) =
    elim (cases_Bool (nat_lt b 128)) [
      | inl small ↦ view_alone 4 b bs number_at (inl (ltb-true b 128 small)) (inl (b, λ more. rw small refl))
      | inr large ↦ view_more 3 b bs (more_digits 3) number_at (ltb-false b 128 large) (λ t. rw large refl) (more_view 3 bs)
    ]

-- ---- a delta as an operand

-- what a number that was read makes, or why it makes nothing, whatever follows
abbrev Decides : (ℕ × List ℕ → Result (ℕ × List ℕ) Why) → Type 0
Decides f = (d : ℕ) → ((a : ℕ) × ((t : List ℕ) → f (d, t) ≡ Ok (a, t))) ⊎ ((w : Why) × ((t : List ℕ) → f (d, t) ≡ Err w))

module _ (IsPiece IsPart : List ℕ → Type 0) (delta_piece : (bytes : List ℕ) → IsWholeDelta bytes → IsPiece bytes) (delta_part : (bytes : List ℕ) → IsPartOfDelta bytes → IsPart bytes) where
  module _ (f : ℕ × List ℕ → Result (ℕ × List ℕ) Why) (decides : Decides f) (one : ℕ) (value : ℕ) (small : nat_lt one 128 ≡ true) (bit : one < 2) (good : (t : List ℕ) → f (one, t) ≡ Ok (value, t)) where
    read_as : (text rest : List ℕ) (n a : ℕ) → number_at text ≡ Ok (n, rest) → f (n, rest) ≡ Ok (a, rest) → said_at_front text (delta_at text >>= f) ≡ Ok (a, rest)
    unfolding delta_at
    read_as text rest n a number made = ap (λ (x : Result (ℕ × List ℕ) DeltaFault). said_at_front text (delta_told x >>= f)) number ∙ ap (said_at_front text) made

    made_nothing : (text rest : List ℕ) (n : ℕ) (w : Why) → number_at text ≡ Ok (n, rest) → f (n, rest) ≡ Err w → said_at_front text (delta_at text >>= f) ≡ Err (stop text w)
    unfolding delta_at
    made_nothing text rest n w number made = ap (λ (x : Result (ℕ × List ℕ) DeltaFault). said_at_front text (delta_told x >>= f)) number ∙ ap (said_at_front text) made

    no_number : (text : List ℕ) (e : DeltaFault) → number_at text ≡ Err e → said_at_front text (delta_at text >>= f) ≡ Err (stop text (delta_why e))
    unfolding delta_at
    no_number text e number = ap (λ (x : Result (ℕ × List ℕ) DeltaFault). said_at_front text (delta_told x >>= f)) number

    completes_operand : Completes (λ (t : List ℕ). said_at_front t (delta_at t >>= f)) []
    unfolding number_at
    completes_operand =
        record {
          more = one ∷ [];
          bytes = (omega (arith, bit), tt);
          value = value;
          gives = λ rest. read_as (one ∷ rest) rest one value (rw small refl) (good rest);
        }

    goes_on_operand : GoesOn stop deltas (λ (t : List ℕ). said_at_front t (delta_at t >>= f)) []
    unfolding number_at
    goes_on_operand =
        record {
          completes = completes_operand;
          next = (one, (bit, record { more = []; bytes = tt; value = value; gives = λ rest. read_as (one ∷ rest) rest one value (rw small refl) (good rest) }));
        }

    refused_operand : (w : Why) (piece rest : List ℕ) → IsPiece piece → ((more : List ℕ) → said_at_front (piece ++ more) (delta_at (piece ++ more) >>= f) ≡ Err (stop (piece ++ more) w)) → StopsAt stop IsPiece IsPart (λ (t : List ℕ). said_at_front t (delta_at t >>= f)) (GoesOn stop deltas (λ (t : List ℕ). said_at_front t (delta_at t >>= f))) (piece ++ rest)
    refused_operand w piece rest is again =
        record {
          because = w;
          behind = piece ++ rest;
          stopped = again rest;
          stops = stops_here IsPiece IsPart (IsRefused stop (λ (t : List ℕ). said_at_front t (delta_at t >>= f)) w) (GoesOn stop deltas (λ (t : List ℕ). said_at_front t (delta_at t >>= f))) (w ≡ why.Truncated) (piece ++ rest) goes_on_operand
              (inr (record { piece = piece; rest = rest; parts = refl; is_piece = is; again = λ more. (piece ++ more, again more) }));
        }

    view_piece : (piece rest : List ℕ) → IsPiece piece → Answers number_at piece → Took IsPiece (λ (t : List ℕ). said_at_front t (delta_at t >>= f)) (piece ++ rest) ⊎ StopsAt stop IsPiece IsPart (λ (t : List ℕ). said_at_front t (delta_at t >>= f)) (GoesOn stop deltas (λ (t : List ℕ). said_at_front t (delta_at t >>= f))) (piece ++ rest)
    view_piece piece rest is (inl n) =
        elim (decides n.0) [
          | inl a ↦ inl (record { value = a.0; used = piece; rest = rest; parts = refl; whole = one_piece IsPiece piece is; gives = λ more. read_as (piece ++ more) more n.0 a.0 (n.1 more) (a.1 more) })
          | inr w ↦ inr (refused_operand w.0 piece rest is (λ more. made_nothing (piece ++ more) more n.0 w.0 (n.1 more) (w.1 more)))
        ]
    view_piece piece rest is (inr e) = inr (refused_operand (delta_why e.0) piece rest is (λ more. no_number (piece ++ more) e.0 (e.1 more)))

    view_operand : (text : List ℕ) → DeltaView 4 number_at text → Took IsPiece (λ (t : List ℕ). said_at_front t (delta_at t >>= f)) text ⊎ StopsAt stop IsPiece IsPart (λ (t : List ℕ). said_at_front t (delta_at t >>= f)) (GoesOn stop deltas (λ (t : List ℕ). said_at_front t (delta_at t >>= f))) text
    view_operand text (inl u) =
        inr (
        record {
          because = why.Truncated;
          behind = text;
          stopped = no_number text fault.Truncated u.is;
          stops = stops_here IsPiece IsPart (IsRefused stop (λ (t : List ℕ). said_at_front t (delta_at t >>= f)) why.Truncated) (GoesOn stop deltas (λ (t : List ℕ). said_at_front t (delta_at t >>= f))) (why.Truncated ≡ why.Truncated) text goes_on_operand
              (inl (refl, delta_part text (record { tops = u.tops; few = u.few })));
        }
        )
    view_operand text (inr e) =
        let piece : IsPiece (e.front ++ e.last ∷ []) = delta_piece (e.front ++ e.last ∷ []) (record { front = e.front; last = e.last; tops = e.tops; few = e.few; ends = e.ends; whole = refl }) in
        subst (λ (t : List ℕ). Took IsPiece (λ (t : List ℕ). said_at_front t (delta_at t >>= f)) t ⊎ StopsAt stop IsPiece IsPart (λ (t : List ℕ). said_at_front t (delta_at t >>= f)) (GoesOn stop deltas (λ (t : List ℕ). said_at_front t (delta_at t >>= f))) t) (sym e.parts) (view_piece (e.front ++ e.last ∷ []) e.rest piece e.answers)

    pub operand_sound : IsSound stop deltas IsPiece IsPart (λ (t : List ℕ). said_at_front t (delta_at t >>= f))
    operand_sound = record { view = λ text. view_operand text (number_view text); completes = completes_operand }

  -- ---- gates

  below_decides : (own : ℕ) → Decides (below own)
  below_decides own d =
      elim (cases_Bool ((d == 0) || nat_lt own d)) [
        | inl wrong ↦ inr (why.GateOrder, λ t. rw wrong refl)
        | inr good ↦ inl (own - d, λ t. rw good refl)
      ]

  at_or_below_decides : (first : ℕ) → Decides (at_or_below first)
  at_or_below_decides first d =
      elim (cases_Bool (nat_lt first d)) [
        | inl wrong ↦ inr (why.GateOrder, λ t. rw wrong refl)
        | inr good ↦ inl (first - d, λ t. rw good refl)
      ]

  greater_sound : (own : ℕ) → 0 < own → IsSound stop deltas IsPiece IsPart (λ text. said_at_front text (delta_at text >>= below own))
  greater_sound own some =
      let test : nat_lt own 1 ≡ false = grind (arith, nat_tests) in
      operand_sound (below own) (below_decides own) 1 (own - 1) refl (omega arith) (λ t. rw test refl)

  smaller_sound : (first : ℕ) → IsSound stop deltas IsPiece IsPart (λ text. said_at_front text (delta_at text >>= at_or_below first))
  smaller_sound first =
      let test : nat_lt first 0 ≡ false = grind (arith, nat_tests) in
      operand_sound (at_or_below first) (at_or_below_decides first) 0 (first - 0) refl (omega arith) (λ t. rw test refl)

  gate_sound : (own : ℕ) → 0 < own → IsSound stop deltas IsPiece IsPart (gate_at own)
  unfolding gate_at
  gate_sound own some =
      then_sound stop deltas IsPiece IsPart (λ text. said_at_front text (delta_at text >>= below own)) (λ a text. said_at_front text (delta_at text >>= at_or_below a) >>= (λ y. Ok (record { rhs0 = a; rhs1 = y.0 }, y.1))) (greater_sound own some)
      (λ a text rest e. then_sound stop deltas IsPiece IsPart (λ t. said_at_front t (delta_at t >>= at_or_below a)) (λ b t. Ok (record { rhs0 = a; rhs1 = b }, t)) (smaller_sound a) (λ b t u f. nothing_read stop deltas IsPiece IsPart (record { rhs0 = a; rhs1 = b })))

  pub gates_sound : (n own : ℕ) → 0 < own → IsSound stop deltas IsPiece IsPart (gates_at own n)
  gates_sound zero own some = nothing_read stop deltas IsPiece IsPart []
  gates_sound (suc n) own some =
      then_sound stop deltas IsPiece IsPart (gate_at own) (λ g text. gates_at (own + 2) n text >>= (λ gs. Ok (g ∷ gs.0, gs.1))) (gate_sound own some)
      (λ g text rest e. then_sound stop deltas IsPiece IsPart (gates_at (own + 2) n) (λ gs t. Ok (g ∷ gs, t)) (gates_sound n (own + 2) (omega arith)) (λ gs t u f. nothing_read stop deltas IsPiece IsPart (g ∷ gs)))
