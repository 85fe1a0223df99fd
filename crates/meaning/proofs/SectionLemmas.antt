-- The sections of a text behind its header: latches of the binary form, literals and sizes; a line `0` is always one more.
use Rattle.std.proofs.Common.{◌≡◌, ℕ, suc, ◌+◌, ◌-◌, ◌*◌, ◌<◌, ◌==◌, nat_le, true, false, List, [], ◌∷◌, None, Result, Ok, Err, refl, ap, ◌∙◌, arith}
use Rattle.std.specs.List.{sum}
use Rattle.std.proofs.lemmas.Bool.{le-leb, ne_eqb}
use Rattle.std.proofs.lemmas.Bool.Decides.{nat_tests}
use Rattle.base.specs.Lines.{IsLine, onto_first}
use Rattle.base.specs.Decimals.{number_of, capped_value, is_decimal}
use Rattle.aiger.specs.declared.circuit.Reset.TheVariants as reset
use Rattle.aiger.specs.Limits.{greatest_count}
use Rattle.aigertext.specs.declared.fault.Why.TheVariants as why
use Rattle.aigertext.specs.Reading.{◌>>=◌, stop, fields, next_fields, next_of, literal_on, size_of, nexts_at, literals_at, sizes_at, sized_lists, justice_at, Properties, properties_at, nameless, names_at, gates_at, binary_at}
use Rattle.meaning.specs.Pieces.{IsWholeLine}
use Rattle.meaning.proofs.LineLemmas.{HasLine, IsLow, low_line, lines_sound}
use Rattle.meaning.proofs.ReaderLemmas.{lines, IsSound, nothing_read, then_sound}

-- ---- a line that begins with the byte 0 or 1

pub number_low : (b : ℕ) → b < 2 → (bs : List ℕ) → number_of (b ∷ bs) ≡ None
unfolding number_of is_decimal
number_low b small bs =
    let zero' : (b == 48) ≡ false = ne_eqb b 48 (λ e. omega (arith, e, small)) in
    let digit : nat_le 49 b ≡ false = grind (arith, nat_tests) in
    rw (zero', digit) refl

pub fields_low : (b : ℕ) → b < 2 → (line : List ℕ) → fields (b ∷ line) ≡ onto_first b (fields line)
fields_low b small line = let space : (b == 32) ≡ false = ne_eqb b 32 (λ e. omega (arith, e, small)) in rw space refl

literal_low : (greatest : ℕ) → IsLow (literal_on greatest)
unfolding literal_on
literal_low greatest b small line = (why.BadNumber, rw (number_low b small line) refl)

size_low : (before : ℕ) → IsLow (size_of before)
unfolding size_of
size_low before b small line = (why.BadNumber, rw (number_low b small line) refl)

next_low : (greatest own : ℕ) → IsLow (next_of greatest own)
unfolding next_fields
next_low greatest own b small line = (why.BadLatch, ap (next_fields greatest own) (fields_low b small line) ∙ by (fields line))
  where
    by : (fs : List (List ℕ)) → next_fields greatest own (onto_first b fs) ≡ Err why.BadLatch
    by [] = refl
    by (f ∷ fs) = rw (number_low b small f) refl

-- ---- a line that is always one more

zero_next : (greatest own : ℕ) → HasLine (next_of greatest own)
unfolding next_fields number_of capped_value is_decimal
zero_next greatest own =
    let low : nat_le 0 greatest ≡ true = le-leb 0 greatest (omega arith) in
    record { line = 48 ∷ []; is_line = refl; bytes = (omega arith, tt); value = record { next = 0; reset = reset.Zero }; said = rw low refl }

zero_literal : (greatest : ℕ) → HasLine (literal_on greatest)
unfolding literal_on number_of capped_value is_decimal
zero_literal greatest =
    let low : nat_le 0 greatest ≡ true = le-leb 0 greatest (omega arith) in
    record { line = 48 ∷ []; is_line = refl; bytes = (omega arith, tt); value = 0; said = rw low refl }

zero_size : (before : ℕ) → HasLine (size_of before)
unfolding size_of number_of capped_value is_decimal
zero_size before =
    let low : nat_le 0 (greatest_count - before) ≡ true = le-leb 0 (greatest_count - before) (omega arith) in
    record { line = 48 ∷ []; is_line = refl; bytes = (omega arith, tt); value = 0; said = rw low refl }

-- what was read behind a first value, with it
abbrev pub with_first : {A B E : Type 0} → A → B × List ℕ → Result ((A × B) × List ℕ) E
with_first a x = Ok ((a, x.0), x.1)

module _ (IsPiece IsPart : List ℕ → Type 0) (line_piece : (bytes : List ℕ) → IsWholeLine bytes → IsPiece bytes) (line_part : (bytes : List ℕ) → IsLine bytes → IsPart bytes) where
  nexts_sound : (greatest own n : ℕ) → IsSound stop lines IsPiece IsPart (nexts_at greatest own n)
  nexts_sound greatest own n = lines_sound IsPiece IsPart line_piece line_part (next_of greatest) (λ o l. o + 2) (zero_next greatest) (λ o. low_line (next_of greatest o) (next_low greatest o)) n own

  literals_sound : (greatest n : ℕ) → IsSound stop lines IsPiece IsPart (literals_at greatest n)
  literals_sound greatest n = lines_sound IsPiece IsPart line_piece line_part literal_on (λ g l. g) zero_literal (λ g. low_line (literal_on g) (literal_low g)) n greatest

  sizes_sound : (before n : ℕ) → IsSound stop lines IsPiece IsPart (sizes_at before n)
  sizes_sound before n = lines_sound IsPiece IsPart line_piece line_part size_of (λ b size. b + size) zero_size (λ b. low_line (size_of b) (size_low b)) n before

  justice_sound : (greatest n : ℕ) → IsSound stop lines IsPiece IsPart (justice_at greatest n)
  justice_sound greatest n =
      then_sound stop lines IsPiece IsPart (sizes_at 0 n) (λ s text. literals_at greatest (sum s) text >>= (λ j. Ok (sized_lists s j.0, j.1))) (sizes_sound 0 n)
      (λ s text rest e. then_sound stop lines IsPiece IsPart (literals_at greatest (sum s)) (λ j t. Ok (sized_lists s j, t)) (literals_sound greatest (sum s)) (λ j t u f. nothing_read stop lines IsPiece IsPart (sized_lists s j)))

  abbrev properties_by : List ℕ → List ℕ → List ℕ → List (List ℕ) → List ℕ → Properties
  properties_by o b c j f = record { outputs = o; bads = b; constraints = c; justice = j; fair = f }

  pub properties_sound : (h : _) → IsSound stop lines IsPiece IsPart (properties_at h)
  unfolding properties_at
  properties_sound h =
      let g : ℕ = 2 * h.variables + 1 in
      then_sound stop lines IsPiece IsPart (literals_at g h.outputs)
      (λ o t. literals_at g h.bads t >>= (λ b. literals_at g h.constraints b.1 >>= (λ c. justice_at g h.justice c.1 >>= (λ j. literals_at g h.fair j.1 >>= (λ f. Ok (properties_by o b.0 c.0 j.0 f.0, f.1)))))) (literals_sound g h.outputs)
      (λ o t0 r0 e0.
      then_sound stop lines IsPiece IsPart (literals_at g h.bads)
      (λ b t. literals_at g h.constraints t >>= (λ c. justice_at g h.justice c.1 >>= (λ j. literals_at g h.fair j.1 >>= (λ f. Ok (properties_by o b c.0 j.0 f.0, f.1))))) (literals_sound g h.bads)
      (λ b t1 r1 e1.
      then_sound stop lines IsPiece IsPart (literals_at g h.constraints)
      (λ c t. justice_at g h.justice t >>= (λ j. literals_at g h.fair j.1 >>= (λ f. Ok (properties_by o b c j.0 f.0, f.1)))) (literals_sound g h.constraints)
      (λ c t2 r2 e2.
      then_sound stop lines IsPiece IsPart (justice_at g h.justice) (λ j t. literals_at g h.fair t >>= (λ f. Ok (properties_by o b c j f.0, f.1))) (justice_sound g h.justice)
      (λ j t3 r3 e3.
      then_sound stop lines IsPiece IsPart (literals_at g h.fair) (λ f t. Ok (properties_by o b c j f, t)) (literals_sound g h.fair)
      (λ f t4 r4 e4. nothing_read stop lines IsPiece IsPart (properties_by o b c j f))))))

  -- what stands before the gates of the binary form
  pub leaves_sound : (h : _) → IsSound stop lines IsPiece IsPart (λ text. nexts_at (2 * h.variables + 1) (2 * suc h.inputs) h.latches text >>= (λ l. properties_at h l.1 >>= (λ p. with_first l.0 p)))
  leaves_sound h =
      then_sound stop lines IsPiece IsPart (nexts_at (2 * h.variables + 1) (2 * suc h.inputs) h.latches) (λ l t. properties_at h t >>= (λ p. with_first l p)) (nexts_sound (2 * h.variables + 1) (2 * suc h.inputs) h.latches)
      (λ l t0 r0 e0. then_sound stop lines IsPiece IsPart (properties_at h) (λ p t. with_first l (p, t)) (properties_sound h) (λ p t1 r1 e1. nothing_read stop lines IsPiece IsPart (l, p)))

-- two steps as one
regroup : {A B C E : Type 0} (r : Result (A × List ℕ) E) (q : List ℕ → Result (B × List ℕ) E) (k : A → B → List ℕ → Result C E)
    → (r >>= (λ l. q l.1 >>= (λ p. k l.0 p.0 p.1))) ≡ (r >>= (λ l. q l.1 >>= (λ p. with_first l.0 p))) >>= (λ x. k x.0.0 x.0.1 x.1)
regroup (Err e) q k = refl
regroup {A} {B} {C} {E} (Ok l) q k = by (q l.1)
  where
    by : (s : Result (B × List ℕ) E) → (s >>= (λ p. k l.0 p.0 p.1)) ≡ (s >>= (λ p. with_first l.0 p)) >>= (λ x. k x.0.0 x.0.1 x.1)
    by (Err e) = refl
    by (Ok p) = refl

pub binary_parts : (h : _) (text : List ℕ)
    → binary_at h text
    ≡ (nexts_at (2 * h.variables + 1) (2 * suc h.inputs) h.latches text >>= (λ l. properties_at h l.1 >>= (λ p. with_first l.0 p)))
    >>= (λ x. gates_at (2 * suc (h.inputs + h.latches)) h.gates x.1 >>= (λ g. names_at (nameless h.inputs x.0.0 x.0.1 g.0) g.1))
unfolding binary_at
binary_parts h text =
    regroup (nexts_at (2 * h.variables + 1) (2 * suc h.inputs) h.latches text) (properties_at h) (λ l p t. gates_at (2 * suc (h.inputs + h.latches)) h.gates t >>= (λ g. names_at (nameless h.inputs l p g.0) g.1))
