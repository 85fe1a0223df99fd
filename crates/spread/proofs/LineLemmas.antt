-- The lines of a text and those that go on for them.
use Rattle.std.proofs.Common.{◌≡◌, ℕ, suc, ◌+◌, ◌*◌, ◌<◌, ◌≤◌, ◌^◌, true, List, [], ◌∷◌, ◌++◌, Result, Ok, Err, length, append_assoc, append-nil, inl, inr, refl, sym, ap, subst, ◌∙◌, arith}
use Rattle.std.proofs.lemmas.Bool.{cases_Bool, lt-leb}
use Rattle.witness.specs.declared.why.Why.{Why}
use Rattle.witness.specs.Texts.{Shape, is_comment, most_lines}
use Rattle.witness.specs.Readings.{Reading, so_far, next_line, lines_behind}
use Rattle.witness.specs.Admits.{Place, AtStatus, Read, admit, word_reader}
use Rattle.witness.specs.Judgements.{makes_no_claim}
use Rattle.witness.proofs.ReadingLemmas.{stopped, stays, lines_append, line_admitted}
use Rattle.rejoin.specs.Pieces.{cut_shape}
use Rattle.spread.specs.Spread.{lines_by}
use Rattle.spread.specs.Stands.{IsWideShape}
use Rattle.spread.specs.Passing.{passing_at, passing_lines}
use Rattle.spread.proofs.AlikeLemmas.{split_read, Opens, admitted_opens, GoesAlike, line_goes}

-- one line more
pub lines_by-more : (shape : Shape) (going : Reading Read → List ℕ → List (List ℕ)) (g : Reading Read) (lines : List (List ℕ)) (line : List ℕ)
    → lines_by shape going g (lines ++ line ∷ []) ≡ lines_by shape going g lines ++ going (lines_behind (word_reader shape) g lines) line
lines_by-more shape going g [] line = append-nil (going g line)
lines_by-more shape going g (l ∷ lines) line =
    ap (λ (ls : List (List ℕ)). going g l ++ ls) (lines_by-more shape going (next_line (word_reader shape) g l) lines line)
    ∙ sym (append_assoc (going g l) (lines_by shape going (next_line (word_reader shape) g l) lines) (going (lines_behind (word_reader shape) (next_line (word_reader shape) g l) lines) line))

-- what is read over the fitted model, so many lines of which are admitted
abbrev pub split_reading : Shape → ℕ → Reading Read → Reading Read
split_reading shape m g = record { admitted = m; read = split_read shape g.read; refused = g.refused }

module _ (shape : Shape) where
  -- behind a faulty line none goes on
  none_passes : (n : ℕ) (r : Read) (w : Why) (lines : List (List ℕ)) → passing_lines shape (stopped n r w) lines ≡ []
  unfolding next_line
  none_passes n r w [] = refl
  none_passes n r w (line ∷ lines) = none_passes n r w lines

  pub next_is : (n : ℕ) (r : Read) (line : List ℕ) (w : Why) → n < most_lines → admit shape r line ≡ Err w → next_line (word_reader shape) (so_far n r) line ≡ stopped n r w
  unfolding next_line
  next_is n r line w room h = rw (lt-leb most_lines n room, h) refl

-- what is read behind all of them
pub record Passes (shape : Shape) (k : ℕ) (r : Read) (g : Reading Read) (lines passing : List (List ℕ)) : Type 0 where
  pub count : ℕ
  pub few : count ≤ k + 16384 * length lines
  pub is : lines_behind (word_reader (cut_shape shape)) (so_far k (split_read shape r)) passing ≡ split_reading shape count g

module _ (shape : Shape) (good : IsWideShape shape) (few_states : length shape.states < 2 ^ 64) (few_inputs : length shape.inputs < 2 ^ 64) where
  abbrev narrow : Shape
  narrow = cut_shape shape

  module _ (n k : ℕ) (r : Read) (line : List ℕ) (lines : List (List ℕ)) (room : n + suc (length lines) ≤ most_lines) (more : k + 16384 * suc (length lines) ≤ most_lines) where
    abbrev here : List (List ℕ)
    here = passing_at shape r.place line

    abbrev AllPass : Reading Read → Type 0
    AllPass g = Passes shape k r (lines_behind (word_reader shape) g lines) (line ∷ lines) (here ++ passing_lines shape g lines)

    passes_on : (o : Result Read Why) → admit shape r line ≡ o → GoesAlike shape k r here o
        → ((m : ℕ) (next : Read) → admit shape r line ≡ Ok next → m + 16384 * length lines ≤ most_lines → Passes shape m next (lines_behind (word_reader shape) (so_far (n + 1) next) lines) lines (passing_lines shape (so_far (n + 1) next) lines))
        → AllPass (next_line (word_reader shape) (so_far n r) line)
    passes_on (Ok next) h (c, (some, (few, is))) others =
        let step : next_line (word_reader shape) (so_far n r) line ≡ so_far (n + 1) next = line_admitted (word_reader shape) n r line next (omega (arith, room)) h in
        let rest = others (k + c) next h (omega (arith, more, few)) in
        subst AllPass (sym step)
        (record {
          count = rest.count;
          few = omega (arith, rest.few, few);
          is = lines_append (word_reader narrow) (so_far k (split_read shape r)) here (passing_lines shape (so_far (n + 1) next) lines)
              ∙ (ap (λ (g : Reading Read). lines_behind (word_reader narrow) g (passing_lines shape (so_far (n + 1) next) lines)) is ∙ rest.is);
        })
    passes_on (Err w) h is others =
        let step : next_line (word_reader shape) (so_far n r) line ≡ stopped n r w = next_is shape n r line w (omega (arith, room)) h in
        subst AllPass (sym step)
        (record {
          count = k;
          few = omega arith;
          is = ap (λ (ls : List (List ℕ)). lines_behind (word_reader narrow) (so_far k (split_read shape r)) (here ++ ls)) (none_passes shape n r w lines)
              ∙ (ap (λ (ls : List (List ℕ)). lines_behind (word_reader narrow) (so_far k (split_read shape r)) ls) (append-nil here)
              ∙ (is ∙ ap (split_reading shape k) (sym (stays (word_reader shape) n r w lines))));
        })

  pub all_pass : (n k : ℕ) (r : Read) (lines : List (List ℕ)) → n + length lines ≤ most_lines → k + 16384 * length lines ≤ most_lines → Opens shape r r.place
      → Passes shape k r (lines_behind (word_reader shape) (so_far n r) lines) lines (passing_lines shape (so_far n r) lines)
  all_pass n k r [] room more opened = record { count = k; few = omega arith; is = refl }
  all_pass n k r (line ∷ lines) room more opened =
      passes_on n k r line lines room more (admit shape r line) refl (line_goes shape good k r line (omega (arith, more)) opened)
      (λ m next h enough. all_pass (n + 1) m next lines (omega (arith, room)) enough (admitted_opens shape few_states few_inputs r next line h opened))

-- ---- whether there is a claim

comment_stays : (shape : Shape) (r : Read) (line : List ℕ) → r.place ≡ AtStatus → is_comment line ≡ true → admit shape r line ≡ Ok r
unfolding admit
comment_stays shape r line at is = rw (at, is) refl

pub claims_alike : (shape : Shape) (n k : ℕ) (r : Read) (lines : List (List ℕ)) → n + length lines ≤ most_lines → k + length lines ≤ most_lines → r.place ≡ AtStatus
    → makes_no_claim k (passing_lines shape (so_far n r) lines) ≡ makes_no_claim n lines
claims_alike shape n k r [] room more at = refl
claims_alike shape n k r (line ∷ lines) room more at =
    let rest : List (List ℕ) = passing_lines shape (next_line (word_reader shape) (so_far n r) line) lines in
    ap (λ (p : Place). makes_no_claim k (passing_at shape p line ++ rest)) at
    ∙ rw (lt-leb most_lines n (omega (arith, room)), lt-leb most_lines k (omega (arith, more)))
    (elim (cases_Bool (is_comment line)) [
      | inl e ↦
          let step : next_line (word_reader shape) (so_far n r) line ≡ so_far (n + 1) r = line_admitted (word_reader shape) n r line r (omega (arith, room)) (comment_stays shape r line at e) in
          rw (e, step) (claims_alike shape (n + 1) (k + 1) r lines (omega (arith, room)) (omega (arith, more)) at)
      | inr e ↦ rw e refl
    ])
