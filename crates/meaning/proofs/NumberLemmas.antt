-- Bytes of a binary proof as whole numbers, and what is left behind them.
use Rattle.std.proofs.Common.{◌≡◌, ℕ, ◌<◌, ◌≤◌, nat_lt, true, false, List, [], ◌∷◌, ◌++◌, All, refl, sym, ap, ◌∙◌, append_assoc, inl, inr, arith}
use Rattle.std.specs.List.{concat}
use Rattle.std.proofs.lemmas.Bool.{cases_Bool, ltb-true, ltb-false}
use Rattle.std.proofs.lemmas.Bool.Decides.{nat_tests}
use Rattle.std.proofs.lemmas.List.Elements.{All-nil, All-cons, All-head, All-tail}
use Rattle.base.specs.Lines.{line_of, to_first}
use Rattle.drup.specs.BinaryProofs.{number_pieces}
use Rattle.meaning.specs.BinaryProofs.{IsWholeNumber}

abbrev pub IsTop : ℕ → Type 0
IsTop b = 128 ≤ b

one_more : (b : ℕ) (p : List ℕ) → 128 ≤ b → IsWholeNumber p → IsWholeNumber (b ∷ p)
one_more b p top is = record { front = b ∷ is.front; last = is.last; tops = All-cons IsTop b is.front top is.tops; ends = is.ends; whole = ap (λ (l : List ℕ). b ∷ l) is.whole }

-- bytes are whole numbers, and a part of one
pub record IsCutUp (bytes : List ℕ) : Type 0 where
  pub numbers : List (List ℕ)
  pub whole : All IsWholeNumber numbers
  pub part : List ℕ
  pub tops : All IsTop part
  pub parts : bytes ≡ concat numbers ++ part
  pub pieces : number_pieces bytes ≡ numbers ++ line_of part

pub cut_up : (bytes : List ℕ) → IsCutUp bytes
cut_up [] = record { numbers = []; whole = All-nil IsWholeNumber; part = []; tops = All-nil IsTop; parts = refl; pieces = refl }
cut_up (b ∷ bs) =
    elim (cases_Bool (nat_lt b 128)) [
      | inl small ↦ ended small (cut_up bs)
      | inr large ↦ let c = cut_up bs in by large c.numbers c.whole c.part c.tops c.parts c.pieces
    ]
  where
    ended : nat_lt b 128 ≡ true → IsCutUp bs → IsCutUp (b ∷ bs)
    ended small c =
        record {
          numbers = (b ∷ []) ∷ c.numbers;
          whole = All-cons IsWholeNumber (b ∷ []) c.numbers (record { front = []; last = b; tops = All-nil IsTop; ends = ltb-true b 128 small; whole = refl }) c.whole;
          part = c.part;
          tops = c.tops;
          parts = ap (λ (l : List ℕ). b ∷ l) c.parts;
          pieces = rw small (ap (λ (l : List (List ℕ)). (b ∷ []) ∷ l) c.pieces);
        }

    last_part : (part : List ℕ) → to_first b (line_of part) ≡ (b ∷ part) ∷ []
    last_part [] = refl
    last_part (c ∷ cs) = refl

    by : nat_lt b 128 ≡ false → (numbers : List (List ℕ)) → All IsWholeNumber numbers → (part : List ℕ) → All IsTop part → bs ≡ concat numbers ++ part → number_pieces bs ≡ numbers ++ line_of part → IsCutUp (b ∷ bs)
    by large [] whole part tops parts pieces =
        record {
          numbers = [];
          whole = whole;
          part = b ∷ part;
          tops = All-cons IsTop b part (ltb-false b 128 large) tops;
          parts = ap (λ (l : List ℕ). b ∷ l) parts;
          pieces = rw large (ap (to_first b) pieces ∙ last_part part);
        }
    by large (p ∷ ps) whole part tops parts pieces =
        record {
          numbers = (b ∷ p) ∷ ps;
          whole = All-cons IsWholeNumber (b ∷ p) ps (one_more b p (ltb-false b 128 large) (All-head IsWholeNumber p ps whole)) (All-tail IsWholeNumber p ps whole);
          part = part;
          tops = tops;
          parts = ap (λ (l : List ℕ). b ∷ l) parts;
          pieces = rw large (ap (to_first b) pieces);
        }

-- a whole number is the first piece of bytes that begin with it
number_first : (front : List ℕ) (last : ℕ) (more : List ℕ) → All IsTop front → last < 128 → number_pieces ((front ++ last ∷ []) ++ more) ≡ (front ++ last ∷ []) ∷ number_pieces more
number_first [] last more tops small = let t : nat_lt last 128 ≡ true = grind (arith, nat_tests) in rw t refl
number_first (b ∷ bs) last more tops small =
    let top = All-head IsTop b bs tops in
    rw (large b top) (ap (to_first b) (number_first bs last more (All-tail IsTop b bs tops) small))
  where
    large : (c : ℕ) → 128 ≤ c → nat_lt c 128 ≡ false
    large c top = grind (arith, nat_tests)

pub whole_first : (p more : List ℕ) → IsWholeNumber p → number_pieces (p ++ more) ≡ p ∷ number_pieces more
whole_first p more is =
    ap (λ (l : List ℕ). number_pieces (l ++ more)) is.whole ∙ number_first is.front is.last more is.tops is.ends ∙ ap (λ (l : List ℕ). l ∷ number_pieces more) (sym is.whole)

pub wholes_first : (ps : List (List ℕ)) (more : List ℕ) → All IsWholeNumber ps → number_pieces (concat ps ++ more) ≡ ps ++ number_pieces more
wholes_first [] more whole = refl
wholes_first (p ∷ ps) more whole =
    ap number_pieces (append_assoc p (concat ps) more) ∙ whole_first p (concat ps ++ more) (All-head IsWholeNumber p ps whole)
    ∙ ap (λ (l : List (List ℕ)). p ∷ l) (wholes_first ps more (All-tail IsWholeNumber p ps whole))

-- a byte with the top bit begins the first piece
pub top_first : (b : ℕ) (more : List ℕ) → 128 ≤ b → (q : List ℕ) × ((others : List (List ℕ)) × (number_pieces (b ∷ more) ≡ (b ∷ q) ∷ others))
top_first b more top = by (number_pieces more) refl
  where
    large : nat_lt b 128 ≡ false
    large = grind (arith, nat_tests)

    by : (ps : List (List ℕ)) → number_pieces more ≡ ps → (q : List ℕ) × ((others : List (List ℕ)) × (number_pieces (b ∷ more) ≡ (b ∷ q) ∷ others))
    by [] is = ([], ([], rw large (ap (to_first b) is)))
    by (p ∷ ps) is = (p, (ps, rw large (ap (to_first b) is)))
