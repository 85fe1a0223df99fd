-- Tokens that are put behind bytes, one by one.
use Rattle.std.proofs.Common.{◌≡◌, ℕ, zero, suc, ◌-◌, ◌<◌, Bool, List, [], ◌∷◌, ◌++◌, refl, sym, ap, ap₂, subst, ◌∙◌, append_assoc, arith}
use Rattle.std.proofs.lemmas.List.{append-nil}
use Rattle.btor2text.specs.Reading.{Tokens}
use Rattle.btor2text.specs.Tokens.{tokens}
use Rattle.fulltext.specs.Signs.{has_minus, without_sign, signs, unsigned, signs_behind, unsigned_behind}
use Rattle.fulltext.specs.Steps.{IsWhole, IsFront, AddsOperands}
use Rattle.fulltext.proofs.TokenLemmas.{none_whole, first_is_word, tokens_put, whole_put}
use Rattle.fulltext.proofs.SignLemmas.{unsigned_word}

less : (k : ℕ) → suc k - 1 ≡ k
less k = omega arith

-- no token is left
no_unsigned : (n : ℕ) → unsigned n [] ≡ []
no_unsigned zero = refl
no_unsigned (suc n) = refl

no_signs : (n : ℕ) → signs n [] ≡ []
no_signs zero = refl
no_signs (suc n) = refl

no_unsigned_behind : (k n : ℕ) → unsigned_behind k n [] ≡ []
no_unsigned_behind zero n = no_unsigned n
no_unsigned_behind (suc k) n = refl

no_signs_behind : (k n : ℕ) → signs_behind k n [] ≡ []
no_signs_behind zero n = no_signs n
no_signs_behind (suc k) n = refl

-- ---- tokens before the operands

-- so many tokens are left to be put
pub record FrontSoFar (k : ℕ) (line : Tokens) (bytes : List ℕ) (left : ℕ) (rest : Tokens) : Type 0 where
  pub whole : IsWhole bytes
  pub plain : (n : ℕ) → tokens bytes ++ unsigned_behind left n rest ≡ unsigned_behind k n line
  pub signs : (n : ℕ) → signs_behind left n rest ≡ signs_behind k n line

pub front_begins : (k : ℕ) (line : Tokens) (bytes : List ℕ) → bytes ≡ [] → FrontSoFar k line bytes k line
front_begins k line bytes e = record { whole = none_whole bytes e; plain = λ n. ap (λ (b : List ℕ). tokens b ++ unsigned_behind k n line) e; signs = λ n. refl }

step_unsigned : (left n : ℕ) (t : List ℕ) (ts : Tokens) → 0 < left → unsigned_behind left n (t ∷ ts) ≡ t ∷ unsigned_behind (left - 1) n ts
step_unsigned zero n t ts h = absurd (omega (arith, h))
step_unsigned (suc k) n t ts h = ap (λ (j : ℕ). t ∷ unsigned_behind j n ts) (sym (less k))

step_signs : (left n : ℕ) (t : List ℕ) (ts : Tokens) → 0 < left → signs_behind left n (t ∷ ts) ≡ signs_behind (left - 1) n ts
step_signs zero n t ts h = absurd (omega (arith, h))
step_signs (suc k) n t ts h = ap (λ (j : ℕ). signs_behind j n ts) (sym (less k))

pub front_goes_on : (k : ℕ) (line : Tokens) (old new token rest behind : List ℕ) (left : ℕ) → FrontSoFar k line old left (tokens rest) → 0 < left → tokens rest ≡ token ∷ tokens behind
    → new ≡ old ++ token ++ 32 ∷ [] → FrontSoFar k line new (left - 1) (tokens behind)
front_goes_on k line old new token rest behind left so_far some parts is =
    let word = first_is_word rest token (tokens behind) parts in
    record {
      whole = whole_put old token new is so_far.whole word;
      plain = λ n.
          ap (λ (ts : Tokens). ts ++ unsigned_behind (left - 1) n (tokens behind)) (tokens_put old token new is so_far.whole word) ∙ append_assoc (tokens old) (token ∷ []) (unsigned_behind (left - 1) n (tokens behind))
          ∙ (ap (λ (ts : Tokens). tokens old ++ ts) (sym (step_unsigned left n token (tokens behind) some)) ∙ (ap (λ (ts : Tokens). tokens old ++ unsigned_behind left n ts) (sym parts) ∙ so_far.plain n));
      signs = λ n. sym (step_signs left n token (tokens behind) some) ∙ (ap (signs_behind left n) (sym parts) ∙ so_far.signs n);
    }

pub front_ends : (k : ℕ) (line : Tokens) (bytes : List ℕ) (left : ℕ) (rest : Tokens) → FrontSoFar k line bytes left rest → left ≡ 0 → IsFront k line bytes rest
front_ends k line bytes left rest so_far none = record {
  whole = so_far.whole;
  plain = λ n. ap (λ (j : ℕ). tokens bytes ++ unsigned_behind j n rest) (sym none) ∙ so_far.plain n;
  signs = λ n. ap (λ (j : ℕ). signs_behind j n rest) (sym none) ∙ so_far.signs n;
}

pub front_stops : (k : ℕ) (line : Tokens) (bytes : List ℕ) (left : ℕ) (rest : Tokens) → FrontSoFar k line bytes left rest → rest ≡ [] → IsFront k line bytes rest
front_stops k line bytes left rest so_far none = record {
  whole = so_far.whole;
  plain = λ n. ap (λ (ts : Tokens). tokens bytes ++ unsigned n ts) none ∙ (ap (λ (ts : Tokens). tokens bytes ++ ts) (no_unsigned n ∙ sym (no_unsigned_behind left n)) ∙ (ap (λ (ts : Tokens). tokens bytes ++ unsigned_behind left n ts) (sym none) ∙ so_far.plain n));
  signs = λ n. ap (signs n) none ∙ (no_signs n ∙ (sym (no_signs_behind left n) ∙ (ap (signs_behind left n) (sym none) ∙ so_far.signs n)));
}

-- ---- operands

pub record OperandsSoFar (n : ℕ) (line : Tokens) (old new : List ℕ) (before after : List Bool) (left : ℕ) (rest : Tokens) : Type 0 where
  pub whole : IsWhole new
  pub plain : tokens new ++ unsigned left rest ≡ tokens old ++ unsigned n line
  pub signs : after ++ signs left rest ≡ before ++ signs n line

pub operands_begin : (n : ℕ) (line : Tokens) (bytes : List ℕ) (minuses : List Bool) → IsWhole bytes → OperandsSoFar n line bytes bytes minuses minuses n line
operands_begin n line bytes minuses whole = record { whole = whole; plain = refl; signs = refl }

step_bare : (left : ℕ) (t : List ℕ) (ts : Tokens) → 0 < left → unsigned left (t ∷ ts) ≡ without_sign (has_minus t) t ∷ unsigned (left - 1) ts
step_bare zero t ts h = absurd (omega (arith, h))
step_bare (suc k) t ts h = ap (λ (j : ℕ). without_sign (has_minus t) t ∷ unsigned j ts) (sym (less k))

step_sign : (left : ℕ) (t : List ℕ) (ts : Tokens) → 0 < left → signs left (t ∷ ts) ≡ has_minus t ∷ signs (left - 1) ts
step_sign zero t ts h = absurd (omega (arith, h))
step_sign (suc k) t ts h = ap (λ (j : ℕ). has_minus t ∷ signs j ts) (sym (less k))

pub operands_go_on : (n : ℕ) (line : Tokens) (start old new token rest behind : List ℕ) (begin before after : List Bool) (left : ℕ) → OperandsSoFar n line start old begin before left (tokens rest) → 0 < left
    → tokens rest ≡ token ∷ tokens behind → new ≡ old ++ without_sign (has_minus token) token ++ 32 ∷ [] → after ≡ before ++ has_minus token ∷ [] → OperandsSoFar n line start new begin after (left - 1) (tokens behind)
operands_go_on n line start old new token rest behind begin before after left so_far some parts is kept =
    let bare = without_sign (has_minus token) token in
    let word = unsigned_word token (first_is_word rest token (tokens behind) parts) in
    record {
      whole = whole_put old bare new is so_far.whole word;
      plain =
          ap (λ (ts : Tokens). ts ++ unsigned (left - 1) (tokens behind)) (tokens_put old bare new is so_far.whole word) ∙ append_assoc (tokens old) (bare ∷ []) (unsigned (left - 1) (tokens behind))
          ∙ (ap (λ (ts : Tokens). tokens old ++ ts) (sym (step_bare left token (tokens behind) some)) ∙ (ap (λ (ts : Tokens). tokens old ++ unsigned left ts) (sym parts) ∙ so_far.plain));
      signs =
          ap (λ (ms : List Bool). ms ++ signs (left - 1) (tokens behind)) kept ∙ append_assoc before (has_minus token ∷ []) (signs (left - 1) (tokens behind))
          ∙ (ap (λ (ms : List Bool). before ++ ms) (sym (step_sign left token (tokens behind) some)) ∙ (ap (λ (ts : Tokens). before ++ signs left ts) (sym parts) ∙ so_far.signs));
    }

pub operands_end : (n : ℕ) (line : Tokens) (old new : List ℕ) (before after : List Bool) (left : ℕ) (rest : Tokens) → OperandsSoFar n line old new before after left rest → left ≡ 0 → AddsOperands n line old new before after rest
operands_end n line old new before after left rest so_far none = record {
  whole = so_far.whole;
  plain = ap (λ (j : ℕ). tokens new ++ unsigned j rest) (sym none) ∙ so_far.plain;
  signs = sym (append-nil after) ∙ (ap (λ (j : ℕ). after ++ signs j rest) (sym none) ∙ so_far.signs);
}

pub operands_stop : (n : ℕ) (line : Tokens) (old new : List ℕ) (before after : List Bool) (left : ℕ) (rest : Tokens) → OperandsSoFar n line old new before after left rest → rest ≡ [] → AddsOperands n line old new before after rest
operands_stop n line old new before after left rest so_far none = record {
  whole = so_far.whole;
  plain = ap (λ (ts : Tokens). tokens new ++ ts) (none ∙ sym (no_unsigned left)) ∙ (ap (λ (ts : Tokens). tokens new ++ unsigned left ts) (sym none) ∙ so_far.plain);
  signs = sym (append-nil after) ∙ (ap (λ (ms : List Bool). after ++ ms) (sym (no_signs left)) ∙ (ap (λ (ts : Tokens). after ++ signs left ts) (sym none) ∙ so_far.signs));
}

-- ---- a whole line

module _ (k n : ℕ) (line : Tokens) (first second bytes : List ℕ) (minuses : List Bool) (rest : Tokens) (tail : List ℕ) (front : IsFront k line first rest) (adds : AddsOperands n rest first second [] minuses (tokens tail)) where
  pub line_plain : bytes ≡ second ++ tail → tokens bytes ≡ unsigned_behind k n line
  line_plain is = ap tokens is ∙ (adds.whole tail ∙ (adds.plain ∙ front.plain n))

  pub line_signs : minuses ≡ signs_behind k n line
  line_signs = adds.signs ∙ front.signs n
