-- An assignment: its index, its value and its name, and the word that it gives.
use Rattle.std.proofs.Common.{◌≡◌, ℕ, zero, suc, ◌<◌, ◌==◌, nat_lt, Bool, true, false, cond, List, [], ◌∷◌, ◌++◌, length, get_or, take, Some, None, Result, Ok, Err, refl, sym, ap, subst, ◌∙◌, arith, ◌||◌, Option, slice_index}
use Rattle.std.specs.List.{list_any, position, position_or_len}
use Rattle.std.proofs.lemmas.Bool.{or_from, both_ways}
use Rattle.std.proofs.lemmas.Bool.Decides.{nat_tests}
use Rattle.std.proofs.lemmas.List.{append-nil, drop_more, take-append-drop}
use Rattle.std.proofs.lemmas.List.Quantifiers.{position-Some}
use Rattle.std.proofs.lemmas.List.Sums.{fails_before_first}
use Rattle.base.proofs.CutLemmas.{IsCut, none_passes}
use Rattle.base.specs.Lines.{HasNone}
use Rattle.witness.specs.declared.why.Why.{Why}
use Rattle.witness.specs.Admits.{cut_at_space, value_of, with_symbol, with_value, with_index, assignment_at}
use Rattle.witness.specs.WordValues.{IsAsValueRead, word_with, word_behind, pair_with, assigned_by, assigned}
use Rattle.witness.proofs.PieceLemmas.{cut_at_space-parts}
use Rattle.base.specs.Decimals.{number_of}
use Rattle.btor2.specs.Symbols.{is_symbol}
use Rattle.witness.specs.Texts.{Assignment}
use Rattle.witness.specs.Fits.{is_set, IsFlagged}
use Rattle.witness.specs.Judgements.{pairs_of}
use Rattle.witness.specs.declared.why.Why.TheVariants as why
use Rattle.witness.proofs.StepWords.{Cut}

-- ---- where the first space stands

abbrev pub is_space : ℕ → Bool
is_space b = b == 32

is_no_place : (b : Bool) (n : ℕ) → cond b (Some n) None ≡ None → b ≡ false
is_no_place true n h = absurd cc
is_no_place false n h = refl

pub no_space : (line : List ℕ) → position is_space line ≡ None → HasNone 32 line
no_space line h =
    let past : nat_lt (position_or_len is_space line) (length line) ≡ false = is_no_place _ _ h in
    none_passes is_space line (λ k lt e. both_ways _ (fails_before_first is_space line k 0 (grind (arith, nat_tests))) e)

none_before : (line : List ℕ) (n : ℕ) → ((k : ℕ) → k < n → is_space (get_or line k 0) ≡ false) → list_any is_space (take n line) ≡ false
none_before line zero h = refl
none_before [] (suc n) h = refl
none_before (b ∷ bs) (suc n) h = or_from _ _ (h 0 (omega arith)) (none_before bs n (λ k lt. h (suc k) (omega arith)))

pub at_space : (line : List ℕ) (at : ℕ) → position is_space line ≡ Some at → IsCut is_space line at
at_space line at h =
    let first = position-Some is_space line at 0 h in
    record {
      before = none_before line at first.2;
      passes = first.1;
      parts = sym (take-append-drop at line) ∙ ap (λ (rest : List ℕ). take at line ++ rest) (drop_more line at 0 first.0);
      inside = first.0;
    }

-- ---- a line that is cut at its first space

-- no space
pub cut_alone : (line : List ℕ) → HasNone 32 line → cut_at_space line ≡ (line, None)
cut_alone line none = ap cut_at_space (sym (append-nil line)) ∙ cut_at_space-parts line None none

with_nothing : (r : Result ℕ Why) → word_with None r ≡ r
with_nothing (Ok x) = refl
with_nothing (Err w) = refl

-- a space behind a token
pub cut_once : (line token behind : List ℕ) → line ≡ token ++ 32 ∷ behind → HasNone 32 token → cut_at_space line ≡ (token, Some behind)
cut_once line token behind is none = ap cut_at_space is ∙ cut_at_space-parts token (Some behind) none

-- the word behind a token, where a word with a name stands there
pub word_by_name : (behind digits bytes : List ℕ) (width : ℕ) (r : Result ℕ Why) → behind ≡ digits ++ 32 ∷ bytes → HasNone 32 digits → IsAsValueRead (λ (w : ℕ). w) r (word_with (Some bytes) (value_of width digits)) → IsAsValueRead (λ (w : ℕ). w) r (word_behind width (Some behind))
word_by_name behind digits bytes width r is none h =
    subst (λ (c : Cut). IsAsValueRead (λ (w : ℕ). w) r (word_with c.1 (value_of width c.0))) (sym (cut_once behind digits bytes is none)) h

-- the same without a name
pub word_by_digits : (behind : List ℕ) (width : ℕ) (r : Result ℕ Why) → HasNone 32 behind → IsAsValueRead (λ (w : ℕ). w) r (value_of width behind) → IsAsValueRead (λ (w : ℕ). w) r (word_behind width (Some behind))
word_by_digits behind width r none h =
    subst (λ (c : Cut). IsAsValueRead (λ (w : ℕ). w) r (word_with c.1 (value_of width c.0))) (sym (cut_alone behind none)) (subst (IsAsValueRead (λ (w : ℕ). w) r) (sym (with_nothing (value_of width behind))) h)

-- an assignment behind others, of this pair, or the same why
abbrev pub Tells : List Assignment → Result (ℕ × ℕ) Why → Result (List Assignment) Why → Type 0
Tells before (Ok p) made = (a : Assignment) × ((made ≡ Ok (before ++ a ∷ [])) × ((a.index, a.word) ≡ p))
Tells before (Err w) made = made ≡ Err w

by_name : (before : List Assignment) (i : ℕ) (name : Option (List ℕ)) (value : Result ℕ Why) → Tells before (pair_with i (word_with name value)) (with_symbol before i name value)
by_name before i name (Err w) = refl
by_name before i None (Ok x) = (record { index = i; word = x; symbol = None }, (refl, refl))
by_name before i (Some bytes) (Ok x) =
    elim (is_symbol bytes) as (λ b. Tells before (pair_with i (cond b (Ok x) (Err why.BadSymbol))) (cond b (Ok (before ++ record { index = i; word = x; symbol = Some bytes } ∷ [])) (Err why.BadSymbol))) [
      | true ↦ (record { index = i; word = x; symbol = Some bytes }, (refl, refl))
      | false ↦ refl
    ]

by_rest : (widths : List ℕ) (before : List Assignment) (i : ℕ) (rest : Option (List ℕ)) → Tells before (pair_with i (word_behind (slice_index widths i) rest)) (with_value widths before i rest)
by_rest widths before i None = refl
by_rest widths before i (Some rest) = by_name before i (cut_at_space rest).1 (value_of (slice_index widths i) (cut_at_space rest).0)

-- flags of the pairs are those of the assignments
pub flag_of : (before : List Assignment) (i : ℕ) → list_any (λ p. p.0 == i) (pairs_of before) ≡ list_any (λ a. a.index == i) before
flag_of [] i = refl
flag_of (a ∷ before) i = ap (λ (b : Bool). (a.index == i) || b) (flag_of before i)

by_number : (widths : List ℕ) (given : List Bool) (before : List Assignment) (rest : Option (List ℕ)) (o : Option ℕ) → IsFlagged given (pairs_of before) → Tells before (assigned_by widths given rest o) (with_index widths before rest o)
by_number widths given before rest None flagged = refl
by_number widths given before rest (Some i) flagged =
    let same : is_set given i ≡ list_any (λ a. a.index == i) before = flagged i ∙ flag_of before i in
    elim (nat_lt i (length widths)) as (λ b. Tells before (cond b (cond (is_set given i) (Err why.IndexTwice) (pair_with i (word_behind (slice_index widths i) rest))) (Err why.BadIndex)) (cond b (cond (list_any (λ a. a.index == i) before) (Err why.IndexTwice) (with_value widths before i rest)) (Err why.BadIndex))) [
      | true ↦
          subst (λ (s : Bool). Tells before (cond s (Err why.IndexTwice) (pair_with i (word_behind (slice_index widths i) rest))) (cond (list_any (λ a. a.index == i) before) (Err why.IndexTwice) (with_value widths before i rest))) (sym same)
          (elim (list_any (λ a. a.index == i) before) as (λ s. Tells before (cond s (Err why.IndexTwice) (pair_with i (word_behind (slice_index widths i) rest))) (cond s (Err why.IndexTwice) (with_value widths before i rest))) [
            | true ↦ refl
            | false ↦ by_rest widths before i rest
          ])
      | false ↦ refl
    ]

-- what a line gives
pub assigned_tells : (widths : List ℕ) (given : List Bool) (before : List Assignment) (line : List ℕ) → IsFlagged given (pairs_of before) → Tells before (assigned widths given line) (assignment_at widths before line)
unfolding assignment_at
assigned_tells widths given before line flagged = by_number widths given before (cut_at_space line).1 (number_of (cut_at_space line).0) flagged
