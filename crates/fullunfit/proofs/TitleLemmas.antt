-- What stands beside the digits of a word.
use Rattle.std.proofs.Common.{◌≡◌, ℕ, zero, suc, ◌-◌, ◌<◌, ◌≤◌, ◌^◌, ◌⊎◌, Bool, true, false, cond, not, List, [], ◌∷◌, ◌++◌, Option, None, decimal, length, get_or, slice_get, inl, inr, refl, ap, ◌∙◌, sym, arith, append-nil}
use Rattle.std.proofs.lemmas.Bool.{cases_lt, true≢false}
use Rattle.std.proofs.lemmas.Fmt.{decimal_nonempty}
use Rattle.std.proofs.lemmas.Option.{none-some, slice_get_within}
use Rattle.std.proofs.lemmas.List.{get_or_past}
use Rattle.std.proofs.lemmas.List.FromFn.{get_or-map-range_with_len, length-map-range_with_len}
use Rattle.full.specs.Lines.{Sort, words, arrays}
use Rattle.witness.specs.Texts.{binary}
use Rattle.fulljudge.specs.Shapes.{first_index, value_of_word}
use Rattle.fulljudge.specs.Kept.{words_in}
use Rattle.unfit.specs.Joined.{Fronts, listed, front_at, has_bytes, is_told}
use Rattle.fulljudge.specs.Compared.{has_other_node}
use Rattle.fullunfit.specs.Titles.{value_front, front_of, word_front, word_fronts, first_front, first_fronts, word_symbols}
use Rattle.fulljudge.proofs.OwnerLemmas.{Stands, stands, some_words}

-- of a word that stands there
pub front_stands : (sorts : List Sort) (k : ℕ) (s : Stands sorts k) → word_front sorts k ≡ value_front s.sort s.place (k - first_index sorts s.place)
front_stands sorts k s =
    ap (λ (i : ℕ). front_of (slice_get sorts i) i (k - first_index sorts i)) s.owner ∙ ap (λ (o : Option Sort). front_of o s.place (k - first_index sorts s.place)) s.there

-- the front of a word, in the first frame and in later ones
abbrev pub fronts_of : List Sort → List ℕ → List ℕ → Fronts
fronts_of sorts leaves nodes = listed (first_fronts sorts leaves nodes) (word_fronts sorts)

-- whether nothing is told of a word in frame f
abbrev pub is_out : List Sort → List ℕ → List ℕ → ℕ → ℕ → Bool
is_out sorts leaves nodes zero k = has_other_node leaves nodes (value_of_word sorts k)
is_out sorts leaves nodes (suc f) k = false

front_is : (sorts : List Sort) (leaves nodes : List ℕ) (f k : ℕ) → k < words_in sorts → front_at (fronts_of sorts leaves nodes) f k ≡ cond (is_out sorts leaves nodes f k) [] (word_front sorts k)
front_is sorts leaves nodes zero k h = get_or-map-range_with_len (first_front sorts leaves nodes) 0 (words_in sorts) k k [] h (omega arith)
front_is sorts leaves nodes (suc f) k h = get_or-map-range_with_len (word_front sorts) 0 (words_in sorts) k k [] h (omega arith)

no_front : (sorts : List Sort) (leaves nodes : List ℕ) (f k : ℕ) → words_in sorts ≤ k → front_at (fronts_of sorts leaves nodes) f k ≡ []
no_front sorts leaves nodes zero k h = get_or_past (first_fronts sorts leaves nodes) k [] (omega (arith, h, length-map-range_with_len (first_front sorts leaves nodes) 0 (words_in sorts)))
no_front sorts leaves nodes (suc f) k h = get_or_past (word_fronts sorts) k [] (omega (arith, h, length-map-range_with_len (word_front sorts) 0 (words_in sorts)))

some_bytes : (xs ys : List ℕ) → 0 < length xs → has_bytes (xs ++ ys) ≡ true
some_bytes [] ys h = absurd (omega (arith, h))
some_bytes (x ∷ xs) ys h = refl

value_bytes : (s : Sort) (i c : ℕ) → i < 2 ^ 64 → has_bytes (value_front s i c) ≡ true
value_bytes (words n) i c h = ap has_bytes (sym (append-nil (decimal i))) ∙ some_bytes (decimal i) [] (decimal_nonempty i h)
value_bytes (arrays k n) i c h = some_bytes (decimal i) (32 ∷ 91 ∷ (binary k c ++ 93 ∷ [])) (decimal_nonempty i h)

-- a word has a front
front_bytes : (sorts : List Sort) (k : ℕ) → words_in sorts < 2 ^ 64 → k < words_in sorts → has_bytes (word_front sorts k) ≡ true
front_bytes sorts k few h =
    let s = stands sorts k h in
    let there = s.there in
    ap has_bytes (front_stands sorts k s) ∙ value_bytes s.sort s.place (k - first_index sorts s.place) (omega (arith, slice_get_within sorts s.place s.sort there, some_words sorts, few))

either : (b : Bool) (front : List ℕ) → has_bytes front ≡ true → has_bytes (cond b [] front) ≡ not b
either true front h = refl
either false front h = h

-- a word is told where it is one of a value of which something is told
pub told_within : (sorts : List Sort) (leaves nodes : List ℕ) (f k : ℕ) → words_in sorts < 2 ^ 64 → k < words_in sorts → is_told (fronts_of sorts leaves nodes) f k ≡ not (is_out sorts leaves nodes f k)
told_within sorts leaves nodes f k few h = ap has_bytes (front_is sorts leaves nodes f k h) ∙ either (is_out sorts leaves nodes f k) (word_front sorts k) (front_bytes sorts k few h)

-- in later frames each is, and in the first one where its state's node is its leaf
pub told_later : (sorts : List Sort) (leaves nodes : List ℕ) (f k : ℕ) → words_in sorts < 2 ^ 64 → k < words_in sorts → 0 < f → is_told (fronts_of sorts leaves nodes) f k ≡ true
told_later sorts leaves nodes zero k few h later = absurd (omega (arith, later))
told_later sorts leaves nodes (suc f) k few h later = told_within sorts leaves nodes (suc f) k few h

pub told_first : (sorts : List Sort) (leaves nodes : List ℕ) (f k : ℕ) → words_in sorts < 2 ^ 64 → k < words_in sorts → f ≤ 0 → is_told (fronts_of sorts leaves nodes) f k ≡ not (has_other_node leaves nodes (value_of_word sorts k))
told_first sorts leaves nodes zero k few h first = told_within sorts leaves nodes 0 k few h
told_first sorts leaves nodes (suc f) k few h first = absurd (omega (arith, first))

pub told_past : (sorts : List Sort) (leaves nodes : List ℕ) (f k : ℕ) → words_in sorts ≤ k → is_told (fronts_of sorts leaves nodes) f k ≡ false
told_past sorts leaves nodes f k h = ap has_bytes (no_front sorts leaves nodes f k h)

-- its front is that of the word
pub told_front : (sorts : List Sort) (leaves nodes : List ℕ) (f k : ℕ) → is_told (fronts_of sorts leaves nodes) f k ≡ true → (k < words_in sorts) × (front_at (fronts_of sorts leaves nodes) f k ≡ word_front sorts k)
told_front sorts leaves nodes f k is = by (cases_lt k (words_in sorts))
  where
    shown : (b : Bool) → has_bytes (cond b [] (word_front sorts k)) ≡ true → cond b [] (word_front sorts k) ≡ word_front sorts k
    shown true e = absurd (cc e)
    shown false e = refl

    by : (k < words_in sorts) ⊎ (words_in sorts ≤ k) → (k < words_in sorts) × (front_at (fronts_of sorts leaves nodes) f k ≡ word_front sorts k)
    by (inl within) =
        let front = front_is sorts leaves nodes f k within in
        (within, front ∙ shown (is_out sorts leaves nodes f k) (ap has_bytes (sym front) ∙ is))
    by (inr past) = absurd (true≢false (sym is ∙ told_past sorts leaves nodes f k past))

abbrev symbol_of : List Sort → List (Option (List ℕ)) → ℕ → Option (List ℕ)
symbol_of sorts symbols k = get_or symbols (value_of_word sorts k) None

pub symbol_is : (sorts : List Sort) (symbols : List (Option (List ℕ))) (k : ℕ) → k < words_in sorts → get_or (word_symbols sorts symbols) k None ≡ get_or symbols (value_of_word sorts k) None
symbol_is sorts symbols k h = get_or-map-range_with_len (symbol_of sorts symbols) 0 (words_in sorts) k k None h (omega arith)

pub no_symbol : (sorts : List Sort) (symbols : List (Option (List ℕ))) (k : ℕ) → words_in sorts ≤ k → get_or (word_symbols sorts symbols) k None ≡ None
no_symbol sorts symbols k h = get_or_past (word_symbols sorts symbols) k None (omega (arith, h, length-map-range_with_len (symbol_of sorts symbols) 0 (words_in sorts)))

-- a word among them is of a value
pub no_value : (sorts : List Sort) (k i : ℕ) → k < words_in sorts → i ≡ value_of_word sorts k → slice_get sorts i ≡ None → ⊥
no_value sorts k i h is none =
    let s = stands sorts k h in none-some s.sort (sym none ∙ ap (slice_get sorts) (is ∙ s.owner) ∙ s.there)
