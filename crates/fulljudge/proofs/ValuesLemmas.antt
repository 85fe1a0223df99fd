-- What is kept of the sorts of a model's states, or of its inputs.
use Rattle.std.proofs.Common.{◌≡◌, ℕ, ◌+◌, ◌*◌, ◌<◌, ◌≤◌, ◌^◌, ◌⊎◌, zero, suc, Bool, true, false, nat_le, cond, List, [], ◌∷◌, ◌++◌, Option, Some, None, option_map, length, map, filter, flat_map, take, get_or, slice_get, inl, inr, refl, sym, ap, subst, ◌∙◌, arith, append_assoc, length-append}
use Rattle.std.proofs.Math.Pow.{pow_mono}
use Rattle.std.proofs.Math.Nat.{mul-le-mul_left}
use Rattle.std.proofs.lemmas.Bool.{cases_lt}
use Rattle.std.proofs.lemmas.Option.{none-some, same_Some, slice_get-map, slice_get-get_or}
use Rattle.fulljudge.proofs.TextLemmas.{first_within}
use Rattle.std.proofs.lemmas.List.{length-replicate, map-append, take_more}
use Rattle.std.proofs.lemmas.List.Elements.{filter-append}
use Rattle.std.proofs.lemmas.Grind.{common_steps}
use Rattle.btor2.specs.declared.item.Body.{Body}
use Rattle.btor2.specs.Check.{most_items}
use Rattle.wide.specs.WideModels.{greatest_width}
use Rattle.full.specs.Lines.{FullLine, Sort, words, arrays, sort_size, is_form}
use Rattle.fullmodel.specs.declared.line.Line.{Line}
use Rattle.fullmodel.specs.Lines.{line_of}
use Rattle.fullmodel.specs.FullModels.{line_refusal, IsAcceptedAfter, IsAccepted}
use Rattle.fulljudge.specs.declared.values.Value.{Value}
use Rattle.fulljudge.specs.Shapes.{Leaf, leaf_of, word_count, word_width, word_widths, first_index}
use Rattle.fulljudge.specs.Kept.{sort_kept, words_in, StandFrom, AreKept, sorts_among}

-- an array of which the cells can be counted is one of so few bits
pub few_bits : (k : ℕ) → 2 ^ k < 2 ^ 64 → k < 64
few_bits k few = by (cases_lt k 64)
  where
    by : (k < 64) ⊎ (64 ≤ k) → k < 64
    by (inl below) = below
    by (inr above) = let great : 2 ^ 64 ≤ 2 ^ k = pow_mono {i = 64} {j = k} above in absurd (omega (arith, great, few))

-- a value of a model has at most 2 ^ 20 cells
pub few_words : (s : Sort) → 1 ≤ sort_size s → sort_size s ≤ greatest_width → word_count s ≤ 2 ^ 20
few_words (words n) some most = omega arith
few_words (arrays k zero) some most = absurd (omega (arith, some))
few_words (arrays k (suc n)) some most = let product : 2 ^ k * 1 ≤ 2 ^ k * suc n = mul-le-mul_left {m = 1} {n = suc n} (2 ^ k) (omega arith) in omega (arith, product, most)

-- ---- words of some values

pub words_first : (s : Sort) (sorts : List Sort) → words_in (s ∷ sorts) ≡ word_count s + words_in sorts
words_first s sorts = length-append (word_widths s) (flat_map word_widths sorts) ∙ ap (λ (n : ℕ). n + words_in sorts) (length-replicate (word_count s) (word_width s))

pub words_more : (sorts : List Sort) (s : Sort) → words_in (sorts ++ s ∷ []) ≡ words_in sorts + word_count s
words_more [] s = omega (arith, words_first s [])
words_more (t ∷ sorts) s = omega (arith, words_first t (sorts ++ s ∷ []), words_more sorts s, words_first t sorts)

-- ---- where they stand

stand_more : (n : ℕ) (list : List Value) (v : Value) → StandFrom n list → v.first ≡ n + words_in (map sort_kept list) → StandFrom n (list ++ v ∷ [])
stand_more n [] v h is = (omega (arith, is), tt)
stand_more n (w ∷ list) v h is = (h.0, stand_more (n + word_count (sort_kept w)) list v h.1 (omega (arith, is, words_first (sort_kept w) (map sort_kept list))))

stand_at : (n : ℕ) (list : List Value) (i : ℕ) (v : Value) → StandFrom n list → slice_get list i ≡ Some v → v.first ≡ n + first_index (map sort_kept list) i
stand_at n [] i v h e = absurd (cc e)
stand_at n (w ∷ list) zero v h e = let same = ap (λ (x : Value). x.first) (same_Some w v e) in omega (arith, same, h.0)
stand_at n (w ∷ list) (suc i) v h e = omega (arith, stand_at (n + word_count (sort_kept w)) list i v h.1 e)

pub first_is : (list : List Value) (count i : ℕ) (v : Value) → AreKept list count → slice_get list i ≡ Some v → v.first ≡ first_index (map sort_kept list) i
first_is list count i v h e = omega (arith, stand_at 0 list i v h.stand e)

pub kept_more : (list : List Value) (count more : ℕ) (v : Value) → AreKept list count → v.first ≡ count → more ≡ word_count (sort_kept v) → count + more < 2 ^ 64 → AreKept (list ++ v ∷ []) (count + more)
kept_more list count more v h first is few =
    let grown : map sort_kept (list ++ v ∷ []) ≡ map sort_kept list ++ sort_kept v ∷ [] = map-append sort_kept list (v ∷ []) in
    record {
      stand = stand_more 0 list v h.stand (omega (arith, first, h.all));
      all = subst (λ (l : List Sort). count + more ≡ words_in l) (sym grown) (omega (arith, words_more (map sort_kept list) (sort_kept v), h.all, is));
      few = few;
    }

-- the words of each can be counted
pub count_small : (list : List Value) (count i : ℕ) (d : Value) → AreKept list count → i < length list → word_count (sort_kept (get_or list i d)) < 2 ^ 64
count_small list count i d h less =
    let there : slice_get (map sort_kept list) i ≡ Some (sort_kept (get_or list i d)) = slice_get-map sort_kept list i ∙ ap (option_map sort_kept) (slice_get-get_or list i d less) in
    omega (arith, first_within (map sort_kept list) i (sort_kept (get_or list i d)) there, h.all, h.few)

-- ---- lines of a model

none_of : {A : Type 0} (b : Bool) (v : A) (rest : Option A) → cond b (Some v) rest ≡ None → b ≡ false
none_of true v rest h = absurd (none-some v (sym h))
none_of false v rest h = refl

room_for : (before : List FullLine) (x : FullLine) → line_refusal before x ≡ None → length before < most_items
unfolding line_refusal
room_for before x h = let full : nat_le most_items (length before) ≡ false = none_of (nat_le most_items (length before)) _ _ h in grind (arith, common_steps)

few_after : (before xs : List FullLine) → IsAcceptedAfter before xs → length before ≤ most_items → length (before ++ xs) ≤ most_items
few_after before [] h few = omega (arith, length-append {A = FullLine})
few_after before (x ∷ xs) h few =
    let room = room_for before x h.0 in
    let more = few_after (before ++ x ∷ []) xs h.1 (omega (arith, length-append before (x ∷ []))) in
    subst (λ (l : List FullLine). length l ≤ most_items) (append_assoc before (x ∷ []) xs) more

pub few_lines : (lines : List FullLine) → IsAccepted lines → length lines ≤ most_items
few_lines lines h = few_after [] lines h (omega arith)

among_both : (full : List FullLine) (kind : Body → Bool) (xs ys : List FullLine) → sorts_among full kind (xs ++ ys) ≡ sorts_among full kind xs ++ sorts_among full kind ys
among_both full kind xs ys =
    ap (λ (l : List FullLine). map (λ (l : Leaf). l.sort) (map (leaf_of full) l)) (filter-append (λ (x : FullLine). is_form kind x.says) xs ys)
    ∙ ap (map (λ (l : Leaf). l.sort)) (map-append (leaf_of full) (filter (λ (x : FullLine). is_form kind x.says) xs) (filter (λ (x : FullLine). is_form kind x.says) ys))
    ∙ map-append (λ (l : Leaf). l.sort) (map (leaf_of full) (filter (λ (x : FullLine). is_form kind x.says) xs)) (map (leaf_of full) (filter (λ (x : FullLine). is_form kind x.says) ys))

-- the sorts among one line more
pub among_more : (full : List FullLine) (kind : Body → Bool) (lines : List Line) (i : ℕ) (x : Line) → i < length lines → x ≡ get_or lines i x
    → sorts_among full kind (map line_of (take (i + 1) lines)) ≡ sorts_among full kind (map line_of (take i lines)) ++ sorts_among full kind (line_of x ∷ [])
among_more full kind lines i x less is =
    ap (λ (l : List Line). sorts_among full kind (map line_of l)) (take_more lines i x less)
    ∙ ap (sorts_among full kind) (map-append line_of (take i lines) (get_or lines i x ∷ []))
    ∙ among_both full kind (map line_of (take i lines)) (line_of (get_or lines i x) ∷ [])
    ∙ ap (λ (y : Line). sorts_among full kind (map line_of (take i lines)) ++ sorts_among full kind (line_of y ∷ [])) (sym is)
