-- A whole line of a witness over a model that is none of the claims is admitted as its first 342 bytes are, or refused for the same why.
use Rattle.std.proofs.Common.{◌≡◌, ℕ, zero, suc, ◌+◌, ◌-◌, ◌<◌, ◌≤◌, ◌^◌, ◌==◌, nat_lt, Bool, true, false, not, ◌&&◌, ◌||◌, cond, List, [], ◌∷◌, ◌++◌, Option, Some, None, Result, Ok, Err, length, take, slice_index, codes, decimal, refl, sym, ap, ap₂, ◌∙◌, inl, inr, arith}
use Rattle.std.specs.List.{list_any}
use Rattle.std.specs.Str.{bytes_eq}
use Rattle.std.proofs.lemmas.Bool.{cases_Bool, cases_lt, false_from_ne_true, ltb-true}
use Rattle.std.proofs.lemmas.List.{take_all, take-take, length-take-le}
use Rattle.std.proofs.lemmas.Fmt.{length-decimal-le}
use Rattle.base.specs.Decimals.{number_of}
use Rattle.base.proofs.DecimalLemmas.{number_is_decimal}
use Rattle.btor2.proofs.SymbolLemmas.{long_is_no_symbol}
use Rattle.btor2.specs.declared.item.Item.{Item}
use Rattle.witness.specs.declared.why.Why.{Why}
use Rattle.witness.specs.declared.why.Why.TheVariants as why
use Rattle.witness.specs.Texts.{Shape, Assignment, Parts, is_comment, shape_of}
use Rattle.witness.specs.Readings.{is_nothing}
use Rattle.witness.specs.Admits.{cut_at_space, value_of, with_symbol, with_index, assignment_at, may_name, state_assignment_at, Place, AtStatus, AtClaims, AtParts, InStates, InFrame, AtEnd, Read, begins_part, admit_at, admit}
use Rattle.witness.specs.KeptLines.{kept, AreAlike, IsNarrowShape, AreNarrow}
use Rattle.witness.specs.WordStands.{WordReader, GivesLine, is_alone}
use Rattle.witness.proofs.StepWords.{Cut, to_front}
use Rattle.witness.proofs.WordValueLemmas.{other_length}

-- ---- more bytes

front_more : (n : ℕ) (line part : List ℕ) → take n (take n line ++ part) ≡ take n (line ++ part)
front_more zero line part = refl
front_more (suc n) [] part = refl
front_more (suc n) (b ∷ line) part = ap (λ (l : List ℕ). b ∷ l) (front_more n line part)

-- as many bytes more as there is room for
pub front_room : (n room : ℕ) (line part : List ℕ) → n ≡ length line + room → line ++ take room part ≡ take n (line ++ part)
front_room n room [] part e = ap (λ (m : ℕ). take m part) (omega (arith, e))
front_room zero room (b ∷ line) part e = absurd (omega (arith, e))
front_room (suc n) room (b ∷ line) part e = ap (λ (l : List ℕ). b ∷ l) (front_room n room line part (omega (arith, e)))

pub kept_more : (line part : List ℕ) → kept (kept line ++ part) ≡ kept (line ++ part)
kept_more line part = front_more 342 line part

-- what is kept of a line is as the line
pub kept_alike : (line : List ℕ) → AreAlike (kept line) line
kept_alike line = take-take 342 342 line (omega arith)

-- ---- the first byte, and words

pub nothing_front : (n : ℕ) (line : List ℕ) → is_nothing (take (suc n) line) ≡ is_nothing line
nothing_front n [] = refl
nothing_front n (b ∷ line) = refl

pub nothing_kept : (line : List ℕ) → is_nothing (kept line) ≡ is_nothing line
nothing_kept line = nothing_front 341 line

comment_kept : (n : ℕ) (line : List ℕ) → is_comment (take (suc n) line) ≡ is_comment line
comment_kept n [] = refl
comment_kept n (b ∷ line) = refl

begin_kept : (n : ℕ) (line : List ℕ) → begins_part (take (suc n) line) ≡ begins_part line
begin_kept n [] = refl
begin_kept n (b ∷ line) = refl

pub word_kept : (n : ℕ) (line word : List ℕ) → length word < n → bytes_eq (take n line) word ≡ bytes_eq line word
word_kept zero line word short = absurd (omega (arith, short))
word_kept (suc n) [] word short = refl
word_kept (suc n) (b ∷ line) [] short = refl
word_kept (suc n) (b ∷ line) (c ∷ word) short = ap (λ (t : Bool). (b == c) && t) (word_kept n line word (omega (arith, short)))

-- a byte with a number behind it
number_kept : (line : List ℕ) (b k : ℕ) → k < 2 ^ 64 → bytes_eq (kept line) (b ∷ decimal k) ≡ bytes_eq line (b ∷ decimal k)
number_kept line b k small =
    let short = length-decimal-le 20 k (omega arith) (omega (arith, small)) small in
    word_kept 342 line (b ∷ decimal k) (omega (arith, short))

-- ---- what stands before the first space of a line and of its first n bytes

-- the line has no more bytes; or there is a space among these bytes, and what stands before it is the same; or what stands before it is as long at least of both
data Tokens (n : ℕ) (line : List ℕ) : Type 0 where
  Short : length line ≤ n → Tokens n line
  Same : (token behind : List ℕ) (room : ℕ) → cut_at_space line ≡ (token, Some behind) → cut_at_space (take n line) ≡ (token, Some (take room behind)) → length token + suc room ≡ n → Tokens n line
  Long : n ≤ length (cut_at_space line).0 → n ≤ length (cut_at_space (take n line)).0 → Tokens n line

tokens : (n : ℕ) (line : List ℕ) → Tokens n line
tokens zero line = Long (omega arith) (omega arith)
tokens (suc n) [] = Short (omega arith)
tokens (suc n) (b ∷ line) =
    elim (cases_Bool (b == 32)) [
      | inl is ↦ Same [] line n (rw is refl) (rw is refl) (omega arith)
      | inr not ↦ one_more not (tokens n line)
    ]
  where
    one_more : (b == 32) ≡ false → Tokens n line → Tokens (suc n) (b ∷ line)
    one_more not (Short short) = Short (omega (arith, short))
    one_more not (Same token behind room whole front many) = Same (b ∷ token) behind room (rw not (ap (to_front b) whole)) (rw not (ap (to_front b) front)) (omega (arith, many))
    one_more not (Long whole front) = Long (rw not (omega (arith, whole))) (rw not (omega (arith, front)))

-- ---- a name

two_long_names : (before : List Assignment) (i : ℕ) (name other : List ℕ) (value : Result ℕ Why) → 255 < length name → 255 < length other → with_symbol before i (Some name) value ≡ with_symbol before i (Some other) value
two_long_names before i name other (Err w) long as_long = refl
two_long_names before i name other (Ok x) long as_long = rw (long_is_no_symbol name long, long_is_no_symbol other as_long) refl

name_kept : (before : List Assignment) (i n : ℕ) (name : List ℕ) (value : Result ℕ Why) → 255 < n → with_symbol before i (Some (take n name)) value ≡ with_symbol before i (Some name) value
name_kept before i n name value room =
    elim (cases_lt n (length name)) [
      | inl long ↦ two_long_names before i (take n name) name value (omega (arith, room, length-take-le n name (omega (arith, long)))) (omega (arith, room, long))
      | inr short ↦ ap (λ (l : List ℕ). with_symbol before i (Some l) value) (take_all n name short)
    ]

-- ---- a value with a name behind it or none

too_long : (width : ℕ) (digits : List ℕ) → width ≤ 64 → 64 < length digits → value_of width digits ≡ Err why.BadValue
too_long width digits small long = other_length width digits (λ e. omega (arith, e, small, long))

abbrev with_cut : List Assignment → ℕ → ℕ → Cut → Result (List Assignment) Why
with_cut before i width cut = with_symbol before i cut.1 (value_of width cut.0)

value_kept : (before : List Assignment) (i width n : ℕ) (behind : List ℕ) → width ≤ 64 → 320 < n → with_cut before i width (cut_at_space (take n behind)) ≡ with_cut before i width (cut_at_space behind)
value_kept before i width n behind small room = by (tokens n behind)
  where
    by : Tokens n behind → with_cut before i width (cut_at_space (take n behind)) ≡ with_cut before i width (cut_at_space behind)
    by (Short short) = ap (λ (l : List ℕ). with_cut before i width (cut_at_space l)) (take_all n behind short)
    by (Same token rest left whole front many) =
        let named : with_cut before i width (token, Some (take left rest)) ≡ with_cut before i width (token, Some rest) =
        elim (cases_lt 64 (length token)) [
          | inl long ↦ rw (too_long width token small long) refl
          | inr short ↦ name_kept before i left rest (value_of width token) (omega (arith, many, short, room))
        ] in
        ap (with_cut before i width) front ∙ (named ∙ sym (ap (with_cut before i width) whole))
    by (Long whole front) =
        rw (too_long width (cut_at_space (take n behind)).0 small (omega (arith, front, room)), too_long width (cut_at_space behind).0 small (omega (arith, whole, room))) refl

-- ---- an assignment

-- an index of a node has at most 20 digits
pub short_index : (token : List ℕ) (i : ℕ) → number_of token ≡ Some i → i < 2 ^ 64 - 1 → length token ≤ 20
short_index token i is small =
    let short = length-decimal-le 20 i (omega arith) (omega (arith, small)) (omega (arith, small)) in
    omega (arith, short, ap length (number_is_decimal token i is small))

module _ (widths : List ℕ) (before : List Assignment) (small : AreNarrow widths) where
  there_is_short : (token : List ℕ) (i : ℕ) → number_of token ≡ Some i → nat_lt i (length widths) ≡ true → length token ≤ 20
  there_is_short token i is there =
      let few = small.few in
      let below = ltb-true i (length widths) there in
      short_index token i is (omega (arith, below, few))

  long_index : (rest : Option (List ℕ)) (token : List ℕ) (o : Option ℕ) → 20 < length token → number_of token ≡ o → with_index widths before rest o ≡ Err why.BadIndex
  long_index rest token None long is = refl
  long_index rest token (Some i) long is =
      let past : nat_lt i (length widths) ≡ false = false_from_ne_true (nat_lt i (length widths)) (λ there. let short = there_is_short token i is there in omega (arith, short, long)) in
      rw past refl

  same_index : (token behind : List ℕ) (n : ℕ) (o : Option ℕ) → length token + suc n ≡ 342 → number_of token ≡ o → with_index widths before (Some (take n behind)) o ≡ with_index widths before (Some behind) o
  same_index token behind n None many is = refl
  same_index token behind n (Some i) many is =
      elim (cases_Bool (nat_lt i (length widths))) [
        | inl there ↦
            let short = there_is_short token i is there in
            let same = value_kept before i (slice_index widths i) n behind (small.widths i (ltb-true i (length widths) there)) (omega (arith, short, many)) in
            rw there (ap (λ (t : Result (List Assignment) Why). cond (list_any (λ a. a.index == i) before) (Err why.IndexTwice) t) same)
        | inr past ↦ rw past refl
      ]

  abbrev by_cut : Cut → Result (List Assignment) Why
  by_cut cut = with_index widths before cut.1 (number_of cut.0)

  assignment_kept : (line : List ℕ) → assignment_at widths before (kept line) ≡ assignment_at widths before line
  unfolding assignment_at
  assignment_kept line = by (tokens 342 line)
    where
      by : Tokens 342 line → by_cut (cut_at_space (kept line)) ≡ by_cut (cut_at_space line)
      by (Short short) = ap (λ (l : List ℕ). by_cut (cut_at_space l)) (take_all 342 line short)
      by (Same token behind left whole front many) = ap by_cut front ∙ (same_index token behind left (number_of token) many refl ∙ sym (ap by_cut whole))
      by (Long whole front) =
          long_index (cut_at_space (kept line)).1 (cut_at_space (kept line)).0 (number_of (cut_at_space (kept line)).0) (omega (arith, front)) refl
          ∙ sym (long_index (cut_at_space line).1 (cut_at_space line).0 (number_of (cut_at_space line).0) (omega (arith, whole)) refl)

  long_refused : (line : List ℕ) → 20 < length (cut_at_space line).0 → assignment_at widths before line ≡ Err why.BadIndex
  unfolding assignment_at
  long_refused line long = long_index (cut_at_space line).1 (cut_at_space line).0 (number_of (cut_at_space line).0) long refl

same_either : (b c : Bool) (x y e : Result (List Assignment) Why) → x ≡ e → y ≡ e → cond b x e ≡ cond c y e
same_either true true x y e is other = is ∙ sym other
same_either true false x y e is other = is
same_either false true x y e is other = sym other
same_either false false x y e is other = refl

abbrev may : Shape → List Parts → List ℕ → Bool
may shape closed token = may_name shape closed (number_of token)

state_kept : (shape : Shape) (closed : List Parts) (before : List Assignment) (line : List ℕ) → AreNarrow shape.states → state_assignment_at shape closed before (kept line) ≡ state_assignment_at shape closed before line
unfolding state_assignment_at
state_kept shape closed before line small = by (tokens 342 line)
  where
    by : Tokens 342 line → cond (may shape closed (cut_at_space (kept line)).0) (assignment_at shape.states before (kept line)) (Err why.BadIndex) ≡ cond (may shape closed (cut_at_space line).0) (assignment_at shape.states before line) (Err why.BadIndex)
    by (Short short) = ap (λ (l : List ℕ). cond (may shape closed (cut_at_space l).0) (assignment_at shape.states before l) (Err why.BadIndex)) (take_all 342 line short)
    by (Same token behind left whole front many) =
        ap₂ (λ (t : List ℕ) (a : Result (List Assignment) Why). cond (may shape closed t) a (Err why.BadIndex)) (ap (λ (c : Cut). c.0) front ∙ sym (ap (λ (c : Cut). c.0) whole)) (assignment_kept shape.states before small line)
    by (Long whole front) =
        same_either (may shape closed (cut_at_space (kept line)).0) (may shape closed (cut_at_space line).0) (assignment_at shape.states before (kept line)) (assignment_at shape.states before line) (Err why.BadIndex)
        (long_refused shape.states before small (kept line) (omega (arith, front))) (long_refused shape.states before small line (omega (arith, whole)))

-- ---- a line

module _ (shape : Shape) (small : IsNarrowShape shape) (r : Read) (few : length r.closed < 2 ^ 62) where
  line_kept : (line : List ℕ) (at : Place) → is_alone at ≡ true → admit_at shape r (kept line) at ≡ admit_at shape r line at
  line_kept line AtStatus alone = rw (comment_kept 341 line, word_kept 342 line (codes "sat") (omega arith)) refl
  line_kept line AtClaims alone = absurd (cc alone)
  line_kept line AtParts alone = rw (number_kept line 35 0 (omega arith), number_kept line 64 0 (omega arith)) refl
  line_kept line InStates alone = rw (number_kept line 64 (length r.closed) (omega (arith, few)), begin_kept 341 line, state_kept shape r.closed r.open_part line small.states) refl
  line_kept line InFrame alone =
      rw (number_kept line 64 (suc (length r.closed)) (omega (arith, few)), number_kept line 35 (suc (length r.closed)) (omega (arith, few)), word_kept 342 line (codes ".") (omega arith), begin_kept 341 line, assignment_kept shape.inputs r.open_part small.inputs line) refl
  line_kept line AtEnd alone = refl

  admit_alike : (line other : List ℕ) → AreAlike line other → is_alone r.place ≡ true → admit shape r line ≡ admit shape r other
  unfolding admit
  admit_alike line other alike alone = sym (line_kept line r.place alone) ∙ (ap (λ (l : List ℕ). admit_at shape r l r.place) alike ∙ line_kept other r.place alone)

pub gives_alike : (items : List Item) (r : Read) (line other : List ℕ) (q : WordReader) (result : Result (Unit {0}) Why) → IsNarrowShape (shape_of items) → length r.closed < 2 ^ 62 → AreAlike line other → is_alone r.place ≡ true → GivesLine items r line q result → GivesLine items r other q result
gives_alike items r line other q (Ok u) small few alike alone gives = (gives.0, (sym (admit_alike (shape_of items) small r few line other alike alone) ∙ gives.1.0, gives.1.1))
gives_alike items r line other q (Err w) small few alike alone gives = sym (admit_alike (shape_of items) small r few line other alike alone) ∙ gives

-- a word, by as many bytes
pub word_alike : (n : ℕ) (line other word : List ℕ) → length word < n → take n line ≡ take n other → bytes_eq line word ≡ bytes_eq other word
word_alike n line other word short alike = sym (word_kept n line word short) ∙ (ap (λ (l : List ℕ). bytes_eq l word) alike ∙ word_kept n other word short)

-- whether a status says that there is no claim
pub status_alike : (line other : List ℕ) → AreAlike line other → (bytes_eq line (codes "unsat") || bytes_eq line (codes "unknown")) ≡ (bytes_eq other (codes "unsat") || bytes_eq other (codes "unknown"))
status_alike line other alike = rw (word_alike 342 line other (codes "unsat") (omega arith) alike, word_alike 342 line other (codes "unknown") (omega arith) alike) refl
