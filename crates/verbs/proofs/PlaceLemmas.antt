-- The lines of a kind of a model of the whole language, by their places.
use Rattle.std.proofs.Common.{◌≡◌, ℕ, suc, Bool, true, false, if◌then◌else◌, List, [], ◌∷◌, ◌++◌, ◌+◌, Option, Some, None, map, take, option_map, option_and_then, slice_get, append-nil, refl, sym, ap, ap₂, subst, ◌∙◌, arith}
use Rattle.std.proofs.lemmas.List.{map-append}
use Rattle.std.proofs.lemmas.List.Elements.{filter-append}
use Rattle.std.proofs.lemmas.Option.{slice_get-map}
use Rattle.btor2.specs.declared.item.Body.{Body}
use Rattle.full.specs.Lines.{FullLine, is_form, lines_of}
use Rattle.writeout.proofs.ReadyLemmas.{take_more}
use Rattle.verbs.specs.Places.{ArePlaces}
use Rattle.verbs.specs.Subjects.{numbered_line}

-- the lines of a kind at the front of a model stand at these places
abbrev pub AreFirst : (Body → Bool) → List FullLine → ℕ → List ℕ → Type 0
AreFirst test full i list = map (slice_get full) list ≡ map (λ (x : FullLine). Some x) (lines_of test (take i full))

-- with one line more
pub first_more : (test : Body → Bool) (full : List FullLine) (list more : List ℕ) (i : ℕ) (x : FullLine) → slice_get full i ≡ Some x → AreFirst test full i list
    → more ≡ (if is_form test x.says then list ++ i ∷ [] else list) → AreFirst test full (i + 1) more
first_more test full list more i x at are is =
    let next : suc i ≡ i + 1 = omega arith in
    subst (λ (n : ℕ). AreFirst test full n more) next (ap (map (slice_get full)) is ∙ by (is_form test x.says) refl ∙ sym whole)
  where
    -- the lines of the kind, with those of the line
    whole : map (λ (y : FullLine). Some y) (lines_of test (take (suc i) full)) ≡ map (λ (y : FullLine). Some y) (lines_of test (take i full)) ++ map (λ (y : FullLine). Some y) (lines_of test (x ∷ []))
    whole = ap (λ (l : List FullLine). map (λ (y : FullLine). Some y) (lines_of test l)) (take_more full i x at)
        ∙ ap (map (λ (y : FullLine). Some y)) (filter-append (λ (y : FullLine). is_form test y.says) (take i full) (x ∷ []))
        ∙ map-append (λ (y : FullLine). Some y) (lines_of test (take i full)) (lines_of test (x ∷ []))

    by : (b : Bool) → is_form test x.says ≡ b
        → map (slice_get full) (if b then list ++ i ∷ [] else list) ≡ map (λ (y : FullLine). Some y) (lines_of test (take i full)) ++ map (λ (y : FullLine). Some y) (if b then x ∷ [] else [])
    by true e = map-append (slice_get full) list (i ∷ []) ∙ ap₂ (λ (k l : List (Option FullLine)). k ++ l) are (ap (λ (o : Option FullLine). o ∷ []) at)
    by false e = are ∙ sym (append-nil (map (λ (y : FullLine). Some y) (lines_of test (take i full))))

-- the line with a number is that at the place with the number
pub numbered_at : (test : Body → Bool) (full : List FullLine) (list : List ℕ) (k : ℕ) → ArePlaces test full list → option_and_then (slice_get full) (slice_get list k) ≡ numbered_line test full k
numbered_at test full list k are = by (slice_get list k) (slice_get (lines_of test full) k) same
  where
    same : option_map (slice_get full) (slice_get list k) ≡ option_map (λ (x : FullLine). Some x) (slice_get (lines_of test full) k)
    same = sym (slice_get-map (slice_get full) list k) ∙ ap (λ (l : List (Option FullLine)). slice_get l k) are ∙ slice_get-map (λ (x : FullLine). Some x) (lines_of test full) k

    by : (o : Option ℕ) (r : Option FullLine) → option_map (slice_get full) o ≡ option_map (λ (x : FullLine). Some x) r → option_and_then (slice_get full) o ≡ r
    by None None e = refl
    by (Some p) (Some x) e = ap (λ (o : Option (Option FullLine)). option_and_then (λ l. l) o) e
    by None (Some x) e = absurd (cc)
    by (Some p) None e = absurd (cc)
