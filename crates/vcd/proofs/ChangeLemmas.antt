-- The changes of a frame, signal by signal.
use Rattle.std.proofs.Common.{◌≡◌, ℕ, zero, suc, ◌+◌, ◌<◌, ◌≤◌, Bool, List, [], ◌∷◌, ◌++◌, All, length, map, take, drop, get_or, set, refl, sym, ap, ap₂, subst, ◌∙◌, append-nil, drop-cons, add-one, arith, inl, inr}
use Rattle.std.proofs.lemmas.Bool.{cases_eq}
use Rattle.std.proofs.lemmas.List.{drop_all, take_all, length-set, get_or-set_same, get_or-set_other}
use Rattle.vcd.specs.declared.signals.Signal.{Signal}
use Rattle.vcd.specs.Stands.{with_word, change, changes}

-- a list of which a front has other words
abbrev With : (ℕ → ℕ) → List Signal → ℕ → List Signal
With words list at = map (with_word words) (take at list) ++ drop at list

same_rest : (words : ℕ → ℕ) (list : List Signal) (at : ℕ) (d : Signal) → at < length list → get_or (With words list at) at d ≡ get_or list at d
same_rest words [] at d lt = absurd (omega (arith, lt))
same_rest words (s ∷ list) zero d lt = refl
same_rest words (s ∷ list) (suc at) d lt = same_rest words list at d (omega (arith, lt))

set_more : (words : ℕ → ℕ) (list : List Signal) (at : ℕ) (d : Signal) → at < length list → set (With words list at) at (with_word words (get_or list at d)) ≡ With words list (suc at)
set_more words [] at d lt = absurd (omega (arith, lt))
set_more words (s ∷ list) zero d lt = refl
set_more words (s ∷ list) (suc at) d lt = ap (λ (l : List Signal). with_word words s ∷ l) (set_more words list at d (omega (arith, lt)))

changes_at : (first : Bool) (words : ℕ → ℕ) (at : ℕ) (list : List Signal) (d : Signal) → at < length list
    → changes first words (drop at list) ≡ change first (get_or list at d) (words (get_or list at d).node) ++ changes first words (drop (at + 1) list)
changes_at first words at list d lt = rw (drop-cons list at d lt, add-one at) refl

-- what is put for a signal
pub change_step : (first : Bool) (words : ℕ → ℕ) (at : ℕ) (list now : List Signal) (d : Signal) (word : ℕ) → at < length list → now ≡ With words list at → word ≡ words (get_or now at d).node
    → changes first words (drop at list) ≡ change first (get_or now at d) word ++ changes first words (drop (at + 1) list)
change_step first words at list now d word lt is told =
    let old : get_or now at d ≡ get_or list at d = ap (λ (l : List Signal). get_or l at d) is ∙ same_rest words list at d lt in
    rw (told, old) (changes_at first words at list d lt)

-- what is kept of it
pub kept_step : (words : ℕ → ℕ) (at : ℕ) (list now : List Signal) (d new : Signal) (word : ℕ) → at < length list → now ≡ With words list at → word ≡ words (get_or now at d).node → new ≡ record (get_or now at d) { word = word }
    → set now at new ≡ map (with_word words) (take (at + 1) list) ++ drop (at + 1) list
kept_step words at list now d new word lt is told kept =
    let old : get_or now at d ≡ get_or list at d = ap (λ (l : List Signal). get_or l at d) is ∙ same_rest words list at d lt in
    let own : new ≡ with_word words (get_or list at d) = kept ∙ rw (told, old) refl in
    ap₂ (λ (l : List Signal) (s : Signal). set l at s) is own ∙ (set_more words list at d lt ∙ ap (With words list) (sym (add-one at)))

pub all_kept : (words : ℕ → ℕ) (list : List Signal) (at : ℕ) → length list ≤ at → map (with_word words) (take at list) ++ drop at list ≡ map (with_word words) list
all_kept words list at all = ap₂ (λ (front rest : List Signal). map (with_word words) front ++ rest) (take_all at list all) (drop_all at list all) ∙ append-nil (map (with_word words) list)

pub allowed_step : (at : ℕ) (now : List Signal) (d new : Signal) → at < length now → All (λ s. s.width ≤ 64) now → new.width ≡ (get_or now at d).width → All (λ s. s.width ≤ 64) (set now at new)
allowed_step at now d new lt all same k e inside =
    elim (cases_eq k at) [
      | inl is ↦ subst (λ (s : Signal). s.width ≤ 64) (sym (ap (λ (j : ℕ). get_or (set now at new) j e) is ∙ get_or-set_same now at new e lt)) (subst (λ (n : ℕ). n ≤ 64) (sym same) (all at d lt))
      | inr other ↦ subst (λ (s : Signal). s.width ≤ 64) (sym (get_or-set_other now at k new e other)) (all k e (omega (arith, inside, length-set now at new)))
    ]
