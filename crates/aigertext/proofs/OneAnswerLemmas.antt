-- A text has exactly one answer.
use Rattle.std.proofs.Common.{◌≡◌, ℕ, ◌+◌, ◌-◌, ◌<◌, List, length, Option, Some, None, Result, Ok, Err, refl, sym, ap, ◌∙◌, inl, inr, ◌⊎◌, arith}
use Rattle.aiger.specs.Circuit.{Circuit}
use Rattle.aigerlists.specs.Loose.{Loose, IsLoose}
use Rattle.aigerlists.specs.Renumbering.{IsRenumbered, IsFirstCyclic, LeadsToCycle, first_undefined, used_lines}
use Rattle.aigertext.specs.declared.reading.counts.Counts.{Counts}
use Rattle.aigertext.specs.declared.fault.Stop.{Stop}
use Rattle.aigertext.specs.declared.fault.Why.TheVariants as why
use Rattle.aigertext.specs.declared.forms.Form.{Form}
use Rattle.aigertext.specs.declared.forms.Form.TheVariants.{Ascii, Binary}
use Rattle.aigertext.specs.Counts.{AreSmall, Fits}
use Rattle.aigertext.specs.Reading.{stop, line_at, header_of, names_at, binary_at}
use Rattle.aigertext.specs.AsciiReading.{lists_of_file, lines_before, behind_lines, AnswersNamed, AnswersUndefined, AnswersCycle, AnswersLists, AnswersBody, AnswersHeader, AnswersText}
use Rattle.aigertext.proofs.FileBackLemmas.{lists-back}
use Rattle.aigertext.proofs.HeaderSmallLemmas.{IsHeaderOf, header_small}
use Rattle.aigertext.proofs.PassOverLemmas.{cyclic_within}

-- the laws of renumbering
abbrev pub OneCircuit : Type 0
OneCircuit = (l : Loose) (c d : Circuit) → IsRenumbered l c → IsRenumbered l d → c ≡ d

abbrev pub NoCycle : Type 0
NoCycle = (l : Loose) (c : Circuit) (j : ℕ) → IsLoose l → IsRenumbered l c → j < length l.gates → ¬ LeadsToCycle l j

same_first : (l : Loose) (i j : ℕ) → IsFirstCyclic l i → IsFirstCyclic l j → i ≡ j
same_first l i j one two =
    let not_below : ¬ (i < j) = λ h. two.first i h one.leads in
    let not_above : ¬ (j < i) = λ h. one.first j h two.leads in
    omega (arith, not_below, not_above)

undefined_not : (l : Loose) (k : ℕ) → first_undefined l ≡ Some k → first_undefined l ≡ None → ⊥
undefined_not l k some none = cc

same_line : (l : Loose) (k m : ℕ) → first_undefined l ≡ Some k → first_undefined l ≡ Some m → k ≡ m
same_line l k m one two = cc

module _ (same_circuit : OneCircuit) (no_cycle : NoCycle) (h : Counts) (text : List ℕ) (l : Loose) (valid : IsLoose l) (names : List ℕ) (a b : Result Circuit Stop) where
  one_of_lists : AnswersNamed l names a ⊎ (AnswersUndefined h text l a ⊎ AnswersCycle h text l a) → AnswersNamed l names b ⊎ (AnswersUndefined h text l b ⊎ AnswersCycle h text l b) → a ≡ b
  one_of_lists (inl x) (inl y) = x.is ∙ ap (λ (c : Circuit). names_at c names) (same_circuit l x.circuit y.circuit x.is_renumbered y.is_renumbered) ∙ sym y.is
  one_of_lists (inl x) (inr (inl y)) = absurd (undefined_not l y.line y.undefined x.is_renumbered.known)
  one_of_lists (inl x) (inr (inr y)) = absurd (no_cycle l x.circuit y.gate valid x.is_renumbered (cyclic_within l y.gate y.cyclic.leads) y.cyclic.leads)
  one_of_lists (inr (inl x)) (inl y) = absurd (undefined_not l x.line x.undefined y.is_renumbered.known)
  one_of_lists (inr (inl x)) (inr (inl y)) = x.is ∙ ap (λ (k : ℕ). Err (stop (behind_lines (lines_before h k) text) why.Undefined)) (same_line l x.line y.line x.undefined y.undefined) ∙ sym y.is
  one_of_lists (inr (inl x)) (inr (inr y)) = absurd (undefined_not l x.line x.undefined y.known)
  one_of_lists (inr (inr x)) (inl y) = absurd (no_cycle l y.circuit x.gate valid y.is_renumbered (cyclic_within l x.gate x.cyclic.leads) x.cyclic.leads)
  one_of_lists (inr (inr x)) (inr (inl y)) = absurd (undefined_not l y.line y.undefined x.known)
  one_of_lists (inr (inr x)) (inr (inr y)) = x.is ∙ ap (λ (k : ℕ). Err (stop (behind_lines (lines_before h (length (used_lines l) - length l.gates + k)) text) why.Cycle)) (same_first l x.gate y.gate x.cyclic y.cyclic) ∙ sym y.is

pub one_answer : OneCircuit → NoCycle → (text : List ℕ) (a b : Result Circuit Stop) → AnswersText text a → AnswersText text b → a ≡ b
unfolding AnswersText
one_answer same_circuit no_cycle text a b = by (line_at header_of text) refl
  where
    lists : (h : Counts) (rest : List ℕ) → IsHeaderOf Ascii h → (r : Result (Loose × List ℕ) Stop) → lists_of_file h rest ≡ r → AnswersLists h rest r a → AnswersLists h rest r b → a ≡ b
    lists h rest is (Ok x) e p q = one_of_lists same_circuit no_cycle h rest x.0 (lists-back h rest x.0 x.1 is.small is.fits e).valid x.1 a b p q
    lists h rest is (Err w) e p q = p ∙ sym q

    body : (form : Form) (h : Counts) (rest : List ℕ) → IsHeaderOf form h → AnswersBody form h rest a → AnswersBody form h rest b → a ≡ b
    body Ascii h rest is p q = lists h rest is (lists_of_file h rest) refl p q
    body Binary h rest is p q = p ∙ sym q

    by : (r : Result ((Form × Counts) × List ℕ) Stop) → line_at header_of text ≡ r → AnswersHeader r a → AnswersHeader r b → a ≡ b
    by (Ok x) e p q = body x.0.0 x.0.1 x.1 (header_small text x.1 x.0.0 x.0.1 e) p q
    by (Err w) e p q = p ∙ sym q

-- ---- there is one

abbrev pub EitherLaw : Type 0
EitherLaw = (l : Loose) → IsLoose l → first_undefined l ≡ None → ((c : Circuit) × IsRenumbered l c) ⊎ ((j : ℕ) × IsFirstCyclic l j)

pub some_answer : EitherLaw → (text : List ℕ) → (a : Result Circuit Stop) × AnswersText text a
unfolding AnswersText
some_answer either text = by (line_at header_of text) refl
  where
    defined : (h : Counts) (rest : List ℕ) (l : Loose) (end : List ℕ) → first_undefined l ≡ None → ((c : Circuit) × IsRenumbered l c) ⊎ ((j : ℕ) × IsFirstCyclic l j) → (a : Result Circuit Stop) × AnswersLists h rest (Ok (l, end)) a
    defined h rest l end known (inl c) = (names_at c.0 end, inl (record { circuit = c.0; is_renumbered = c.1; is = refl }))
    defined h rest l end known (inr j) = (Err (stop (behind_lines (lines_before h (length (used_lines l) - length l.gates + j.0)) rest) why.Cycle), inr (inr (record { gate = j.0; known = known; cyclic = j.1; is = refl })))

    lists_by : (h : Counts) (rest : List ℕ) (l : Loose) (end : List ℕ) → IsLoose l → (r : Option ℕ) → first_undefined l ≡ r → (a : Result Circuit Stop) × AnswersLists h rest (Ok (l, end)) a
    lists_by h rest l end valid (Some k) e = (Err (stop (behind_lines (lines_before h k) rest) why.Undefined), inr (inl (record { line = k; undefined = e; is = refl })))
    lists_by h rest l end valid None e = defined h rest l end e (either l valid e)

    lists : (h : Counts) (rest : List ℕ) → AreSmall h → Fits Ascii h → (r : Result (Loose × List ℕ) Stop) → lists_of_file h rest ≡ r → (a : Result Circuit Stop) × AnswersLists h rest r a
    lists h rest small fits (Ok x) e = lists_by h rest x.0 x.1 (lists-back h rest x.0 x.1 small fits e).valid (first_undefined x.0) refl
    lists h rest small fits (Err w) e = (Err w, refl)

    body : (form : Form) (h : Counts) (rest : List ℕ) → IsHeaderOf form h → (a : Result Circuit Stop) × AnswersBody form h rest a
    body Ascii h rest is = lists h rest is.small is.fits (lists_of_file h rest) refl
    body Binary h rest is = (binary_at h rest, refl)

    by : (r : Result ((Form × Counts) × List ℕ) Stop) → line_at header_of text ≡ r → (a : Result Circuit Stop) × AnswersHeader r a
    by (Ok x) e = body x.0.0 x.0.1 x.1 (header_small text x.1 x.0.0 x.0.1 e)
    by (Err w) e = (Err w, refl)
