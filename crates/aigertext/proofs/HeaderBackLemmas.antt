-- From what reading gives back to the text: the header.
use Rattle.std.proofs.Common.{◌≡◌, ℕ, ◌+◌, ◌≤◌, true, ◌==◌, ◌||◌, nat_le, nat_lt, List, [], ◌∷◌, ◌++◌, length, map, replicate, decimal, codes, Result, Ok, Err, refl, sym, ap, subst, ◌∙◌, inl, inr, if◌then◌else◌, arith}
use Rattle.std.specs.Str.{bytes_eq}
use Rattle.base.specs.Decimals.{number_of}
use Rattle.aigertext.specs.declared.fault.Why.TheVariants as why
use Rattle.aigertext.specs.Reading.{some_or, numbers_in, counts_at, counts_of, counts_told, fitting, header_form, header_fields, header_of, fields}
use Rattle.aigertext.proofs.BackLemmas.{ok_same, not_err, bind-back, bind-then, some-back}
use Rattle.std.specs.List.{list_all, AllByRecursion}
use Rattle.std.proofs.lemmas.Bool.{and_parts, or_parts, eqb-true, leb-true, ltb-false}
use Rattle.base.proofs.DecimalLemmas.{chosen, number_is_decimal}
use Rattle.aiger.specs.Limits.{greatest_count}
use Rattle.aigertext.specs.declared.reading.counts.Counts.{Counts}
use Rattle.aigertext.specs.declared.forms.Form.{Form}
use Rattle.aigertext.specs.declared.forms.Form.TheVariants.{Ascii, Binary}
use Rattle.aigertext.specs.Ascii.{form_word}
use Rattle.aigertext.specs.Counts.{Fits, first_of_counts, last_of_counts}
use Rattle.aigertext.proofs.FieldLemmas.{joined}
use Rattle.aigertext.proofs.LatchBackLemmas.{spaced, fields-back, spaced-joined}
use Rattle.aigertext.proofs.NameBackLemmas.{same_bytes}
use Rattle.aigertext.specs.declared.fault.Why.{Why}

-- counts
abbrev pub AreCounts : List ℕ → Type 0
AreCounts ns = AllByRecursion (λ n. n ≤ greatest_count) ns

are_counts : (ns : List ℕ) → list_all (λ n. nat_le n greatest_count) ns ≡ true → AreCounts ns
are_counts [] all = tt
are_counts (n ∷ ns) all = let parts = and_parts (nat_le n greatest_count) (list_all (λ n. nat_le n greatest_count) ns) all in (leb-true n greatest_count parts.0, are_counts ns parts.1)

pub counts_front : (xs ys : List ℕ) → AreCounts (xs ++ ys) → AreCounts xs
counts_front [] ys h = tt
counts_front (x ∷ xs) ys h = (h.0, counts_front xs ys h.1)

-- five to nine numbers, and the counts that they are
record NumbersBack (ns : List ℕ) : Type 0 where
  kept : List ℕ
  dropped : ℕ
  counts : kept ++ replicate dropped 0 ≡ last_of_counts (counts_at ns)
  all : ns ≡ first_of_counts (counts_at ns) ++ kept
  few_last : AreCounts (last_of_counts (counts_at ns))

none : 0 ≤ greatest_count
none = omega arith

numbers_are : (ns : List ℕ) → 5 ≤ length ns → length ns ≤ 9 → AreCounts ns → NumbersBack ns
numbers_are (m ∷ i ∷ l ∷ o ∷ a ∷ []) least most few = record { kept = []; dropped = 4; counts = refl; all = refl; few_last = (none, (none, (none, (none, tt)))) }
numbers_are (m ∷ i ∷ l ∷ o ∷ a ∷ b ∷ []) least most few =
    let last = few.1.1.1.1.1 in
    record { kept = b ∷ []; dropped = 3; counts = refl; all = refl; few_last = (last.0, (none, (none, (none, tt)))) }
numbers_are (m ∷ i ∷ l ∷ o ∷ a ∷ b ∷ c ∷ []) least most few =
    let last = few.1.1.1.1.1 in
    record { kept = b ∷ c ∷ []; dropped = 2; counts = refl; all = refl; few_last = (last.0, (last.1.0, (none, (none, tt)))) }
numbers_are (m ∷ i ∷ l ∷ o ∷ a ∷ b ∷ c ∷ j ∷ []) least most few =
    let last = few.1.1.1.1.1 in
    record { kept = b ∷ c ∷ j ∷ []; dropped = 1; counts = refl; all = refl; few_last = (last.0, (last.1.0, (last.1.1.0, (none, tt)))) }
numbers_are (m ∷ i ∷ l ∷ o ∷ a ∷ b ∷ c ∷ j ∷ f ∷ []) least most few = record { kept = b ∷ c ∷ j ∷ f ∷ []; dropped = 0; counts = refl; all = refl; few_last = few.1.1.1.1.1 }
numbers_are ns least most few = absurd (omega (arith, least, most))

counts-back : (ns : List ℕ) (h : Counts) → counts_of ns ≡ Ok h → NumbersBack ns × AreCounts ns × (counts_at ns ≡ h)
unfolding counts_of
counts-back ns h e =
    elim (chosen (nat_lt (length ns) 5 || nat_lt 9 (length ns)) (Err why.BadHeader) (if list_all (λ n. nat_le n greatest_count) ns then Ok (counts_at ns) else Err why.TooBig) (Ok h) e) [
      | inl wrong ↦ absurd (not_err _ _ wrong.1)
      | inr good ↦
          elim (chosen (list_all (λ n. nat_le n greatest_count) ns) (Ok (counts_at ns)) (Err why.TooBig) (Ok h) good.1) [
            | inl few ↦
                let range = or_parts (nat_lt (length ns) 5) (nat_lt 9 (length ns)) good.0 in
                let all = are_counts ns few.0 in
                (numbers_are ns (ltb-false (length ns) 5 range.0) (ltb-false 9 (length ns) range.1) all, all, ok_same (counts_at ns) h few.1)
            | inr wrong ↦ absurd (not_err _ _ wrong.1)
          ]
    ]

-- fields that are counts are their decimals
numbers-back : (fs : List (List ℕ)) (ns : List ℕ) → numbers_in fs ≡ Ok ns → AreCounts ns → fs ≡ map decimal ns
numbers-back [] ns e few = ap (map decimal) (ok_same [] ns e)
numbers-back (f ∷ fs) ns e few =
    bind-then (some_or why.BadHeader (number_of f)) _ ns e
    (λ n n' e1. bind-then (numbers_in fs) _ ns e1
    (λ ms ms' e2.
    let is : n ∷ ms ≡ ns = ok_same (n ∷ ms) ns e2 in
    let few' : AreCounts (n ∷ ms) = subst AreCounts (sym is) few in
    ap (λ (g : List ℕ). g ∷ fs) (number_is_decimal f n (some-back why.BadHeader n (number_of f) n') (omega (arith, few'.0)))
    ∙ ap (λ (gs : List (List ℕ)). decimal n ∷ gs) (numbers-back fs ms ms' few'.1) ∙ ap (map decimal) is))

-- what a header line of a form is
pub record HeaderBack (form : Form) (line : List ℕ) (h : Counts) : Type 0 where
  pub kept : List ℕ
  pub dropped : ℕ
  pub counts : kept ++ replicate dropped 0 ≡ last_of_counts h
  pub line_is : line ≡ form_word form ++ 32 ∷ joined (first_of_counts h ++ kept)
  pub fits : Fits form h
  pub few_first : AreCounts (first_of_counts h)
  pub few_last : AreCounts (last_of_counts h)

form-back : (word : List ℕ) (form : Form) → header_form word ≡ Ok form → word ≡ form_word form
unfolding header_form
form-back word form e =
    elim (chosen (bytes_eq word (codes "aag")) (Ok Ascii) (if bytes_eq word (codes "aig") then Ok Binary else Err why.BadHeader) (Ok form) e) [
      | inl ascii ↦ subst (λ (f : Form). word ≡ form_word f) (form_same Ascii form ascii.1) (same_bytes word (codes "aag") ascii.0)
      | inr other ↦
          elim (chosen (bytes_eq word (codes "aig")) (Ok Binary) (Err why.BadHeader) (Ok form) other.1) [
            | inl good ↦ subst (λ (f : Form). word ≡ form_word f) (form_same Binary form good.1) (same_bytes word (codes "aig") good.0)
            | inr wrong ↦ absurd (not_err _ _ wrong.1)
          ]
    ]
  where
    form_same : (f g : Form) → ◌≡◌ {A = Result Form Why} (Ok f) (Ok g) → f ≡ g
    form_same f g e = ok_same f g e

fitting-back : (form : Form) (h g : Counts) → fitting form h ≡ Ok g → (h ≡ g) × Fits form h
unfolding fitting
fitting-back Ascii h g e =
    elim (chosen (nat_lt h.variables (h.inputs + h.latches + h.gates)) (Err why.CountsDisagree) (Ok h) (Ok g) e) [
      | inl wrong ↦ absurd (not_err _ _ wrong.1)
      | inr good ↦ (ok_same h g good.1, ltb-false h.variables (h.inputs + h.latches + h.gates) good.0)
    ]
fitting-back Binary h g e =
    elim (chosen (h.variables == h.inputs + h.latches + h.gates) (Ok h) (Err why.CountsDisagree) (Ok g) e) [
      | inl good ↦ (ok_same h g good.1, eqb-true h.variables (h.inputs + h.latches + h.gates) good.0)
      | inr wrong ↦ absurd (not_err _ _ wrong.1)
    ]

header-shape : (form : Form) (word : List ℕ) (rest : List (List ℕ)) (ns : List ℕ) → word ≡ form_word form → rest ≡ map decimal ns → NumbersBack ns → AreCounts ns → Fits form (counts_at ns) → HeaderBack form (spaced (word ∷ rest)) (counts_at ns)
header-shape form word rest ns named rest_is b few fits = record {
  kept = b.kept;
  dropped = b.dropped;
  counts = b.counts;
  line_is =
      ap (λ (w : List ℕ). spaced (w ∷ rest)) named ∙ ap (λ (gs : List (List ℕ)). spaced (form_word form ∷ gs)) (rest_is ∙ ap (map decimal) b.all)
      ∙ ap (λ (l : List ℕ). form_word form ++ 32 ∷ l) (spaced-joined (first_of_counts (counts_at ns) ++ b.kept));
  fits = fits;
  few_first = counts_front (first_of_counts (counts_at ns)) b.kept (subst AreCounts b.all few);
  few_last = b.few_last;
}

fields_by : (fs : List (List ℕ)) (f : Form) (h : Counts) → header_fields fs ≡ Ok (f, h) → HeaderBack f (spaced fs) h
unfolding header_fields
fields_by [] f h e = absurd (not_err _ _ e)
fields_by (word ∷ rest) f h e =
    let form = bind-back (header_form word) _ (f, h) e in
    let g = bind-back (counts_told rest) _ (f, h) form.then' in
    let ns = bind-back (numbers_in rest) counts_of g.value g.was in
    let fit = bind-back (fitting form.value g.value) _ (f, h) g.then' in
    let is : ◌≡◌ {A = Form × Counts} (form.value, fit.value) (f, h) = ok_same _ _ fit.then' in
    let fits = fitting-back form.value g.value fit.value fit.was in
    let c = counts-back ns.value g.value ns.then' in
    subst (λ (p : Form × Counts). HeaderBack p.0 (spaced (word ∷ rest)) p.1) is
    (subst (HeaderBack form.value (spaced (word ∷ rest))) (c.2 ∙ fits.0)
    (header-shape form.value word rest ns.value (form-back word form.value form.was) (numbers-back rest ns.value ns.was c.1) c.0 c.1 (subst (Fits form.value) (sym c.2) fits.1)))

pub header-back : (line : List ℕ) (form : Form) (h : Counts) → header_of line ≡ Ok (form, h) → HeaderBack form line h
header-back line form h e = subst (λ (l : List ℕ). HeaderBack form l h) (fields-back line) (fields_by (fields line) form h e)
