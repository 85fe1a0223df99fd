-- The header is read again, however much of its zero tail it keeps.
use Rattle.std.proofs.Common.{◌≡◌, ℕ, zero, suc, ◌+◌, ◌≤◌, true, false, nat_le, nat_lt, List, [], ◌∷◌, ◌++◌, length, map, get_or, replicate, decimal, Ok, refl, sym, ap, ◌∙◌, append_assoc, length-append, arith}
use Rattle.std.specs.List.{list_all}
use Rattle.std.proofs.lemmas.Bool.{eq-eqb, and_from, le-leb}
use Rattle.std.proofs.lemmas.Bool.Decides.{nat_tests}
use Rattle.base.specs.Lines.{HasNone, IsLine}
use Rattle.base.proofs.DecimalLemmas.{number_of-decimal}
use Rattle.aiger.specs.Limits.{greatest_count}
use Rattle.aiger.specs.Net.{variables}
use Rattle.aiger.specs.Circuit.{Circuit, IsCircuit, HasFew, net}
use Rattle.aigertext.specs.declared.reading.counts.Counts.{Counts}
use Rattle.aigertext.specs.declared.forms.Form.{Form}
use Rattle.aigertext.specs.declared.forms.Form.TheVariants.{Ascii, Binary}
use Rattle.aigertext.specs.Ascii.{numbers_line, form_word}
use Rattle.aigertext.specs.Counts as counts
use Rattle.aigertext.specs.Counts.{Fits, first_of_counts, last_of_counts, counts_by, counts_in}
use Rattle.aigertext.specs.Spelling.{IsHeader}
use Rattle.aigertext.specs.Reading.{fields, line_at, numbers_in, counts_of, fitting, header_form, header_fields, header_of}
use Rattle.aigertext.proofs.HeaderBackLemmas.{AreCounts, counts_front}
use Rattle.aigertext.proofs.FieldLemmas.{joined, AreSmall, fields-joined, fields-more, joined_is_line, none_of_both, numbers_line-joined, line_read}

-- what a list has at a place, zeros behind it or not
zeros_at : (n i : ℕ) → get_or {A = ℕ} (replicate n 0) i 0 ≡ 0
zeros_at zero i = refl
zeros_at (suc n) zero = refl
zeros_at (suc n) (suc i) = zeros_at n i

kept_at : (kept : List ℕ) (n i : ℕ) → get_or (kept ++ replicate n 0) i 0 ≡ get_or kept i 0
kept_at [] n i = zeros_at n i
kept_at (k ∷ kept) n zero = refl
kept_at (k ∷ kept) n (suc i) = kept_at kept n i

-- numbers are read
numbers-read : (ns : List ℕ) → AreSmall ns → numbers_in (map decimal ns) ≡ Ok ns
numbers-read [] small = refl
numbers-read (n ∷ ns) small = rw (number_of-decimal n small.0, numbers-read ns small.1) refl

-- numbers that are at most 2^30
all_counts : (ns : List ℕ) → AreCounts ns → list_all (λ n. nat_le n greatest_count) ns ≡ true
all_counts [] few = refl
all_counts (n ∷ ns) few = and_from (nat_le n greatest_count) (list_all (λ n. nat_le n greatest_count) ns) (le-leb n greatest_count few.0) (all_counts ns few.1)

fitting-read : (form : Form) (h : Counts) → Fits form h → fitting form h ≡ Ok h
unfolding fitting
fitting-read Ascii h fits =
    let enough : nat_lt h.variables (h.inputs + h.latches + h.gates) ≡ false = grind (arith, nat_tests) in
    rw enough refl
fitting-read Binary h fits = rw (eq-eqb h.variables (h.inputs + h.latches + h.gates) fits) refl

form-read : (form : Form) → header_form (form_word form) ≡ Ok form
unfolding header_form
form-read Ascii = refl
form-read Binary = refl

-- a form's word has no space and no byte 10
word_has_none : (form : Form) → HasNone 32 (form_word form) × IsLine (form_word form)
word_has_none Ascii = (refl, refl)
word_has_none Binary = (refl, refl)

-- the numbers of sections that are within the limits
pub counts_small : (greatest inputs latches gates : ℕ) (c : Circuit) → greatest ≤ greatest_count → inputs + latches + gates ≤ greatest_count → HasFew c → counts.AreSmall (counts_by greatest inputs latches gates c)
counts_small greatest inputs latches gates c small sum few = record {
  variables = small;
  inputs = omega (arith, sum);
  latches = omega (arith, sum);
  outputs = few.outputs;
  gates = omega (arith, sum);
  bads = few.bads;
  constraints = few.constraints;
  justice = few.justice;
  fair = few.fair;
}

pub circuit_counts : (c : Circuit) → IsCircuit c → counts.AreSmall (counts_in c)
circuit_counts c valid = counts_small (variables (net c)) c.inputs (length c.latches) (length c.gates) c valid.small valid.small valid.few

counts_list : (h : Counts) → counts.AreSmall h → AreCounts (first_of_counts h) × AreCounts (last_of_counts h)
counts_list h small = (
  (small.variables, (small.inputs, (small.latches, (small.outputs, (small.gates, tt))))),
  (small.bads, (small.constraints, (small.justice, (small.fair, tt)))),
)

counts_both : (xs ys : List ℕ) → AreCounts xs → AreCounts ys → AreCounts (xs ++ ys)
counts_both [] ys few more = more
counts_both (x ∷ xs) ys few more = (few.0, counts_both xs ys few.1 more)

below_2^64 : (ns : List ℕ) → AreCounts ns → AreSmall ns
below_2^64 [] few = tt
below_2^64 (n ∷ ns) few = (omega (arith, few.0), below_2^64 ns few.1)

put_together : (word numbers rest : List ℕ) → (word ++ 32 ∷ (numbers ++ 10 ∷ [])) ++ rest ≡ (word ++ 32 ∷ numbers) ++ 10 ∷ rest
put_together word numbers rest = simp append_assoc

-- the fields of a header
module _ (form : Form) (h : Counts) (kept : List ℕ) (dropped : ℕ) (told : kept ++ replicate dropped 0 ≡ last_of_counts h) (small : counts.AreSmall h) (fits : Fits form h) where
  kept_few : length kept ≤ 4
  kept_few = omega (arith, length-append kept (replicate dropped 0), ap (length {A = ℕ}) told)

  all_few : AreCounts (first_of_counts h ++ kept)
  all_few = counts_both (first_of_counts h) kept (counts_list h small).0 (counts_front kept (replicate dropped 0) (rw told (counts_list h small).1))

  all_small : AreSmall (first_of_counts h ++ kept)
  all_small = below_2^64 (first_of_counts h ++ kept) all_few

  kept_is : (i : ℕ) → get_or kept i 0 ≡ get_or (last_of_counts h) i 0
  kept_is i = sym (kept_at kept dropped i) ∙ ap (λ (l : List ℕ). get_or l i 0) told

  counts-read : counts_of (first_of_counts h ++ kept) ≡ Ok h
  unfolding counts_of
  counts-read =
      let kept' : length kept ≤ 4 = kept_few in
      let many : nat_lt (length (first_of_counts h ++ kept)) 5 ≡ false = grind (arith, nat_tests) in
      let few : nat_lt 9 (length (first_of_counts h ++ kept)) ≡ false = grind (arith, nat_tests) in
      rw (many, few, all_counts (first_of_counts h ++ kept) all_few, kept_is 0, kept_is 1, kept_is 2, kept_is 3) refl

  fields-read : header_fields (form_word form ∷ map decimal (first_of_counts h ++ kept)) ≡ Ok (form, h)
  unfolding header_fields
  fields-read =
      let numbers = numbers-read (first_of_counts h ++ kept) all_small in
      rw (form-read form, numbers, counts-read, fitting-read form h fits) refl

  line-says : header_of (form_word form ++ 32 ∷ joined (first_of_counts h ++ kept)) ≡ Ok (form, h)
  line-says =
      let cut : fields (form_word form ++ 32 ∷ joined (first_of_counts h ++ kept)) ≡ form_word form ∷ map decimal (first_of_counts h ++ kept) =
      fields-more (form_word form) (joined (first_of_counts h ++ kept)) (word_has_none form).0
      ∙ ap (λ (l : List (List ℕ)). form_word form ∷ l) (fields-joined h.variables (h.inputs ∷ h.latches ∷ h.outputs ∷ h.gates ∷ kept) all_small) in
      ap header_fields cut ∙ fields-read

  is_line : IsLine (form_word form ++ 32 ∷ joined (first_of_counts h ++ kept))
  is_line = none_of_both 10 (form_word form) (32 ∷ joined (first_of_counts h ++ kept)) (word_has_none form).1 (joined_is_line (first_of_counts h ++ kept) all_small)

  at-read : (rest : List ℕ) → line_at header_of ((form_word form ++ 32 ∷ numbers_line (first_of_counts h ++ kept)) ++ rest) ≡ Ok ((form, h), rest)
  at-read rest =
      let text : (form_word form ++ 32 ∷ numbers_line (first_of_counts h ++ kept)) ++ rest ≡ (form_word form ++ 32 ∷ joined (first_of_counts h ++ kept)) ++ 10 ∷ rest =
      ap (λ (l : List ℕ). (form_word form ++ 32 ∷ l) ++ rest) (numbers_line-joined (first_of_counts h ++ kept)) ∙ put_together (form_word form) (joined (first_of_counts h ++ kept)) rest in
      ap (line_at header_of) text
      ∙ line_read header_of (form_word form ++ 32 ∷ joined (first_of_counts h ++ kept)) rest (form, h) is_line line-says

pub header-read : (form : Form) (h : Counts) (bytes rest : List ℕ) → IsHeader form h bytes → counts.AreSmall h → Fits form h → line_at header_of (bytes ++ rest) ≡ Ok ((form, h), rest)
header-read form h bytes rest is small fits = ap (λ (l : List ℕ). line_at header_of (l ++ rest)) is.spelled ∙ at-read form h is.kept is.dropped is.counts small fits rest
