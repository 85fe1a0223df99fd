-- The lines of latches and properties are read again.
use Rattle.std.proofs.Common.{◌≡◌, ◌≢◌, ℕ, suc, ◌+◌, ◌-◌, ◌*◌, ◌^◌, ◌<◌, ◌≤◌, List, [], ◌∷◌, ◌++◌, length, map, drop, decimal, Some, Ok, refl, sym, ap, ◌∙◌, append_assoc, length-append, inl, inr, ◌⊎◌, arith}
use Rattle.std.specs.List.{All, concat, sum, sum_by}
use Rattle.std.proofs.lemmas.Bool.{ne_eqb, eq-eqb, le-leb}
use Rattle.std.proofs.lemmas.List.Elements.{All-head, All-tail}
use Rattle.std.proofs.lemmas.List.Sums.{sum-map, sum_by-cons}
use Rattle.std.proofs.Math.Seq.{take-append_seam, drop-append_seam}
use Rattle.base.specs.Decimals.{number_of}
use Rattle.base.proofs.DecimalLemmas.{number_of-decimal}
use Rattle.aiger.specs.declared.circuit.Latch.{Latch}
use Rattle.aiger.specs.declared.circuit.Reset.{Reset}
use Rattle.aiger.specs.declared.circuit.Reset.TheVariants.{Zero, One, Free}
use Rattle.aiger.specs.Limits.{greatest_count}
use Rattle.aigertext.specs.declared.fault.Why.{Why}
use Rattle.aigertext.specs.declared.fault.Why.TheVariants as why
use Rattle.aigertext.specs.Ascii.{numbers_line, literal_lines, size_lines, list_lines}
use Rattle.aigertext.specs.Spelling.{IsReset, AreNextLines}
use Rattle.aigertext.specs.Reading.{within, reset_of, literal_on, size_of, next_of, next_fields, literals_at, sizes_at, justice_at, nexts_at, line_at, sized_lists}
use Rattle.aigertext.proofs.FieldLemmas.{joined, fields-joined, numbers_read, lines_step}

-- ---- literals

pub within-read : (w : Why) (greatest n : ℕ) → n ≤ greatest → greatest < 2 ^ 64 → within w greatest (number_of (decimal n)) ≡ Ok n
within-read w greatest n le small = rw (number_of-decimal n (omega arith), le-leb n greatest le) refl

literal-read : (greatest l : ℕ) → l ≤ greatest → greatest < 2 ^ 64 → literal_on greatest (decimal l) ≡ Ok l
unfolding literal_on
literal-read greatest l le small = within-read why.BadNumber greatest l le small

pub literals-read : (greatest : ℕ) (ls rest : List ℕ) → All (λ l. l ≤ greatest) ls → greatest < 2 ^ 64 → literals_at greatest (length ls) (literal_lines ls ++ rest) ≡ Ok (ls, rest)
literals-read greatest [] rest h small = refl
literals-read greatest (l ∷ ls) rest h small =
    let le = All-head (λ (l : ℕ). l ≤ greatest) l ls h in
    let others = literals-read greatest ls rest (All-tail (λ (l : ℕ). l ≤ greatest) l ls h) small in
    let one = numbers_read (literal_on greatest) (l ∷ []) (literal_lines ls ++ rest) l (omega arith, tt) (literal-read greatest l le small) in
    ap (literals_at greatest (suc (length ls))) (append_assoc (numbers_line (l ∷ [])) (literal_lines ls) rest)
    ∙ lines_step literal_on (λ g l. g) greatest (length ls) (numbers_line (l ∷ []) ++ (literal_lines ls ++ rest)) (literal_lines ls ++ rest) rest l ls one others

-- ---- justice properties

size-read : (before n : ℕ) → before + n ≤ greatest_count → size_of before (decimal n) ≡ Ok n
unfolding size_of
size-read before n le = rw (number_of-decimal n (omega arith), le-leb n (greatest_count - before) (omega arith)) refl

sizes-read : (before : ℕ) (lists : List (List ℕ)) (rest : List ℕ) → before + sum_by length lists ≤ greatest_count → sizes_at before (length lists) (size_lines lists ++ rest) ≡ Ok (map length lists, rest)
sizes-read before [] rest h = refl
sizes-read before (ls ∷ lists) rest h =
    let sum : sum_by length (ls ∷ lists) ≡ length ls + sum_by length lists = sum_by-cons length ls lists in
    let others = sizes-read (before + length ls) lists rest (omega (arith, h)) in
    let one = numbers_read (size_of before) (length ls ∷ []) (size_lines lists ++ rest) (length ls) (omega (arith, h), tt) (size-read before (length ls) (omega (arith, h))) in
    ap (sizes_at before (suc (length lists))) (append_assoc (numbers_line (length ls ∷ [])) (size_lines lists) rest)
    ∙ lines_step size_of (λ b size. b + size) before (length lists) (numbers_line (length ls ∷ []) ++ (size_lines lists ++ rest)) (size_lines lists ++ rest) rest (length ls) (map length lists) one others

literal_lines-append : (xs ys : List ℕ) → literal_lines (xs ++ ys) ≡ literal_lines xs ++ literal_lines ys
literal_lines-append [] ys = refl
literal_lines-append (x ∷ xs) ys = ap (λ (l : List ℕ). numbers_line (x ∷ []) ++ l) (literal_lines-append xs ys) ∙ sym (append_assoc (numbers_line (x ∷ [])) (literal_lines xs) (literal_lines ys))

-- the literals of all lists stand on lines one after the other
pub list_lines-concat : (lists : List (List ℕ)) → list_lines lists ≡ literal_lines (concat lists)
list_lines-concat [] = refl
list_lines-concat (ls ∷ lists) = ap (λ (l : List ℕ). literal_lines ls ++ l) (list_lines-concat lists) ∙ sym (literal_lines-append ls (concat lists))

length-concat_by : (lists : List (List ℕ)) → length (concat lists) ≡ sum_by length lists
length-concat_by [] = refl
length-concat_by (ls ∷ lists) =
    length-append ls (concat lists) ∙ ap (λ (n : ℕ). length ls + n) (length-concat_by lists) ∙ sym (sum_by-cons length ls lists)

length-concat : (lists : List (List ℕ)) → sum (map length lists) ≡ length (concat lists)
length-concat lists = sum-map length lists ∙ sym (length-concat_by lists)

-- they are cut into the lists again
lists_of-concat : (lists : List (List ℕ)) → sized_lists (map length lists) (concat lists) ≡ lists
lists_of-concat [] = refl
lists_of-concat (ls ∷ lists) = rw (take-append_seam ls (concat lists), drop-append_seam ls (concat lists), lists_of-concat lists) refl

pub justice-read : (greatest : ℕ) (lists : List (List ℕ)) (rest : List ℕ) → All (λ l. l ≤ greatest) (concat lists) → greatest < 2 ^ 64 → sum_by length lists ≤ greatest_count
    → justice_at greatest (length lists) (size_lines lists ++ (literal_lines (concat lists) ++ rest)) ≡ Ok (lists, rest)
justice-read greatest lists rest below small few =
    let sizes = sizes-read 0 lists (literal_lines (concat lists) ++ rest) (omega (arith, few)) in
    let listed = literals-read greatest (concat lists) rest below small in
    rw (sizes, length-concat lists, listed, lists_of-concat lists) refl

-- rows of these sizes, behind those that were there: what is made of them, and the literals of the others
pub record RowsMade (sizes listed : List ℕ) (before : List (List ℕ)) (index : ℕ) (rows : List (List ℕ)) (rest : List ℕ) : Type 0 where
  pub all : rows ++ sized_lists (drop index sizes) rest ≡ before ++ sized_lists sizes listed
  pub sums : length rest ≡ sum (drop index sizes)

-- ---- latches

-- the numbers that say how a latch begins: none, or one that is read as it
abbrev pub IsTold : ℕ → Reset → List ℕ → Type 0
IsTold own r numbers = ((numbers ≡ []) × (r ≡ Zero)) ⊎ ((n : ℕ) × ((numbers ≡ n ∷ []) × (n < 2 ^ 64) × (reset_of own (Some n) ≡ Ok r)))

pub reset-told : (own : ℕ) (r : Reset) (numbers : List ℕ) → 2 ≤ own → own < 2 ^ 64 → IsReset own r numbers → IsTold own r numbers
reset-told own Zero numbers above small (inl none) = inl (none, refl)
reset-told own Zero numbers above small (inr zero') = inr (0, (zero', omega arith, refl))
reset-told own One numbers above small one = inr (1, (one, omega arith, refl))
reset-told own Free numbers above small free =
    let some : own ≢ 0 = omega arith in
    let more : own ≢ 1 = omega arith in
    inr (own, (free, small, rw (ne_eqb own 0 some, ne_eqb own 1 more, eq-eqb own own refl) refl))

-- a latch with this next literal that begins so
module _ (greatest own next : ℕ) (le : next ≤ greatest) (small : greatest < 2 ^ 64) (above : 2 ≤ own) (own_small : own < 2 ^ 64) where
  only_next : next_of greatest own (joined (next ∷ [])) ≡ Ok (record { next = next; reset = Zero })
  unfolding next_fields
  only_next =
      let f = fields-joined next [] (omega arith, tt) in
      rw (f, within-read why.BadLatch greatest next le small) refl

  with_reset : (n : ℕ) (r : Reset) → n < 2 ^ 64 → reset_of own (Some n) ≡ Ok r → next_of greatest own (joined (next ∷ n ∷ [])) ≡ Ok (record { next = next; reset = r })
  unfolding next_fields
  with_reset n r n_small e =
      let f = fields-joined next (n ∷ []) (omega arith, (n_small, tt)) in
      rw (f, within-read why.BadLatch greatest next le small, number_of-decimal n n_small, e) refl

  reset-read : (r : Reset) (numbers rest : List ℕ) → IsReset own r numbers → line_at (next_of greatest own) (numbers_line (next ∷ numbers) ++ rest) ≡ Ok (record { next = next; reset = r }, rest)
  reset-read r numbers rest is = by (reset-told own r numbers above own_small is)
    where
      by : IsTold own r numbers → line_at (next_of greatest own) (numbers_line (next ∷ numbers) ++ rest) ≡ Ok (record { next = next; reset = r }, rest)
      by (inl x) = rw (x.0, x.1) (numbers_read (next_of greatest own) (next ∷ []) rest (record { next = next; reset = Zero }) (omega arith, tt) only_next)
      by (inr x) = rw (x.1.0) (numbers_read (next_of greatest own) (next ∷ x.0 ∷ []) rest (record { next = next; reset = r }) (omega arith, (x.1.1, tt)) (with_reset x.0 r x.1.1 x.1.2))

pub nexts-read : (greatest own : ℕ) (ls : List Latch) (bytes rest : List ℕ) → AreNextLines own ls bytes → All (λ l. l.next ≤ greatest) ls → greatest < 2 ^ 64 → 2 ≤ own → own + 2 * length ls < 2 ^ 64
    → nexts_at greatest own (length ls) (bytes ++ rest) ≡ Ok (ls, rest)
nexts-read greatest own [] bytes rest are h small above few = rw are refl
nexts-read greatest own (l ∷ ls) bytes rest are h small above few =
    let line = are.0 in
    let more = are.1.0 in
    let is = are.1.1.1 in
    let le = All-head (λ (l : Latch). l.next ≤ greatest) l ls h in
    let others = nexts-read greatest (own + 2) ls more rest are.1.1.2 (All-tail (λ (l : Latch). l.next ≤ greatest) l ls h) small (omega arith) (omega arith) in
    let one : line_at (next_of greatest own) (line ++ (more ++ rest)) ≡ Ok (l, more ++ rest) =
    ap (λ (t : List ℕ). line_at (next_of greatest own) (t ++ (more ++ rest))) is.spelled
    ∙ reset-read greatest own l.next le small above (omega arith) l.reset is.reset (more ++ rest) is.is_reset in
    let text : bytes ++ rest ≡ line ++ (more ++ rest) = ap (λ (t : List ℕ). t ++ rest) are.1.1.0 ∙ append_assoc line more rest in
    ap (nexts_at greatest own (suc (length ls))) text
    ∙ lines_step (next_of greatest) (λ o l. o + 2) own (length ls) (line ++ (more ++ rest)) (more ++ rest) rest l ls one others
