-- The names that are written are those that the circuit takes again.
use Rattle.std.proofs.Common.{◌≡◌, ◌≢◌, ℕ, zero, suc, ◌+◌, ◌<◌, ◌≤◌, true, false, List, [], ◌∷◌, ◌++◌, length, map, Option, Some, None, nat_le, refl, ap, sym, ◌∙◌, subst, ◌⊎◌, inl, inr, arith, append_assoc, append-nil, add-one, rules}
use Rattle.std.specs.Prelude.{flat_map, All}
use Rattle.std.specs.List.{AllByRecursion, list_all, range_with_len}
use Rattle.std.specs.List.Sorted.{IsStrictlySortedBy}
use Rattle.std.specs.Map.{lookup, keys_of}
use Rattle.std.specs.Ordering.{is_eq}
use Rattle.std.specs.BTreeMap.{is_at, insert_entry}
use Rattle.std.proofs.lemmas.Bool.{and_from, le-leb, lt-ltb, cases_lt}
use Rattle.std.proofs.lemmas.Bool.Decides.{nat_tests}
use Rattle.std.proofs.lemmas.List.Elements.{All-head, All-tail}
use Rattle.std.proofs.lemmas.Map.Entries.{lookup_head, lookup_tail}
use Rattle.aiger.specs.declared.circuit.Section.{Section}
use Rattle.aiger.specs.declared.circuit.Section.TheVariants as section
use Rattle.aiger.specs.Circuit.{Circuit, IsNamed, section_count, name_refusal, with_name}
use Rattle.aiger.specs.Names.{NamePlace, NameMap, rank, letter, all_sections, place_cmp, name_in, IsName, is_name, is_printable}
use Rattle.aigertext.specs.Ascii.{name_line, name_lines, names_of, all_names}
use Rattle.aigertext.specs.Spelling.{Given, given_line, GiveNames}
use Rattle.aigertext.proofs.PlaceLemmas.{IsAhead, IsBehind, AreBehind, at_itself, apart, insert_last, unnamed_last, unnamed_ahead, behind_more, ahead_of_rest, ahead_chain}

-- the section of a rank
abbrev pub section_at : ℕ → Section
section_at zero = section.Input
section_at (suc zero) = section.Latch
section_at (suc (suc zero)) = section.Output
section_at (suc (suc (suc zero))) = section.Bad
section_at (suc (suc (suc (suc zero)))) = section.Constraint
section_at (suc (suc (suc (suc (suc zero))))) = section.Justice
section_at (suc (suc (suc (suc (suc (suc n)))))) = section.Fair

section_at-rank : (s : Section) → section_at (rank s) ≡ s
section_at-rank section.Input = refl
section_at-rank section.Latch = refl
section_at-rank section.Output = refl
section_at-rank section.Bad = refl
section_at-rank section.Constraint = refl
section_at-rank section.Justice = refl
section_at-rank section.Fair = refl

-- the name of an entry, as a line gives it
abbrev pub given_of : NamePlace × List ℕ → Given
given_of e = record { section = section_at e.0.0; position = e.0.1; name = e.1 }

-- ---- each name is taken

printable_test : (bytes : List ℕ) → All (λ b. (32 ≤ b) × (b ≤ 126)) bytes → list_all is_printable bytes ≡ true
printable_test [] h = refl
printable_test (b ∷ bs) h =
    let range = All-head (λ (b : ℕ). (32 ≤ b) × (b ≤ 126)) b bs h in
    and_from _ _ (and_from _ _ (le-leb 32 b range.0) (le-leb b 126 range.1)) (printable_test bs (All-tail (λ (b : ℕ). (32 ≤ b) × (b ≤ 126)) b bs h))

name_test : (name : List ℕ) → IsName name → is_name name ≡ true
name_test name n = and_from _ _ (lt-ltb 0 (length name) n.some) (and_from _ _ (le-leb (length name) 300 n.short) (printable_test name n.printable))

pub counts_kept : (s : Section) (c : Circuit) (names : NameMap) → section_count s (record c { names = names }) ≡ section_count s c
counts_kept section.Input c names = refl
counts_kept section.Latch c names = refl
counts_kept section.Output c names = refl
counts_kept section.Bad c names = refl
counts_kept section.Constraint c names = refl
counts_kept section.Justice c names = refl
counts_kept section.Fair c names = refl

section_is : (c : Circuit) (e : NamePlace × List ℕ) → (n : IsNamed c e) → section_at e.0.0 ≡ n.section
section_is c e n = ap section_at n.is_section ∙ section_at-rank n.section

rank_is : (c : Circuit) (e : NamePlace × List ℕ) → IsNamed c e → rank (section_at e.0.0) ≡ e.0.0
rank_is c e n = ap rank (section_is c e n) ∙ sym n.is_section

taken_at : (c : Circuit) (front : NameMap) (s : Section) (p : NamePlace) (name : List ℕ) → rank s ≡ p.0 → p.1 < section_count s c → IsName name → IsBehind p front
    → name_refusal (record c { names = front }) s p.1 name ≡ None
taken_at c front s p name is below good behind =
    let free : lookup (is_at (place_cmp (rank s, p.1))) front ≡ None = ap (λ (r : ℕ). lookup (is_at (place_cmp (r, p.1))) front) is ∙ unnamed_last p front behind in
    let there : nat_le (section_count s c) p.1 ≡ false = grind (arith, nat_tests) in
    rw (counts_kept s c front, there, free, name_test name good) refl

name_is_taken : (c : Circuit) (front : NameMap) (e : NamePlace × List ℕ) → IsNamed c e → IsBehind e.0 front
    → name_refusal (record c { names = front }) (section_at e.0.0) e.0.1 e.1 ≡ None
name_is_taken c front e n behind =
    taken_at c front (section_at e.0.0) e.0 e.1 (rank_is c e n) (subst (λ (s : Section). e.0.1 < section_count s c) (sym (section_is c e n)) n.position) n.name behind

-- a name behind all others is the last one
with_last : (c : Circuit) (front : NameMap) (e : NamePlace × List ℕ) → IsNamed c e → IsBehind e.0 front
    → with_name (record c { names = front }) (section_at e.0.0) e.0.1 e.1 ≡ record c { names = front ++ e ∷ [] }
with_last c front e n behind =
    ap (λ (names : NameMap). record c { names = names })
    (ap (λ (r : ℕ). insert_entry place_cmp front (r, e.0.1) e.1) (rank_is c e n) ∙ insert_last e.0 e.1 front behind)

pub give_names : (c : Circuit) (front rest : NameMap) → AllByRecursion (IsNamed c) rest → AreBehind front rest → IsStrictlySortedBy place_cmp (keys_of rest)
    → GiveNames (record c { names = front }) (map given_of rest) (record c { names = front ++ rest })
unfolding IsStrictlySortedBy
give_names c front [] named behind sorted = ap (λ (names : NameMap). record c { names = names }) (sym (append-nil front))
give_names c front (e ∷ rest) named behind sorted =
    let others : GiveNames (record c { names = front ++ e ∷ [] }) (map given_of rest) (record c { names = (front ++ e ∷ []) ++ rest }) =
    give_names c (front ++ e ∷ []) rest named.1 (behind_more front e rest behind.1 sorted.0) sorted.1 in
    let whole : (front ++ e ∷ []) ++ rest ≡ front ++ e ∷ rest = append_assoc front (e ∷ []) rest in (
      name_is_taken c front e named.0 behind.0,
      subst (λ (d : Circuit). GiveNames d (map given_of rest) (record c { names = front ++ e ∷ rest })) (sym (with_last c front e named.0 behind.0))
          (subst (λ (names : NameMap). GiveNames (record c { names = front ++ e ∷ [] }) (map given_of rest) (record c { names = names })) whole others),
    )

-- ---- the lines of names are those of the entries in order

-- the lines of a section's names from a position on
abbrev lines_in : Section → NameMap → ℕ → ℕ → List ℕ
lines_in s es p zero = []
lines_in s es p (suc n) = name_line (letter s) p (name_in es s p) ++ lines_in s es (suc p) n

lines_in-is : (s : Section) (es : NameMap) (p n : ℕ) → name_lines (letter s) p (map (name_in es s) (range_with_len p n)) ≡ lines_in s es p n
lines_in-is s es p zero = refl
lines_in-is s es p (suc n) =
    ap (λ (k : ℕ). name_line (letter s) p (name_in es s p) ++ name_lines (letter s) (suc p) (map (name_in es s) (range_with_len k n))) (add-one p)
    ∙ ap (λ (l : List ℕ). name_line (letter s) p (name_in es s p) ++ l) (lines_in-is s es (suc p) n)

-- an entry that is at none of the positions
lines-skip : (s : Section) (e : NamePlace × List ℕ) (es : NameMap) (p n : ℕ) → ((k : ℕ) → p ≤ k → is_eq (place_cmp (rank s, k) e.0) ≡ false) → lines_in s (e ∷ es) p n ≡ lines_in s es p n
lines-skip s e es p zero h = refl
lines-skip s e es p (suc n) h =
    ap (λ (name : Option (List ℕ)). name_line (letter s) p name ++ lines_in s (e ∷ es) (suc p) n) (lookup_tail (is_at (place_cmp (rank s, p))) e es (h p (omega arith)))
    ∙ ap (λ (l : List ℕ). name_line (letter s) p (name_in es s p) ++ l) (lines-skip s e es (suc p) n (λ k le. h k (omega arith)))

-- positions before all entries
lines-ahead : (s : Section) (es : NameMap) (p n : ℕ) → ((k : ℕ) → IsAhead (rank s, k) es) → lines_in s es p n ≡ []
lines-ahead s es p zero h = refl
lines-ahead s es p (suc n) h = rw (unnamed_ahead (rank s, p) es (h p)) (lines-ahead s es (suc p) n h)

-- the section of the first entry
lines-own : (s : Section) (q : ℕ) (name : List ℕ) (es : NameMap) (p n : ℕ) → p ≤ q → q < p + n → IsAhead (rank s, q) es
    → lines_in s (((rank s, q), name) ∷ es) p n ≡ given_line (record { section = s; position = q; name = name }) ++ lines_in s es p n
lines-own s q name es p zero low high h = absurd (omega arith)
lines-own s q name es p (suc n) low high h =
    elim (cases_lt p q) [
      | inl before ↦
          let other : is_eq (place_cmp (rank s, p) (rank s, q)) ≡ false = apart (rank s, p) (rank s, q) (inr (omega arith)) in
          let none : name_in es s p ≡ None = unnamed_ahead (rank s, p) es (ahead_chain (rank s, p) (rank s, q) es (omega arith) (λ _. low) h) in
          let none_here : name_in (((rank s, q), name) ∷ es) s p ≡ None = lookup_tail (is_at (place_cmp (rank s, p))) ((rank s, q), name) es other ∙ none in
          ap (λ (found : Option (List ℕ)). name_line (letter s) p found ++ lines_in s (((rank s, q), name) ∷ es) (suc p) n) none_here
          ∙ lines-own s q name es (suc p) n (omega arith) (omega arith) h
          ∙ ap (λ (l : List ℕ). given_line (record { section = s; position = q; name = name }) ++ l)
          (sym (ap (λ (found : Option (List ℕ)). name_line (letter s) p found ++ lines_in s es (suc p) n) none))
      | inr from ↦
          let is : p ≡ q = omega arith in
          let none : name_in es s q ≡ None = unnamed_ahead (rank s, q) es h in
          let some : name_in (((rank s, q), name) ∷ es) s q ≡ Some name = lookup_head (is_at (place_cmp (rank s, q))) ((rank s, q), name) es (at_itself (rank s, q)) in
          let others = lines-skip s ((rank s, q), name) es (suc q) n (λ k le. apart (rank s, k) (rank s, q) (inr (omega arith))) in
          subst (λ (k : ℕ). lines_in s (((rank s, q), name) ∷ es) k (suc n) ≡ given_line (record { section = s; position = q; name = name }) ++ lines_in s es k (suc n)) (sym is)
          (ap (λ (found : Option (List ℕ)). name_line (letter s) q found ++ lines_in s (((rank s, q), name) ∷ es) (suc q) n) some
          ∙ ap (λ (l : List ℕ). given_line (record { section = s; position = q; name = name }) ++ l)
          (others ∙ sym (ap (λ (found : Option (List ℕ)). name_line (letter s) q found ++ lines_in s es (suc q) n) none)))
    ]

-- the lines of some sections
abbrev lines_of : List Section → Circuit → NameMap → List ℕ
lines_of [] c es = []
lines_of (s ∷ ss) c es = lines_in s es 0 (section_count s c) ++ lines_of ss c es

-- a section of this rank is among some
abbrev HasRank : ℕ → List Section → Type 0
HasRank r [] = ⊥
HasRank r (s ∷ ss) = (rank s ≡ r) ⊎ HasRank r ss

-- sections in order
abbrev AreRising : List Section → Type 0
AreRising [] = Unit {0}
AreRising (s ∷ ss) = AllByRecursion (λ t. rank s < rank t) ss × AreRising ss

rank_above : (n r : ℕ) (ss : List Section) → AllByRecursion (λ t. n < rank t) ss → HasRank r ss → n < r
rank_above n r [] h has = absurd has
rank_above n r (s ∷ ss) h (inl is) = omega (arith, h.0, is)
rank_above n r (s ∷ ss) h (inr more) = rank_above n r ss h.1 more

lines_of-skip : (ss : List Section) (c : Circuit) (e : NamePlace × List ℕ) (es : NameMap) → AllByRecursion (λ t. e.0.0 < rank t) ss → lines_of ss c (e ∷ es) ≡ lines_of ss c es
lines_of-skip [] c e es h = refl
lines_of-skip (s ∷ ss) c e es h =
    let other : rank s ≢ e.0.0 = omega (arith, h.0) in
    ap (λ (l : List ℕ). l ++ lines_of ss c (e ∷ es)) (lines-skip s e es 0 (section_count s c) (λ k le. apart (rank s, k) e.0 (inl other)))
    ∙ ap (λ (l : List ℕ). lines_in s es 0 (section_count s c) ++ l) (lines_of-skip ss c e es h.1)

-- the first entry's line is the first
lines_of-step : (ss : List Section) (c : Circuit) (r q : ℕ) (name : List ℕ) (es : NameMap) → AreRising ss → HasRank r ss
    → ((s : Section) → rank s ≡ r → q < section_count s c) → IsAhead (r, q) es
    → lines_of ss c (((r, q), name) ∷ es) ≡ given_line (record { section = section_at r; position = q; name = name }) ++ lines_of ss c es
lines_of-step [] c r q name es rising has there ahead = absurd has
lines_of-step (s ∷ ss) c r q name es rising (inl is) there ahead =
    let own : lines_in s (((r, q), name) ∷ es) 0 (section_count s c) ≡ given_line (record { section = s; position = q; name = name }) ++ lines_in s es 0 (section_count s c) =
    subst (λ (n : ℕ). lines_in s (((n, q), name) ∷ es) 0 (section_count s c) ≡ given_line (record { section = s; position = q; name = name }) ++ lines_in s es 0 (section_count s c)) is
    (lines-own s q name es 0 (section_count s c) (omega arith) (omega (arith, there s is)) (subst (λ (n : ℕ). IsAhead (n, q) es) (sym is) ahead)) in
    let which : section_at r ≡ s = ap section_at (sym is) ∙ section_at-rank s in
    let above : AllByRecursion (λ t. r < rank t) ss = subst (λ (n : ℕ). AllByRecursion (λ t. n < rank t) ss) is rising.0 in
    rw which
    (ap (λ (l : List ℕ). l ++ lines_of ss c (((r, q), name) ∷ es)) own
    ∙ ap (λ (l : List ℕ). (given_line (record { section = s; position = q; name = name }) ++ lines_in s es 0 (section_count s c)) ++ l) (lines_of-skip ss c ((r, q), name) es above)
    ∙ append_assoc (given_line (record { section = s; position = q; name = name })) (lines_in s es 0 (section_count s c)) (lines_of ss c es))
lines_of-step (s ∷ ss) c r q name es rising (inr more) there ahead =
    let below : rank s < r = rank_above (rank s) r ss rising.0 more in
    let none : (k : ℕ) → IsAhead (rank s, k) es = λ k. ahead_chain (rank s, k) (r, q) es (omega arith) (λ is. absurd (omega (arith, is))) ahead in
    let here : (k : ℕ) → IsAhead (rank s, k) (((r, q), name) ∷ es) = λ k. (inl below, none k) in
    rw (lines-ahead s (((r, q), name) ∷ es) 0 (section_count s c) here, lines-ahead s es 0 (section_count s c) none) (lines_of-step ss c r q name es rising.1 more there ahead)

sections_rise : AreRising all_sections
sections_rise = search rules

has_rank : (s : Section) → HasRank (rank s) all_sections
has_rank section.Input = inl refl
has_rank section.Latch = inr (inl refl)
has_rank section.Output = inr (inr (inl refl))
has_rank section.Bad = inr (inr (inr (inl refl)))
has_rank section.Constraint = inr (inr (inr (inr (inl refl))))
has_rank section.Justice = inr (inr (inr (inr (inr (inl refl)))))
has_rank section.Fair = inr (inr (inr (inr (inr (inr (inl refl))))))

no_lines : (ss : List Section) (c : Circuit) → lines_of ss c [] ≡ []
no_lines [] c = refl
no_lines (s ∷ ss) c = rw (lines-ahead s [] 0 (section_count s c) (λ k. tt)) (no_lines ss c)

lines_of_entries : (c : Circuit) (es : NameMap) → AllByRecursion (IsNamed c) es → IsStrictlySortedBy place_cmp (keys_of es) → lines_of all_sections c es ≡ flat_map given_line (map given_of es)
unfolding IsStrictlySortedBy
lines_of_entries c [] named sorted = no_lines all_sections c
lines_of_entries c (e ∷ es) named sorted =
    let n = named.0 in
    let has : HasRank e.0.0 all_sections = subst (λ (r : ℕ). HasRank r all_sections) (sym n.is_section) (has_rank n.section) in
    let there : (s : Section) → rank s ≡ e.0.0 → e.0.1 < section_count s c = λ s is. subst (λ (t : Section). e.0.1 < section_count t c) (sym (section_is c e n) ∙ (ap section_at (sym is) ∙ section_at-rank s)) n.position in
    lines_of-step all_sections c e.0.0 e.0.1 e.1 es sections_rise has there (ahead_of_rest e.0 es sorted.0)
    ∙ ap (λ (l : List ℕ). given_line (given_of e) ++ l) (lines_of_entries c es named.1 sorted.1)

names-lines : (ss : List Section) (c : Circuit) → flat_map (names_of c) ss ≡ lines_of ss c c.names
names-lines [] c = refl
names-lines (s ∷ ss) c =
    ap (λ (l : List ℕ). l ++ flat_map (names_of c) ss) (lines_in-is s c.names 0 (section_count s c))
    ∙ ap (λ (l : List ℕ). lines_in s c.names 0 (section_count s c) ++ l) (names-lines ss c)

pub all_names-given : (c : Circuit) → AllByRecursion (IsNamed c) c.names → IsStrictlySortedBy place_cmp (keys_of c.names) → all_names c ≡ flat_map given_line (map given_of c.names)
all_names-given c named sorted = names-lines all_sections c ∙ lines_of_entries c c.names named sorted
