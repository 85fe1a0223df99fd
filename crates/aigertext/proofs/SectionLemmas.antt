-- Each section's lines from a position on: the line at it, and the lines behind it.
use Rattle.std.proofs.Common.{◌≡◌, ℕ, zero, suc, ◌+◌, ◌*◌, ◌<◌, List, [], ◌∷◌, ◌++◌, length, drop, get_or, Option, Some, slice_get, ◌≤◌, refl, ap, sym, subst, ◌∙◌, add-one, append_assoc, drop-cons, arith}
use Rattle.aiger.specs.declared.circuit.Section.{Section}
use Rattle.aiger.specs.Circuit.{Circuit, IsCircuit, Names, letter, all_sections, name_at, name_of, section_count, section_names}
use Rattle.aiger.proofs.SectionNameLemmas.{length-section_names, name_at-section_names}
use Rattle.aigertext.specs.Ascii.{numbers_line, input_lines, literal_lines, name_line, name_lines, names_of, size_lines, list_lines}
use Rattle.std.specs.Prelude.{flat_map}
use Rattle.std.proofs.lemmas.List.{drop_all}
use Rattle.std.proofs.lemmas.List.Sums.{get_or-le-sum_by}
use Rattle.std.proofs.lemmas.Option.{get_or_from_slice_get, slice_get_within}
use Rattle.aiger.specs.Limits.{greatest_count}

-- the inputs, so many of which are left
pub input_lines_at : (first left next : ℕ) → left ≡ suc next
    → input_lines first left ≡ numbers_line (2 * first ∷ []) ++ input_lines (first + 1) next
input_lines_at first left next e =
    ap (input_lines first) e ∙ ap (λ k. numbers_line (2 * first ∷ []) ++ input_lines k next) (sym (add-one first))

-- the literals
pub literal_lines_at : (i : ℕ) (literals : List ℕ) (l d : ℕ) → i < length literals → l ≡ get_or literals i d
    → literal_lines (drop i literals) ≡ numbers_line (l ∷ []) ++ literal_lines (drop (i + 1) literals)
literal_lines_at i literals l d h e =
    subst (λ (x : ℕ). literal_lines (drop i literals) ≡ numbers_line (x ∷ []) ++ literal_lines (drop (i + 1) literals))
    (sym e) (rw (drop-cons literals i d, add-one i))

-- the names, the first of which has this position
names_from : (letter position i : ℕ) (names : Names) → i < length names
    → name_lines letter position (drop i names)
    ≡ name_line letter position (name_at names i) ++ name_lines letter (suc position) (drop (suc i) names)
names_from letter position i [] h = absurd (omega arith)
names_from letter position zero (n ∷ ns) h = refl
names_from letter position (suc i) (n ∷ ns) h = names_from letter position i ns (omega arith)

-- the names of a section
pub name_lines_at : (i : ℕ) (s : Section) (c : Circuit) → i < section_count s c
    → name_lines (letter s) i (drop i (section_names s c)) ≡ name_line (letter s) i (name_of c s i) ++ name_lines (letter s) (i + 1) (drop (i + 1) (section_names s c))
name_lines_at i s c h =
    let there : i < length (section_names s c) = omega (arith, length-section_names s c) in
    rw (add-one i) (names_from (letter s) i i (section_names s c) there
    ∙ ap (λ (name : Option (List ℕ)). name_line (letter s) i name ++ name_lines (letter s) (suc i) (drop (suc i) (section_names s c))) (name_at-section_names s c i h))

-- the names behind the last of a section
pub no_name_lines : (i : ℕ) (s : Section) (c : Circuit) → section_count s c ≤ i → name_lines (letter s) i (drop i (section_names s c)) ≡ []
no_name_lines i s c h = ap (name_lines (letter s) i) (drop_all i (section_names s c) (omega (arith, length-section_names s c)))

-- the sections
pub all_names_at : (i : ℕ) (c : Circuit) (s d : Section) → i < length all_sections → s ≡ get_or all_sections i d
    → flat_map (names_of c) (drop i all_sections) ≡ names_of c s ++ flat_map (names_of c) (drop (i + 1) all_sections)
all_names_at i c s d h e =
    subst (λ (t : Section). flat_map (names_of c) (drop i all_sections) ≡ names_of c t ++ flat_map (names_of c) (drop (i + 1) all_sections))
    (sym e) (rw (drop-cons all_sections i d, add-one i))

-- a justice property has at most as many literals as all of them may have
pub few_literals : (c : Circuit) (i : ℕ) (ls : List ℕ) → IsCircuit c → slice_get c.justice i ≡ Some ls → length ls ≤ greatest_count
few_literals c i ls valid e =
    let there : i < length c.justice = slice_get_within c.justice i ls e in
    omega (arith, get_or-le-sum_by length c.justice i ls there, ap length (get_or_from_slice_get c.justice i ls ls e), valid.few.justice_literals)

-- two that are found are the same
same_list : (x y : List ℕ) → Some x ≡ Some y → x ≡ y
same_list x y e = cc

-- the sizes of the lists
sizes_from : (i : ℕ) (lists : List (List ℕ)) (ls : List ℕ) → slice_get lists i ≡ Some ls
    → size_lines (drop i lists) ≡ numbers_line (length ls ∷ []) ++ size_lines (drop (suc i) lists)
sizes_from i [] ls e = absurd (cc)
sizes_from zero (x ∷ lists) ls e = ap (λ (y : List ℕ). numbers_line (length y ∷ []) ++ size_lines lists) (same_list x ls e)
sizes_from (suc i) (x ∷ lists) ls e = sizes_from i lists ls e

pub size_lines_at : (i : ℕ) (lists : List (List ℕ)) (ls : List ℕ) → slice_get lists i ≡ Some ls
    → size_lines (drop i lists) ≡ numbers_line (length ls ∷ []) ++ size_lines (drop (i + 1) lists)
size_lines_at i lists ls e = rw (add-one i) (sizes_from i lists ls e)

-- their literals
literals_from : (i : ℕ) (lists : List (List ℕ)) (ls : List ℕ) → slice_get lists i ≡ Some ls
    → list_lines (drop i lists) ≡ literal_lines ls ++ list_lines (drop (suc i) lists)
literals_from i [] ls e = absurd (cc)
literals_from zero (x ∷ lists) ls e = ap (λ (y : List ℕ). literal_lines y ++ list_lines lists) (same_list x ls e)
literals_from (suc i) (x ∷ lists) ls e = literals_from i lists ls e

pub list_lines_at : (i : ℕ) (lists : List (List ℕ)) (ls : List ℕ) → slice_get lists i ≡ Some ls
    → list_lines (drop i lists) ≡ literal_lines ls ++ list_lines (drop (i + 1) lists)
list_lines_at i lists ls e = rw (add-one i) (literals_from i lists ls e)

-- the parts of a name's line
pub name_parts : (letter : ℕ) (digits name : List ℕ)
    → letter ∷ digits ++ 32 ∷ name ++ 10 ∷ [] ≡ (letter ∷ digits ++ 32 ∷ []) ++ (name ++ 10 ∷ [])
name_parts letter digits name = simp append_assoc
