-- Names of bits and of properties.
use Rattle.std.proofs.Common.{◌≡◌, ℕ, zero, suc, ◌+◌, ◌%◌, ◌^◌, ◌<◌, ◌≤◌, Bool, true, false, not, cond, ◌==◌, ◌&&◌, List, [], ◌∷◌, ◌++◌, length, take, set, get_or, replicate, Option, Some, None, is_some, if◌then◌else◌, slice_get, refl, sym, ap, ap₂, subst, ◌∙◌, length-append, arith, nat_le, decimal}
use Rattle.std.specs.List.{list_all}
use Rattle.std.proofs.lemmas.Bool.Decides.{nat_tests}
use Rattle.std.proofs.lemmas.Bool.{and_parts, lt-ltb, le-leb, leb-true}
use Rattle.std.proofs.lemmas.List.{take_all}
use Rattle.std.proofs.lemmas.List.Folds.{list_all-append}
use Rattle.std.proofs.lemmas.Fmt.{decimal_by_steps}
use Rattle.std.proofs.lemmas.Option.{same_Some, slice_get_within}
use Rattle.btor2.specs.declared.item.Item.{Item}
use Rattle.btor2.specs.declared.leaves.Leaves.{Leaves}
use Rattle.btor2.specs.declared.leaves.Leaves.TheVariants as leaves
use Rattle.btor2.specs.Symbols.{is_symbol, is_printed}
use Rattle.btor2.specs.Lists.{places}
use Rattle.btor2.specs.Trace.{bits_of}
use Rattle.btor2.specs.Leaves.{list_of, kind_of, kind_width}
use Rattle.btor2.proofs.LeafLemmas.{leaf_in_list}
use Rattle.aiger.specs.declared.circuit.Section.{Section}
use Rattle.aiger.specs.declared.circuit.Section.TheVariants as section
use Rattle.aiger.specs.Limits.{greatest_count}
use Rattle.aiger.specs.declared.fault.CircuitFault.TheVariants as fault
use Rattle.aiger.specs.Names.{NameMap, Names, is_name, is_printable}
use Rattle.aiger.specs.Circuit.{Circuit, IsCircuit, section_count, section_names, name_of, with_name, name_refusal}
use Rattle.aiger.proofs.SectionNameLemmas.{length-section_names, slice_get-section_names, section_names-unnamed, section_names-with_name, section_names-other_section, few_positions}
use Rattle.blast.specs.Cost.{given_width, carried_width}
use Rattle.blast.specs.Leaves.{by_body, bit_name, bit_names, leaf_names}
use Rattle.blast.specs.declared.properties.Property.{Property}
use Rattle.blast.specs.declared.properties.Property.TheVariants as property
use Rattle.blast.specs.Blocks.{block, blocks, written_over, IsBlank}
use Rattle.blast.specs.Properties.{name_by, names_by}
use Rattle.blast.specs.Sections.{section_of, part_names, names_given, Renames, TakesNames}
use Rattle.blast.proofs.KindBlocks.{slice_get-replicate, written-nil, length-written, written-more, written-behind, written-blank, written-further, written-whole, blocks-of_kind, blocks-more, of_kind-within, reached, reached-is, reached-more, reached-within, reached-all, length-of_kind}

-- a byte of a symbol is one of a name
printed_is_printable : (b : ℕ) → is_printed b ≡ true → is_printable b ≡ true
printed_is_printable b h = grind (arith, nat_tests)

all_printable : (bs : List ℕ) → list_all is_printed bs ≡ true → list_all is_printable bs ≡ true
all_printable [] h = refl
all_printable (b ∷ bs) h =
    let parts = and_parts (is_printed b) (list_all is_printed bs) h in
    ap₂ ◌&&◌ (printed_is_printable b parts.0) (all_printable bs parts.1)

-- digits are bytes of a name
digit_is_printable : (n : ℕ) → n < 10 → is_printable (48 + n) ≡ true
digit_is_printable n h = grind (arith, nat_tests)

decimal_is_printable : (n : ℕ) → n < 2 ^ 64 → list_all is_printable (decimal n) ≡ true
decimal_is_printable n h =
    decimal_by_steps (λ n ds. list_all is_printable ds ≡ true)
    (λ n low. ap (λ (b : Bool). b && true) (digit_is_printable n low))
    (λ n ds high front. list_all-append is_printable ds ((48 + n % 10) ∷ []) ∙ ap₂ ◌&&◌ front (ap (λ (b : Bool). b && true) (digit_is_printable (n % 10) (omega arith))))
    n h

-- what a symbol's bytes are
symbol_parts : (s : List ℕ) → is_symbol s ≡ true → (0 < length s) × (length s ≤ 255) × (list_all is_printable s ≡ true)
symbol_parts [] h = absurd (cc)
symbol_parts (b ∷ bs) h =
    let first = and_parts (not (b == 59)) (nat_le (length (b ∷ bs)) 255 && list_all is_printed (b ∷ bs)) h in
    let parts = and_parts (nat_le (length (b ∷ bs)) 255) (list_all is_printed (b ∷ bs)) first.1 in
    let some : 0 < length (b ∷ bs) = omega arith in
    (some, leb-true (length (b ∷ bs)) 255 parts.0, all_printable (b ∷ bs) parts.1)

name_from_parts : (name : List ℕ) → 0 < length name → length name ≤ 300 → list_all is_printable name ≡ true → is_name name ≡ true
name_from_parts name some short printable = rw (lt-ltb _ _ some, le-leb _ _ short, printable) refl

-- a symbol is a name
pub symbol_is_name : (s : List ℕ) → is_symbol s ≡ true → is_name s ≡ true
symbol_is_name s h =
    let parts = symbol_parts s h in
    name_from_parts s parts.0 (omega (arith, parts.1)) parts.2

-- and so is the name of a bit
pub bit_name_is_name : (s : List ℕ) (bit : ℕ) → is_symbol s ≡ true → bit < 64 → length (decimal bit) ≤ 40 → is_name (bit_name s bit) ≡ true
bit_name_is_name s bit h low short =
    let parts = symbol_parts s h in
    let digits : list_all is_printable (decimal bit) ≡ true = decimal_is_printable bit (omega arith) in
    let long : length (bit_name s bit) ≡ length (s ++ 91 ∷ decimal bit) + 1 = length-append (s ++ 91 ∷ decimal bit) (93 ∷ []) in
    let front : length (s ++ 91 ∷ decimal bit) ≡ length s + suc (length (decimal bit)) = length-append s (91 ∷ decimal bit) in
    let printed : list_all is_printable (s ++ 91 ∷ decimal bit) ≡ true = list_all-append is_printable s (91 ∷ decimal bit) ∙ ap₂ ◌&&◌ parts.2 digits in
    name_from_parts (bit_name s bit) (omega (arith, parts.0)) (omega (arith, parts.1))
    (list_all-append is_printable (s ++ 91 ∷ decimal bit) (93 ∷ []) ∙ ap (λ (b : Bool). b && true) printed)

-- Names of one section.

-- its own names
pub Renames-own : (s : Section) (c : Circuit) → Renames s c (section_names s c) c
Renames-own s c = record { own = refl; others = λ t apart. refl; rest = refl }

-- equal names
pub Renames-equal : (s : Section) (old new : Circuit) (names more : Names) → names ≡ more → Renames s old names new → Renames s old more new
Renames-equal s old new names more e r = subst (λ (n : Names). Renames s old n new) e r

-- names given after others
pub Renames-then : (s : Section) (old cur new : Circuit) (names : Names) (f : Names → Names) → Renames s old names cur → Renames s cur (f (section_names s cur)) new → Renames s old (f names) new
Renames-then s old cur new names f r t =
    record {
      own = t.own ∙ ap f r.own;
      others = λ u apart. t.others u apart ∙ r.others u apart;
      rest = t.rest ∙ ap (λ (c : Circuit). record c { names = new.names }) r.rest;
    }

-- where a position has no name, and the bytes are a name, it may be given
pub nothing_refused : (c : Circuit) (s : Section) (k : ℕ) (name : List ℕ) → slice_get (section_names s c) k ≡ Some None → is_name name ≡ true
    → (k < section_count s c) × (name_refusal c s k name ≡ None)
nothing_refused c s k name free good =
    let inside : k < section_count s c = omega (arith, slice_get_within (section_names s c) k None free, length-section_names s c) in
    let none : name_of c s k ≡ None = same_Some (name_of c s k) None (sym (slice_get-section_names s c k inside) ∙ free) in
    (inside, by (nat_le (section_count s c) k) refl none inside)
  where
    by : (b : Bool) → nat_le (section_count s c) k ≡ b → name_of c s k ≡ None → k < section_count s c
        → (if b then Some fault.NoSuchPosition else (if is_some (name_of c s k) then Some fault.NameTaken else (if is_name name then None else Some fault.BadName))) ≡ None
    by true e none inside = absurd (omega (arith, leb-true (section_count s c) k e))
    by false e none inside = rw (none, good) refl

-- a name given to a position is in its section's names
pub Renames-name : (s : Section) (old new : Circuit) (k : ℕ) (name : List ℕ) → k < section_count s old → new ≡ with_name old s k name → Renames s old (set (section_names s old) k (Some name)) new
Renames-name s old new k name inside e =
    record {
      own = ap (section_names s) e ∙ section_names-with_name old s k name inside;
      others = λ t apart. ap (section_names t) e ∙ section_names-other_section old s t k name apart;
      rest = e ∙ ap (λ (n : NameMap). record old { names = n }) (sym (ap (λ (c : Circuit). c.names) e));
    }

-- Names of the bits of a leaf.

pub length-bit_names : (symbol : Option (List ℕ)) (first count : ℕ) → length (bit_names symbol first count) ≡ count
length-bit_names symbol first zero = refl
length-bit_names None first (suc count) = ap suc (length-bit_names None (suc first) count)
length-bit_names (Some s) first (suc count) = ap suc (length-bit_names (Some s) (suc first) count)

pub bit_names-none : (first count : ℕ) → bit_names None first count ≡ replicate count None
bit_names-none first zero = refl
bit_names-none first (suc count) = ap (λ (names : Names). None ∷ names) (bit_names-none (suc first) count)

-- the names of properties, one more
names_by_after : (p : Property) (symbol : Option (List ℕ)) (bit count : ℕ) → names_by p symbol bit (suc count) ≡ names_by p symbol bit count ++ names_by p symbol (bit + count) 1
names_by_after p symbol bit zero =
    let e : bit ≡ bit + zero = omega arith in
    ap (λ (n : ℕ). names_by p symbol n 1) e
names_by_after p None bit (suc count) =
    let e : suc bit + count ≡ bit + suc count = omega arith in
    ap (λ (names : Names). None ∷ names) (names_by_after p None (suc bit) count ∙ ap (λ (n : ℕ). names_by p None (suc bit) count ++ names_by p None n 1) e)
names_by_after p (Some s) bit (suc count) =
    let e : suc bit + count ≡ bit + suc count = omega arith in
    ap (λ (names : Names). Some (name_by p s bit) ∷ names) (names_by_after p (Some s) (suc bit) count ∙ ap (λ (n : ℕ). names_by p (Some s) (suc bit) count ++ names_by p (Some s) n 1) e)

pub names_by-more : (p : Property) (symbol : Option (List ℕ)) (count : ℕ) → names_by p symbol 0 (count + 1) ≡ names_by p symbol 0 count ++ names_by p symbol count 1
names_by-more p symbol count =
    let e : count + 1 ≡ suc count = omega arith in
    let f : 0 + count ≡ count = omega arith in
    ap (names_by p symbol 0) e ∙ names_by_after p symbol 0 count ∙ ap (λ (n : ℕ). names_by p symbol 0 count ++ names_by p symbol n 1) f

-- those of outputs are the names of bits
pub names_by-output : (symbol : Option (List ℕ)) (bit count : ℕ) → names_by property.Output symbol bit count ≡ bit_names symbol bit count
names_by-output symbol bit zero = refl
names_by-output None bit (suc count) = ap (λ (names : Names). None ∷ names) (names_by-output None (suc bit) count)
names_by-output (Some s) bit (suc count) = ap (λ (names : Names). Some (bit_name s bit) ∷ names) (names_by-output (Some s) (suc bit) count)

bit_names-more : (symbol : Option (List ℕ)) (count : ℕ) → bit_names symbol 0 (count + 1) ≡ bit_names symbol 0 count ++ bit_names symbol count 1
bit_names-more symbol count =
    sym (names_by-output symbol 0 (count + 1)) ∙ names_by-more property.Output symbol count ∙ ap₂ ◌++◌ (names_by-output symbol 0 count) (names_by-output symbol count 1)

-- a circuit with the names of the first so many bits of a leaf
abbrev pub WithBits : Section → Circuit → Circuit → List ℕ → ℕ → ℕ → Type 0
WithBits s old cur symbol first bit = Renames s old (written_over (section_names s old) first (bit_names (Some symbol) 0 bit)) cur

pub WithBits-none : (s : Section) (c : Circuit) (symbol : List ℕ) (first : ℕ) → WithBits s c c symbol first 0
WithBits-none s c symbol first = Renames-equal s c c (section_names s c) _ (sym (written-nil (section_names s c) first)) (Renames-own s c)

pub WithBits-free : (s : Section) (old cur : Circuit) (symbol : List ℕ) (first count bit : ℕ) → WithBits s old cur symbol first bit → IsBlank None first count (section_names s old)
    → first + count ≤ length (section_names s old) → bit < count → slice_get (section_names s cur) (first + bit) ≡ Some None
WithBits-free s old cur symbol first count bit r free room low =
    let l : length (bit_names (Some symbol) 0 bit) ≡ bit = length-bit_names (Some symbol) 0 bit in
    let i : first + bit ≡ first + length (bit_names (Some symbol) 0 bit) + 0 = omega arith in
    let j : first + length (bit_names (Some symbol) 0 bit) + 0 ≡ first + bit = omega arith in
    ap (λ (names : Names). slice_get names (first + bit)) r.own
    ∙ ap (slice_get (written_over (section_names s old) first (bit_names (Some symbol) 0 bit))) i
    ∙ written-behind (section_names s old) first 0 (bit_names (Some symbol) 0 bit) (omega arith)
    ∙ ap (slice_get (section_names s old)) j
    ∙ free.entries bit low

pub WithBits-more : (s : Section) (old cur new : Circuit) (symbol : List ℕ) (first bit : ℕ) → WithBits s old cur symbol first bit → first + bit < length (section_names s old)
    → Renames s cur (set (section_names s cur) (first + bit) (Some (bit_name symbol bit))) new → WithBits s old new symbol first (bit + 1)
WithBits-more s old cur new symbol first bit r room given =
    let names = written_over (section_names s old) first (bit_names (Some symbol) 0 bit) in
    let l : length (bit_names (Some symbol) 0 bit) ≡ bit = length-bit_names (Some symbol) 0 bit in
    let i : first + bit ≡ first + length (bit_names (Some symbol) 0 bit) = omega arith in
    Renames-equal s old new (set names (first + bit) (Some (bit_name symbol bit))) (written_over (section_names s old) first (bit_names (Some symbol) 0 (bit + 1)))
    (ap (λ (n : ℕ). set names n (Some (bit_name symbol bit))) i
    ∙ written-more (section_names s old) first (bit_names (Some symbol) 0 bit) (Some (bit_name symbol bit)) (omega arith)
    ∙ ap (written_over (section_names s old) first) (sym (bit_names-more (Some symbol) bit)))
    (Renames-then s old cur new names (λ (n : Names). set n (first + bit) (Some (bit_name symbol bit))) r given)

-- a leaf without a symbol changes nothing
pub unnamed_leaf : (s : Section) (c : Circuit) (first count : ℕ) → IsBlank None first count (section_names s c) → first + count ≤ length (section_names s c)
    → Renames s c (written_over (section_names s c) first (bit_names None 0 count)) c
unnamed_leaf s c first count free room =
    Renames-equal s c c (section_names s c) _
    (sym (ap (written_over (section_names s c) first) (bit_names-none 0 count) ∙ written-blank None (section_names s c) first count free room)) (Renames-own s c)

-- Items.

pub length-leaf_names : (items : List Item) (x : Item) → length (leaf_names items x) ≡ bits_of items x.id
length-leaf_names items x = length-bit_names x.symbol 0 (bits_of items x.id)

-- what the items of a part's list give it are the names of the part
pub part_blocks : (items : List Item) (p : Leaves) (ps : List ℕ) → ps ≡ places (list_of p) 0 items → blocks (names_given items p) items ps ≡ part_names items p
part_blocks items p ps e =
    ap (blocks (names_given items p) items) e ∙ blocks-of_kind (list_of p) (names_given items p) items
    ∙ of_kind-within (by_body (list_of p)) (kind_of items p) (leaf_names items) items (leaf_in_list items p)

-- so far: the circuit with the names of the first so many items of a part's list, from a first position on
abbrev pub WithItems : List Item → Leaves → List ℕ → ℕ → Circuit → Circuit → ℕ → Type 0
WithItems items p ps first old cur k = Renames (section_of p) old (written_over (section_names (section_of p) old) first (blocks (names_given items p) items (take k ps))) cur

pub WithItems-none : (items : List Item) (p : Leaves) (ps : List ℕ) (first : ℕ) (c : Circuit) → WithItems items p ps first c c 0
unfolding blocks
WithItems-none items p ps first c = Renames-equal (section_of p) c c (section_names (section_of p) c) _ (sym (written-nil (section_names (section_of p) c) first)) (Renames-own (section_of p) c)

pub WithItems-all : (items : List Item) (p : Leaves) (ps : List ℕ) (first : ℕ) (old new : Circuit) (k : ℕ) → ps ≡ places (list_of p) 0 items → length ps ≤ k → WithItems items p ps first old new k
    → Renames (section_of p) old (written_over (section_names (section_of p) old) first (part_names items p)) new
WithItems-all items p ps first old new k e end h =
    Renames-equal (section_of p) old new _ _
    (ap (λ (l : List ℕ). written_over (section_names (section_of p) old) first (blocks (names_given items p) items l)) (take_all k ps end)
    ∙ ap (written_over (section_names (section_of p) old) first) (part_blocks items p ps e))
    h

-- the item at the next place
next_block : (items : List Item) (p : Leaves) (ps : List ℕ) (k : ℕ) (x : Item) → slice_get items (get_or ps k 0) ≡ Some x → block (names_given items p) (slice_get items (get_or ps k 0)) ≡ names_given items p x
next_block items p ps k x at = ap (block (names_given items p)) at

-- its names are within those of the part
pub item_within : (items : List Item) (p : Leaves) (ps : List ℕ) (k : ℕ) (x : Item) → ps ≡ places (list_of p) 0 items → k < length ps → slice_get items (get_or ps k 0) ≡ Some x
    → length (blocks (names_given items p) items (take k ps)) + length (names_given items p x) ≤ length (part_names items p)
item_within items p ps k x e low at =
    omega
    (arith, reached-within (names_given items p) items ps k low, reached-is (names_given items p) items ps k, ap length (next_block items p ps k x at), ap length (part_blocks items p ps e))

pub WithItems-length : (items : List Item) (p : Leaves) (ps : List ℕ) (first : ℕ) (old cur : Circuit) (k : ℕ) → WithItems items p ps first old cur k
    → first + length (blocks (names_given items p) items (take k ps)) ≤ length (section_names (section_of p) old) → length (section_names (section_of p) cur) ≡ length (section_names (section_of p) old)
WithItems-length items p ps first old cur k r room = ap length r.own ∙ length-written (section_names (section_of p) old) first (blocks (names_given items p) items (take k ps)) room

-- a part of a section, from a first position on, that is there and has no name
pub record IsOpen (s : Section) (c : Circuit) (first count : ℕ) : Type 0 where
  pub blank : IsBlank None first count (section_names s c)
  pub room : first + count ≤ length (section_names s c)

-- the positions of the next item
pub WithItems-open : (items : List Item) (p : Leaves) (ps : List ℕ) (first : ℕ) (old cur : Circuit) (k next : ℕ) (x : Item) → ps ≡ places (list_of p) 0 items → next ≡ first + reached (names_given items p) items ps k
    → IsOpen (section_of p) old first (length (part_names items p)) → WithItems items p ps first old cur k → k < length ps → slice_get items (get_or ps k 0) ≡ Some x
    → IsOpen (section_of p) cur next (length (names_given items p x))
WithItems-open items p ps first old cur k next x e is_next free r low at =
    let front = blocks (names_given items p) items (take k ps) in
    let within = item_within items p ps k x e low at in
    let here : next ≡ first + length front = is_next ∙ ap (λ (n : ℕ). first + n) (reached-is (names_given items p) items ps k) in
    let room : first + length front ≤ length (section_names (section_of p) old) = omega (arith, free.room) in
    record {
      blank = record {
        entries = λ j b.
            let i : next + j ≡ first + length front + j = omega arith in
            let i2 : first + length front + j ≡ first + (length front + j) = omega arith in
            ap₂ slice_get r.own i ∙ written-behind (section_names (section_of p) old) first j front room
            ∙ ap (slice_get (section_names (section_of p) old)) i2 ∙ free.blank.entries (length front + j) (omega arith);
      };
      room = omega (arith, free.room, WithItems-length items p ps first old cur k r room);
    }

pub WithItems-more : (items : List Item) (p : Leaves) (ps : List ℕ) (first : ℕ) (old cur new : Circuit) (k next : ℕ) (x : Item) → ps ≡ places (list_of p) 0 items → next ≡ first + reached (names_given items p) items ps k
    → IsOpen (section_of p) old first (length (part_names items p)) → WithItems items p ps first old cur k → k < length ps → slice_get items (get_or ps k 0) ≡ Some x
    → Renames (section_of p) cur (written_over (section_names (section_of p) cur) next (names_given items p x)) new
    → WithItems items p ps first old new (k + 1)
WithItems-more items p ps first old cur new k next x e is_next free r low at given =
    let names = section_names (section_of p) old in
    let front = blocks (names_given items p) items (take k ps) in
    let within = item_within items p ps k x e low at in
    let here : next ≡ first + length front = is_next ∙ ap (λ (n : ℕ). first + n) (reached-is (names_given items p) items ps k) in
    Renames-equal (section_of p) old new _ _
    (ap (λ (n : ℕ). written_over (written_over names first front) n (names_given items p x)) here
    ∙ written-further names first front (names_given items p x) (omega (arith, free.room))
    ∙ ap (written_over names first) (sym (blocks-more (names_given items p) items ps k low ∙ ap (λ (l : Names). front ++ l) (next_block items p ps k x at))))
    (Renames-then (section_of p) old cur new (written_over names first front) (λ (l : Names). written_over l next (names_given items p x)) r given)

-- where the next item's positions begin
pub reached-item : (items : List Item) (p : Leaves) (ps : List ℕ) (k : ℕ) (x : Item) → k < length ps → slice_get items (get_or ps k 0) ≡ Some x
    → reached (names_given items p) items ps (k + 1) ≡ reached (names_given items p) items ps k + length (names_given items p x)
reached-item items p ps k x low at =
    reached-more (names_given items p) items ps k low ∙ ap (λ (names : Names). reached (names_given items p) items ps k + length names) (next_block items p ps k x at)

-- and where those behind the last begin
pub reached-part : (items : List Item) (p : Leaves) (ps : List ℕ) (k : ℕ) → ps ≡ places (list_of p) 0 items → length ps ≤ k → reached (names_given items p) items ps k ≡ length (part_names items p)
reached-part items p ps k e end = reached-all (names_given items p) items ps k end ∙ ap length (part_blocks items p ps e)

-- an item of another part gives no names
pub no_names : (items : List Item) (p : Leaves) (c : Circuit) (first : ℕ) (x : Item) → kind_of items p x ≡ false → Renames (section_of p) c (written_over (section_names (section_of p) c) first (names_given items p x)) c
no_names items p c first x h =
    Renames-equal (section_of p) c c (section_names (section_of p) c) _
    (sym (ap (λ (b : Bool). written_over (section_names (section_of p) c) first (cond b (leaf_names items x) [])) h ∙ written-nil (section_names (section_of p) c) first))
    (Renames-own (section_of p) c)

-- the names of leaves are as many as their bits
length-part : (items : List Item) (l : Leaves) → length (part_names items l) ≡ kind_width items (kind_of items l) items
length-part items l = length-of_kind items (kind_of items l) (leaf_names items) items (length-leaf_names items)

-- a model gives as many names as bits that are given, and that are carried
pub length-given : (items : List Item) → length (part_names items leaves.Inputs) + length (part_names items leaves.Free) ≡ given_width items
length-given items = ap₂ ◌+◌ (length-part items leaves.Inputs) (length-part items leaves.Free)

pub length-carried : (items : List Item) → length (part_names items leaves.Carried) ≡ carried_width items
length-carried items = length-part items leaves.Carried

-- the sections of a circuit without names are blank, also when others were named
pub open_section : (s : Section) (c cur : Circuit) (first count : ℕ) → c.names ≡ [] → first + count ≤ section_count s c → section_names s cur ≡ section_names s c → IsOpen s cur first count
open_section s c cur first count none room same =
    record {
      blank = record {
        entries = λ k b. ap (λ (l : Names). slice_get l (first + k)) (same ∙ section_names-unnamed s c none) ∙ slice_get-replicate None (section_count s c) (first + k) (omega arith);
      };
      room = omega (arith, length-section_names s c, ap length same);
    }

-- a section of which one part was named is still open behind it
pub open_behind : (s : Section) (c cur : Circuit) (next count : ℕ) (names : Names) → c.names ≡ [] → length names + count ≤ section_count s c → next ≡ 0 + length names → Renames s c (written_over (section_names s c) 0 names) cur
    → IsOpen s cur next count
open_behind s c cur next count names none room e r =
    let n = length-section_names s c in
    record {
      blank = record {
        entries = λ k b.
            let i : next + k ≡ 0 + length names + k = omega arith in
            ap₂ slice_get r.own i ∙ written-behind (section_names s c) 0 k names (omega arith)
            ∙ ap (λ (l : Names). slice_get l (0 + length names + k)) (section_names-unnamed s c none) ∙ slice_get-replicate None (section_count s c) (0 + length names + k) (omega arith);
      };
      room = omega (arith, ap length r.own, length-written (section_names s c) 0 names (omega arith));
    }

-- no section has more than the greatest count of positions
pub few_names : (s : Section) (old new : Circuit) → IsCircuit old → section_names s new ≡ section_names s old → length (section_names s new) ≤ greatest_count
few_names s old new valid same = omega (arith, few_positions s old valid, ap length same, length-section_names s old)

pub few_behind : (s : Section) (old new : Circuit) (names : Names) → IsCircuit old → length names ≤ section_count s old → Renames s old (written_over (section_names s old) 0 names) new → length (section_names s new) ≤ greatest_count
few_behind s old new names valid room r = omega (arith, few_positions s old valid, ap length r.own, length-section_names s old, length-written (section_names s old) 0 names (omega (arith, length-section_names s old)))

-- a section of one part has its names
one_part : (s : Section) (c cur new : Circuit) (names : Names) → section_count s c ≡ length names → section_names s cur ≡ section_names s c → Renames s cur (written_over (section_names s cur) 0 names) new → section_names s new ≡ names
one_part s c cur new names count same r = r.own ∙ written-whole (section_names s cur) names (ap length same ∙ length-section_names s c ∙ count)

-- and one of two parts those of both
two_parts : (s : Section) (c cur new : Circuit) (next : ℕ) (names more : Names) → section_count s c ≡ length names + length more → next ≡ 0 + length names → Renames s c (written_over (section_names s c) 0 names) cur
    → Renames s cur (written_over (section_names s cur) next more) new → section_names s new ≡ names ++ more
two_parts s c cur new next names more count e a b =
    let n = length-section_names s c in
    b.own ∙ ap₂ (λ (l : Names) (k : ℕ). written_over l k more) a.own e ∙ written-further (section_names s c) 0 names more (omega arith)
    ∙ written-whole (section_names s c) (names ++ more) (omega (arith, length-append names more))

-- the three parts one after another
pub TakesNames-made : (items : List Item) (c0 c1 c2 c3 : Circuit) (next : ℕ) → c0.inputs ≡ given_width items → length c0.latches ≡ carried_width items → next ≡ 0 + length (part_names items leaves.Inputs)
    → Renames section.Input c0 (written_over (section_names section.Input c0) 0 (part_names items leaves.Inputs)) c1
    → Renames section.Input c1 (written_over (section_names section.Input c1) next (part_names items leaves.Free)) c2
    → Renames section.Latch c2 (written_over (section_names section.Latch c2) 0 (part_names items leaves.Carried)) c3
    → TakesNames items c0 c3
TakesNames-made items c0 c1 c2 c3 next inputs latches e a b l =
    record {
      inputs = l.others section.Input (λ q. cc) ∙ two_parts section.Input c0 c1 c2 next (part_names items leaves.Inputs) (part_names items leaves.Free) (inputs ∙ sym (length-given items)) e a b;
      latches = one_part section.Latch c0 c2 c3 (part_names items leaves.Carried) (latches ∙ sym (length-carried items)) (b.others section.Latch (λ q. cc) ∙ a.others section.Latch (λ q. cc)) l;
      rest = l.rest ∙ ap last b.rest ∙ ap last a.rest;
    }
  where
    last : Circuit → Circuit
    last c = record c { names = c3.names }
