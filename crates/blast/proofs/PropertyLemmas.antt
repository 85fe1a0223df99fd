-- The literals and the names of outputs, of bad properties and of constraints.
use Rattle.std.proofs.Common.{◌≡◌, ◌≢◌, ℕ, suc, ◌+◌, ◌*◌, ◌%◌, ◌^◌, ◌<◌, ◌≤◌, Bool, true, cond, ◌==◌, List, [], ◌∷◌, ◌++◌, length, map, get_or, set, take, drop, All, Option, None, Some, is_some, unwrap_or, option_and_then, slice_get, take-append-drop, refl, sym, ap, ap₂, subst, ◌∙◌, append_assoc, append-nil, length-append, arith}
use Rattle.std.specs.List.{flat_map, range_with_len}
use Rattle.std.proofs.lemmas.List.{length-take, map-append, set_at, take_all, take_more}
use Rattle.std.proofs.lemmas.List.Concat.{flat_map-append}
use Rattle.std.proofs.lemmas.Option.{get_or_from_slice_get, slice_get_within, none-some, same_Some}
use Rattle.base.specs.Word.{bits}
use Rattle.btor2.specs.declared.item.Item.{Item}
use Rattle.btor2.specs.declared.item.Body.{Body}
use Rattle.btor2.specs.declared.item.Body.TheVariants as body
use Rattle.btor2.specs.Items.{node_width}
use Rattle.btor2.specs.Check.{IsWellFormed}
use Rattle.btor2.specs.Trace.{Frame, bits_of}
use Rattle.btor2.proofs.AppendLemmas.{node_width-append, is_some_from}
use Rattle.btor2.proofs.AcceptedLemmas.{BodyIsAccepted}
use Rattle.btor2.proofs.ModelLemmas.{IsAccepted-at, IsIn, IsIn-from_place, few_items}
use Rattle.btor2.proofs.TraceLemmas.{words_fit_frame}
use Rattle.btor2.proofs.LeafLemmas.{bits_of-most}
use Rattle.aiger.specs.declared.circuit.Section.{Section}
use Rattle.aiger.specs.declared.circuit.Section.TheVariants as section
use Rattle.aiger.specs.Limits.{greatest_count}
use Rattle.base.specs.Literal.{Valuation, literal_value}
use Rattle.aiger.specs.Names.{NameMap, Names}
use Rattle.aiger.specs.Net.{Net, IsDefined}
use Rattle.aiger.specs.Circuit.{Circuit, IsCircuit, net, name_of, section_count, section_names}
use Rattle.aiger.proofs.SectionNameLemmas.{length-section_names, section_names-same, section_names-push}
use Rattle.blast.specs.declared.properties.Property.{Property}
use Rattle.blast.specs.declared.properties.Property.TheVariants as property
use Rattle.blast.specs.Leaves.{by_body, given_by_kind, shown_width, shown_bits, bit_names}
use Rattle.blast.specs.Properties.{property_kind, property_section, literals_of, with_more, name_by, property_operand, property_literals, names_by, property_names, Adds, TakesProperties}
use Rattle.blast.specs.Reads.{Together, RowsRead, observed}
use Rattle.blast.specs.Rows.{row_at}
use Rattle.blast.specs.Sections.{Renames}
use Rattle.blast.specs.Table.{row_of}
use Rattle.blast.proofs.KindBlocks.{slice_get-behind}
use Rattle.blast.proofs.KindRows.{row_at-reads, node_place, entry}
use Rattle.blast.proofs.NameLemmas.{names_by-more, names_by-output}

-- What an item of a well-formed list says.

says_at : (items : List Item) (place : ℕ) (x : Item) (b : Body) → IsWellFormed items → slice_get items place ≡ Some x → x.body ≡ b → (w : IsIn items x) × BodyIsAccepted w.before b
says_at items place x b h at e =
    let there = IsIn-from_place items place x at in
    (there.0, subst (BodyIsAccepted there.0.before) e (IsAccepted-at items x h there.0).says)

operand_width : (items : List Item) (x : Item) (w : IsIn items x) (a : ℕ) → node_width w.before a ≡ Some 1 → node_width items a ≡ Some 1
operand_width items x w a h = ap (λ (l : List Item). node_width l a) w.splits ∙ node_width-append w.before (x ∷ w.after) a 1 h

bad_operand : (items : List Item) (place : ℕ) (x : Item) (a : ℕ) → IsWellFormed items → slice_get items place ≡ Some x → x.body ≡ body.Bad a → node_width items a ≡ Some 1
bad_operand items place x a h at e =
    let says = says_at items place x (body.Bad a) h at e in
    operand_width items x says.0 a says.1

constraint_operand : (items : List Item) (place : ℕ) (x : Item) (a : ℕ) → IsWellFormed items → slice_get items place ≡ Some x → x.body ≡ body.Constraint a → node_width items a ≡ Some 1
constraint_operand items place x a h at e =
    let says = says_at items place x (body.Constraint a) h at e in
    operand_width items x says.0 a says.1

output_operand : (items : List Item) (place : ℕ) (x : Item) (a : ℕ) → IsWellFormed items → slice_get items place ≡ Some x → x.body ≡ body.Output a → (width : ℕ) × (node_width items a ≡ Some width)
output_operand items place x a h at e =
    let says = says_at items place x (body.Output a) h at e in
    let i = says.0 in
    (says.1.0, ap (λ (l : List Item). node_width l a) i.splits ∙ node_width-append i.before (x ∷ i.after) a says.1.0 says.1.1)

-- the node of a line of properties is there
pub operand_there : (p : Property) (items : List Item) (place : ℕ) (x : Item) (a : ℕ) → IsWellFormed items → slice_get items place ≡ Some x → property_operand p x.body ≡ Some a → (width : ℕ) × (node_width items a ≡ Some width)
operand_there p items place x a w at is = by p x.body refl is
  where
    by : (p : Property) (b : Body) → x.body ≡ b → property_operand p b ≡ Some a → (width : ℕ) × (node_width items a ≡ Some width)
    by property.Output (body.Output c) e is = output_operand items place x a w at (e ∙ ap (λ (n : ℕ). body.Output n) (same_Some c a is))
    by property.Output _ e is = absurd (none-some a is)
    by property.Bad (body.Bad c) e is = (1, bad_operand items place x a w at (e ∙ ap (λ (n : ℕ). body.Bad n) (same_Some c a is)))
    by property.Bad _ e is = absurd (none-some a is)
    by property.Constraint (body.Constraint c) e is = (1, constraint_operand items place x a w at (e ∙ ap (λ (n : ℕ). body.Constraint n) (same_Some c a is)))
    by property.Constraint _ e is = absurd (none-some a is)

-- Rows.

-- the row of a node is there, and is the one at its id
pub row_is_there : (items : List Item) (rows : List (List ℕ)) (a width : ℕ) → length rows ≡ length items → node_width items a ≡ Some width → is_some (row_of items rows a) ≡ true
row_is_there items rows a width all h =
    let node = node_place items a width h in
    let row = entry rows node.0 (omega (arith, slice_get_within items node.0 node.1 node.3)) in
    is_some_from (row_of items rows a) row.0 (ap (option_and_then (slice_get rows)) node.2 ∙ row.1)

pub row_at-of : (items : List Item) (rows : List (List ℕ)) (a : ℕ) (r : List ℕ) → row_of items rows a ≡ Some r → r ≡ row_at items rows (Some a)
unfolding row_at
row_at-of items rows a r h = sym (ap (λ (o : Option (List ℕ)). unwrap_or o []) h)

pub row_wide : (items : List Item) (n : Net) (rows : List (List ℕ)) (a width : ℕ) → RowsRead items n rows → length rows ≡ length items → node_width items a ≡ Some width → length (row_at items rows (Some a)) ≡ bits_of items a
row_wide items n rows a width reads all w = (row_at-reads items n rows a width reads all w).wide ∙ sym (ap (λ (o : Option ℕ). unwrap_or o 0) w)

pub row_short : (items : List Item) (n : Net) (rows : List (List ℕ)) (a width : ℕ) → IsWellFormed items → RowsRead items n rows → length rows ≡ length items → node_width items a ≡ Some width → length (row_at items rows (Some a)) ≤ 64
row_short items n rows a width w reads all node = omega (arith, row_wide items n rows a width reads all node, bits_of-most items a w)

pub row_defined : (items : List Item) (n : Net) (rows : List (List ℕ)) (a width : ℕ) → RowsRead items n rows → length rows ≡ length items → node_width items a ≡ Some width → All (IsDefined n) (row_at items rows (Some a))
row_defined items n rows a width reads all w = (row_at-reads items n rows a width reads all w).defined

-- no node has no row
row_none : (items : List Item) (rows : List (List ℕ)) → row_at items rows None ≡ []
unfolding row_at
row_none items rows = refl

-- What lines add.

-- a word of one bit
one_bit : (x : ℕ) → x < 2 → (x % 2 == 1) ≡ (x == 1)
one_bit x h = ap (λ (y : ℕ). y == 1) (omega arith)

word_values : (items : List Item) (n : Net) (rows : List (List ℕ)) (a width : ℕ) → RowsRead items n rows → length rows ≡ length items → node_width items a ≡ Some width
    → (state input f : Frame) (v : Valuation) → Together items n state input f v → map (literal_value v) (row_at items rows (Some a)) ≡ bits (bits_of items a) (f a)
word_values items n rows a width reads all node state input f v t =
    (row_at-reads items n rows a width reads all node).bits state input f v t ∙ ap (λ (o : Option ℕ). bits (unwrap_or o 0) (f a)) (sym node)

bit_values : (items : List Item) (n : Net) (rows : List (List ℕ)) (a : ℕ) → IsWellFormed items → RowsRead items n rows → length rows ≡ length items → node_width items a ≡ Some 1
    → (state input f : Frame) (v : Valuation) → Together items n state input f v → map (literal_value v) (row_at items rows (Some a)) ≡ (f a == 1) ∷ []
bit_values items n rows a w reads all node state input f v t =
    let width : bits_of items a ≡ 1 = ap (λ (o : Option ℕ). unwrap_or o 0) node in
    let fits : f a < 2 ^ bits_of items a = words_fit_frame items state input f w t.state_fits t.input_fits t.frame a (is_some_from (node_width items a) 1 node) in
    (row_at-reads items n rows a 1 reads all node).bits state input f v t ∙ ap (λ (b : Bool). b ∷ []) (one_bit (f a) (rw width at fits))

-- what the literals of a line read as in a frame
abbrev shown_by : Property → List Item → Frame → Body → List Bool
shown_by property.Output items f = shown_bits items f
shown_by property.Bad items f = observed f
shown_by property.Constraint items f = observed f

line_values : (p : Property) (items : List Item) (n : Net) (rows : List (List ℕ)) (place : ℕ) (x : Item) (b : Body) → IsWellFormed items → RowsRead items n rows → length rows ≡ length items → slice_get items place ≡ Some x → x.body ≡ b
    → (state input f : Frame) (v : Valuation) → Together items n state input f v → map (literal_value v) (property_literals items rows p b) ≡ cond (property_kind p b) (shown_by p items f b) []
line_values property.Output items n rows place x (body.Output a) w reads all at e state input f v t =
    let node = output_operand items place x a w at e in
    word_values items n rows a node.0 reads all node.1 state input f v t
line_values property.Output items n rows place x _ w reads all at e state input f v t = ap (map (literal_value v)) (row_none items rows)
line_values property.Bad items n rows place x (body.Bad a) w reads all at e state input f v t = bit_values items n rows a w reads all (bad_operand items place x a w at e) state input f v t
line_values property.Bad items n rows place x _ w reads all at e state input f v t = ap (map (literal_value v)) (row_none items rows)
line_values property.Constraint items n rows place x (body.Constraint a) w reads all at e state input f v t = bit_values items n rows a w reads all (constraint_operand items place x a w at e) state input f v t
line_values property.Constraint items n rows place x _ w reads all at e state input f v t = ap (map (literal_value v)) (row_none items rows)

-- the names of a line, by its symbol
abbrev named_by : Property → List Item → Option (List ℕ) → Body → Names
named_by property.Output items symbol b = bit_names symbol 0 (shown_width items b)
named_by property.Bad items symbol b = symbol ∷ []
named_by property.Constraint items symbol b = symbol ∷ []

-- that of a line of one bit
own_name_by : (p : Property) (symbol : Option (List ℕ)) (row : List ℕ) → ((s : List ℕ) → name_by p s 0 ≡ s) → length row ≡ 1 → names_by p symbol 0 (length row) ≡ symbol ∷ []
own_name_by p None row own one = ap (names_by p None 0) one
own_name_by p (Some s) row own one = ap (names_by p (Some s) 0) one ∙ ap (λ (name : List ℕ). Some name ∷ []) (own s)

line_names : (p : Property) (items : List Item) (n : Net) (rows : List (List ℕ)) (place : ℕ) (x : Item) (symbol : Option (List ℕ)) (b : Body) → IsWellFormed items → RowsRead items n rows → length rows ≡ length items → slice_get items place ≡ Some x → x.body ≡ b
    → names_by p symbol 0 (length (property_literals items rows p b)) ≡ cond (property_kind p b) (named_by p items symbol b) []
line_names property.Output items n rows place x symbol (body.Output a) w reads all at e =
    let node = output_operand items place x a w at e in
    names_by-output symbol 0 (length (row_at items rows (Some a))) ∙ ap (bit_names symbol 0) (row_wide items n rows a node.0 reads all node.1)
line_names property.Output items n rows place x symbol _ w reads all at e = ap (λ (row : List ℕ). names_by property.Output symbol 0 (length row)) (row_none items rows)
line_names property.Bad items n rows place x symbol (body.Bad a) w reads all at e =
    own_name_by property.Bad symbol (row_at items rows (Some a)) (λ s. refl) (row_at-reads items n rows a 1 reads all (bad_operand items place x a w at e)).wide
line_names property.Bad items n rows place x symbol _ w reads all at e = ap (λ (row : List ℕ). names_by property.Bad symbol 0 (length row)) (row_none items rows)
line_names property.Constraint items n rows place x symbol (body.Constraint a) w reads all at e =
    own_name_by property.Constraint symbol (row_at items rows (Some a)) (λ s. refl) (row_at-reads items n rows a 1 reads all (constraint_operand items place x a w at e)).wide
line_names property.Constraint items n rows place x symbol _ w reads all at e = ap (λ (row : List ℕ). names_by property.Constraint symbol 0 (length row)) (row_none items rows)

line_at_most : (p : Property) (items : List Item) (n : Net) (rows : List (List ℕ)) (place : ℕ) (x : Item) → IsWellFormed items → RowsRead items n rows → length rows ≡ length items → slice_get items place ≡ Some x
    → length (property_literals items rows p x.body) ≤ 64
line_at_most p items n rows place x w reads all at = by (property_operand p x.body) refl
  where
    by : (o : Option ℕ) → property_operand p x.body ≡ o → length (row_at items rows o) ≤ 64
    by None e = omega (arith, ap length (row_none items rows))
    by (Some a) e = let node = operand_there p items place x a w at e in row_short items n rows a node.0 w reads all node.1

-- What all lines add.

-- what lines of a kind give, and the others nothing
flat_by_kind : {A : Type 0} (kind : Item → Bool) (give own : Item → List A) (xs : List Item) → ((k : ℕ) (x : Item) → slice_get xs k ≡ Some x → give x ≡ cond (kind x) (own x) []) → flat_map give xs ≡ given_by_kind kind own xs
flat_by_kind kind give own [] h = refl
flat_by_kind kind give own (x ∷ xs) h = ap₂ (λ (l m : List _). l ++ m) (h 0 x refl) (flat_by_kind kind give own xs (λ k y at. h (suc k) y at))

map_flat : {A B : Type 0} (h : A → B) (give : Item → List A) (xs : List Item) → map h (flat_map give xs) ≡ flat_map (λ (x : Item). map h (give x)) xs
map_flat h give [] = refl
map_flat h give (x ∷ xs) = map-append h (give x) (flat_map give xs) ∙ ap (λ (l : List _). map h (give x) ++ l) (map_flat h give xs)

at_most_each : (give : Item → List ℕ) (xs : List Item) → ((k : ℕ) (x : Item) → slice_get xs k ≡ Some x → length (give x) ≤ 64) → length (flat_map give xs) ≤ 64 * length xs
at_most_each give [] h = omega arith
at_most_each give (x ∷ xs) h = omega (arith, length-append (give x) (flat_map give xs), h 0 x refl, at_most_each give xs (λ k y at. h (suc k) y at))

-- the literals and the names of the properties of a kind of some items
abbrev pub literals_among : List Item → List (List ℕ) → Property → List Item → List ℕ
literals_among items rows p xs = flat_map (λ (x : Item). property_literals items rows p x.body) xs

abbrev pub names_among : List Item → List (List ℕ) → Property → List Item → Names
names_among items rows p xs = flat_map (property_names items rows p) xs

all_values : (p : Property) (items : List Item) (n : Net) (rows : List (List ℕ)) → IsWellFormed items → RowsRead items n rows → length rows ≡ length items
    → (state input f : Frame) (v : Valuation) → Together items n state input f v → map (literal_value v) (literals_among items rows p items) ≡ given_by_kind (by_body (property_kind p)) (λ (x : Item). shown_by p items f x.body) items
all_values p items n rows w reads all state input f v t =
    map_flat (literal_value v) (λ (x : Item). property_literals items rows p x.body) items
    ∙ flat_by_kind (by_body (property_kind p)) (λ (x : Item). map (literal_value v) (property_literals items rows p x.body)) (λ (x : Item). shown_by p items f x.body) items
    (λ k x at. line_values p items n rows k x x.body w reads all at refl state input f v t)

all_names : (p : Property) (items : List Item) (n : Net) (rows : List (List ℕ)) → IsWellFormed items → RowsRead items n rows → length rows ≡ length items
    → names_among items rows p items ≡ given_by_kind (by_body (property_kind p)) (λ (x : Item). named_by p items x.symbol x.body) items
all_names p items n rows w reads all =
    flat_by_kind (by_body (property_kind p)) (property_names items rows p) (λ (x : Item). named_by p items x.symbol x.body) items
    (λ k x at. line_names p items n rows k x x.symbol x.body w reads all at refl)

-- a front with one item more
front_more : {A : Type 0} (give : Item → List A) (items : List Item) (k : ℕ) (x : Item) → slice_get items k ≡ Some x → flat_map give (take (k + 1) items) ≡ flat_map give (take k items) ++ give x
front_more give items k x at =
    let low = slice_get_within items k x at in
    let here : get_or items k x ≡ x = get_or_from_slice_get items k x x at in
    ap (flat_map give) (take_more items k x low)
    ∙ flat_map-append give (take k items) (get_or items k x ∷ [])
    ∙ ap (λ (l : List _). flat_map give (take k items) ++ l) (append-nil (give (get_or items k x)) ∙ ap give here)

-- which is within the whole
front_within : {A : Type 0} (give : Item → List A) (items : List Item) (k : ℕ) (x : Item) → slice_get items k ≡ Some x → length (flat_map give (take k items)) + length (give x) ≤ length (flat_map give items)
front_within give items k x at =
    let whole : flat_map give items ≡ flat_map give (take (k + 1) items) ++ flat_map give (drop (k + 1) items) =
    ap (flat_map give) (sym (take-append-drop (k + 1) items)) ∙ flat_map-append give (take (k + 1) items) (drop (k + 1) items) in
    omega
    (arith, ap length whole, length-append (flat_map give (take (k + 1) items)) (flat_map give (drop (k + 1) items)), ap length (front_more give items k x at), length-append (flat_map give (take k items)) (give x))

-- Adding properties.

pub Adds-none : (p : Property) (c : Circuit) → Adds p c [] [] c
Adds-none p c = record { own = sym (append-nil (section_names (property_section p) c)); others = λ t apart. refl; rest = by p }
  where
    by : (p : Property) → c ≡ record (with_more p c []) { names = c.names }
    by property.Output = ap (λ (l : List ℕ). record c { outputs = l }) (sym (append-nil c.outputs))
    by property.Bad = ap (λ (l : List ℕ). record c { bads = l }) (sym (append-nil c.bads))
    by property.Constraint = ap (λ (l : List ℕ). record c { constraints = l }) (sym (append-nil c.constraints))

pub Adds-equal : (p : Property) (old new : Circuit) (l m : List ℕ) (n k : Names) → l ≡ m → n ≡ k → Adds p old l n new → Adds p old m k new
Adds-equal p old new l m n k e f a = subst (λ (x : List ℕ). Adds p old x k new) e (subst (λ (x : Names). Adds p old l x new) f a)

Adds-then : (p : Property) (a b c : Circuit) (l m : List ℕ) (n k : Names) → Adds p a l n b → Adds p b m k c → Adds p a (l ++ m) (n ++ k) c
Adds-then p a b c l m n k x y =
    record {
      own = y.own ∙ ap (λ (names : Names). names ++ k) x.own ∙ append_assoc (section_names (property_section p) a) n k;
      others = λ t apart. y.others t apart ∙ x.others t apart;
      rest = y.rest ∙ ap (λ (d : Circuit). record (with_more p d m) { names = c.names }) x.rest ∙ by p;
    }
  where
    by : (p : Property) → record (with_more p (record (with_more p a l) { names = b.names }) m) { names = c.names } ≡ record (with_more p a (l ++ m)) { names = c.names }
    by property.Output = ap (λ (o : List ℕ). record a { outputs = o; names = c.names }) (append_assoc a.outputs l m)
    by property.Bad = ap (λ (o : List ℕ). record a { bads = o; names = c.names }) (append_assoc a.bads l m)
    by property.Constraint = ap (λ (o : List ℕ). record a { constraints = o; names = c.names }) (append_assoc a.constraints l m)

-- the gates stay
pub Adds-net : (p : Property) (old new : Circuit) (l : List ℕ) (n : Names) → Adds p old l n new → net new ≡ net old
Adds-net p old new l n a = ap net a.rest ∙ by p
  where
    by : (p : Property) → net (record (with_more p old l) { names = new.names }) ≡ net old
    by property.Output = refl
    by property.Bad = refl
    by property.Constraint = refl

pub Adds-reads : (p : Property) (items : List Item) (rows : List (List ℕ)) (old new : Circuit) (l : List ℕ) (n : Names) → Adds p old l n new → RowsRead items (net old) rows → RowsRead items (net new) rows
Adds-reads p items rows old new l n a reads = subst (λ (m : Net). RowsRead items m rows) (sym (Adds-net p old new l n a)) reads

-- and there are so many literals more
pub Adds-literals : (p : Property) (old new : Circuit) (l : List ℕ) (n : Names) → Adds p old l n new → literals_of p new ≡ literals_of p old ++ l
Adds-literals p old new l n a = ap (literals_of p) a.rest ∙ by p
  where
    by : (p : Property) → literals_of p (record (with_more p old l) { names = new.names }) ≡ literals_of p old ++ l
    by property.Output = refl
    by property.Bad = refl
    by property.Constraint = refl

-- One property.

same_count : (p : Property) (t : Section) (c : Circuit) (l : List ℕ) → property_section p ≢ t → section_count t (with_more p c l) ≡ section_count t c
same_count property.Output section.Output c l apart = absurd (apart refl)
same_count property.Output _ c l apart = refl
same_count property.Bad section.Bad c l apart = absurd (apart refl)
same_count property.Bad _ c l apart = refl
same_count property.Constraint section.Constraint c l apart = absurd (apart refl)
same_count property.Constraint _ c l apart = refl

one_more : (p : Property) (c : Circuit) (l : ℕ) → section_count (property_section p) (with_more p c (l ∷ [])) ≡ section_count (property_section p) c + 1
one_more property.Output c l = length-append c.outputs (l ∷ [])
one_more property.Bad c l = length-append c.bads (l ∷ [])
one_more property.Constraint c l = length-append c.constraints (l ∷ [])

more_keeps : (p : Property) (c : Circuit) (l : List ℕ) → (with_more p c l).names ≡ c.names
more_keeps property.Output c l = refl
more_keeps property.Bad c l = refl
more_keeps property.Constraint c l = refl

-- a literal that was added has no name
pub Adds-unnamed : (p : Property) (old new : Circuit) (l : ℕ) → IsCircuit old → new ≡ with_more p old (l ∷ []) → Adds p old (l ∷ []) (None ∷ []) new
Adds-unnamed p old new l valid e =
    let names : new.names ≡ old.names = ap (λ (c : Circuit). c.names) e ∙ more_keeps p old (l ∷ []) in
    record {
      own = section_names-push (property_section p) old new valid names (ap (section_count (property_section p)) e ∙ one_more p old l);
      others = λ t apart. section_names-same t old new names (ap (section_count t) e ∙ same_count p t old (l ∷ []) apart);
      rest = e ∙ ap (λ (n : NameMap). record (with_more p old (l ∷ [])) { names = n }) (sym (ap (λ (c : Circuit). c.names) e));
    }

-- its position, which is behind those before it, may be named
pub Adds-free : (p : Property) (old new : Circuit) (l : ℕ) → Adds p old (l ∷ []) (None ∷ []) new → slice_get (section_names (property_section p) new) (section_count (property_section p) old) ≡ Some None
Adds-free p old new l a =
    let s = property_section p in
    let e : section_count s old ≡ section_count s old + 0 = omega arith in
    let none : Names = None ∷ [] in
    ap₂ slice_get a.own e ∙ slice_get-behind (section_names s old) none (section_count s old) 0 (length-section_names s old)

pub Adds-named : (p : Property) (old cur new : Circuit) (l : ℕ) (name : List ℕ) → Adds p old (l ∷ []) (None ∷ []) cur
    → Renames (property_section p) cur (set (section_names (property_section p) cur) (section_count (property_section p) old) (Some name)) new → Adds p old (l ∷ []) (Some name ∷ []) new
Adds-named p old cur new l name a r =
    let s = property_section p in
    record {
      own = r.own ∙ ap (λ (names : Names). set names (section_count s old) (Some name)) a.own ∙ set_at (section_names s old) None [] (Some name) (section_count s old) (length-section_names s old);
      others = λ t apart. r.others t apart ∙ a.others t apart;
      rest = r.rest ∙ ap (λ (c : Circuit). record c { names = new.names }) a.rest;
    }

-- Properties of a row.

pub Adds-bit : (p : Property) (old cur new : Circuit) (row : List ℕ) (symbol : Option (List ℕ)) (bit l : ℕ) → Adds p old (take bit row) (names_by p symbol 0 bit) cur → bit < length row → l ≡ get_or row bit 0
    → Adds p cur (l ∷ []) (names_by p symbol bit 1) new → Adds p old (take (bit + 1) row) (names_by p symbol 0 (bit + 1)) new
Adds-bit p old cur new row symbol bit l a low is more =
    Adds-equal p old new _ _ _ _ (sym (take_more row bit 0 low ∙ ap (λ (m : ℕ). take bit row ++ m ∷ []) (sym is))) (sym (names_by-more p symbol bit))
    (Adds-then p old cur new (take bit row) (l ∷ []) (names_by p symbol 0 bit) (names_by p symbol bit 1) a more)

pub Adds-bits_few : (p : Property) (old cur : Circuit) (row : List ℕ) (names : Names) (bit most : ℕ) → Adds p old (take bit row) names cur → bit < length row → length (literals_of p old) + length row ≤ most → length (literals_of p cur) < most
Adds-bits_few p old cur row names bit most a low room =
    omega (arith, ap length (Adds-literals p old cur (take bit row) names a), length-append (literals_of p old) (take bit row), length-take bit row)

-- the row of a line
pub row_of_line : (items : List Item) (rows : List (List ℕ)) (p : Property) (x : Item) (a : ℕ) (r : List ℕ) → row_of items rows a ≡ Some r → Some a ≡ property_operand p x.body → r ≡ property_literals items rows p x.body
row_of_line items rows p x a r found is = row_at-of items rows a r found ∙ ap (row_at items rows) is

pub Adds-row : (p : Property) (items : List Item) (rows : List (List ℕ)) (old new : Circuit) (x : Item) (a : ℕ) (r : List ℕ) → row_of items rows a ≡ Some r → Some a ≡ property_operand p x.body
    → Adds p old r (names_by p x.symbol 0 (length r)) new → Adds p old (property_literals items rows p x.body) (property_names items rows p x) new
Adds-row p items rows old new x a r found is added =
    subst (λ (l : List ℕ). Adds p old l (names_by p x.symbol 0 (length l)) new) (row_of_line items rows p x a r found is) added

-- a line of another kind adds none
pub Adds-no_row : (p : Property) (items : List Item) (rows : List (List ℕ)) (c : Circuit) (x : Item) → None ≡ property_operand p x.body → Adds p c (property_literals items rows p x.body) (property_names items rows p x) c
Adds-no_row p items rows c x is = subst (λ (l : List ℕ). Adds p c l (names_by p x.symbol 0 (length l)) c) (sym (row_none items rows) ∙ ap (row_at items rows) is) (Adds-none p c)

-- Properties of a model.

-- a circuit with those of the first so many items
abbrev pub WithKind : Property → List Item → List (List ℕ) → Circuit → Circuit → ℕ → Type 0
WithKind p items rows old cur k = Adds p old (literals_among items rows p (take k items)) (names_among items rows p (take k items)) cur

pub WithKind-more : (p : Property) (items : List Item) (rows : List (List ℕ)) (old cur new : Circuit) (k : ℕ) (x : Item) → WithKind p items rows old cur k → slice_get items k ≡ Some x
    → Adds p cur (property_literals items rows p x.body) (property_names items rows p x) new → WithKind p items rows old new (k + 1)
WithKind-more p items rows old cur new k x a at more =
    Adds-equal p old new _ _ _ _ (sym (front_more (λ (y : Item). property_literals items rows p y.body) items k x at)) (sym (front_more (property_names items rows p) items k x at))
    (Adds-then p old cur new (literals_among items rows p (take k items)) (property_literals items rows p x.body) (names_among items rows p (take k items)) (property_names items rows p x) a more)

pub WithKind-few : (p : Property) (items : List Item) (n : Net) (rows : List (List ℕ)) (old cur : Circuit) (k : ℕ) (x : Item) → IsWellFormed items → RowsRead items n rows → length rows ≡ length items → WithKind p items rows old cur k
    → literals_of p old ≡ [] → slice_get items k ≡ Some x → length (literals_of p cur) + length (property_literals items rows p x.body) ≤ greatest_count
WithKind-few p items n rows old cur k x w reads all a none at =
    let front = literals_among items rows p (take k items) in
    let give : Item → List ℕ = λ y. property_literals items rows p y.body in
    omega (
      arith,
      ap length (Adds-literals p old cur front (names_among items rows p (take k items)) a),
      length-append (literals_of p old) front,
      ap length none,
      front_within give items k x at,
      at_most_each give items (λ j y there. line_at_most p items n rows j y w reads all there),
      few_items items w,
    )

pub WithKind-reads : (p : Property) (items : List Item) (rows : List (List ℕ)) (old cur : Circuit) (k : ℕ) → WithKind p items rows old cur k → RowsRead items (net old) rows → RowsRead items (net cur) rows
WithKind-reads p items rows old cur k a reads = Adds-reads p items rows old cur _ _ a reads

pub WithKind-all : (p : Property) (items : List Item) (rows : List (List ℕ)) (old cur : Circuit) (k : ℕ) → WithKind p items rows old cur k → length items ≤ k → Adds p old (literals_among items rows p items) (names_among items rows p items) cur
WithKind-all p items rows old cur k a end = Adds-equal p old cur _ _ _ _ (ap (literals_among items rows p) (take_all k items end)) (ap (names_among items rows p) (take_all k items end)) a

-- All of them.

no_positions : (s : Section) (c : Circuit) → section_count s c ≡ 0 → section_names s c ≡ []
no_positions s c none = ap (λ (n : ℕ). map (name_of c s) (range_with_len 0 n)) none

same_lists : (c : Circuit) (names : NameMap) (o o' b b' k k' : List ℕ) → o ≡ o' → b ≡ b' → k ≡ k' → record c { outputs = o; bads = b; constraints = k; names = names } ≡ record c { outputs = o'; bads = b'; constraints = k'; names = names }
same_lists c names o o' b b' k k' p q r = rw (p, q, r) refl

pub TakesProperties-made : (items : List Item) (rows : List (List ℕ)) (c0 c1 c2 c3 : Circuit) → IsWellFormed items → RowsRead items (net c0) rows → length rows ≡ length items → c0.outputs ≡ [] → c0.bads ≡ [] → c0.constraints ≡ []
    → Adds property.Output c0 (literals_among items rows property.Output items) (names_among items rows property.Output items) c1
    → Adds property.Bad c1 (literals_among items rows property.Bad items) (names_among items rows property.Bad items) c2
    → Adds property.Constraint c2 (literals_among items rows property.Constraint items) (names_among items rows property.Constraint items) c3
    → TakesProperties items c0 c3
TakesProperties-made items rows c0 c1 c2 c3 w reads all no_outputs no_bads no_constraints o b k =
    let own : Property → List ℕ = λ p. literals_among items rows p items in
    let bads0 : c1.bads ≡ [] = ap (λ (c : Circuit). c.bads) o.rest ∙ no_bads in
    let constraints0 : c2.constraints ≡ [] = ap (λ (c : Circuit). c.constraints) b.rest ∙ ap (λ (c : Circuit). c.constraints) o.rest ∙ no_constraints in
    let outputs : c3.outputs ≡ own property.Output =
    ap (λ (c : Circuit). c.outputs) k.rest ∙ ap (λ (c : Circuit). c.outputs) b.rest ∙ ap (λ (c : Circuit). c.outputs) o.rest ∙ ap (λ (l : List ℕ). l ++ own property.Output) no_outputs in
    let bads : c3.bads ≡ own property.Bad = ap (λ (c : Circuit). c.bads) k.rest ∙ ap (λ (c : Circuit). c.bads) b.rest ∙ ap (λ (l : List ℕ). l ++ own property.Bad) bads0 in
    let constraints : c3.constraints ≡ own property.Constraint = ap (λ (c : Circuit). c.constraints) k.rest ∙ ap (λ (l : List ℕ). l ++ own property.Constraint) constraints0 in
    record {
      outputs = record { values = λ state input f v t. ap (map (literal_value v)) outputs ∙ all_values property.Output items (net c0) rows w reads all state input f v t };
      bads = record { values = λ state input f v t. ap (map (literal_value v)) bads ∙ all_values property.Bad items (net c0) rows w reads all state input f v t };
      constraints = record { values = λ state input f v t. ap (map (literal_value v)) constraints ∙ all_values property.Constraint items (net c0) rows w reads all state input f v t };
      output_names = k.others section.Output (λ q. cc) ∙ b.others section.Output (λ q. cc) ∙ o.own
          ∙ ap₂ (λ (l m : Names). l ++ m) (no_positions section.Output c0 (ap length no_outputs)) (all_names property.Output items (net c0) rows w reads all);
      bad_names = k.others section.Bad (λ q. cc) ∙ b.own ∙ ap₂ (λ (l m : Names). l ++ m) (no_positions section.Bad c1 (ap length bads0)) (all_names property.Bad items (net c0) rows w reads all);
      constraint_names = k.own ∙ ap₂ (λ (l m : Names). l ++ m) (no_positions section.Constraint c2 (ap length constraints0)) (all_names property.Constraint items (net c0) rows w reads all);
      input_names = k.others section.Input (λ q. cc) ∙ b.others section.Input (λ q. cc) ∙ o.others section.Input (λ q. cc);
      latch_names = k.others section.Latch (λ q. cc) ∙ b.others section.Latch (λ q. cc) ∙ o.others section.Latch (λ q. cc);
      rest = k.rest ∙ ap (λ (c : Circuit). record (with_more property.Constraint c (own property.Constraint)) { names = c3.names }) b.rest
          ∙ ap (λ (c : Circuit). record (with_more property.Constraint (with_more property.Bad c (own property.Bad)) (own property.Constraint)) { names = c3.names }) o.rest
          ∙ same_lists c0 c3.names _ _ _ _ _ _ (ap (λ (l : List ℕ). l ++ own property.Output) no_outputs ∙ sym outputs)
          (ap (λ (l : List ℕ). l ++ own property.Bad) no_bads ∙ sym bads) (ap (λ (l : List ℕ). l ++ own property.Constraint) no_constraints ∙ sym constraints);
    }
