-- What a line of a model agrees with, and that its form over the nodes of its operands is sound.
use Rattle.std.proofs.Common.{◌≡◌, ℕ, suc, Bool, true, false, ◌&&◌, List, [], ◌∷◌, ◌++◌, slice_get, Option, Some, None, is_some, IfSome, unwrap_or, option_and_then, append_assoc, refl, sym, ap, subst, ◌∙◌}
use Prim.Native.Nat.{zero}
use Rattle.std.specs.List.{AllByRecursion, list_all}
use Rattle.std.proofs.lemmas.Option.{none-some, same_Some}
use Rattle.btor2.specs.declared.item.Item.{Item}
use Rattle.btor2.specs.declared.item.Body.{Body}
use Rattle.btor2.specs.declared.item.Body.TheVariants as body
use Rattle.btor2.specs.Items.{node_sort, named_sort, operands, node_width, sort_width}
use Rattle.btor2.specs.Check.{widths_agree, is_no_slice, slice_is_out_of_range}
use Rattle.btor2.specs.Trace.{bits_of}
use Rattle.btor2.proofs.AppendLemmas.{some_of}
use Rattle.wide.specs.WideModels.{greatest_width, constant_fits_within}
use Rattle.full.specs.Lines.{Operand, with_minuses, Says, form, FullLine, Sort, operands_of, find_line, sort_at, sort_named, sort_of, sort_of_node, size_of, width_of}
use Rattle.full.specs.Agreement.{LineAgrees, SaysAgree, WidthsAgree, IsFullAfter, IsFullModel}
use Rattle.full.proofs.FullLookUps.{sort_on, node_on, each_nodes, each_found}
use Rattle.cells.specs.Kept.{IsSound}
use Rattle.cells.proofs.SoundLemmas.{sound_node}
use Rattle.writeout.specs.Forms.{is_value, renamed}
use Rattle.writeout.specs.Nodes.{IsLine}
use Rattle.writeout.proofs.FormLemmas.{AtPlace, widths_same, IsForm, renamed_form, renamed_operands}
use Rattle.writeout.proofs.NeedLemmas.{all_get}

-- a line among the others
pub record AgreesAt (full : List FullLine) (x : FullLine) : Type 0 where
  pub front : List FullLine
  pub rest : List FullLine
  pub is : full ≡ front ++ x ∷ rest
  pub agrees : LineAgrees front x

agrees_from : (before xs : List FullLine) (k : ℕ) (x : FullLine) → IsFullAfter before xs → slice_get xs k ≡ Some x → AgreesAt (before ++ xs) x
agrees_from before [] k x h e = absurd (none-some x e)
agrees_from before (y ∷ ys) zero x h e = record { front = before; rest = ys; is = ap (λ (z : FullLine). before ++ z ∷ ys) (same_Some y x e); agrees = subst (LineAgrees before) (same_Some y x e) h.0 }
agrees_from before (y ∷ ys) (suc k) x h e = subst (λ (l : List FullLine). AgreesAt l x) (append_assoc before (y ∷ []) ys) (agrees_from (before ++ y ∷ []) ys k x h.1 e)

pub agrees_at : (full : List FullLine) (x : FullLine) → IsFullModel full → IsLine full x → AgreesAt full x
agrees_at full x w line = agrees_from [] full line.place x w line.at

pub line_found : (full : List FullLine) (x : FullLine) → IsFullModel full → IsLine full x → find_line full x.id ≡ Some x
line_found full x w line = all_get (λ (y : FullLine). find_line full y.id ≡ Some y) full line.place x (each_found full w) line.at

pub line_nodes : (full : List FullLine) (x : FullLine) → IsFullModel full → IsLine full x → AllByRecursion (λ (o : Operand). is_some (sort_of_node full o.id) ≡ true) (operands_of x.says)
line_nodes full x w line = all_get (λ (y : FullLine). AllByRecursion (λ (o : Operand). is_some (sort_of_node full o.id) ≡ true) (operands_of y.says)) full line.place x (each_nodes full w) line.at

-- the sort of a line's node
pub line_node : (full : List FullLine) (x : FullLine) → IsFullModel full → IsLine full x → sort_of_node full x.id ≡ sort_of full x.says
line_node full x w line = ap (option_and_then (λ (y : FullLine). sort_of full y.says)) (line_found full x w line)

-- ---- forms

-- what is so of each operand is so of that at a place
pub minuses_at : (P : ℕ → Type 0) (ids : List ℕ) (minuses : List Bool) (k : ℕ) → AllByRecursion (λ (o : Operand). P o.id) (with_minuses ids minuses) → AtPlace ids k P
minuses_at P [] minuses k h = tt
minuses_at P (a ∷ ids) [] zero h = h.0
minuses_at P (a ∷ ids) [] (suc k) h = minuses_at P ids [] k h.1
minuses_at P (a ∷ ids) (m ∷ minuses) zero h = h.0
minuses_at P (a ∷ ids) (m ∷ minuses) (suc k) h = minuses_at P ids minuses k h.1

pub at_with : (P Q : ℕ → Type 0) (ids : List ℕ) (k : ℕ) → ((a : ℕ) → P a → Q a) → AtPlace ids k P → AtPlace ids k Q
at_with P Q ids k f h = by (slice_get ids k) h
  where
    by : (o : Option ℕ) → IfSome o P → IfSome o Q
    by None h = tt
    by (Some a) h = f a h

at_with₂ : (P Q R : ℕ → Type 0) (ids : List ℕ) (k : ℕ) → ((a : ℕ) → P a → Q a → R a) → AtPlace ids k P → AtPlace ids k Q → AtPlace ids k R
at_with₂ P Q R ids k f h i = by (slice_get ids k) h i
  where
    by : (o : Option ℕ) → IfSome o P → IfSome o Q → IfSome o R
    by None h i = tt
    by (Some a) h i = f a h i

width_on : (front rest : List FullLine) (x : FullLine) (full : List FullLine) (a : ℕ) → full ≡ front ++ x ∷ rest → is_some (sort_of_node front a) ≡ true → width_of front a ≡ width_of full a
width_on front rest x full a e there =
    let s = some_of (sort_of_node front a) there in
    ap size_of (s.1 ∙ sym (node_on front (x ∷ rest) a s.0 s.1)) ∙ ap (λ (l : List FullLine). width_of l a) (sym e)

-- the widths of a form, and the bits of a slice
abbrev pub SliceFits : (ℕ → ℕ) → Body → Type 0
SliceFits node (body.Slice s a u l) = is_no_slice (node a) u l ≡ false
SliceFits node _ = Unit {0}

value_widths : (front : List FullLine) (b : Body) → is_value b ≡ true → WidthsAgree front b → (widths_agree (λ k. size_of (sort_at front k)) (width_of front) b ≡ true) × SliceFits (width_of front) b
value_widths front (body.Zero s) value h = (h, tt)
value_widths front (body.One s) value h = (h, tt)
value_widths front (body.Ones s) value h = (h, tt)
value_widths front (body.Const s d v) value h = (h, tt)
value_widths front (body.Constd s v) value h = (h, tt)
value_widths front (body.Consth s d v) value h = (h, tt)
value_widths front (body.Uext s a by) value h = (h, tt)
value_widths front (body.Sext s a by) value h = (h, tt)
value_widths front (body.Slice s a u l) value h = h
value_widths front (body.Unary op s a) value h = (h, tt)
value_widths front (body.Binary op s a b) value h = (h, tt)
value_widths front (body.Concat s a b) value h = (h, tt)
value_widths front (body.Ite s c t e) value h = (h, tt)
value_widths front _ value h = absurd (cc)

slice_sound : (items : List Item) (node : ℕ → ℕ) (r x y z : ℕ) (b : Body) → is_value b ≡ true → SliceFits node b → AtPlace (operands b) 0 (λ a. node a ≡ bits_of items x) → slice_is_out_of_range items (renamed r x y z b) ≡ false
unfolding slice_is_out_of_range
slice_sound items node r x y z (body.Zero s) value h k = refl
slice_sound items node r x y z (body.One s) value h k = refl
slice_sound items node r x y z (body.Ones s) value h k = refl
slice_sound items node r x y z (body.Const s d v) value h k = refl
slice_sound items node r x y z (body.Constd s v) value h k = refl
slice_sound items node r x y z (body.Consth s d v) value h k = refl
slice_sound items node r x y z (body.Uext s a by) value h k = refl
slice_sound items node r x y z (body.Sext s a by) value h k = refl
slice_sound items node r x y z (body.Slice s a u l) value h k = ap (λ (n : ℕ). is_no_slice n u l) (sym k) ∙ h
slice_sound items node r x y z (body.Unary op s a) value h k = refl
slice_sound items node r x y z (body.Binary op s a b) value h k = refl
slice_sound items node r x y z (body.Concat s a b) value h k = refl
slice_sound items node r x y z (body.Ite s c t e) value h k = refl
slice_sound items node r x y z _ value h k = absurd (cc)

all_true : (test : ℕ → Bool) (ids : List ℕ) → AllByRecursion (λ a. test a ≡ true) ids → list_all test ids ≡ true
all_true test [] h = refl
all_true test (a ∷ ids) h = ap (λ (c : Bool). c && list_all test ids) h.0 ∙ all_true test ids h.1

value_named : (b : Body) → is_value b ≡ true → (s : ℕ) × (node_sort b ≡ Some s) × (named_sort b ≡ Some s)
value_named (body.Zero s) value = (s, refl, refl)
value_named (body.One s) value = (s, refl, refl)
value_named (body.Ones s) value = (s, refl, refl)
value_named (body.Const s d v) value = (s, refl, refl)
value_named (body.Constd s v) value = (s, refl, refl)
value_named (body.Consth s d v) value = (s, refl, refl)
value_named (body.Uext s a by) value = (s, refl, refl)
value_named (body.Sext s a by) value = (s, refl, refl)
value_named (body.Slice s a u l) value = (s, refl, refl)
value_named (body.Unary op s a) value = (s, refl, refl)
value_named (body.Binary op s a b) value = (s, refl, refl)
value_named (body.Concat s a b) value = (s, refl, refl)
value_named (body.Ite s c t e) value = (s, refl, refl)
value_named _ value = absurd (cc)

-- the sort of a form with a value, among the lines before it
record FormSort (full front : List FullLine) (t : FullLine) (b : Body) : Type 0 where
  sort : ℕ
  node : node_sort b ≡ Some sort
  named : named_sort b ≡ Some sort
  there : is_some (sort_of_node full t.id) ≡ true
  size : size_of (sort_at front sort) ≡ width_of full t.id

form_sort : (full : List FullLine) (t : FullLine) (b : Body) (minuses : List Bool) (own : AgreesAt full t) → IsFullModel full → IsLine full t → t.says ≡ form b minuses → is_value b ≡ true → FormSort full own.front t b
form_sort full t b minuses own w line says value = record {
  sort = named.0;
  node = named.1;
  named = named.2;
  there = ap is_some (is ∙ found);
  size = ap size_of (s.1 ∙ sym (is ∙ found));
}
  where
    named : (s : ℕ) × (node_sort b ≡ Some s) × (named_sort b ≡ Some s)
    named = value_named b value

    s : (v : Sort) × (sort_at own.front named.0 ≡ Some v)
    s = some_of (sort_at own.front named.0) (subst (λ (o : Option ℕ). IfSome o (λ s. is_some (sort_at own.front s) ≡ true)) (ap sort_named says ∙ named.1) own.agrees.sort)

    found : sort_at full named.0 ≡ Some s.0
    found = ap (λ (l : List FullLine). sort_at l named.0) own.is ∙ sort_on own.front (t ∷ own.rest) named.0 s.0 s.1

    is : sort_of_node full t.id ≡ sort_at full named.0
    is = line_node full t w line ∙ ap (sort_of full) says ∙ ap (option_and_then (sort_at full)) named.1

-- a form's node has a sort, and a constant fits it
pub form_there : (full : List FullLine) (t : FullLine) (b : Body) (minuses : List Bool) → IsFullModel full → IsLine full t → t.says ≡ form b minuses → is_value b ≡ true → is_some (sort_of_node full t.id) ≡ true
form_there full t b minuses w line says value = (form_sort full t b minuses (agrees_at full t w line) w line says value).there

pub form_fits : (full : List FullLine) (t : FullLine) (b : Body) (minuses : List Bool) → IsFullModel full → IsLine full t → t.says ≡ form b minuses → is_value b ≡ true → constant_fits_within greatest_width (width_of full t.id) b ≡ true
form_fits full t b minuses w line says value =
    let own = agrees_at full t w line in
    let its = form_sort full t b minuses own w line says value in
    let agrees : SaysAgree own.front (form b minuses) = subst (SaysAgree own.front) says own.agrees.agrees in
    ap (λ (n : ℕ). constant_fits_within greatest_width n b) (sym its.size ∙ ap (λ (o : Option ℕ). size_of (sort_at own.front (unwrap_or o 0))) (sym its.named)) ∙ agrees.2

-- operands that are there as wide
abbrev pub AsWide : List FullLine → List Item → ℕ → ℕ → Type 0
AsWide full items x a = node_width items x ≡ Some (width_of full a)

pub form_sound : (full : List FullLine) (t : FullLine) (b : Body) (minuses : List Bool) (items : List Item) (r x y z : ℕ) → IsFullModel full → IsLine full t → t.says ≡ form b minuses → is_value b ≡ true
    → sort_width items r ≡ Some (width_of full t.id) → AtPlace (operands b) 0 (AsWide full items x) → AtPlace (operands b) 1 (AsWide full items y) → AtPlace (operands b) 2 (AsWide full items z)
    → IsSound items (renamed r x y z b)
form_sound full t b minuses items r x y z w line says value sort at0 at1 at2 =
    sound_node items (renamed r x y z b) r (width_of full t.id) form_is.sort sort
    (all_true (λ a. is_some (node_width items a)) (operands (renamed r x y z b))
    (renamed_operands (λ a. is_some (node_width items a) ≡ true) r x y z b value (at_with (AsWide full items x) (λ a. is_some (node_width items x) ≡ true) (operands b) 0 (λ a h. ap is_some h) at0)
    (at_with (AsWide full items y) (λ a. is_some (node_width items y) ≡ true) (operands b) 1 (λ a h. ap is_some h) at1) (at_with (AsWide full items z) (λ a. is_some (node_width items z) ≡ true) (operands b) 2 (λ a h. ap is_some h) at2)))
    (slice_sound items (width_of own.front) r x y z b value widths.1 (same x 0 at0))
    (sym (widths_same (λ k. size_of (sort_at own.front k)) (width_of own.front) (λ k. unwrap_or (sort_width items k) 0) (bits_of items) r x y z b value sort_same (same x 0 at0) (same y 1 at1) (same z 2 at2)) ∙ widths.0)
    (form_is.fits (width_of full t.id) ∙ form_fits full t b minuses w line says value)
  where
    own : AgreesAt full t
    own = agrees_at full t w line

    form_is : IsForm r b (renamed r x y z b)
    form_is = renamed_form r x y z b value

    its : FormSort full own.front t b
    its = form_sort full t b minuses own w line says value

    agrees : SaysAgree own.front (form b minuses)
    agrees = subst (SaysAgree own.front) says own.agrees.agrees

    widths : (widths_agree (λ k. size_of (sort_at own.front k)) (width_of own.front) b ≡ true) × SliceFits (width_of own.front) b
    widths = value_widths own.front b value agrees.1

    sort_same : size_of (sort_at own.front (unwrap_or (node_sort b) 0)) ≡ unwrap_or (sort_width items r) 0
    sort_same = ap (λ (o : Option ℕ). size_of (sort_at own.front (unwrap_or o 0))) its.node ∙ its.size ∙ sym (ap (λ (o : Option ℕ). unwrap_or o 0) sort)

    nodes : AllByRecursion (λ (o : Operand). is_some (sort_of_node own.front o.id) ≡ true) (with_minuses (operands b) minuses)
    nodes = subst (λ (c : Says). AllByRecursion (λ (o : Operand). is_some (sort_of_node own.front o.id) ≡ true) (operands_of c)) says own.agrees.nodes

    same : (v k : ℕ) → AtPlace (operands b) k (AsWide full items v) → AtPlace (operands b) k (λ a. width_of own.front a ≡ bits_of items v)
    same v k h =
        at_with₂ (λ a. is_some (sort_of_node own.front a) ≡ true) (AsWide full items v) (λ a. width_of own.front a ≡ bits_of items v) (operands b) k
        (λ a there wide. width_on own.front own.rest t full a own.is there ∙ sym (ap (λ (o : Option ℕ). unwrap_or o 0) wide))
        (minuses_at (λ a. is_some (sort_of_node own.front a) ≡ true) (operands b) minuses k nodes) h

-- ---- nodes

pub nodes_at : (full : List FullLine) (t : FullLine) (b : Body) (minuses : List Bool) (k : ℕ) → IsFullModel full → IsLine full t → t.says ≡ form b minuses → AtPlace (operands b) k (λ a. is_some (sort_of_node full a) ≡ true)
nodes_at full t b minuses k w line says =
    minuses_at (λ a. is_some (sort_of_node full a) ≡ true) (operands b) minuses k (subst (λ (c : Says). AllByRecursion (λ (o : Operand). is_some (sort_of_node full o.id) ≡ true) (operands_of c)) says (line_nodes full t w line))

-- a line with a value has a sort
pub line_valued : (full : List FullLine) (t : FullLine) → IsFullModel full → IsLine full t → is_some (sort_named t.says) ≡ true → is_some (sort_of_node full t.id) ≡ true
line_valued full t w line named =
    let own = agrees_at full t w line in
    let s = some_of (sort_named t.says) named in
    let there = subst (λ (o : Option ℕ). IfSome o (λ s. is_some (sort_at own.front s) ≡ true)) s.1 own.agrees.sort in
    let sort = some_of (sort_at own.front s.0) there in
    ap is_some (line_node full t w line ∙ ap (option_and_then (sort_at full)) s.1 ∙ ap (λ (l : List FullLine). sort_at l s.0) own.is ∙ sort_on own.front (t ∷ own.rest) s.0 sort.0 sort.1)

pub form_valued : (full : List FullLine) (t : FullLine) (b : Body) (minuses : List Bool) → IsFullModel full → IsLine full t → t.says ≡ form b minuses → is_value b ≡ true → is_some (sort_of_node full t.id) ≡ true
form_valued full t b minuses w line says value = line_valued full t w line (ap (λ (c : Says). is_some (sort_named c)) says ∙ ap is_some (value_named b value).1)
