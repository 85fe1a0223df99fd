-- The rows of lines that take no gate, and of choices: what stands before them, and that they read as their words.
use Rattle.std.proofs.Common.{◌≡◌, ℕ, ◌+◌, ◌-◌, ◌<◌, ◌≤◌, Bool, true, false, List, ◌++◌, length, Option, Some, None, IfSome, is_some, unwrap_or, option_and_then, slice_get, take, drop, map, replicate, refl, sym, ap, ap₂, subst, ◌∙◌, arith}
use Rattle.std.proofs.lemmas.Option.{none-some, same_Some}
use Rattle.base.specs.Word.{bits}
use Rattle.base.specs.Operator.{ones, ite_value, slice_value, uext_value, sext_value, concat_value}
use Rattle.base.specs.Signed.{wrapped}
use Rattle.btor2.specs.declared.item.Item.{Item}
use Rattle.btor2.specs.declared.item.Body.{Body}
use Rattle.btor2.specs.declared.item.Body.TheVariants as body
use Rattle.base.specs.declared.operators.Unary.{Unary}
use Rattle.base.specs.declared.operators.Binary.{Binary}
use Rattle.btor2.specs.Items.{is_input, is_state, node_width, width_of_body, sort_width, constant_word, constant_of_body}
use Rattle.btor2.specs.Lists.{constant_at}
use Rattle.btor2.specs.Check.{IsWellFormed}
use Rattle.btor2.specs.Trace.{Frame, bits_of, line_word}
use Rattle.btor2.proofs.AppendLemmas.{is_some_from}
use Rattle.btor2.proofs.AcceptedLemmas.{BodyIsAccepted}
use Rattle.btor2.proofs.ModelLemmas.{IsIn, IsIn-from_place, IsAccepted-at, node_width-at, sort_width-range}
use Rattle.aiger.specs.Net.{Net}
use Rattle.gates.specs.Bound.{ite_bound}
use Rattle.gates.proofs.GrowthLemmas.{Grows-refl}
use Rattle.blast.specs.Cost.{line_cost}
use Rattle.blast.specs.declared.nodes.NextLeaf.{NextLeaf}
use Rattle.blast.specs.Reads.{ReadsWord}
use Rattle.blast.specs.Rows.{bit_literal, word_literals}
use Rattle.blast.specs.Table.{MakesNode, MakesRow, IsOperand, LowersFront, row_of, next_after}
use Rattle.blast.proofs.NodeLemmas.{MakesRow-from_node, LineHolds-at}
use Rattle.blast.proofs.NodeRows.{operand_at, sort_at, sort_wide, MakesRow-form}
use Rattle.blast.proofs.PlacedLemmas.{top, MakesNode-constant, MakesNode-uext, MakesNode-sext, MakesNode-slice, MakesNode-concat}

-- Operands.

-- the row that is found is the operand's
pub own_row : (items : List Item) (n : Net) (rows : List (List ℕ)) (id : ℕ) (r : List ℕ) → (o : IsOperand items n rows id) → row_of items rows id ≡ Some r → o.row ≡ r
own_row items n rows id r o h = same_Some o.row r (sym o.at ∙ h)

pub own_wide : (items : List Item) (n : Net) (rows : List (List ℕ)) (id : ℕ) (r : List ℕ) → IsOperand items n rows id → row_of items rows id ≡ Some r → length r ≡ bits_of items id
own_wide items n rows id r o h = ap length (sym (own_row items n rows id r o h)) ∙ o.reads.wide

pub row_there : (items : List Item) (n : Net) (rows : List (List ℕ)) (id : ℕ) → IsOperand items n rows id → is_some (row_of items rows id) ≡ true
row_there items n rows id o = is_some_from (row_of items rows id) o.row o.at

-- Wider words.

pub record WiderStands (items : List Item) (n : Net) (rows : List (List ℕ)) (s a by : ℕ) : Type 0 where
  pub operand : IsOperand items n rows a
  pub wide : unwrap_or (sort_width items s) 0 ≡ bits_of items a + by
  pub room : bits_of items a + by ≤ 64

wider_from : (items : List Item) (place : ℕ) (n : Net) (rows : List (List ℕ)) (next : NextLeaf) (x : Item) (s a by width : ℕ) → IsWellFormed items → LowersFront items place n rows next → (there : (w : IsIn items x) × (length w.before ≡ place))
    → node_width there.0.before a ≡ Some width → sort_width there.0.before s ≡ Some (width + by) → WiderStands items n rows s a by
wider_from items place n rows next x s a by width w front there node sort =
    let of_a = operand_at items place n rows next x a width w front there node in
    let whole = sort_at items x s (width + by) there.0 sort in
    let range = sort_width-range items s (width + by) w whole in
    record {
      operand = of_a.0;
      wide = sort_wide items s (width + by) whole ∙ ap (λ (k : ℕ). k + by) (sym of_a.1);
      room = omega (arith, of_a.1, range.1);
    }

pub UextStands-at : (items : List Item) (place : ℕ) (n : Net) (rows : List (List ℕ)) (next : NextLeaf) (x : Item) (s a by : ℕ) → IsWellFormed items → LowersFront items place n rows next → slice_get items place ≡ Some x
    → x.body ≡ body.Uext s a by → WiderStands items n rows s a by
UextStands-at items place n rows next x s a by w front at is =
    let there = IsIn-from_place items place x at in
    let says = subst (BodyIsAccepted there.0.before) is (IsAccepted-at items x w there.0).says in
    wider_from items place n rows next x s a by says.0 w front there says.1 says.2

pub SextStands-at : (items : List Item) (place : ℕ) (n : Net) (rows : List (List ℕ)) (next : NextLeaf) (x : Item) (s a by : ℕ) → IsWellFormed items → LowersFront items place n rows next → slice_get items place ≡ Some x
    → x.body ≡ body.Sext s a by → WiderStands items n rows s a by
SextStands-at items place n rows next x s a by w front at is =
    let there = IsIn-from_place items place x at in
    let says = subst (BodyIsAccepted there.0.before) is (IsAccepted-at items x w there.0).says in
    wider_from items place n rows next x s a by says.0 w front there says.1 says.2

pub MakesRow-uext : (items : List Item) (place : ℕ) (n : Net) (rows : List (List ℕ)) (next : NextLeaf) (x : Item) (s a by : ℕ) (r row : List ℕ) → IsWellFormed items → LowersFront items place n rows next → slice_get items place ≡ Some x
    → x.body ≡ body.Uext s a by → row_of items rows a ≡ Some r → row ≡ r ++ replicate by 0 → MakesRow items n n x row
MakesRow-uext items place n rows next x s a by r row w front at is found row_is =
    let there = UextStands-at items place n rows next x s a by w front at is in
    let value : Frame → ℕ = λ f. uext_value (f a) in
    MakesRow-form items place n n x (body.Uext s a by) (bits_of items a + by) value row at is there.wide (λ state input f h. h)
    (subst (MakesNode items n n 0 (bits_of items a + by) value) (ap (λ (l : List ℕ). l ++ replicate by 0) (own_row items n rows a r there.operand found) ∙ sym row_is) (MakesNode-uext items n rows a by w there.operand))

pub MakesRow-sext : (items : List Item) (place : ℕ) (n : Net) (rows : List (List ℕ)) (next : NextLeaf) (x : Item) (s a by : ℕ) (r row : List ℕ) → IsWellFormed items → LowersFront items place n rows next → slice_get items place ≡ Some x
    → x.body ≡ body.Sext s a by → row_of items rows a ≡ Some r → row ≡ r ++ replicate by (top r) → MakesRow items n n x row
MakesRow-sext items place n rows next x s a by r row w front at is found row_is =
    let there = SextStands-at items place n rows next x s a by w front at is in
    let value : Frame → ℕ = λ f. sext_value (bits_of items a) (f a) by in
    MakesRow-form items place n n x (body.Sext s a by) (bits_of items a + by) value row at is there.wide (λ state input f h. h)
    (subst (MakesNode items n n 0 (bits_of items a + by) value) (ap (λ (l : List ℕ). l ++ replicate by (top l)) (own_row items n rows a r there.operand found) ∙ sym row_is) (MakesNode-sext items n rows a by w there.operand))

-- Slices.

pub record SliceStands (items : List Item) (n : Net) (rows : List (List ℕ)) (s a u l : ℕ) : Type 0 where
  pub operand : IsOperand items n rows a
  pub wide : unwrap_or (sort_width items s) 0 ≡ u - l + 1
  pub order : l ≤ u
  pub within : u < bits_of items a

pub SliceStands-at : (items : List Item) (place : ℕ) (n : Net) (rows : List (List ℕ)) (next : NextLeaf) (x : Item) (s a u l : ℕ) → IsWellFormed items → LowersFront items place n rows next → slice_get items place ≡ Some x
    → x.body ≡ body.Slice s a u l → SliceStands items n rows s a u l
SliceStands-at items place n rows next x s a u l w front at is =
    let there = IsIn-from_place items place x at in
    let says = subst (BodyIsAccepted there.0.before) is (IsAccepted-at items x w there.0).says in
    let of_a = operand_at items place n rows next x a says.0 w front there says.1 in
    record {
      operand = of_a.0;
      wide = sort_wide items s (u - l + 1) (sort_at items x s (u - l + 1) there.0 says.2);
      order = says.3;
      within = omega (arith, of_a.1, says.4);
    }

pub MakesRow-slice : (items : List Item) (place : ℕ) (n : Net) (rows : List (List ℕ)) (next : NextLeaf) (x : Item) (s a u l : ℕ) (r row : List ℕ) → IsWellFormed items → LowersFront items place n rows next → slice_get items place ≡ Some x
    → x.body ≡ body.Slice s a u l → row_of items rows a ≡ Some r → row ≡ take (u - l + 1) (drop l r) → MakesRow items n n x row
MakesRow-slice items place n rows next x s a u l r row w front at is found row_is =
    let there = SliceStands-at items place n rows next x s a u l w front at is in
    let value : Frame → ℕ = λ f. slice_value (f a) u l in
    MakesRow-form items place n n x (body.Slice s a u l) (u - l + 1) value row at is there.wide (λ state input f h. h)
    (subst (MakesNode items n n 0 (u - l + 1) value) (ap (λ (k : List ℕ). take (u - l + 1) (drop l k)) (own_row items n rows a r there.operand found) ∙ sym row_is) (MakesNode-slice items n rows a u l w there.operand there.order there.within))

-- One word before another.

pub record ConcatStands (items : List Item) (n : Net) (rows : List (List ℕ)) (s a b : ℕ) : Type 0 where
  pub high : IsOperand items n rows a
  pub low : IsOperand items n rows b
  pub wide : unwrap_or (sort_width items s) 0 ≡ bits_of items a + bits_of items b
  pub room : bits_of items a + bits_of items b ≤ 64

pub ConcatStands-at : (items : List Item) (place : ℕ) (n : Net) (rows : List (List ℕ)) (next : NextLeaf) (x : Item) (s a b : ℕ) → IsWellFormed items → LowersFront items place n rows next → slice_get items place ≡ Some x
    → x.body ≡ body.Concat s a b → ConcatStands items n rows s a b
ConcatStands-at items place n rows next x s a b w front at is =
    let there = IsIn-from_place items place x at in
    let says = subst (BodyIsAccepted there.0.before) is (IsAccepted-at items x w there.0).says in
    let of_a = operand_at items place n rows next x a says.0 w front there says.2 in
    let of_b = operand_at items place n rows next x b says.1 w front there says.3 in
    let whole = sort_at items x s (says.0 + says.1) there.0 says.4 in
    let range = sort_width-range items s (says.0 + says.1) w whole in
    record {
      high = of_a.0;
      low = of_b.0;
      wide = sort_wide items s (says.0 + says.1) whole ∙ ap₂ ◌+◌ (sym of_a.1) (sym of_b.1);
      room = omega (arith, of_a.1, of_b.1, range.1);
    }

pub MakesRow-concat : (items : List Item) (place : ℕ) (n : Net) (rows : List (List ℕ)) (next : NextLeaf) (x : Item) (s a b : ℕ) (high low row : List ℕ) → IsWellFormed items → LowersFront items place n rows next → slice_get items place ≡ Some x
    → x.body ≡ body.Concat s a b → row_of items rows a ≡ Some high → row_of items rows b ≡ Some low → row ≡ low ++ high → MakesRow items n n x row
MakesRow-concat items place n rows next x s a b high low row w front at is found_a found_b row_is =
    let there = ConcatStands-at items place n rows next x s a b w front at is in
    let value : Frame → ℕ = λ f. concat_value (f a) (bits_of items b) (f b) in
    let width = bits_of items a + bits_of items b in
    MakesRow-form items place n n x (body.Concat s a b) width value row at is there.wide (λ state input f h. h)
    (subst (MakesNode items n n 0 width value) (ap₂ (λ (k l : List ℕ). k ++ l) (own_row items n rows b low there.low found_b) (own_row items n rows a high there.high found_a) ∙ sym row_is) (MakesNode-concat items n rows a b w there.high there.low))

-- Choices.

pub record IteStands (items : List Item) (n : Net) (rows : List (List ℕ)) (s c t e : ℕ) : Type 0 where
  pub condition : IsOperand items n rows c
  pub first : IsOperand items n rows t
  pub second : IsOperand items n rows e
  pub one : bits_of items c ≡ 1
  pub equal : bits_of items e ≡ bits_of items t
  pub wide : unwrap_or (sort_width items s) 0 ≡ bits_of items t

pub IteStands-at : (items : List Item) (place : ℕ) (n : Net) (rows : List (List ℕ)) (next : NextLeaf) (x : Item) (s c t e : ℕ) → IsWellFormed items → LowersFront items place n rows next → slice_get items place ≡ Some x
    → x.body ≡ body.Ite s c t e → IteStands items n rows s c t e
IteStands-at items place n rows next x s c t e w front at is =
    let there = IsIn-from_place items place x at in
    let says = subst (BodyIsAccepted there.0.before) is (IsAccepted-at items x w there.0).says in
    let of_c = operand_at items place n rows next x c 1 w front there says.1 in
    let of_t = operand_at items place n rows next x t says.0 w front there says.2 in
    let of_e = operand_at items place n rows next x e says.0 w front there says.3 in
    record {
      condition = of_c.0;
      first = of_t.0;
      second = of_e.0;
      one = of_c.1;
      equal = of_e.1 ∙ sym of_t.1;
      wide = sort_wide items s says.0 (sort_at items x s says.0 there.0 says.4) ∙ sym of_t.1;
    }

pub MakesRow-ite : (items : List Item) (place : ℕ) (old new : Net) (rows : List (List ℕ)) (next : NextLeaf) (x : Item) (s c t e : ℕ) (row : List ℕ) → IsWellFormed items → LowersFront items place old rows next → slice_get items place ≡ Some x
    → x.body ≡ body.Ite s c t e → MakesNode items old new (ite_bound (bits_of items t)) (bits_of items t) (λ f. ite_value (f c) (f t) (f e)) row → MakesRow items old new x row
MakesRow-ite items place old new rows next x s c t e row w front at is m =
    MakesRow-form items place old new x (body.Ite s c t e) (bits_of items t) (λ f. ite_value (f c) (f t) (f e)) row at is (IteStands-at items place old rows next x s c t e w front at is).wide (λ state input f h. h) m

-- Constants, and lines without a value.

-- a line that is no leaf and no operator
abbrev pub is_plain : Body → Bool
is_plain (body.Input s) = false
is_plain (body.State s) = false
is_plain (body.Uext s a by) = false
is_plain (body.Sext s a by) = false
is_plain (body.Slice s a u l) = false
is_plain (body.Unary op s a) = false
is_plain (body.Binary op s a b) = false
is_plain (body.Concat s a b) = false
is_plain (body.Ite s c t e) = false
is_plain _ = true

pub plain_from : (b : Body) → ((s : ℕ) → b ≡ body.Input s → ⊥) → ((s : ℕ) → b ≡ body.State s → ⊥) → ((s a by : ℕ) → b ≡ body.Uext s a by → ⊥) → ((s a by : ℕ) → b ≡ body.Sext s a by → ⊥)
    → ((s a u l : ℕ) → b ≡ body.Slice s a u l → ⊥) → ((op : Unary) (s a : ℕ) → b ≡ body.Unary op s a → ⊥) → ((op : Binary) (s a c : ℕ) → b ≡ body.Binary op s a c → ⊥)
    → ((s a c : ℕ) → b ≡ body.Concat s a c → ⊥) → ((s c t e : ℕ) → b ≡ body.Ite s c t e → ⊥) → is_plain b ≡ true
plain_from (body.Input s) i t u x l o p c e = absurd (i s refl)
plain_from (body.State s) i t u x l o p c e = absurd (t s refl)
plain_from (body.Uext s a by) i t u x l o p c e = absurd (u s a by refl)
plain_from (body.Sext s a by) i t u x l o p c e = absurd (x s a by refl)
plain_from (body.Slice s a m n) i t u x l o p c e = absurd (l s a m n refl)
plain_from (body.Unary op s a) i t u x l o p c e = absurd (o op s a refl)
plain_from (body.Binary op s a b) i t u x l o p c e = absurd (p op s a b refl)
plain_from (body.Concat s a b) i t u x l o p c e = absurd (c s a b refl)
plain_from (body.Ite s a b d) i t u x l o p c e = absurd (e s a b d refl)
plain_from _ i t u x l o p c e = refl

-- it is no leaf
next_after-plain : (items : List Item) (x : Item) (next : NextLeaf) (b : Body) → x.body ≡ b → is_plain b ≡ true → next ≡ next_after items x next
next_after-plain items x next b is plain = sym (rw (ap is_input is ∙ no_input b plain, ap is_state is ∙ no_state b plain) refl)
  where
    no_input : (b : Body) → is_plain b ≡ true → is_input b ≡ false
    no_input (body.Input s) h = absurd (cc)
    no_input _ h = refl

    no_state : (b : Body) → is_plain b ≡ true → is_state b ≡ false
    no_state (body.State s) h = absurd (cc)
    no_state _ h = refl

pub plain_next : (items : List Item) (x : Item) (next : NextLeaf) → is_plain x.body ≡ true → next ≡ next_after items x next
plain_next items x next plain = next_after-plain items x next x.body refl plain

-- one that has a width is a constant
plain_known : (items : List Item) (b : Body) (w : ℕ) → is_plain b ≡ true → width_of_body items b ≡ Some w → (k : ℕ) × (constant_word w b ≡ Some k)
plain_known items (body.Zero s) w p h = (0, refl)
plain_known items (body.One s) w p h = (1, refl)
plain_known items (body.Ones s) w p h = (ones w, refl)
plain_known items (body.Const s d v) w p h = (v, refl)
plain_known items (body.Constd s v) w p h = (wrapped w v, refl)
plain_known items (body.Consth s d v) w p h = (v, refl)
plain_known items (body.Input s) w p h = absurd (cc)
plain_known items (body.State s) w p h = absurd (cc)
plain_known items (body.Uext s a by) w p h = absurd (cc)
plain_known items (body.Sext s a by) w p h = absurd (cc)
plain_known items (body.Slice s a u l) w p h = absurd (cc)
plain_known items (body.Unary op s a) w p h = absurd (cc)
plain_known items (body.Binary op s a b) w p h = absurd (cc)
plain_known items (body.Concat s a b) w p h = absurd (cc)
plain_known items (body.Ite s c t e) w p h = absurd (cc)
plain_known items _ w p h = absurd (none-some w h)

-- in a frame it has its constant's word
plain_word : (items : List Item) (state input f : Frame) (id : ℕ) (b : Body) → is_plain b ≡ true → line_word items state input f id b ≡ constant_word (bits_of items id) b
plain_word items state input f id (body.Input s) p = absurd (cc)
plain_word items state input f id (body.State s) p = absurd (cc)
plain_word items state input f id (body.Uext s a by) p = absurd (cc)
plain_word items state input f id (body.Sext s a by) p = absurd (cc)
plain_word items state input f id (body.Slice s a u l) p = absurd (cc)
plain_word items state input f id (body.Unary op s a) p = absurd (cc)
plain_word items state input f id (body.Binary op s a b) p = absurd (cc)
plain_word items state input f id (body.Concat s a b) p = absurd (cc)
plain_word items state input f id (body.Ite s c t e) p = absurd (cc)
plain_word items state input f id _ p = refl

pub MakesRow-plain : (items : List Item) (place : ℕ) (n : Net) (x : Item) (row : List ℕ) → IsWellFormed items → slice_get items place ≡ Some x → is_plain x.body ≡ true
    → row ≡ word_literals (bits_of items x.id) (constant_at items place) → MakesRow items n n x row
MakesRow-plain items place n x row w at plain row_is = by (width_of_body items x.body) refl
  where
    by : (o : Option ℕ) → width_of_body items x.body ≡ o → MakesRow items n n x row
    by None e = record { grows = Grows-refl n (line_cost items x.body); reads = subst (λ (o : Option ℕ). IfSome o (λ width. ReadsWord items n x.id width row)) (sym e) tt }
    by (Some width) e =
        let known = plain_known items x.body width plain e in
        let wide : bits_of items x.id ≡ width = ap (λ (o : Option ℕ). unwrap_or o 0) (node_width-at items place x w at ∙ e) in
        let word : constant_at items place ≡ Some known.0 =
        ap (option_and_then (λ (y : Item). constant_of_body items y.body)) at ∙ ap (option_and_then (λ (k : ℕ). constant_word k x.body)) e ∙ known.1 in
        let is : row ≡ map bit_literal (bits (bits_of items x.id) known.0) = row_is ∙ ap (word_literals (bits_of items x.id)) word in
        MakesRow-from_node items n n x 0 (bits_of items x.id) (λ f. known.0) row (omega arith) (ap (λ (o : Option ℕ). unwrap_or o 0) e ∙ sym wide)
        (λ state input f h.
        subst (λ (o : Option ℕ). IfSome o (λ k. f x.id ≡ k)) (plain_word items state input f x.id x.body plain ∙ ap (λ (k : ℕ). constant_word k x.body) wide ∙ known.1) (LineHolds-at items state input f items place x h at))
        (subst (MakesNode items n n 0 (bits_of items x.id) (λ f. known.0)) (sym is) (MakesNode-constant items n (bits_of items x.id) known.0))
