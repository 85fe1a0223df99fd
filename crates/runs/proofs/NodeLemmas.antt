-- What the operator of a line gives from now-values that are, as far as it, the words of a frame.
use Rattle.std.proofs.Common.{◌≡◌, ℕ, ◌+◌, ◌^◌, ◌<◌, ◌≤◌, true, List, ◌∷◌, ◌++◌, length, get_or, Option, Some, None, IfSome, MatchOption, is_some, option_and_then, unwrap_or, refl, sym, ap, ap₂, subst, ◌∙◌, arith}
use Rattle.base.specs.Operator.{unary_value, binary_value, ite_value, slice_value, sext_value, concat_value}
use Rattle.btor2.specs.declared.item.Item.{Item}
use Rattle.btor2.specs.declared.item.Body.{Body}
use Rattle.btor2.specs.declared.item.Body.TheVariants as body
use Rattle.btor2.specs.Items.{find_item, node_sort, sort_width, width_of_body, node_width, constant_word}
use Rattle.btor2.specs.Check.{IsWellFormed}
use Rattle.btor2.specs.Trace.{Frame, bits_of, LineHolds}
use Rattle.btor2.proofs.AppendLemmas.{find_item-append, sort_width-append, node_width-append, then_parts, is_some_from}
use Rattle.btor2.proofs.AcceptedLemmas.{BodyIsAccepted}
use Rattle.btor2.proofs.ModelLemmas.{IsWellFormed-front, sort_width-range}
use Rattle.btor2.specs.Lists.{of_kind}
use Rattle.runs.specs.Frames.{has_value, is_leaf, is_constant}
use Rattle.runs.specs.Nodes.{slot, operator_of, standing_word, operator_value, OperatorFits, IsWordAt}
use Rattle.runs.proofs.RankLemmas.{rank-below}

-- a node with a width is found, and has a value
pub node_found : (items : List Item) (a n : ℕ) → node_width items a ≡ Some n → (y : Item) × (find_item items a ≡ Some y) × (has_value y.body ≡ true)
node_found items a n h =
    let parts = then_parts (λ (x : Item). width_of_body items x.body) (find_item items a) n h in
    let sort = then_parts (sort_width items) (node_sort parts.0.body) n parts.2 in
    (parts.0, parts.1, is_some_from (node_sort parts.0.body) sort.0 sort.1)

-- a constant's word, from what its line says of it
word_of : (o : Option ℕ) (word : ℕ) → is_some o ≡ true → IfSome o (λ w. word ≡ w) → unwrap_or o 0 ≡ word
word_of None word there h = absurd (cc)
word_of (Some w) word there h = sym h

pub constant_read : (items : List Item) (n m word : ℕ) (b : Body) → width_of_body items b ≡ Some n → m ≡ unwrap_or (width_of_body items b) 0 → is_some (constant_word n b) ≡ true
    → IfSome (constant_word m b) (λ w. word ≡ w) → standing_word items b ≡ word
constant_read items n m word b width own there h =
    let same : m ≡ n = own ∙ ap (λ (o : Option ℕ). unwrap_or o 0) width in
    ap (λ (o : Option ℕ). unwrap_or (option_and_then (λ (k : ℕ). constant_word k b) o) 0) width
    ∙ word_of (constant_word n b) word there (subst (λ (k : ℕ). IfSome (constant_word k b) (λ w. word ≡ w)) same h)

-- what an operand has
record Operand (items : List Item) (values : List ℕ) (f : Frame) (a n : ℕ) : Type 0 where
  bits : bits_of items a ≡ n
  word : get_or values (slot items a) 0 ≡ f a
  fits : IsWordAt values n (slot items a)

-- the now-values of some lines are the words of a frame
abbrev pub HoldsAmong : List Item → List Item → List ℕ → Frame → Type 0
HoldsAmong items before values f = (id : ℕ) (y : Item) → find_item before id ≡ Some y → has_value y.body ≡ true → get_or values (slot items id) 0 ≡ f id

module _ (items before after : List Item) (x : Item) (splits : items ≡ before ++ x ∷ after) (whole : IsWellFormed items) (f : Frame) (fits : (id : ℕ) → is_some (node_width items id) ≡ true → f id < 2 ^ bits_of items id) (values : List ℕ)
    (many : length values ≡ length (of_kind has_value items)) (held : HoldsAmong items before values f) where
  operand : (a n : ℕ) → node_width before a ≡ Some n → Operand items values f a n
  operand a n h =
      let there = node_found before a n h in
      let word : get_or values (slot items a) 0 ≡ f a = held a there.0 there.1 there.2 in
      let width : node_width items a ≡ Some n = ap (λ (l : List Item). node_width l a) splits ∙ node_width-append before (x ∷ after) a n h in
      let bits : bits_of items a ≡ n = ap (λ (o : Option ℕ). unwrap_or o 0) width in
      let below : f a < 2 ^ n = subst (λ (k : ℕ). f a < 2 ^ k) bits (fits a (is_some_from (node_width items a) n width)) in
      let found : find_item items a ≡ Some there.0 = ap (λ (l : List Item). find_item l a) splits ∙ find_item-append before (x ∷ after) a there.0 there.1 in
      let inside : slot items a < length values = omega (arith, many, rank-below has_value items a there.0 found there.2) in
      record { bits = bits; word = word; fits = (inside, subst (λ (k : ℕ). k < 2 ^ n) (sym word) below) }

  -- an operand fits its own width
  own_fits : (a n : ℕ) → Operand items values f a n → IsWordAt values (bits_of items a) (slot items a)
  own_fits a n o = subst (λ (k : ℕ). IsWordAt values k (slot items a)) (sym o.bits) o.fits

  as_fits : (a b n : ℕ) → Operand items values f a n → Operand items values f b n → IsWordAt values (bits_of items a) (slot items b)
  as_fits a b n of_a of_b = subst (λ (k : ℕ). IsWordAt values k (slot items b)) (sym of_a.bits) of_b.fits

  front : IsWellFormed before
  front = IsWellFormed-front before (x ∷ after) (subst IsWellFormed splits whole)

  sort_at : (s n : ℕ) → sort_width before s ≡ Some n → sort_width items s ≡ Some n
  sort_at s n h = ap (λ (l : List Item). sort_width l s) splits ∙ sort_width-append before (x ∷ after) s n h

  module _ (state input : Frame) (id : ℕ) where
    -- its operator fits and gives the word of the frame, or that word stands
    abbrev pub Gives : Body → Type 0
    Gives b = MatchOption (operator_of items b) (get_or values (slot items id) 0 ≡ f id) (λ o. OperatorFits o values × (operator_value o values ≡ f id))

    pub node_gives : (b : Body) → BodyIsAccepted before b → has_value b ≡ true → (is_leaf b ≡ true → get_or values (slot items id) 0 ≡ f id) → (is_constant b ≡ true → get_or values (slot items id) 0 ≡ standing_word items b)
        → bits_of items id ≡ unwrap_or (width_of_body items b) 0 → LineHolds items state input f id b → Gives b
    node_gives (body.Input s) says has leaf constant own h = leaf refl
    node_gives (body.State s) says has leaf constant own h = leaf refl
    node_gives (body.Zero s) says has leaf constant own h = constant refl ∙ constant_read items says.0 (bits_of items id) (f id) (body.Zero s) (sort_at s says.0 says.1) own refl h
    node_gives (body.One s) says has leaf constant own h = constant refl ∙ constant_read items says.0 (bits_of items id) (f id) (body.One s) (sort_at s says.0 says.1) own refl h
    node_gives (body.Ones s) says has leaf constant own h = constant refl ∙ constant_read items says.0 (bits_of items id) (f id) (body.Ones s) (sort_at s says.0 says.1) own refl h
    node_gives (body.Const s d v) says has leaf constant own h = constant refl ∙ constant_read items says.0 (bits_of items id) (f id) (body.Const s d v) (sort_at s says.0 says.1) own refl h
    node_gives (body.Constd s v) says has leaf constant own h = constant refl ∙ constant_read items says.0 (bits_of items id) (f id) (body.Constd s v) (sort_at s says.0 says.1) own refl h
    node_gives (body.Consth s d v) says has leaf constant own h = constant refl ∙ constant_read items says.0 (bits_of items id) (f id) (body.Consth s d v) (sort_at s says.0 says.1) own refl h
    node_gives (body.Uext s a by) says has leaf constant own h =
        let o = operand a says.0 says.1 in
        let most : bits_of items a + by ≤ 64 = omega (arith, o.bits, sort_width-range before s (says.0 + by) front says.2) in
        ((own_fits a says.0 o, most), o.word ∙ sym h)
    node_gives (body.Sext s a by) says has leaf constant own h =
        let o = operand a says.0 says.1 in
        let most : bits_of items a + by ≤ 64 = omega (arith, o.bits, sort_width-range before s (says.0 + by) front says.2) in
        ((own_fits a says.0 o, most), ap (λ (k : ℕ). sext_value (bits_of items a) k by) o.word ∙ sym h)
    node_gives (body.Slice s a u l) says has leaf constant own h =
        let o = operand a says.0 says.1 in
        let below : u < bits_of items a = omega (arith, o.bits, says.4) in
        ((own_fits a says.0 o, says.3, below), ap (λ (k : ℕ). slice_value k u l) o.word ∙ sym h)
    node_gives (body.Unary op s a) says has leaf constant own h =
        let o = operand a says.0 says.1 in
        (own_fits a says.0 o, ap (unary_value op (bits_of items a)) o.word ∙ sym h)
    node_gives (body.Binary op s a b) says has leaf constant own h =
        let o = operand a says.0 says.1 in
        let p = operand b says.0 says.2 in
        ((own_fits a says.0 o, as_fits a b says.0 o p), ap₂ (binary_value op (bits_of items a)) o.word p.word ∙ sym h)
    node_gives (body.Concat s a b) says has leaf constant own h =
        let o = operand a says.0 says.2 in
        let p = operand b says.1 says.3 in
        let most : bits_of items a + bits_of items b ≤ 64 = omega (arith, o.bits, p.bits, sort_width-range before s (says.0 + says.1) front says.4) in
        ((own_fits a says.0 o, own_fits b says.1 p, most), ap₂ (λ (j k : ℕ). concat_value j (bits_of items b) k) o.word p.word ∙ sym h)
    node_gives (body.Ite s c t e) says has leaf constant own h =
        let o = operand c 1 says.1 in
        let p = operand t says.0 says.2 in
        let q = operand e says.0 says.3 in (
          (o.fits, own_fits t says.0 p, as_fits t e says.0 p q),
          ap (λ (k : ℕ). ite_value k (get_or values (slot items t) 0) (get_or values (slot items e) 0)) o.word ∙ ap₂ (λ (j k : ℕ). ite_value (f c) j k) p.word q.word ∙ sym h,
        )
    node_gives _ says has leaf constant own h = absurd (cc)
