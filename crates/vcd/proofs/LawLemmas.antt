-- Two signals of a scope have two names.
use Rattle.std.proofs.Common.{◌≡◌, ℕ, zero, suc, ◌<◌, ◌^◌, Bool, true, false, cond, ◌&&◌, ◌||◌, List, [], ◌∷◌, ◌++◌, Some, length, length-take, filter, take, drop, unwrap_or, slice_get, decimal, refl, sym, ap, ◌∙◌, arith, inl, inr}
use Rattle.std.specs.List.{list_any}
use Rattle.std.specs.Str.{bytes_eq}
use Rattle.std.specs.Cmp.Lexicographic.{bytes_decides}
use Rattle.std.proofs.lemmas.Bool.{cases_lt, or_parts, true≢false}
use Rattle.std.proofs.Math.Bool.{and-false}
use Rattle.std.proofs.lemmas.Option.{none-some, same_Some}
use Rattle.std.proofs.lemmas.Fmt.{decimal_injective}
use Rattle.base.specs.Decimals.{is_digit, are_digits}
use Rattle.base.proofs.DecimalLemmas.{decimal_digits}
use Rattle.btor2.specs.declared.item.Item.{Item}
use Rattle.btor2.specs.Items.{position_of}
use Rattle.btor2.specs.Check.{IsWellFormed}
use Rattle.btor2.proofs.ModelLemmas.{IsIn-from_place, IsAccepted-at}
use Rattle.runs.proofs.PlaceLemmas.{place_inside}
use Rattle.vcd.specs.declared.scope.Scope.{Scope}
use Rattle.vcd.specs.declared.scope.Shown.{Shown}
use Rattle.vcd.specs.Names.{ends_in_number, with_id, is_plain_name, escaped}
use Rattle.vcd.specs.Signals.{is_in, signals_in, signals_before, plain_name_in, is_told_apart, signal_name}
use Rattle.vcd.proofs.NameLemmas.{signals_before-at}

-- ---- bytes

front_off : (a b : ℕ) (xs ys : List ℕ) → a ∷ xs ≡ b ∷ ys → xs ≡ ys
front_off a b xs ys e = ap (drop 1) e

-- what is escaped tells what it is of
escaped_same : (a b : List ℕ) → escaped a ≡ escaped b → a ≡ b
escaped_same a b e = by (is_plain_name a) (is_plain_name b) refl refl e
  where
    by : (p q : Bool) → is_plain_name a ≡ p → is_plain_name b ≡ q → cond p a (92 ∷ a) ≡ cond q b (92 ∷ b) → a ≡ b
    by true true p q e = e
    by true false p q e = absurd (true≢false (sym p ∙ ap is_plain_name e))
    by false true p q e = absurd (true≢false (sym q ∙ ap is_plain_name (sym e)))
    by false false p q e = front_off 92 92 a b e

-- digits have no `#` among them
mark_is_no_digit : (name rest : List ℕ) → are_digits (name ++ 35 ∷ rest) ≡ false
mark_is_no_digit [] rest = refl
mark_is_no_digit (b ∷ bs) rest = ap (λ (t : Bool). is_digit b && t) (mark_is_no_digit bs rest) ∙ and-false (is_digit b)

-- digits behind a `#` tell themselves
digits_same : (a b xs ys : List ℕ) → are_digits xs ≡ true → are_digits ys ≡ true → a ++ 35 ∷ xs ≡ b ++ 35 ∷ ys → xs ≡ ys
digits_same [] [] xs ys p q e = front_off 35 35 xs ys e
digits_same [] (c ∷ b) xs ys p q e = absurd (true≢false (sym p ∙ (ap are_digits (front_off 35 c xs (b ++ 35 ∷ ys) e) ∙ mark_is_no_digit b ys)))
digits_same (c ∷ a) [] xs ys p q e = absurd (true≢false (sym q ∙ (ap are_digits (sym (front_off c 35 (a ++ 35 ∷ xs) ys e)) ∙ mark_is_no_digit a xs)))
digits_same (c ∷ a) (d ∷ b) xs ys p q e = digits_same a b xs ys p q (front_off c d (a ++ 35 ∷ xs) (b ++ 35 ∷ ys) e)

or_true : (a b : Bool) → b ≡ true → (a || b) ≡ true
or_true true b h = refl
or_true false b h = h

-- a name with an id behind it ends in a number
ends_with_digits : (name digits : List ℕ) → are_digits digits ≡ true → ends_in_number (name ++ 35 ∷ digits) ≡ true
ends_with_digits [] digits h = ap (λ (b : Bool). b || ends_in_number digits) h
ends_with_digits (b ∷ bs) digits h = or_true _ _ (ends_with_digits bs digits h)

-- ---- places

-- a signal of a scope, its line's place, and the signals before it
record Filtered (test : Item → Bool) (items : List Item) (k : ℕ) (x : Item) : Type 0 where
  place : ℕ
  at : slice_get items place ≡ Some x
  front : filter test (take place items) ≡ take k (filter test items)

filtered : (test : Item → Bool) (items : List Item) (k : ℕ) (x : Item) → slice_get (filter test items) k ≡ Some x → Filtered test items k x
filtered test [] k x h = absurd (none-some x h)
filtered test (z ∷ zs) k x h = by (test z) refl (λ j g. filtered test zs j x g) k h
  where
    later : (b : Bool) (j k : ℕ) → test z ≡ b → (p : Filtered test zs j x) → cond b (z ∷ take j (filter test zs)) (take j (filter test zs)) ≡ take k (filter test (z ∷ zs)) → Filtered test (z ∷ zs) k x
    later b j k e p f = record {
      place = suc p.place;
      at = p.at;
      front = ap (λ (c : Bool). cond c (z ∷ filter test (take p.place zs)) (filter test (take p.place zs))) e ∙ (ap (λ (l : List Item). cond b (z ∷ l) l) p.front ∙ f);
    }

    by : (b : Bool) → test z ≡ b → ((j : ℕ) → slice_get (filter test zs) j ≡ Some x → Filtered test zs j x) → (k : ℕ) → slice_get (cond b (z ∷ filter test zs) (filter test zs)) k ≡ Some x → Filtered test (z ∷ zs) k x
    by true e rest zero h = record { place = 0; at = h; front = refl }
    by true e rest (suc j) h = later true j (suc j) e (rest j h) (sym (ap (λ (c : Bool). take (suc j) (cond c (z ∷ filter test zs) (filter test zs))) e))
    by false e rest j h = later false j j e (rest j h) (sym (ap (λ (c : Bool). take j (cond c (z ∷ filter test zs) (filter test zs))) e))

-- what passes a test is found in front of a later place
found_before : (p : Item → Bool) (list : List Item) (i j : ℕ) (x : Item) → slice_get list i ≡ Some x → i < j → p x ≡ true → list_any p (take j list) ≡ true
found_before p [] i j x h lt is = absurd (none-some x h)
found_before p (z ∷ zs) i zero x h lt is = absurd (omega (arith, lt))
found_before p (z ∷ zs) zero (suc j) x h lt is = ap (λ (b : Bool). b || list_any p (take j zs)) (ap p (same_Some z x h) ∙ is)
found_before p (z ∷ zs) (suc i) (suc j) x h lt is = or_true (p z) _ (found_before p zs i j x h (omega (arith, lt)) is)

-- ---- names

record Signal (s : Shown) (items : List Item) (c : Scope) (k : ℕ) (x : Item) : Type 0 where
  place : ℕ
  at : slice_get items place ≡ Some x
  before : signals_before s items c x ≡ take k (signals_in s items c)
  small : x.id < 2 ^ 64

signal : (s : Shown) (items : List Item) (c : Scope) (k : ℕ) (x : Item) → IsWellFormed items → slice_get (signals_in s items c) k ≡ Some x → Signal s items c k x
signal s items c k x w h =
    let f = filtered (is_in s c) items k x h in record {
      place = f.place;
      at = f.at;
      before = signals_before-at s items c f.place x w f.at ∙ f.front;
      small = omega (arith, (IsAccepted-at items x w (IsIn-from_place items f.place x f.at).0).greatest);
    }

-- of two signals with one plain name the later is told apart
later_is_told : (s : Shown) (items : List Item) (c : Scope) (i j : ℕ) (x y : Item) → slice_get (signals_in s items c) i ≡ Some x → Signal s items c j y → i < j → plain_name_in s items c x ≡ plain_name_in s items c y → is_told_apart s items c y ≡ true
later_is_told s items c i j x y h q lt e =
    ap (λ (b : Bool). b || ends_in_number (plain_name_in s items c y))
    (ap (list_any (λ z. bytes_eq (plain_name_in s items c y) (plain_name_in s items c z))) q.before
    ∙ found_before (λ z. bytes_eq (plain_name_in s items c y) (plain_name_in s items c z)) (signals_in s items c) i j x h lt ((bytes_decides (plain_name_in s items c y) (plain_name_in s items c x)).1 (sym e)))

-- one name is no name with an id and a name that is not told apart
not_both : (s : Shown) (items : List Item) (c : Scope) (x y : Item) → x.id < 2 ^ 64 → is_told_apart s items c y ≡ false → plain_name_in s items c x ++ 35 ∷ decimal x.id ≡ plain_name_in s items c y → ⊥
not_both s items c x y small off e =
    true≢false (sym (ends_with_digits (plain_name_in s items c x) (decimal x.id) (decimal_digits x.id small)) ∙ (ap ends_in_number e ∙ (or_parts _ _ off).1))

-- two signals, the first before the second, have two names
names_differ : (s : Shown) (items : List Item) (c : Scope) (i j : ℕ) (x y : Item) → IsWellFormed items → slice_get (signals_in s items c) i ≡ Some x → slice_get (signals_in s items c) j ≡ Some y → i < j
    → signal_name s items c x ≡ signal_name s items c y → ⊥
names_differ s items c i j x y w h k lt e =
    by (is_told_apart s items c x) (is_told_apart s items c y) refl refl (escaped_same _ _ e)
  where
    p : Signal s items c i x
    p = signal s items c i x w h

    q : Signal s items c j y
    q = signal s items c j y w k

    m : List ℕ
    m = plain_name_in s items c x

    n : List ℕ
    n = plain_name_in s items c y

    by : (a b : Bool) → is_told_apart s items c x ≡ a → is_told_apart s items c y ≡ b → with_id a x.id m ≡ with_id b y.id n → ⊥
    by true true f g e =
        let ids : x.id ≡ y.id = decimal_injective x.id y.id p.small q.small (digits_same m n (decimal x.id) (decimal y.id) (decimal_digits x.id p.small) (decimal_digits y.id q.small) e) in
        let fronts : take i (signals_in s items c) ≡ take j (signals_in s items c) = sym p.before ∙ (ap (λ (id : ℕ). signals_in s (take (unwrap_or (position_of items id) 0) items) c) ids ∙ q.before) in
        let first = length-take i (signals_in s items c) in
        let second = length-take j (signals_in s items c) in
        omega (arith, lt, place_inside (signals_in s items c) j y k, first, second, ap length fronts)
    by true false f g e = not_both s items c x y p.small g e
    by false true f g e = not_both s items c y x q.small f (sym e)
    by false false f g e = true≢false (sym (later_is_told s items c i j x y h q lt e) ∙ g)

pub one_signal : (s : Shown) (items : List Item) (c : Scope) (i j : ℕ) (x y : Item) → IsWellFormed items → slice_get (signals_in s items c) i ≡ Some x → slice_get (signals_in s items c) j ≡ Some y
    → signal_name s items c x ≡ signal_name s items c y → i ≡ j
one_signal s items c i j x y w h k e =
    elim (cases_lt i j) [
      | inl lt ↦ absurd (names_differ s items c i j x y w h k lt e)
      | inr le ↦ elim (cases_lt j i) [
        | inl lt ↦ absurd (names_differ s items c j i y x w k h lt (sym e))
        | inr ge ↦ omega (arith, le, ge)
      ]
    ]
