-- The names of signals, and which are told apart.
use Rattle.std.proofs.Common.{◌≡◌, ℕ, ◌+◌, ◌<◌, ◌≤◌, ◌-◌, ◌^◌, Bool, true, false, cond, nat_eq, not, ◌&&◌, ◌||◌, List, [], ◌∷◌, ◌++◌, Option, Some, None, Result, Ok, Err, OnOk, IfOk, length, length-append, map, filter, flat_map, take, drop, drop-cons, add-one, get_or, unwrap_or, slice_get, decimal, refl, sym, ap, ap₂, subst, ◌∙◌, append_assoc, append-nil, arith}
use Rattle.std.specs.List.{list_any, list_all}
use Rattle.std.specs.Str.{bytes_eq}
use Rattle.std.proofs.Math.Bool.{and-false}
use Rattle.std.proofs.lemmas.Bool.{and_parts, and_from}
use Rattle.std.proofs.lemmas.Grind.{take_at_read}
use Rattle.std.proofs.lemmas.Option.{get_or_from_slice_get}
use Rattle.std.specs.Cmp.Lexicographic.{bytes_decides}
use Rattle.std.proofs.lemmas.List.{map-append, length-map}
use Rattle.std.proofs.lemmas.List.Elements.{filter-append}
use Rattle.std.proofs.lemmas.List.Folds.{list_any-append, list_all-append}
use Rattle.base.specs.Decimals.{is_digit, are_digits}
use Rattle.base.proofs.DecimalLemmas.{decimal_digits}
use Rattle.btor2.specs.declared.item.Item.{Item}
use Rattle.btor2.specs.Check.{IsWellFormed}
use Rattle.btor2.proofs.ModelLemmas.{position_of-at, few_items}
use Rattle.runs.proofs.PlaceLemmas.{place_inside}
use Rattle.vcd.specs.declared.scope.Scope.{Scope}
use Rattle.vcd.specs.declared.scope.Scope.TheVariants as scope
use Rattle.vcd.specs.declared.scope.Shown.{Shown}
use Rattle.vcd.specs.Names.{prefix, stem_by, plain_name, ends_in_number, with_id, is_letter, is_name_byte, is_plain_name, escaped}
use Rattle.vcd.specs.Signals.{is_in, scopes, signals_before, is_told_apart}
use Rattle.vcd.specs.Stands.{stem_in, Seen, HasSeen, is_marked_signal, scope_marks}

-- ---- which are told apart

-- the signals before the line at a place
pub signals_before-at : (s : Shown) (items : List Item) (c : Scope) (place : ℕ) (x : Item) → IsWellFormed items → slice_get items place ≡ Some x → signals_before s items c x ≡ filter (is_in s c) (take place items)
signals_before-at s items c place x w at = ap (λ (o : Option ℕ). filter (is_in s c) (take (unwrap_or o 0) items)) (position_of-at items place x w at)

-- what stands before all names of a scope says nothing of which are told apart
pub told_by_stems : (s : Shown) (items : List Item) (c : Scope) (x : Item)
    → is_told_apart s items c x ≡ (list_any (λ y. bytes_eq (stem_in s items c x) (stem_in s items c y)) (signals_before s items c x) || ends_in_number (stem_in s items c x))
told_by_stems s items scope.Inputs x = refl
told_by_stems s items scope.States x = refl
told_by_stems s items scope.Bads x = refl
told_by_stems s items scope.Constraints x = refl
told_by_stems s items scope.Outputs x = refl
told_by_stems s items scope.Nodes x = refl

-- the lines up to a place, and that at it
pub front_more : (test : Item → Bool) (items : List Item) (place : ℕ) (x : Item) → slice_get items place ≡ Some x → filter test (take (place + 1) items) ≡ filter test (take place items) ++ filter test (x ∷ [])
front_more test items place x at =
    let more : take (place + 1) items ≡ take place items ++ x ∷ [] = (take_at_read items place x (place_inside items place x at)).1 ∙ ap (λ (y : Item). take place items ++ y ∷ []) (get_or_from_slice_get items place x x at) in
    ap (filter test) more ∙ filter-append test (take place items) (x ∷ [])

-- the number of a signal is that of those before it
pub number_at : (s : Shown) (items : List Item) (c : Scope) (place number : ℕ) (x : Item) → IsWellFormed items → slice_get items place ≡ Some x → number ≡ length (filter (is_in s c) (take place items)) → number ≡ length (signals_before s items c x)
number_at s items c place number x w at n = n ∙ sym (ap length (signals_before-at s items c place x w at))

-- what is seen of names says which line is told apart
pub marked_by_seen : (s : Shown) (items : List Item) (c : Scope) (place : ℕ) (x : Item) (seen : Seen) → IsWellFormed items → slice_get items place ≡ Some x → is_in s c x ≡ true → HasSeen s items c place seen
    → (list_any (bytes_eq (stem_by c seen.number x.id x.symbol)) seen.names || ends_in_number (stem_by c seen.number x.id x.symbol)) ≡ is_marked_signal s items c x
marked_by_seen s items c place x seen w at is h =
    let stem : stem_by c seen.number x.id x.symbol ≡ stem_in s items c x = ap (λ (n : ℕ). stem_by c n x.id x.symbol) (number_at s items c place seen.number x w at h.counted) in
    ap (λ (name : List ℕ). list_any (bytes_eq name) seen.names || ends_in_number name) stem
    ∙ (ap (λ (b : Bool). b || ends_in_number (stem_in s items c x)) (h.named (stem_in s items c x) ∙ ap (list_any (λ y. bytes_eq (stem_in s items c x) (stem_in s items c y))) (sym (signals_before-at s items c place x w at)))
    ∙ (sym (told_by_stems s items c x) ∙ sym (ap (λ (b : Bool). b && is_told_apart s items c x) is)))

or_false : (a b : Bool) → (a || b) ≡ (a || (b || false))
or_false a true = refl
or_false a false = refl

or_true : (a : Bool) → (a || true) ≡ true
or_true true = refl
or_true false = refl

or_nothing : (a : Bool) → (a || false) ≡ a
or_nothing true = refl
or_nothing false = refl

-- a signal more is seen
pub seen_more : (s : Shown) (items : List Item) (c : Scope) (place : ℕ) (x : Item) (old new : Seen) → IsWellFormed items → slice_get items place ≡ Some x → is_in s c x ≡ true → HasSeen s items c place old
    → ((name : List ℕ) → list_any (bytes_eq name) new.names ≡ (list_any (bytes_eq name) old.names || bytes_eq name (stem_by c old.number x.id x.symbol))) → new.number ≡ old.number + 1 → HasSeen s items c (place + 1) new
seen_more s items c place x old new w at is h more one =
    let stem : stem_by c old.number x.id x.symbol ≡ stem_in s items c x = ap (λ (n : ℕ). stem_by c n x.id x.symbol) (number_at s items c place old.number x w at h.counted) in
    let longer : filter (is_in s c) (take (place + 1) items) ≡ filter (is_in s c) (take place items) ++ x ∷ [] = front_more (is_in s c) items place x at ∙ ap (λ (b : Bool). filter (is_in s c) (take place items) ++ cond b (x ∷ []) []) is in
    record {
      named = λ name.
          more name ∙ (ap₂ (λ (a b : Bool). a || b) (h.named name) (ap (bytes_eq name) stem)
          ∙ (or_false _ _ ∙ (sym (list_any-append (λ y. bytes_eq name (stem_in s items c y)) (filter (is_in s c) (take place items)) (x ∷ []))
          ∙ sym (ap (list_any (λ y. bytes_eq name (stem_in s items c y))) longer))));
      counted = one ∙ (ap (λ (n : ℕ). n + 1) h.counted ∙ (sym (length-append (filter (is_in s c) (take place items)) (x ∷ [])) ∙ sym (ap length longer)));
      few = omega (arith, h.few, one);
    }

-- a line is no signal of the scope
pub seen_same : (s : Shown) (items : List Item) (c : Scope) (place : ℕ) (x : Item) (seen : Seen) → slice_get items place ≡ Some x → is_in s c x ≡ false → HasSeen s items c place seen → HasSeen s items c (place + 1) seen
seen_same s items c place x seen at is h =
    let same : filter (is_in s c) (take place items) ≡ filter (is_in s c) (take (place + 1) items) =
    sym (front_more (is_in s c) items place x at ∙ (ap (λ (b : Bool). filter (is_in s c) (take place items) ++ cond b (x ∷ []) []) is ∙ append-nil (filter (is_in s c) (take place items)))) in
    record {
      named = λ name. h.named name ∙ ap (list_any (λ y. bytes_eq name (stem_in s items c y))) same;
      counted = h.counted ∙ ap length same;
      few = omega (arith, h.few);
    }

pub few_places : (items : List Item) (place : ℕ) (x : Item) → IsWellFormed items → slice_get items place ≡ Some x → place < 2 ^ 64 - 1
few_places items place x w at = omega (arith, place_inside items place x at, few_items items w)

any_map : {K : Type 0} (f : K → List ℕ) (p : List ℕ → Bool) (keys : List K) → list_any p (map f keys) ≡ list_any (λ (y : K). p (f y)) keys
any_map f p [] = refl
any_map f p (y ∷ ys) = ap (λ (b : Bool). p (f y) || b) (any_map f p ys)

-- the names among which one is looked for, behind one more
pub names_more : {K : Type 0} (f : K → List ℕ) (keys : List K) (k : K) (name : List ℕ)
    → list_any (bytes_eq name) (map f (cond (list_any (λ (y : K). bytes_eq (f k) (f y)) keys) keys (keys ++ k ∷ []))) ≡ (list_any (bytes_eq name) (map f keys) || bytes_eq name (f k))
names_more f keys k name = by (list_any (λ (y : _). bytes_eq (f k) (f y)) keys) refl
  where
    own : (b : Bool) → list_any (bytes_eq (f k)) (map f keys) ≡ true → bytes_eq name (f k) ≡ b → list_any (bytes_eq name) (map f keys) ≡ (list_any (bytes_eq name) (map f keys) || b)
    own true there e = ap (λ (n : List ℕ). list_any (bytes_eq n) (map f keys)) ((bytes_decides name (f k)).0 e) ∙ (there ∙ (sym (or_true (list_any (bytes_eq name) (map f keys)))))
    own false there e = sym (or_nothing (list_any (bytes_eq name) (map f keys)))

    by : (b : Bool) → list_any (λ y. bytes_eq (f k) (f y)) keys ≡ b → list_any (bytes_eq name) (map f (cond b keys (keys ++ k ∷ []))) ≡ (list_any (bytes_eq name) (map f keys) || bytes_eq name (f k))
    by true e = own (bytes_eq name (f k)) (any_map f (bytes_eq (f k)) keys ∙ e) refl
    by false e = ap (list_any (bytes_eq name)) (map-append f keys (k ∷ [])) ∙ (list_any-append (bytes_eq name) (map f keys) (f k ∷ []) ∙ sym (or_false (list_any (bytes_eq name) (map f keys)) (bytes_eq name (f k))))

-- whether a name was there before it was added
pub there_before : {K : Type 0} (f : K → List ℕ) (keys : List K) (k : K) (names : List (List ℕ)) (added : Bool) → added ≡ not (list_any (λ (y : K). bytes_eq (f k) (f y)) keys) → names ≡ map f keys
    → not added ≡ list_any (bytes_eq (f k)) names
there_before f keys k names added e is =
    ap not e ∙ (twice (list_any (λ (y : _). bytes_eq (f k) (f y)) keys) ∙ (sym (any_map f (bytes_eq (f k)) keys) ∙ sym (ap (list_any (bytes_eq (f k))) is)))
  where
    twice : (b : Bool) → not (not b) ≡ b
    twice true = refl
    twice false = refl

-- and the names then
pub names_after : {K : Type 0} (f : K → List ℕ) (keys new : List K) (k : K) (names : List (List ℕ)) → new ≡ cond (list_any (λ (y : K). bytes_eq (f k) (f y)) keys) keys (keys ++ k ∷ []) → names ≡ map f keys
    → (name : List ℕ) → list_any (bytes_eq name) (map f new) ≡ (list_any (bytes_eq name) names || bytes_eq name (f k))
names_after f keys new k names e is name =
    ap (λ (l : List _). list_any (bytes_eq name) (map f l)) e ∙ (names_more f keys k name ∙ sym (ap (λ (l : List (List ℕ)). list_any (bytes_eq name) l || bytes_eq name (f k)) is))

-- ---- loops

-- what stands where a call answers a value
pub ok_both : {T E : Type 0} (r : Result T E) (P Q R : Type 0) → (P → Q → R) → OnOk r P → OnOk r Q → OnOk r R
ok_both (Ok x) P Q R f p q = f p q
ok_both (Err e) P Q R f p q = tt

pub ok_told : {E : Type 0} (r : Result Bool E) (a b : Bool) → a ≡ b → IfOk r (λ x. x ≡ a) → IfOk r (λ x. x ≡ b)
ok_told (Ok x) a b e h = h ∙ e
ok_told (Err y) a b e h = tt

take_front : (xs ys : List Bool) → take (length xs) (xs ++ ys) ≡ xs
take_front [] ys = refl
take_front (x ∷ xs) ys = ap (λ (l : List Bool). x ∷ l) (take_front xs ys)

drop_front : (xs ys : List Bool) → drop (length xs) (xs ++ ys) ≡ ys
drop_front [] ys = refl
drop_front (x ∷ xs) ys = drop_front xs ys

-- so many signals with the line at a place
pub counted_more : (test : Item → Bool) (items : List Item) (place number more : ℕ) (x : Item) → slice_get items place ≡ Some x → number ≡ length (filter test (take place items)) → more ≡ number + length (filter test (x ∷ []))
    → more ≡ length (filter test (take (place + 1) items))
counted_more test items place number more x at was one =
    one ∙ (ap (λ (n : ℕ). n + length (filter test (x ∷ []))) was ∙ (sym (length-append (filter test (take place items)) (filter test (x ∷ []))) ∙ sym (ap length (front_more test items place x at))))

pub few_more : (test : Item → Bool) (place number more : ℕ) (x : Item) → number ≤ place → more ≡ number + length (filter test (x ∷ [])) → more ≤ place + 1
few_more test place number more x few one = omega (arith, few, one, by (test x))
  where
    by : (b : Bool) → length (cond b (x ∷ []) []) ≤ 1
    by true = omega arith
    by false = omega arith

-- the marks of a scope, and those behind them
pub record MarksAt (s : Shown) (items : List Item) (i : ℕ) (c : Scope) (rest : List Bool) : Type 0 where
  pub inside : length items ≤ length rest
  pub own : take (length items) rest ≡ scope_marks s items c
  pub behind : drop (length items) rest ≡ flat_map (scope_marks s items) (drop (i + 1) scopes)

pub marks_at : (s : Shown) (items : List Item) (i : ℕ) (c d : Scope) (rest : List Bool) → i < length scopes → c ≡ get_or scopes i d → rest ≡ flat_map (scope_marks s items) (drop i scopes) → MarksAt s items i c rest
marks_at s items i c d rest lt e is =
    let later : List Bool = flat_map (scope_marks s items) (drop (i + 1) scopes) in
    let parts : rest ≡ scope_marks s items c ++ later =
    is ∙ subst (λ (x : Scope). flat_map (scope_marks s items) (drop i scopes) ≡ scope_marks s items x ++ flat_map (scope_marks s items) (drop (i + 1) scopes)) (sym e) (rw (drop-cons scopes i d lt, add-one i) refl) in
    let many : length (scope_marks s items c) ≡ length items = length-map items (is_marked_signal s items c) in
    record {
      inside = omega (arith, ap length parts, length-append (scope_marks s items c) later, many);
      own = ap (λ (l : List Bool). take (length items) l) parts ∙ (ap (λ (n : ℕ). take n (scope_marks s items c ++ later)) (sym many) ∙ take_front (scope_marks s items c) later);
      behind = ap (λ (l : List Bool). drop (length items) l) parts ∙ (ap (λ (n : ℕ). drop n (scope_marks s items c ++ later)) (sym many) ∙ drop_front (scope_marks s items c) later);
    }

-- ---- what is put

mark_is_no_name : (name rest : List ℕ) → list_all is_name_byte (name ++ 35 ∷ rest) ≡ false
mark_is_no_name [] rest = refl
mark_is_no_name (b ∷ bs) rest = ap (λ (t : Bool). is_name_byte b && t) (mark_is_no_name bs rest) ∙ and-false (is_name_byte b)

-- a name with a `#` in it is not plain
mark_is_not_plain : (name rest : List ℕ) → is_plain_name (name ++ 35 ∷ rest) ≡ false
mark_is_not_plain [] rest = refl
mark_is_not_plain (b ∷ bs) rest = ap (λ (t : Bool). is_letter b && t) (mark_is_no_name (b ∷ bs) rest) ∙ and-false (is_letter b)

digits_are_names : (bs : List ℕ) → are_digits bs ≡ true → list_all is_name_byte bs ≡ true
digits_are_names [] h = refl
digits_are_names (b ∷ bs) h =
    let parts = and_parts (is_digit b) (are_digits bs) h in
    and_from (is_name_byte b) (list_all is_name_byte bs) (ap (λ (d : Bool). is_letter b || (d || (nat_eq b 46))) parts.0 ∙ or_true (is_letter b)) (digits_are_names bs parts.1)

-- a name that is told apart is escaped
pub escaped_apart : (c : Scope) (number id : ℕ) (symbol : Option (List ℕ)) (apart : Bool) → apart ≡ true → true ≡ not (is_plain_name (with_id apart id (prefix c ++ stem_by c number id symbol)))
escaped_apart c number id symbol apart is =
    sym (ap (λ (b : Bool). not (is_plain_name (with_id b id (prefix c ++ stem_by c number id symbol)))) is ∙ ap not (mark_is_not_plain (prefix c ++ stem_by c number id symbol) (decimal id)))

-- and so is one that something stands before
pub escaped_prefix : (c : Scope) (number id : ℕ) (symbol : Option (List ℕ)) (apart : Bool) → nat_eq (length (prefix c)) 0 ≡ false → true ≡ not (is_plain_name (with_id apart id (prefix c ++ stem_by c number id symbol)))
escaped_prefix scope.Bads number id symbol true h = refl
escaped_prefix scope.Bads number id symbol false h = refl
escaped_prefix scope.Constraints number id symbol true h = refl
escaped_prefix scope.Constraints number id symbol false h = refl
escaped_prefix _ number id symbol apart h = absurd cc

-- and an identifier code is plain
pub escaped_code : (c : Scope) (number id : ℕ) (symbol : Option (List ℕ)) (apart : Bool) → apart ≡ false → nat_eq (length (prefix c)) 0 ≡ true → symbol ≡ None → id < 2 ^ 64
    → false ≡ not (is_plain_name (with_id apart id (prefix c ++ stem_by c number id symbol)))
escaped_code c number id symbol apart off none is small =
    sym (ap (λ (b : Bool). not (is_plain_name (with_id b id (prefix c ++ stem_by c number id symbol)))) off ∙ (ap (λ (o : Option (List ℕ)). not (is_plain_name (prefix c ++ stem_by c number id o))) is ∙ by c none))
  where
    by : (c : Scope) → nat_eq (length (prefix c)) 0 ≡ true → not (is_plain_name (prefix c ++ stem_by c number id None)) ≡ false
    by scope.Bads h = absurd cc
    by scope.Constraints h = absurd cc
    by _ h = ap not (digits_are_names (decimal id) (decimal_digits id small))

slash : (name : List ℕ) (is_put : Bool) → is_put ≡ not (is_plain_name name) → escaped name ≡ cond is_put (92 ∷ []) [] ++ name
slash name is_put e = by (is_plain_name name) ∙ sym (ap (λ (b : Bool). cond b (92 ∷ []) [] ++ name) e)
  where
    by : (b : Bool) → cond b name (92 ∷ name) ≡ cond (not b) (92 ∷ []) [] ++ name
    by true = refl
    by false = refl

-- the pieces of a name
pub name_parts : (c : Scope) (number : ℕ) (x : Item) (apart is_put : Bool) → is_put ≡ not (is_plain_name (with_id apart x.id (plain_name c number x)))
    → escaped (with_id apart x.id (plain_name c number x)) ≡ cond is_put (92 ∷ []) [] ++ (prefix c ++ (stem_by c number x.id x.symbol ++ cond apart (35 ∷ decimal x.id) []))
name_parts c number x apart is_put e = slash (with_id apart x.id (plain_name c number x)) is_put e ∙ ap (λ (l : List ℕ). cond is_put (92 ∷ []) [] ++ l) (by apart)
  where
    by : (b : Bool) → with_id b x.id (plain_name c number x) ≡ prefix c ++ (stem_by c number x.id x.symbol ++ cond b (35 ∷ decimal x.id) [])
    by true = append_assoc (prefix c) (stem_by c number x.id x.symbol) (35 ∷ decimal x.id)
    by false = sym (ap (λ (l : List ℕ). prefix c ++ l) (append-nil (stem_by c number x.id x.symbol)))

-- a byte behind a name: it is `#`, or a digit behind one that ends in a number
ends_push : (name : List ℕ) (b : ℕ) → ends_in_number (name ++ b ∷ []) ≡ (nat_eq b 35 || (ends_in_number name && is_digit b))
ends_push [] b = by (nat_eq b 35)
  where
    by : (t : Bool) → ((t && true) || false) ≡ (t || (false && is_digit b))
    by true = refl
    by false = refl
ends_push (z ∷ zs) b =
    ap₂ (λ (l r : Bool). (nat_eq z 35 && l) || r) (list_all-append is_digit zs (b ∷ [])) (ends_push zs b) ∙ by (nat_eq z 35) (are_digits zs) (is_digit b) (nat_eq b 35) (ends_in_number zs)
  where
    by : (m d t h e : Bool) → ((m && (d && (t && true))) || (h || (e && t))) ≡ (h || (((m && d) || e) && t))
    by true true true true e = refl
    by true true true false e = refl
    by true true false true e = refl
    by true true false false true = refl
    by true true false false false = refl
    by true false t h e = refl
    by false d t h e = refl

-- one byte more
pub ends_more : (name : List ℕ) (i : ℕ) (ends : Bool) → i < length name → ends ≡ ends_in_number (take i name) → (nat_eq (get_or name i 0) 35 || (ends && is_digit (get_or name i 0))) ≡ ends_in_number (take (i + 1) name)
ends_more name i ends lt e =
    ap (λ (b : Bool). nat_eq (get_or name i 0) 35 || (b && is_digit (get_or name i 0))) e
    ∙ (sym (ends_push (take i name) (get_or name i 0)) ∙ sym (ap ends_in_number (take_at_read name i 0 lt).1))
