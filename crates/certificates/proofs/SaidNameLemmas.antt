-- Names of latches: which latches a line of names says, and how it is read.
use Rattle.std.proofs.Common.{◌≡◌, ℕ, ◌<◌, ◌≤◌, Bool, true, false, not, ◌&&◌, ◌==◌, List, [], ◌∷◌, ◌++◌, length, map, All, flat_map, Option, None, Some, Result, Ok, Err, if◌then◌else◌, ⊎_elim, refl, sym, ap, subst, ◌∙◌, append_assoc, append-nil, arith, nat_eq, nat_lt, nat_le, codes}
use Rattle.std.specs.List.{list_any, AllZip, IsDistinct, AllByRecursion}
use Rattle.std.proofs.lemmas.Bool.{cases_Bool, eqb-true, and_parts, and_from, or_from, leb-true, le-leb, eqb-false}
use Rattle.std.proofs.lemmas.Bool.Decides.{nat_tests}
use Rattle.std.proofs.lemmas.List.Elements.{All-nil, All-cons, All-head, All-tail}
use Rattle.std.proofs.lemmas.Cmp.{nat_eq_equiv}
use Rattle.std.proofs.lemmas.Map.Keys.{IsDistinct-push}
use Rattle.base.specs.Lines.{HasNone}
use Rattle.base.specs.Decimals.{is_digit, are_digits, is_decimal, is_nothing, capped_value, digits_number, number_of}
use Rattle.base.proofs.DecimalLemmas.{digits_without}
use Rattle.certificates.specs.declared.why.InvariantWhy.{InvariantWhy}
use Rattle.certificates.specs.declared.why.InvariantWhy.TheVariants as why
use Rattle.certificates.specs.Reading.{without_zeros, latch_named, with_named_latch, then_named, counted, named_latches, line_words, behind_key}
use Rattle.certificates.specs.Texts.{NamesLatch, names_line}
use Rattle.certificates.proofs.SaidWordLemmas.{joined, words_joined, words_of_joined, key_first, behind_first}

-- ---- zeros in front

-- where the first byte is no zero, digits are a decimal
same_test : (b : ℕ) (bs : List ℕ) → (b == 48) ≡ false → is_decimal (b ∷ bs) ≡ are_digits (b ∷ bs)
unfolding is_decimal
same_test b bs off =
    ap (λ (x : Bool). if x then is_nothing bs else (nat_le 49 b && nat_le b 57 && are_digits (b ∷ bs))) off
    ∙ by (are_digits (b ∷ bs)) refl
  where
    by : (all : Bool) → are_digits (b ∷ bs) ≡ all → (nat_le 49 b && nat_le b 57 && all) ≡ all
    by true is =
        let first = and_parts (is_digit b) (are_digits bs) is in
        let range = and_parts (nat_le 48 b) (nat_le b 57) first.0 in
        let low : 48 ≤ b = leb-true 48 b range.0 in
        let other : 49 ≤ b = omega (arith, low, eqb-false b 48 off) in
        and_from (nat_le 49 b && nat_le b 57) true (and_from (nat_le 49 b) (nat_le b 57) (le-leb 49 b other) range.1) refl
    by false is = none (nat_le 49 b && nat_le b 57)
      where
        none : (x : Bool) → (x && false) ≡ false
        none true = refl
        none false = refl

same_number : (b : ℕ) (bs : List ℕ) → is_decimal (b ∷ bs) ≡ are_digits (b ∷ bs) → number_of (b ∷ bs) ≡ digits_number (b ∷ bs)
unfolding number_of digits_number
same_number b bs e = ap (λ (x : Bool). if x then Some (capped_value (b ∷ bs)) else None) e

zero_alone : number_of (48 ∷ []) ≡ digits_number (48 ∷ [])
unfolding number_of digits_number is_decimal
zero_alone = refl

zero_more : (bs : List ℕ) → digits_number bs ≡ digits_number (48 ∷ bs)
unfolding digits_number capped_value
zero_more bs = refl

-- digits are read as their number, whatever zeros stand in front
zeros_number : (b : ℕ) (bs : List ℕ) → number_of (without_zeros (b ∷ bs)) ≡ digits_number (b ∷ bs)
zeros_number b [] =
    ⊎_elim
    (λ (on : (b == 48) ≡ true). subst (λ (x : ℕ). number_of (x ∷ []) ≡ digits_number (x ∷ [])) (sym (eqb-true b 48 on)) zero_alone)
    (λ (off : (b == 48) ≡ false). same_number b [] (same_test b [] off))
    (cases_Bool (b == 48))
zeros_number b (c ∷ bs) =
    ⊎_elim
    (λ (on : (b == 48) ≡ true).
    ap (λ (x : Bool). number_of (if x then without_zeros (c ∷ bs) else b ∷ c ∷ bs)) on
    ∙ (zeros_number c bs ∙ (zero_more (c ∷ bs) ∙ ap (λ (x : ℕ). digits_number (x ∷ c ∷ bs)) (sym (eqb-true b 48 on)))))
    (λ (off : (b == 48) ≡ false).
    ap (λ (x : Bool). number_of (if x then without_zeros (c ∷ bs) else b ∷ c ∷ bs)) off ∙ same_number b (c ∷ bs) (same_test b (c ∷ bs) off))
    (cases_Bool (b == 48))

digits_bare : (digits : List ℕ) (n : ℕ) → digits_number digits ≡ Some n → HasNone 32 digits
unfolding digits_number
digits_bare digits n e = by (are_digits digits) refl e
  where
    by : (b : Bool) → are_digits digits ≡ b → (if b then Some (capped_value digits) else None) ≡ Some n → HasNone 32 digits
    by true is e = digits_without 32 digits (omega arith) is
    by false is e = absurd (cc)

-- no digits are read as none
no_digits : number_of (without_zeros []) ≡ None
unfolding number_of is_decimal
no_digits = refl

-- ---- a name

-- the name with these digits
abbrev pub name_of : List ℕ → List ℕ
name_of digits = codes "lo" ++ digits

pub latch_name : (word : List ℕ) (k : ℕ) → latch_named word ≡ Some k → (digits : List ℕ) × (word ≡ name_of digits) × NamesLatch digits k
latch_name [] k e = absurd (cc)
latch_name (b ∷ []) k e = absurd (cc)
latch_name (b ∷ c ∷ digits) k e = by (b == 108 && c == 111) refl e
  where
    some : (digits : List ℕ) → number_of (without_zeros digits) ≡ Some k → NamesLatch digits k
    some [] e = let none : None ≡ Some k = sym no_digits ∙ e in absurd (cc)
    some (d ∷ ds) e = ((λ (is : d ∷ ds ≡ []). absurd (cc)), sym (zeros_number d ds) ∙ e)

    by : (x : Bool) → (b == 108 && c == 111) ≡ x → (if x then number_of (without_zeros digits) else None) ≡ Some k → (ds : List ℕ) × (b ∷ c ∷ digits ≡ name_of ds) × NamesLatch ds k
    by true is e =
        let two = and_parts (b == 108) (c == 111) is in
        let l : b ≡ 108 = eqb-true b 108 two.0 in
        let o : c ≡ 111 = eqb-true c 111 two.1 in
        (digits, ap (λ (x : ℕ). x ∷ c ∷ digits) l ∙ ap (λ (x : ℕ). 108 ∷ x ∷ digits) o, some digits e)
    by false is e = absurd (cc)

pub latch_read : (digits : List ℕ) (k : ℕ) → NamesLatch digits k → latch_named (name_of digits) ≡ Some k
latch_read [] k is = absurd (is.0 refl)
latch_read (d ∷ ds) k is = zeros_number d ds ∙ is.1

-- ---- names in turn

apart : (xs more : List ℕ) (k : ℕ) → IsDistinct nat_eq (xs ++ k ∷ more) → list_any (nat_eq k) xs ≡ false
unfolding IsDistinct
apart [] more k once = refl
apart (x ∷ xs) more k once = or_from (nat_eq k x) (list_any (nat_eq k) xs) (other k x (here xs more k once.0)) (apart xs more k once.1)
  where
    here : (ys more : List ℕ) (k : ℕ) → AllByRecursion (λ y. nat_eq x y ≡ false) (ys ++ k ∷ more) → nat_eq x k ≡ false
    here [] more k all = all.0
    here (y ∷ ys) more k all = here ys more k all.1

    other : (k x : ℕ) → nat_eq x k ≡ false → nat_eq k x ≡ false
    other k x e = grind (arith, nat_tests)

lt_true : (m n : ℕ) → nat_lt m n ≡ true → m < n
lt_true m n e = grind (arith, nat_tests)

true_lt : (m n : ℕ) → m < n → nat_lt m n ≡ true
true_lt m n h = grind (arith, nat_tests)

-- names that say latches which are there, each of them once, behind those named before
pub record SaysNames (latches : ℕ) (before : List ℕ) (more : List (List ℕ)) (named : List ℕ) : Type 0 where
  pub names : List (List ℕ)
  pub own : List ℕ
  pub words : more ≡ map name_of names
  pub all : named ≡ before ++ own
  pub say : AllZip NamesLatch names own
  pub there : All (λ k. k < latches) own
  pub once : IsDistinct nat_eq before → IsDistinct nat_eq named

pub names_said : (latches : ℕ) (before : List ℕ) (more : List (List ℕ)) (named : List ℕ) → then_named latches (Ok before) more ≡ Ok named → SaysNames latches before more named
names_said latches before [] named e =
    let same : before ≡ named = cc in
    record { names = []; own = []; words = refl; all = sym (append-nil before ∙ same); say = tt; there = All-nil (λ (k : ℕ). k < latches); once = λ h. subst (IsDistinct nat_eq) same h }
names_said latches before (word ∷ more) named e = by (λ k. names_said latches (before ++ k ∷ []) more named) (latch_named word) refl e
  where
    Back : Type 0
    Back = (k : ℕ) → then_named latches (Ok (before ++ k ∷ [])) more ≡ Ok named → SaysNames latches (before ++ k ∷ []) more named

    ended : (why : InvariantWhy) → then_named latches (Err why) more ≡ Ok named → SaysNames latches before (word ∷ more) named
    ended why e = absurd (cc)

    taken : Back → (k : ℕ) (a b : Bool) → latch_named word ≡ Some k → nat_lt k latches ≡ a → list_any (nat_eq k) before ≡ b
        → then_named latches (if not a then Err why.NoSuchLatch else (if b then Err why.NamedTwice else Ok (before ++ k ∷ []))) more ≡ Ok named → SaysNames latches before (word ∷ more) named
    taken back k false b is inside twice e = ended why.NoSuchLatch e
    taken back k true true is inside twice e = ended why.NamedTwice e
    taken back k true false is inside twice e =
        let rest = back k e in
        let name = latch_name word k is in
        record {
          names = name.0 ∷ rest.names;
          own = k ∷ rest.own;
          words = ap (λ (w : List ℕ). w ∷ more) name.1 ∙ ap (λ (ws : List (List ℕ)). name_of name.0 ∷ ws) rest.words;
          all = rest.all ∙ append_assoc before (k ∷ []) rest.own;
          say = (name.2, rest.say);
          there = All-cons (λ (j : ℕ). j < latches) k rest.own (lt_true k latches inside) rest.there;
          once = λ h. rest.once (IsDistinct-push nat_eq_equiv before k h twice);
        }

    by : Back → (o : Option ℕ) → latch_named word ≡ o → then_named latches (with_named_latch latches before o) more ≡ Ok named → SaysNames latches before (word ∷ more) named
    by back None is e = ended why.BadNames e
    by back (Some k) is e = taken back k (nat_lt k latches) (list_any (nat_eq k) before) is refl refl e

pub names_read : (latches : ℕ) (before : List ℕ) (names : List (List ℕ)) (own : List ℕ) → AllZip NamesLatch names own → All (λ k. k < latches) own → IsDistinct nat_eq (before ++ own)
    → then_named latches (Ok before) (map name_of names) ≡ Ok (before ++ own)
names_read latches before [] [] say there once = ap Ok (sym (append-nil before))
names_read latches before [] (k ∷ own) say there once = absurd say
names_read latches before (digits ∷ names) [] say there once = absurd say
names_read latches before (digits ∷ names) (k ∷ own) say there once =
    let more : List (List ℕ) = map name_of names in
    let inside : nat_lt k latches ≡ true = true_lt k latches (All-head (λ (j : ℕ). j < latches) k own there) in
    let new : list_any (nat_eq k) before ≡ false = apart before own k once in
    let all : (before ++ k ∷ []) ++ own ≡ before ++ k ∷ own = append_assoc before (k ∷ []) own in
    ap (λ (o : Option ℕ). then_named latches (with_named_latch latches before o) more) (latch_read digits k say.0)
    ∙ (ap (λ (x : Bool). then_named latches (if not x then Err why.NoSuchLatch else (if list_any (nat_eq k) before then Err why.NamedTwice else Ok (before ++ k ∷ []))) more) inside
    ∙ (ap (λ (x : Bool). then_named latches (if x then Err why.NamedTwice else Ok (before ++ k ∷ [])) more) new
    ∙ (names_read latches (before ++ k ∷ []) names own say.1 (All-tail (λ (j : ℕ). j < latches) k own there) (subst (IsDistinct nat_eq) (sym all) once)
    ∙ ap Ok all)))

-- ---- the line of names

line_of_names : (names : List (List ℕ)) → flat_map (λ w. 32 ∷ w) (map name_of names) ≡ flat_map (λ digits. codes " lo" ++ digits) names
line_of_names [] = refl
line_of_names (digits ∷ names) = ap (λ (xs : List ℕ). (codes " lo" ++ digits) ++ xs) (line_of_names names)

joined_names : (names : List (List ℕ)) → joined (codes ".ilb" ∷ map name_of names) ≡ names_line names
joined_names names = ap (λ (xs : List ℕ). codes ".ilb" ++ xs) (line_of_names names)

names_bare : (names : List (List ℕ)) (own : List ℕ) → AllZip NamesLatch names own → All (HasNone 32) (map name_of names)
names_bare [] own say = All-nil (HasNone 32)
names_bare (digits ∷ names) [] say = absurd say
names_bare (digits ∷ names) (k ∷ own) say = All-cons (HasNone 32) (name_of digits) (map name_of names) (digits_bare digits k say.0.1) (names_bare names own say.1)

-- what a line says that is read as so many names
pub record SaysLatches (latches width : ℕ) (line named : List ℕ) : Type 0 where
  pub names : List (List ℕ)
  pub line_is : line ≡ names_line names
  pub say : AllZip NamesLatch names named
  pub there : All (λ k. k < latches) named
  pub once : IsDistinct nat_eq named
  pub many : length named ≡ width

none_distinct : IsDistinct nat_eq []
unfolding IsDistinct
none_distinct = tt

pub latches_said : (latches width : ℕ) (line named : List ℕ) → named_latches latches width (behind_key (codes ".ilb") (line_words line)) ≡ Ok named → SaysLatches latches width line named
latches_said latches width line named e = by (behind_key (codes ".ilb") (line_words line)) refl e
  where
    told : (more : List (List ℕ)) (found : List ℕ) (b : Bool) → line_words line ≡ codes ".ilb" ∷ more → then_named latches (Ok []) more ≡ Ok found → (length found == width) ≡ b
        → (if b then Ok found else Err why.WrongNames) ≡ Ok named → SaysLatches latches width line named
    told more found true ws is many e =
        let same : found ≡ named = cc in
        let all = names_said latches [] more found is in
        let own : all.own ≡ named = sym all.all ∙ same in
        record {
          names = all.names;
          line_is = sym (words_joined line) ∙ (ap joined (ws ∙ ap (λ (x : List (List ℕ)). codes ".ilb" ∷ x) all.words) ∙ joined_names all.names);
          say = subst (AllZip NamesLatch all.names) own all.say;
          there = subst (All (λ k. k < latches)) own all.there;
          once = subst (IsDistinct nat_eq) same (all.once none_distinct);
          many = ap length (sym same) ∙ eqb-true (length found) width many;
        }
    told more found false ws is many e = absurd (cc)

    all_of : (more : List (List ℕ)) (r : Result (List ℕ) InvariantWhy) → line_words line ≡ codes ".ilb" ∷ more → then_named latches (Ok []) more ≡ r → counted width r ≡ Ok named → SaysLatches latches width line named
    all_of more (Err why) ws is e = absurd (cc)
    all_of more (Ok found) ws is e = told more found (length found == width) ws is refl e

    by : (o : Option (List (List ℕ))) → behind_key (codes ".ilb") (line_words line) ≡ o → named_latches latches width o ≡ Ok named → SaysLatches latches width line named
    by None is e = absurd (cc)
    by (Some more) is e = all_of more (then_named latches (Ok []) more) (key_first (codes ".ilb") (line_words line) more is) refl e

pub latches_read : (latches width : ℕ) (names : List (List ℕ)) (named : List ℕ) → AllZip NamesLatch names named → All (λ k. k < latches) named → IsDistinct nat_eq named → length named ≡ width
    → named_latches latches width (behind_key (codes ".ilb") (line_words (names_line names))) ≡ Ok named
latches_read latches width names named say there once many =
    let more : List (List ℕ) = map name_of names in
    let ws : line_words (names_line names) ≡ codes ".ilb" ∷ more = ap line_words (sym (joined_names names)) ∙ words_of_joined (codes ".ilb") more refl (names_bare names named say) in
    ap (λ (x : List (List ℕ)). named_latches latches width (behind_key (codes ".ilb") x)) ws
    ∙ (ap (named_latches latches width) (behind_first (codes ".ilb") more)
    ∙ (ap (counted width) (names_read latches [] names named say there once)
    ∙ ap (λ (b : Bool). if b then Ok named else Err why.WrongNames) (yes (length named) width many)))
  where
    yes : (m n : ℕ) → m ≡ n → (m == n) ≡ true
    yes m n e = grind (arith, nat_tests)
