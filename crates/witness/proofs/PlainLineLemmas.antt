-- A plain line at the front of a text, digit by digit and part by part.
use Rattle.std.proofs.Common.{◌≡◌, ◌⊎◌, ℕ, zero, suc, ◌+◌, ◌-◌, ◌*◌, ◌/◌, ◌%◌, ◌<◌, ◌≤◌, ◌^◌, ◌==◌, Bool, true, false, List, [], ◌∷◌, ◌++◌, Option, Some, None, IfSome, length, map, reverse, get_or, slice_index, take, drop, decimal, append_assoc, length-append, inl, inr, refl, sym, ap, ap₂, subst, ◌∙◌, arith, MatchOption, slice_get, ◌≢◌}
use Rattle.std.specs.List.{list_any, list_all, prefix_len}
use Rattle.std.proofs.lemmas.List.Sums.{prefix_len-le-length, prefix_len_passes, prefix_len_stops, list_all-from_AllPass}
use Rattle.std.proofs.Math.Nat.{pow-suc, pow-le-pow_right}
use Rattle.std.proofs.lemmas.Bool.{cases_Bool, cases_lt, eqb-false, or_parts, and_parts}
use Rattle.std.proofs.lemmas.Fmt.{decimal_digit, decimal_step, decimal_nonempty, first_decimal, length-decimal-le, decimal_injective}
use Rattle.std.proofs.lemmas.List.{take_more, get_or-take, get_or_at, get_or_append_left, length-take, length-take-le, length-drop, length-map, length-reverse, take-append-le, take-append-drop, drop-append-le, take_all, drop_all}
use Rattle.std.proofs.lemmas.List.Folds.{list_all_at}
use Rattle.base.specs.Decimals.{is_digit}
use Rattle.base.specs.Lines.{HasNone}
use Rattle.base.specs.Word.{bits}
use Rattle.base.proofs.BitLemmas.{length-bits}
use Rattle.base.proofs.DecimalLemmas.{digit_range, decimal_digits, decimal_without}
use Rattle.btor2.specs.Symbols.{is_symbol, is_printed}
use Rattle.btor2.proofs.SymbolLemmas.{symbol_printed}
use Rattle.witness.specs.Texts.{digit, binary, symbol_part}
use Rattle.witness.specs.Fits.{is_set}
use Rattle.witness.specs.Admits.{is_bit}
use Rattle.witness.specs.WordValues.{IsValueOf}
use Rattle.witness.specs.PlainLines.{NoNumber, BeginsName, IsFirstOther, NoName, BeginsWord, BeginsAssignment}
use Rattle.witness.proofs.PieceLemmas.{IsBinary, value_is_binary}
use Rattle.witness.proofs.WordValueLemmas.{value_known}
use Rattle.std.proofs.Math.Seq.{take-append_seam}
use Rattle.std.proofs.lemmas.Option.{slice_get-get_or}

-- a digit's byte
byte_back : (b : ℕ) → 48 ≤ b → 48 + (b - 48) ≡ b
byte_back b h = omega arith

-- a number with a digit more
with_digit : (v b : ℕ) → is_digit b ≡ true → 0 < v → v < 10 ^ 18 → decimal (v * 10 + (b - 48)) ≡ decimal v ++ b ∷ []
with_digit v b is some room =
    let digit = digit_range b is in
    let n : ℕ = v * 10 + (b - 48) in
    let front : n / 10 ≡ v = omega (arith, digit) in
    let last : 48 + n % 10 ≡ b = omega (arith, digit) in
    decimal_step n (omega (arith, some)) (omega (arith, digit, room)) ∙ ap (λ (m : ℕ). decimal m ++ (48 + n % 10) ∷ []) front ∙ ap (λ (c : ℕ). decimal v ++ c ∷ []) last

-- the first bytes of a text are the decimal of a number
pub record IsRead (text : List ℕ) (at value : ℕ) : Type 0 where
  pub digits : take at text ≡ decimal value
  pub small : value < 10 ^ at

pub read_first : (text rest : List ℕ) (first : ℕ) → text ≡ first ∷ rest → is_digit first ≡ true → IsRead text 1 (first - 48)
read_first text rest first is told =
    let digit = digit_range first told in
    record {
      digits = ap (take 1) is ∙ (ap (λ (b : ℕ). b ∷ []) (sym (byte_back first digit.0)) ∙ sym (decimal_digit (first - 48) (omega (arith, digit))));
      small = omega (arith, digit);
    }

-- of at most 18 digits there is room for one more
pub room : (text : List ℕ) (at value : ℕ) → IsRead text at value → at < 19 → value < 10 ^ 18
room text at value read few =
    let power : 10 ^ at ≤ 10 ^ 18 = pow-le-pow_right {n = 10} (omega arith) {i = at} {j = 18} (omega (arith, few)) in
    omega (arith, power, read.small)

pub read_more : (text : List ℕ) (at value : ℕ) → IsRead text at value → at < length text → is_digit (get_or text at 0) ≡ true → 0 < value → at < 19 → IsRead text (at + 1) (value * 10 + (get_or text at 0 - 48))
read_more text at value read lt digit some few =
    let power : 10 ^ suc at ≡ 10 ^ at * 10 = pow-suc 10 at in
    let same : 10 ^ (at + 1) ≡ 10 ^ suc at = ap (λ (n : ℕ). 10 ^ n) (omega arith) in
    record {
      digits = take_more text at 0 lt ∙ ap (λ (ds : List ℕ). ds ++ get_or text at 0 ∷ []) read.digits ∙ sym (with_digit value (get_or text at 0) digit some (room text at value read few));
      small = omega (arith, power, same, read.small, digit_range (get_or text at 0) digit);
    }

-- ---- a text that begins with a decimal and a byte that is no digit

digit_there : (n k : ℕ) → n < 2 ^ 64 → k < length (decimal n) → is_digit (get_or (decimal n) k 0) ≡ true
digit_there n k small lt =
    elim (cases_Bool (is_digit (get_or (decimal n) k 0))) [
      | inl e ↦ e
      | inr e ↦ absurd (cc (list_all_at is_digit (decimal n) k 0 lt e, decimal_digits n small))
    ]

module _ (text rest : List ℕ) (end n : ℕ) (few : n < 10 ^ 19) (is : text ≡ decimal n ++ end ∷ rest) where
  small_number : n < 2 ^ 64
  small_number = omega (arith, few)

  long_text : length text ≡ length (decimal n) + suc (length rest)
  long_text = ap length is ∙ length-append (decimal n) (end ∷ rest)

  byte_there : (k : ℕ) → k < length (decimal n) → get_or text k 0 ≡ get_or (decimal n) k 0
  byte_there k lt = ap (λ (l : List ℕ). get_or l k 0) is ∙ get_or_append_left (decimal n) (end ∷ rest) 0 k lt

  end_there : get_or text (length (decimal n)) 0 ≡ end
  end_there = ap (λ (l : List ℕ). get_or l (length (decimal n)) 0) is ∙ get_or_at (decimal n) end rest 0 (length (decimal n)) refl

  pub first_there : (0 < length text) × (is_digit (get_or text 0 0) ≡ true)
  first_there =
      let some = decimal_nonempty n small_number in
      (omega (arith, long_text), ap is_digit (byte_there 0 some) ∙ digit_there n 0 small_number some)

  -- a byte `0` begins no more than itself
  not_zero : (at value : ℕ) → 0 < at → at < length (decimal n) → take at text ≡ decimal value → 0 < value
  not_zero at zero some inside read =
      let first : get_or (decimal n) 0 0 ≡ 48 =
      sym (byte_there 0 (omega (arith, inside))) ∙ (sym (get_or-take at text 0 0 some) ∙ (ap (λ (l : List ℕ). get_or l 0 0) read ∙ ap (λ (l : List ℕ). get_or l 0 0) (decimal_digit 0 (omega arith)))) in
      elim (cases_lt 0 n) [
        | inl above ↦ absurd (omega (arith, first, first_decimal n above small_number))
        | inr none ↦
            let short : length (decimal n) ≡ 1 = ap length (decimal_digit n (omega (arith, none))) in
            absurd (omega (arith, short, some, inside))
      ]
  not_zero at (suc value) some inside read = omega arith

  -- where its first bytes are a number, the next is the byte behind it or a digit more
  pub next_there : (at value : ℕ) → end < 48 → 0 < at → take at text ≡ decimal value → value < 2 ^ 64
      → (at < length text) × ((get_or text at 0 ≡ end) ⊎ ((is_digit (get_or text at 0) ≡ true) × (0 < value) × (at < 19)))
  next_there at value low some read small =
      let most : length (decimal n) ≤ 19 = length-decimal-le 19 n (omega arith) few small_number in
      elim (cases_lt at (length (decimal n))) [
        | inl inside ↦
            (omega (arith, long_text, inside), inr (ap is_digit (byte_there at inside) ∙ digit_there n at small_number inside, not_zero at value some inside read, omega (arith, most, inside)))
        | inr not_inside ↦
            elim (cases_lt (length (decimal n)) at) [
              | inl past ↦
                  let same : get_or (decimal value) (length (decimal n)) 0 ≡ end = ap (λ (l : List ℕ). get_or l (length (decimal n)) 0) (sym read) ∙ (get_or-take at text (length (decimal n)) 0 past ∙ end_there) in
                  let within : length (decimal n) < length (decimal value) = omega (arith, ap length read, length-take at text, long_text, past) in
                  absurd (omega (arith, digit_range (get_or (decimal value) (length (decimal n)) 0) (digit_there value (length (decimal n)) small within), same, low))
              | inr not_past ↦
                  let at_end : length (decimal n) ≡ at = omega (arith, not_inside, not_past) in
                  (omega (arith, long_text, at_end), inl (subst (λ (k : ℕ). get_or text k 0 ≡ end) at_end end_there))
            ]
      ]

-- the first bytes are a number, and no digit more of it stands behind them
pub number_ends : {A : Type 0} (o : Option (ℕ × A)) (view : A → List ℕ) (text : List ℕ) (end at value : ℕ) → end < 48 → 0 < at → value < 2 ^ 64 → IsRead text at value → (at < length text → is_digit (get_or text at 0) ≡ true → 0 < value → at < 19 → ⊥)
    → MatchOption o (slice_get text at ≢ Some end) (λ x. (x.0 ≡ value) × (text ≡ take at text ++ end ∷ view x.1)) → MatchOption o (NoNumber end text) (λ x. (x.0 < 2 ^ 64) × (text ≡ decimal x.0 ++ end ∷ view x.1))
number_ends None view text end at value low some small read stops told = λ n rest few is.
    let there = next_there text rest end n few is at value low some read.digits small in
    elim (there.1) [
      | inl same ↦ told (slice_get-get_or text at 0 there.0 ∙ ap (λ (b : ℕ). Some b) same)
      | inr more ↦ stops there.0 more.0 more.1 more.2
    ]
number_ends (Some x) view text end at value low some small read stops told =
    (subst (λ (n : ℕ). n < 2 ^ 64) (sym told.0) small, told.1 ∙ ap (λ (l : List ℕ). l ++ end ∷ view x.1) (read.digits ∙ ap decimal (sym told.0)))

-- the digits of a word, and a name behind them or none
pub word_begins : (width x : ℕ) (text digits behind rest : List ℕ) → text ≡ digits ++ behind → length digits ≡ width → IsValueOf x digits → BeginsName behind rest → BeginsWord width text x rest
word_begins width x text digits behind rest is long known name =
    let spelled : IsBinary width digits x = value_is_binary width digits x (value_known width x digits long known) in
    record {
      symbol = name.symbol;
      is = is ∙ (ap₂ (λ (front back : List ℕ). front ++ back) spelled.spelled name.is ∙ sym (append_assoc (binary width x) (symbol_part name.symbol) (10 ∷ rest)));
      fits = spelled.fits;
      valid = name.valid;
    }

-- ---- a text that begins otherwise

-- where a byte stands first is one place
same_split : (e : ℕ) (xs ys r s : List ℕ) → HasNone e xs → HasNone e ys → xs ++ e ∷ r ≡ ys ++ e ∷ s → (xs ≡ ys) × (r ≡ s)
same_split e [] [] r s none other h = (refl, cc)
same_split e [] (y ∷ ys) r s none other h = absurd (eqb-false y e (or_parts (y == e) (list_any (λ b. b == e) ys) other).0 (cc))
same_split e (x ∷ xs) [] r s none other h = absurd (eqb-false x e (or_parts (x == e) (list_any (λ b. b == e) xs) none).0 (cc))
same_split e (x ∷ xs) (y ∷ ys) r s none other h =
    let first : x ≡ y = cc in
    let more = same_split e xs ys r s (or_parts (x == e) (list_any (λ b. b == e) xs) none).1 (or_parts (y == e) (list_any (λ b. b == e) ys) other).1 (cc) in
    (ap₂ (λ (b : ℕ) (l : List ℕ). b ∷ l) first more.0, more.1)

-- of a number before a byte that is no digit there is one
pub same_number : (e m n : ℕ) (r s : List ℕ) → e < 48 → m < 2 ^ 64 → n < 2 ^ 64 → decimal m ++ e ∷ r ≡ decimal n ++ e ∷ s → (m ≡ n) × (r ≡ s)
same_number e m n r s low small other h =
    let same = same_split e (decimal m) (decimal n) r s (decimal_without e m low small) (decimal_without e n low other) h in
    (decimal_injective m n small other same.0, same.1)

name_parts : (text rest : List ℕ) (symbol : Option (List ℕ)) → text ≡ symbol_part symbol ++ 10 ∷ rest → IfSome symbol (λ bytes. is_symbol bytes ≡ true) → (text ≡ 10 ∷ rest) ⊎ ((name : List ℕ) × ((text ≡ 32 ∷ (name ++ 10 ∷ rest)) × (is_symbol name ≡ true)))
name_parts text rest None is valid = inl is
name_parts text rest (Some name) is valid = inr (name, (is, valid))

tail_same : (x y : ℕ) (xs ys : List ℕ) → x ∷ xs ≡ y ∷ ys → xs ≡ ys
tail_same x y xs ys h = cc

module _ (text behind : List ℕ) (first : ℕ) (whole : text ≡ first ∷ behind) where
  -- a space
  pub name_behind : {A : Type 0} (o : Option A) (view : A → List ℕ) → first ≡ 32 → MatchOption o (NoName (32 ∷ behind)) (λ x. BeginsName (32 ∷ behind) (view x)) → MatchOption o (NoName text) (λ x. BeginsName text (view x))
  name_behind o view space told = subst (λ (t : List ℕ). MatchOption o (NoName t) (λ x. BeginsName t (view x))) (sym (whole ∙ ap (λ (b : ℕ). b ∷ behind) space)) told

-- ---- a name

-- the bytes in front of the first that is none of a name are those of names
in_front : (text : List ℕ) → list_all is_printed (take (prefix_len is_printed text) text) ≡ true
in_front text =
    let n : ℕ = prefix_len is_printed text in
    list_all-from_AllPass is_printed (take n text) (λ k d lt.
    let inside : k < n = omega (arith, lt, length-take n text) in
    ap is_printed (get_or-take n text k d inside) ∙ prefix_len_passes is_printed text k d inside)

module _ (text others : List ℕ) (n : ℕ) (count : n ≡ prefix_len is_printed text) (behind : others ≡ drop n text) where
  within : n ≤ length text
  within = omega (arith, count, prefix_len-le-length is_printed text)

  pub none_other : length others ≡ 0 → list_all is_printed text ≡ true
  none_other none =
      let all : take n text ≡ text = take_all n text (omega (arith, none, ap length behind, length-drop n text)) in
      sym (ap (list_all is_printed) all) ∙ (ap (λ (m : ℕ). list_all is_printed (take m text)) count ∙ in_front text)

  pub other_there : (end : ℕ) (rest : List ℕ) → others ≡ end ∷ rest → IsFirstOther text n end rest
  other_there end rest split =
      let is : text ≡ take n text ++ end ∷ rest = sym (take-append-drop n text) ∙ ap (λ (l : List ℕ). take n text ++ l) (sym behind ∙ split) in
      let many : length (take n text) ≡ n = length-take-le n text within in
      let short : prefix_len is_printed text < length text = omega (arith, count, many, ap length is, length-append (take n text) (end ∷ rest)) in
      let there : get_or text n 0 ≡ end = ap (λ (l : List ℕ). get_or l n 0) is ∙ get_or_at (take n text) end rest 0 n many in
      record {
        front = take n text;
        is = is;
        printed = ap (λ (m : ℕ). list_all is_printed (take m text)) count ∙ in_front text;
        other = ap is_printed (sym there) ∙ (ap (λ (m : ℕ). is_printed (get_or text m 0)) count ∙ prefix_len_stops is_printed text 0 short);
        many = many;
      }

-- the first byte that is none of a name is at one place
one_other : (front name r s : List ℕ) (b : ℕ) → list_all is_printed front ≡ true → list_all is_printed name ≡ true → is_printed b ≡ false → front ++ b ∷ r ≡ name ++ 10 ∷ s → (front ≡ name) × (b ≡ 10) × (r ≡ s)
one_other [] [] r s b all printed other is = (refl, ap (λ (l : List ℕ). get_or l 0 0) is, tail_same b 10 r s is)
one_other [] (n ∷ ns) r s b all printed other is =
    let same : b ≡ n = ap (λ (l : List ℕ). get_or l 0 0) is in
    absurd (cc (ap is_printed same, other, (and_parts (is_printed n) (list_all is_printed ns) printed).0))
one_other (f ∷ fs) [] r s b all printed other is =
    let same : f ≡ 10 = ap (λ (l : List ℕ). get_or l 0 0) is in
    absurd (cc (ap is_printed same, (and_parts (is_printed f) (list_all is_printed fs) all).0))
one_other (f ∷ fs) (n ∷ ns) r s b all printed other is =
    let same : f ≡ n = ap (λ (l : List ℕ). get_or l 0 0) is in
    let more = one_other fs ns r s b (and_parts (is_printed f) (list_all is_printed fs) all).1 (and_parts (is_printed n) (list_all is_printed ns) printed).1 other (tail_same f n (fs ++ b ∷ r) (ns ++ 10 ∷ s) is) in
    (ap₂ (λ (x : ℕ) (xs : List ℕ). x ∷ xs) same more.0, more.1, more.2)

-- where a name and the end of its line stand behind a space
pub name_there : (text rest : List ℕ) → BeginsName (32 ∷ text) rest → (name : List ℕ) × ((text ≡ name ++ 10 ∷ rest) × (is_symbol name ≡ true))
name_there text rest begins =
    elim (name_parts (32 ∷ text) rest begins.symbol begins.is begins.valid) [
      | inl is ↦ absurd (omega (arith, ap (λ (l : List ℕ). get_or l 0 0) is))
      | inr parts ↦ (parts.0, (tail_same 32 32 text (parts.0 ++ 10 ∷ rest) parts.1.0, parts.1.1))
    ]

-- what stands in front of the first byte that is none of a name, and behind
module _ (text rest : List ℕ) (count byte : ℕ) (first : IsFirstOther text count byte rest) where
  pub ends_line : (others : List ℕ) → BeginsName (32 ∷ text) others → (byte ≡ 10) × (is_symbol first.front ≡ true)
  ends_line others begins =
      let there = name_there text others begins in
      let one = one_other first.front there.0 rest others byte first.printed (symbol_printed there.0 there.1.1) first.other (sym first.is ∙ there.1.0) in
      (one.1, ap is_symbol one.0 ∙ there.1.1)

  pub front_is : (front : List ℕ) → front ≡ take count text → front ≡ first.front
  front_is front is = is ∙ (ap₂ (λ (n : ℕ) (t : List ℕ). take n t) (sym first.many) first.is ∙ take-append_seam first.front (byte ∷ rest))

  pub begins_name : byte ≡ 10 → is_symbol first.front ≡ true → BeginsName (32 ∷ text) rest
  begins_name last symbol = record { symbol = Some first.front; is = ap (λ (t : List ℕ). 32 ∷ t) (first.is ∙ ap (λ (b : ℕ). first.front ++ b ∷ rest) last); valid = symbol }

-- a line that goes on behind a frame's number
pub longer_line : (digits text behind others rest : List ℕ) (first end : ℕ) → (end ≡ 10 → ⊥) → text ≡ first ∷ behind → behind ≡ digits ++ end ∷ others → text ≡ (64 ∷ digits) ++ 10 ∷ rest → ⊥
longer_line digits text behind others rest first end other whole is begins =
    let there = sym is ∙ tail_same first 64 behind (digits ++ 10 ∷ rest) (sym whole ∙ begins) in
    other (sym (get_or_at digits end others 0 (length digits) refl) ∙ (ap (λ (l : List ℕ). get_or l (length digits) 0) there ∙ get_or_at digits 10 rest 0 (length digits) refl))

-- the digits of a word, and what stands behind them
length-binary : (width x : ℕ) → length (binary width x) ≡ width
length-binary width x = length-map (reverse (bits width x)) digit ∙ (length-reverse (bits width x) ∙ length-bits width x)

digits_are_known : (bs : List Bool) → list_all is_bit (map digit bs) ≡ true
digits_are_known [] = refl
digits_are_known (true ∷ bs) = digits_are_known bs
digits_are_known (false ∷ bs) = digits_are_known bs

pub record WordParts (width : ℕ) (text rest : List ℕ) : Type 0 where
  pub known : list_all is_bit (take width text) ≡ true
  pub name : BeginsName (drop width text) rest
  pub long : width < length text

pub word_parts : (width : ℕ) (text : List ℕ) (x : ℕ) (rest : List ℕ) → BeginsWord width text x rest → WordParts width text rest
word_parts width text x rest begins =
    let digits : List ℕ = binary width x in
    let behind : List ℕ = symbol_part begins.symbol ++ 10 ∷ rest in
    let is : text ≡ digits ++ behind = begins.is ∙ append_assoc digits (symbol_part begins.symbol) (10 ∷ rest) in
    let many = length-binary width x in
    let front : take width text ≡ digits = ap (take width) is ∙ (take-append-le width digits behind (omega (arith, many)) ∙ take_all width digits (omega (arith, many))) in
    let back : drop width text ≡ behind = ap (drop width) is ∙ (drop-append-le width digits behind (omega (arith, many)) ∙ ap (λ (l : List ℕ). l ++ behind) (drop_all width digits (omega (arith, many)))) in
    record {
      known = ap (list_all is_bit) front ∙ digits_are_known (reverse (bits width x));
      name = record { symbol = begins.symbol; is = back; valid = begins.valid };
      long = omega (arith, many, ap length is, length-append digits behind, length-append (symbol_part begins.symbol) (10 ∷ rest));
    }

-- the index of an assignment, and the word behind it
pub index_parts : (widths : List ℕ) (given : List Bool) (text : List ℕ) (index x : ℕ) (rest : List ℕ) → BeginsAssignment widths given text index x rest
    → (behind : List ℕ) × ((text ≡ decimal index ++ 32 ∷ behind) × BeginsWord (slice_index widths index) behind x rest)
index_parts widths given text index x rest begins =
    let digits : List ℕ = binary (slice_index widths index) x in
    let behind : List ℕ = (digits ++ symbol_part begins.symbol) ++ 10 ∷ rest in
    let joined : ((decimal index ++ 32 ∷ digits) ++ symbol_part begins.symbol) ++ 10 ∷ rest ≡ decimal index ++ 32 ∷ behind = simp append_assoc in
    (behind, (begins.is ∙ joined, record { symbol = begins.symbol; is = refl; fits = begins.valid.word; valid = begins.valid.symbol }))

-- a text that begins with a number and a space begins with an assignment to the node of that number alone
pub own_index : (widths : List ℕ) (given : List Bool) (text behind : List ℕ) (n index x : ℕ) (rest : List ℕ) → n < 2 ^ 64 → length widths < 10 ^ 19 → text ≡ decimal n ++ 32 ∷ behind → BeginsAssignment widths given text index x rest
    → (n < length widths) × (is_set given n ≡ false) × BeginsWord (slice_index widths n) behind x rest
own_index widths given text behind n index x rest small few is begins =
    let parts = index_parts widths given text index x rest begins in
    let within : index < length widths = begins.valid.index in
    let same = same_number 32 n index behind parts.0 (omega arith) small (omega (arith, within, few)) (sym is ∙ parts.1.0) in
    (omega (arith, within, same.0), ap (is_set given) same.0 ∙ begins.fresh, subst (λ (k : ℕ). BeginsWord (slice_index widths k) behind x rest) (sym same.0) (subst (λ (l : List ℕ). BeginsWord (slice_index widths index) l x rest) (sym same.1) parts.1.1))
