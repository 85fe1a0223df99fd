-- Which symbol in a frame is a symbol, and the names that are put.
use Rattle.std.proofs.Common.{◌≡◌, ℕ, ◌+◌, ◌<◌, ◌≤◌, ◌^◌, ◌==◌, nat_le, Bool, true, false, not, ◌&&◌, Some, None, List, [], ◌∷◌, ◌++◌, length, length-append, decimal, refl, sym, ap, ◌∙◌, arith}
use Rattle.std.specs.Prelude.{if◌then◌else◌, option_and_then}
use Rattle.std.specs.List.{list_all}
use Rattle.std.proofs.lemmas.Bool.{and_from, and_parts, leb-true, le-leb}
use Rattle.std.proofs.lemmas.List.Folds.{list_all-append}
use Rattle.base.specs.Decimals.{is_digit, are_digits}
use Rattle.btor2.specs.Symbols.{is_printed, is_symbol}
use Rattle.base.proofs.DecimalLemmas.{decimal_digits}
use Rattle.witness.specs.Texts.{symbol_part}
use Rattle.btor2.specs.declared.item.Item.{Item}
use Rattle.lift.specs.Lifted.{at_frame, name_in_frame, names}

-- ---- digits are printed

digit_printed : (b : ℕ) → is_digit b ≡ true → is_printed b ≡ true
digit_printed b h =
    let parts = and_parts (nat_le 48 b) (nat_le b 57) h in
    let low : 48 ≤ b = leb-true 48 b parts.0 in
    let high : b ≤ 57 = leb-true b 57 parts.1 in
    and_from (nat_le 33 b) (nat_le b 126) (le-leb 33 b (omega (arith, low))) (le-leb b 126 (omega (arith, high)))

digits_printed : (bytes : List ℕ) → are_digits bytes ≡ true → list_all is_printed bytes ≡ true
digits_printed [] h = refl
digits_printed (b ∷ bytes) h =
    let parts = and_parts (is_digit b) (are_digits bytes) h in
    and_from (is_printed b) (list_all is_printed bytes) (digit_printed b parts.0) (digits_printed bytes parts.1)

-- ---- a symbol with more bytes behind it

longer_symbol : (symbol more : List ℕ) → is_symbol symbol ≡ true → list_all is_printed more ≡ true → length symbol + length more ≤ 255 → is_symbol (symbol ++ more) ≡ true
longer_symbol [] more is printed fits = absurd (cc)
longer_symbol (b ∷ bs) more is printed fits =
    let first = and_parts (not (b == 59)) (nat_le (length (b ∷ bs)) 255 && list_all is_printed (b ∷ bs)) is in
    let rest = and_parts (nat_le (length (b ∷ bs)) 255) (list_all is_printed (b ∷ bs)) first.1 in
    let all : list_all is_printed ((b ∷ bs) ++ more) ≡ true = list_all-append is_printed (b ∷ bs) more ∙ and_from (list_all is_printed (b ∷ bs)) (list_all is_printed more) rest.1 printed in
    let few : nat_le (length ((b ∷ bs) ++ more)) 255 ≡ true = le-leb (length ((b ∷ bs) ++ more)) 255 (omega (arith, fits, length-append (b ∷ bs) more)) in
    and_from (not (b == 59)) (nat_le (length ((b ∷ bs) ++ more)) 255 && list_all is_printed ((b ∷ bs) ++ more)) first.0 (and_from (nat_le (length ((b ∷ bs) ++ more)) 255) (list_all is_printed ((b ∷ bs) ++ more)) few all)

-- ---- names in a frame

mark_printed : (k : ℕ) → k < 2 ^ 64 → list_all is_printed (64 ∷ decimal k) ≡ true
mark_printed k small = and_from (is_printed 64) (list_all is_printed (decimal k)) refl (digits_printed (decimal k) (decimal_digits k small))

pub name_fits : (symbol digits : List ℕ) (k : ℕ) → is_symbol symbol ≡ true → k < 2 ^ 64 → digits ≡ decimal k → length symbol + length digits < 255
    → symbol_part (name_in_frame k symbol) ≡ (32 ∷ []) ++ (symbol ++ ((64 ∷ []) ++ digits))
name_fits symbol digits k is small e fits =
    let name : is_symbol (at_frame symbol k) ≡ true = longer_symbol symbol (64 ∷ decimal k) is (mark_printed k small) (omega (arith, fits, ap length e)) in
    ap (λ (b : Bool). symbol_part (if b then Some (at_frame symbol k) else None)) name ∙ ap (λ (l : List ℕ). 32 ∷ (symbol ++ 64 ∷ l)) (sym e)

-- an item without a symbol has no name
pub no_name : (named : Bool) (k : ℕ) (x : Item) → x.symbol ≡ None → names named k x ≡ None
no_name false k x none = refl
no_name true k x none = ap (option_and_then (name_in_frame k)) none
