-- A text of the profile stands for the same model among those with words of any width.
use Rattle.std.proofs.Common.{◌≡◌, ℕ, suc, ◌*◌, ◌^◌, ◌<◌, Bool, true, false, not, ◌&&◌, nat_le, nat_lt, List, [], ◌∷◌, ◌++◌, take, drop, map, ℤ, pos, negsuc, Some, None, unwrap_or, option_and_then, decimal, refl, sym, ap, ap₂, ◌∙◌, inl, inr, arith}
use Rattle.std.specs.Fmt.{signed_decimal}
use Rattle.std.specs.Str.Parse.{digits_value}
use Rattle.std.proofs.lemmas.Bool.{and_parts, and_from, le-leb, leb-true, ne_eqb, not-false}
use Rattle.std.proofs.lemmas.Fmt.{decimal_is_IsNumeral}
use Rattle.base.specs.Decimals.{is_decimal, number_of, capped_value}
use Rattle.base.proofs.DecimalLemmas.{chosen, number_of-decimal}
use Rattle.btor2.specs.declared.item.Item.{Item}
use Rattle.btor2.specs.declared.item.Body.{Body}
use Rattle.btor2.specs.declared.item.Body.TheVariants as body
use Rattle.btor2.specs.declared.fault.PushFault.TheVariants as fault
use Rattle.btor2.specs.Items.{named_sort, sort_width}
use Rattle.btor2.specs.Check.{refusal, first_row, table, IsWellFormed, IsWellFormedAfter}
use Rattle.btor2.proofs.ModelLemmas.{IsWellFormed-push}
use Rattle.btor2text.specs.Tokens.{tokens}
use Rattle.btor2text.specs.Spelling.{SaysBody, SpellsItem, SpellsAll, StandsFor}
use Rattle.btor2text.specs.Reading.{Tokens}
use Rattle.btor2text.proofs.BoundLemmas.{SignedFits, BodyFits, Fits, accepted_fits}
use Rattle.wide.specs.WideModels.{greatest_width, width_is_above, constant_fits_within, constant_is_above, wide_refusal, IsWideAfter}
use Rattle.wide.proofs.GrowLemmas.{tests_false}
use Rattle.wide.proofs.LawLemmas.{same_refusal}
use Rattle.widetext.specs.Digits.{whole_decimal, whole_signed}
use Rattle.widetext.specs.Spelling.{WideSaysBody, WideSpellsItem, WideSpellsAll, StandsForWide}
use Rattle.widetext.proofs.FitLemmas.{positive_value}

-- ---- no row refuses it

not_yes : (b : Bool) → b ≡ true → not b ≡ false
not_yes b e = rw e refl

wider : (b : Body) → width_is_above 64 b ≡ false → width_is_above greatest_width b ≡ false
unfolding width_is_above
wider (body.Sort n) h =
    let p = and_parts (nat_le 1 n) (nat_le n 64) (not-false _ h) in
    not_yes (nat_le 1 n && nat_le n greatest_width) (and_from _ _ p.0 (le-leb n greatest_width (omega (arith, leb-true n 64 p.1))))
wider _ h = refl

more_digits : (n : ℕ) (b : Body) → constant_fits_within 64 n b ≡ true → constant_fits_within greatest_width n b ≡ true
more_digits n (body.Consth s d v) h =
    let p = and_parts (nat_le 1 d) (nat_le (4 * d) 67 && (nat_lt v (2 ^ n) && nat_lt v (16 ^ d))) h in
    let q = and_parts (nat_le (4 * d) 67) (nat_lt v (2 ^ n) && nat_lt v (16 ^ d)) p.1 in
    and_from _ _ p.0 (and_from _ _ (le-leb (4 * d) 1048579 (omega (arith, leb-true (4 * d) 67 q.0))) q.1)
more_digits n b h = h

more_fit : (items : List Item) (b : Body) → constant_is_above 64 items b ≡ false → constant_is_above greatest_width items b ≡ false
unfolding constant_is_above
more_fit items b h =
    let n = unwrap_or (option_and_then (sort_width items) (named_sort b)) 0 in
    not_yes (constant_fits_within greatest_width n b) (more_digits n b (not-false _ h))

stays_accepted : (items : List Item) (x : Item) → refusal items x ≡ None → wide_refusal greatest_width items x ≡ None
unfolding wide_refusal
stays_accepted items x h =
    let narrow = same_refusal items x ∙ h in
    let rows = tests_false 64 items x narrow in
    let width = rows.1.1.1.1.1.1.0 in
    let constant = rows.1.1.1.1.1.1.1.1.1.0 in
    ap₂ (λ (b c : Bool). first_row (take 6 (table items x) ++ (b, fault.WidthOutOfRange) ∷ take 2 (drop 7 (table items x)) ++ (c, fault.ConstantDoesNotFit) ∷ drop 10 (table items x)))
    (wider x.body width ∙ sym width) (more_fit items x.body constant ∙ sym constant)
    ∙ narrow

after_wide : (before xs : List Item) → IsWellFormedAfter before xs → IsWideAfter greatest_width before xs
after_wide before [] h = tt
after_wide before (x ∷ xs) h = (stays_accepted before x h.0, after_wide (before ++ x ∷ []) xs h.1)

-- ---- decimals as they are written

written_decimal : (n : ℕ) → n < 2 ^ 64 → is_decimal (decimal n) ≡ true
unfolding number_of
written_decimal n lt =
    elim (chosen (is_decimal (decimal n)) (Some (capped_value (decimal n))) None (Some n) (number_of-decimal n lt)) [
      | inl h ↦ h.0
      | inr h ↦ absurd cc
    ]

written_value : (n : ℕ) → n < 2 ^ 64 → digits_value 10 (decimal n) ≡ n
written_value n lt = (decimal_is_IsNumeral n lt).1

written_signed : (v : ℤ) → SignedFits v → whole_signed (signed_decimal v) ≡ Some v
unfolding whole_signed whole_decimal
written_signed (pos n) lt = positive_value (decimal n) (written_decimal n lt) ∙ ap (λ (m : ℕ). Some (pos m)) (written_value n lt)
written_signed (negsuc n) lt = rw (written_decimal (suc n) lt, written_value (suc n) lt, ne_eqb (suc n) 0 (λ h. omega (arith, h))) refl

-- ---- items, and lines

says_wide : (b : Body) (form : Tokens) → BodyFits b → SaysBody b form → WideSaysBody b form
says_wide (body.Constd s v) form fits says = (signed_decimal v, says, written_signed v fits.1)
says_wide b form fits says = says

spells_wide : (line : Tokens) (x : Item) → Fits x → SpellsItem line x → WideSpellsItem line x
spells_wide line x fits s = record { form = s.form; tokens = s.tokens; says = says_wide x.body s.form fits.body s.says; symbol = s.symbol }

all_wide : (lines : List Tokens) (before xs : List Item) → IsWellFormed before → IsWellFormedAfter before xs → SpellsAll lines xs → WideSpellsAll lines xs
all_wide [] before [] formed well spelled = tt
all_wide [] before (x ∷ xs) formed well spelled = absurd spelled
all_wide ([] ∷ lines) before xs formed well spelled = all_wide lines before xs formed well spelled
all_wide ((token ∷ line) ∷ lines) before [] formed well spelled = absurd spelled
all_wide ((token ∷ line) ∷ lines) before (x ∷ xs) formed well spelled =
    (spells_wide (token ∷ line) x (accepted_fits before x formed well.0) spelled.0, all_wide lines (before ++ x ∷ []) xs (IsWellFormed-push before x formed well.0) well.1 spelled.1)

pub profile_stands : (text : List ℕ) (items : List Item) → StandsFor text items → StandsForWide text items
profile_stands text items s =
    record {
      lines = s.lines;
      whole = s.whole;
      each = s.each;
      spelled = all_wide (map tokens s.lines) [] items tt s.well_formed s.spelled;
      well_formed = after_wide [] items s.well_formed;
    }
