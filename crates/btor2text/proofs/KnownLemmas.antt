-- A line that begins as a known word is read as that word's form.
use Rattle.std.proofs.Common.{◌≡◌, ℕ, ◌<◌, ◌≤◌, true, false, ◌==◌, List, [], ◌∷◌, ◌++◌, length, get_or, take, drop, Ok, refl, sym, ap, ◌∙◌, inl, inr, append_assoc, length-append, take-append-drop, arith}
use Rattle.std.specs.List.{list_any}
use Rattle.std.proofs.lemmas.Bool.{both_ways, cases_Bool}
use Rattle.std.proofs.lemmas.List.{ext_get_or, get_or-take, length-take-le}
use Rattle.std.proofs.lemmas.List.Folds.{list_any_at}
use Rattle.btor2text.specs.declared.forms.Form.{Form}
use Rattle.btor2text.specs.declared.forms.Form.TheVariants as form
use Rattle.btor2text.specs.declared.forms.Leaf.TheVariants as leaf
use Rattle.btor2text.specs.declared.forms.Constant.TheVariants as constant
use Rattle.btor2text.specs.declared.forms.Extension.TheVariants as extension
use Rattle.btor2text.specs.declared.forms.Link.TheVariants as link
use Rattle.btor2text.specs.declared.forms.Property.TheVariants as property
use Rattle.base.specs.declared.operators.Unary.TheVariants as unary
use Rattle.base.specs.declared.operators.Binary.TheVariants as binary
use Rattle.btor2text.specs.declared.known_words.KnownWord.{KnownWord}
use Rattle.btor2text.specs.KnownWords.{IsKnown, BeginsAs}
use Rattle.btor2text.specs.Tokens.{is_blank, tokens, begins_token}
use Rattle.btor2text.specs.Words.{form_name}
use Rattle.btor2text.specs.Reading.{form_at}
use Rattle.btor2text.proofs.FormLemmas.{form_at-again}
use Rattle.btor2text.proofs.TokenLemmas.{tokens-word_blank}

-- a form's word is a token and has no byte 0
record IsToken (word : List ℕ) : Type 0 where
  none : list_any is_blank word ≡ false
  begins : (rest : List ℕ) → begins_token (word ++ 32 ∷ rest) ≡ true
  some : list_any (λ b. b == 0) (word ++ 32 ∷ []) ≡ false

name_is_token : (f : Form) → IsToken (form_name f)
name_is_token (form.Leaf leaf.Input) = record { none = refl; begins = λ rest. refl; some = refl }
name_is_token (form.Constant constant.Const) = record { none = refl; begins = λ rest. refl; some = refl }
name_is_token (form.Extension extension.Uext) = record { none = refl; begins = λ rest. refl; some = refl }
name_is_token (form.Unary unary.Not) = record { none = refl; begins = λ rest. refl; some = refl }
name_is_token (form.Binary binary.Iff) = record { none = refl; begins = λ rest. refl; some = refl }
name_is_token (form.Link link.Init) = record { none = refl; begins = λ rest. refl; some = refl }
name_is_token (form.Property property.Bad) = record { none = refl; begins = λ rest. refl; some = refl }
name_is_token _ = record { none = refl; begins = λ rest. refl; some = refl }

none_at : (bytes : List ℕ) (j : ℕ) → list_any (λ b. b == 0) bytes ≡ false → j < length bytes → (get_or bytes j 0 == 0) ≡ false
none_at bytes j none lt =
    elim (cases_Bool (get_or bytes j 0 == 0)) [
      | inl h ↦ absurd (both_ways _ none (list_any_at (λ b. b == 0) bytes j 0 lt h))
      | inr h ↦ h
    ]

pub known_form : (known : KnownWord) (line bytes : List ℕ) → IsKnown known → 8 ≤ length line → bytes ≡ take 8 line → BeginsAs known.text bytes → form_at (tokens line) ≡ Ok (known.form, tokens (drop known.length line))
known_form known line bytes is enough first same =
    let n = known.length in
    let word = form_name known.form in
    let token = name_is_token known.form in
    let long : length (word ++ 32 ∷ []) ≡ n = length-append word (32 ∷ []) ∙ sym is.length in
    let there : length (take n line) ≡ n = length-take-le n line (omega (arith, is.short)) in
    let front : take n line ≡ word ++ 32 ∷ [] =
    ext_get_or 0 (take n line) (word ++ 32 ∷ []) (there ∙ sym long) (λ j lt.
    let low : j < n = omega (arith, there) in
    let of_text : get_or known.text j 0 ≡ get_or (word ++ 32 ∷ []) j 0 = sym (get_or-take n known.text j 0 low) ∙ ap (λ (l : List ℕ). get_or l j 0) is.text in
    let not : (get_or known.text j 0 == 0) ≡ false = ap (λ (b : ℕ). b == 0) of_text ∙ none_at (word ++ 32 ∷ []) j token.some (omega (arith, long)) in
    get_or-take n line j 0 low ∙ sym (get_or-take 8 line j 0 (omega (arith, is.short))) ∙ ap (λ (l : List ℕ). get_or l j 0) (sym first) ∙ same j (omega (arith, is.short)) not ∙ of_text) in
    let parts : line ≡ word ++ 32 ∷ drop n line = sym (take-append-drop n line) ∙ ap (λ (l : List ℕ). l ++ drop n line) front ∙ append_assoc word (32 ∷ []) (drop n line) in
    ap (λ (l : List ℕ). form_at (tokens l)) parts ∙ ap form_at (tokens-word_blank word 32 (drop n line) token.none refl (token.begins (drop n line))) ∙ form_at-again known.form (tokens (drop n line))
