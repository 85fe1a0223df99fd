-- What the tokens of a line of wide words are read as is what they spell, and what they spell is read.
use Rattle.std.proofs.Common.{◌≡◌, ℕ, true, List, [], ◌∷◌, ◌++◌, Option, Some, None, Ok, Err, decimal, refl, ap, subst, ◌∙◌, inl, inr, arith}
use Rattle.std.specs.Prelude.{IfSome}
use Rattle.std.specs.Option.{option_to_list}
use Rattle.base.proofs.DecimalLemmas.{chosen}
use Rattle.btor2.specs.declared.item.Item.{Item}
use Rattle.btor2.specs.declared.item.Body.{Body}
use Rattle.btor2.specs.Symbols.{is_symbol}
use Rattle.btor2text.specs.declared.fault.Why.TheVariants as why
use Rattle.btor2text.specs.declared.forms.Form.{Form}
use Rattle.btor2text.specs.Words.{form_name}
use Rattle.widetext.specs.Spelling.{WideSaysBody, WideSpellsItem}
use Rattle.btor2text.specs.Reading.{◌>>=◌, Tokens, plain_at, form_at, symbol_end, symbol_at}
use Rattle.widetext.specs.Reading.{wide_body_at, wide_item_at}
use Rattle.widetext.proofs.BoundLemmas.{WideFits}
use Rattle.btor2text.proofs.PlaceLemmas.{bind_ok, ok_is, plain_at_takes, plain_at-decimal}
use Rattle.btor2text.proofs.FormLemmas.{form_at_takes, form_at-again}
use Rattle.btor2text.proofs.BodyLemmas.{body_form}
use Rattle.widetext.proofs.BodyLemmas.{wide_body_takes, wide_says_again}

-- ---- symbols

abbrev pub IsSymbolOption : Option (List ℕ) → Type 0
IsSymbolOption s = IfSome s (λ bytes. is_symbol bytes ≡ true)

symbol_end_takes : (token : List ℕ) (rest : Tokens) (s : Option (List ℕ)) → is_symbol token ≡ true → symbol_end token rest ≡ Ok s → (token ∷ rest ≡ option_to_list s) × IsSymbolOption s
symbol_end_takes token [] s valid e = subst (λ (o : Option (List ℕ)). (token ∷ [] ≡ option_to_list o) × IsSymbolOption o) (ok_is (Some token) s e) (refl, valid)
symbol_end_takes token (other ∷ rest) s valid e = absurd cc

symbol_at_takes : (tokens : Tokens) (s : Option (List ℕ)) → symbol_at tokens ≡ Ok s → (tokens ≡ option_to_list s) × IsSymbolOption s
unfolding symbol_at
symbol_at_takes [] s e = subst (λ (o : Option (List ℕ)). ([] ≡ option_to_list o) × IsSymbolOption o) (ok_is None s e) (refl, tt)
symbol_at_takes (token ∷ rest) s e =
    elim (chosen (is_symbol token) (symbol_end token rest) (Err why.BadSymbol) (Ok s) e) [
      | inl h ↦ symbol_end_takes token rest s h.0 h.1
      | inr h ↦ absurd cc
    ]

symbol_at-again : (s : Option (List ℕ)) → IsSymbolOption s → symbol_at (option_to_list s) ≡ Ok s
unfolding symbol_at
symbol_at-again None h = refl
symbol_at-again (Some token) h = rw h refl

-- ---- items

-- the parts of a line, joined
spelled : (tokens : Tokens) (i : ℕ × Tokens) (f : Form × Tokens) (b : Body × Tokens) (s : Option (List ℕ))
    → plain_at tokens ≡ Ok i → form_at i.1 ≡ Ok f → wide_body_at f.0 f.1 ≡ Ok b → symbol_at b.1 ≡ Ok s
    → WideFits (record { id = i.0; symbol = s; body = b.0 }) → WideSpellsItem tokens (record { id = i.0; symbol = s; body = b.0 })
spelled tokens i f b s ri rf rb rs fits =
    let symbol = symbol_at_takes b.1 s rs in
    let form = form_at_takes i.1 f rf in
    let body = wide_body_takes f.0 f.1 b rb in
    let says = body.says fits.body in
    record {
      form = form_name f.0 ∷ says.0;
      tokens = plain_at_takes tokens i ri (omega (arith, fits.id.1)) ∙ ap (λ t. decimal i.0 ∷ t) (form ∙ ap (λ t. form_name f.0 ∷ t) (says.1 ∙ ap (λ t. says.0 ++ t) symbol.0));
      says = says.2;
      symbol = symbol.1;
    }

pub wide_item_takes : (tokens : Tokens) (x : Item) → wide_item_at tokens ≡ Ok x → WideFits x → WideSpellsItem tokens x
unfolding wide_item_at
wide_item_takes tokens x e =
    let i = bind_ok (plain_at tokens) (λ i. form_at i.1 >>= λ f. wide_body_at f.0 f.1 >>= λ b. symbol_at b.1 >>= λ s. Ok (record { id = i.0; symbol = s; body = b.0 })) x e in
    let f = bind_ok (form_at i.0.1) (λ f. wide_body_at f.0 f.1 >>= λ b. symbol_at b.1 >>= λ s. Ok (record { id = i.0.0; symbol = s; body = b.0 })) x i.2 in
    let b = bind_ok (wide_body_at f.0.0 f.0.1) (λ b. symbol_at b.1 >>= λ s. Ok (record { id = i.0.0; symbol = s; body = b.0 })) x f.2 in
    let s = bind_ok (symbol_at b.0.1) (λ s. Ok (record { id = i.0.0; symbol = s; body = b.0.0 })) x b.2 in
    subst (λ (y : Item). WideFits y → WideSpellsItem tokens y) {x = record { id = i.0.0; symbol = s.0; body = b.0.0 }} (ok_is (record { id = i.0.0; symbol = s.0; body = b.0.0 }) x s.2) (spelled tokens i.0 f.0 b.0 s.0 i.1 f.1 b.1 s.1)

read_again : (x : Item) (tokens : Tokens) → WideFits x → WideSaysBody x.body tokens → IsSymbolOption x.symbol → wide_item_at (decimal x.id ∷ tokens ++ option_to_list x.symbol) ≡ Ok x
unfolding wide_item_at
read_again x tokens fits says symbol =
    let a = wide_says_again x.body tokens says fits.body in
    rw (a.parts, plain_at-decimal x.id (form_name (body_form x.body) ∷ a.behind ++ option_to_list x.symbol) (omega (arith, fits.id.1)), form_at-again (body_form x.body) (a.behind ++ option_to_list x.symbol), a.again (option_to_list x.symbol), symbol_at-again x.symbol symbol) refl

pub wide_item_again : (tokens : Tokens) (x : Item) → WideSpellsItem tokens x → WideFits x → wide_item_at tokens ≡ Ok x
wide_item_again tokens x spelled fits = ap wide_item_at spelled.tokens ∙ read_again x spelled.form fits spelled.says spelled.symbol
