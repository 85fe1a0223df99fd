-- What the tokens of a line are read as is what they spell, and what they spell is read.
use Rattle.std.proofs.Common.{◌≡◌, ℕ, true, List, [], ◌∷◌, ◌++◌, Option, Some, None, Ok, Err, decimal, refl, ap, subst, ◌∙◌, inl, inr, arith}
use Rattle.std.specs.Prelude.{IfSome}
use Rattle.std.specs.Option.{option_to_list}
use Rattle.base.proofs.DecimalLemmas.{chosen}
use Rattle.btor2.specs.Symbols.{is_symbol}
use Rattle.btor2text.specs.declared.fault.Why.TheVariants as why
use Rattle.btor2text.specs.Reading.{◌>>=◌, Tokens, plain_at, symbol_end, symbol_at}
use Rattle.btor2text.proofs.PlaceLemmas.{bind_ok, ok_is, plain_at_takes, plain_at-decimal}
use Rattle.btor2text.proofs.FormLemmas.{form_at-again}
use Rattle.full.specs.Lines.{Says, FullLine}
use Rattle.fulltext.specs.declared.kinds.Kind.{Kind}
use Rattle.fulltext.specs.Spelling.{SaysLine, SpellsLine}
use Rattle.fulltext.specs.Reading.{kind_at, said_at, numbered, full_line_at}
use Rattle.fulltext.proofs.SaysLemmas.{kind_word, kind_at_takes, kind_at-again}
use Rattle.fulltext.proofs.BoundLemmas.{LineFits}
use Rattle.fulltext.proofs.SpellLemmas.{said_takes}
use Rattle.fulltext.proofs.AgainLemmas.{kind_of, says_again}

-- ---- symbols

abbrev pub IsSymbolOption : Option (List ℕ) → Type 0
IsSymbolOption s = IfSome s (λ bytes. is_symbol bytes ≡ true)

symbol_end_takes : (token : List ℕ) (rest : Tokens) (s : Option (List ℕ)) → is_symbol token ≡ true → symbol_end token rest ≡ Ok s → (token ∷ rest ≡ option_to_list s) × IsSymbolOption s
symbol_end_takes token [] s valid e = subst (λ (o : Option (List ℕ)). (token ∷ [] ≡ option_to_list o) × IsSymbolOption o) (ok_is (Some token) s e) (refl, valid)
symbol_end_takes token (other ∷ rest) s valid e = absurd cc

symbol_at_takes : (tokens : Tokens) (s : Option (List ℕ)) → symbol_at tokens ≡ Ok s → (tokens ≡ option_to_list s) × IsSymbolOption s
unfolding symbol_at
symbol_at_takes [] s e = subst (λ (o : Option (List ℕ)). ([] ≡ option_to_list o) × IsSymbolOption o) (ok_is None s e) (refl, tt)
symbol_at_takes (token ∷ rest) s e =
    elim (chosen (is_symbol token) (symbol_end token rest) (Err why.BadSymbol) (Ok s) e) [
      | inl h ↦ symbol_end_takes token rest s h.0 h.1
      | inr h ↦ absurd cc
    ]

symbol_at-again : (s : Option (List ℕ)) → IsSymbolOption s → symbol_at (option_to_list s) ≡ Ok s
unfolding symbol_at
symbol_at-again None h = refl
symbol_at-again (Some token) h = rw h refl

-- ---- lines

-- the parts of a line, joined
spelled : (tokens : Tokens) (i : ℕ × Tokens) (k : Kind × Tokens) (b : Says × Tokens) (s : Option (List ℕ)) → plain_at tokens ≡ Ok i → kind_at i.1 ≡ Ok k → said_at k.0 k.1 ≡ Ok b → symbol_at b.1 ≡ Ok s
    → LineFits (numbered i.0 s b.0) → SpellsLine tokens (numbered i.0 s b.0)
spelled tokens i k b s ri rk rb rs fits =
    let symbol = symbol_at_takes b.1 s rs in
    let kind = kind_at_takes i.1 k rk in
    let said = said_takes k.0 k.1 b rb fits.says in
    record {
      form = kind_word k.0 ∷ said.front;
      tokens = plain_at_takes tokens i ri (omega (arith, fits.id.1)) ∙ ap (λ t. decimal i.0 ∷ t) (kind ∙ ap (λ t. kind_word k.0 ∷ t) (said.parts ∙ ap (λ t. said.front ++ t) symbol.0));
      says = said.says;
      symbol = symbol.1;
    }

pub full_line_takes : (tokens : Tokens) (x : FullLine) → full_line_at tokens ≡ Ok x → LineFits x → SpellsLine tokens x
unfolding full_line_at
full_line_takes tokens x e =
    let i = bind_ok (plain_at tokens) (λ i. kind_at i.1 >>= λ k. said_at k.0 k.1 >>= λ b. symbol_at b.1 >>= λ s. Ok (numbered i.0 s b.0)) x e in
    let k = bind_ok (kind_at i.0.1) (λ k. said_at k.0 k.1 >>= λ b. symbol_at b.1 >>= λ s. Ok (numbered i.0.0 s b.0)) x i.2 in
    let b = bind_ok (said_at k.0.0 k.0.1) (λ b. symbol_at b.1 >>= λ s. Ok (numbered i.0.0 s b.0)) x k.2 in
    let s = bind_ok (symbol_at b.0.1) (λ s. Ok (numbered i.0.0 s b.0.0)) x b.2 in
    subst (λ (y : FullLine). LineFits y → SpellsLine tokens y) {x = numbered i.0.0 s.0 b.0.0} (ok_is (numbered i.0.0 s.0 b.0.0) x s.2) (spelled tokens i.0 k.0 b.0 s.0 i.1 k.1 b.1 s.1)

read_again : (x : FullLine) (tokens : Tokens) → LineFits x → SaysLine x.says tokens → IsSymbolOption x.symbol → full_line_at (decimal x.id ∷ tokens ++ option_to_list x.symbol) ≡ Ok x
unfolding full_line_at
read_again x tokens fits says symbol =
    let a = says_again x.says tokens says fits.says in
    rw (a.parts, plain_at-decimal x.id (kind_word (kind_of x.says) ∷ a.behind ++ option_to_list x.symbol) (omega (arith, fits.id.1)), kind_at-again (kind_of x.says) (a.behind ++ option_to_list x.symbol) (λ f. form_at-again f (a.behind ++ option_to_list x.symbol)), a.again (option_to_list x.symbol), symbol_at-again x.symbol symbol) refl

pub full_line_again : (tokens : Tokens) (x : FullLine) → SpellsLine tokens x → LineFits x → full_line_at tokens ≡ Ok x
full_line_again tokens x spelled fits = ap full_line_at spelled.tokens ∙ read_again x spelled.form fits spelled.says spelled.symbol
