use Rattle.std.proofs.Common.{◌≡◌, ℕ, true, List, ◌∷◌, Result, Err, refl, sym, ap, ◌∙◌, inl, inr, ◌⊎◌}
use Rattle.std.proofs.lemmas.Result.{err_from_is_err_and}
use Rattle.btor2.specs.declared.item.Item.{Item}
use Rattle.btor2.specs.Check.{refusal}
use Rattle.btor2text.specs.declared.fault.Why.{Why}
use Rattle.btor2text.specs.declared.fault.Why.TheVariants as why
use Rattle.btor2text.specs.Tokens.{tokens, begins_token}
use Rattle.btor2text.specs.Reading.{◌>>=◌, Tokens, item_at, item_accepted, line_on}
use Rattle.btor2text.proofs.TokenLemmas.{some_token}
use Rattle.btor2text.proofs.reading.read_line.Goals as goal

line_of : (before : List Item) (tokens : Tokens) (first : List ℕ) (rest : Tokens) → tokens ≡ first ∷ rest → line_on before tokens ≡ (item_at tokens >>= λ x. item_accepted before x (refusal before x))
unfolding line_on
line_of before tokens first rest e = rw e refl

-- a line from its first token on
line_is : (before : List Item) (line from : List ℕ) → tokens from ≡ tokens line → begins_token from ≡ true → line_on before (tokens line) ≡ (item_at (tokens from) >>= λ x. item_accepted before x (refusal before x))
line_is before line from same begins =
    let parts = some_token from begins in
    ap (line_on before) (sym same) ∙ line_of before (tokens from) parts.0 parts.1.0 parts.1.1

fails : (before : List Item) (e : Why) (line : Tokens) (r : Result Item Why) → line_on before line ≡ (r >>= λ x. item_accepted before x (refusal before x)) → (e ≡ why.NoMemory) ⊎ (r ≡ Err e) → (e ≡ why.NoMemory) ⊎ (line_on before line ≡ Err e)
fails before e line r is (inl full) = inl full
fails before e line r is (inr read) = inr (is ∙ ap (λ (o : Result Item Why). o >>= λ x. item_accepted before x (refusal before x)) read)

pub returns-in_err-item-in-Some : goal.returns-in_err-item-in-Some
returns-in_err-item-in-Some c =
    let is = err_from_is_err_and c.from_residual.result c.from_residual.ensures.1 in
    let line = line_is c.args.model.now c.args.line.now c.in-Some.line.now c.in-Some.ensures.0 c.in-Some.ensures.1 in
    rw (is.1, is.2) (fails c.args.model.now _ (tokens c.args.line.now) _ line c.in_err-item-in-Some.ensures)

pub returns-in_ok-item-in-Some : goal.returns-in_ok-item-in-Some
returns-in_ok-item-in-Some c =
    let line = line_is c.args.model.now c.args.line.now c.in-Some.line.now c.in-Some.ensures.0 c.in-Some.ensures.1 in
    rw (line, c.in_ok-item-in-Some.ensures) c.push.ensures
