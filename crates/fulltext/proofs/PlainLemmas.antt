-- A model of the profile is written as `btor2text` writes it.
use Rattle.std.proofs.Common.{◌≡◌, ℕ, suc, List, [], ◌∷◌, ◌++◌, length, map, codes, decimal, ℤ, pos, negsuc, refl, ap, ap₂, ◌∙◌, append-nil}
use Rattle.std.specs.Fmt.{signed_decimal}
use Rattle.std.specs.Option.{option_to_list}
use Rattle.btor2.specs.declared.item.Item.{Item}
use Rattle.btor2.specs.declared.item.Body.{Body}
use Rattle.btor2.specs.declared.item.Body.TheVariants as body
use Rattle.btor2.specs.Check.{IsWellFormed, IsWellFormedAfter}
use Rattle.btor2.proofs.ModelLemmas.{IsWellFormed-push}
use Rattle.btor2text.specs.Reading.{Tokens}
use Rattle.btor2text.specs.Spelling.{form_tokens}
use Rattle.btor2text.specs.Writing.{behind_spaces, written}
use Rattle.btor2text.proofs.BoundLemmas.{SignedFits, BodyFits, accepted_fits}
use Rattle.full.specs.Lines.{with_minuses, form}
use Rattle.full.specs.Plain.{plain_lines}
use Rattle.fulltext.specs.Spelling.{operand_token}
use Rattle.fulltext.specs.Writing.{signed_long, says_tokens, written_full}
use Rattle.fulltext.proofs.LongLemmas.{long_same}

same_sign : (v : ℤ) → SignedFits v → signed_long v ≡ signed_decimal v
same_sign (pos n) fits = long_same n fits
same_sign (negsuc n) fits = ap (λ (ds : List ℕ). 45 ∷ ds) (long_same (suc n) fits)

no_minuses : (ids : List ℕ) → map operand_token (with_minuses ids []) ≡ map decimal ids
no_minuses [] = refl
no_minuses (a ∷ ids) = ap (λ (ts : Tokens). decimal a ∷ ts) (no_minuses ids)

plain_tokens : (b : Body) → BodyFits b → says_tokens (form b []) ≡ form_tokens b
plain_tokens (body.Constd s v) fits = ap (λ (ds : List ℕ). codes "constd" ∷ decimal s ∷ ds ∷ []) (same_sign v fits.1)
plain_tokens (body.Justice nodes) fits = ap (λ (ts : Tokens). codes "justice" ∷ decimal (length nodes) ∷ ts) (append-nil (map operand_token (with_minuses nodes [])) ∙ no_minuses nodes)
plain_tokens _ fits = refl

all_plain : (before items : List Item) → IsWellFormed before → IsWellFormedAfter before items → written_full (plain_lines items) ≡ written items
all_plain before [] h after = refl
all_plain before (x ∷ xs) h after =
    ap₂ (λ (ts : Tokens) (rest : List ℕ). (decimal x.id ++ (behind_spaces (ts ++ option_to_list x.symbol) ++ 10 ∷ [])) ++ rest)
    (plain_tokens x.body (accepted_fits before x h after.0).body) (all_plain (before ++ x ∷ []) xs (IsWellFormed-push before x h after.0) after.1)

pub plain_written : (items : List Item) → IsWellFormed items → written_full (plain_lines items) ≡ written items
plain_written items h = all_plain [] items tt h
