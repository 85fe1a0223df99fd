-- An index in brackets is printed.
use Rattle.std.proofs.Common.{◌≡◌, ℕ, ◌^◌, ◌<◌, true, ◌&&◌, [], ◌∷◌, ◌++◌, decimal, refl, sym, ap₂, ◌∙◌, lit<}
use Rattle.std.specs.List.{list_all}
use Rattle.std.proofs.lemmas.Bool.{and_parts}
use Rattle.std.proofs.lemmas.List.Folds.{list_all-append}
use Rattle.btor2.specs.Symbols.{is_printed}
use Rattle.fitting.proofs.NameLemmas.{range_is_printed}
use Rattle.celled.specs.Names.{index_text}

pub index_is_printed : (index : ℕ) → index < 2 ^ 64 → list_all is_printed (index_text index) ≡ true
index_is_printed index h =
    let all = range_is_printed index 0 h (lit< tt) in
    let split = list_all-append is_printed (91 ∷ decimal index ++ 58 ∷ decimal 0) (93 ∷ []) in
    let front = and_parts _ _ (sym split ∙ all) in
    let parts = list_all-append is_printed (91 ∷ decimal index) (58 ∷ decimal 0) in
    let own = and_parts _ _ (sym parts ∙ front.0) in
    list_all-append is_printed (91 ∷ decimal index) (93 ∷ []) ∙ ap₂ ◌&&◌ own.0 refl
