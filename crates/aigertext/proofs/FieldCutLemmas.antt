-- The first field of a line, cut at its first space.
use Rattle.std.proofs.Common.{◌≡◌, ℕ, ◌+◌, List, ◌∷◌, ◌++◌, length, get_or, take, drop, sym, ap, ◌∙◌, arith}
use Rattle.std.proofs.lemmas.Bool.{eqb-true}
use Rattle.std.proofs.lemmas.List.{drop_more, drop_all, take_all}
use Rattle.bstr.specs.Find.{is_byte}
use Rattle.base.specs.Lines.{HasNone}
use Rattle.base.proofs.CutLemmas.{IsCut}
use Rattle.aigertext.specs.Reading.{fields, fields_behind}
use Rattle.aigertext.proofs.FieldLemmas.{fields-one, fields-more}

pub field_whole : (line : List ℕ) → HasNone 32 line → fields line ≡ take (length line) line ∷ fields_behind (drop (length line) line)
field_whole line none = rw (take_all (length line) line (omega arith), drop_all (length line) line (omega arith)) (fields-one line none)

pub field_cut : (line : List ℕ) (at : ℕ) → IsCut (is_byte 32) line at → fields line ≡ take at line ∷ fields_behind (drop at line)
field_cut line at cut =
    let is : get_or line at 0 ≡ 32 = eqb-true _ 32 cut.passes in
    let behind : drop at line ≡ 32 ∷ drop (at + 1) line = drop_more line at 0 cut.inside ∙ ap (λ (b : ℕ). b ∷ drop (at + 1) line) is in
    let parts : line ≡ take at line ++ 32 ∷ drop (at + 1) line = cut.parts ∙ ap (λ (b : ℕ). take at line ++ b ∷ drop (at + 1) line) is in
    ap fields parts ∙ fields-more (take at line) (drop (at + 1) line) cut.before ∙ ap (λ (l : List ℕ). take at line ∷ fields_behind l) (sym behind)
