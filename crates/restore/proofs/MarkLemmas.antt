-- A line that is found, up to a mark, is the first of the lines of the text to come, or its last.
use Rattle.std.proofs.Common.{◌≡◌, ℕ, Bool, true, false, List, [], ◌∷◌, ◌++◌, Option, None, Some, Ok, ◌==◌, sym, ap, ap₂, subst, ◌∙◌, append_assoc, append-nil}
use Rattle.std.specs.List.{list_any}
use Rattle.std.specs.Io.KnownBytes.{prepend_known, Consumes, Keeps, IsAtEnd}
use Rattle.std.proofs.lemmas.Bool.{or_parts}
use Rattle.std.proofs.lemmas.List.Folds.{list_any-append}
use Rattle.base.specs.Lines.{HasNone, IsLine, line_of, all_lines}
use Rattle.base.specs.Held.{Held, Advances}
use Rattle.base.proofs.LineLemmas.{whole_lines-line, unfinished-line, whole_lines-last, unfinished-last}
use Rattle.restore.specs.Reading.{before_mark}
use Rattle.restore.specs.Marks.{CutsAtMark, FindsLine}
use Rattle.restore.specs.Steps.{TakesFound}
use Rattle.restore.proofs.ReadingLemmas.{before_front}

-- ---- the mark

unmarked : (text : List ℕ) → HasNone 35 text → before_mark text ≡ text
unmarked text none = ap before_mark (sym (append-nil text)) ∙ before_front text [] none ∙ append-nil text

marked : (front behind : List ℕ) → HasNone 35 front → before_mark (front ++ 35 ∷ behind) ≡ front
marked front behind none = before_front front (35 ∷ behind) none ∙ append-nil front

front_is_line : (front behind : List ℕ) → IsLine (front ++ 35 ∷ behind) → IsLine front
front_is_line front behind is =
    (or_parts (list_any (λ b. b == 10) front) (list_any (λ b. b == 10) (35 ∷ behind)) (sym (list_any-append (λ b. b == 10) front (35 ∷ behind)) ∙ is)).0

-- ---- lines

alone : (line : List ℕ) → IsLine line → all_lines line ≡ line_of line
alone line is = ap₂ (λ (w : List (List ℕ)) (u : List ℕ). w ++ line_of u) (whole_lines-last line is) (unfinished-last line is)

in_front : (line rest : List ℕ) → IsLine line → all_lines (line ++ 10 ∷ rest) ≡ line ∷ all_lines rest
in_front line rest is = ap₂ (λ (w : List (List ℕ)) (u : List ℕ). w ++ line_of u) (whole_lines-line line rest is) (unfinished-line line rest)

-- a whole line was found
pub whole_takes : (a b : Option (List ℕ)) (whole line : List ℕ) (last : Bool) → IsLine whole → Consumes a b (whole ++ 10 ∷ []) → CutsAtMark whole last line → TakesFound line last a b
whole_takes None b whole line last is took cut = tt
whole_takes (Some text) None whole line last is took cut = absurd took
whole_takes (Some text) (Some rest) whole line false is took cut =
    let begins : text ≡ whole ++ 10 ∷ rest = took ∙ append_assoc whole (10 ∷ []) rest in
    ap (λ (t : List ℕ). all_lines (before_mark t)) begins
    ∙ ap all_lines (before_front whole (10 ∷ rest) cut.1)
    ∙ in_front whole (before_mark rest) is
    ∙ ap (λ (l : List ℕ). l ∷ all_lines (before_mark rest)) (sym cut.0)
whole_takes (Some text) (Some rest) whole line true is took cut =
    let behind = cut.0 in
    let begins : text ≡ line ++ 35 ∷ (behind ++ 10 ∷ rest) =
    took ∙ append_assoc whole (10 ∷ []) rest ∙ ap (λ (w : List ℕ). w ++ 10 ∷ rest) cut.1.0 ∙ append_assoc line (35 ∷ behind) (10 ∷ rest) in
    ap (λ (t : List ℕ). all_lines (before_mark t)) begins
    ∙ ap all_lines (marked line (behind ++ 10 ∷ rest) cut.1.1)
    ∙ alone line (front_is_line line behind (subst IsLine cut.1.0 is))

last_line : (rest line : List ℕ) (is_marked : Bool) → IsLine rest → CutsAtMark rest is_marked line → all_lines (before_mark rest) ≡ line_of line
last_line rest line false is cut = ap all_lines (unmarked rest cut.1) ∙ alone rest is ∙ ap line_of (sym cut.0)
last_line rest line true is cut =
    ap (λ (t : List ℕ). all_lines (before_mark t)) cut.1.0 ∙ ap all_lines (marked line cut.0 cut.1.1) ∙ alone line (front_is_line line cut.0 (subst IsLine cut.1.0 is))

-- no whole line was found
pub rest_takes : (a b : Option (List ℕ)) (rest line : List ℕ) (is_marked : Bool) → IsLine rest → IsAtEnd b → Keeps a (prepend_known rest b) → CutsAtMark rest is_marked line → TakesFound line true a (prepend_known rest b)
rest_takes None b rest line is_marked is end kept cut = tt
rest_takes (Some text) None rest line is_marked is end kept cut = absurd kept
rest_takes (Some text) (Some more) rest line is_marked is end kept cut =
    let same : text ≡ rest = sym kept ∙ ap (λ (l : List ℕ). rest ++ l) end ∙ append-nil rest in
    ap (λ (t : List ℕ). all_lines (before_mark t)) same ∙ last_line rest line is_marked is cut

-- a line was found, or what is unfinished
pub found_takes : (old new : Held) (before after : Option (List ℕ)) (whole : Bool) (line : List ℕ) (last : Bool) → Advances (Ok whole) old new before after → FindsLine new whole line last → TakesFound line last (prepend_known old.rest before) (prepend_known new.rest after)
found_takes old new before after true line last step found = whole_takes (prepend_known old.rest before) (prepend_known new.rest after) new.line line last step.0 step.1 found
found_takes old new before after false line last step found =
    subst (λ (l : Bool). TakesFound line l (prepend_known old.rest before) (prepend_known new.rest after)) (sym found.0) (rest_takes (prepend_known old.rest before) after new.rest line found.1.0 step.0.0 step.0.1 step.1.0 found.1.1)
