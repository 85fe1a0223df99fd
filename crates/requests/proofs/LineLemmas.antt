-- The first line of a text, and the lines of a list.
use Rattle.std.proofs.Common.{◌≡◌, ℕ, Bool, true, false, ◌||◌, ◌==◌, List, [], ◌∷◌, ◌++◌, Option, length, take, drop, append-nil, refl, sym, ap, subst, ◌∙◌, arith}
use Rattle.std.proofs.lemmas.List.{take_all, drop_all}
use Rattle.std.specs.Io.KnownBytes.{Appends}
use Rattle.subcommands.proofs.SubjectLemmas.{Told}
use Rattle.std.specs.List.{list_any}
use Rattle.base.specs.Lines.{IsLine}
use Rattle.base.proofs.LineLemmas.{whole_lines-line, whole_lines-last, unfinished-line, unfinished-last}
use Rattle.std.specs.Prelude.{if◌then◌else◌}
use Rattle.requests.specs.Lists.{lines}
use Rattle.requests.specs.Told.{up_to_end}

pub up_to_end-line : (line behind : List ℕ) → IsLine line → up_to_end (line ++ 10 ∷ behind) ≡ line
up_to_end-line [] behind h = refl
up_to_end-line (b ∷ bs) behind h = by (b == 10) h (up_to_end-line bs behind)
  where
    by : (t : Bool) → (t || list_any (λ c. c == 10) bs) ≡ false → (IsLine bs → up_to_end (bs ++ 10 ∷ behind) ≡ bs) → (if t then [] else b ∷ up_to_end (bs ++ 10 ∷ behind)) ≡ b ∷ bs
    by true h more = absurd (cc)
    by false h more = ap (λ (l : List ℕ). b ∷ l) (more h)

pub up_to_end-last : (text : List ℕ) → IsLine text → up_to_end text ≡ text
up_to_end-last [] h = refl
up_to_end-last (b ∷ bs) h = by (b == 10) h (up_to_end-last bs)
  where
    by : (t : Bool) → (t || list_any (λ c. c == 10) bs) ≡ false → (IsLine bs → up_to_end bs ≡ bs) → (if t then [] else b ∷ up_to_end bs) ≡ b ∷ bs
    by true h more = absurd (cc)
    by false h more = ap (λ (l : List ℕ). b ∷ l) (more h)

pub lines-line : (line behind : List ℕ) → IsLine line → lines (line ++ 10 ∷ behind) ≡ line ∷ lines behind
lines-line line behind h = rw (whole_lines-line line behind h, unfinished-line line behind) refl

-- what stands behind the last end of a line is a line, where it is something
pub lines-last : (text : List ℕ) → IsLine text → (length text ≡ 0 → ⊥) → lines text ≡ take (length text) text ∷ lines (drop (length text) text)
lines-last [] h some = absurd (some refl)
lines-last (b ∷ bs) h some = rw (whole_lines-last (b ∷ bs) h, unfinished-last (b ∷ bs) h, take_all (length (b ∷ bs)) (b ∷ bs) (omega arith), drop_all (length (b ∷ bs)) (b ∷ bs) (omega arith)) refl

-- all was told, where no rest is left
pub all_told : (old new : Option (List ℕ)) (all rest : List ℕ) → Told old new all rest → rest ≡ [] → Appends old new all
all_told old new all rest t none = subst (Appends old new) (sym (append-nil t.front) ∙ ap (λ (l : List ℕ). t.front ++ l) (sym none) ∙ t.is) t.told
