-- Lemmas on a reader of lines: what it cuts off what it holds, and what it reads behind that.
use Rattle.std.proofs.Common.{◌≡◌, ℕ, ◌+◌, ◌-◌, ◌≤◌, ◌==◌, List, [], ◌∷◌, ◌++◌, Option, Some, None, length, take, drop, refl, sym, ap, ◌∙◌, arith, append_assoc, length-append, length-drop, take-append-drop}
use lib.Seq.{take-add}
use Rattle.std.specs.Io.KnownBytes.{prepend_known, Keeps, Consumes}
use Rattle.std.proofs.lemmas.Bool.{or_from}
use Rattle.std.proofs.lemmas.List.{drop-drop, drop-take, take_at, take-take, drop_at, drop-append-le, length-take-le}
use Rattle.std.specs.List.{copy_within}
use Rattle.std.proofs.lemmas.List.Folds.{list_any-append}
use Rattle.base.specs.Lines.{IsLine}

-- the next line is cut off what is held, of which the first bytes were seen to have no byte 10
pub cut_line : (buffer rest : List ℕ) (filled next seen behind : ℕ) (front back : List ℕ) → drop next (take filled buffer) ≡ rest → filled ≤ length buffer → seen ≤ length rest → IsLine (take seen rest)
    → drop seen rest ≡ front ++ 10 ∷ back → IsLine front → behind ≡ next + seen + length front + 1
    → IsLine (drop next (take (behind - 1) buffer)) × (rest ≡ drop next (take (behind - 1) buffer) ++ 10 ∷ drop behind (take filled buffer))
cut_line buffer rest filled next seen behind front back held within le none is line place =
    let read = take filled buffer in
    let before = take seen rest ++ front in
    let size : length before ≡ seen + length front = length-append (take seen rest) front ∙ ap (λ n. n + length front) (length-take-le seen rest le) in
    let parts : rest ≡ before ++ 10 ∷ back = sym (take-append-drop seen rest) ∙ ap (λ (l : List ℕ). take seen rest ++ l) is ∙ sym (append_assoc (take seen rest) front (10 ∷ back)) in
    let most : behind - 1 ≤ filled = omega (arith, length-take-le filled buffer within, ap length (held ∙ parts) ∙ length-append before (10 ∷ back), length-drop next read) in
    let here : drop next (take (behind - 1) buffer) ≡ before =
    ap (drop next) (sym (take-take (behind - 1) filled buffer most)) ∙ ap (λ n. drop next (take n read)) (omega arith) ∙ drop-take next (length before) read
    ∙ ap (take (length before)) (held ∙ parts) ∙ take_at before (10 ∷ back) _ refl in
    let after : drop behind read ≡ back =
    ap (λ n. drop n read) (omega arith) ∙ sym (drop-drop (length before + 1) next read) ∙ ap (drop (length before + 1)) (held ∙ parts)
    ∙ sym (drop-drop 1 (length before) (before ++ 10 ∷ back)) ∙ ap (drop 1) (drop_at before (10 ∷ back) _ refl) in
    rw (here, after) (list_any-append (λ c. c == 10) (take seen rest) front ∙ or_from _ _ none line, parts)

-- what is read behind what is held is held behind it, and nothing of what is to come is lost
pub held_more : (old new rest : List ℕ) (filled next count : ℕ) → drop next (take filled old) ≡ rest → next ≤ filled → filled ≤ length old → take filled new ≡ take filled old
    → drop next (take (filled + count) new) ≡ rest ++ take count (drop filled new)
held_more old new rest filled next count held le within front =
    let back = take count (drop filled new) in
    ap (drop next) (take-add filled count new ∙ ap (λ (l : List ℕ). l ++ back) front)
    ∙ drop-append-le next (take filled old) back (omega (arith, length-take-le filled old within)) ∙ ap (λ (l : List ℕ). l ++ back) held

pub keeps_more : (before after : Option (List ℕ)) (old new rest : List ℕ) (filled next count : ℕ) → drop next (take filled old) ≡ rest → next ≤ filled → filled ≤ length old → take filled new ≡ take filled old
    → Consumes before after (take count (drop filled new)) → Keeps (prepend_known rest before) (prepend_known (drop next (take (filled + count) new)) after)
keeps_more None after old new rest filled next count held le within front p = tt
keeps_more (Some xs) None old new rest filled next count held le within front p = absurd p
keeps_more (Some xs) (Some ys) old new rest filled next count held le within front p =
    ap (λ (l : List ℕ). l ++ ys) (held_more old new rest filled next count held le within front) ∙ append_assoc rest (take count (drop filled new)) ys ∙ ap (λ (l : List ℕ). rest ++ l) (sym p)

-- what is held is moved to the front
pub moved_to_front : (buffer : List ℕ) (filled next : ℕ) → next ≤ filled → filled ≤ length buffer
    → take (filled - next) (copy_within buffer next filled 0) ≡ drop next (take filled buffer)
moved_to_front buffer filled next le within =
    let left = filled - next in
    take_at (take left (drop next buffer)) (drop (0 + left) buffer) left (length-take-le left (drop next buffer) (omega (arith, length-drop next buffer)))
    ∙ sym (drop-take next left buffer) ∙ ap (λ n. drop next (take n buffer)) (omega arith)

-- a line that is cut off what is held is taken from all that was to come, where nothing was lost before
pub takes_line : (all before known : Option (List ℕ)) (old new line : List ℕ) → Keeps all before → Keeps before (prepend_known old known) → old ≡ line ++ 10 ∷ new → Consumes all (prepend_known new known) (line ++ 10 ∷ [])
takes_line None before known old new line kept still is = tt
takes_line (Some xs) None known old new line kept still is = absurd kept
takes_line (Some xs) (Some ys) None old new line kept still is = absurd still
takes_line (Some xs) (Some ys) (Some zs) old new line kept still is =
    sym kept ∙ sym still ∙ ap (λ (l : List ℕ). l ++ zs) is ∙ append_assoc line (10 ∷ new) zs ∙ sym (append_assoc line (10 ∷ []) (new ++ zs))
