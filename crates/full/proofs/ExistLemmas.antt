-- There is a frame of a model with any words at its leaves that fit.
use Rattle.std.proofs.Common.{◌≡◌, ℕ, ◌^◌, ◌<◌, Bool, true, false, cond, nat_eq, eqb-true, List, [], ◌∷◌, ◌++◌, Option, Some, None, is_some, IfSome, unwrap_or, append_assoc, append-nil, refl, sym, ap, subst, ◌∙◌}
use Rattle.std.specs.List.{AllByRecursion}
use Rattle.std.proofs.lemmas.Bool.{true≢false}
use Rattle.btor2.specs.declared.item.Body.TheVariants as body
use Rattle.btor2.specs.Trace.{Frame}
use Rattle.btor2.proofs.AppendLemmas.{some_of, is_some_from}
use Rattle.full.specs.Lines.{Operand, Says, form, FullLine, operands_of, find_line, sort_of_node, width_of}
use Rattle.full.specs.Agreement.{IsFullAfter, IsFullModel}
use Rattle.full.specs.Runs.{word_of_line, LineSays, LeafFits, LeafSame, IsFullFrame}
use Rattle.full.specs.WrittenOut.{put}
use Rattle.full.proofs.ListLemmas.{all_with, all_join}
use Rattle.full.proofs.FullLookUps.{find_on, find_behind, find_own, node_found}
use Rattle.full.proofs.FullFrames.{same_word}
use Rattle.full.proofs.WideLemmas.{if_word, put_own}

-- two frames have one word at each id that is found
abbrev Agrees : List FullLine → Frame → Frame → Type 0
Agrees lines f g = (id : ℕ) → is_some (find_line lines id) ≡ true → f id ≡ g id

put_agrees : (lines : List FullLine) (f : Frame) (id word : ℕ) → find_line lines id ≡ None → Agrees lines f (put f id word)
put_agrees lines f id word none k there = by (nat_eq k id) refl
  where
    by : (b : Bool) → nat_eq k id ≡ b → f k ≡ cond b word (f k)
    by true e = absurd (true≢false (sym there ∙ ap (λ (j : ℕ). is_some (find_line lines j)) (eqb-true k id e) ∙ ap is_some none))
    by false e = refl

-- a line and what it names are found
abbrev LiesIn : List FullLine → FullLine → Type 0
LiesIn lines x = (is_some (find_line lines x.id) ≡ true) × AllByRecursion (λ (o : Operand). is_some (find_line lines o.id) ≡ true) (operands_of x.says)

found_on : (front more : List FullLine) (id : ℕ) → is_some (find_line front id) ≡ true → is_some (find_line (front ++ more) id) ≡ true
found_on front more id h =
    let there = some_of (find_line front id) h in
    is_some_from (find_line (front ++ more) id) there.0 (find_on front more id there.0 there.1)

operands_on : (front more : List FullLine) (os : List Operand) → AllByRecursion (λ (o : Operand). is_some (find_line front o.id) ≡ true) os → AllByRecursion (λ (o : Operand). is_some (find_line (front ++ more) o.id) ≡ true) os
operands_on front more os h = all_with (λ (o : Operand). is_some (find_line front o.id) ≡ true) (λ (o : Operand). is_some (find_line (front ++ more) o.id) ≡ true) os (λ o. found_on front more o.id) h

lies_on : (front more : List FullLine) (x : FullLine) → LiesIn front x → LiesIn (front ++ more) x
lies_on front more x h = (found_on front more x.id h.0, operands_on front more (operands_of x.says) h.1)

-- a line, and the words at the leaves, say the same of frames that agree
says_kept : (lines : List FullLine) (f g : Frame) (id : ℕ) (b : Says) → f id ≡ g id → word_of_line lines f id b ≡ word_of_line lines g id b → LineSays lines f id b → LineSays lines g id b
says_kept lines f g id (form (body.Input s) m) e d h = subst (λ (w : ℕ). w < 2 ^ width_of lines id) e h
says_kept lines f g id (form (body.State s) m) e d h = subst (λ (w : ℕ). w < 2 ^ width_of lines id) e h
says_kept lines f g id b e d h = if_word (word_of_line lines f id b) (word_of_line lines g id b) (f id) (g id) d e h

leaf_kept : (f g h : Frame) (id : ℕ) (b : Says) → f id ≡ g id → LeafSame f h id b → LeafSame g h id b
leaf_kept f g h id (form (body.Input s) m) e same = sym e ∙ same
leaf_kept f g h id (form (body.State s) m) e same = sym e ∙ same
leaf_kept f g h id _ e same = tt

-- the word that a line takes, where those of the leaves are given
taken : List FullLine → Frame → Frame → ℕ → Says → ℕ
taken lines leaves f id (form (body.Input s) m) = leaves id
taken lines leaves f id (form (body.State s) m) = leaves id
taken lines leaves f id b = unwrap_or (word_of_line lines f id b) 0

word_is : (o : Option ℕ) (x : ℕ) → x ≡ unwrap_or o 0 → IfSome o (λ w. x ≡ w)
word_is None x h = tt
word_is (Some w) x h = h

own_says : (lines : List FullLine) (leaves f g : Frame) (id : ℕ) (b : Says) → LeafFits lines leaves id b → g id ≡ taken lines leaves f id b → word_of_line lines f id b ≡ word_of_line lines g id b → LineSays lines g id b
unfolding taken
own_says lines leaves f g id (form (body.Input s) m) fits e d = subst (λ (w : ℕ). w < 2 ^ width_of lines id) (sym e) fits
own_says lines leaves f g id (form (body.State s) m) fits e d = subst (λ (w : ℕ). w < 2 ^ width_of lines id) (sym e) fits
own_says lines leaves f g id b fits e d = subst (λ (o : Option ℕ). IfSome o (λ w. g id ≡ w)) d (word_is (word_of_line lines f id b) (g id) e)

own_leaf : (lines : List FullLine) (leaves f g : Frame) (id : ℕ) (b : Says) → g id ≡ taken lines leaves f id b → LeafSame g leaves id b
unfolding taken
own_leaf lines leaves f g id (form (body.Input s) m) e = e
own_leaf lines leaves f g id (form (body.State s) m) e = e
own_leaf lines leaves f g id _ e = tt

-- what holds of the lines so far
abbrev Holds : List FullLine → List FullLine → Frame → Frame → FullLine → Type 0
Holds lines before leaves f x = LiesIn before x × (LineSays lines f x.id x.says × LeafSame f leaves x.id x.says)

holds_on : (lines before : List FullLine) (leaves f g : Frame) (x y : FullLine) → Agrees before f g → Holds lines before leaves f y → Holds lines (before ++ x ∷ []) leaves g y
holds_on lines before leaves f g x y agree h =
    let nodes = all_with (λ (o : Operand). is_some (find_line before o.id) ≡ true) (λ (o : Operand). f o.id ≡ g o.id) (operands_of y.says) (λ o. agree o.id) h.0.1 in
    let own = agree y.id h.0.0 in
    (lies_on before (x ∷ []) y h.0, (says_kept lines f g y.id y.says own (same_word lines f g y.id y.says nodes) h.1.0, leaf_kept f g leaves y.id y.says own h.1.1))

found_operands : (before : List FullLine) (os : List Operand) → AllByRecursion (λ (o : Operand). is_some (sort_of_node before o.id) ≡ true) os → AllByRecursion (λ (o : Operand). is_some (find_line before o.id) ≡ true) os
found_operands before os h =
    all_with (λ (o : Operand). is_some (sort_of_node before o.id) ≡ true) (λ (o : Operand). is_some (find_line before o.id) ≡ true) os (λ o there. let found = node_found before o.id there in is_some_from (find_line before o.id) found.0 found.1) h

frame_from : (lines : List FullLine) (leaves f : Frame) (before rest : List FullLine) → IsFullAfter before rest → AllByRecursion (λ (x : FullLine). LeafFits lines leaves x.id x.says) rest
    → AllByRecursion (Holds lines before leaves f) before → (g : Frame) × AllByRecursion (Holds lines (before ++ rest) leaves g) (before ++ rest)
frame_from lines leaves f before [] w fits h = (f, rw append-nil h)
frame_from lines leaves f before (x ∷ xs) w fits h =
    let word = taken lines leaves f x.id x.says in
    let g : Frame = put f x.id word in
    let own : g x.id ≡ word = put_own f x.id word in
    let agree = put_agrees before f x.id word w.0.fresh in
    let operands = found_operands before (operands_of x.says) w.0.nodes in
    let nodes = all_with (λ (o : Operand). is_some (find_line before o.id) ≡ true) (λ (o : Operand). f o.id ≡ g o.id) (operands_of x.says) (λ o. agree o.id) operands in
    let last : find_line (before ++ x ∷ []) x.id ≡ Some x = find_behind before (x ∷ []) x.id w.0.fresh ∙ find_own x [] in
    let here : Holds lines (before ++ x ∷ []) leaves g x = (
      (is_some_from (find_line (before ++ x ∷ []) x.id) x last, operands_on before (x ∷ []) (operands_of x.says) operands),
      (own_says lines leaves f g x.id x.says fits.0 own (same_word lines f g x.id x.says nodes), own_leaf lines leaves f g x.id x.says own),
    ) in
    let kept = all_with (Holds lines before leaves f) (Holds lines (before ++ x ∷ []) leaves g) before (λ y. holds_on lines before leaves f g x y agree) h in
    let found = frame_from lines leaves g (before ++ x ∷ []) xs w.1 fits.1 (all_join (Holds lines (before ++ x ∷ []) leaves g) before (x ∷ []) kept (here, tt)) in
    (found.0, rw append_assoc at found.1)

pub full_frame_exists : (lines : List FullLine) (leaves : Frame) → IsFullModel lines → AllByRecursion (λ (x : FullLine). LeafFits lines leaves x.id x.says) lines
    → (f : Frame) × IsFullFrame lines f × AllByRecursion (λ (x : FullLine). LeafSame f leaves x.id x.says) lines
full_frame_exists lines leaves w fits =
    let found = frame_from lines leaves (λ k. 0) [] lines w fits tt in (
      found.0,
      all_with (Holds lines lines leaves found.0) (λ (x : FullLine). LineSays lines found.0 x.id x.says) lines (λ x h. h.1.0) found.1,
      all_with (Holds lines lines leaves found.0) (λ (x : FullLine). LeafSame found.0 leaves x.id x.says) lines (λ x h. h.1.1) found.1,
    )
