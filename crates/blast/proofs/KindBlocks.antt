-- Blocks of a list, one for each item of a kind, written one after another over entries that are blank.
use Rattle.std.proofs.Common.{◌≡◌, ℕ, zero, suc, ◌+◌, ◌<◌, ◌≤◌, Bool, true, false, cond, List, [], ◌∷◌, ◌++◌, length, take, drop, set, get_or, replicate, Option, Some, slice_get, refl, sym, ap, ap₂, ◌∙◌, append_assoc, append-nil, length-append, arith}
use Rattle.std.proofs.lemmas.List.{length-replicate, take_at, drop_at, drop-drop, take_more, drop_more, take_all, drop_all, set_at, replicate-append-replicate, take-append-drop, length-take-le}
use Rattle.std.proofs.lemmas.List.Sums.{sum_by-cons}
use Rattle.std.proofs.lemmas.Option.{same_Some}
use Rattle.btor2.specs.declared.item.Item.{Item}
use Rattle.btor2.specs.declared.item.Body.{Body}
use Rattle.btor2.specs.Lists.{places}
use Rattle.btor2.specs.Trace.{bits_of}
use Rattle.btor2.specs.Leaves.{kind_width}
use Rattle.blast.specs.Leaves.{by_body, given_by_kind}
use Rattle.blast.specs.Blocks.{block, blocks, written_over, IsBlank}

-- Entries of lists.

-- an entry behind a front
pub slice_get-behind : {A : Type 0} (front list : List A) (n k : ℕ) → length front ≡ n → slice_get (front ++ list) (n + k) ≡ slice_get list k
slice_get-behind [] list n k e = ap (slice_get list) (omega arith)
slice_get-behind (x ∷ front) list zero k e = absurd (omega arith)
slice_get-behind (x ∷ front) list (suc n) k e =
    let next : suc n + k ≡ suc (n + k) = omega arith in
    ap (slice_get (x ∷ (front ++ list))) next ∙ slice_get-behind front list n k (omega arith)

pub slice_get-drop : {A : Type 0} (list : List A) (n k : ℕ) → slice_get (drop n list) k ≡ slice_get list (n + k)
slice_get-drop list zero k = ap (slice_get list) (omega arith)
slice_get-drop [] (suc n) k = refl
slice_get-drop (x ∷ list) (suc n) k =
    let next : suc (n + k) ≡ suc n + k = omega arith in
    slice_get-drop list n k ∙ ap (slice_get (x ∷ list)) next

pub slice_get-replicate : {A : Type 0} (blank : A) (n k : ℕ) → k < n → slice_get (replicate n blank) k ≡ Some blank
slice_get-replicate blank zero k h = absurd (omega arith)
slice_get-replicate blank (suc n) zero h = refl
slice_get-replicate blank (suc n) (suc k) h = slice_get-replicate blank n k (omega arith)

-- Writing a block.

-- what is left of a list
length_drop_rest : {A : Type 0} (list : List A) (n : ℕ) → n ≤ length list → n + length (drop n list) ≡ length list
length_drop_rest list zero h = omega arith
length_drop_rest [] (suc n) h = absurd (omega arith)
length_drop_rest (x ∷ list) (suc n) h = omega (arith, length_drop_rest list n (omega arith))

pub written-nil : {A : Type 0} (list : List A) (at : ℕ) → written_over list at [] ≡ list
unfolding written_over
written-nil list at = ap (λ (n : ℕ). take at list ++ drop n list) (omega arith) ∙ take-append-drop at list

pub length-written : {A : Type 0} (list : List A) (at : ℕ) (more : List A) → at + length more ≤ length list → length (written_over list at more) ≡ length list
unfolding written_over
length-written list at more h =
    let t : length (take at list) ≡ at = length-take-le at list (omega arith) in
    let d : at + length more + length (drop (at + length more) list) ≡ length list = length_drop_rest list (at + length more) h in
    omega (arith, length-append (take at list) (more ++ drop (at + length more) list), length-append more (drop (at + length more) list))

-- the entry behind a block is as it was
pub written-behind : {A : Type 0} (list : List A) (at k : ℕ) (more : List A) → at + length more ≤ length list → slice_get (written_over list at more) (at + length more + k) ≡ slice_get list (at + length more + k)
unfolding written_over
written-behind list at k more h =
    let t : length (take at list) ≡ at = length-take-le at list (omega arith) in
    let p : length (take at list ++ more) ≡ at + length more = omega (arith, length-append (take at list) more) in
    ap (λ (l : List _). slice_get l (at + length more + k)) (sym (append_assoc (take at list) more (drop (at + length more) list)))
    ∙ slice_get-behind (take at list ++ more) (drop (at + length more) list) (at + length more) k p
    ∙ slice_get-drop list (at + length more) k

drop_here : {A : Type 0} (list : List A) (n : ℕ) → n < length list → (x : A) × (drop n list ≡ x ∷ drop (suc n) list)
drop_here [] n h = absurd (omega arith)
drop_here (x ∷ list) zero h = (x, refl)
drop_here (x ∷ list) (suc n) h = drop_here list n (omega arith)

-- one entry more
pub written-more : {A : Type 0} (list : List A) (at : ℕ) (more : List A) (y : A) → at + length more < length list → set (written_over list at more) (at + length more) y ≡ written_over list at (more ++ y ∷ [])
unfolding written_over
written-more list at more y h =
    let t : length (take at list) ≡ at = length-take-le at list (omega arith) in
    let p : length (take at list ++ more) ≡ at + length more = omega (arith, length-append (take at list) more) in
    let here = drop_here list (at + length more) h in
    let n : suc (at + length more) ≡ at + length (more ++ y ∷ []) = omega (arith, length-append more (y ∷ [])) in
    ap (λ (l : List _). set l (at + length more) y) (sym (append_assoc (take at list) more (drop (at + length more) list)))
    ∙ ap (λ (l : List _). set ((take at list ++ more) ++ l) (at + length more) y) here.1
    ∙ set_at (take at list ++ more) here.0 (drop (suc (at + length more)) list) y (at + length more) p
    ∙ append_assoc (take at list) more (y ∷ drop (suc (at + length more)) list)
    ∙ ap (λ (l : List _). take at list ++ l) (sym (append_assoc more (y ∷ []) (drop (suc (at + length more)) list)))
    ∙ ap (λ (k : ℕ). take at list ++ ((more ++ y ∷ []) ++ drop k list)) n

-- a block written over entries behind a front
pub written-at : {A : Type 0} (front old more rest : List A) (at : ℕ) → length front ≡ at → length old ≡ length more → written_over (front ++ (old ++ rest)) at more ≡ (front ++ more) ++ rest
unfolding written_over
written-at front old more rest at e same =
    let n : length (front ++ old) ≡ at + length more = omega (arith, length-append front old) in
    let t : take at (front ++ (old ++ rest)) ≡ front = take_at front (old ++ rest) at e in
    let d : drop (at + length more) (front ++ (old ++ rest)) ≡ rest = ap (drop (at + length more)) (sym (append_assoc front old rest)) ∙ drop_at (front ++ old) rest (at + length more) n in
    ap₂ (λ (x y : List _). x ++ (more ++ y)) t d ∙ sym (append_assoc front more rest)

-- a block written behind another
pub written-further : {A : Type 0} (list : List A) (at : ℕ) (xs ys : List A) → at + length xs + length ys ≤ length list → written_over (written_over list at xs) (at + length xs) ys ≡ written_over list at (xs ++ ys)
unfolding written_over
written-further list at xs ys h =
    let rest = drop (at + length xs) list in
    let t : length (take at list) ≡ at = length-take-le at list (omega arith) in
    let p : length (take at list ++ xs) ≡ at + length xs = omega (arith, length-append (take at list) xs) in
    let d : at + length xs + length rest ≡ length list = length_drop_rest list (at + length xs) (omega arith) in
    let old : length (take (length ys) rest) ≡ length ys = length-take-le (length ys) rest (omega arith) in
    let n : at + length xs + length ys ≡ at + length (xs ++ ys) = omega (arith, length-append xs ys) in
    ap (λ (l : List _). written_over l (at + length xs) ys) (sym (append_assoc (take at list) xs rest) ∙ ap (λ (l : List _). (take at list ++ xs) ++ l) (sym (take-append-drop (length ys) rest)))
    ∙ written-at (take at list ++ xs) (take (length ys) rest) ys (drop (length ys) rest) (at + length xs) p old
    ∙ ap₂ (λ (l r : List _). l ++ r) (append_assoc (take at list) xs ys) (drop-drop (length ys) (at + length xs) list ∙ ap (λ (k : ℕ). drop k list) n)
    ∙ append_assoc (take at list) (xs ++ ys) (drop (at + length (xs ++ ys)) list)

-- a block written over a whole list
pub written-whole : {A : Type 0} (list more : List A) → length list ≡ length more → written_over list 0 more ≡ more
unfolding written_over
written-whole list more same = ap (λ (l : List _). more ++ l) (drop_all (0 + length more) list (omega arith)) ∙ append-nil more

-- an entry written again
set_same : {A : Type 0} (list : List A) (k : ℕ) (x : A) → slice_get list k ≡ Some x → set list k x ≡ list
set_same [] k x e = refl
set_same (y ∷ list) zero x e = ap (λ (z : _). z ∷ list) (sym (same_Some y x e))
set_same (y ∷ list) (suc k) x e = ap (λ (l : List _). y ∷ l) (set_same list k x e)

-- blank entries, and a block of such entries written over them
pub written-blank : {A : Type 0} (blank : A) (list : List A) (at count : ℕ) → IsBlank blank at count list → at + count ≤ length list → written_over list at (replicate count blank) ≡ list
written-blank blank list at zero h room = written-nil list at
written-blank blank list at (suc count) h room =
    let l : length (replicate count blank) ≡ count = length-replicate count blank in
    let i : at + length (replicate count blank) ≡ at + count = omega arith in
    let before : written_over list at (replicate count blank) ≡ list = written-blank blank list at count (record { entries = λ k b. h.entries k (omega arith) }) (omega arith) in
    let last = written-more list at (replicate count blank) blank (omega arith) in
    let more : count + 1 ≡ suc count = omega arith in
    let same : replicate (suc count) blank ≡ replicate count blank ++ blank ∷ [] = sym (replicate-append-replicate count 1 blank ∙ ap (λ (n : ℕ). replicate n blank) more) in
    ap (written_over list at) same ∙ sym last ∙ ap₂ (λ (l : List _) (n : ℕ). set l n blank) before i ∙ set_same list (at + count) blank (h.entries count (omega arith))

-- Blocks of items.

pub blocks-append : {A : Type 0} (give : Item → List A) (items : List Item) (ps qs : List ℕ) → blocks give items (ps ++ qs) ≡ blocks give items ps ++ blocks give items qs
unfolding blocks
blocks-append give items [] qs = refl
blocks-append give items (p ∷ ps) qs =
    ap (λ (l : List _). block give (slice_get items p) ++ l) (blocks-append give items ps qs)
    ∙ sym (append_assoc (block give (slice_get items p)) (blocks give items ps) (blocks give items qs))

pub blocks-one : {A : Type 0} (give : Item → List A) (items : List Item) (p : ℕ) → blocks give items (p ∷ []) ≡ block give (slice_get items p)
unfolding blocks
blocks-one give items p = append-nil (block give (slice_get items p))

-- one place more
pub blocks-more : {A : Type 0} (give : Item → List A) (items : List Item) (ps : List ℕ) (k : ℕ) → k < length ps
    → blocks give items (take (k + 1) ps) ≡ blocks give items (take k ps) ++ block give (slice_get items (get_or ps k 0))
blocks-more give items ps k h =
    ap (blocks give items) (take_more ps k 0 h) ∙ blocks-append give items (take k ps) (get_or ps k 0 ∷ [])
    ∙ ap (λ (l : List _). blocks give items (take k ps) ++ l) (blocks-one give items (get_or ps k 0))

pub blocks-rest : {A : Type 0} (give : Item → List A) (items : List Item) (ps : List ℕ) (k : ℕ) → k < length ps
    → blocks give items (drop k ps) ≡ block give (slice_get items (get_or ps k 0)) ++ blocks give items (drop (k + 1) ps)
unfolding blocks
blocks-rest give items ps k h = ap (blocks give items) (drop_more ps k 0 h)

-- the blocks of the places of a kind are what the items of the kind give
kind_blocks : {A : Type 0} (kind : Body → Bool) (give : Item → List A) (before xs : List Item) (n : ℕ) → length before ≡ n
    → blocks give (before ++ xs) (places kind n xs) ≡ given_by_kind (by_body kind) give xs
unfolding blocks
kind_blocks kind give before [] n e = refl
kind_blocks kind give before (x ∷ xs) n e =
    let own : slice_get (before ++ x ∷ xs) n ≡ Some x = ap (slice_get (before ++ x ∷ xs)) (omega arith) ∙ slice_get-behind before (x ∷ xs) n 0 e in
    let rest : blocks give (before ++ x ∷ xs) (places kind (suc n) xs) ≡ given_by_kind (by_body kind) give xs =
    ap (λ (l : List Item). blocks give l (places kind (suc n) xs)) (sym (append_assoc before (x ∷ []) xs))
    ∙ kind_blocks kind give (before ++ x ∷ []) xs (suc n) (omega (arith, length-append before (x ∷ []))) in
    elim (kind x.body) as (λ b. blocks give (before ++ x ∷ xs) (cond b (n ∷ places kind (suc n) xs) (places kind (suc n) xs)) ≡ cond b (give x) [] ++ given_by_kind (by_body kind) give xs) [
      | true ↦ ap₂ (λ (o : Option Item) (l : List _). block give o ++ l) own rest
      | false ↦ rest
    ]

pub blocks-of_kind : {A : Type 0} (kind : Body → Bool) (give : Item → List A) (items : List Item) → blocks give items (places kind 0 items) ≡ given_by_kind (by_body kind) give items
blocks-of_kind kind give items = kind_blocks kind give [] items 0 refl

-- where each item gives an entry for each of its bits, those of a kind give as many as they have bits
pub length-of_kind : {A : Type 0} (items : List Item) (kind : Item → Bool) (give : Item → List A) (xs : List Item) → ((x : Item) → length (give x) ≡ bits_of items x.id) → length (given_by_kind kind give xs) ≡ kind_width items kind xs
length-of_kind items kind give [] wide = refl
length-of_kind items kind give (x ∷ xs) wide =
    length-append (cond (kind x) (give x) []) (given_by_kind kind give xs) ∙ ap₂ ◌+◌ (by (kind x)) (length-of_kind items kind give xs wide)
    ∙ sym (sum_by-cons (λ (y : Item). cond (kind y) (bits_of items y.id) 0) x xs)
  where
    by : (b : Bool) → length (cond b (give x) []) ≡ cond b (bits_of items x.id) 0
    by true = wide x
    by false = refl

-- where the items of a kind are among those of a wider kind, what the wider kind gives is what they give
pub of_kind-within : {A : Type 0} (wide kind : Item → Bool) (give : Item → List A) (xs : List Item) → ((x : Item) → kind x ≡ true → wide x ≡ true)
    → given_by_kind wide (λ x. cond (kind x) (give x) []) xs ≡ given_by_kind kind give xs
of_kind-within wide kind give [] within = refl
of_kind-within wide kind give (x ∷ xs) within = ap₂ (λ (l r : List _). l ++ r) (by (wide x) (kind x) (within x)) (of_kind-within wide kind give xs within)
  where
    by : (w k : Bool) → (k ≡ true → w ≡ true) → cond w (cond k (give x) []) [] ≡ cond k (give x) []
    by true k h = refl
    by false true h = let e : false ≡ true = h refl in absurd (cc)
    by false false h = refl

-- The blocks of the first so many places, before entries that are still blank.
unfoldable pub so_far : {A : Type 0} → A → (Item → List A) → List Item → List ℕ → ℕ → List A
so_far blank give items ps k = blocks give items (take k ps) ++ replicate (length (blocks give items (drop k ps))) blank

-- where the next block begins
unfoldable pub reached : {A : Type 0} → (Item → List A) → List Item → List ℕ → ℕ → ℕ
reached give items ps k = length (blocks give items (take k ps))

pub reached-is : {A : Type 0} (give : Item → List A) (items : List Item) (ps : List ℕ) (k : ℕ) → reached give items ps k ≡ length (blocks give items (take k ps))
unfolding reached
reached-is give items ps k = refl

pub so_far-none : {A : Type 0} (blank : A) (give : Item → List A) (items : List Item) (ps : List ℕ) → so_far blank give items ps 0 ≡ replicate (length (blocks give items ps)) blank
unfolding so_far blocks
so_far-none blank give items ps = refl

pub reached-none : {A : Type 0} (give : Item → List A) (items : List Item) (ps : List ℕ) → reached give items ps 0 ≡ 0
unfolding reached blocks
reached-none give items ps = refl

pub so_far-all : {A : Type 0} (blank : A) (give : Item → List A) (items : List Item) (ps : List ℕ) (k : ℕ) → length ps ≤ k → so_far blank give items ps k ≡ blocks give items ps
unfolding so_far blocks
so_far-all blank give items ps k h =
    ap₂ (λ (l r : List ℕ). blocks give items l ++ replicate (length (blocks give items r)) blank) (take_all k ps h) (drop_all k ps h) ∙ append-nil (blocks give items ps)

pub reached-more : {A : Type 0} (give : Item → List A) (items : List Item) (ps : List ℕ) (k : ℕ) → k < length ps
    → reached give items ps (k + 1) ≡ reached give items ps k + length (block give (slice_get items (get_or ps k 0)))
unfolding reached
reached-more give items ps k h =
    ap length (blocks-more give items ps k h) ∙ length-append (blocks give items (take k ps)) (block give (slice_get items (get_or ps k 0)))

-- the blocks so far and the next are within all of them
pub reached-within : {A : Type 0} (give : Item → List A) (items : List Item) (ps : List ℕ) (k : ℕ) → k < length ps
    → reached give items ps k + length (block give (slice_get items (get_or ps k 0))) ≤ length (blocks give items ps)
reached-within give items ps k h =
    let whole : blocks give items ps ≡ blocks give items (take (k + 1) ps) ++ blocks give items (drop (k + 1) ps) =
    ap (blocks give items) (sym (take-append-drop (k + 1) ps)) ∙ blocks-append give items (take (k + 1) ps) (drop (k + 1) ps) in
    let more = reached-more give items ps k h in
    let own : reached give items ps (k + 1) ≡ length (blocks give items (take (k + 1) ps)) = reached-is give items ps (k + 1) in
    omega (arith, ap length whole, length-append (blocks give items (take (k + 1) ps)) (blocks give items (drop (k + 1) ps)))

pub reached-all : {A : Type 0} (give : Item → List A) (items : List Item) (ps : List ℕ) (k : ℕ) → length ps ≤ k → reached give items ps k ≡ length (blocks give items ps)
reached-all give items ps k h = reached-is give items ps k ∙ ap (λ (l : List ℕ). length (blocks give items l)) (take_all k ps h)

-- the entries so far, cut at the next block
so_far_cut : {A : Type 0} (blank : A) (give : Item → List A) (items : List Item) (ps : List ℕ) (k : ℕ) → k < length ps
    → so_far blank give items ps k ≡ blocks give items (take k ps) ++ (replicate (length (block give (slice_get items (get_or ps k 0)))) blank ++ replicate (length (blocks give items (drop (k + 1) ps))) blank)
unfolding so_far
so_far_cut blank give items ps k h =
    ap (λ (n : ℕ). blocks give items (take k ps) ++ replicate n blank)
    (ap length (blocks-rest give items ps k h) ∙ length-append (block give (slice_get items (get_or ps k 0))) (blocks give items (drop (k + 1) ps)))
    ∙ ap (λ (l : List _). blocks give items (take k ps) ++ l)
    (sym (replicate-append-replicate (length (block give (slice_get items (get_or ps k 0)))) (length (blocks give items (drop (k + 1) ps))) blank))

pub so_far-room : {A : Type 0} (blank : A) (give : Item → List A) (items : List Item) (ps : List ℕ) (k : ℕ) → k < length ps
    → reached give items ps k + length (block give (slice_get items (get_or ps k 0))) ≤ length (so_far blank give items ps k)
unfolding reached
so_far-room blank give items ps k h =
    let count = length (block give (slice_get items (get_or ps k 0))) in
    let more = length (blocks give items (drop (k + 1) ps)) in
    let front = blocks give items (take k ps) in
    omega (arith, ap length (so_far_cut blank give items ps k h), length-append front (replicate count blank ++ replicate more blank), length-append (replicate count blank) (replicate more blank), length-replicate count blank)

-- the next block written
pub so_far-more : {A : Type 0} (blank : A) (give : Item → List A) (items : List Item) (ps : List ℕ) (k : ℕ) → k < length ps
    → written_over (so_far blank give items ps k) (reached give items ps k) (block give (slice_get items (get_or ps k 0))) ≡ so_far blank give items ps (k + 1)
unfolding so_far reached
so_far-more blank give items ps k h =
    let next = block give (slice_get items (get_or ps k 0)) in
    let rest = replicate (length (blocks give items (drop (k + 1) ps))) blank in
    let front = blocks give items (take k ps) in
    ap (λ (l : List _). written_over l (length front) next) (so_far_cut blank give items ps k h)
    ∙ written-at front (replicate (length next) blank) next rest (length front) refl (length-replicate (length next) blank)
    ∙ ap (λ (l : List _). l ++ rest) (sym (blocks-more give items ps k h))
