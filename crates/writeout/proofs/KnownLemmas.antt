-- What accepted lines have: they are few, and their ids are small.
use Rattle.std.proofs.Common.{◌≡◌, ℕ, ◌<◌, ◌≤◌, ◌^◌, Bool, true, false, not, ◌&&◌, cond, nat_le, List, [], ◌∷◌, ◌++◌, length, Option, Some, None, IfSome, append_assoc, length-append, refl, sym, subst, arith}
use Rattle.std.specs.List.{AllByRecursion}
use Rattle.std.proofs.lemmas.Option.{none-some}
use Rattle.std.proofs.lemmas.Grind.{common_steps}
use Rattle.btor2.specs.Check.{most_items, greatest_id}
use Rattle.wide.specs.WideModels.{greatest_width}
use Rattle.full.specs.Lines.{FullLine, Sort, sort_size, sort_of_node}
use Rattle.fullmodel.specs.FullModels.{id_is_out_of_range, line_refusal, IsAcceptedAfter, IsAccepted}

none_of : {A : Type 0} (b : Bool) (v : A) (rest : Option A) → cond b (Some v) rest ≡ None → (b ≡ false) × (rest ≡ None)
none_of true v rest h = absurd (none-some v (sym h))
none_of false v rest h = (refl, h)

not_false : (b : Bool) → not b ≡ false → b ≡ true
not_false true h = refl
not_false false h = absurd (cc)

both_parts : (a b : Bool) → (a && b) ≡ true → (a ≡ true) × (b ≡ true)
both_parts true b h = (refl, h)
both_parts false b h = absurd (cc)

-- an accepted line finds room, and its id is one of 32 bits
pub accepted_line : (before : List FullLine) (x : FullLine) → line_refusal before x ≡ None → (length before < most_items) × (x.id < 2 ^ 32)
unfolding line_refusal id_is_out_of_range
accepted_line before x h =
    let room = none_of (nat_le most_items (length before)) _ _ h in
    let range = none_of (not (nat_le 1 x.id && nat_le x.id greatest_id)) _ _ room.1 in
    let low : nat_le x.id greatest_id ≡ true = (both_parts (nat_le 1 x.id) (nat_le x.id greatest_id) (not_false _ range.0)).1 in
    let full : nat_le most_items (length before) ≡ false = room.0 in
    (grind (arith, common_steps), grind (arith, common_steps))

few_after : (before xs : List FullLine) → IsAcceptedAfter before xs → length before ≤ most_items → length (before ++ xs) ≤ most_items
few_after before [] h few = omega (arith, length-append {A = FullLine})
few_after before (x ∷ xs) h few =
    let room = (accepted_line before x h.0).0 in
    let more = few_after (before ++ x ∷ []) xs h.1 (omega (arith, length-append before (x ∷ []))) in
    subst (λ (l : List FullLine). length l ≤ most_items) (append_assoc before (x ∷ []) xs) more

pub few_lines : (lines : List FullLine) → IsAccepted lines → length lines ≤ most_items
few_lines lines h = few_after [] lines h (omega arith)

small_after : (before xs : List FullLine) → IsAcceptedAfter before xs → AllByRecursion (λ (x : FullLine). x.id < 2 ^ 32) xs
small_after before [] h = tt
small_after before (x ∷ xs) h = ((accepted_line before x h.0).1, small_after (before ++ x ∷ []) xs h.1)

pub small_ids : (lines : List FullLine) → IsAccepted lines → AllByRecursion (λ (x : FullLine). x.id < 2 ^ 32) lines
small_ids lines h = small_after [] lines h

-- the size of a sort that there is
pub node_sizes : (lines : List FullLine) (id : ℕ) → ((s : Sort) → sort_of_node lines id ≡ Some s → (1 ≤ sort_size s) × (sort_size s ≤ greatest_width))
    → IfSome (sort_of_node lines id) (λ s. (1 ≤ sort_size s) × (sort_size s ≤ greatest_width))
node_sizes lines id h = by (sort_of_node lines id) h
  where
    by : (o : Option Sort) → ((s : Sort) → o ≡ Some s → (1 ≤ sort_size s) × (sort_size s ≤ greatest_width)) → IfSome o (λ s. (1 ≤ sort_size s) × (sort_size s ≤ greatest_width))
    by None k = tt
    by (Some s) k = k s refl
