-- How a list goes on.
use Rattle.std.proofs.Common.{◌≡◌, ℕ, ◌≤◌, true, false, nat_eq, List, [], ◌∷◌, ◌++◌, length, length-append, Option, Some, None, Result, Ok, Err, IfOk, inl, inr, ⊎_elim, append_assoc, append-nil, refl, sym, ap, subst, ◌∙◌, arith}
use Rattle.std.specs.List.{AllByRecursion}
use Rattle.std.proofs.lemmas.Bool.{ne_eqb}
use Rattle.btor2.specs.declared.item.Item.{Item}
use Rattle.btor2.specs.declared.item.Body.{Body}
use Rattle.btor2.specs.declared.item.Body.TheVariants as body
use Rattle.btor2.specs.Items.{find_item, operands, sort_width, node_width}
use Rattle.btor2.specs.Trace.{Frame}
use Rattle.btor2.proofs.AppendLemmas.{sort_width-append, node_width-append}
use Rattle.wide.specs.WideModels.{greatest_width, IsWideModel}
use Rattle.full.specs.WrittenOut.{InFrames}
use Rattle.full.specs.Gives.{InAllFrames, GivesWord}
use Rattle.full.proofs.ListLemmas.{all_with, all_join}
use Rattle.full.proofs.GivesLemmas.{gives_kept}
use Rattle.cells.specs.declared.shortage.Shortage.{Shortage}
use Rattle.cells.proofs.PlaceLemmas.{sort_last}
use Rattle.cells.specs.Lines.{named, is_plain, IsAmong, MayName, MayNameAll, Extends, IsNew}

-- ---- which ids may be named

pub all_among : (P : ℕ → Type 0) (xs : List ℕ) (a : ℕ) → AllByRecursion P xs → IsAmong a xs → P a
all_among P [] a all h = absurd h
all_among P (x ∷ xs) a all h = ⊎_elim (λ same. subst P (sym same) all.0) (λ rest. all_among P xs a all.1 rest) h

-- by what was handed over to a step what is handed over to the whole
pub may_name : (few many : ℕ) (handed also : List ℕ) (a : ℕ) → few ≤ many → MayNameAll few handed also → MayName many also a → MayName few handed a
may_name few many handed also a h all named = ⊎_elim (λ behind. inl (omega arith)) (λ among. all_among (MayName few handed) also a all among) named

pub may_name_all : (few many : ℕ) (handed also ids : List ℕ) → few ≤ many → MayNameAll few handed also → MayNameAll many also ids → MayNameAll few handed ids
may_name_all few many handed also ids h all named = all_with (MayName many also) (MayName few handed) ids (λ a. may_name few many handed also a h all) named

all_handed_from : (many : ℕ) (before xs : List ℕ) (P : ℕ → Type 0) → ((a : ℕ) → IsAmong a xs → P a) → AllByRecursion P xs
all_handed_from many before [] P h = tt
all_handed_from many before (x ∷ xs) P h = (h x (inl refl), all_handed_from many before xs P (λ a among. h a (inr among)))

-- what is handed over may be named
pub handed_over : (many : ℕ) (xs : List ℕ) → MayNameAll many xs xs
handed_over many xs = all_handed_from many xs xs (MayName many xs) (λ a among. inr among)

pub new_may : (old mid new : List Item) (handed : List ℕ) (id : ℕ) → length old ≤ length mid → IsNew mid new id → MayName (length old) handed id
new_may old mid new handed id h is = let behind = is.0 in inl (omega arith)

-- what is new once a list has gone on, by a node of it or a newer one
pub new_from : (old mid new : List Item) (half : ℕ) (r : Result ℕ Shortage) → IsNew old mid half → length old ≤ length mid → IfOk r (MayName (length mid) (half ∷ [])) → IfOk r (λ id. id ≤ length new) → IfOk r (IsNew old new)
new_from old mid new half (Ok id) is h named there =
    let behind = is.0 in
    (⊎_elim (λ newer. omega (arith, newer)) (λ among. ⊎_elim (λ same. omega (arith, same)) (λ none. absurd none) among) named, there)
new_from old mid new half (Err e) is h named there = tt

-- ---- a list that goes on

pub longer : (old new : List Item) (handed : List ℕ) → Extends old new handed → length old ≤ length new
longer old new handed e = let many = ap length e.is ∙ length-append old e.more in omega (arith, many)

pub extends_same : (items : List Item) (handed : List ℕ) → Extends items items handed
extends_same items handed = record { more = []; is = sym (append-nil items); plain = tt; names = tt }

pub extends_line : (items : List Item) (id : ℕ) (symbol : Option (List ℕ)) (b : Body) (handed : List ℕ) → is_plain b ≡ true → MayNameAll (length items) handed (operands b) → Extends items (items ++ named id symbol b ∷ []) handed
extends_line items id symbol b handed plain names = record { more = named id symbol b ∷ []; is = refl; plain = (plain, tt); names = (names, tt) }

pub extends_twice : (a b c : List Item) (handed also : List ℕ) → Extends a b handed → Extends b c also → MayNameAll (length a) handed also → Extends a c handed
extends_twice a b c handed also e d all =
    record {
      more = e.more ++ d.more;
      is = d.is ∙ ap (λ (l : List Item). l ++ d.more) e.is ∙ append_assoc a e.more d.more;
      plain = all_join (λ (x : Item). is_plain x.body ≡ true) e.more d.more e.plain d.plain;
      names = all_join (λ (x : Item). MayNameAll (length a) handed (operands x.body)) e.more d.more e.names
          (all_with (λ (x : Item). MayNameAll (length b) also (operands x.body)) (λ (x : Item). MayNameAll (length a) handed (operands x.body)) d.more
          (λ x. may_name_all (length a) (length b) handed also (operands x.body) (longer a b handed e) all) d.names);
    }

-- a sort that was made first names nothing
pub extends_after : (a b c : List Item) (handed : List ℕ) → Extends a b [] → Extends b c handed → Extends a c handed
extends_after a b c handed e d = extends_twice a b c handed handed (extends_twice a a b handed [] (extends_same a handed) e tt) d (handed_over (length a) handed)

-- what is handed over to both
pub extends_again : (a b c : List Item) (handed : List ℕ) → Extends a b handed → Extends b c handed → Extends a c handed
extends_again a b c handed e d = extends_twice a b c handed handed e d (handed_over (length a) handed)

-- what is handed over to the first and to the second, by what is handed over to the whole
pub extends_wider : (a b c : List Item) (first also handed : List ℕ) → Extends a b first → Extends b c also → MayNameAll (length a) handed first → MayNameAll (length a) handed also → Extends a c handed
extends_wider a b c first also handed e d one other = extends_twice a b c handed also (extends_twice a a b handed first (extends_same a handed) e one) d other

pub may_wider : (old : List Item) (handed : List ℕ) (a : ℕ) → MayName (length old) [] a → MayName (length old) handed a
may_wider old handed a named = ⊎_elim (λ behind. inl behind) (λ among. absurd among) named

-- a new line names no earlier node that was not handed over
other_named : (many : ℕ) (handed : List ℕ) (w a : ℕ) → w ≤ many → (IsAmong w handed → ⊥) → MayName many handed a → nat_eq a w ≡ false
other_named many handed w a h none named = ⊎_elim (λ behind. ne_eqb a w (λ same. absurd (omega arith))) (λ among. ne_eqb a w (λ same. none (subst (λ (k : ℕ). IsAmong k handed) same among))) named

pub named_apart : (old new : List Item) (handed : List ℕ) (w : ℕ) → (e : Extends old new handed) → w ≤ length old → (IsAmong w handed → ⊥) → AllByRecursion (λ (x : Item). AllByRecursion (λ a. nat_eq a w ≡ false) (operands x.body)) e.more
named_apart old new handed w e h none =
    all_with (λ (x : Item). MayNameAll (length old) handed (operands x.body)) (λ (x : Item). AllByRecursion (λ a. nat_eq a w ≡ false) (operands x.body)) e.more
    (λ x. all_with (MayName (length old) handed) (λ a. nat_eq a w ≡ false) (operands x.body) (λ a. other_named (length old) handed w a h none)) e.names

-- ---- what stays

pub sort_stays : (old new : List Item) (handed : List ℕ) (s n : ℕ) → Extends old new handed → sort_width old s ≡ Some n → sort_width new s ≡ Some n
sort_stays old new handed s n e h = ap (λ (l : List Item). sort_width l s) e.is ∙ sort_width-append old e.more s n h

pub node_stays : (old new : List Item) (handed : List ℕ) (a n : ℕ) → Extends old new handed → node_width old a ≡ Some n → node_width new a ≡ Some n
node_stays old new handed a n e h = ap (λ (l : List Item). node_width l a) e.is ∙ node_width-append old e.more a n h

pub frames_stay : (old new : List Item) (handed : List ℕ) (Of : Frame → Type 0) → Extends old new handed → InAllFrames old Of → InAllFrames new Of
frames_stay old new handed Of e h more =
    let same : new ++ more ≡ old ++ (e.more ++ more) = ap (λ (l : List Item). l ++ more) e.is ∙ append_assoc old e.more more in
    subst (λ (l : List Item). IsWideModel greatest_width l → InFrames l Of) (sym same) (h (e.more ++ more))

pub gives_stay : (old new : List Item) (handed : List ℕ) (bits : ℕ) (value : Frame → ℕ) (w : ℕ) → Extends old new handed → GivesWord old bits value w → GivesWord new bits value w
gives_stay old new handed bits value w e h = subst (λ (l : List Item). GivesWord l bits value w) (sym e.is) (gives_kept old e.more bits value w h)

-- ---- a sort that was put

pub extends_sort : (old new model : List Item) (id n : ℕ) → new ≡ old ++ named id None (body.Sort n) ∷ [] → model ≡ new → Extends old model []
extends_sort old new model id n is same = record { more = named id None (body.Sort n) ∷ []; is = same ∙ is; plain = (refl, tt); names = (tt, tt) }

pub sort_made : (old new model : List Item) (id n : ℕ) → new ≡ old ++ named id None (body.Sort n) ∷ [] → find_item old id ≡ None → model ≡ new → sort_width model id ≡ Some n
sort_made old new model id n is fresh same = ap (λ (l : List Item). sort_width l id) (same ∙ is) ∙ sort_last old id n None fresh
