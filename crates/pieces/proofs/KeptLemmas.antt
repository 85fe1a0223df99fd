-- How a model that grows is kept.
use Rattle.std.proofs.Common.{◌≡◌, ℕ, zero, suc, ◌+◌, ◌<◌, ◌≤◌, ◌⊎◌, inl, inr, ⊎_elim, Bool, true, false, nat_le, le-leb, leb-true, List, [], ◌∷◌, ◌++◌, length, length-append, get_or, set, Option, Some, None, refl, sym, ap, subst, ◌∙◌, arith}
use Rattle.std.proofs.Math.ListN.{replicate}
use Rattle.std.proofs.lemmas.Option.{none-some}
use Rattle.std.proofs.lemmas.Bool.{ne_eqb}
use Rattle.btor2.specs.declared.item.Item.{Item}
use Rattle.btor2.specs.declared.item.Body.{Body}
use Rattle.btor2.specs.declared.fault.PushFault.{PushFault}
use Rattle.btor2.specs.declared.fault.PushFault.TheVariants as fault
use Rattle.btor2.specs.Items.{find_item, sort_width}
use Rattle.btor2.specs.Check.{refusal, id_is_out_of_range, id_is_taken}
use Rattle.btor2.proofs.AppendLemmas.{find_item-after, sort_width-append}
use Rattle.pieces.specs.Kept.{IsKept, IsSound}
use Rattle.pieces.specs.Lines.{named}

-- a list with one element set has at each place that one, or what it had
at_set : (xs : List ℕ) (i j a : ℕ) → (◌≡◌ {A = ℕ} (get_or (set xs i a) j 0) (get_or xs j 0)) ⊎ ((j ≡ i) × (◌≡◌ {A = ℕ} (get_or (set xs i a) j 0) a))
at_set [] i j a = inl refl
at_set (x ∷ xs) zero zero a = inr (refl, refl)
at_set (x ∷ xs) zero (suc j) a = inl refl
at_set (x ∷ xs) (suc i) zero a = inl refl
at_set (x ∷ xs) (suc i) (suc j) a = ⊎_elim (λ same. inl same) (λ own. inr (ap suc own.0, own.1)) (at_set xs i j a)

none_yet : (n width : ℕ) → ◌≡◌ {A = ℕ} (get_or (replicate n 0) width 0) 0
none_yet zero width = refl
none_yet (suc n) zero = refl
none_yet (suc n) (suc width) = none_yet n width

pub kept_new : (first : ℕ) → 1 ≤ first → first ≤ 4293918720 → IsKept [] first (replicate 65 0)
kept_new first least greatest =
    record {
      least = least;
      enough = omega (arith, greatest);
      free = λ id above. refl;
      of_width = λ width some. absurd (omega (arith, some, none_yet 65 width));
    }

-- with one more line, under the next id
pub kept_pushed : (old new : List Item) (next : ℕ) (sorts : List ℕ) (symbol : Option (List ℕ)) (b : Body) → IsKept old next sorts → new ≡ old ++ named next symbol b ∷ [] → IsKept new (next + 1) sorts
kept_pushed old new next sorts symbol b h is =
    let many : length new ≡ length old + 1 = ap length is ∙ length-append old (named next symbol b ∷ []) in
    let enough = h.enough in
    let least = h.least in
    record {
      least = omega arith;
      enough = omega (arith, many, enough);
      free = λ id above.
          let other : find_item (named next symbol b ∷ []) id ≡ None = rw (ne_eqb id next (λ same. absurd (omega (arith, same, above)))) refl in
          ap (λ (l : List Item). find_item l id) is ∙ find_item-after old (named next symbol b ∷ []) id (h.free id (omega (arith, above))) ∙ other;
      of_width = λ width some. ap (λ (l : List Item). sort_width l (get_or sorts width 0)) is ∙ sort_width-append old (named next symbol b ∷ []) (get_or sorts width 0) width (h.of_width width some);
    }

-- with a sort's id kept
pub kept_sort : (items : List Item) (next : ℕ) (sorts : List ℕ) (width id : ℕ) → IsKept items next sorts → sort_width items id ≡ Some width → IsKept items next (set sorts width id)
kept_sort items next sorts width id h is =
    record {
      least = h.least;
      enough = h.enough;
      free = h.free;
      of_width = λ k some.
          ⊎_elim
          (λ same. ap (sort_width items) same ∙ h.of_width k (subst (λ (n : ℕ). 1 ≤ n) same some))
          (λ own. ap (sort_width items) own.1 ∙ is ∙ ap (λ (n : ℕ). Some n) (sym own.0))
          (at_set sorts width k id);
    }

-- ---- what is sound is not refused

not_le : (a b : ℕ) → b < a → nat_le a b ≡ false
not_le a b h = by (nat_le a b) refl
  where
    by : (c : Bool) → nat_le a b ≡ c → c ≡ false
    by true e = absurd (omega (arith, leb-true a b e))
    by false e = refl

pub accepted : (items : List Item) (next : ℕ) (sorts : List ℕ) (symbol : Option (List ℕ)) (b : Body) → IsKept items next sorts → length items < 1048576 → IsSound items b → refusal items (named next symbol b) ≡ None
unfolding refusal id_is_out_of_range id_is_taken IsSound
accepted items next sorts symbol b h few sound =
    let enough = h.enough in
    rw (not_le 1048576 (length items) few, le-leb 1 next h.least, le-leb next 4294967295 (omega (arith, enough, few)), h.free next (omega arith)) sound

-- so a push answers want of memory where it is not done
pub refused_for_memory : (items : List Item) (next : ℕ) (sorts : List ℕ) (symbol : Option (List ℕ)) (b : Body) (e : PushFault) → IsKept items next sorts → length items < 1048576 → IsSound items b
    → (refusal items (named next symbol b) ≡ Some e) ⊎ ((refusal items (named next symbol b) ≡ None) × (e ≡ fault.NoMemory)) → e ≡ fault.NoMemory
refused_for_memory items next sorts symbol b e h few sound answer =
    ⊎_elim (λ refused. absurd (none-some e (sym (accepted items next sorts symbol b h few sound) ∙ refused))) (λ memory. memory.1) answer
