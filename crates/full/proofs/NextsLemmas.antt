-- Of a list that a model is written out as, each state with an init line has a next line.
use Rattle.std.proofs.Common.{◌≡◌, ℕ, Bool, true, false, cond, ◌&&◌, List, [], ◌∷◌, Option, Some, None, is_some, is_none, refl, ap, subst, ◌∙◌, ⊎_elim}
use Rattle.std.specs.List.{AllByRecursion}
use Rattle.btor2.specs.declared.item.Item.{Item}
use Rattle.btor2.specs.declared.item.Body.{Body}
use Rattle.btor2.specs.declared.item.Body.TheVariants as body
use Rattle.btor2.specs.Items.{is_state, init_value, next_value}
use Rattle.btor2.specs.Lists.{has_init_without_next, first_init_without_next}
use Rattle.btor2.proofs.AppendLemmas.{is_some_from}
use Rattle.full.specs.Lines.{Operand, FullLine, init_of}
use Rattle.full.specs.Agreement.{names_full_state}
use Rattle.full.specs.WrittenOut.{Places, IsNoOther, IsAsItIs, IsByFirstWord, InitIsWritten, IsWrittenOut}
use Rattle.full.proofs.ListLemmas.{all_with}
use Rattle.full.proofs.FullLookUps.{init_said}
use Rattle.full.proofs.PlaceLemmas.{placed, first_stands}

no_init : (wide : List Item) (w : ℕ) → init_value wide w ≡ None → has_init_without_next wide w ≡ false
no_init wide w e = ap (λ (o : Option ℕ). is_some o && is_none (next_value wide w)) e

a_next : (wide : List Item) (w : ℕ) → is_some (next_value wide w) ≡ true → has_init_without_next wide w ≡ false
a_next wide w h = by (init_value wide w) (next_value wide w) h
  where
    by : (i n : Option ℕ) → is_some n ≡ true → (is_some i && is_none n) ≡ false
    by i None h = absurd (cc)
    by None (Some n) h = refl
    by (Some v) (Some n) h = refl

leaf_lacks_none : (full : List FullLine) (p : Places) (wide : List Item) (id : ℕ) → IsWrittenOut full p wide → names_full_state full id ≡ true → has_init_without_next wide (p.leaf id) ≡ false
leaf_lacks_none full p wide id h names = by (init_of full id) refl
  where
    by : (o : Option Operand) → init_of full id ≡ o → has_init_without_next wide (p.leaf id) ≡ false
    by None e = no_init wide (p.leaf id) ((placed full p wide id h names).no_init e).1
    by (Some o) e =
        ⊎_elim (λ (same : IsAsItIs full p wide id o). a_next wide (p.leaf id) same.goes_on) (λ (choice : IsByFirstWord full p wide id o). no_init wide (p.leaf id) choice.begins_open)
        (init_said (InitIsWritten full p wide) full id o h.inits e)

Lacks : List Item → ℕ → Body → Type 0
Lacks wide w b = is_state b ≡ true → has_init_without_next wide w ≡ false

state_lacks_none : (full : List FullLine) (p : Places) (wide : List Item) (w : ℕ) (b : Body) → IsWrittenOut full p wide → IsNoOther full p w b → Lacks wide w b
unfolding Lacks
state_lacks_none full p wide w (body.State s) h is = λ e.
    ⊎_elim (λ first. let alone = first_stands full p wide w h first in a_next wide w (is_some_from (next_value wide w) alone.next.0 alone.next.1))
    (λ other. subst (λ (v : ℕ). has_init_without_next wide v ≡ false) other.1 (leaf_lacks_none full p wide (p.source w) h other.0)) is
state_lacks_none full p wide w _ h is = λ e. absurd (cc)

none_lacks : (wide xs : List Item) → AllByRecursion (λ (x : Item). Lacks wide x.id x.body) xs → first_init_without_next wide xs ≡ None
unfolding Lacks
none_lacks wide [] h = refl
none_lacks wide (x ∷ xs) h = by (is_state x.body) h.0 (none_lacks wide xs h.1)
  where
    by : (b : Bool) → (b ≡ true → has_init_without_next wide x.id ≡ false) → first_init_without_next wide xs ≡ None → cond (b && has_init_without_next wide x.id) (Some x.id) (first_init_without_next wide xs) ≡ None
    by true own rest = ap (λ (c : Bool). cond c (Some x.id) (first_init_without_next wide xs)) (own refl) ∙ rest
    by false own rest = rest

pub each_has_next : (full : List FullLine) (p : Places) (wide : List Item) → IsWrittenOut full p wide → first_init_without_next wide wide ≡ None
each_has_next full p wide h =
    none_lacks wide wide (all_with (λ (x : Item). IsNoOther full p x.id x.body) (λ (x : Item). Lacks wide x.id x.body) wide (λ x is. state_lacks_none full p wide x.id x.body h is) h.no_others)
