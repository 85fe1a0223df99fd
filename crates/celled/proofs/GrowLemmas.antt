-- Lists that go on.
use Rattle.std.proofs.Common.{◌≡◌, ℕ, true, List, [], ◌∷◌, ◌++◌, Option, Some, None, option_and_then, append_assoc, append-nil, refl, sym, ap, ap₂, ◌∙◌}
use Rattle.std.specs.Option.{option_or}
use Rattle.btor2.specs.declared.item.Item.{Item}
use Rattle.btor2.specs.declared.item.Body.{Body}
use Rattle.btor2.specs.declared.item.Body.TheVariants as body
use Rattle.btor2.specs.Items.{sort_width, node_width, names_state, constant_of, init_for, next_for, init_value, init_word, next_value}
use Rattle.btor2.proofs.AppendLemmas.{node_width-append, sort_width-append, names_state-append, constant_of-append, then_parts}
use Rattle.full.proofs.ListLemmas.{all_join}
use Rattle.fitting.proofs.GrowLemmas.{init_value-append}
use Rattle.writeout.proofs.LateLemmas.{inits_joined, nexts_joined}
use Rattle.cells.specs.Lines.{is_plain, ArePlain, Extends}
use Rattle.celled.specs.Steps.{GrowsPlain}

-- ---- by plain lines

pub grows_by : (old new : List Item) (handed : List ℕ) → Extends old new handed → GrowsPlain old new
grows_by old new handed e = record { more = e.more; is = e.is; plain = e.plain }

pub grows_by_nothing : (old : List Item) → GrowsPlain old old
grows_by_nothing old = record { more = []; is = sym (append-nil old); plain = tt }

pub grows_twice : (a b c : List Item) → GrowsPlain a b → GrowsPlain b c → GrowsPlain a c
grows_twice a b c e d =
    record {
      more = e.more ++ d.more;
      is = d.is ∙ ap (λ (l : List Item). l ++ d.more) e.is ∙ append_assoc a e.more d.more;
      plain = all_join (λ (x : Item). is_plain x.body ≡ true) e.more d.more e.plain d.plain;
    }

pub node_grown : (old new : List Item) (a n : ℕ) → GrowsPlain old new → node_width old a ≡ Some n → node_width new a ≡ Some n
node_grown old new a n e h = ap (λ (l : List Item). node_width l a) e.is ∙ node_width-append old e.more a n h

pub sort_grown : (old new : List Item) (s n : ℕ) → GrowsPlain old new → sort_width old s ≡ Some n → sort_width new s ≡ Some n
sort_grown old new s n e h = ap (λ (l : List Item). sort_width l s) e.is ∙ sort_width-append old e.more s n h

pub state_grown : (old new : List Item) (p : ℕ) → GrowsPlain old new → names_state old p ≡ true → names_state new p ≡ true
state_grown old new p e h = ap (λ (l : List Item). names_state l p) e.is ∙ names_state-append old e.more p h

-- a plain line is no init and no next line
no_init : (p : ℕ) (b : Body) → is_plain b ≡ true → init_for p b ≡ None
no_init p (body.Init s t v) h = absurd (cc)
no_init p _ h = refl

no_next : (p : ℕ) (b : Body) → is_plain b ≡ true → next_for p b ≡ None
no_next p (body.Next s t v) h = absurd (cc)
no_next p _ h = refl

pub plain_init : (p : ℕ) (more : List Item) → ArePlain more → init_value more p ≡ None
plain_init p [] h = refl
plain_init p (x ∷ xs) h = ap₂ option_or (no_init p x.body h.0) (plain_init p xs h.1)

pub plain_next : (p : ℕ) (more : List Item) → ArePlain more → next_value more p ≡ None
plain_next p [] h = refl
plain_next p (x ∷ xs) h = ap₂ option_or (no_next p x.body h.0) (plain_next p xs h.1)

pub none_or : (o p : Option ℕ) → o ≡ None → p ≡ None → option_or o p ≡ None
none_or o p h k = ap₂ option_or h k

pub init_grown : (old new : List Item) (p : ℕ) → GrowsPlain old new → init_value old p ≡ None → init_value new p ≡ None
init_grown old new p e h = ap (λ (l : List Item). init_value l p) e.is ∙ inits_joined old e.more p ∙ none_or _ _ h (plain_init p e.more e.plain)

pub next_grown : (old new : List Item) (p : ℕ) → GrowsPlain old new → next_value old p ≡ None → next_value new p ≡ None
next_grown old new p e h = ap (λ (l : List Item). next_value l p) e.is ∙ nexts_joined old e.more p ∙ none_or _ _ h (plain_next p e.more e.plain)

-- ---- by any lines

pub init_word_on : (old more : List Item) (p w : ℕ) → init_word old p ≡ Some w → init_word (old ++ more) p ≡ Some w
init_word_on old more p w h =
    let parts = then_parts (constant_of old) (init_value old p) w h in
    ap (option_and_then (constant_of (old ++ more))) (init_value-append old more p parts.0 parts.1) ∙ constant_of-append old more parts.0 w parts.2
