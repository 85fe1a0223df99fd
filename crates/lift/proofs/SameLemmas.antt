-- Two traces that show the same in each frame are judged alike.
use Rattle.std.proofs.Common.{◌≡◌, ℕ, ◌<◌, List, [], ◌∷◌, Option, Some, None, cond, length, slice_get, refl, sym, ap, subst, ◌∙◌, arith}
use Rattle.base.specs.Shown.{Shown, rises_in_some}
use Rattle.btor2.specs.declared.item.Item.{Item}
use Rattle.witness.specs.Judgements.{Violation, violation_from, first_of, verdict}
use Rattle.witness.proofs.ShownLemmas.{sole_claim}
use Rattle.lift.specs.Verdicts.{latch_states, IsSameVerdict}
use Rattle.lift.proofs.DifferLemmas.{Belongs}

-- one verdict that no initial value differs
one_verdict : (items : List Item) (breach : Option Violation) (unreached : Option ℕ) (frames : ℕ) → IsSameVerdict items (first_of None breach unreached frames) (first_of None breach unreached frames)
one_verdict items (Some v) unreached frames = refl
one_verdict items None (Some i) frames = refl
one_verdict items None None frames = refl

-- by a claim that is there in both
kept_same : (items : List Item) (claim bads nodes : ℕ) (shown : List Shown) → claim < bads → claim < nodes → IsSameVerdict items (verdict None (claim ∷ []) bads shown) (verdict None (claim ∷ []) nodes shown)
kept_same items claim bads nodes shown within inside =
    rw (sole_claim claim bads shown within, sole_claim claim nodes shown inside) (one_verdict items (violation_from 0 shown) (cond (rises_in_some claim shown) None (Some claim)) (length shown))

-- where none differs the traces show the same
pub same_verdict : (items : List Item) (claim bads nodes : ℕ) (latch state : Option ℕ) (bits words : List Shown) → claim < bads → claim < nodes → Belongs (latch_states items) 0 latch state
    → (state ≡ None → words ≡ bits) → IsSameVerdict items (verdict latch (claim ∷ []) bads bits) (verdict state (claim ∷ []) nodes words)
same_verdict items claim bads nodes None state bits words within inside belongs shows =
    let none : state ≡ None = belongs in
    subst (λ (o : Option ℕ). IsSameVerdict items (verdict None (claim ∷ []) bads bits) (verdict o (claim ∷ []) nodes words)) (sym none)
    (subst (λ (shown : List Shown). IsSameVerdict items (verdict None (claim ∷ []) bads bits) (verdict None (claim ∷ []) nodes shown)) (sym (shows none)) (kept_same items claim bads nodes bits within inside))
same_verdict items claim bads nodes (Some l) state bits words within inside belongs shows =
    let at : l ≡ belongs.1 = omega (arith, belongs.2) in
    (belongs.0, (ap (slice_get (latch_states items)) at ∙ belongs.3, ap (λ (o : Option ℕ). verdict o (claim ∷ []) nodes words) belongs.4))
