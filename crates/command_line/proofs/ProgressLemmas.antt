-- Words that say an order say it but for whether it is told how far work is.
use Rattle.std.proofs.Common.{◌≡◌, Bool, true, false, ◌&&◌, List, ℕ, refl, sym, ap, subst, ◌∙◌}
use Rattle.invocation.specs.declared.tasks.Order.{Order}
use Rattle.invocation.specs.declared.tasks.Request.{Request}
use Rattle.invocation.specs.declared.tasks.Request.TheVariants as request
use Rattle.wordings.specs.Orders.{Says}
use Rattle.command_line.specs.Requests.{with_progress}

pub told_of : (words : List (List ℕ)) (r : Request) (o p : Order) (b : Bool) → Says words r → r ≡ request.One o → p ≡ record o { tells_progress = b }
    → (told : Bool) × Says words (with_progress told (request.One p))
told_of words r o p b s is same =
    (o.tells_progress, subst (Says words) (is ∙ ap (λ (q : Order). request.One (record q { tells_progress = o.tells_progress })) (sym same)) s)

and_true : (b : Bool) → (b && true) ≡ b
and_true true = refl
and_true false = refl

pub heard_of : (words : List (List ℕ)) (r : Request) (o p : Order) (heard : Bool) → Says words r → r ≡ request.One o
    → p ≡ record o { tells_progress = o.tells_progress && heard } → heard ≡ true → Says words (request.One p)
heard_of words r o p heard s is same true_is =
    let kept : o.tells_progress ≡ (o.tells_progress && heard) = sym (ap (λ b. o.tells_progress && b) true_is ∙ and_true o.tells_progress) in
    subst (Says words) (is ∙ ap (λ (b : Bool). request.One (record o { tells_progress = b })) kept ∙ ap (λ (q : Order). request.One q) (sym same)) s
