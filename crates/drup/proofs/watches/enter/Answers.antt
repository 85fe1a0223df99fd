use Rattle.std.proofs.Common.{◌≡◌, ◌≢◌, ◌+◌, ◌/◌, ◌<◌, ℕ, Bool, true, false, List, [], length, get_or, refl, ap, sym, subst, ◌∙◌, arith}
use Rattle.std.specs.Prelude.{Contains}
use Rattle.base.specs.Literal.{negation}
use Rattle.drup.specs.Marked.{Marked, set_of}
use Rattle.drup.specs.Propagation.{OthersNegated}
use Rattle.drup.specs.Lists.{list_at}
use Rattle.drup.specs.Watched.{Watches, Moved, AdvancesWatch, IsMet, clause_at}
use Rattle.drup.proofs.PassLemmas.{contained_inside, Grows-by}
use Rattle.drup.proofs.WatchLemmas.{Dropped, is_dropped, IsWatched-drop, Advances-drop, Advances-keep, IsWatched-move, Advances-move, other_inside, two_negated, on_off, Grows-none, Stays-move}
use Rattle.drup.proofs.watches.enter.Goals as goal

pub returns-then-not-watches-clause-watched : goal.returns-then-not-watches-clause-watched
returns-then-not-watches-clause-watched c =
    let d : Dropped c.args.lists.now c.args.negated c.args.place c.remove.new.self = is_dropped c.args.lists.now c.remove.new.self c.args.negated c.args.place (omega (arith, c.requires.negated, c.requires.watched.many_lists)) c.remove.ensures in
    let watched = subst (λ (b : Bool). Watches c.args.watched.now c.at-watch.result c.args.negated b) c.if-not-watches.true c.watches.ensures in
    let stale : (n : ℕ) → n < length c.args.watched.now → get_or c.args.watched.now n 0 ≡ c.args.negated → get_or (list_at c.args.lists.now c.args.negated) c.args.place 0 ≢ n = λ n h is e. let same : c.at-watch.result ≡ n = c.at-watch.ensures ∙ e in watched (omega arith) (ap (λ (i : ℕ). get_or c.args.watched.now i 0) same ∙ is) in
    IsWatched-drop c.args.clauses.now c.args.watched.now c.args.lists.now (length c.args.trail.now.marks) c.args.negated c.args.place c.requires.watched c.requires.there c.remove.new.self d stale

pub returns-then-not-watches-clause-answer : goal.returns-then-not-watches-clause-answer
returns-then-not-watches-clause-answer c =
    let d : Dropped c.args.lists.now c.args.negated c.args.place c.remove.new.self = is_dropped c.args.lists.now c.remove.new.self c.args.negated c.args.place (omega (arith, c.requires.negated, c.requires.watched.many_lists)) c.remove.ensures in
    let watched = subst (λ (b : Bool). Watches c.args.watched.now c.at-watch.result c.args.negated b) c.if-not-watches.true c.watches.ensures in
    let stale : (n : ℕ) → n < length c.args.watched.now → get_or c.args.watched.now n 0 ≡ c.args.negated → get_or (list_at c.args.lists.now c.args.negated) c.args.place 0 ≢ n = λ n h is e. let same : c.at-watch.result ≡ n = c.at-watch.ensures ∙ e in watched (omega arith) (ap (λ (i : ℕ). get_or c.args.watched.now i 0) same ∙ is) in
    Advances-drop c.args.clauses.now c.args.watched.now c.args.lists.now (length c.args.trail.now.marks) c.args.negated c.args.place c.requires.watched c.requires.there c.remove.new.self c.args.trail.now d stale

pub look-requires-clause-number : goal.look-requires-clause-number
look-requires-clause-number c =
    let watch = c.at-watch.result in
    let is : watch ≡ get_or (list_at c.args.lists.now c.args.negated) c.args.place 0 = c.at-watch.ensures in
    let watched = subst (λ (b : Bool). Watches c.args.watched.now watch c.args.negated b) c.if-not-watches.false c.watches.ensures in
    let inside : watch < length c.args.watched.now = watched.0 in
    let own = other_inside _ _ _ _ watch c.requires.watched inside (omega (arith, watched.1, c.requires.negated)) in
    own.1

pub look-requires-clause-there : goal.look-requires-clause-there
look-requires-clause-there c =
    let watch = c.at-watch.result in
    let is : watch ≡ get_or (list_at c.args.lists.now c.args.negated) c.args.place 0 = c.at-watch.ensures in
    let watched = subst (λ (b : Bool). Watches c.args.watched.now watch c.args.negated b) c.if-not-watches.false c.watches.ensures in
    let inside : watch < length c.args.watched.now = watched.0 in
    let own = other_inside _ _ _ _ watch c.requires.watched inside (omega (arith, watched.1, c.requires.negated)) in
    subst (λ (n : ℕ). Contains (clause_at c.args.clauses.now watch) (get_or c.args.watched.now n 0)) (sym c.negation.ensures) own.4

pub look-requires-clause-two : goal.look-requires-clause-two
look-requires-clause-two c =
    λ two.
    let watch = c.at-watch.result in
    let is : watch ≡ get_or (list_at c.args.lists.now c.args.negated) c.args.place 0 = c.at-watch.ensures in
    let watched = subst (λ (b : Bool). Watches c.args.watched.now watch c.args.negated b) c.if-not-watches.false c.watches.ensures in
    let inside : watch < length c.args.watched.now = watched.0 in
    let low : get_or c.args.watched.now watch 0 < length c.args.trail.now.marks = omega (arith, watched.1, c.requires.negated) in
    let own = other_inside _ _ _ _ watch c.requires.watched inside low in
    let there : Contains (clause_at c.args.clauses.now watch) c.args.negated = subst (λ (l : ℕ). Contains (clause_at c.args.clauses.now watch) l) watched.1 (c.requires.watched.inside watch inside low) in
    let alike : c.args.negated ≡ get_or c.args.watched.now (negation watch) 0 → (i : ℕ) → i < length (clause_at c.args.clauses.now watch) → get_or (clause_at c.args.clauses.now watch) i 0 ≡ c.args.negated = λ e i h. c.requires.watched.differ watch inside (watched.1 ∙ e) i h ∙ watched.1 in
    subst (λ (n : ℕ). OthersNegated (clause_at c.args.clauses.now watch) (get_or c.args.watched.now n 0) (set_of c.args.trail.now)) (sym c.negation.ensures)
    (two_negated (clause_at c.args.clauses.now watch) (get_or c.args.watched.now (negation watch) 0) c.args.negated (set_of c.args.trail.now) two own.4 there alike c.requires.off)

pub move_watch-requires-clause-other : goal.move_watch-requires-clause-other
move_watch-requires-clause-other c =
    let watch = c.at-watch.result in
    let is : watch ≡ get_or (list_at c.args.lists.now c.args.negated) c.args.place 0 = c.at-watch.ensures in
    let watched = subst (λ (b : Bool). Watches c.args.watched.now watch c.args.negated b) c.if-not-watches.false c.watches.ensures in
    let inside : watch < length c.args.watched.now = watched.0 in
    let own = other_inside _ _ _ _ watch c.requires.watched inside (omega (arith, watched.1, c.requires.negated)) in
    let low : c.in-Move.literal < length c.args.trail.now.marks = contained_inside _ _ c.in-Move.literal (c.requires.inside (watch / 2) [] own.1) c.in-Move.ensures.visited.1.0 in
    omega (arith, low, c.requires.watched.many_lists, ap length c.look.ensures.same)

pub returns-in-Conflict-clause-answer : goal.returns-in-Conflict-clause-answer
returns-in-Conflict-clause-answer c =
    let watch = c.at-watch.result in
    let is : watch ≡ get_or (list_at c.args.lists.now c.args.negated) c.args.place 0 = c.at-watch.ensures in
    let watched = subst (λ (b : Bool). Watches c.args.watched.now watch c.args.negated b) c.if-not-watches.false c.watches.ensures in
    let inside : watch < length c.args.watched.now = watched.0 in
    let own = other_inside _ _ _ _ watch c.requires.watched inside (omega (arith, watched.1, c.requires.negated)) in
    (watch / 2, own.2, c.in-Conflict.ensures.visited.1)

pub returns-in-Keep-clause-grows : goal.returns-in-Keep-clause-grows
returns-in-Keep-clause-grows c =
    let watch = c.at-watch.result in
    let is : watch ≡ get_or (list_at c.args.lists.now c.args.negated) c.args.place 0 = c.at-watch.ensures in
    let watched = subst (λ (b : Bool). Watches c.args.watched.now watch c.args.negated b) c.if-not-watches.false c.watches.ensures in
    let inside : watch < length c.args.watched.now = watched.0 in
    let own = other_inside _ _ _ _ watch c.requires.watched inside (omega (arith, watched.1, c.requires.negated)) in
    Grows-by c.args.clauses.now (watch / 2) _ _ _ own.1 refl c.in-Keep.ensures.visited.0

pub returns-in-Keep-clause-answer : goal.returns-in-Keep-clause-answer
returns-in-Keep-clause-answer c =
    let watch = c.at-watch.result in
    let is : watch ≡ get_or (list_at c.args.lists.now c.args.negated) c.args.place 0 = c.at-watch.ensures in
    let watched = subst (λ (b : Bool). Watches c.args.watched.now watch c.args.negated b) c.if-not-watches.false c.watches.ensures in
    let inside : watch < length c.args.watched.now = watched.0 in
    let own = other_inside _ _ _ _ watch c.requires.watched inside (omega (arith, watched.1, c.requires.negated)) in
    let there : Contains (clause_at c.args.clauses.now watch) (get_or c.args.watched.now c.negation.result 0) = subst (λ (n : ℕ). Contains (clause_at c.args.clauses.now watch) (get_or c.args.watched.now n 0)) (sym c.negation.ensures) own.4 in
    subst (λ (lists : List (List ℕ)). AdvancesWatch c.args.clauses.now c.args.negated c.args.place c.args.watched.now c.args.lists.now c.args.trail.now c.args.watched.now lists c.look.new.trail (c.args.place + 1)) (sym c.look.ensures.same) (Advances-keep c.args.clauses.now c.args.watched.now c.args.lists.now (length c.args.trail.now.marks) c.args.negated c.args.place c.requires.watched c.requires.there c.args.trail.now c.look.new.trail c.in-Keep.ensures.visited.0.kept c.in-Keep.ensures.visited.0.prefix
    (subst (λ (n : ℕ). IsMet (clause_at c.args.clauses.now n) c.look.new.trail) is (get_or c.args.watched.now c.negation.result 0, there, c.in-Keep.ensures.visited.1)))

pub returns-in-Ok-clause-watched : goal.returns-in-Ok-clause-watched
returns-in-Ok-clause-watched c =
    let watch = c.at-watch.result in
    let is : watch ≡ get_or (list_at c.args.lists.now c.args.negated) c.args.place 0 = c.at-watch.ensures in
    let watched = subst (λ (b : Bool). Watches c.args.watched.now watch c.args.negated b) c.if-not-watches.false c.watches.ensures in
    let inside : watch < length c.args.watched.now = watched.0 in
    let own = other_inside _ _ _ _ watch c.requires.watched inside (omega (arith, watched.1, c.requires.negated)) in
    let moved : Moved c.args.watched.now c.args.lists.now c.args.negated c.args.place c.in-Move.literal c.move_watch.new.watched c.move_watch.new.lists = subst (λ (lists : List (List ℕ)). Moved c.args.watched.now lists c.args.negated c.args.place c.in-Move.literal c.move_watch.new.watched c.move_watch.new.lists) c.look.ensures.same c.in-Ok.ensures in
    let off : set_of c.args.trail.now (negation c.in-Move.literal) ≡ false = c.in-Move.ensures.visited.1.1 in
    let differs : c.in-Move.literal ≢ c.args.negated = λ e. let on : set_of c.args.trail.now (negation c.in-Move.literal) ≡ true = ap (λ (l : ℕ). set_of c.args.trail.now (negation l)) e ∙ c.requires.off in on_off _ on off in
    IsWatched-move c.args.clauses.now c.args.watched.now c.args.lists.now (length c.args.trail.now.marks) c.args.negated c.args.place c.requires.watched c.requires.there c.in-Move.literal watch c.move_watch.new.watched c.move_watch.new.lists moved (sym is) inside watched.1 differs
    c.in-Move.ensures.visited.1.0 (λ e. c.in-Move.ensures.visited.2 (e ∙ ap (λ (i : ℕ). get_or c.args.watched.now i 0) (sym c.negation.ensures)))
    (contained_inside _ _ c.in-Move.literal (c.requires.inside (watch / 2) [] own.1) c.in-Move.ensures.visited.1.0)

pub returns-in-Ok-clause-answer : goal.returns-in-Ok-clause-answer
returns-in-Ok-clause-answer c =
    let watch = c.at-watch.result in
    let is : watch ≡ get_or (list_at c.args.lists.now c.args.negated) c.args.place 0 = c.at-watch.ensures in
    let watched = subst (λ (b : Bool). Watches c.args.watched.now watch c.args.negated b) c.if-not-watches.false c.watches.ensures in
    let inside : watch < length c.args.watched.now = watched.0 in
    let own = other_inside _ _ _ _ watch c.requires.watched inside (omega (arith, watched.1, c.requires.negated)) in
    let moved : Moved c.args.watched.now c.args.lists.now c.args.negated c.args.place c.in-Move.literal c.move_watch.new.watched c.move_watch.new.lists = subst (λ (lists : List (List ℕ)). Moved c.args.watched.now lists c.args.negated c.args.place c.in-Move.literal c.move_watch.new.watched c.move_watch.new.lists) c.look.ensures.same c.in-Ok.ensures in
    let off : set_of c.args.trail.now (negation c.in-Move.literal) ≡ false = c.in-Move.ensures.visited.1.1 in
    let differs : c.in-Move.literal ≢ c.args.negated = λ e. let on : set_of c.args.trail.now (negation c.in-Move.literal) ≡ true = ap (λ (l : ℕ). set_of c.args.trail.now (negation l)) e ∙ c.requires.off in on_off _ on off in
    subst (λ (m : Marked). AdvancesWatch c.args.clauses.now c.args.negated c.args.place c.args.watched.now c.args.lists.now c.args.trail.now c.move_watch.new.watched c.move_watch.new.lists m c.args.place) (sym c.in-Move.ensures.visited.0)
    (Advances-move c.args.clauses.now c.args.watched.now c.args.lists.now (length c.args.trail.now.marks) c.args.negated c.args.place c.requires.watched c.requires.there c.in-Move.literal watch c.move_watch.new.watched c.move_watch.new.lists moved (sym is) inside watched.1 differs
    c.in-Move.ensures.visited.1.0 (λ e. c.in-Move.ensures.visited.2 (e ∙ ap (λ (i : ℕ). get_or c.args.watched.now i 0) (sym c.negation.ensures)))
    (contained_inside _ _ c.in-Move.literal (c.requires.inside (watch / 2) [] own.1) c.in-Move.ensures.visited.1.0)
    c.args.trail.now c.len.ensures.marked off)

pub returns-in-Ok-clause-grows : goal.returns-in-Ok-clause-grows
returns-in-Ok-clause-grows c = Grows-none c.args.clauses.now c.args.trail.now c.look.new.trail c.in-Move.ensures.visited.0 c.requires.consistent

pub returns-in-Err-clause-grows : goal.returns-in-Err-clause-grows
returns-in-Err-clause-grows c = Grows-none c.args.clauses.now c.args.trail.now c.look.new.trail c.in-Move.ensures.visited.0 c.requires.consistent

pub returns-in-Ok-clause-stays : goal.returns-in-Ok-clause-stays
returns-in-Ok-clause-stays c =
    let off : set_of c.args.trail.now (negation c.in-Move.literal) ≡ false = c.in-Move.ensures.visited.1.1 in
    Stays-move c.args.watched.now c.move_watch.new.watched c.look.new.lists c.move_watch.new.lists c.args.negated c.args.place c.in-Move.literal c.args.trail.now c.in-Ok.ensures off
