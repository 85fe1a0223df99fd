use Rattle.std.proofs.Common.{◌≡◌, ℕ, ◌+◌, ◌<◌, List, [], length, get_or, sym, ap, subst, ◌∙◌, arith}
use Rattle.std.specs.Prelude.{All}
use Rattle.std.proofs.lemmas.List.{get_or_read}
use Rattle.drup.specs.Hints.{with_clause}
use Rattle.drup.specs.Named.{Kept, clause_of, AreNamed, IsSweptTo}
use Rattle.drup.proofs.NamedLemmas.{on_ok, swept_over, swept_more}
use Rattle.drup.proofs.named.Named.take.Goals as goal

pub returns-then-not-stands : goal.returns-then-not-stands
returns-then-not-stands c =
    let within : c.args.k < length c.named.inside.ids.items = omega (arith, c.requires.inside, c.requires.named.1.as_many, ap (λ (n : Kept). length n.ids) c.named.view_is) in
    let here : get_or c.args.named.now.ids c.args.k 0 ≡ c.index-id.result.now = ap (λ (n : Kept). get_or n.ids c.args.k 0) (sym c.named.view_is) ∙ sym (get_or_read c.named.inside.ids.items c.args.k c.index-id.result.now within c.index-id.ensures 0) in
    swept_over c.args.k c.index-id.result.now c.requires.named.0 c.args.named.now c.args.self.now c.requires.named.1 here c.if-not-stands.ensures c.requires.swept

pub returns : goal.returns
returns c =
    let within : c.args.k < length c.named.inside.ids.items = omega (arith, c.requires.inside, c.requires.named.1.as_many, ap (λ (n : Kept). length n.ids) c.named.view_is) in
    let here : get_or c.args.named.now.ids c.args.k 0 ≡ c.index-id.result.now = ap (λ (n : Kept). get_or n.ids c.args.k 0) (sym c.named.view_is) ∙ sym (get_or_read c.named.inside.ids.items c.args.k c.index-id.result.now within c.index-id.ensures 0) in
    let clause : c.clause.result.now ≡ get_or c.args.named.now.clauses c.args.k [] = c.clause.ensures ∙ ap (λ (n : Kept). get_or n.clauses c.args.k []) c.named.view_is in
    on_ok c.insert.result ((limit i : ℕ) → AreNamed c.args.self.now limit → clause_of c.insert.new.self i ≡ with_clause (clause_of c.args.self.now) c.index-id.result.now c.clause.result.now i) (IsSweptTo (c.args.k + 1) c.args.named.now c.insert.new.self)
    c.insert.ensures.ok
    (λ taken. swept_more c.args.k c.index-id.result.now c.requires.named.0 c.args.named.now c.args.self.now c.insert.new.self c.requires.named.1 c.requires.inside here c.if-not-stands.ensures c.requires.swept
    (λ i. taken c.requires.named.0 i (c.requires.swept.named c.requires.named.0 c.requires.named.1) ∙ ap (λ (x : List ℕ). with_clause (clause_of c.args.self.now) c.index-id.result.now x i) clause)
    (λ limit named below. c.insert.ensures.named limit named (subst (All (λ l. l < limit)) (sym clause) below)) c.insert.ensures.dead)
