use Rattle.std.proofs.Common.{◌≡◌, ℕ, List, [], ◌∷◌, ◌++◌, length, sym, ap₂, subst, ◌∙◌, append-nil, arith}
use Rattle.std.proofs.lemmas.List.Elements.{All-push}
use Rattle.drup.specs.ClauseBlocks.{joined, AreFull}
use Rattle.drup.proofs.ClauseBlockLemmas.{joined_more}
use Rattle.drup.proofs.clause_blocks.make_room.Goals as goal

pub returns-clause-full : goal.returns-clause-full
returns-clause-full c =
    let items : c.push.new.self.items ≡ c.args.full.now.items ++ c.args.last.now ∷ [] = c.in-Ok.ensures.items ∙ ap₂ (λ (xs : List (List (List ℕ))) (x : List (List ℕ)). xs ++ x ∷ []) c.reserve.ensures.items c.replace.ensures.value in
    subst AreFull (sym items) (All-push (λ (block : List (List ℕ)). length block ≡ 1048576) c.args.full.now.items c.args.last.now c.requires.full (omega (arith, c.if-len-lt-BLOCK.false, c.len.ensures, c.requires.last)))

pub returns-clause-same : goal.returns-clause-same
returns-clause-same c =
    let items : c.push.new.self.items ≡ c.args.full.now.items ++ c.args.last.now ∷ [] = c.in-Ok.ensures.items ∙ ap₂ (λ (xs : List (List (List ℕ))) (x : List (List ℕ)). xs ++ x ∷ []) c.reserve.ensures.items c.replace.ensures.value in
    ap₂ (λ (xs : List (List (List ℕ))) (x : List (List ℕ)). joined xs ++ x) items (c.replace.ensures.after ∙ c.new.ensures) ∙ append-nil (joined (c.args.full.now.items ++ c.args.last.now ∷ [])) ∙ joined_more c.args.full.now.items c.args.last.now
