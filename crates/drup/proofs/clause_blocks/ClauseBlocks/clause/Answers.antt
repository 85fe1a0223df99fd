use Rattle.std.proofs.Common.{◌≡◌, ◌<◌, ℕ, ◌+◌, ◌-◌, ◌*◌, ◌/◌, ◌%◌, ◌++◌, List, [], length, get_or, sym, ap, ◌∙◌, arith, length-append}
use Rattle.std.proofs.lemmas.List.{get_or_read}
use Rattle.drup.specs.ClauseBlocks.{joined}
use Rattle.drup.proofs.ClauseBlockLemmas.{joined_long, block_at, last_at}
use Rattle.drup.proofs.clause_blocks.ClauseBlocks.clause.Goals as goal

pub returns-then-block-len : goal.returns-then-block-len
returns-then-block-len c =
    let inside : c.args.k / 1048576 < length c.self.inside.full.items = omega (arith, c.if-block-len.true, c.len.ensures) in
    let all : 1048576 * (c.args.k / 1048576) + c.args.k % 1048576 ≡ c.args.k = omega arith in
    c.clause.ensures
    ∙ ap (λ (block : List (List ℕ)). get_or block (c.args.k % 1048576) []) (get_or_read c.self.inside.full.items (c.args.k / 1048576) c.index.result.now inside c.index.ensures [])
    ∙ sym (block_at c.self.inside.full.items c.self.inside.last (c.args.k / 1048576) (c.args.k % 1048576) c.self.invariant.full inside (omega arith))
    ∙ ap (λ (n : ℕ). get_or (joined c.self.inside.full.items ++ c.self.inside.last) n []) all
    ∙ ap (λ (cs : List (List ℕ)). get_or cs c.args.k []) c.self.view_is

pub clause-requires-2 : goal.clause-requires-2
clause-requires-2 c =
    omega
    (arith, c.requires, ap (λ (cs : List (List ℕ)). length cs) c.self.view_is, length-append (joined c.self.inside.full.items) c.self.inside.last, joined_long c.self.inside.full.items c.self.invariant.full, c.len-2.ensures, c.len.ensures, c.if-block-len.false)

pub returns : goal.returns
returns c =
    let many : c.len-2.result ≡ length c.self.inside.full.items = omega (arith, c.len-2.ensures) in
    c.clause-2.ensures ∙ ap (λ (n : ℕ). get_or c.self.inside.last (c.args.k - 1048576 * n) []) many
    ∙ sym (last_at c.self.inside.full.items c.self.inside.last c.args.k c.self.invariant.full (omega (arith, c.if-block-len.false, c.len.ensures)))
    ∙ ap (λ (cs : List (List ℕ)). get_or cs c.args.k []) c.self.view_is
