use Rattle.std.proofs.Common.{ℕ, ◌*◌, ◌^◌, ◌<◌, ◌≤◌, sym, subst, arith}
use Rattle.pieces.specs.Nodes.{bits_in}
use Rattle.pieces.proofs.ListLemmas.{ok_with}
use Rattle.pieces.proofs.MoveLemmas.{all_bits, fewer_stages}
use Rattle.pieces.proofs.shifts.shifted.Goals as goal

pub barrel-requires-clause-within : goal.barrel-requires-clause-within
barrel-requires-clause-within c = omega (arith, c.bits_of-many.ensures)

pub barrel-requires-clause-small : goal.barrel-requires-clause-small
barrel-requires-clause-small c = fewer_stages c.bits_of-many.result c.stages-count.result (bits_in c.args.a.now) c.if-many-count.true (subst (λ (n : ℕ). 2 ^ c.stages-count.result < 2 * n) c.bits_of-width.ensures c.stages-count.ensures.least)

pub returns-then-many-count-clause-word : goal.returns-then-many-count-clause-word
returns-then-many-count-clause-word c = ok_with _ _ c.barrel.result
    (λ rs h. all_bits c.args.by c.args.maker.now c.barrel.new.maker c.args.a.now c.args.b.now rs.items (bits_in c.args.a.now) c.bits_of-many.result c.requires.b.nodes (sym c.bits_of-many.ensures) c.barrel.ensures.extends h) c.barrel.ensures.word

pub far_shifted-requires-clause-wide : goal.far_shifted-requires-clause-wide
far_shifted-requires-clause-wide c = sym c.bits_of-many.ensures

pub far_shifted-requires-clause-enough : goal.far_shifted-requires-clause-enough
far_shifted-requires-clause-enough c = subst (λ (n : ℕ). n ≤ 2 ^ c.stages-count.result) c.bits_of-width.ensures c.stages-count.ensures.enough

pub far_shifted-requires-clause-small : goal.far_shifted-requires-clause-small
far_shifted-requires-clause-small c = subst (λ (n : ℕ). 2 ^ c.stages-count.result < 2 * n) c.bits_of-width.ensures c.stages-count.ensures.least
