use Rattle.std.proofs.Common.{◌≡◌, ℕ, ◌+◌, ◌-◌, ◌*◌, ◌%◌, ◌^◌, ◌<◌, ◌≤◌, [], ◌∷◌, Some, IfOk, inl, inr, refl, sym, subst, arith}
use Rattle.btor2.specs.Items.{node_width}
use Rattle.full.specs.Cells.{read_value}
use Rattle.full.specs.Gives.{GivesWord}
use Rattle.cells.proofs.LineLemmas.{node_stays, extends_twice}
use Rattle.cells.proofs.ReadLemmas.{one_read, half_read}
use Rattle.cells.proofs.maker.ListMaker.+read_low.Goals as goal

pub returns-then-bits-eq0-clause-node : goal.returns-then-bits-eq0-clause-node
returns-then-bits-eq0-clause-node t c =
    let none : c.args.bits ≡ 0 = c.if-bits-eq0.true in
    subst (λ (b : ℕ). GivesWord c.args.self.now c.args.element (λ g. read_value c.args.element (g c.args.array) (g c.args.index % 2 ^ b)) c.args.array) (sym none)
    (one_read c.args.self.now c.args.array c.args.index c.args.element (subst (λ (b : ℕ). node_width c.args.self.now c.args.array ≡ Some (2 ^ b * c.args.element)) none c.requires.array))

pub read_low-requires : goal.read_low-requires
read_low-requires t c =
    let is : c.args.bits - 1 + 1 ≡ c.args.bits = omega (arith, c.if-bits-eq0.false) in
    let falls : c.args.bits - 1 < t = omega (arith, is, c.decreases) in
    let within : c.args.bits - 1 ≤ c.args.width = omega (arith, is, c.requires.within) in
    (falls, (c.in_ok-half.ensures.wide, (node_stays c.args.self.now c.chosen_half.new.self (c.args.array ∷ c.args.index ∷ []) c.args.index c.args.width c.in_ok-half.ensures.extends c.requires.index, (within, c.in_ok-half.ensures.new.1))))

pub returns-clause-node : goal.returns-clause-node
returns-clause-node t c =
    let is : c.args.bits - 1 + 1 ≡ c.args.bits = omega (arith, c.if-bits-eq0.false) in
    subst (λ (b : ℕ). IfOk c.read_low.result (GivesWord c.read_low.new.self c.args.element (λ g. read_value c.args.element (g c.args.array) (g c.args.index % 2 ^ b)))) is
    (half_read c.chosen_half.new.self c.read_low.new.self (c.in_ok-half.half ∷ c.args.index ∷ []) c.args.array c.in_ok-half.half c.args.index (c.args.bits - 1) c.args.element c.read_low.result c.read_low.ensures.extends c.in_ok-half.ensures.reads c.read_low.ensures.node)

pub returns-clause-extends : goal.returns-clause-extends
returns-clause-extends t c =
    extends_twice c.args.self.now c.chosen_half.new.self c.read_low.new.self (c.args.array ∷ c.args.index ∷ []) (c.in_ok-half.half ∷ c.args.index ∷ []) c.in_ok-half.ensures.extends c.read_low.ensures.extends (inl c.in_ok-half.ensures.new.0, (inr (inr (inl refl)), tt))
