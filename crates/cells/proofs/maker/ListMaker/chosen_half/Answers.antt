use Rattle.std.proofs.Common.{◌+◌, ◌*◌, ◌^◌, [], ◌∷◌, inl, inr, refl}
use Rattle.cells.proofs.LineLemmas.{node_stays, extends_wider}
use Rattle.cells.proofs.ReadLemmas.{half_wide, half_reads}
use Rattle.cells.proofs.maker.ListMaker.chosen_half.Goals as goal

pub chosen-requires-clause-array : goal.chosen-requires-clause-array
chosen-requires-clause-array c = half_wide c.args.self.now c.slice.new.self (c.args.index ∷ []) c.args.array c.args.bits c.args.element c.array_width-half.result c.in_ok-bit.ensures.extends c.array_width-half.ensures c.requires.array

pub returns-clause-reads : goal.returns-clause-reads
returns-clause-reads c =
    half_reads c.slice.new.self c.chosen.new.self (c.args.array ∷ c.in_ok-bit.bit ∷ []) c.args.array c.args.index c.in_ok-bit.bit c.args.bits c.args.element c.array_width-half.result c.chosen.result c.know_array.ensures.some c.array_width-half.ensures c.chosen.ensures.extends
    (node_stays c.args.self.now c.slice.new.self (c.args.index ∷ []) c.args.array (2 ^ (c.args.bits + 1) * c.args.element) c.in_ok-bit.ensures.extends c.requires.array) c.in_ok-bit.ensures.node c.chosen.ensures.node

pub returns-clause-extends : goal.returns-clause-extends
returns-clause-extends c =
    extends_wider c.args.self.now c.slice.new.self c.chosen.new.self (c.args.index ∷ []) (c.args.array ∷ c.in_ok-bit.bit ∷ []) (c.args.array ∷ c.args.index ∷ []) c.in_ok-bit.ensures.extends c.chosen.ensures.extends (inr (inr (inl refl)), tt)
    (inr (inl refl), (inl c.in_ok-bit.ensures.new.0, tt))
