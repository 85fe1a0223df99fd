use Rattle.std.proofs.Common.{[], ◌∷◌, length, length-append, ap, ◌∙◌, arith}
use Rattle.cells.specs.Lines.{MayName}
use Rattle.cells.proofs.LineLemmas.{node_stays, longer, may_name_all, extends_again}
use Rattle.cells.proofs.BitLemmas.{bits_more, ids_more}
use Rattle.cells.proofs.maker.ListMaker.bits.Goals as goal

pub bit-requires-clause-index : goal.bit-requires-clause-index
bit-requires-clause-index c = node_stays c.args.self.now c.loop-place.self (c.args.index ∷ []) c.args.index c.args.width c.loop-place.invariant.extends c.requires

pub returns-in_err-bit-clause-extends : goal.returns-in_err-bit-clause-extends
returns-in_err-bit-clause-extends c = extends_again c.args.self.now c.loop-place.self c.bit.new.self (c.args.index ∷ []) c.loop-place.invariant.extends c.bit.ensures.extends

pub returns-in_err-keep-clause-extends : goal.returns-in_err-keep-clause-extends
returns-in_err-keep-clause-extends c = extends_again c.args.self.now c.loop-place.self c.bit.new.self (c.args.index ∷ []) c.loop-place.invariant.extends c.bit.ensures.extends

pub loop-place-preserved : goal.loop-place-preserved
loop-place-preserved c =
    let old = c.args.self.now in
    let mid = c.loop-place.self in
    let new = c.bit.new.self in
    let many = c.loop-place.invariant.many in
    let fresh = may_name_all (length old) (length mid) [] [] (c.in_ok-bit.bit.one ∷ c.in_ok-bit.bit.zero ∷ []) (longer old mid (c.args.index ∷ []) c.loop-place.invariant.extends) tt c.in_ok-bit.ensures.new in
    let longer_by = ap length c.in_ok-keep.ensures.ok ∙ length-append c.loop-place.bits.items (c.in_ok-bit.bit ∷ []) in
    record {
      extends = extends_again old mid new (c.args.index ∷ []) c.loop-place.invariant.extends c.bit.ensures.extends;
      bits = bits_more mid new (c.args.index ∷ []) c.args.index c.loop-place.place c.loop-place.bits.items c.keep.new.list.items c.in_ok-bit.bit c.bit.ensures.extends c.loop-place.invariant.bits many c.in_ok-bit.ensures.bit c.in_ok-keep.ensures.ok;
      many = omega (arith, longer_by, many);
      fresh = ids_more (MayName (length old) []) c.loop-place.bits.items c.keep.new.list.items c.in_ok-bit.bit c.loop-place.invariant.fresh fresh.0 fresh.1.0 c.in_ok-keep.ensures.ok;
    }
