use Rattle.std.proofs.Common.{◌≡◌, true, ap, arith}
use Rattle.btor2.specs.Items.{is_input, is_state}
use Rattle.blast.proofs.PlacedRows.{is_plain}
use Rattle.std.proofs.lemmas.Result.{IfOk-weaker}
use Rattle.blast.proofs.NodeRows.{UnaryStands-at, BinaryStands-at, MakesRow-input, MakesRow-state, MakesRow-unary, MakesRow-binary, form_fits}
use Rattle.blast.proofs.PlacedRows.{row_there, own_wide, UextStands-at, SextStands-at, SliceStands-at, ConcatStands-at, IteStands-at, MakesRow-uext, MakesRow-sext, MakesRow-slice, MakesRow-concat, MakesRow-ite, MakesRow-plain, plain_from, plain_next}
use Rattle.blast.proofs.nodes.line_row.Goals as goal

pub unary_row-requires-clause-operand : goal.unary_row-requires-clause-operand
unary_row-requires-clause-operand g c =
    (UnaryStands-at c.args.model.now c.args.place (g.G.Gates.made c.args.gates.now) c.args.table.now c.args.next.now c.args.item.now c.in-Unary.operator c.in-Unary.sort c.in-Unary.operand c.requires.well_formed c.requires.front c.requires.at c.in-Unary.is).operand

pub unary_row-requires-clause-fits : goal.unary_row-requires-clause-fits
unary_row-requires-clause-fits g c =
    form_fits c.args.model.now c.args.place (g.G.Gates.made c.args.gates.now) c.args.table.now c.args.next.now c.args.item.now _ c.requires.front c.requires.at c.requires.fits c.in-Unary.is

pub binary_row-requires-clause-left : goal.binary_row-requires-clause-left
binary_row-requires-clause-left g c =
    (BinaryStands-at c.args.model.now c.args.place (g.G.Gates.made c.args.gates.now) c.args.table.now c.args.next.now c.args.item.now c.in-Binary.operator c.in-Binary.sort c.in-Binary.left c.in-Binary.right c.requires.well_formed c.requires.front c.requires.at c.in-Binary.is).left

pub binary_row-requires-clause-right : goal.binary_row-requires-clause-right
binary_row-requires-clause-right g c =
    (BinaryStands-at c.args.model.now c.args.place (g.G.Gates.made c.args.gates.now) c.args.table.now c.args.next.now c.args.item.now c.in-Binary.operator c.in-Binary.sort c.in-Binary.left c.in-Binary.right c.requires.well_formed c.requires.front c.requires.at c.in-Binary.is).right

pub binary_row-requires-clause-equal : goal.binary_row-requires-clause-equal
binary_row-requires-clause-equal g c =
    (BinaryStands-at c.args.model.now c.args.place (g.G.Gates.made c.args.gates.now) c.args.table.now c.args.next.now c.args.item.now c.in-Binary.operator c.in-Binary.sort c.in-Binary.left c.in-Binary.right c.requires.well_formed c.requires.front c.requires.at c.in-Binary.is).equal

pub binary_row-requires-clause-of_bits : goal.binary_row-requires-clause-of_bits
binary_row-requires-clause-of_bits g c =
    (BinaryStands-at c.args.model.now c.args.place (g.G.Gates.made c.args.gates.now) c.args.table.now c.args.next.now c.args.item.now c.in-Binary.operator c.in-Binary.sort c.in-Binary.left c.in-Binary.right c.requires.well_formed c.requires.front c.requires.at c.in-Binary.is).of_bits

pub binary_row-requires-clause-fits : goal.binary_row-requires-clause-fits
binary_row-requires-clause-fits g c =
    form_fits c.args.model.now c.args.place (g.G.Gates.made c.args.gates.now) c.args.table.now c.args.next.now c.args.item.now _ c.requires.front c.requires.at c.requires.fits c.in-Binary.is

pub input_row-requires-clause-input : goal.input_row-requires-clause-input
input_row-requires-clause-input g c = ap is_input c.in-Input.is

pub state_row-requires-clause-state : goal.state_row-requires-clause-state
state_row-requires-clause-state g c = ap is_state c.in-State.is

pub returns-in-Input-clause-ok : goal.returns-in-Input-clause-ok
returns-in-Input-clause-ok g c =
    MakesRow-input c.args.model.now c.args.place (g.G.Gates.made c.args.gates.now) c.args.table.now c.args.next.now c.args.item.now c.in-Input.sort c.input_row.result.items c.requires.well_formed c.requires.front c.requires.at c.in-Input.is c.input_row.ensures.bits

pub returns-in-State-clause-ok : goal.returns-in-State-clause-ok
returns-in-State-clause-ok g c =
    MakesRow-state c.args.model.now c.args.place (g.G.Gates.made c.args.gates.now) c.args.table.now c.args.next.now c.args.item.now c.in-State.sort c.state_row.result.items c.requires.well_formed c.requires.front c.requires.at c.in-State.is c.state_row.ensures.bits

pub returns-in-Unary-clause-ok : goal.returns-in-Unary-clause-ok
returns-in-Unary-clause-ok g c =
    let made = g.G.Gates.made in
    IfOk-weaker c.unary_row.result _ _ (λ row m. MakesRow-unary c.args.model.now c.args.place (made c.args.gates.now) (made c.unary_row.new.gates) c.args.table.now c.args.next.now c.args.item.now c.in-Unary.operator c.in-Unary.sort c.in-Unary.operand row.items c.requires.well_formed c.requires.front c.requires.at c.in-Unary.is m) c.unary_row.ensures.ok

pub returns-in-Binary-clause-ok : goal.returns-in-Binary-clause-ok
returns-in-Binary-clause-ok g c =
    let made = g.G.Gates.made in
    IfOk-weaker c.binary_row.result _ _ (λ row m. MakesRow-binary c.args.model.now c.args.place (made c.args.gates.now) (made c.binary_row.new.gates) c.args.table.now c.args.next.now c.args.item.now c.in-Binary.operator c.in-Binary.sort c.in-Binary.left c.in-Binary.right row.items c.requires.well_formed c.requires.front c.requires.at c.in-Binary.is m) c.binary_row.ensures.ok

pub ite_row-requires-clause-condition : goal.ite_row-requires-clause-condition
ite_row-requires-clause-condition g c = (IteStands-at c.args.model.now c.args.place (g.G.Gates.made c.args.gates.now) c.args.table.now c.args.next.now c.args.item.now c.in-Ite.sort c.in-Ite.condition c.in-Ite.first c.in-Ite.second c.requires.well_formed c.requires.front c.requires.at c.in-Ite.is).condition

pub ite_row-requires-clause-first : goal.ite_row-requires-clause-first
ite_row-requires-clause-first g c = (IteStands-at c.args.model.now c.args.place (g.G.Gates.made c.args.gates.now) c.args.table.now c.args.next.now c.args.item.now c.in-Ite.sort c.in-Ite.condition c.in-Ite.first c.in-Ite.second c.requires.well_formed c.requires.front c.requires.at c.in-Ite.is).first

pub ite_row-requires-clause-second : goal.ite_row-requires-clause-second
ite_row-requires-clause-second g c = (IteStands-at c.args.model.now c.args.place (g.G.Gates.made c.args.gates.now) c.args.table.now c.args.next.now c.args.item.now c.in-Ite.sort c.in-Ite.condition c.in-Ite.first c.in-Ite.second c.requires.well_formed c.requires.front c.requires.at c.in-Ite.is).second

pub ite_row-requires-clause-one : goal.ite_row-requires-clause-one
ite_row-requires-clause-one g c = (IteStands-at c.args.model.now c.args.place (g.G.Gates.made c.args.gates.now) c.args.table.now c.args.next.now c.args.item.now c.in-Ite.sort c.in-Ite.condition c.in-Ite.first c.in-Ite.second c.requires.well_formed c.requires.front c.requires.at c.in-Ite.is).one

pub ite_row-requires-clause-equal : goal.ite_row-requires-clause-equal
ite_row-requires-clause-equal g c = (IteStands-at c.args.model.now c.args.place (g.G.Gates.made c.args.gates.now) c.args.table.now c.args.next.now c.args.item.now c.in-Ite.sort c.in-Ite.condition c.in-Ite.first c.in-Ite.second c.requires.well_formed c.requires.front c.requires.at c.in-Ite.is).equal

pub ite_row-requires-clause-fits : goal.ite_row-requires-clause-fits
ite_row-requires-clause-fits g c = form_fits c.args.model.now c.args.place (g.G.Gates.made c.args.gates.now) c.args.table.now c.args.next.now c.args.item.now _ c.requires.front c.requires.at c.requires.fits c.in-Ite.is

pub returns-in-Ite-clause-ok : goal.returns-in-Ite-clause-ok
returns-in-Ite-clause-ok g c =
    let made = g.G.Gates.made in
    IfOk-weaker c.ite_row.result _ _ (λ row m. MakesRow-ite c.args.model.now c.args.place (made c.args.gates.now) (made c.ite_row.new.gates) c.args.table.now c.args.next.now c.args.item.now c.in-Ite.sort c.in-Ite.condition c.in-Ite.first c.in-Ite.second row.items c.requires.well_formed c.requires.front c.requires.at c.in-Ite.is m) c.ite_row.ensures.ok

pub node_row-requires : goal.node_row-requires
node_row-requires g c = row_there c.args.model.now (g.G.Gates.made c.args.gates.now) c.args.table.now c.in-Uext.operand (UextStands-at c.args.model.now c.args.place (g.G.Gates.made c.args.gates.now) c.args.table.now c.args.next.now c.args.item.now c.in-Uext.sort c.in-Uext.operand c.in-Uext.by c.requires.well_formed c.requires.front c.requires.at c.in-Uext.is).operand

pub uext_row-requires : goal.uext_row-requires
uext_row-requires g c = omega (arith, (UextStands-at c.args.model.now c.args.place (g.G.Gates.made c.args.gates.now) c.args.table.now c.args.next.now c.args.item.now c.in-Uext.sort c.in-Uext.operand c.in-Uext.by c.requires.well_formed c.requires.front c.requires.at c.in-Uext.is).room, own_wide c.args.model.now (g.G.Gates.made c.args.gates.now) c.args.table.now c.in-Uext.operand c.node_row.result.now (UextStands-at c.args.model.now c.args.place (g.G.Gates.made c.args.gates.now) c.args.table.now c.args.next.now c.args.item.now c.in-Uext.sort c.in-Uext.operand c.in-Uext.by c.requires.well_formed c.requires.front c.requires.at c.in-Uext.is).operand c.node_row.ensures)

pub returns-in-Uext-clause-ok : goal.returns-in-Uext-clause-ok
returns-in-Uext-clause-ok g c = MakesRow-uext c.args.model.now c.args.place (g.G.Gates.made c.args.gates.now) c.args.table.now c.args.next.now c.args.item.now c.in-Uext.sort c.in-Uext.operand c.in-Uext.by c.node_row.result.now c.uext_row.result.items c.requires.well_formed c.requires.front c.requires.at c.in-Uext.is c.node_row.ensures c.uext_row.ensures

pub node_row-requires-in-Sext : goal.node_row-requires-in-Sext
node_row-requires-in-Sext g c = row_there c.args.model.now (g.G.Gates.made c.args.gates.now) c.args.table.now c.in-Sext.operand (SextStands-at c.args.model.now c.args.place (g.G.Gates.made c.args.gates.now) c.args.table.now c.args.next.now c.args.item.now c.in-Sext.sort c.in-Sext.operand c.in-Sext.by c.requires.well_formed c.requires.front c.requires.at c.in-Sext.is).operand

pub sext_row-requires-clause-some : goal.sext_row-requires-clause-some
sext_row-requires-clause-some g c = omega (arith, (SextStands-at c.args.model.now c.args.place (g.G.Gates.made c.args.gates.now) c.args.table.now c.args.next.now c.args.item.now c.in-Sext.sort c.in-Sext.operand c.in-Sext.by c.requires.well_formed c.requires.front c.requires.at c.in-Sext.is).operand.some, own_wide c.args.model.now (g.G.Gates.made c.args.gates.now) c.args.table.now c.in-Sext.operand c.node_row-in-Sext.result.now (SextStands-at c.args.model.now c.args.place (g.G.Gates.made c.args.gates.now) c.args.table.now c.args.next.now c.args.item.now c.in-Sext.sort c.in-Sext.operand c.in-Sext.by c.requires.well_formed c.requires.front c.requires.at c.in-Sext.is).operand c.node_row-in-Sext.ensures)

pub sext_row-requires-clause-room : goal.sext_row-requires-clause-room
sext_row-requires-clause-room g c = omega (arith, (SextStands-at c.args.model.now c.args.place (g.G.Gates.made c.args.gates.now) c.args.table.now c.args.next.now c.args.item.now c.in-Sext.sort c.in-Sext.operand c.in-Sext.by c.requires.well_formed c.requires.front c.requires.at c.in-Sext.is).room, own_wide c.args.model.now (g.G.Gates.made c.args.gates.now) c.args.table.now c.in-Sext.operand c.node_row-in-Sext.result.now (SextStands-at c.args.model.now c.args.place (g.G.Gates.made c.args.gates.now) c.args.table.now c.args.next.now c.args.item.now c.in-Sext.sort c.in-Sext.operand c.in-Sext.by c.requires.well_formed c.requires.front c.requires.at c.in-Sext.is).operand c.node_row-in-Sext.ensures)

pub returns-in-Sext-clause-ok : goal.returns-in-Sext-clause-ok
returns-in-Sext-clause-ok g c = MakesRow-sext c.args.model.now c.args.place (g.G.Gates.made c.args.gates.now) c.args.table.now c.args.next.now c.args.item.now c.in-Sext.sort c.in-Sext.operand c.in-Sext.by c.node_row-in-Sext.result.now c.sext_row.result.items c.requires.well_formed c.requires.front c.requires.at c.in-Sext.is c.node_row-in-Sext.ensures c.sext_row.ensures

pub node_row-requires-in-Slice : goal.node_row-requires-in-Slice
node_row-requires-in-Slice g c = row_there c.args.model.now (g.G.Gates.made c.args.gates.now) c.args.table.now c.in-Slice.operand (SliceStands-at c.args.model.now c.args.place (g.G.Gates.made c.args.gates.now) c.args.table.now c.args.next.now c.args.item.now c.in-Slice.sort c.in-Slice.operand c.in-Slice.upper c.in-Slice.lower c.requires.well_formed c.requires.front c.requires.at c.in-Slice.is).operand

pub slice_row-requires-clause-order : goal.slice_row-requires-clause-order
slice_row-requires-clause-order g c = (SliceStands-at c.args.model.now c.args.place (g.G.Gates.made c.args.gates.now) c.args.table.now c.args.next.now c.args.item.now c.in-Slice.sort c.in-Slice.operand c.in-Slice.upper c.in-Slice.lower c.requires.well_formed c.requires.front c.requires.at c.in-Slice.is).order

pub slice_row-requires-clause-within : goal.slice_row-requires-clause-within
slice_row-requires-clause-within g c = omega (arith, (SliceStands-at c.args.model.now c.args.place (g.G.Gates.made c.args.gates.now) c.args.table.now c.args.next.now c.args.item.now c.in-Slice.sort c.in-Slice.operand c.in-Slice.upper c.in-Slice.lower c.requires.well_formed c.requires.front c.requires.at c.in-Slice.is).within, own_wide c.args.model.now (g.G.Gates.made c.args.gates.now) c.args.table.now c.in-Slice.operand c.node_row-in-Slice.result.now (SliceStands-at c.args.model.now c.args.place (g.G.Gates.made c.args.gates.now) c.args.table.now c.args.next.now c.args.item.now c.in-Slice.sort c.in-Slice.operand c.in-Slice.upper c.in-Slice.lower c.requires.well_formed c.requires.front c.requires.at c.in-Slice.is).operand c.node_row-in-Slice.ensures)

pub slice_row-requires-clause-few : goal.slice_row-requires-clause-few
slice_row-requires-clause-few g c = omega (arith, (SliceStands-at c.args.model.now c.args.place (g.G.Gates.made c.args.gates.now) c.args.table.now c.args.next.now c.args.item.now c.in-Slice.sort c.in-Slice.operand c.in-Slice.upper c.in-Slice.lower c.requires.well_formed c.requires.front c.requires.at c.in-Slice.is).operand.most, own_wide c.args.model.now (g.G.Gates.made c.args.gates.now) c.args.table.now c.in-Slice.operand c.node_row-in-Slice.result.now (SliceStands-at c.args.model.now c.args.place (g.G.Gates.made c.args.gates.now) c.args.table.now c.args.next.now c.args.item.now c.in-Slice.sort c.in-Slice.operand c.in-Slice.upper c.in-Slice.lower c.requires.well_formed c.requires.front c.requires.at c.in-Slice.is).operand c.node_row-in-Slice.ensures)

pub returns-in-Slice-clause-ok : goal.returns-in-Slice-clause-ok
returns-in-Slice-clause-ok g c = MakesRow-slice c.args.model.now c.args.place (g.G.Gates.made c.args.gates.now) c.args.table.now c.args.next.now c.args.item.now c.in-Slice.sort c.in-Slice.operand c.in-Slice.upper c.in-Slice.lower c.node_row-in-Slice.result.now c.slice_row.result.items c.requires.well_formed c.requires.front c.requires.at c.in-Slice.is c.node_row-in-Slice.ensures c.slice_row.ensures

pub node_row-requires-in-Concat : goal.node_row-requires-in-Concat
node_row-requires-in-Concat g c = row_there c.args.model.now (g.G.Gates.made c.args.gates.now) c.args.table.now c.in-Concat.high (ConcatStands-at c.args.model.now c.args.place (g.G.Gates.made c.args.gates.now) c.args.table.now c.args.next.now c.args.item.now c.in-Concat.sort c.in-Concat.high c.in-Concat.low c.requires.well_formed c.requires.front c.requires.at c.in-Concat.is).high

pub node_row-requires-in-Concat-2 : goal.node_row-requires-in-Concat-2
node_row-requires-in-Concat-2 g c = row_there c.args.model.now (g.G.Gates.made c.args.gates.now) c.args.table.now c.in-Concat.low (ConcatStands-at c.args.model.now c.args.place (g.G.Gates.made c.args.gates.now) c.args.table.now c.args.next.now c.args.item.now c.in-Concat.sort c.in-Concat.high c.in-Concat.low c.requires.well_formed c.requires.front c.requires.at c.in-Concat.is).low

pub concat_row-requires : goal.concat_row-requires
concat_row-requires g c = omega (arith, (ConcatStands-at c.args.model.now c.args.place (g.G.Gates.made c.args.gates.now) c.args.table.now c.args.next.now c.args.item.now c.in-Concat.sort c.in-Concat.high c.in-Concat.low c.requires.well_formed c.requires.front c.requires.at c.in-Concat.is).room, own_wide c.args.model.now (g.G.Gates.made c.args.gates.now) c.args.table.now c.in-Concat.high c.node_row-in-Concat.result.now (ConcatStands-at c.args.model.now c.args.place (g.G.Gates.made c.args.gates.now) c.args.table.now c.args.next.now c.args.item.now c.in-Concat.sort c.in-Concat.high c.in-Concat.low c.requires.well_formed c.requires.front c.requires.at c.in-Concat.is).high c.node_row-in-Concat.ensures, own_wide c.args.model.now (g.G.Gates.made c.args.gates.now) c.args.table.now c.in-Concat.low c.node_row-in-Concat-2.result.now (ConcatStands-at c.args.model.now c.args.place (g.G.Gates.made c.args.gates.now) c.args.table.now c.args.next.now c.args.item.now c.in-Concat.sort c.in-Concat.high c.in-Concat.low c.requires.well_formed c.requires.front c.requires.at c.in-Concat.is).low c.node_row-in-Concat-2.ensures)

pub returns-in-Concat-clause-ok : goal.returns-in-Concat-clause-ok
returns-in-Concat-clause-ok g c = MakesRow-concat c.args.model.now c.args.place (g.G.Gates.made c.args.gates.now) c.args.table.now c.args.next.now c.args.item.now c.in-Concat.sort c.in-Concat.high c.in-Concat.low c.node_row-in-Concat.result.now c.node_row-in-Concat-2.result.now c.concat_row.result.items c.requires.well_formed c.requires.front c.requires.at c.in-Concat.is c.node_row-in-Concat.ensures c.node_row-in-Concat-2.ensures c.concat_row.ensures

pub returns-in_default : goal.returns-in_default
returns-in_default g c =
    let d = c.in_default in
    let plain : is_plain c.args.item.now.body ≡ true = plain_from c.args.item.now.body d.not-Input d.not-State d.not-Uext d.not-Sext d.not-Slice d.not-Unary d.not-Binary d.not-Concat d.not-Ite in
    record {
      ok = MakesRow-plain c.args.model.now c.args.place (g.G.Gates.made c.args.gates.now) c.args.item.now c.constant_row.result.items c.requires.well_formed c.requires.at plain c.constant_row.ensures;
      next = plain_next c.args.model.now c.args.item.now c.args.next.now plain;
      memory = tt;
    }
