use Rattle.std.proofs.Common.{◌≡◌, ℕ, Bool, List, inl, is_some, subst, sym, ap, ◌∙◌, []}
use Rattle.btor2.specs.Items.{is_state}
use Rattle.wide.specs.Lines.{constant_body, number_of_digits}
use Rattle.full.specs.Lines.{FullLine, Says, form, read, write, is_form, sort_named}
use Rattle.fullmodel.specs.Lines.{says_of, operand_of, HasNoDigits}
use Rattle.writeout.specs.Nodes.{IsWritten}
use Rattle.writeout.specs.Tables.{writing}
use Rattle.writeout.proofs.OperandLemmas.{ok_with}
use Rattle.writeout.proofs.WholeLemmas.{needs_operands}
use Rattle.writeout.proofs.lines.line_node.Goals as goal

pub any_form_node-requires : goal.any_form_node-requires
any_form_node-requires g c =
    let says = ap (λ (x : FullLine). x.says) c.requires.1.1.0 ∙ ap says_of c.in-Form.is ∙ ap (λ (m : List Bool). form c.in-Form.body m) (sym c.as_slice.ensures.value) in
    (c.requires.0, (c.requires.1.0, (ap (λ (x : FullLine). x.id) c.requires.1.1.0, (says, (subst HasNoDigits c.in-Form.is c.requires.1.1.1.1.0, (c.requires.1.1.1.1.1.0, c.requires.1.1.1.1.1.1))))))

pub constant_node-requires : goal.constant_node-requires
constant_node-requires g c =
    let k = c.in-Constant in
    let says =
    ap (λ (x : FullLine). x.says) c.requires.1.1.0 ∙ ap says_of c.in-Constant.is
    ∙ ap (λ (ds : List ℕ). form (constant_body c.in-Constant.spelling c.in-Constant._sort c.in-Constant.count (number_of_digits ds)) []) (sym c.as_slice-in-Constant.ensures.value) in
    (c.requires.0, (record { place = g.at.place; at = c.requires.1.0 }, (ap (λ (x : FullLine). x.id) c.requires.1.1.0, (c.in-Constant._sort, says))))

pub read_node-requires : goal.read_node-requires
read_node-requires g c =
    let says : g.at.line.says ≡ read c.in-Read._sort c.in-Read.array (operand_of c.in-Read.index) = ap (λ (x : FullLine). x.says) c.requires.1.1.0 ∙ ap says_of c.in-Read.is in
    let w = writing c.args.tables.now c.args.maker.now in (
      c.requires.0,
      (
        record { place = g.at.place; at = c.requires.1.0 },
        (
          (c.in-Read._sort, says),
          needs_operands c.args.full.now w g.at.line (ap (is_form is_state) says) (ap (λ (b : Says). is_some (sort_named b)) says) c.requires.1.1.1.1.1.1,
        ),
      ),
    )

pub write_node-requires : goal.write_node-requires
write_node-requires g c =
    let says : g.at.line.says ≡ write c.in-Write._sort c.in-Write.array (operand_of c.in-Write.index) (operand_of c.in-Write.word) = ap (λ (x : FullLine). x.says) c.requires.1.1.0 ∙ ap says_of c.in-Write.is in
    let w = writing c.args.tables.now c.args.maker.now in (
      c.requires.0,
      (
        record { place = g.at.place; at = c.requires.1.0 },
        (
          (c.in-Write._sort, says),
          needs_operands c.args.full.now w g.at.line (ap (is_form is_state) says) (ap (λ (b : Says). is_some (sort_named b)) says) c.requires.1.1.1.1.1.1,
        ),
      ),
    )

pub returns-in-Form : goal.returns-in-Form
returns-in-Form g c = c.any_form_node.ensures

pub returns-in-Constant : goal.returns-in-Constant
returns-in-Constant g c = ok_with _ (IsWritten c.args.full.now (writing c.args.tables.now c.args.maker.now) c.constant_node.new.maker g.at.line c.args.leaf) c.constant_node.result (λ r made. inl (made c.args.leaf)) c.constant_node.ensures

pub returns-in-Read : goal.returns-in-Read
returns-in-Read g c = ok_with _ (IsWritten c.args.full.now (writing c.args.tables.now c.args.maker.now) c.read_node.new.maker g.at.line c.args.leaf) c.read_node.result (λ r made. inl (made c.args.leaf)) c.read_node.ensures

pub returns-in-Write : goal.returns-in-Write
returns-in-Write g c = ok_with _ (IsWritten c.args.full.now (writing c.args.tables.now c.args.maker.now) c.write_node.new.maker g.at.line c.args.leaf) c.write_node.result (λ r made. inl (made c.args.leaf)) c.write_node.ensures
