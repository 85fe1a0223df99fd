use Rattle.std.proofs.Common.{◌≡◌, ℕ, ◌<◌, refl, sym, subst, ◌∙◌}
use Rattle.fullmodel.specs.Lines.{line_of}
use Rattle.full.specs.Runs.{at_place}
use Rattle.writeout.specs.Nodes.{IsWritten}
use Rattle.writeout.specs.Tables.{writing}
use Rattle.writeout.specs.Writings.{IsGiven}
use Rattle.writeout.proofs.PlaceLemmas.{at_here, other_than}
use Rattle.writeout.proofs.WholeLemmas.{put_at, put_nothing}
use Rattle.writeout.proofs.putting.put_node.Goals as goal

pub line_node-requires : goal.line_node-requires
line_node-requires c =
    let within = subst (λ (n : ℕ). c.args.place < n) (sym c.requires.stands.leaves_length) c.requires.within in (
      c.requires.stands,
      (
        c.line_at-line.ensures.at,
        (
          refl,
          (
            c.know_id.ensures,
            (
              c.line_at-line.ensures.form,
              (at_here c.args.tables.now.leaves.items c.args.place c.index-leaf.result.now within c.index-leaf.ensures, c.requires.done (line_of c.line_at-line.result.now) c.line_at-line.ensures.at),
            ),
          ),
        ),
      ),
    )

pub returns-then-index-ne0 : goal.returns-then-index-ne0
returns-then-index-ne0 c =
    let w = writing c.args.tables.now c.args.maker.now in
    let within = subst (λ (n : ℕ). c.args.place < n) (sym c.requires.stands.nodes_length) c.requires.within in
    put_nothing c.args.full.now w c.args.place c.requires.stands
    (subst (λ (n : ℕ). IsGiven n) (at_here c.args.tables.now.nodes.items c.args.place c.index.result.now within c.index.ensures) (other_than c.index.result.now c.if-index-ne0.true))

pub returns : goal.returns
returns c =
    let w = writing c.args.tables.now c.args.maker.now in
    let x = line_of c.line_at-line.result.now in
    let within = subst (λ (n : ℕ). c.args.place < n) (sym c.requires.stands.nodes_length) c.requires.within in
    let within_leaves = subst (λ (n : ℕ). c.args.place < n) (sym c.requires.stands.leaves_length) c.requires.within in
    let none : at_place w.nodes c.args.place ≡ 0 = sym (at_here c.args.tables.now.nodes.items c.args.place c.index.result.now within c.index.ensures) ∙ c.if-index-ne0.false in
    let leaf = at_here c.args.tables.now.leaves.items c.args.place c.index-leaf.result.now within_leaves c.index-leaf.ensures in
    put_at c.args.full.now w c.line_node.new.maker c.args.place x c.in_ok-a.a c.line_at-line.ensures.at none c.requires.stands
    (subst (λ (l : ℕ). IsWritten c.args.full.now w c.line_node.new.maker x l c.in_ok-a.a) leaf c.in_ok-a.ensures)
