use Rattle.std.proofs.Common.{[], get_or, ap, sym, ◌∙◌}
use Rattle.drup.specs.Marked.{set_of}
use Rattle.drup.specs.Propagation.{OthersNegated}
use Rattle.drup.proofs.PassLemmas.{takes_literal, contained_inside, with_literal-on}
use Rattle.drup.proofs.watches.look.Goals as goal

pub returns-else-has-clause-visited : goal.returns-else-has-clause-visited
returns-else-has-clause-visited c =
    let inside = contained_inside _ _ c.args.other (c.requires.inside c.args.k [] c.requires.number) c.requires.there in
    let off = sym (ap (set_of c.args.trail.now) c.negation.ensures) ∙ sym c.has.ensures ∙ c.if-has.false in
    let others : OthersNegated (get_or c.args.clauses.now c.args.k []) c.args.other (set_of c.args.trail.now) = c.in-None.ensures.answer in (
      (takes_literal (get_or c.args.clauses.now c.args.k []) c.args.trail.now _ c.args.other c.push.ensures c.requires.consistent (c.requires.there, off) others inside),
      with_literal-on c.args.trail.now c.push.new.self c.args.other c.push.ensures inside,
    )
