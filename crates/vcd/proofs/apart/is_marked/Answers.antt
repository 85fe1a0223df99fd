use Rattle.std.proofs.Common.{sym, ◌∙◌, arith}
use Rattle.vcd.proofs.NameLemmas.{marked_by_seen, seen_more, seen_same, few_places, ok_both, ok_told}
use Rattle.vcd.proofs.apart.is_marked.Goals as goal

pub returns-then-not-is_in-clause-seen : goal.returns-then-not-is_in-clause-seen
returns-then-not-is_in-clause-seen c = seen_same c.args.shown c.args.model.now c.args.scope c.args.place c.args.item.now c.args.seen.now c.requires.at (sym c.is_in.ensures ∙ c.if-not-is_in.true) c.requires.seen

pub take-requires : goal.take-requires
take-requires c = omega (arith, c.requires.seen.few, few_places c.args.model.now c.args.place c.args.item.now c.requires.well_formed c.requires.at)

pub returns-clause-marked : goal.returns-clause-marked
returns-clause-marked c =
    ok_told c.take.result _ _ (marked_by_seen c.args.shown c.args.model.now c.args.scope c.args.place c.args.item.now c.args.seen.now c.requires.well_formed c.requires.at (sym c.is_in.ensures ∙ c.if-not-is_in.false) c.requires.seen) c.take.ensures.apart

pub returns-clause-seen : goal.returns-clause-seen
returns-clause-seen c =
    ok_both c.take.result _ _ _ (seen_more c.args.shown c.args.model.now c.args.scope c.args.place c.args.item.now c.args.seen.now c.take.new.self c.requires.well_formed c.requires.at (sym c.is_in.ensures ∙ c.if-not-is_in.false) c.requires.seen)
    c.take.ensures.names c.take.ensures.number
