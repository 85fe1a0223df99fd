use Rattle.std.proofs.Common.{◌≡◌, ℕ, true, is_some, IfSome, slice_get, get_or, Option, ap, sym, subst, ◌∙◌, arith}
use Rattle.std.proofs.lemmas.List.{get_or_read}
use Rattle.btor2.specs.declared.item.Item.{Item}
use Rattle.btor2.specs.Lists.{width_at}
use Rattle.btor2.specs.Trace.{Frame}
use Rattle.runs.specs.Run.{Run, IsNow}
use Rattle.runs.proofs.ReadLemmas.{node_reads}
use Rattle.runs.proofs.word_run.WordRun.value.Goals as goal

pub index-requires-2 : goal.index-requires-2
index-requires-2 c =
    let there = subst (λ (r : Run). is_some (width_at r.items c.args.node) ≡ true) (sym c.self.view_is) c.requires.there in
    let done = subst (λ (r : Run). r.settled ≡ true) (sym c.self.view_is) c.requires.settled in
    let node = node_reads _ _ _ _ _ _ _ _ _ _ _ c.self.invariant done c.args.node there in
    let place = get_or_read c.self.inside.slots c.args.node c.index.result.now node.inside_slots c.index.ensures 0 in
    omega (arith, place, node.reads.inside)

pub returns : goal.returns
returns c =
    let there = subst (λ (r : Run). is_some (width_at r.items c.args.node) ≡ true) (sym c.self.view_is) c.requires.there in
    let done = subst (λ (r : Run). r.settled ≡ true) (sym c.self.view_is) c.requires.settled in
    let node = node_reads _ _ _ _ _ _ _ _ _ _ _ c.self.invariant done c.args.node there in
    let place = get_or_read c.self.inside.slots c.args.node c.index.result.now node.inside_slots c.index.ensures 0 in
    let word = get_or_read c.self.inside.values c.index.result.now c.index-2.result.now (omega (arith, place, node.reads.inside)) c.index-2.ensures 0 in
    subst (λ (r : Run). (f : Frame) → IsNow r f → IfSome (slice_get r.items c.args.node) (λ x. c.index-2.result.now ≡ f x.id)) c.self.view_is
    (λ f frame. subst (λ (o : Option Item). IfSome o (λ x. c.index-2.result.now ≡ f x.id)) (sym node.at)
    (word ∙ ap (λ (p : ℕ). get_or c.self.inside.values p 0) place ∙ node.reads.word f frame))
