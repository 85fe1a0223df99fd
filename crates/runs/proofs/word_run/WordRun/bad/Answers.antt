use Rattle.std.proofs.Common.{◌≡◌, ◌<◌, ℕ, true, length, nat_eq, IfSome, slice_get, get_or, Option, ap, sym, subst, ◌∙◌, arith}
use Rattle.std.proofs.lemmas.List.{get_or_read}
use Rattle.btor2.specs.declared.item.Item.{Item}
use Rattle.btor2.specs.Items.{is_bad}
use Rattle.btor2.specs.Lists.{places}
use Rattle.btor2.specs.Trace.{Frame}
use Rattle.runs.specs.Run.{Run, IsNow, is_one}
use Rattle.runs.proofs.ReadLemmas.{bad_reads}
use Rattle.runs.proofs.word_run.WordRun.bad.Goals as goal

pub index-requires : goal.index-requires
index-requires c =
    let there = subst (λ (r : Run). c.args.i < length (places is_bad 0 r.items)) (sym c.self.view_is) c.requires.there in
    let done = subst (λ (r : Run). r.settled ≡ true) (sym c.self.view_is) c.requires.settled in
    omega (arith, (bad_reads _ _ _ _ _ _ _ _ _ _ _ c.self.invariant done c.args.i there).inside_list)

pub index-requires-2 : goal.index-requires-2
index-requires-2 c =
    let there = subst (λ (r : Run). c.args.i < length (places is_bad 0 r.items)) (sym c.self.view_is) c.requires.there in
    let done = subst (λ (r : Run). r.settled ≡ true) (sym c.self.view_is) c.requires.settled in
    let node = bad_reads _ _ _ _ _ _ _ _ _ _ _ c.self.invariant done c.args.i there in
    let place = get_or_read c.self.inside.bads c.args.i c.index.result.now node.inside_list c.index.ensures 0 in
    omega (arith, place, node.reads.inside)

pub returns : goal.returns
returns c =
    let there = subst (λ (r : Run). c.args.i < length (places is_bad 0 r.items)) (sym c.self.view_is) c.requires.there in
    let done = subst (λ (r : Run). r.settled ≡ true) (sym c.self.view_is) c.requires.settled in
    let node = bad_reads _ _ _ _ _ _ _ _ _ _ _ c.self.invariant done c.args.i there in
    let place = get_or_read c.self.inside.bads c.args.i c.index.result.now node.inside_list c.index.ensures 0 in
    let word = get_or_read c.self.inside.values c.index.result.now c.index-2.result.now (omega (arith, place, node.reads.inside)) c.index-2.ensures 0 in
    subst (λ (r : Run). (f : Frame) → IsNow r f → IfSome (slice_get r.items (get_or (places is_bad 0 r.items) c.args.i 0)) (λ x. nat_eq c.index-2.result.now 1 ≡ is_one f x.body)) c.self.view_is
    (λ f frame. subst (λ (o : Option Item). IfSome o (λ x. nat_eq c.index-2.result.now 1 ≡ is_one f x.body)) (sym node.at)
    (ap (λ (w : ℕ). nat_eq w 1) (word ∙ ap (λ (p : ℕ). get_or c.self.inside.values p 0) place ∙ node.reads.word f frame)))
