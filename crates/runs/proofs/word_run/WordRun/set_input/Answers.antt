use Rattle.std.proofs.Common.{◌≡◌, ◌^◌, ◌<◌, ℕ, length, set, get_or, IfSome, ap, sym, subst, arith, refl}
use Rattle.std.proofs.lemmas.List.{get_or_read}
use Rattle.btor2.specs.Items.{is_input}
use Rattle.btor2.specs.Lists.{places, width_at}
use Rattle.runs.specs.Run.{Run}
use Rattle.runs.proofs.InvariantLemmas.{input_inside, set_input_keeps, run_same}
use Rattle.runs.proofs.word_run.WordRun.set_input.Goals as goal

pub index-requires : goal.index-requires
index-requires c =
    let there = subst (λ (r : Run). c.args.k < length (places is_input 0 r.items)) (sym c.self.view_is) c.requires.there in
    omega (arith, (input_inside _ _ _ _ _ _ _ _ _ _ _ c.self.invariant c.args.k c.args.word there).0)

pub index_mut-requires : goal.index_mut-requires
index_mut-requires c =
    let there = subst (λ (r : Run). c.args.k < length (places is_input 0 r.items)) (sym c.self.view_is) c.requires.there in
    let inside = input_inside _ _ _ _ _ _ _ _ _ _ _ c.self.invariant c.args.k c.args.word there in
    let place : c.index.result.now ≡ get_or c.self.inside.inputs c.args.k 0 = get_or_read c.self.inside.inputs c.args.k c.index.result.now inside.0 c.index.ensures 0 in
    omega (arith, place, inside.1)

pub invariant_of-self : goal.invariant_of-self
invariant_of-self c =
    let there = subst (λ (r : Run). c.args.k < length (places is_input 0 r.items)) (sym c.self.view_is) c.requires.there in
    let fits = subst (λ (r : Run). IfSome (width_at r.items (get_or (places is_input 0 r.items) c.args.k 0)) (λ n. c.args.word < 2 ^ n)) (sym c.self.view_is) c.requires.fits in
    let inside = input_inside _ _ _ _ _ _ _ _ _ _ _ c.self.invariant c.args.k c.args.word there in
    let place = get_or_read c.self.inside.inputs c.args.k c.index.result.now inside.0 c.index.ensures 0 in
    (set_input_keeps _ _ _ _ _ _ _ _ _ _ _ c.self.invariant c.args.k c.args.word there fits _ (ap (λ (s : ℕ). set c.self.inside.values s c.args.word) place)).keeps

pub returns : goal.returns
returns c =
    let there = subst (λ (r : Run). c.args.k < length (places is_input 0 r.items)) (sym c.self.view_is) c.requires.there in
    let fits = subst (λ (r : Run). IfSome (width_at r.items (get_or (places is_input 0 r.items) c.args.k 0)) (λ n. c.args.word < 2 ^ n)) (sym c.self.view_is) c.requires.fits in
    let inside = input_inside _ _ _ _ _ _ _ _ _ _ _ c.self.invariant c.args.k c.args.word there in
    let place = get_or_read c.self.inside.inputs c.args.k c.index.result.now inside.0 c.index.ensures 0 in
    let after = set_input_keeps _ _ _ _ _ _ _ _ _ _ _ c.self.invariant c.args.k c.args.word there fits _ (ap (λ (s : ℕ). set c.self.inside.values s c.args.word) place) in
    rw (← c.self.view_is) (run_same _ _ _ _ _ _ _ _ after.same_words after.set_word refl)
