use Rattle.std.proofs.Common.{◌≡◌, ◌<◌, ℕ, List, [], ◌∷◌, length, get_or, sym, ap, ◌∙◌, arith}
use Rattle.std.specs.Prelude.{slice_range}
use Rattle.drup.specs.ClauseLists.{start_at}
use Rattle.drup.proofs.ClauseListLemmas.{length-cut_in_turn, cut_in_turn_at, turn_bounds, read_there}
use Rattle.drup.proofs.clause_list.ClauseList.clause.Goals as goal

pub start_of-requires : goal.start_of-requires
start_of-requires c = omega (arith, c.requires, ap (λ (cs : List (List ℕ)). length cs) c.self.view_is, length-cut_in_turn c.self.inside.literals.items c.self.inside.ends.items 0, ap length c.deref-2.ensures.value)

pub index-requires : goal.index-requires
index-requires c = omega (arith, c.requires, ap (λ (cs : List (List ℕ)). length cs) c.self.view_is, length-cut_in_turn c.self.inside.literals.items c.self.inside.ends.items 0)

pub clause_between-requires-clause-order : goal.clause_between-requires-clause-order
clause_between-requires-clause-order c =
    let below : c.args.k < length c.self.inside.ends.items = omega (arith, c.requires, ap (λ (cs : List (List ℕ)). length cs) c.self.view_is, length-cut_in_turn c.self.inside.literals.items c.self.inside.ends.items 0) in
    let start : c.start_of.result ≡ get_or (0 ∷ c.self.inside.ends.items) c.args.k 0 = c.start_of.ensures ∙ ap (λ (es : List ℕ). start_at es c.args.k) c.deref-2.ensures.value in
    let end' : c.index.result.now ≡ get_or c.self.inside.ends.items c.args.k 0 = read_there c.self.inside.ends.items c.args.k c.index.result.now below c.index.ensures in
    omega (arith, start, end', (turn_bounds 0 c.self.inside.ends.items (length c.self.inside.literals.items) c.args.k c.self.invariant below).0)

pub clause_between-requires-clause-inside : goal.clause_between-requires-clause-inside
clause_between-requires-clause-inside c =
    let below : c.args.k < length c.self.inside.ends.items = omega (arith, c.requires, ap (λ (cs : List (List ℕ)). length cs) c.self.view_is, length-cut_in_turn c.self.inside.literals.items c.self.inside.ends.items 0) in
    let end' : c.index.result.now ≡ get_or c.self.inside.ends.items c.args.k 0 = read_there c.self.inside.ends.items c.args.k c.index.result.now below c.index.ensures in
    omega (arith, ap length c.deref.ensures.value, end', (turn_bounds 0 c.self.inside.ends.items (length c.self.inside.literals.items) c.args.k c.self.invariant below).1)

pub returns : goal.returns
returns c =
    let below : c.args.k < length c.self.inside.ends.items = omega (arith, c.requires, ap (λ (cs : List (List ℕ)). length cs) c.self.view_is, length-cut_in_turn c.self.inside.literals.items c.self.inside.ends.items 0) in
    let start : c.start_of.result ≡ get_or (0 ∷ c.self.inside.ends.items) c.args.k 0 = c.start_of.ensures ∙ ap (λ (es : List ℕ). start_at es c.args.k) c.deref-2.ensures.value in
    let end' : c.index.result.now ≡ get_or c.self.inside.ends.items c.args.k 0 = read_there c.self.inside.ends.items c.args.k c.index.result.now below c.index.ensures in
    c.clause_between.ensures ∙ ap (λ (ls : List ℕ). slice_range ls c.start_of.result c.index.result.now) c.deref.ensures.value
    ∙ ap (λ (s : ℕ). slice_range c.self.inside.literals.items s c.index.result.now) start
    ∙ ap (λ (e : ℕ). slice_range c.self.inside.literals.items (get_or (0 ∷ c.self.inside.ends.items) c.args.k 0) e) end'
    ∙ sym (cut_in_turn_at c.self.inside.literals.items c.self.inside.ends.items 0 c.args.k below)
    ∙ ap (λ (cs : List (List ℕ)). get_or cs c.args.k []) c.self.view_is
