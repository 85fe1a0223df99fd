use Rattle.std.proofs.Common.{rules, ◌≡◌, ◌/◌, ◌%◌, nat_eq, cond, Some, slice_set, length, replicate, ap, refl, ◌∙◌}
use Rattle.std.specs.HashMap.{get}
use Rattle.aigerlists.specs.VariableNumbers.{in_page}
use Rattle.aigerlists.proofs.VariablePagesLemmas.{after_page, zeros}
use Rattle.aigerlists.proofs.variable_pages.VariablePages.set.Goals as goal

pub returns-in-Some-clause-set : goal.returns-in-Some-clause-set
unfolding in_page
returns-in-Some-clause-set c =
    let size : length c.in-Some.page.now ≡ 16 = search rules in
    let written = c.get_mut.follows.holds (slice_set c.in-Some.page.now (c.args.variable % 16) c.args.number) in
    let there = c.in-Some.ensures.value in
    after_page (get nat_eq c.args.self.now.pages) (get nat_eq (c.get_mut.follows.lender (slice_set c.in-Some.page.now (c.args.variable % 16) c.args.number))) c.in-Some.page.now c.args.variable c.args.number
    (written.3 (rw (← there) refl)).0 (λ i. ap (λ p. in_page p i) there) size

pub returns-in-Ok-clause-set : goal.returns-in-Ok-clause-set
unfolding in_page
returns-in-Ok-clause-set c =
    let page = slice_set (replicate 16 0) (c.args.variable % 16) c.args.number in
    after_page (get nat_eq c.args.self.now.pages) (get nat_eq c.insert.new.self) (replicate 16 0) c.args.variable c.args.number
    (λ q. c.in-Ok.ensures.updates.0 q ∙ ap (λ m. cond (nat_eq (c.args.variable / 16) q) (Some page) (get nat_eq m q)) c.get_mut.follows.holds-at-none)
    (λ i. zeros 16 i ∙ ap (λ p. in_page p i) c.in_default.ensures.value) refl
