use Rattle.std.proofs.Common.{◌≡◌, ℕ, ◌/◌, ◌%◌, ◌*◌, ◌^◌, true, nat_eq, cond, Some, bit_or, ap, sym, ◌∙◌, arith}
use Rattle.std.proofs.lemmas.Bool.Decides.{nat_tests}
use Rattle.std.specs.HashMap.{get}
use Rattle.aigerlists.specs.Definitions.{is_marked, word_of}
use Rattle.aigerlists.proofs.VariablePagesLemmas.{after_mark, written_over}
use Rattle.aigerlists.proofs.definitions.Definitions.add_other.Goals as goal

pub returns-clause-added : goal.returns-clause-added
unfolding is_marked
returns-clause-added c = λ v.
    let d = c.turn_to.new.self in
    let word : ℕ = bit_or d.word (1 * 2 ^ (c.args.variable % 64) % 2 ^ 64) in
    let place : d.place ≡ c.args.variable / 64 = c.in_ok-turn_to.ensures.place in
    let here : nat_eq d.place (c.args.variable / 64) ≡ true = grind (arith, nat_tests) in
    after_mark (word_of d) (λ q. cond (nat_eq d.place q) (Some word) (get nat_eq d.others q)) d.word c.args.variable
    (λ q. written_over (nat_eq d.place q) (Some word) (Some d.word) (get nat_eq d.others q) ∙ ap (λ (p : ℕ). cond (nat_eq p q) (Some word) (word_of d q)) place)
    (λ i. ap (λ b. is_marked (cond b (Some d.word) (get nat_eq d.others (c.args.variable / 64))) i) (sym here))
    v
    ∙ ap (λ b. cond (nat_eq c.args.variable v) true b) (c.in_ok-turn_to.ensures.same (v / 64) (v % 64))
