use Rattle.std.proofs.Common.{ap, ◌∙◌, nat_eq, cond, Some}
use Rattle.std.specs.HashMap.{get}
use Rattle.aigerlists.specs.Definitions.{is_marked, word_of}
use Rattle.aigerlists.proofs.VariablePagesLemmas.{after_turn, word_or_zero}
use Rattle.aigerlists.proofs.definitions.Definitions.turn_to.Goals as goal

pub returns-in-Ok-clause-same : goal.returns-in-Ok-clause-same
returns-in-Ok-clause-same c =
    after_turn (word_of c.args.self.now) (λ q. cond (nat_eq c.args.place q) (Some c.unwrap_or-word.result) (get nat_eq c.insert.new.self q)) c.args.place c.unwrap_or-word.result
    (λ q. ap (λ m. cond (nat_eq c.args.place q) (Some c.unwrap_or-word.result) m) (c.in-Ok.ensures.updates.0 q))
    (λ i. ap (λ n. is_marked (Some n) i) c.unwrap_or-word.ensures ∙ (word_or_zero c.word.result i ∙ ap (λ m. is_marked m i) c.word.ensures))
