use Rattle.std.proofs.Common.{◌≡◌}
use Rattle.fullmodel.specs.FullModels.{minuses_at_words}
use Rattle.fullmodel.proofs.model.FullModel.minuses_at_words.Given as goal

-- what is said of all is said of the rest
abbrev pub invariant-loop-id : goal.invariant-loop-id
invariant-loop-id l = minuses_at_words l.fn.self l.fn.ids l.fn.minuses ≡ minuses_at_words l.fn.self l.id-iterator.a.rest.now l.id-iterator.b.rest.now
