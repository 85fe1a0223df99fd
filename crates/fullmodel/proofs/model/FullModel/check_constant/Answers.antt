use Rattle.std.proofs.Common.{◌≤◌, sym, subst, ◌∙◌}
use Rattle.wide.specs.WideModels.{greatest_width}
use Rattle.fullmodel.proofs.AcceptedLemmas.{words_size}
use Rattle.fullmodel.proofs.model.FullModel.check_constant.Goals as goal

pub constant_fits-requires-clause-least : goal.constant_fits-requires-clause-least
constant_fits-requires-clause-least c = subst (λ n. 1 ≤ n) (sym c.width_in.ensures) (words_size c.sort_at-kept.result c.sort_at-kept.ensures.size (sym c.is_words.ensures ∙ c.if-not-is_words.false)).0

pub constant_fits-requires-clause-most : goal.constant_fits-requires-clause-most
constant_fits-requires-clause-most c = subst (λ n. n ≤ greatest_width) (sym c.width_in.ensures) (words_size c.sort_at-kept.result c.sort_at-kept.ensures.size (sym c.is_words.ensures ∙ c.if-not-is_words.false)).1
