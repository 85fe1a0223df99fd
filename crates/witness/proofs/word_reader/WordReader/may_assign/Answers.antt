use Rattle.std.proofs.Common.{◌≡◌, ℕ, ◌<◌, ◌≤◌, nat_lt, List, Some, length, sym, ap, subst, ◌∙◌, arith}
use Rattle.std.proofs.lemmas.Bool.{ltb-true, false_from_ne_true}
use Rattle.base.specs.Decimals.{number_of}
use Rattle.btor2.specs.Items.{is_state}
use Rattle.btor2.specs.Lists.{places}
use Rattle.btor2.specs.declared.item.Item.{Item}
use Rattle.witness.specs.Texts.{shape_of}
use Rattle.witness.specs.Admits.{cut_at_space}
use Rattle.witness.specs.WordStands.{WordReader}
use Rattle.witness.proofs.StepWords.{names_free}
use Rattle.witness.proofs.WordReaderLemmas.{free_index, no_free_index}
use Rattle.witness.proofs.word_reader.WordReader.may_assign.Goals as goal

pub returns-then-k-states-clause-later : goal.returns-then-k-states-clause-later
returns-then-k-states-clause-later c later =
    let m : List Item = c.model-model.result.now in
    let index : number_of (cut_at_space c.args.line.now).0 ≡ Some c.in-Some.index = sym (c.index_of.ensures) ∙ c.in-Some.is in
    let items : m ≡ c.args.self.now.play.items = c.model-model.ensures.is ∙ ap (λ (q : WordReader). q.play.items) c.self.view_is in
    let below : c.in-Some.index < length (places is_state 0 m) = subst (λ (l : List ℕ). c.in-Some.index < length l) c.states.ensures c.if-k-states.true in
    c.is_free.ensures ∙ (sym (free_index m c.in-Some.index below) ∙ (ap (λ (l : List Item). names_free (shape_of l) (Some c.in-Some.index)) items ∙ ap (names_free (shape_of c.args.self.now.play.items)) (sym index)))

pub returns-else-k-states-clause-later : goal.returns-else-k-states-clause-later
returns-else-k-states-clause-later c later =
    let m : List Item = c.model-model.result.now in
    let index : number_of (cut_at_space c.args.line.now).0 ≡ Some c.in-Some.index = sym (c.index_of.ensures) ∙ c.in-Some.is in
    let items : m ≡ c.args.self.now.play.items = c.model-model.ensures.is ∙ ap (λ (q : WordReader). q.play.items) c.self.view_is in
    let above : length (places is_state 0 m) ≤ c.in-Some.index = subst (λ (l : List ℕ). length l ≤ c.in-Some.index) c.states.ensures (omega arith) in
    false_from_ne_true (nat_lt c.in-Some.index (length c.states.result.now)) (λ e. let below = ltb-true c.in-Some.index (length c.states.result.now) e in omega (arith, below)) ∙ (sym (no_free_index m c.in-Some.index above) ∙ (ap (λ (l : List Item). names_free (shape_of l) (Some c.in-Some.index)) items ∙ ap (names_free (shape_of c.args.self.now.play.items)) (sym index)))
