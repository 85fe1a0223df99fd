use Rattle.std.proofs.Common.{◌≡◌, length, subst, sym, ap, ◌∙◌, arith, List, Bool, ℕ}
use Rattle.btor2.specs.Check.{IsWellFormed}
use Rattle.btor2.specs.Items.{is_input}
use Rattle.btor2.specs.Lists.{places}
use Rattle.witness.specs.WordPlays.{WordPlay, GoesOn, TakesInput, input_given}
use Rattle.witness.proofs.ShapeLemmas.{length-widths}
use Rattle.witness.proofs.WordPartLemmas.{input_taken}
use Rattle.witness.proofs.word_play.WordPlay.take_input.Goals as goal
use Rattle.witness.specs.Texts.{widths_of}
use Rattle.witness.specs.PlainLines.{BeginsAssignment, NoAssignment}

pub plain_assignment-requires : goal.plain_assignment-requires
plain_assignment-requires c = c.self.invariant.2 ∙ sym (ap length (c.as_slice-widths.ensures.value ∙ c.self.invariant.5) ∙ length-widths is_input c.self.inside.model.now)

pub returns-in_err-index-clause-none : goal.returns-in_err-index-clause-none
returns-in_err-index-clause-none c =
    let of_widths : c.as_slice-widths.result.now ≡ widths_of is_input c.args.self.now.items = c.as_slice-widths.ensures.value ∙ (c.self.invariant.5 ∙ ap (λ (q : WordPlay). widths_of is_input q.items) c.self.view_is) in
    let of_flags : c.self.inside.inputs_given ≡ c.args.self.now.inputs_given = ap (λ (q : WordPlay). q.inputs_given) c.self.view_is in
    rw c.from_residual.ensures (subst (λ (ws : List ℕ). NoAssignment ws c.args.self.now.inputs_given c.args.text.now) of_widths (subst (λ (gs : List Bool). NoAssignment c.as_slice-widths.result.now gs c.args.text.now) of_flags c.in_err-index.ensures))

pub returns-clause-line : goal.returns-clause-line
returns-clause-line c =
    let p : WordPlay = c.args.self.now in
    let many : length p.inputs_given ≡ length (places is_input 0 p.items) = subst (λ (q : WordPlay). length q.inputs_given ≡ length (places is_input 0 q.items)) c.self.view_is c.self.invariant.2 in
    let well_formed = subst (λ (q : WordPlay). IsWellFormed q.items) c.self.view_is c.items-items.ensures.well_formed in
    let goes : GoesOn p.run.settled p.run c.go_on.new.run = subst (λ (q : WordPlay). GoesOn q.run.settled q.run c.go_on.new.run) c.self.view_is c.go_on.ensures.goes in
    let of_widths : c.as_slice-widths.result.now ≡ widths_of is_input p.items = c.as_slice-widths.ensures.value ∙ (c.self.invariant.5 ∙ ap (λ (q : WordPlay). widths_of is_input q.items) c.self.view_is) in
    let of_flags : c.self.inside.inputs_given ≡ c.args.self.now.inputs_given = ap (λ (q : WordPlay). q.inputs_given) c.self.view_is in
    let begins = subst (λ (ws : List ℕ). BeginsAssignment ws p.inputs_given c.args.text.now c.in_ok-index.index c.in_ok-index.word c.in_ok-index.rest.now) of_widths
    (subst (λ (gs : List Bool). BeginsAssignment c.as_slice-widths.result.now gs c.args.text.now c.in_ok-index.index c.in_ok-index.word c.in_ok-index.rest.now) of_flags c.in_ok-index.ensures) in
    subst (λ (q : WordPlay). TakesInput p q c.args.text.now c.in_ok-index.rest.now) (sym (c.give_input.ensures ∙ ap (λ (q : WordPlay). input_given (record q { run = c.go_on.new.run }) c.in_ok-index.index c.in_ok-index.word) c.self.view_is))
    (input_taken p c.go_on.new.run c.args.text.now c.in_ok-index.rest.now c.in_ok-index.index c.in_ok-index.word well_formed (omega (arith, many, length-widths is_input p.items)) goes begins)
