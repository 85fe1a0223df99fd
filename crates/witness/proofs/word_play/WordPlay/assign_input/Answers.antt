use Rattle.std.proofs.Common.{◌≡◌, ◌<◌, Err, ℕ, [], ◌∷◌, ◌++◌, Result, length, refl, sym, ap, ap₂, subst, ◌∙◌, arith, List, Bool}
use Rattle.std.proofs.lemmas.Result.{err_from_is_err_and}
use Rattle.btor2.specs.Check.{IsWellFormed}
use Rattle.btor2.specs.Lists.{places}
use Rattle.btor2.specs.Items.{is_input}
use Rattle.witness.specs.declared.why.Why.{Why}
use Rattle.witness.specs.Texts.{widths_of}
use Rattle.witness.specs.Admits.{assignment_at}
use Rattle.witness.specs.Judgements.{pairs_of}
use Rattle.witness.specs.WordPlays.{WordPlay, GoesOn, Plays, input_given}
use Rattle.witness.proofs.ShapeLemmas.{length-widths}
use Rattle.witness.proofs.WordFieldLemmas.{Tells, assigned_tells}
use Rattle.witness.proofs.WordPartLemmas.{input_plays}
use Rattle.witness.proofs.word_play.WordPlay.assign_input.Goals as goal
use Rattle.witness.specs.WordValues.{assigned}

pub assigned-requires : goal.assigned-requires
assigned-requires c = c.self.invariant.2 ∙ sym (ap length (c.as_slice-widths.ensures.value ∙ c.self.invariant.5) ∙ length-widths is_input c.self.inside.model.now)

pub returns-clause-line : goal.returns-clause-line
returns-clause-line c frames states before plays =
    let p : WordPlay = c.args.self.now in
    let widths = widths_of is_input p.items in
    let of_widths : c.as_slice-widths.result.now ≡ widths_of is_input c.args.self.now.items = c.as_slice-widths.ensures.value ∙ (c.self.invariant.5 ∙ ap (λ (q : WordPlay). widths_of is_input q.items) c.self.view_is) in
    let of_flags : c.self.inside.inputs_given ≡ c.args.self.now.inputs_given = ap (λ (q : WordPlay). q.inputs_given) c.self.view_is in
    let told = subst (λ (o : Result (ℕ × ℕ) Why). Tells before o (assignment_at widths before c.args.line.now)) (ap₂ (λ (ws : List ℕ) (gs : List Bool). assigned ws gs c.args.line.now) (sym of_widths) (sym of_flags) ∙ c.in_ok-given.ensures.is) (assigned_tells widths p.inputs_given before c.args.line.now plays.inputs_flagged) in
    let a = told.0 in
    let index : c.in_ok-given.given.0 ≡ a.index = sym (ap (λ (q : ℕ × ℕ). q.0) told.1.1) in
    let word : c.in_ok-given.given.1 ≡ a.word = sym (ap (λ (q : ℕ × ℕ). q.1) told.1.1) in
    let many : length p.inputs_given ≡ length (places is_input 0 p.items) = subst (λ (q : WordPlay). length q.inputs_given ≡ length (places is_input 0 q.items)) c.self.view_is c.self.invariant.2 in
    let there : a.index < length widths = subst (λ (ws : List ℕ). a.index < length ws) of_widths (subst (λ (q : ℕ × ℕ). q.0 < length c.as_slice-widths.result.now) (sym told.1.1) c.in_ok-given.ensures.fits.index) in
    let well_formed = subst (λ (q : WordPlay). IsWellFormed q.items) c.self.view_is c.items-items.ensures.well_formed in
    let goes : GoesOn p.run.settled p.run c.go_on.new.run = subst (λ (q : WordPlay). GoesOn q.run.settled q.run c.go_on.new.run) c.self.view_is c.go_on.ensures.goes in
    let more = input_plays p.items frames states before (before ++ a ∷ []) c.args.line.now p c.go_on.new.run a well_formed told.1.0 refl (omega (arith, many, there, length-widths is_input p.items)) goes plays in
    (before ++ a ∷ [], (told.1.0, subst (λ (q : WordPlay). Plays p.items frames (record { states = states; inputs = pairs_of (before ++ a ∷ []) }) q) (sym (c.give_input.ensures ∙ (ap (λ (q : WordPlay). input_given (record q { run = c.go_on.new.run }) c.in_ok-given.given.0 c.in_ok-given.given.1) c.self.view_is ∙ ap₂ (input_given (record p { run = c.go_on.new.run })) index word))) more))

pub returns-in_err-given-clause-line : goal.returns-in_err-given-clause-line
returns-in_err-given-clause-line c frames states before plays =
    let gone = err_from_is_err_and c.from_residual.result c.from_residual.ensures.1 in
    let is : c.from_residual.result ≡ Err c.in_err-given.field-0.0 = gone.1 ∙ ap Err gone.2 in
    let widths = widths_of is_input c.args.self.now.items in
    let of_widths : c.as_slice-widths.result.now ≡ widths_of is_input c.args.self.now.items = c.as_slice-widths.ensures.value ∙ (c.self.invariant.5 ∙ ap (λ (q : WordPlay). widths_of is_input q.items) c.self.view_is) in
    let of_flags : c.self.inside.inputs_given ≡ c.args.self.now.inputs_given = ap (λ (q : WordPlay). q.inputs_given) c.self.view_is in
    rw is (subst (λ (o : Result (ℕ × ℕ) Why). Tells before o (assignment_at widths before c.args.line.now)) (ap₂ (λ (ws : List ℕ) (gs : List Bool). assigned ws gs c.args.line.now) (sym of_widths) (sym of_flags) ∙ c.in_err-given.ensures.is) (assigned_tells widths c.args.self.now.inputs_given before c.args.line.now plays.inputs_flagged))
