use Rattle.std.proofs.Common.{◌≡◌, Err, IfErr, None, List, [], ◌∷◌, ◌++◌, rules, sym, subst}
use Rattle.std.proofs.lemmas.Iterator.Adapters.{YieldsList-from_vec}
use Rattle.std.proofs.lemmas.Iterator.Consumers.{YieldsList-so_far, YieldsList-turn, YieldsList-end}
use Rattle.btor2.specs.declared.item.Item.{Item}
use Rattle.wide.specs.Lines.{item_of, items_of}
use Rattle.fit.proofs.ListLemmas.{all_join}
use Rattle.fitting.specs.Forms.{form_fault}
use Rattle.fitting.specs.Fitted.{IsSoundLine, IsFitted}
use Rattle.fitting.specs.Models.{HaveForms, IsUnfitLine, IsUnfit}
use Rattle.fitting.specs.Tables.{table_of}
use Rattle.fitting.proofs.ModelLemmas.{next_line, items_more, items_all}
use Rattle.fitting.proofs.models.add_lines.Goals as goal

pub loop-line-init : goal.loop-line-init
loop-line-init g c = record { fitted = c.requires.1.1; forms = tt }

pub add_line-requires : goal.add_line-requires
add_line-requires g c =
    let road = YieldsList-from_vec c.args.lines.items (search rules) (search rules) in
    let so_far = YieldsList-so_far road c.loop-line.yielded _ c.loop-line.yielded_by in
    let turn = YieldsList-turn road c.loop-line.yielded _ c.loop-line.yielded_by _ c.next.new.self c.in-Some.line c.in-Some.is c.next.ensures.steps in
    let at = next_line c.args.lines.items c.loop-line.yielded c.in-Some.line g.items c.requires.0 c.requires.1.0 so_far turn in (
      subst (λ (l : List Item). IsFitted l (table_of c.loop-line.fitter) c.loop-line.fitter.maker) (sym at.front) c.loop-line.invariant.fitted,
      subst (λ (l : List Item). IsSoundLine l (item_of c.in-Some.line)) (sym at.front) at.sound,
    )

pub loop-line-preserved : goal.loop-line-preserved
loop-line-preserved g c =
    let road = YieldsList-from_vec c.args.lines.items (search rules) (search rules) in
    let so_far = YieldsList-so_far road c.loop-line.yielded _ c.loop-line.yielded_by in
    let turn = YieldsList-turn road c.loop-line.yielded _ c.loop-line.yielded_by _ c.next.new.self c.in-Some.line c.in-Some.is c.next.ensures.steps in
    let at = next_line c.args.lines.items c.loop-line.yielded c.in-Some.line g.items c.requires.0 c.requires.1.0 so_far turn in
    let x = item_of c.in-Some.line in
    let more = sym (items_more c.loop-line.yielded c.in-Some.line) in
    let fitted = subst (λ (l : List Item). IsFitted (l ++ x ∷ []) (table_of c.add_line.new.fitter) c.add_line.new.fitter.maker) at.front c.in_ok-add_line.ensures.fitted in
    record {
      fitted = subst (λ (l : List Item). IsFitted l (table_of c.add_line.new.fitter) c.add_line.new.fitter.maker) more fitted;
      forms = subst HaveForms more (all_join (λ (y : Item). form_fault y.body ≡ None) (items_of c.loop-line.yielded) (x ∷ []) c.loop-line.invariant.forms (c.in_ok-add_line.ensures.form, tt));
    }

pub returns-in_err-add_line-clause-refused : goal.returns-in_err-add_line-clause-refused
returns-in_err-add_line-clause-refused g c =
    let e = c.in_err-add_line.field-0.0 in
    let same : c.from_residual.result ≡ Err e = search rules in
    let road = YieldsList-from_vec c.args.lines.items (search rules) (search rules) in
    let so_far = YieldsList-so_far road c.loop-line.yielded _ c.loop-line.yielded_by in
    let turn = YieldsList-turn road c.loop-line.yielded _ c.loop-line.yielded_by _ c.next.new.self c.in-Some.line c.in-Some.is c.next.ensures.steps in
    let at = next_line c.args.lines.items c.loop-line.yielded c.in-Some.line g.items c.requires.0 c.requires.1.0 so_far turn in
    let x = item_of c.in-Some.line in
    let unfit : IsUnfit g.items e = record {
      before = items_of c.loop-line.yielded;
      line = x;
      after = at.after;
      is = at.is;
      forms = c.loop-line.invariant.forms;
      says = subst (λ (l : List Item). IsUnfitLine e l x) at.front c.in_err-add_line.ensures.refused;
    } in
    subst (λ r. IfErr r (IsUnfit g.items)) (sym same) unfit

pub returns-clause-fitted : goal.returns-clause-fitted
returns-clause-fitted g c =
    let road = YieldsList-from_vec c.args.lines.items (search rules) (search rules) in
    let ended = YieldsList-end road c.loop-line.yielded _ c.loop-line.yielded_by _ c.next.new.self c.in-None.is c.next.ensures.steps in
    subst (λ (l : List Item). IsFitted l (table_of c.loop-line.fitter) c.loop-line.fitter.maker) (items_all c.args.lines.items c.loop-line.yielded g.items c.requires.0 ended.0) c.loop-line.invariant.fitted

pub returns-clause-forms : goal.returns-clause-forms
returns-clause-forms g c =
    let road = YieldsList-from_vec c.args.lines.items (search rules) (search rules) in
    let ended = YieldsList-end road c.loop-line.yielded _ c.loop-line.yielded_by _ c.next.new.self c.in-None.is c.next.ensures.steps in
    subst HaveForms (items_all c.args.lines.items c.loop-line.yielded g.items c.requires.0 ended.0) c.loop-line.invariant.forms
