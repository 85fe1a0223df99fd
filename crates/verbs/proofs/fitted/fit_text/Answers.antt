use Rattle.std.proofs.Common.{inl, inr, refl, subst}
use Rattle.verbs.specs.Fitting.{IsProfileOf}
use Rattle.verbs.proofs.FittedLemmas.{all_kept}
use Rattle.verbs.proofs.fitted.fit_text.Goals as goal

pub returns-in-Some-clause-fitted : goal.returns-in-Some-clause-fitted
returns-in-Some-clause-fitted c =
    let text = c.args.text.now in
    let model = c.in-Some.model in
    let is = subst (IsProfileOf text) c.in-Some.is c.in_ok-model.ensures.read in
    let wide = c.profile_is_read.ensures text model is.0 in
    record {
      lines = _;
      stands = c.wide_texts_are_read.ensures text model wide;
      fits = inl (record { wide = model; stands = wide; same = refl; each_has_next_or_is_free = is.1; fit = (c.profile_is_fitted.ensures model is.0.well_formed).0; forms = inr refl });
      rise_alike = λ b. (
        λ h. (c.items_as_lines.ensures.down model b wide.well_formed is.1 h).0,
        λ h. (c.items_as_lines.ensures.up model b wide.well_formed is.1 h).0,
      );
    }

pub returns-in-Some-clause-kept : goal.returns-in-Some-clause-kept
returns-in-Some-clause-kept c = λ items stands ready. c.one_model.ensures.same c.args.text.now c.in-Some.model items (subst (IsProfileOf c.args.text.now) c.in-Some.is c.in_ok-model.ensures.read).0 stands

pub returns-in-None-clause-kept : goal.returns-in-None-clause-kept
returns-in-None-clause-kept c = all_kept c.fit_whole.result c.args.text.now (subst (IsProfileOf c.args.text.now) c.in-None.is c.in_ok-model.ensures.read)

pub fit_whole-requires : goal.fit_whole-requires
fit_whole-requires c = record { not_profile = subst (IsProfileOf c.args.text.now) c.in-None.is c.in_ok-model.ensures.read }
