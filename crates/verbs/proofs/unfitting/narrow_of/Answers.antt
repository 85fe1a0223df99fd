use Rattle.std.proofs.Common.{◌≡◌, inr, subst, sym}
use Rattle.btor2text.specs.Spelling.{StandsFor}
use Rattle.verbs.specs.Fitting.{IsProfileOf}
use Rattle.verbs.proofs.unfitting.narrow_of.Goals as goal

pub returns-in-Some-clause-fit : goal.returns-in-Some-clause-fit
returns-in-Some-clause-fit c =
    let text = c.args.text.now in
    let model = c.in-Some.model in
    let stands : StandsFor text model = (subst (IsProfileOf text) c.in-Some.is c.in_ok-model.ensures.read).0 in
    let same : c.args.wide ≡ model = c.texts_are_read.ensures.same text c.args.wide model c.requires.stands (c.profile_is_read.ensures text model stands) in
    rw same (c.profile_is_fitted.ensures model stands.well_formed).0

pub returns-in-Some-clause-forms : goal.returns-in-Some-clause-forms
returns-in-Some-clause-forms c =
    let text = c.args.text.now in
    let model = c.in-Some.model in
    let stands : StandsFor text model = (subst (IsProfileOf text) c.in-Some.is c.in_ok-model.ensures.read).0 in
    inr (sym (c.texts_are_read.ensures.same text c.args.wide model c.requires.stands (c.profile_is_read.ensures text model stands)))
