use Rattle.std.proofs.Common.{◌≡◌, ℕ, List, [], ◌∷◌, ◌++◌, Option, Some, None, refl, sym, ap, subst, ◌∙◌}
use Rattle.std.specs.Prelude.{◌==◌, if◌then◌else◌}
use Rattle.std.proofs.lemmas.Bool.{eqb-true}
use Rattle.drup.specs.Hints.{with_clause}
use Rattle.drup.specs.IdPlaces.{place_of}
use Rattle.drup.specs.Named.{Kept, clause_of, AreNamed, IsTight}
use Rattle.drup.proofs.NamedLemmas.{Inserted, Unmoved, fresh_place, inserted_named, inserted_tight, inserted_clause, unmoved_named, unmoved_tight, unmoved_clause, put_back}
use Rattle.drup.proofs.named.Named.insert.Goals as goal

pub returns-in-Err-clause-named : goal.returns-in-Err-clause-named
returns-in-Err-clause-named c limit named below =
    let old : Kept = record { clauses = c.self.inside.clauses; ids = c.self.inside.ids.items; places = c.self.inside.places; dead = c.self.inside.dead } in
    let fresh : clause_of old c.args.id ≡ None = subst (λ (n : Kept). clause_of n c.args.id ≡ None) (sym c.self.view_is) c.requires.fresh in
    let new : Kept = record { clauses = c.push.new.self; ids = c.reserve.new.self.items; places = c.unset.new.self; dead = c.self.inside.dead } in
    let same : Unmoved old new = record {
      clauses = c.in-Err.ensures.err;
      ids = c.reserve.ensures.items;
      dead = refl;
      places = λ i. c.unset.ensures i ∙ ap (λ (o : Option ℕ). if i == c.args.id then None else o) (c.in_ok-set.ensures.ok i)
          ∙ put_back (place_of old.places i) c.len-place.result (i == c.args.id) (λ e. ap (place_of old.places) (eqb-true i c.args.id e) ∙ fresh_place old c.args.id fresh);
    } in
    unmoved_named old new limit same (subst (λ (n : Kept). AreNamed n limit) (sym c.self.view_is) named)

pub returns-in-Err-clause-tight : goal.returns-in-Err-clause-tight
returns-in-Err-clause-tight c limit named tight =
    let old : Kept = record { clauses = c.self.inside.clauses; ids = c.self.inside.ids.items; places = c.self.inside.places; dead = c.self.inside.dead } in
    let fresh : clause_of old c.args.id ≡ None = subst (λ (n : Kept). clause_of n c.args.id ≡ None) (sym c.self.view_is) c.requires.fresh in
    let new : Kept = record { clauses = c.push.new.self; ids = c.reserve.new.self.items; places = c.unset.new.self; dead = c.self.inside.dead } in
    let same : Unmoved old new = record {
      clauses = c.in-Err.ensures.err;
      ids = c.reserve.ensures.items;
      dead = refl;
      places = λ i. c.unset.ensures i ∙ ap (λ (o : Option ℕ). if i == c.args.id then None else o) (c.in_ok-set.ensures.ok i)
          ∙ put_back (place_of old.places i) c.len-place.result (i == c.args.id) (λ e. ap (place_of old.places) (eqb-true i c.args.id e) ∙ fresh_place old c.args.id fresh);
    } in
    unmoved_tight old new same (subst IsTight (sym c.self.view_is) tight)

pub returns-in-Err-clause-err : goal.returns-in-Err-clause-err
returns-in-Err-clause-err c i =
    let old : Kept = record { clauses = c.self.inside.clauses; ids = c.self.inside.ids.items; places = c.self.inside.places; dead = c.self.inside.dead } in
    let fresh : clause_of old c.args.id ≡ None = subst (λ (n : Kept). clause_of n c.args.id ≡ None) (sym c.self.view_is) c.requires.fresh in
    let new : Kept = record { clauses = c.push.new.self; ids = c.reserve.new.self.items; places = c.unset.new.self; dead = c.self.inside.dead } in
    let same : Unmoved old new = record {
      clauses = c.in-Err.ensures.err;
      ids = c.reserve.ensures.items;
      dead = refl;
      places = λ j. c.unset.ensures j ∙ ap (λ (o : Option ℕ). if j == c.args.id then None else o) (c.in_ok-set.ensures.ok j)
          ∙ put_back (place_of old.places j) c.len-place.result (j == c.args.id) (λ e. ap (place_of old.places) (eqb-true j c.args.id e) ∙ fresh_place old c.args.id fresh);
    } in
    unmoved_clause old new i same ∙ ap (λ (n : Kept). clause_of n i) c.self.view_is

pub returns-clause-named : goal.returns-clause-named
returns-clause-named c limit named below =
    let old : Kept = record { clauses = c.self.inside.clauses; ids = c.self.inside.ids.items; places = c.self.inside.places; dead = c.self.inside.dead } in
    let fresh : clause_of old c.args.id ≡ None = subst (λ (n : Kept). clause_of n c.args.id ≡ None) (sym c.self.view_is) c.requires.fresh in
    let new : Kept = record { clauses = c.push.new.self; ids = c.push-2.new.self.items; places = c.set.new.self; dead = c.self.inside.dead } in
    let more : Inserted old c.args.id c.args.clause.now new = record {
      clauses = c.in-Ok.ensures.ok;
      ids = c.in-Ok-push.ensures.items ∙ ap (λ (xs : List ℕ). xs ++ c.args.id ∷ []) c.reserve.ensures.items;
      dead = refl;
      places = λ i. c.in_ok-set.ensures.ok i ∙ ap (λ (k : ℕ). if i == c.args.id then Some k else place_of old.places i) c.len-place.ensures;
    } in
    inserted_named old new c.args.id c.args.clause.now limit more fresh (subst (λ (n : Kept). AreNamed n limit) (sym c.self.view_is) named) below

pub returns-clause-tight : goal.returns-clause-tight
returns-clause-tight c limit named tight =
    let old : Kept = record { clauses = c.self.inside.clauses; ids = c.self.inside.ids.items; places = c.self.inside.places; dead = c.self.inside.dead } in
    let fresh : clause_of old c.args.id ≡ None = subst (λ (n : Kept). clause_of n c.args.id ≡ None) (sym c.self.view_is) c.requires.fresh in
    let new : Kept = record { clauses = c.push.new.self; ids = c.push-2.new.self.items; places = c.set.new.self; dead = c.self.inside.dead } in
    let more : Inserted old c.args.id c.args.clause.now new = record {
      clauses = c.in-Ok.ensures.ok;
      ids = c.in-Ok-push.ensures.items ∙ ap (λ (xs : List ℕ). xs ++ c.args.id ∷ []) c.reserve.ensures.items;
      dead = refl;
      places = λ i. c.in_ok-set.ensures.ok i ∙ ap (λ (k : ℕ). if i == c.args.id then Some k else place_of old.places i) c.len-place.ensures;
    } in
    inserted_tight old new c.args.id c.args.clause.now limit more fresh (subst (λ (n : Kept). AreNamed n limit) (sym c.self.view_is) named) (subst IsTight (sym c.self.view_is) tight)

pub returns-clause-ok : goal.returns-clause-ok
returns-clause-ok c limit i named =
    let old : Kept = record { clauses = c.self.inside.clauses; ids = c.self.inside.ids.items; places = c.self.inside.places; dead = c.self.inside.dead } in
    let fresh : clause_of old c.args.id ≡ None = subst (λ (n : Kept). clause_of n c.args.id ≡ None) (sym c.self.view_is) c.requires.fresh in
    let new : Kept = record { clauses = c.push.new.self; ids = c.push-2.new.self.items; places = c.set.new.self; dead = c.self.inside.dead } in
    let more : Inserted old c.args.id c.args.clause.now new = record {
      clauses = c.in-Ok.ensures.ok;
      ids = c.in-Ok-push.ensures.items ∙ ap (λ (xs : List ℕ). xs ++ c.args.id ∷ []) c.reserve.ensures.items;
      dead = refl;
      places = λ i. c.in_ok-set.ensures.ok i ∙ ap (λ (k : ℕ). if i == c.args.id then Some k else place_of old.places i) c.len-place.ensures;
    } in
    inserted_clause old new c.args.id c.args.clause.now limit i more (subst (λ (n : Kept). AreNamed n limit) (sym c.self.view_is) named) ∙ ap (λ (n : Kept). with_clause (clause_of n) c.args.id c.args.clause.now i) c.self.view_is
