use Rattle.std.proofs.Common.{List, ℕ, refl, ◌∷◌, [], ◌++◌, sym, ap, ◌∙◌}
use Rattle.drup.proofs.AddLemmas.{KeepsPropagator-add}
use Rattle.drup.proofs.AlikeLemmas.{some_length}
use Rattle.drup.proofs.PlacesLemmas.{AreLinked-behind}
use Rattle.drup.proofs.SweepLemmas.{stands_alone}
use Rattle.drup.proofs.sweep.Swept.take.Goals as goal

pub returns-in-Ok : goal.returns-in-Ok
returns-in-Ok c clauses trail old can low =
    let some = some_length c.args.clause.now c.if-is_empty.ensures in
    let self = c.args.self.now in
    let new = c.put.new in
    let added = c.in-Ok.ensures.ok in
    record {
      keeps = KeepsPropagator-add self.clauses self.watched.items self.lists trail c.args.clause.now c.args.first c.args.second old.keeps low (can some) new.clauses new.watched.items new.lists added;
      linked = AreLinked-behind self.clauses new.clauses c.args.clause.now _ self.places new.places some old.linked refl c.in-Ok.ensures.few c.in-Ok.ensures.linked added.clauses_are;
      is = added.clauses_are ∙ ap (λ (cs : List (List ℕ)). cs ++ c.args.clause.now ∷ []) old.is ∙ ap (λ (cs : List (List ℕ)). clauses ++ cs) (sym (stands_alone c.args.clause.now some));
    }
