use Rattle.std.proofs.Common.{◌≡◌, ℕ, ◌+◌, ◌≤◌, ◌⊎◌, [], length, get_or, Option, Some, inl, inr, sym, ap, subst, arith}
use Rattle.std.proofs.lemmas.Bool.{cases_lt}
use Rattle.drup.specs.ClauseLists.{literal_count}
use Rattle.drup.specs.IdPlaces.{place_of}
use Rattle.drup.specs.Named.{Kept, AreNamedBy, AreNamed}
use Rattle.drup.proofs.NamedLemmas.{named_remove}
use Rattle.drup.proofs.named.Named.remove.Goals as goal

pub returns-in-Some-clause-named : goal.returns-in-Some-clause-named
returns-in-Some-clause-named c limit named =
    let there : place_of c.self.inside.places c.args.id ≡ Some c.in-Some.place = sym c.in-Some.ensures in
    let gone : length c.clause-gone.result.now ≡ length (get_or c.self.inside.clauses c.in-Some.place []) = ap length c.clause-gone.ensures in
    let many : (length (get_or c.self.inside.clauses c.in-Some.place []) + c.self.inside.dead ≤ c.min-self-inside.result) ⊎ (literal_count c.self.inside.clauses ≤ c.min-self-inside.result) =
    elim (cases_lt (literal_count c.self.inside.clauses) (length (get_or c.self.inside.clauses c.in-Some.place []) + c.self.inside.dead)) [
      | inl all ↦ inr (omega (arith, all, gone, c.min-self-inside.ensures, c.saturating_add.ensures, c.size.ensures))
      | inr more ↦ inl (omega (arith, more, gone, c.min-self-inside.ensures, c.saturating_add.ensures, c.size.ensures))
    ] in
    subst (λ (P : ℕ → Option ℕ). AreNamedBy P c.self.inside.clauses c.self.inside.ids.items c.min-self-inside.result limit) (sym (λ i k. c.unset.ensures k i))
    (named_remove (place_of c.self.inside.places) c.self.inside.clauses c.self.inside.ids.items c.self.inside.dead limit c.args.id c.in-Some.place c.min-self-inside.result (subst (λ (n : Kept). AreNamed n limit) (sym c.self.view_is) named) there many)
