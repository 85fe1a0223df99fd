use Rattle.std.proofs.Common.{◌≡◌, ◌<◌, ℕ, [], length, get_or, inl, refl, sym, subst, arith}
use Rattle.drup.specs.Places.{last_at, IsLatest, IsLink}
use Rattle.drup.specs.Without.{AreSameClause}
use Rattle.drup.proofs.PlacesLemmas.{none_left, none_from, none_behind, next_link}
use Rattle.drup.proofs.ClauseListLemmas.{read_there}
use Rattle.drup.proofs.places.last_alike.Goals as goal

pub loop-place-init : goal.loop-place-init
loop-place-init c =
    let last : last_at c.args.places.now c.args.sum ≡ c.last-place.result = sym c.last-place.ensures in
    record {
      link = rw (c.len-behind.ensures) (record {
        is = inl (refl, last);
        latest = subst (λ (x : ℕ). IsLatest c.args.clauses.now c.args.sum (length c.args.clauses.now) x) last (c.requires.linked.lasts c.args.sum);
      });
      none = λ j low high. absurd (omega (arith, low, high, c.len-behind.ensures));
      within = omega arith;
    }

pub returns-then-are_alike : goal.returns-then-are_alike
returns-then-are_alike c =
    let own : AreSameClause c.args.clause.now (get_or c.args.clauses.now c.loop-place.place []) = subst (AreSameClause c.args.clause.now) c.clause.ensures c.if-are_alike.ensures in (
      record {
        inside = omega (arith, c.loop-place-test.true, c.loop-place.invariant.within);
        alike = own;
        later = none_behind c.args.clauses.now c.args.clause.now c.args.sum c.loop-place.behind c.loop-place.place c.requires.sum c.requires.some c.loop-place.invariant.link.latest c.loop-place.invariant.none;
      },
      c.loop-place.invariant.link,
      c.loop-place-test.true,
    )

pub loop-place-preserved : goal.loop-place-preserved
loop-place-preserved c =
    let other : AreSameClause c.args.clause.now (get_or c.args.clauses.now c.loop-place.place []) → ⊥ = λ a. c.if-are_alike.ensures (subst (AreSameClause c.args.clause.now) (sym c.clause.ensures) a) in
    let below : c.loop-place.place < length c.args.places.now.before.items = omega (arith, c.loop-place-test.true, c.loop-place.invariant.within, c.requires.linked.as_many) in
    let next : get_or c.args.places.now.before.items c.loop-place.place 0 ≡ c.index.result.now = sym (read_there c.args.places.now.before.items c.loop-place.place c.index.result.now below c.index.ensures) in
    record {
      link = subst (λ (x : ℕ). IsLink c.args.clauses.now (last_at c.args.places.now) c.args.places.now.before.items c.args.sum x c.loop-place.place) next
          (next_link c.args.clauses.now (last_at c.args.places.now) c.args.places.now.before.items c.args.sum c.loop-place.behind c.loop-place.place c.requires.linked c.loop-place.invariant.link.latest c.loop-place-test.true (omega (arith, c.loop-place.invariant.within)));
      none = none_from c.args.clauses.now c.args.clause.now c.loop-place.place other
          (none_behind c.args.clauses.now c.args.clause.now c.args.sum c.loop-place.behind c.loop-place.place c.requires.sum c.requires.some c.loop-place.invariant.link.latest c.loop-place.invariant.none);
      within = omega (arith, c.loop-place-test.true, c.loop-place.invariant.within);
    }

pub returns : goal.returns
returns c = none_left c.args.clauses.now c.args.clause.now c.args.sum c.loop-place.behind c.loop-place.place c.requires.sum c.requires.some c.loop-place.invariant.link.latest (omega (arith, c.loop-place-test.false)) c.loop-place.invariant.none
