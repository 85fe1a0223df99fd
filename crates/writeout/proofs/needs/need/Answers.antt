-- What a look-up by id finds is the line's place.
use Rattle.std.proofs.Common.{◌≡◌}
use Rattle.writeout.specs.Needs.{place_of}
use Rattle.writeout.proofs.PlaceLemmas.{place_found}
use Rattle.writeout.proofs.needs.need.Goals as goal

pub returns-in_ok-push-in-Some : goal.returns-in_ok-push-in-Some
returns-in_ok-push-in-Some c =
    let e : place_of c.args.full.now c.args.id ≡ c.in-Some.place = place_found c.args.full.now c.args.id c.in-Some.place c.know.ensures.model c.requires c.in-Some.ensures.found in
    cc (c.in_ok-push-in-Some.ensures.items)
