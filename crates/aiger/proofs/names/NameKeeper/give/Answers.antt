use Rattle.std.proofs.Common.{◌≡◌, ◌<◌, ◌++◌, ◌∷◌, [], All, None, map, refl, ap, sym, ◌∙◌, subst, arith, ℕ, Vec, Global}
use Rattle.std.proofs.lemmas.Result.{on_ok_weaker}
use Rattle.std.proofs.lemmas.Map.Made.{lookup-map_values}
use Rattle.std.specs.Option.{option_copied}
use Rattle.std.specs.BTreeMap.{insert_entry, is_at}
use Rattle.std.specs.Map.{lookup, keys_of}
use Rattle.aiger.specs.Names.{place_cmp}
use Rattle.aiger.specs.FlatNames.{key_of}
use Rattle.aiger.proofs.NameLemmas.{insert_entry-map}
use Rattle.aiger.proofs.PlacedNameLemmas.{given_in_order, given_other, none_from_test}
use Rattle.aiger.proofs.names.NameKeeper.give.Goals as goal

pub returns-then-is_none-clause-ok : goal.returns-then-is_none-clause-ok
returns-then-is_none-clause-ok c =
    let small : c.args.position < 4294967296 = omega (arith, c.if-position-lt-KEYED_POSITIONS.true) in
    let key : c.key_of-key.result ≡ key_of (c.rank_of.result, c.args.position) = c.key_of-key.ensures small in
    let above : All (λ k. k < key_of (c.rank_of.result, c.args.position)) (keys_of c.self.inside.in_order) = subst (λ (n : ℕ). All (λ k. k < n) (keys_of c.self.inside.in_order)) key (c.are_below-below.ensures.below c.if-below.true) in
    let got = sym (ap option_copied (none_from_test c.get.result c.if-is_none.ensures)) ∙ c.get.ensures.value in
    let none : lookup (is_at (place_cmp (c.rank_of.result, c.args.position))) (map (λ e. (e.0, e.1.items)) c.self.inside.others.entries) ≡ None = rw (lookup-map_values (λ (v : Vec ℕ Global). v.items), ← got) refl in
    on_ok_weaker c.push.result (λ e. rw (← c.self.view_is, ← c.rank_of.ensures) (given_in_order (c.rank_of.result, c.args.position) c.args.name.now c.self.inside.in_order c.push.new.self (map (λ e. (e.0, e.1.items)) c.self.inside.others.entries) small c.are_below-below.ensures.rising above none (e ∙ ap (λ (n : ℕ). c.self.inside.in_order ++ (n, c.args.name.now) ∷ []) key)).0) c.push.ensures.ok

pub returns-then-is_none-clause-sorted : goal.returns-then-is_none-clause-sorted
returns-then-is_none-clause-sorted c =
    let small : c.args.position < 4294967296 = omega (arith, c.if-position-lt-KEYED_POSITIONS.true) in
    let key : c.key_of-key.result ≡ key_of (c.rank_of.result, c.args.position) = c.key_of-key.ensures small in
    let above : All (λ k. k < key_of (c.rank_of.result, c.args.position)) (keys_of c.self.inside.in_order) = subst (λ (n : ℕ). All (λ k. k < n) (keys_of c.self.inside.in_order)) key (c.are_below-below.ensures.below c.if-below.true) in
    let got = sym (ap option_copied (none_from_test c.get.result c.if-is_none.ensures)) ∙ c.get.ensures.value in
    let none : lookup (is_at (place_cmp (c.rank_of.result, c.args.position))) (map (λ e. (e.0, e.1.items)) c.self.inside.others.entries) ≡ None = rw (lookup-map_values (λ (v : Vec ℕ Global). v.items), ← got) refl in
    on_ok_weaker c.push.result (λ e. (given_in_order (c.rank_of.result, c.args.position) c.args.name.now c.self.inside.in_order c.push.new.self (map (λ e. (e.0, e.1.items)) c.self.inside.others.entries) small c.are_below-below.ensures.rising above none (e ∙ ap (λ (n : ℕ). c.self.inside.in_order ++ (n, c.args.name.now) ∷ []) key)).1) c.push.ensures.ok

pub returns-in-Ok-clause-ok : goal.returns-in-Ok-clause-ok
returns-in-Ok-clause-ok c =
    let e : map (λ e. (e.0, e.1.items)) c.insert.new.self.entries ≡ insert_entry place_cmp (map (λ e. (e.0, e.1.items)) c.self.inside.others.entries) (c.rank_of.result, c.args.position) c.args.name.now = rw (c.in-Ok.ensures.entries, insert_entry-map place_cmp (λ (v : Vec ℕ Global). v.items), c.in_ok-extend_from_slice.ensures.items, c.new-bytes.ensures.items) refl in
    rw (← c.self.view_is, ← c.rank_of.ensures) (given_other (c.rank_of.result, c.args.position) c.args.name.now c.self.inside.in_order (map (λ e. (e.0, e.1.items)) c.self.inside.others.entries) (map (λ e. (e.0, e.1.items)) c.insert.new.self.entries) c.are_below-below.ensures.rising e).0

pub returns-in-Ok-clause-sorted : goal.returns-in-Ok-clause-sorted
returns-in-Ok-clause-sorted c =
    let e : map (λ e. (e.0, e.1.items)) c.insert.new.self.entries ≡ insert_entry place_cmp (map (λ e. (e.0, e.1.items)) c.self.inside.others.entries) (c.rank_of.result, c.args.position) c.args.name.now = rw (c.in-Ok.ensures.entries, insert_entry-map place_cmp (λ (v : Vec ℕ Global). v.items), c.in_ok-extend_from_slice.ensures.items, c.new-bytes.ensures.items) refl in
    (given_other (c.rank_of.result, c.args.position) c.args.name.now c.self.inside.in_order (map (λ e. (e.0, e.1.items)) c.self.inside.others.entries) (map (λ e. (e.0, e.1.items)) c.insert.new.self.entries) c.are_below-below.ensures.rising e).1
