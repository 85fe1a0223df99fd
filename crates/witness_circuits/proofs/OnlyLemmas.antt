-- A test rises nowhere else.
use Rattle.std.proofs.Common.{◌≡◌, ℕ, suc, ◌+◌, ◌≤◌, ◌⊎◌, Bool, true, false, ◌&&◌, ◌||◌, not, List, [], ◌++◌, ◌-◌, length, take, drop, inl, inr, refl, sym, ap, ◌∙◌, length-drop, length-take-le, take-append-drop, arith}
use Rattle.std.proofs.lemmas.Bool.{true≢false, and_parts}
use Rattle.base.specs.Literal.{Valuation}
use Rattle.aiger.specs.Net.{net_input_bits, latch_bits}
use Rattle.aiger.specs.Circuit.{Circuit, net}
use Rattle.aiger.specs.Trace.{AreInitial}
use Rattle.aiger.proofs.NetLemmas.{length-bits_from}
use Rattle.witness_circuits.specs.Mapping.{Mapping}
use Rattle.witness_circuits.specs.Certificate.{BeginsAtResets, MeetsConstraints, bad_rises, constraints_hold}
use Rattle.witness_circuits.specs.Guards.{Guards, IsBeside, beside}
use Rattle.witness_circuits.specs.Tests.{TestRises, claim_holds}
use Rattle.witness_circuits.specs.Made.{AreAsMany, AreFourFrames, TestParts, all_parts, own_initial, both_begin}
use Rattle.witness_circuits.proofs.Assembled.{Assembled}
use Rattle.witness_circuits.proofs.AgreeLemmas.{beside_again}
use Rattle.witness_circuits.proofs.StartLemmas.{true_initial, filled, filled_initial, filled_beside}
use Rattle.witness_circuits.proofs.TestLemmas.{holding, held}

-- which of the three it is
abbrev Which : (c b h n y r : Bool) → Type 0
Which c b h n y r = (c ≡ true) × (((b ≡ true) × (h ≡ false)) ⊎ (((h ≡ true) × (n ≡ true) × (y ≡ false)) ⊎ ((h ≡ true) × (r ≡ true))))

which : (c b h n y r : Bool) → (c && ((b && not h) || ((h && (n && not y)) || (h && r)))) ≡ true → Which c b h n y r
which false b h n y r e = absurd (cc)
which true true false n y r e = (refl, inl (refl, refl))
which true false false n y r e = absurd (cc)
which true b true true false r e = (refl, inr (inl (refl, refl, refl)))
which true b true true true true e = (refl, inr (inr (refl, refl)))
which true true true true true false e = absurd (cc)
which true false true true true false e = absurd (cc)
which true b true false y true e = (refl, inr (inr (refl, refl)))
which true true true false y false e = absurd (cc)
which true false true false y false e = absurd (cc)

-- the given bits that a list is
record Split (n : ℕ) (xs : List Bool) : Type 0 where
  front : List Bool
  behind : List Bool
  is : xs ≡ front ++ behind
  many : length front ≡ n
  rest : length behind ≡ length xs - n

split : (n : ℕ) (xs : List Bool) → n ≤ length xs → Split n xs
split n xs h = record { front = take n xs; behind = drop n xs; is = sym (take-append-drop n xs); many = length-take-le n xs h; rest = length-drop n xs }

record Found (c w : Circuit) (bits : List Bool) : Type 0 where
  given : TestParts Bool
  many : AreAsMany c w given
  is : bits ≡ all_parts given

joined : (bits a rest b bs d ds f fs g gs : List Bool) → bits ≡ a ++ rest → rest ≡ b ++ bs → bs ≡ d ++ ds → ds ≡ f ++ fs → fs ≡ g ++ gs → bits ≡ a ++ (b ++ (d ++ (f ++ (g ++ gs))))
joined bits a rest b bs d ds f fs g gs first second third fourth fifth = rw (first, second, third, fourth, fifth) refl

found : (c w : Circuit) (bits : List Bool) → length bits ≡ c.inputs + (length c.latches + (c.inputs + (w.inputs + (length w.latches + w.inputs)))) → Found c w bits
found c w bits e =
    let a = split c.inputs bits (omega arith) in
    let b = split (length c.latches) a.behind (let h = a.rest in omega arith) in
    let d = split c.inputs b.behind (let h = a.rest in let i = b.rest in omega arith) in
    let f = split w.inputs d.behind (let h = a.rest in let i = b.rest in let j = d.rest in omega arith) in
    let g = split (length w.latches) f.behind (let h = a.rest in let i = b.rest in let j = d.rest in let k = f.rest in omega arith) in
    record {
      given = record { inputs = a.front; latches = b.front; next_inputs = d.front; own_inputs = f.front; own_latches = g.front; next_own = g.behind };
      many =
          record {
            inputs = a.many;
            latches = b.many;
            next_inputs = d.many;
            own_inputs = f.many;
            own_latches = g.many;
            next_own = let h = a.rest in let i = b.rest in let j = d.rest in let k = f.rest in let l = g.rest in omega arith;
          };
      is = joined bits a.front a.behind b.front b.behind d.front d.behind f.front f.behind g.front g.behind a.is b.is d.is f.is g.is;
    }

module _ (c : Circuit) (k : ℕ) (w : Circuit) (m : Mapping) (t : Circuit) (V N X Y : Valuation → Valuation) (made : Assembled c k w m t V N X Y) (g : Guards c k w m) where
  stands : (v n x y : Valuation) (given : TestParts Bool) → AreFourFrames c w m given v n x y → IsBeside w m v given.own_latches x
  stands v n x y given f = record { given = given.own_inputs; frame = f.beside_now }

  -- it began: the own latches as they are, and the shared ones at their resets
  none_begins : (v n x y : Valuation) (given : TestParts Bool) → AreFourFrames c w m given v n x y → MeetsConstraints c v → both_begin c w m v x ≡ true → claim_holds w x ≡ false → ⊥
  none_begins v n x y given f met b h =
      let both = and_parts (own_initial [] c.latches (latch_bits (net c) v)) (own_initial m.latches w.latches (latch_bits (net w) x)) b in
      let bits : List Bool = latch_bits (net w) x in
      let own : List Bool = filled m.latches w.latches bits in
      let again : bits ≡ beside v m.latches own =
      f.beside_now.latches ∙ (sym (beside_again v m.latches given.own_latches) ∙ (ap (beside v m.latches) (sym f.beside_now.latches) ∙ sym (filled_beside v m.latches w.latches bits made.mapping.latches))) in
      let start : BeginsAtResets c v = true_initial c.latches (latch_bits (net c) v) (length-bits_from (suc c.inputs) (length c.latches) v) both.0 in
      let initial : AreInitial w.latches own = filled_initial m.latches w.latches bits made.mapping.latches (length-bits_from (suc w.inputs) (length w.latches) x) both.1 in
      let it : IsBeside w m v own x = record { given = given.own_inputs; frame = record { gates = f.beside_now.gates; inputs = f.beside_now.inputs; latches = again } } in
      true≢false (sym (held w x (g.begins v x own met start initial it)) ∙ h)

  none : (v n x y : Valuation) (given : TestParts Bool) → AreFourFrames c w m given v n x y
      → Which (constraints_hold c v) (both_begin c w m v x) (claim_holds w x) (constraints_hold c n) (claim_holds w y) (bad_rises c k v) → ⊥
  none v n x y given f (a, inl e) = none_begins v n x y given f (record { gates = f.now.gates; constraints = a }) e.0 e.1
  none v n x y given f (a, inr (inl e)) =
      true≢false (sym (held w y (g.goes_on v n x y given.own_latches (record { gates = f.now.gates; constraints = a }) (record { gates = f.next.gates; constraints = e.1 }) f.next.latches
      (stands v n x y given f) (holding w x e.0) (record { given = given.next_own; frame = f.beside_next }))) ∙ e.2)
  none v n x y given f (a, inr (inr e)) =
      true≢false (sym e.1 ∙ g.excludes v x given.own_latches (record { gates = f.now.gates; constraints = a }) (stands v n x y given f) (holding w x e.0))

  pub only : TestRises t → ⊥
  only r =
      let z : Valuation = r.valuation in
      let at = found c w (net_input_bits (net t) z) (length-bits_from 1 t.inputs z ∙ made.inputs) in
      none (V z) (N z) (X z) (Y z) at.given (made.frames z at.given r.gates at.many at.is)
      (which (constraints_hold c (V z)) (both_begin c w m (V z) (X z)) (claim_holds w (X z)) (constraints_hold c (N z)) (claim_holds w (Y z)) (bad_rises c k (V z)) (sym (made.rises z r.gates) ∙ r.rises))
