use Rattle.std.proofs.Common.{ℕ, ◌≤◌, sym, subst}
use Rattle.meaning.specs.Meaning.{RisesBy}
use Rattle.meaning.proofs.reaching.one_meaning_of_fitted.Goals as goal

pub returns : goal.returns
returns c wide items layout circuit choice d k most fits lowers form has few =
    let fitted = c.one_meaning.ensures items circuit choice d k most lowers form has few in
    let down : RisesBy wide k most → RisesBy items k most = λ r.
    let g = c.bad_properties_rise_alike.ensures.down wide items layout k fits r.0 in
    (g.0, subst (λ (n : ℕ). n ≤ most) (sym g.1) r.1) in
    let up : RisesBy items k most → RisesBy wide k most = λ r.
    let g = c.bad_properties_rise_alike.ensures.up wide items layout k fits r.0 in
    (g.0, subst (λ (n : ℕ). n ≤ most) (sym g.1) r.1) in
    record {
      model = (down, up);
      fitted = fitted;
      certificate = λ kind invariant proof line derived h. fitted.certificate kind invariant proof line derived (c.bad_properties_rise_alike.ensures.down wide items layout k fits h).0;
    }
