use Rattle.std.proofs.Common.{◌≡◌, true, false, [], ◌∷◌, refl, sym, ◌∙◌}
use Rattle.std.proofs.lemmas.Bool.{true≢false}
use Rattle.aiger.specs.Worked.{on, off}
use Rattle.witness_circuits.proofs.WorkedLemmas.{seen, output_seen}
use Rattle.witness_circuits.proofs.laws.worked_certificates.Goals as goal

pub returns-clause-stays_off : goal.returns-clause-stays_off
returns-clause-stays_off c =
    record {
      circuit = c.worked_circuits.ensures.stays_off;
      mapping = record { inputs = refl; latches = refl };
      reset = λ v x met begin gates share. record { resets = (begin.0, tt); constraints = refl };
      transition = λ v next_v x next_x met next_met next x_met share gates next_share.
          let e : next_v 1 ≡ v 1 = cc in
          record { taken = (share.latches.0 ∙ sym e, tt); constraints = refl };
      property = λ v x met x_met share safe. sym share.latches.0 ∙ safe;
      base = λ x met begin. begin.0;
      step = λ x next_x met next_met next safe. let e : next_x 1 ≡ x 1 = cc in e ∙ safe;
    }

pub returns-clause-own : goal.returns-clause-own
returns-clause-own c a =
    true≢false (a.property on off (record { gates = tt; constraints = refl }) (record { gates = tt; constraints = refl }) (record { inputs = tt; latches = (tt, tt) }) refl)

pub returns-clause-toggler : goal.returns-clause-toggler
returns-clause-toggler c a = true≢false (a.step off on (record { gates = tt; constraints = refl }) (record { gates = tt; constraints = refl }) refl refl)

pub returns-clause-other : goal.returns-clause-other
returns-clause-other c a =
    true≢false (sym (a.transition off on off on (record { gates = tt; constraints = refl }) (record { gates = tt; constraints = refl }) refl (record { gates = tt; constraints = refl })
    (record { inputs = tt; latches = (refl, tt) }) tt (record { inputs = tt; latches = (refl, tt) })).taken.0)

pub returns-clause-watcher : goal.returns-clause-watcher
returns-clause-watcher c =
    record {
      circuit = c.worked_circuits.ensures.watcher;
      mapping = record { inputs = refl; latches = refl };
      begins = λ v x own met begin initial b. record { constraints = refl; safe = seen v x own b ∙ begin.0 };
      goes_on = λ v next_v x next_x own met next_met next b h next_b.
          let e : next_v 1 ≡ v 1 = cc in
          record { constraints = refl; safe = seen next_v next_x [] next_b ∙ (e ∙ (sym (seen v x own b) ∙ h.safe)) };
      excludes = λ v x own met b h. sym (seen v x own b) ∙ h.safe;
    }

pub returns-clause-output : goal.returns-clause-output
returns-clause-output c =
    record {
      circuit = c.worked_circuits.ensures.output_watcher;
      mapping = record { inputs = refl; latches = refl };
      begins = λ v x own met begin initial b. record { constraints = refl; safe = output_seen v x own b ∙ begin.0 };
      goes_on = λ v next_v x next_x own met next_met next b h next_b.
          let e : next_v 1 ≡ v 1 = cc in
          record { constraints = refl; safe = output_seen next_v next_x [] next_b ∙ (e ∙ (sym (output_seen v x own b) ∙ h.safe)) };
      excludes = λ v x own met b h. sym (output_seen v x own b) ∙ h.safe;
    }

pub returns-clause-no_certificate : goal.returns-clause-no_certificate
returns-clause-no_certificate c a = true≢false (a.base on (record { gates = tt; constraints = refl }) tt)

pub returns-clause-nothing : goal.returns-clause-nothing
returns-clause-nothing c g =
    true≢false (g.begins off on [] (record { gates = tt; constraints = refl }) (refl, tt) tt (record { given = true ∷ []; frame = record { gates = tt; inputs = refl; latches = refl } })).safe

pub returns-clause-other_guard : goal.returns-clause-other_guard
returns-clause-other_guard c g =
    true≢false (g.goes_on off on off on [] (record { gates = tt; constraints = refl }) (record { gates = tt; constraints = refl }) refl
    (record { given = false ∷ []; frame = record { gates = tt; inputs = refl; latches = refl } }) (record { constraints = refl; safe = refl })
    (record { given = true ∷ []; frame = record { gates = tt; inputs = refl; latches = refl } })).safe
