-- Which circuits have no engine form, and why.
use Rattle.std.specs.Prelude.{◌≡◌, ℕ, ◌+◌, ◌==◌, length, not, Option, Some, None, Result, Ok, Err, if◌then◌else◌, nat_lt, ◌⊎◌}
use Rattle.aiger.specs.Limits.{greatest_count}
use Rattle.aiger.specs.Circuit.{Circuit}
use Rattle.engine_form.specs.EngineForm.{input_count, latch_count, engine_cost, has_chosen}
use Rattle.engine_form.specs.declared.fault.EngineFault.{EngineFault}
use Rattle.engine_form.specs.declared.fault.EngineFault.TheVariants as fault

-- the variables at most of an engine form: its inputs, its latches, and the gates at most
abbrev pub engine_bound : Circuit → ℕ
engine_bound c = input_count c + latch_count c + engine_cost c

-- the first refusal that applies to a circuit and a choice, if any: it has a justice property, a fairness constraint, no bad property at all, none at the chosen position, or the form may take more variables than a circuit may have
abbrev pub engine_refusal : Circuit → Option ℕ → Option EngineFault
engine_refusal c choice =
    if nat_lt 0 (length c.justice) then Some fault.Justice
    else (if nat_lt 0 (length c.fair) then Some fault.Fair
    else (if length c.bads == 0 then Some fault.NoBad
    else (if not (has_chosen choice c.bads) then Some fault.NoSuchBad
    else (if nat_lt greatest_count (engine_bound c) then Some fault.TooBig else None))))

-- what is answered is the first refusal that applies, and where none applies an engine form, or want of memory
abbrev pub AnswersForm : {T : Type 0} → Result T EngineFault → Option EngineFault → Type 0
AnswersForm (Ok c) r = r ≡ None
AnswersForm (Err e) r = (r ≡ Some e) ⊎ ((r ≡ None) × (e ≡ fault.NoMemory))
