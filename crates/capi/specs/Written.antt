-- What the exported calls that write circuits, or tell what one costs, answer, said of the bytes that they are given.
use Rattle.std.specs.Prelude.{ℕ, Bool, List, [], Option, Some}
use Rattle.std.specs.Io.KnownBytes.{Appends}
use Rattle.blast.specs.Conversion.{Converts}
use Rattle.verbs.specs.Circuits.{ConvertsForEngines, IsCost, Rewrites}
use Rattle.verbs.specs.Fitting.{WritesFitting}
use Rattle.capi.specs.Flags.{form_asked}

-- some bytes are the text of a circuit that lowers the first text's model
abbrev pub CallLowers : Bool → List ℕ → List ℕ → Type 0
CallLowers binary model bytes = Converts (Some model) (form_asked binary) (Appends (Some []) (Some bytes))

-- some bytes are the text of a model of the profile that the first text's model is fitted into
abbrev pub CallFits : List ℕ → List ℕ → Type 0
CallFits model bytes = WritesFitting (Some model) (Some []) (Some bytes)

-- some bytes are the writer's text of the first text's circuit
abbrev pub CallConverts : Bool → List ℕ → List ℕ → Type 0
CallConverts binary circuit bytes = Rewrites (Some circuit) (Some []) (Some bytes) (form_asked binary)

-- some bytes are the text of an engine form of that circuit
abbrev pub CallConvertsForEngines : Bool → Option ℕ → List ℕ → List ℕ → Type 0
CallConvertsForEngines binary choice circuit bytes = ConvertsForEngines (Some circuit) (Some []) (Some bytes) (form_asked binary) choice

-- these are the gates and the variables that the lowering of the first text's model has at most
abbrev pub CallCosts : List ℕ → ℕ → ℕ → Type 0
CallCosts model gates variables = IsCost (Some model) (record { gates = gates; variables = variables })
