-- The table of the commands: the word of each, and the words that it has.
use Rattle.std.specs.Prelude.{ℕ, List, [], ◌∷◌, codes}
use Rattle.wordings.specs.declared.table.Kind.{Kind}
use Rattle.wordings.specs.declared.table.Kind.TheVariants as kind
use Rattle.wordings.specs.declared.table.Verb.{Verb}
use Rattle.wordings.specs.declared.table.Verb.TheVariants as verb

-- the commands, in the order in which help lists them
abbrev pub verbs : List Verb
verbs =
    verb.Lower ∷ verb.CheckBtor ∷ verb.Show ∷ verb.Cost ∷ verb.Fit ∷ verb.Unfit ∷ verb.AigConvert ∷ verb.CheckAig ∷ verb.Lift ∷ verb.Restore
    ∷ verb.Wave ∷ verb.Obligation ∷ verb.CheckProof ∷ verb.TidyWitness ∷ verb.Vectors ∷ verb.Judge ∷ []

-- the word of a command
abbrev pub word_of : Verb → List ℕ
word_of verb.Lower = codes "lower"
word_of verb.CheckBtor = codes "check-btor"
word_of verb.Show = codes "show"
word_of verb.Cost = codes "cost"
word_of verb.Fit = codes "fit"
word_of verb.Unfit = codes "unfit"
word_of verb.AigConvert = codes "aig-convert"
word_of verb.CheckAig = codes "check-aig"
word_of verb.Lift = codes "lift"
word_of verb.Restore = codes "restore"
word_of verb.Wave = codes "wave"
word_of verb.Obligation = codes "obligation"
word_of verb.CheckProof = codes "check-proof"
word_of verb.TidyWitness = codes "tidy-witness"
word_of verb.Vectors = codes "vectors"
word_of verb.Judge = codes "judge"

-- the files of a command in their order, its flags and its options, by their names, with what each is
abbrev pub words_of : Verb → List (List ℕ × Kind)
words_of verb.Lower =
    (codes "MODEL", kind.File) ∷ (codes "quiet", kind.Flag) ∷ (codes "output", kind.Text)
    ∷ (codes "ascii", kind.Flag) ∷ (codes "binary", kind.Flag) ∷ (codes "engine", kind.Flag)
    ∷ (codes "bad", kind.PositionWithEngine) ∷ (codes "fit", kind.FlagOnModel) ∷ []
words_of verb.CheckBtor =
    (codes "MODEL", kind.File) ∷ (codes "quiet", kind.Flag) ∷ (codes "WITNESS", kind.File)
    ∷ (codes "names", kind.Flag) ∷ (codes "bad", kind.Text) ∷ (codes "json", kind.Flag) ∷ (codes "fit", kind.FlagOnModel) ∷ []
words_of verb.Show = (codes "MODEL", kind.File) ∷ (codes "quiet", kind.Flag) ∷ (codes "output", kind.Text) ∷ (codes "fit", kind.FlagOnModel) ∷ []
words_of verb.Cost = (codes "MODEL", kind.File) ∷ (codes "quiet", kind.Flag) ∷ (codes "fit", kind.FlagOnModel) ∷ []
words_of verb.Fit = (codes "MODEL", kind.File) ∷ (codes "quiet", kind.Flag) ∷ (codes "output", kind.Text) ∷ []
words_of verb.Unfit =
    (codes "MODEL", kind.File) ∷ (codes "quiet", kind.Flag) ∷ (codes "WITNESS", kind.File)
    ∷ (codes "output", kind.Text) ∷ (codes "names", kind.Flag) ∷ (codes "back", kind.FlagWithoutNames) ∷ []
words_of verb.AigConvert =
    (codes "CIRCUIT", kind.File) ∷ (codes "quiet", kind.Flag) ∷ (codes "output", kind.Text)
    ∷ (codes "ascii", kind.Flag) ∷ (codes "binary", kind.Flag) ∷ (codes "outputs", kind.Flag)
    ∷ (codes "engine", kind.Flag) ∷ (codes "bad", kind.PositionWithEngine) ∷ []
words_of verb.CheckAig =
    (codes "CIRCUIT", kind.File) ∷ (codes "quiet", kind.Flag) ∷ (codes "WITNESS", kind.File)
    ∷ (codes "names", kind.Flag) ∷ (codes "bad", kind.Text) ∷ (codes "json", kind.Flag) ∷ []
words_of verb.Lift =
    (codes "MODEL", kind.File) ∷ (codes "quiet", kind.Flag) ∷ (codes "WITNESS", kind.File)
    ∷ (codes "output", kind.Text) ∷ (codes "names", kind.Flag) ∷ (codes "engine", kind.Flag)
    ∷ (codes "abc", kind.FlagWithEngine) ∷ (codes "bad", kind.PositionWithEngine) ∷ (codes "fit", kind.FlagOnModel) ∷ []
words_of verb.Restore =
    (codes "CIRCUIT", kind.File) ∷ (codes "quiet", kind.Flag) ∷ (codes "WITNESS", kind.File)
    ∷ (codes "output", kind.Text) ∷ (codes "abc", kind.Flag) ∷ (codes "bad", kind.Position) ∷ []
words_of verb.Wave =
    (codes "MODEL", kind.File) ∷ (codes "quiet", kind.Flag) ∷ (codes "WITNESS", kind.File)
    ∷ (codes "output", kind.Text) ∷ (codes "all", kind.Flag) ∷ []
words_of verb.Obligation =
    (codes "MODEL", kind.File) ∷ (codes "quiet", kind.Flag) ∷ (codes "output", kind.Text)
    ∷ (codes "CERTIFICATE", kind.File) ∷ (codes "aiger", kind.Flag) ∷ (codes "circuit", kind.Flag)
    ∷ (codes "engine", kind.FlagWithCircuit) ∷ (codes "bad", kind.Position) ∷ (codes "fit", kind.FlagOnModel) ∷ []
words_of verb.CheckProof =
    (codes "MODEL", kind.File) ∷ (codes "quiet", kind.Flag) ∷ (codes "names", kind.Flag)
    ∷ (codes "CERTIFICATE", kind.File) ∷ (codes "aiger", kind.Flag) ∷ (codes "circuit", kind.Flag)
    ∷ (codes "engine", kind.FlagWithCircuit) ∷ (codes "bad", kind.Position) ∷ (codes "PROOF", kind.File)
    ∷ (codes "lrat", kind.Flag) ∷ (codes "json", kind.Flag) ∷ (codes "fit", kind.FlagOnModel) ∷ []
words_of verb.TidyWitness =
    (codes "WITNESS", kind.File) ∷ (codes "quiet", kind.Flag) ∷ (codes "output", kind.Text)
    ∷ (codes "pick", kind.Number) ∷ []
words_of verb.Vectors = (codes "FILE", kind.File) ∷ (codes "quiet", kind.Flag) ∷ []
words_of verb.Judge = (codes "LIST", kind.File) ∷ (codes "json", kind.Flag) ∷ []
