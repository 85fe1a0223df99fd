-- The version of the program and of the library for C programs.
use Rattle.std.specs.Prelude.{ℕ, List, codes}

abbrev pub version : List ℕ
version = codes "0.16.0"
