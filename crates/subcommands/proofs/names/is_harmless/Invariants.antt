use Rattle.std.proofs.Common.{◌≡◌, length}
use Rattle.subcommands.specs.Names.{harmless, harmless_behind}
use Rattle.subcommands.proofs.names.is_harmless.Given as goal

abbrev pub invariant-loop-byte : goal.invariant-loop-byte
invariant-loop-byte l = harmless_behind l.before l.rest ≡ l.rest → harmless l.name ≡ l.name

abbrev pub decreases-loop-byte : goal.decreases-loop-byte
decreases-loop-byte l = length l.rest
