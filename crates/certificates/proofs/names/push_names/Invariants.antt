use Rattle.std.proofs.Common.{◌≡◌, ◌<◌, Ok, All, option_copied}
use Rattle.certificates.specs.Reading.{then_named}
use Rattle.certificates.specs.Reader.{Marks, words_behind, bytes_behind}
use Rattle.certificates.proofs.names.push_names.Given as goal

-- the names so far are taken, and the words that are left name the others
abbrev pub invariant-loop-left : goal.invariant-loop-left
invariant-loop-left l = record {
  marks : Marks l.latches l.marks l.named.items;
  inside : All (λ k. k < l.latches) l.fn.named.items → All (λ k. k < l.latches) l.named.items;
  left : then_named l.latches (Ok l.named.items) (words_behind (option_copied l.left)) ≡ then_named l.latches (Ok l.fn.named.items) (words_behind (option_copied l.fn.behind));
}

abbrev pub decreases-loop-left : goal.decreases-loop-left
decreases-loop-left l = bytes_behind (option_copied l.left)
