use Rattle.std.proofs.Common.{◌≡◌, ◌≤◌, ◌<◌, ◌∙◌, [], length, sym, ap, arith}
use Rattle.aigertext.specs.Ascii.{kept_line, before_kept, without_zero_tail}
use Rattle.aigertext.specs.Counts.{counts_in, last_of_counts}
use Rattle.aigertext.proofs.LineLemmas.{before_counts, without_counts, empty_from_test, some_from_test}
use Rattle.aigertext.proofs.writing.header.write_last_counts.Goals as goal

pub returns-then-is_empty-clause-counts : goal.returns-then-is_empty-clause-counts
returns-then-is_empty-clause-counts c =
    let circuit = c.args.circuit.now in
    let fair : c.count.new.line ≡ kept_line (before_kept (length circuit.fair) []) = rw c.fair.ensures.items at (c.count.ensures.counts [] c.clear.ensures) in
    let justice : c.count-2.new.line ≡ kept_line (before_kept (length circuit.justice) (before_kept (length circuit.fair) [])) = rw c.justice_count.ensures.count at (c.count-2.ensures.counts (before_kept (length circuit.fair) []) fair) in
    let constraints : c.count-3.new.line ≡ kept_line (before_kept (length circuit.constraints) (before_kept (length circuit.justice) (before_kept (length circuit.fair) []))) = rw c.constraints.ensures.items at (c.count-3.ensures.counts (before_kept (length circuit.justice) (before_kept (length circuit.fair) [])) justice) in
    let bads : c.count-4.new.line ≡ kept_line (without_zero_tail (last_of_counts (counts_in circuit))) = rw c.bads.ensures.items at (c.count-4.ensures.counts (before_kept (length circuit.constraints) (before_kept (length circuit.justice) (before_kept (length circuit.fair) []))) constraints) in
    let none : length c.count-4.new.line ≤ 0 = omega (arith, ap length c.bytes.ensures, empty_from_test (length c.bytes.result.now) (sym c.if-is_empty.ensures)) in
    rw c.gates.ensures.items at (c.last.ensures.line ∙ without_counts (length c.gates.result.now) c.count-4.new.line (without_zero_tail (last_of_counts (counts_in circuit))) bads none)

pub returns-else-is_empty-clause-counts : goal.returns-else-is_empty-clause-counts
returns-else-is_empty-clause-counts c =
    let circuit = c.args.circuit.now in
    let fair : c.count.new.line ≡ kept_line (before_kept (length circuit.fair) []) = rw c.fair.ensures.items at (c.count.ensures.counts [] c.clear.ensures) in
    let justice : c.count-2.new.line ≡ kept_line (before_kept (length circuit.justice) (before_kept (length circuit.fair) [])) = rw c.justice_count.ensures.count at (c.count-2.ensures.counts (before_kept (length circuit.fair) []) fair) in
    let constraints : c.count-3.new.line ≡ kept_line (before_kept (length circuit.constraints) (before_kept (length circuit.justice) (before_kept (length circuit.fair) []))) = rw c.constraints.ensures.items at (c.count-3.ensures.counts (before_kept (length circuit.justice) (before_kept (length circuit.fair) [])) justice) in
    let bads : c.count-4.new.line ≡ kept_line (without_zero_tail (last_of_counts (counts_in circuit))) = rw c.bads.ensures.items at (c.count-4.ensures.counts (before_kept (length circuit.constraints) (before_kept (length circuit.justice) (before_kept (length circuit.fair) []))) constraints) in
    let some : 0 < length c.count-4.new.line = omega (arith, ap length c.bytes.ensures, some_from_test (length c.bytes.result.now) (sym c.if-is_empty.ensures)) in
    rw c.gates.ensures.items at (c.before-else-is_empty.ensures.digits ∙ before_counts (length c.gates.result.now) c.count-4.new.line (without_zero_tail (last_of_counts (counts_in circuit))) bads some)
