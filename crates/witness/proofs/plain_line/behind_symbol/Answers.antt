use Rattle.std.proofs.Common.{sym, ◌∙◌, ap}
use Rattle.std.specs.List.{list_all}
use Rattle.btor2.specs.Symbols.{is_printed, is_symbol}
use Rattle.witness.proofs.PlainLineLemmas.{begins_name, ends_line, front_is}
use Rattle.witness.proofs.plain_line.behind_symbol.Goals as goal

pub is_name-requires : goal.is_name-requires
is_name-requires c =
    let first = c.in_ok-count.ensures in
    ap (list_all is_printed) (front_is c.args.text.now c.in_ok-count.rest.now c.in_ok-count.count c.in_ok-count.end first c.split_at.result.0.now c.split_at.ensures.front) ∙ first.printed

pub returns-then-end-ne10 : goal.returns-then-end-ne10
returns-then-end-ne10 c rest begins = c.if-end-ne10.true (ends_line c.args.text.now c.in_ok-count.rest.now c.in_ok-count.count c.in_ok-count.end c.in_ok-count.ensures rest begins).0

pub returns-then-is_name : goal.returns-then-is_name
returns-then-is_name c =
    let front = front_is c.args.text.now c.in_ok-count.rest.now c.in_ok-count.count c.in_ok-count.end c.in_ok-count.ensures c.split_at.result.0.now c.split_at.ensures.front in
    begins_name c.args.text.now c.in_ok-count.rest.now c.in_ok-count.count c.in_ok-count.end c.in_ok-count.ensures c.if-end-ne10.false (ap is_symbol (sym front) ∙ (sym c.is_name.ensures ∙ c.if-is_name.true))

pub returns-else-is_name : goal.returns-else-is_name
returns-else-is_name c rest begins =
    let front = front_is c.args.text.now c.in_ok-count.rest.now c.in_ok-count.count c.in_ok-count.end c.in_ok-count.ensures c.split_at.result.0.now c.split_at.ensures.front in
    let there = ends_line c.args.text.now c.in_ok-count.rest.now c.in_ok-count.count c.in_ok-count.end c.in_ok-count.ensures rest begins in
    cc (front, there.1, c.is_name.ensures, c.if-is_name.false)
