use Rattle.std.proofs.Common.{nat_eq, length, refl, arith}
use Rattle.std.specs.HashMap.{get}
use Rattle.fitting.proofs.TableLemmas.{put_word}
use Rattle.fitting.proofs.words.Words.put.Goals as goal

pub returns-in-Ok-clause-word : goal.returns-in-Ok-clause-word
returns-in-Ok-clause-word c =
    let long = c.args.self.now.nodes.ok.0 in
    put_word c.args.self.now.nodes.items _ c.args.nodes.now (get nat_eq c.args.self.now.spans) (get nat_eq c.insert.new.self) c.args.id (record { start = c.len.result; count = length c.args.nodes.now })
    (omega (arith, c.len.ensures, long)) refl c.in_ok-add_all.ensures.ok c.in-Ok.ensures.updates.0 (λ k s e. let inside = c.args.self.now.within k s e in omega (arith, inside, long))
