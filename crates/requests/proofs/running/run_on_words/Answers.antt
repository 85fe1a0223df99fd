use Rattle.std.proofs.Common.{inl}
use Rattle.requests.proofs.RunLemmas.{made, named_made, writes_made}
use Rattle.requests.proofs.running.run_on_words.Goals as goal

pub returns-in-Ok-One : goal.returns-in-Ok-One
returns-in-Ok-One g c = inl (record {
  order = c.in-Ok-One.order;
  progress = c.in-Ok-One.ensures.says.0;
  says = rw c.in-Ok-One.field-0-is at c.in-Ok-One.ensures.says.1;
  made = made c.run_on_files-status.result.1 (λ m. g.F.Output.Sink.written m.0) (λ m. g.F.Name.ResultName.name m.1) (λ m. g.F.Name.ResultName.is_given m.1);
  named = named_made c.run_on_files-status.result.1 (λ m. g.F.Output.Sink.written m.0) (λ m. g.F.Name.ResultName.name m.1) (λ m. g.F.Name.ResultName.is_given m.1) _ _ c.run_on_files-status.ensures.named;
  done = λ so. writes_made c.run_on_files-status.result.1 (λ m. g.F.Output.Sink.written m.0) (λ m. g.F.Name.ResultName.name m.1) (λ m. g.F.Name.ResultName.is_given m.1) _ _ _ (rw (c.set_progress.ensures.device, c.set_progress-in-Ok-One.ensures.device) at (c.run_on_files-status.ensures.done so));
  not_accepted = λ so. writes_made c.run_on_files-status.result.1 (λ m. g.F.Output.Sink.written m.0) (λ m. g.F.Name.ResultName.name m.1) (λ m. g.F.Name.ResultName.is_given m.1) _ _ _ (rw (c.set_progress.ensures.device, c.set_progress-in-Ok-One.ensures.device) at (c.run_on_files-status.ensures.not_accepted so));
  refused = λ so. writes_made c.run_on_files-status.result.1 (λ m. g.F.Output.Sink.written m.0) (λ m. g.F.Name.ResultName.name m.1) (λ m. g.F.Name.ResultName.is_given m.1) _ _ _ (rw (c.set_progress.ensures.device, c.set_progress-in-Ok-One.ensures.device) at (c.run_on_files-status.ensures.refused so));
  left_open = λ so. writes_made c.run_on_files-status.result.1 (λ m. g.F.Output.Sink.written m.0) (λ m. g.F.Name.ResultName.name m.1) (λ m. g.F.Name.ResultName.is_given m.1) _ _ _ (rw (c.set_progress.ensures.device, c.set_progress-in-Ok-One.ensures.device) at (c.run_on_files-status.ensures.left_open so));
})
