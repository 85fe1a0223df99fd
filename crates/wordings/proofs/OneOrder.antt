-- Words say at most one order, or one list.
use Rattle.std.proofs.Common.{◌≡◌, List, ℕ, Option, Some, None, option_map, sym, ◌∙◌}
use Rattle.std.specs.Prelude.{MatchOption}
use Rattle.invocation.specs.declared.tasks.ListOrder.{ListOrder}
use Rattle.invocation.specs.declared.tasks.Order.{Order}
use Rattle.invocation.specs.declared.tasks.Request.TheVariants as request
use Rattle.wordings.specs.declared.table.Verb.{Verb}
use Rattle.wordings.specs.Orders.{Says, SaysList, SaysOf, SaysOrder, command, task_of}
use Rattle.wordings.specs.Parts.{Said}

-- two orders are the same
pub record Same (o p : Order) : Type 0 where
  pub task : o.task ≡ p.task
  pub named : o.named ≡ p.named
  pub as_json : o.as_json ≡ p.as_json
  pub asked : option_map (λ name. name.now) o.asked ≡ option_map (λ name. name.now) p.asked
  pub form : o.form ≡ p.form
  pub first : o.first.now ≡ p.first.now
  pub second : option_map (λ name. name.now) o.second ≡ option_map (λ name. name.now) p.second
  pub third : option_map (λ name. name.now) o.third ≡ option_map (λ name. name.now) p.third
  pub output : option_map (λ name. name.now) o.output ≡ option_map (λ name. name.now) p.output
  pub progress : o.tells_progress ≡ p.tells_progress

same_of : (v : Verb) (ps : List Said) (o p : Order) → SaysOrder v ps o → SaysOrder v ps p → Same o p
same_of v ps o p s t = record {
  task = cc (s.task, t.task);
  named = s.named ∙ sym t.named;
  as_json = s.as_json ∙ sym t.as_json;
  asked = s.asked ∙ sym t.asked;
  form = s.form ∙ sym t.form;
  first = cc (s.first, t.first);
  second = s.second ∙ sym t.second;
  third = s.third ∙ sym t.third;
  output = s.output ∙ sym t.output;
  progress = s.progress ∙ sym t.progress;
}

same_by : (r : Option (Verb × List Said)) (o p : Order) → MatchOption r ⊥ (λ said. SaysOf said.0 said.1 (request.One o))
    → MatchOption r ⊥ (λ said. SaysOf said.0 said.1 (request.One p)) → Same o p
same_by None o p s t = absurd s
same_by (Some r) o p s t = same_of r.0 r.1 o p s t

pub one_order : (words : List (List ℕ)) (o p : Order) → Says words (request.One o) → Says words (request.One p) → Same o p
one_order words o p s t = same_by (command words) o p s t

list_by : (r : Option (Verb × List Said)) (l m : ListOrder) → MatchOption r ⊥ (λ said. SaysOf said.0 said.1 (request.Many l))
    → MatchOption r ⊥ (λ said. SaysOf said.0 said.1 (request.Many m)) → (l.list.now ≡ m.list.now) × (l.as_json ≡ m.as_json)
list_by None l m s t = absurd s
list_by (Some r) l m s t = (cc (s.list, t.list), s.as_json ∙ sym t.as_json)

pub one_list : (words : List (List ℕ)) (l m : ListOrder) → Says words (request.Many l) → Says words (request.Many m) → (l.list.now ≡ m.list.now) × (l.as_json ≡ m.as_json)
one_list words l m s t = list_by (command words) l m s t

not_both : (v : Verb) (ps : List Said) (o : Order) (l : ListOrder) → SaysOrder v ps o → ¬ SaysList v ps l
not_both v ps o l s t =
    let none : task_of v ps ≡ None = rw t.judge in
    cc (none, s.task)

either_by : (r : Option (Verb × List Said)) (o : Order) (l : ListOrder) → MatchOption r ⊥ (λ said. SaysOf said.0 said.1 (request.One o))
    → ¬ MatchOption r ⊥ (λ said. SaysOf said.0 said.1 (request.Many l))
either_by None o l s t = s
either_by (Some r) o l s t = not_both r.0 r.1 o l s t

pub either : (words : List (List ℕ)) (o : Order) (l : ListOrder) → Says words (request.One o) → ¬ Says words (request.Many l)
either words o l s t = either_by (command words) o l s t
