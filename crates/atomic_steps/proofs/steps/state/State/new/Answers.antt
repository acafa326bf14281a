use Rattle.std.proofs.Common.{◌^◌, ◌∙◌, sym, subst, length, List, ◌≡◌, replicate, rules}
use Rattle.atomic_steps.specs.Steps.{opening}
use Rattle.atomic_steps.specs.Places.{held_places}
use Rattle.atomic_steps.specs.World.{WorldEntry}
use Rattle.atomic_steps.specs.EntryNumbers.{AreListed}
use Rattle.atomic_steps.proofs.lists.Numbers.{listed_none}
use Rattle.atomic_steps.proofs.steps.state.State.new.Goals as goal

pub returns-clause-ok : goal.returns-clause-ok
unfolding opening
returns-clause-ok c =
    let zeros : c.in_ok-lasts.lasts.items ≡ replicate (2 ^ c.args.buckets) 0 = search rules in
    λ i. record { limits = c.args.limits; lasts = zeros i; entries = c.new.ensures.items i; passes = c.new-2.ensures.items i; bag = held_places (c.new.ensures.items i) }

pub invariant_of-result : goal.invariant_of-result
invariant_of-result c = record {
  buckets = (let many : length c.in_ok-lasts.lasts.items ≡ 2 ^ c.args.buckets = search rules in many);
  lists = c.in_ok-linked.ensures.ok ∙ c.number-count.ensures.value;
  listed = subst (λ (es : List WorldEntry). AreListed es c.in_ok-linked.linked.items) (sym c.new.ensures.items) (listed_none c.in_ok-linked.linked.items);
}
