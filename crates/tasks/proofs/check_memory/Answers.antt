-- `tasks::check_memory` meets its contract: up to task i the memory is within the supply.
use Rattle.std.proofs.Common.{rules, ◌≡◌, ◌∙◌, refl, sym, ap, arith, ◌+◌, ◌≤◌}
use Rattle.std.proofs.Math.Numerals.{add-one}
use Rattle.basis.specs.Sum.{sum}
use Rattle.basis.specs.Choose.{choose}
use Rattle.basis.specs.Answer.{refusal, first_found, none_number}
use Rattle.tasks.specs.declared.Task.{Task}
use Rattle.tasks.specs.List.{no_task}
use Rattle.tasks.specs.Bounds.{of_memory, memory_sum}
use Rattle.tasks.specs.Refusal.{bound_refusal}
use Rattle.tasks.proofs.Steps.{task_among, before_end, at_end, passes, refuses, nothing_here, found_here, exceeds, keeps_to, one_more_memory}
use Rattle.tasks.proofs.check_memory.Goals as goal

pub loop-i-init : goal.loop-i-init
unfolding memory_sum sum first_found
loop-i-init c = (omega arith, refl, none_number)

pub returns-then-from-sum : goal.returns-then-from-sum
unfolding no_task of_memory refusal bound_refusal choose
returns-then-from-sum c =
    let summed = one_more_memory _ _ _ _ c.loop-i.invariant.1 (c.from-sum.ensures ∙ ap (λ (t : Task). t.memory) (task_among c.args.list.now.tasks _ _ c.loop-i-test.true)) in
    refuses tt _ (refusal 5 (c.loop-i.i + 1))
    (found_here _ _ _ _ (before_end c.args.list.now.tasks _ _ c.loop-i-test.true) c.loop-i.invariant.2
    (exceeds _ _ _ summed _ (λ z. omega arith) (omega (arith, c.from.ensures)) ∙ ap (refusal 5) (sym (add-one _))) (λ z. omega arith))
    (λ z. omega arith)

pub loop-i-preserved : goal.loop-i-preserved
unfolding no_task of_memory refusal
loop-i-preserved c =
    let summed = one_more_memory _ _ _ _ c.loop-i.invariant.1 (c.from-sum.ensures ∙ ap (λ (t : Task). t.memory) (task_among c.args.list.now.tasks _ _ c.loop-i-test.true)) in
    let within : c.loop-i.sum + c.from-sum.result ≤ c.args.supply = omega (arith, c.from.ensures) in
    (within, rw (add-one _) summed, nothing_here _ _ c.loop-i.invariant.2 (keeps_to _ _ _ summed _ (λ z. omega arith) within))

pub returns : goal.returns
returns c =
    let end : c.loop-i.i ≡ c.args.list.now.count = at_end c.args.list.now.tasks _ _ (search rules) (omega arith) (omega arith) in
    passes tt _ (rw end at c.loop-i.invariant.2)
