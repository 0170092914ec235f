-- `tasks::cycle_of` meets its contract: up to task i no multiple was above 4,096, so the next one fits.
use Rattle.std.proofs.Common.{rules, ◌≡◌, ◌∙◌, refl, ap, arith, Ok, ◌+◌}
use Rattle.std.proofs.Math.Numerals.{add-one}
use Rattle.basis.specs.Choose.{choose}
use Rattle.basis.specs.Answer.{clash, first_found, none_number}
use Rattle.tasks.specs.declared.Task.{Task}
use Rattle.tasks.specs.List.{no_task, task_at}
use Rattle.tasks.specs.Euclid.{lcm_of}
use Rattle.tasks.specs.Bounds.{of_cycle, cycle_of, multiple}
use Rattle.tasks.specs.Refusal.{bound_refusal}
use Rattle.tasks.proofs.Steps.{task_among, before_end, at_end, passes, refuses, nothing_here, found_here, exceeds, keeps_to, one_more_multiple}
use Rattle.tasks.proofs.cycle_of.Goals as goal

pub loop-i-init : goal.loop-i-init
unfolding multiple first_found
loop-i-init c = (omega arith, refl, none_number)

pub returns-then-next-gt4096 : goal.returns-then-next-gt4096
unfolding no_task of_cycle clash bound_refusal choose
returns-then-next-gt4096 c =
    let item = task_among c.args.list.now.tasks _ _ c.loop-i-test.true in
    let next = one_more_multiple _ _ _ _ c.loop-i.invariant.1 (c.lcm-next.ensures ∙ ap (λ (t : Task). lcm_of c.loop-i.multiple t.period) item) in
    let says : first_found (of_cycle c.args.list.now.tasks) c.args.list.now.count ≡ clash (c.loop-i.i + 1) c.loop-i.multiple (task_at c.args.list.now.tasks c.loop-i.i).period =
    rw (add-one c.loop-i.i, c.loop-i.invariant.1)
    (found_here (of_cycle c.args.list.now.tasks) _ _ _ (before_end c.args.list.now.tasks _ _ c.loop-i-test.true) c.loop-i.invariant.2
    (exceeds 4096 _ _ next _ (λ z. omega arith) c.if-next-gt4096.true) (λ z. omega arith)) in
    rw item (refuses (cycle_of c.args.list.now) _ (clash (c.loop-i.i + 1) c.loop-i.multiple (task_at c.args.list.now.tasks c.loop-i.i).period) says (λ z. omega arith))

pub loop-i-preserved : goal.loop-i-preserved
unfolding no_task of_cycle clash
loop-i-preserved c =
    let item = task_among c.args.list.now.tasks _ _ c.loop-i-test.true in
    let next = one_more_multiple _ _ _ _ c.loop-i.invariant.1 (c.lcm-next.ensures ∙ ap (λ (t : Task). lcm_of c.loop-i.multiple t.period) item) in
    (c.if-next-gt4096.false, rw (add-one _) next, nothing_here _ _ c.loop-i.invariant.2 (keeps_to 4096 _ _ next _ (λ z. omega arith) c.if-next-gt4096.false))

pub returns : goal.returns
unfolding cycle_of
returns c =
    let end : c.loop-i.i ≡ c.args.list.now.count = at_end c.args.list.now.tasks _ _ (search rules) (omega arith) (omega arith) in
    ap Ok (rw end at c.loop-i.invariant.1) ∙ passes (cycle_of c.args.list.now) _ (rw end at c.loop-i.invariant.2)
