-- `run::place` meets its contract.
use Rattle.std.proofs.Common.{◌≡◌, ◌+◌, sym, refl, ap, ◌∙◌, ap₂, arith, le-ltb, lt-ltb}
use Rattle.basis.specs.Choose.{choose_yes, choose_no}
use Rattle.basis.specs.Sum.{sum}
use Rattle.run.specs.State.{place_in}
use Rattle.run.proofs.Turns.{one_more_sum}
use Rattle.run.proofs.place.Goals as goal

pub returns-then-i-gt15 : goal.returns-then-i-gt15
returns-then-i-gt15 c = sym (choose_no _ _ _ (le-ltb c.args.i 16 (omega arith)))

pub loop-j-init : goal.loop-j-init
unfolding sum
loop-j-init c = (omega arith, refl)

pub loop-j-preserved : goal.loop-j-preserved
loop-j-preserved c = (omega (arith, c.times-jobs.ensures.1), ap (λ x. c.loop-j.jobs + x) c.times-jobs.ensures.0 ∙ one_more_sum _ _ _ c.loop-j.invariant.1)

pub returns : goal.returns
unfolding place_in
returns c = let end : c.loop-j.j ≡ c.args.i = omega arith in
    ap₂ ◌+◌ (rw end at c.loop-j.invariant.1) c.times.ensures.0 ∙ sym (choose_yes _ _ _ (lt-ltb c.args.i 16 (omega arith)))
