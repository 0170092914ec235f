-- The walk back over the run of an accepted list: as far as it has come, every slice agrees.
use mathlib.Core.Path.{◌≡◌, sym, subst}
use mathlib.Core.Bool.{Bool, true, false, true≢false}
use mathlib.Core.List.{List}
use mathlib.Core.Logic.{⊎_elim}
use Prim.Native.Nat.{ℕ, suc, ◌≤◌, ◌<◌, ◌∣◌}
use native.Mathlib.Omega.{arith}
use lib.ListN.{replicate}
use Rattle.basis.specs.Bytes.{at}
use Rattle.basis.specs.Choose.{eq_or_ne}
use Rattle.plan.specs.Plan.{Sound}
use Rattle.plan.specs.Order.{FirstIn}
use Rattle.tasks.specs.declared.TaskList.{TaskList}
use Rattle.tasks.specs.List.{plan_of}
use Rattle.tasks.specs.Bounds.{cycle_of}
use Rattle.tasks.specs.Kept.{KeepsBounds}
use Rattle.tasks.proofs.Kept.{plan_sound, period_divides_cycle}
use Rattle.ranking.specs.declared.Ranked.{Ranked}
use Rattle.ranking.specs.Ranks.{Ranks, Shows, ranked_shows}
use Rattle.explain.specs.Shapes.{SeenRun, Leads, CanGoBack, Back, waits_at, CanWait}
use Rattle.explain.proofs.Agreeing.{Agrees, given_fits, agreeing_explains, explained_agrees}
use Rattle.explain.proofs.Walking.{StandsAt, stands_first, can_go_back, stands_next, not_fitting, can_wait, agrees, goes_otherwise}

pub record AgreesFrom (l : TaskList) (run order : List ℕ) (u : ℕ) (starts got : List ℕ) : Type 0 where
  pub stands : StandsAt (plan_of l) run order u starts got
  pub agreed : (s : ℕ) → u ≤ s → s < cycle_of l → Agrees (plan_of l) run s

abbrev none : List ℕ
none = replicate 16 0

module _ (l : TaskList) (cycle : ℕ) (run : List ℕ) (seen : SeenRun l cycle run) where
  abbrev K : KeepsBounds l seen.bounded.supply
  K = seen.bounded.keeps

  sound : Sound (plan_of l)
  sound = plan_sound l seen.bounded.supply K

  divides : (i : ℕ) → i < (plan_of l).count → (plan_of l).period i ∣ cycle_of l
  unfolding plan_of
  divides = period_divides_cycle l seen.bounded.supply K

  small : (i : ℕ) → i < (plan_of l).count → (plan_of l).period i ≤ 4096
  unfolding plan_of
  small i li = (K.fits i li).period_to

  some : (i k : ℕ) → i < (plan_of l).count → 1 ≤ (plan_of l).runtime i k
  unfolding plan_of
  some i k li = (K.fits i li).runtime_from

  few : (plan_of l).count ≤ 16
  unfolding plan_of
  few = K.few

  -- One slice that does not agree, and no needs lead to the run; all agree, and what it gives each job does.
  disagrees : (t : ℕ) → t < cycle_of l → (Agrees (plan_of l) run t → ⊥) → Leads l run false
  disagrees t lt never = record {
    yes = λ e. absurd (true≢false (sym e));
    within = λ e. absurd (true≢false (sym e));
    no = λ _ need explains. never (explained_agrees (plan_of l) sound (cycle_of l) divides run seen.on_time some need explains t lt);
  }

  pub all_agree : (order starts got : List ℕ) → AgreesFrom l run order 0 starts got → Leads l run true
  unfolding plan_of
  all_agree order starts got A =
      let every : (t : ℕ) → t < cycle_of l → Agrees (plan_of l) run t = λ t lt. A.agreed t (omega arith) lt in
      record {
        yes = λ _. agreeing_explains (plan_of l) sound (cycle_of l) divides run every;
        within = λ _ i k li lk. (given_fits (plan_of l) sound (cycle_of l) divides run every i k li lk).1;
        no = λ e. absurd (true≢false e);
      }

  module _ (fresh ranked : Ranked) (zeros : fresh ≡ record { order = none; periods = none; dues = none; runtimes = none })
      (ranks : Ranks l fresh.order fresh.periods fresh.dues fresh.runtimes ranked.order ranked.periods ranked.dues ranked.runtimes) where
    abbrev order : List ℕ
    order = ranked.order

    abbrev periods : List ℕ
    periods = ranked.periods

    abbrev dues : List ℕ
    dues = ranked.dues

    abbrev runtimes : List ℕ
    runtimes = ranked.runtimes

    shows : Shows (plan_of l) order periods dues runtimes
    shows = ranked_shows l K.few order periods dues runtimes (rw zeros at ranks)

    pub agrees_first : AgreesFrom l run order cycle (replicate 16 cycle) none
    agrees_first = record {
      stands = stands_first (plan_of l) sound run order periods dues runtimes shows cycle few (omega (arith, seen.whole)) (λ i li. rw seen.cycle_is (divides i li));
      agreed = λ s a b. absurd (omega (arith, seen.cycle_is));
    }

    module _ (u t : ℕ) (e : suc t ≡ u) (lu : u ≤ cycle) (starts got : List ℕ) (H : AgreesFrom l run order u starts got) where
      stands : StandsAt (plan_of l) run order (suc t) starts got
      stands = rw e H.stands

      short : t < 4096
      short = omega (arith, seen.cycle_is, K.cycle_within)

      inside : t < cycle_of l
      inside = omega (arith, seen.cycle_is)

      pub back_allowed : CanGoBack order periods starts got l.count t
      unfolding plan_of
      back_allowed = can_go_back (plan_of l) sound run order periods dues runtimes shows t starts got stands few short small

      module _ (entry : ℕ) (is : entry ≡ at run t) (starts' got' : List ℕ) (fit : Bool) (B : Back order periods runtimes starts got l.count t entry starts' got' fit) where
        pub unfit_leads : fit ≡ false → Leads l run false
        unfolding plan_of
        unfit_leads no-fit = disagrees t inside (not_fitting (plan_of l) sound run order periods dues runtimes shows t starts got stands entry is starts' got' fit B no-fit)

        pub look_allowed : CanWait order dues starts' l.count
        unfolding plan_of
        look_allowed = can_wait (plan_of l) sound run order periods dues runtimes shows t starts got stands entry is starts' got' fit B few short small

        module _ (next : ℕ) (F : FirstIn order (waits_at dues starts' got' t) l.count next) where
          pub other_leads : (next ≡ entry → ⊥) → Leads l run false
          unfolding plan_of
          other_leads ne = disagrees t inside (goes_otherwise (plan_of l) sound run order periods dues runtimes shows t starts got stands entry is starts' got' fit B next F ne)

          pub agrees_more : fit ≡ true → next ≡ entry → AgreesFrom l run order t starts' got'
          unfolding plan_of
          agrees_more fits same = record {
            stands = stands_next (plan_of l) sound run order periods dues runtimes shows t starts got stands entry is starts' got' fit B;
            agreed = λ s a b.
                ⊎_elim
                (λ (q : t ≡ s). subst (Agrees (plan_of l) run) q (agrees (plan_of l) sound run order periods dues runtimes shows t starts got stands entry is starts' got' fit B next F fits same))
                (λ (ne : t ≡ s → ⊥). H.agreed s (omega arith) b)
                (eq_or_ne t s);
          }
