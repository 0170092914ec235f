-- What judging and building answer at each way out, as laws over plain values.
use Rattle.std.proofs.Common.{◌≡◌, ℕ, ◌<◌, ◌≤◌, List, length, replicate, Ok, Err, sym, refl, ap, ◌∙◌, ⊎_elim, arith, le-ltb, lt-ltb, eq-eqb, ne_eqb}
use Rattle.basis.specs.Bytes.{at, overwrite, overwrite_same}
use Rattle.basis.specs.Choose.{choose_yes, choose_no, eq_or_ne}
use Rattle.plan.specs.Plan.{table}
use Rattle.tasks.specs.declared.TaskList.{TaskList}
use Rattle.tasks.specs.List.{plan_of}
use Rattle.tasks.specs.Bounds.{cycle_of, bounds_of}
use Rattle.tasks.specs.Kept.{Bounded}
use Rattle.tasks.proofs.Kept.{kept_tells}
use Rattle.ranking.specs.declared.Ranked.{Ranked}
use Rattle.ranking.specs.Ranks.{Ranks, ranked_shows}
use Rattle.verdict.specs.Lateness.{lateness}
use Rattle.verdict.specs.Walk.{Shown}
use lib.IntN.{sub_ℕ}
use Rattle.tasks.specs.declared.InBounds.{InBounds}
use Rattle.tasks.specs.declared.refusals.Refusal.{Refusal}
use Rattle.tasks.specs.declared.refusals.Refusal.TheVariants.{Late, ShortTable}
use Rattle.verdict.specs.declared.Accepted.{Accepted}
use Rattle.verdict.specs.Verdict.{Verdict, accepted, judged, verdict_from, verdict_of}
use Rattle.verdict.specs.Table.{fitted, tabled, Built}
use Rattle.verdict.specs.Settling.{Concluded, Settled}

abbrev none : List ℕ
none = replicate 16 0

abbrev pub shown : (l : TaskList) (cycle : ℕ) → Bounded l → cycle ≡ cycle_of l → (fresh ranked : Ranked) → fresh ≡ record { order = none; periods = none; dues = none; runtimes = none }
    → Ranks l fresh.order fresh.periods fresh.dues fresh.runtimes ranked.order ranked.periods ranked.dues ranked.runtimes → Shown l.count cycle ranked
shown l cycle bounded cycle_is fresh ranked none_yet R = record {
  list = l;
  bounded = bounded;
  count_is = refl;
  cycle_is = cycle_is;
  shows = ranked_shows l bounded.keeps.few ranked.order ranked.periods ranked.dues ranked.runtimes (rw none_yet at R);
}

-- ---- the table of a list that keeps all bounds
module _ (l : TaskList) (cycle jobs : ℕ) (r : Verdict) (is-judged : r ≡ judged (plan_of l) cycle jobs (lateness (plan_of l) cycle)) where
  abbrev late_task : ℕ
  late_task = (lateness (plan_of l) cycle).task

  is_accepted : late_task ≡ 0 → r ≡ Ok (accepted (plan_of l) cycle jobs)
  unfolding judged
  is_accepted none = is-judged ∙ choose_yes _ _ _ (eq-eqb late_task 0 none)

  is_refused : (late_task ≡ 0 → ⊥) → r ≡ Err (Late late_task (sub_ℕ 0 (lateness (plan_of l) cycle).short))
  unfolding judged
  is_refused some = is-judged ∙ choose_no _ _ _ (ne_eqb late_task 0 some)

  accepted_on_time : (a : Accepted) → r ≡ Ok a → late_task ≡ 0
  accepted_on_time a q =
      ⊎_elim
      (λ (none : late_task ≡ 0). none)
      (λ (some : late_task ≡ 0 → ⊥). let e = is_refused some in let z : ◌≡◌ {A = ℕ} 0 1 = cc in absurd (omega arith))
      (eq_or_ne late_task 0)

  module _ (old : List ℕ) where
    pub settled_refused : (e : Refusal) → r ≡ Err e → Settled l cycle jobs old old (Err e)
    unfolding fitted tabled
    settled_refused e q = record { answer = sym q ∙ is-judged; bytes = refl }

    pub settled_short : length old < cycle → Settled l cycle jobs old old r
    unfolding fitted tabled
    settled_short h = record {
      answer = is-judged;
      bytes =
          ⊎_elim
          (λ (none : late_task ≡ 0).
          ap (λ (x : Verdict). tabled l x old) (sym (choose_yes _ _ _ (lt-ltb (length old) cycle h))) ∙ ap (λ (x : Verdict). tabled l (fitted x (length old)) old) (sym (is_accepted none)))
          (λ (some : late_task ≡ 0 → ⊥). ap (λ (x : Verdict). tabled l (fitted x (length old)) old) (sym (is_refused some)))
          (eq_or_ne late_task 0);
    }

    -- the entries written aside are copied
    pub settled_whole : (a : Accepted) → r ≡ Ok a → cycle ≤ length old → (room : ℕ) (entries new : List ℕ) → cycle ≤ room → Concluded l cycle jobs room entries r
        → new ≡ overwrite (at entries) cycle old → Settled l cycle jobs old new (Ok a)
    unfolding fitted tabled
    settled_whole a q h room entries new enough cycle_is e =
        let none = accepted_on_time a q in
        record {
          answer = sym q ∙ is-judged;
          bytes =
              e
              ∙ overwrite_same (at entries) (table (plan_of l)) old cycle (cycle_is.entries none enough)
              ∙ ap (λ (x : Verdict). tabled l x old) (sym (choose_no _ _ _ (le-ltb (length old) cycle h)))
              ∙ ap (λ (x : Verdict). tabled l (fitted x (length old)) old) (sym (is_accepted none) ∙ q);
        }

-- ---- the verdict
module _ (l : TaskList) (supply : ℕ) (old : List ℕ) where
  -- A bound is broken,
  pub settle_broken : (r : Refusal) → bounds_of l supply ≡ Err r → (Err r ≡ verdict_of l supply) × (old ≡ tabled l (fitted (Err r) (length old)) old)
  unfolding verdict_of verdict_from fitted tabled
  settle_broken r e = (sym (ap (verdict_from l) e), refl)

  module _ (k : InBounds) (e : bounds_of l supply ≡ Ok k) where
    -- or all are kept: the list is as the private contracts ask.
    pub kept_bounded : Bounded l × (k.cycle ≡ cycle_of l)
    kept_bounded = let kept = kept_tells l supply k e in (record { supply = supply; keeps = kept.keeps }, kept.cycle_is)

    pub settle_kept : (new : List ℕ) (r : Verdict) → Settled l k.cycle k.jobs old new r → (r ≡ verdict_of l supply) × (new ≡ tabled l (fitted r (length old)) old)
    unfolding verdict_of verdict_from
    settle_kept new r S = (S.answer ∙ sym (ap (verdict_from l) e), S.bytes)

-- ---- the table: refusal 8 comes last
module _ (l : TaskList) (supply : ℕ) (old new : List ℕ) (v : Verdict) (S : (v ≡ verdict_of l supply) × (new ≡ tabled l (fitted v (length old)) old)) where
  built : (r : Verdict) → r ≡ fitted v (length old) → Built l supply old new r
  built r e = record { answer = e ∙ ap (λ (x : Verdict). fitted x (length old)) S.0; bytes = S.1 ∙ ap (λ (x : Verdict). tabled l x old) (sym e) }

  pub built_refused : (r : Refusal) → v ≡ Err r → Built l supply old new (Err r)
  unfolding fitted
  built_refused r q = built (Err r) (ap (λ (x : Verdict). fitted x (length old)) (sym q))

  module _ (a : Accepted) (q : v ≡ Ok a) where
    pub built_short : length old < a.cycle → Built l supply old new (Err ShortTable)
    unfolding fitted
    built_short h = built (Err ShortTable) (sym (choose_yes _ _ _ (lt-ltb (length old) a.cycle h)) ∙ ap (λ (x : Verdict). fitted x (length old)) (sym q))

    pub built_whole : a.cycle ≤ length old → Built l supply old new (Ok a)
    unfolding fitted
    built_whole h = built (Ok a) (sym (choose_no _ _ _ (le-ltb (length old) a.cycle h)) ∙ ap (λ (x : Verdict). fitted x (length old)) (sym q))
