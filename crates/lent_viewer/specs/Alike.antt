-- Places beyond the task count do not matter to a viewer: what is written, read back or explained of one list is so of every list alike.
use Rattle.std.specs.Prelude.{◌≡◌, List, ◌⊎◌, ℕ, ◌+◌, ◌/◌, ◌<◌, Some, Ok, Err}
use Rattle.std.proofs.Math.Path.{sym, ap}
use Rattle.std.proofs.Common.{◌∙◌, subst, inl, inr, ⊎_elim, arith}
use Rattle.basis.specs.Bytes.{at}
use Rattle.plan.specs.Plan.{Demand}
use Rattle.needs.specs.Explained.{Explains}
use Rattle.tasks.specs.declared.Task.{Task}
use Rattle.tasks.specs.declared.TaskList.{TaskList}
use Rattle.tasks.specs.List.{task_at, plan_of}
use Rattle.tasks.specs.Bounds.{cycle_of, jobs_of}
use Rattle.verdict.specs.Verdict.{Verdict, verdict_of}
use Rattle.explain.specs.Seen.{Viewed, AfterList, NeedsIn, Yes, NoNeeds, Explained}
use Rattle.viewer.specs.Viewer.{Writes, NoForm, Of, ReadsBack, ExplainsFile}
use Rattle.lent.specs.Beyond.{verdict_same, cycle_same, jobs_same, filling_same}
use Rattle.lent.specs.Lent.{Alike}

-- ---- what is said after the list's own checks, or of a file's run
after_then : (F G : ℕ → ℕ → Type 0) (old new : List ℕ) (r : Viewed) → ((cycle jobs : ℕ) → F cycle jobs → G cycle jobs) → (v : Verdict) → AfterList v F old new r → AfterList v G old new r
unfolding AfterList
after_then F G old new r f (Ok a) h = f a.cycle a.jobs h
after_then F G old new r f (Err e) h = h

of_then : (F G : List ℕ → Type 0) (file old new : List ℕ) (r : Viewed) → ((run : List ℕ) → F run → G run) → NoForm file old new r ⊎ Of file F → NoForm file old new r ⊎ Of file G
of_then F G file old new r f h = ⊎_elim inl (λ (o : Of file F). inr (record { run = o.run; of_run = o.of_run; said = f o.run o.said })) h

-- ---- two lists of one count whose tasks are the same
abbrev Same : List Task → List Task → ℕ → Type 0
Same ts us n = (i : ℕ) → i < n → task_at ts i ≡ task_at us i

abbrev listed : List Task → ℕ → TaskList
listed ts n = record { tasks = ts; count = n }

module _ (ts us : List Task) (n : ℕ) (same : Same ts us n) where
  -- as many jobs of each task
  each_same : (i : ℕ) → i < n → cycle_of (listed ts n) / (plan_of (listed ts n)).period i ≡ cycle_of (listed us n) / (plan_of (listed us n)).period i
  unfolding plan_of
  each_same i li = λ j. cycle_same ts us n same j / (same i li j).period

  explains_same : (run : List ℕ) (need : Demand) → Explains (plan_of (listed ts n)) (cycle_of (listed ts n)) run need → Explains (plan_of (listed us n)) (cycle_of (listed us n)) run need
  unfolding plan_of
  explains_same run need h =
      record {
        needs_from = λ i k li lk. h.needs_from i k li (omega (arith, each_same i li));
        leads = λ t lt. sym (filling_same ts us n same need t) ∙ h.leads t (omega (arith, cycle_same ts us n same));
      }

module _ (ts us : List Task) (n : ℕ) (same : Same ts us n) where
  needs_in_same : (need : Demand) (old new : List ℕ) → NeedsIn (listed ts n) need old new → NeedsIn (listed us n) need old new
  unfolding plan_of jobs_of
  needs_in_same need old new h =
      record {
        long = h.long;
        each = λ i k li lk. ap (λ (x : ℕ). at new (x + k)) (sym (jobs_same ts us n same i (omega arith))) ∙ h.each i k li (omega (arith, each_same ts us n same i li));
        beyond = λ x lx. h.beyond x (omega (arith, jobs_same ts us n same n (omega arith)));
      }

  yes_same : (run old new : List ℕ) (r : Viewed) → Yes (listed ts n) run old new r → Yes (listed us n) run old new r
  unfolding plan_of jobs_of
  yes_same run old new r h =
      record {
        need = h.need;
        explains = explains_same ts us n same run h.need h.explains;
        just = λ i k li lk. omega (arith, h.just i k li (omega (arith, each_same ts us n same i li)), ap (λ (t : Task). t.runtime) (same i li));
        needs = needs_in_same h.need old new h.needs;
        answer = h.answer ∙ ap (λ (x : ℕ). Ok (Some x)) (jobs_same ts us n same n (omega arith));
      }

  -- Needs of the other list would be needs of this one.
  no_same : (run old new : List ℕ) (r : Viewed) → NoNeeds (listed ts n) run old new r → NoNeeds (listed us n) run old new r
  no_same run old new r h = record { none_lead = λ need e. h.none_lead need (explains_same us ts n (λ i li. sym (same i li)) run need e); answer = h.answer; bytes = h.bytes }

  explained_same : (run old new : List ℕ) (r : Viewed) (cycle jobs : ℕ) → Explained (listed ts n) run old new r cycle jobs → Explained (listed us n) run old new r cycle jobs
  explained_same run old new r cycle jobs h =
      record {
        refused = h.refused;
        said = λ e. ⊎_elim (λ (y : Yes (listed ts n) run old new r). inl (yes_same run old new r y)) (λ (x : NoNeeds (listed ts n) run old new r). inr (no_same run old new r x)) (h.said e);
      }

  after_same : (supply : ℕ) (F G : ℕ → ℕ → Type 0) (old new : List ℕ) (r : Viewed) → ((cycle jobs : ℕ) → F cycle jobs → G cycle jobs)
      → AfterList (verdict_of (listed ts n) supply) F old new r → AfterList (verdict_of (listed us n) supply) G old new r
  after_same supply F G old new r f h = subst (λ (v : Verdict). AfterList v G old new r) (verdict_same ts us n same supply) (after_then F G old new r f (verdict_of (listed ts n) supply) h)

  writes_same : (supply : ℕ) (run old new : List ℕ) (r : Viewed) → Writes (listed ts n) supply run old new r → Writes (listed us n) supply run old new r
  unfolding Writes
  writes_same supply run old new r = after_same supply _ _ old new r (λ cycle jobs h. record { answer = h.answer; bytes = h.bytes })

  reads_same : (supply : ℕ) (file old new : List ℕ) (r : Viewed) → ReadsBack (listed ts n) supply file old new r → ReadsBack (listed us n) supply file old new r
  unfolding ReadsBack
  reads_same supply file old new r = after_same supply _ _ old new r (λ cycle jobs. of_then _ _ file old new r (λ run h. record { answer = h.answer; bytes = h.bytes }))

  file_same : (supply : ℕ) (file old new : List ℕ) (r : Viewed) → ExplainsFile (listed ts n) supply file old new r → ExplainsFile (listed us n) supply file old new r
  unfolding ExplainsFile
  file_same supply file old new r = after_same supply _ _ old new r (λ cycle jobs. of_then _ _ file old new r (λ run. explained_same run old new r cycle jobs))

-- ---- lists alike
module _ (k l : TaskList) (a : Alike k l) (supply : ℕ) where
  -- what is so at one count is so
  counted : (F : TaskList → Type 0) → (F (listed k.tasks l.count) → F l) → F k → F l
  counted F f h = f (subst (λ (n : ℕ). F (listed k.tasks n)) a.count h)

  pub writes_alike : (run old new : List ℕ) (r : Viewed) → Writes k supply run old new r → Writes l supply run old new r
  writes_alike run old new r = counted (λ x. Writes x supply run old new r) (writes_same k.tasks l.tasks l.count a.tasks supply run old new r)

  pub reads_alike : (file old new : List ℕ) (r : Viewed) → ReadsBack k supply file old new r → ReadsBack l supply file old new r
  reads_alike file old new r = counted (λ x. ReadsBack x supply file old new r) (reads_same k.tasks l.tasks l.count a.tasks supply file old new r)

  pub explains_alike : (file old new : List ℕ) (r : Viewed) → ExplainsFile k supply file old new r → ExplainsFile l supply file old new r
  explains_alike file old new r = counted (λ x. ExplainsFile x supply file old new r) (file_same k.tasks l.tasks l.count a.tasks supply file old new r)
