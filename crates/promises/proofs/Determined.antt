-- Each public contract determines the answer and every lent byte afterwards: any two answers that keep it are equal. Each theorem
-- names the function whose contract it repeats.
use Rattle.std.specs.Prelude.{◌≡◌, List, ◌⊎◌, ℕ, zero, suc, ◌+◌, ◌-◌, ◌≤◌, ◌<◌, nat_lt, ℤ, length, take, replicate, Option, Result}
use Rattle.std.proofs.Math.Path.{sym, ap}
use Rattle.std.proofs.Common.{ap₂, subst, ◌∙◌, inl, inr, arith}
use Rattle.std.proofs.Math.Logic.{⊎_elim}
use Rattle.std.proofs.Math.Seq.{ext_get_or}
use Rattle.basis.specs.Bytes.{at, overwrite_same}
use Rattle.basis.specs.Choose.{choose, le_or_lt, eq_or_ne}
use Rattle.basis.specs.Sum.{sum}
use Rattle.plan.specs.Plan.{Demand, key_in}
use Rattle.plan.proofs.Order.{one_order}
use Rattle.needs.specs.Candidate.{one_explanation}
use Rattle.tasks.specs.declared.TaskList.{TaskList}
use Rattle.tasks.specs.declared.refusals.Refusal.{Refusal}
use Rattle.tasks.specs.declared.InBounds.{InBounds}
use Rattle.tasks.specs.List.{list_of, plan_of, due_of, key_of, runtime_of}
use Rattle.tasks.specs.Refusal.{refusal_answer}
use Rattle.tasks.specs.Euclid.{lcm_of}
use Rattle.tasks.specs.Bounds.{bounds_of, cycle_of, job_sum, jobs_of}
use Rattle.ranking.specs.declared.Ranked.{Ranked}
use Rattle.ranking.specs.Ranks.{Ranks}
use Rattle.quick.specs.declared.Refused.{Refused}
use Rattle.quick.specs.Quick.{quick_of}
use Rattle.verdict.specs.Verdict.{Verdict, verdict_of}
use Rattle.verdict.specs.Answers.{OnTimeAll}
use Rattle.verdict.specs.Table.{tabled, Built}
use Rattle.run.specs.declared.Mode.{Mode}
use Rattle.start.specs.declared.Started.{Started}
use Rattle.start.specs.Start.{Begins}
use Rattle.run.specs.declared.State.{State}
use Rattle.run.specs.declared.Refusal.{Refusal as RunRefusal}
use Rattle.run.specs.declared.Next.{Next}
use Rattle.run.specs.Who.{number_of, who_of}
use Rattle.run.specs.State.{place_in}
use Rattle.run.specs.Step.{Stepped, SteppedIn}
use Rattle.readings.specs.declared.Entry.{Entry}
use Rattle.readings.specs.declared.Refusal.{Refusal as ReadRefusal}
use Rattle.readings.specs.declared.Logged.{Logged}
use Rattle.readings.specs.Reading.{entry_of, refusal_of, logged_of}
use Rattle.units.specs.Conversion.{runtime_slices, period_slices, deadline_slices}
use Rattle.records.specs.declared.BadLine.{BadLine}
use Rattle.records.specs.Grammar.{read_of, Reads}
use Rattle.records.proofs.Reading.{reads_one}
use Rattle.printing.specs.Text.{refusal_text, clash_text, quick_text, table_text, needs_text, no_text}
use Rattle.printing.specs.Written.{Written, written_one}
use Rattle.output.specs.Explain.{ExplainPrints}
use Rattle.output.specs.Determined.{one_explanation_printed}
use Rattle.tasks.specs.declared.Task.{Task}
use Rattle.bench.specs.declared.Driven.{Driven}
use Rattle.bench.specs.Course.{Course, need_in, SliceClosed, course_at}
use Rattle.bench.specs.Drive.{task_in, begun, Drives}
use Rattle.vcd.specs.Form.{vcd_text}
use Rattle.vcd.specs.OneRun.{of_one_run}
use Rattle.vcd.specs.Beginnings.{longest_one}
use Rattle.dump.specs.Wrote.{Wrote}
use Rattle.readback.specs.declared.Deviation.{Deviation}
use Rattle.readback.specs.Reads.{Reads as FileReads}
use Rattle.readback.specs.Determined.{determined as file-determined}
use Rattle.explain.specs.Seen.{Viewed, refused_by, AfterList, run_number, checked_of, NeedsIn, Yes, NoNeeds, Explained, ExplainsRun}
use Rattle.viewer.specs.Viewer.{shown, Writes, NoForm, Of, ReadsRun, ReadsBack, ExplainsFile}
use Rattle.promises.specs.Demand3.{jobs_in}
use Rattle.promises.proofs.ViewerHolds.{Passed, ByList, after_list, sound, divides}
use Rattle.promises.specs.Determined.{SameDrive}

-- A place below a sum lies in one of its parts: each place of the needs is that of a job.
record PartOf (f : ℕ → ℕ) (n x : ℕ) : Type 0 where
  part : ℕ
  place : ℕ
  below : part < n
  inside : place < f part
  is : x ≡ sum f part + place

-- Of no task yet: all zeros.
abbrev none_ranked : Ranked
none_ranked = record { order = replicate 16 0; periods = replicate 16 0; dues = replicate 16 0; runtimes = replicate 16 0 }

-- A contract that is an equation leaves one answer, whatever the function.
pub one_answer : {A : Type 0} {x r r' : A} → r ≡ x → r' ≡ x → r ≡ r'
one_answer e e' = e ∙ sym e'

-- tasks: lcm, check_bounds
pub lcm : (a b r r' : ℕ) → r ≡ lcm_of a b → r' ≡ lcm_of a b → r ≡ r'
lcm a b r r' e e' = one_answer e e'

pub check_bounds : (l : TaskList) (supply : ℕ) (r r' : Result InBounds Refusal) → r ≡ bounds_of l supply → r' ≡ bounds_of l supply → r ≡ r'
check_bounds l supply r r' e e' = one_answer e e'

-- tasks: of a task, due_of, key_of, runtime_of
pub due_of_task : (t : Task) (r r' : ℕ) → r ≡ due_of t → r' ≡ due_of t → r ≡ r'
due_of_task t r r' e e' = one_answer e e'

pub key_of_task : (t : Task) (r r' : ℕ) → ((k : ℕ) → r ≡ key_of t k) → ((k : ℕ) → r' ≡ key_of t k) → r ≡ r'
key_of_task t r r' e e' = one_answer (e 0) (e' 0)

pub runtime_of_task : (t : Task) (r r' : ℕ) → ((k : ℕ) → r ≡ runtime_of t k) → ((k : ℕ) → r' ≡ runtime_of t k) → r ≡ r'
runtime_of_task t r r' e e' = one_answer (e 0) (e' 0)

-- tasks: of a refusal, number, task, margin, reached, period
pub refusal_number : (x : Refusal) (r r' : ℕ) → r ≡ (refusal_answer x).number → r' ≡ (refusal_answer x).number → r ≡ r'
refusal_number x r r' e e' = one_answer e e'

pub refusal_task : (x : Refusal) (r r' : ℕ) → r ≡ (refusal_answer x).task → r' ≡ (refusal_answer x).task → r ≡ r'
refusal_task x r r' e e' = one_answer e e'

pub refusal_margin : (x : Refusal) (r r' : ℤ) → r ≡ (refusal_answer x).margin → r' ≡ (refusal_answer x).margin → r ≡ r'
refusal_margin x r r' e e' = one_answer e e'

pub refusal_reached : (x : Refusal) (r r' : ℕ) → r ≡ (refusal_answer x).reached → r' ≡ (refusal_answer x).reached → r ≡ r'
refusal_reached x r r' e e' = one_answer e e'

pub refusal_period : (x : Refusal) (r r' : ℕ) → r ≡ (refusal_answer x).period → r' ≡ (refusal_answer x).period → r ≡ r'
refusal_period x r r' e e' = one_answer e e'

-- ranking: unranked; by_rank, with the four arrays
pub unranked : (r r' : Ranked) → r ≡ none_ranked → r' ≡ none_ranked → r ≡ r'
unranked r r' e e' = one_answer e e'

pub by_rank : (l : TaskList) (old ranked ranked' : Ranked)
    → Ranks l old.order old.periods old.dues old.runtimes ranked.order ranked.periods ranked.dues ranked.runtimes
    → Ranks l old.order old.periods old.dues old.runtimes ranked'.order ranked'.periods ranked'.dues ranked'.runtimes → ranked ≡ ranked'
unfolding plan_of
by_rank l old ranked ranked' R R' =
    ⊎_elim
    (λ (few : l.count ≤ 16).
    let one = R.few few in
    let other = R'.few few in
    let same = one_order (key_in (plan_of l) 0) l.count one.sorted other.sorted (one.ranked 0) (other.ranked 0) in
    arrays_same
    (one.order_is ∙ overwrite_same _ _ old.order l.count (λ k lk. same k lk) ∙ sym other.order_is)
    (one.periods_are ∙ overwrite_same _ _ old.periods l.count (λ k lk. ap (plan_of l).period (same k lk)) ∙ sym other.periods_are)
    (one.dues_are ∙ overwrite_same _ _ old.dues l.count (λ k lk. ap (plan_of l).due (same k lk)) ∙ sym other.dues_are)
    (one.runtimes_are ∙ overwrite_same _ _ old.runtimes l.count (λ k lk. ap (λ (i : ℕ). (plan_of l).runtime i 0) (same k lk)) ∙ sym other.runtimes_are))
    (λ (many : 16 < l.count).
    let one = R.too_many many in
    let other = R'.too_many many in
    arrays_same (one_answer one.0 other.0) (one_answer one.1 other.1) (one_answer one.2 other.2) (one_answer one.3 other.3))
    (le_or_lt l.count 16)
  where
    arrays_same : ranked.order ≡ ranked'.order → ranked.periods ≡ ranked'.periods → ranked.dues ≡ ranked'.dues → ranked.runtimes ≡ ranked'.runtimes → ranked ≡ ranked'
    arrays_same o p d r = λ k. record { order = o k; periods = p k; dues = d k; runtimes = r k }

-- quick: ask; lent: ask_list; and over the lent list, ask_lent
pub ask : (l : TaskList) (supply : ℕ) (r r' : Result (Unit {0}) Refused) → r ≡ quick_of l supply → r' ≡ quick_of l supply → r ≡ r'
ask l supply r r' e e' = one_answer e e'

pub ask_lent : (ts : List Task) (supply : ℕ) (r r' : Result (Unit {0}) Refused) → r ≡ quick_of (list_of ts) supply → r' ≡ quick_of (list_of ts) supply → r ≡ r'
ask_lent ts supply r r' e e' = one_answer e e'

-- verdict: judge; lent: judge_list
pub judge : (l : TaskList) (supply : ℕ) (r r' : Verdict) → r ≡ verdict_of l supply → r' ≡ verdict_of l supply → r ≡ r'
judge l supply r r' e e' = one_answer e e'

-- verdict: build, with the table; lent: build_list
pub build : (l : TaskList) (supply : ℕ) (old new new' : List ℕ) (r r' : Verdict) → Built l supply old new r → Built l supply old new' r' → (r ≡ r') × (new ≡ new')
build l supply old new new' r r' one other =
    (one_answer one.answer other.answer, one.bytes ∙ ap (λ (v : Verdict). tabled l v old) (one_answer one.answer other.answer) ∙ sym other.bytes)

-- start: start, with the log; lent: start_list
pub start : (l : TaskList) (supply : ℕ) (asked : Option Mode) (clock : ℕ) (log new new' : List ℕ) (r r' : Started)
    → Begins l supply asked clock log new r → Begins l supply asked clock log new' r' → (r ≡ r') × (new ≡ new')
start l supply asked clock log new new' r r' one other =
    (ap₂ (λ (a : Result (Unit {0}) Refusal) (s : State). record { answer = a; state = s }) (one_answer one.answer other.answer) (one_answer one.state other.state), one_answer one.bytes other.bytes)

-- lent: judge_lent, build_lent, start_lent, of the list that the records make
pub judge_lent : (ts : List Task) (supply : ℕ) (r r' : Verdict) → r ≡ verdict_of (list_of ts) supply → r' ≡ verdict_of (list_of ts) supply → r ≡ r'
judge_lent ts supply r r' e e' = one_answer e e'

pub build_lent : (ts : List Task) (supply : ℕ) (old new new' : List ℕ) (r r' : Verdict) → Built (list_of ts) supply old new r → Built (list_of ts) supply old new' r' → (r ≡ r') × (new ≡ new')
build_lent ts supply = build (list_of ts) supply

pub start_lent : (ts : List Task) (supply : ℕ) (asked : Option Mode) (clock : ℕ) (log new new' : List ℕ) (r r' : Started)
    → Begins (list_of ts) supply asked clock log new r → Begins (list_of ts) supply asked clock log new' r' → (r ≡ r') × (new ≡ new')
start_lent ts supply = start (list_of ts) supply

-- run: of a refusal, number
pub run_refusal_number : (x : RunRefusal) (r r' : ℕ) → r ≡ number_of x → r' ≡ number_of x → r ≡ r'
run_refusal_number x r r' e e' = one_answer e e'

-- run: who
pub who : (s : State) (table : List ℕ) (r r' : Result (Option ℕ) RunRefusal) → r ≡ who_of s table → r' ≡ who_of s table → r ≡ r'
who s table r r' e e' = one_answer e e'

-- run: step, with the log
pub step : (s : State) (table : List ℕ) (clock report : ℕ) (log new new' : List ℕ) (r r' : Next)
    → Stepped s table clock report log new r → Stepped s table clock report log new' r' → (r ≡ r') × (new ≡ new')
step s table clock report log new new' r r' S S' =
    (ap₂ (λ (a : Result (Unit {0}) RunRefusal) (x : State). record { answer = a; state = x }) (one_answer S.answer S'.answer) (one_answer S.state S'.state), one_answer S.bytes S'.bytes)

-- run: step_in_place, with the state and the log; place
pub step_in_place : (s : State) (table : List ℕ) (clock report : ℕ) (log new new' : List ℕ) (after after' : State) (r r' : Result (Unit {0}) RunRefusal)
    → SteppedIn s table clock report log new after r → SteppedIn s table clock report log new' after' r' → (r ≡ r') × (new ≡ new') × (after ≡ after')
step_in_place s table clock report log new new' after after' r r' S S' = (one_answer S.answer S'.answer, one_answer S.bytes S'.bytes, one_answer S.state S'.state)

pub place : (periods : List ℕ) (cycle position i r r' : ℕ) → r ≡ choose (nat_lt i 16) (place_in periods cycle position i) 0 → r' ≡ choose (nat_lt i 16) (place_in periods cycle position i) 0 → r ≡ r'
place periods cycle position i r r' e e' = one_answer e e'

-- readings: read_entry, read_refusal, read_logged
pub read_entry : (byte count : ℕ) (r r' : Entry) → r ≡ entry_of byte count → r' ≡ entry_of byte count → r ≡ r'
read_entry byte count r r' e e' = one_answer e e'

pub read_refusal : (number : ℕ) (r r' : ReadRefusal) → r ≡ refusal_of number → r' ≡ refusal_of number → r ≡ r'
read_refusal number r r' e e' = one_answer e e'

pub read_logged : (byte : ℕ) (r r' : Logged) → r ≡ logged_of byte → r' ≡ logged_of byte → r ≡ r'
read_logged byte r r' e e' = one_answer e e'

-- units: runtime_slices, period_slices, deadline_slices
pub runtime_slices_lem : (micros slice tick : ℕ) (r r' : Option ℕ) → r ≡ runtime_slices micros slice tick → r' ≡ runtime_slices micros slice tick → r ≡ r'
runtime_slices_lem micros slice tick r r' e e' = one_answer e e'

pub period_slices_lem : (micros slice : ℕ) (r r' : Option ℕ) → r ≡ period_slices micros slice → r' ≡ period_slices micros slice → r ≡ r'
period_slices_lem micros slice r r' e e' = one_answer e e'

pub deadline_slices_lem : (micros slice : ℕ) (r r' : Option ℕ) → r ≡ deadline_slices micros slice → r' ≡ deadline_slices micros slice → r ≡ r'
deadline_slices_lem micros slice r r' e e' = one_answer e e'

-- records: read_list
pub read_list : (input : List ℕ) (r r' : Result TaskList BadLine) → Reads input (read_of r) → Reads input (read_of r') → r ≡ r'
read_list input r r' R R' = reads_one r r' R R'

-- printing: write_refusal, write_clash, write_quick, write_table, with the lent bytes
pub write_refusal : (number task : ℕ) (margin : ℤ) (old new new' : List ℕ) (r r' : ℕ)
    → Written (refusal_text number task margin) old new r → Written (refusal_text number task margin) old new' r' → (r ≡ r') × (new ≡ new')
write_refusal number task margin old new new' r r' W W' = written_one W W'

pub write_clash : (reached period : ℕ) (old new new' : List ℕ) (r r' : ℕ) → Written (clash_text reached period) old new r → Written (clash_text reached period) old new' r' → (r ≡ r') × (new ≡ new')
write_clash reached period old new new' r r' W W' = written_one W W'

pub write_quick : (number task : ℕ) (old new new' : List ℕ) (r r' : ℕ) → Written (quick_text number task) old new r → Written (quick_text number task) old new' r' → (r ≡ r') × (new ≡ new')
write_quick number task old new new' r r' W W' = written_one W W'

pub write_table : (table : List ℕ) (cycle : ℕ) (old new new' : List ℕ) (r r' : ℕ)
    → Written (table_text (take cycle table)) old new r → Written (table_text (take cycle table)) old new' r' → (r ≡ r') × (new ≡ new')
write_table table cycle old new new' r r' W W' = written_one W W'

pub write_needs : (jobs needs old new new' : List ℕ) (r r' : ℕ) → Written (needs_text needs (at jobs) 16) old new r → Written (needs_text needs (at jobs) 16) old new' r' → (r ≡ r') × (new ≡ new')
write_needs jobs needs old new new' r r' W W' = written_one W W'

pub write_no : (old new new' : List ℕ) (r r' : ℕ) → Written no_text old new r → Written no_text old new' r' → (r ≡ r') × (new ≡ new')
write_no old new new' r r' W W' = written_one W W'

-- bench: task_in; close_slice and drive, with the lent bytes and ends
pub task_in_lem : (period runtime memory deadline slice tick : ℕ) (r r' : Task) → r ≡ task_in period runtime memory deadline slice tick → r' ≡ task_in period runtime memory deadline slice tick → r ≡ r'
task_in_lem period runtime memory deadline slice tick r r' e e' = one_answer e e'

pub close_slice : (table : List ℕ) (need : Demand) (c : Course) (log log' ends ends' : List ℕ) (r r' : Next)
    → SliceClosed table need c log ends r → SliceClosed table need c log' ends' r' → (r ≡ r') × (log ≡ log') × (ends ≡ ends')
close_slice table need c log log' ends ends' r r' S S' =
    let after = one_answer S.after S'.after in (
      ap₂ (λ (a : Result (Unit {0}) RunRefusal) (x : State). record { answer = a; state = x }) (one_answer S.answer S'.answer) (ap (λ (x : Course). x.state) after),
      ap (λ (x : Course). x.log) after,
      ap (λ (x : Course). x.ends) after,
    )

pub drive : (l : TaskList) (supply : ℕ) (asked : Option Mode) (clock : ℕ) (needs table new new' log log₁ log₂ ends ends₁ ends₂ : List ℕ) (r r' : Driven)
    → Drives l supply asked clock needs table new log log₁ ends ends₁ r → Drives l supply asked clock needs table new' log log₂ ends ends₂ r' → SameDrive new new' log₁ log₂ ends₁ ends₂ r r'
drive l supply asked clock needs table new new' log log₁ log₂ ends ends₁ ends₂ r r' D D' =
    let built = build l supply table new new' r.built r'.built D.built D'.built in
    let whole : ◌≡◌ {A = Course} (record { state = r.state; log = log₁; ends = ends₁ }) (record { state = r'.state; log = log₂; ends = ends₂ }) =
    D.whole ∙ ap (λ (t : List ℕ). course_at t (need_in needs (begun l supply asked clock log ends).state) (begun l supply asked clock log ends) (begun l supply asked clock log ends).state.cycle) built.1 ∙ sym D'.whole in
    record {
      answer = rw (built.0, one_answer D.started D'.started, ap (λ (x : Course). x.state) whole);
      table_same = built.1;
      log_same = ap (λ (x : Course). x.log) whole;
      ends_same = ap (λ (x : Course). x.ends) whole;
    }

-- dump: write, with the lent bytes
pub write_run : (run old new new' : List ℕ) (r r' : ℕ) → Wrote (vcd_text (take 4096 run)) old new r → Wrote (vcd_text (take 4096 run)) old new' r' → (r ≡ r') × (new ≡ new')
write_run run old new new' r r' W W' = (one_answer W.whole W'.whole, one_answer W.bytes W'.bytes)

-- readback: read, with the lent bytes
pub read_file : (file old new new' : List ℕ) (r r' : Result ℕ Deviation) → FileReads file old new r → FileReads file old new' r' → (r ≡ r') × (new ≡ new')
read_file file old new new' r r' R R' = file-determined file old new new' r r' R R'

-- explain: check_run
pub check_run : (l : TaskList) (supply : ℕ) (run : List ℕ) (r r' : Result ℕ Refusal) → r ≡ checked_of l supply run → r' ≡ checked_of l supply run → r ≡ r'
check_run l supply run r r' e e' = one_answer e e'

part_of : (f : ℕ → ℕ) (n x : ℕ) → x < sum f n → PartOf f n x
unfolding sum
part_of f zero x lx = absurd (omega arith)
part_of f (suc n) x lx =
    ⊎_elim
    (λ (past : sum f n ≤ x). record { part = n; place = x - sum f n; below = omega arith; inside = omega arith; is = omega arith })
    (λ (h : x < sum f n).
    let p = part_of f n x h in
    record { part = p.part; place = p.place; below = omega (arith, p.below); inside = p.inside; is = p.is })
    (le_or_lt (sum f n) x)

module _ (l : TaskList) (need need' : Demand) (old new new' : List ℕ) where
  one_needs : ((i k : ℕ) → i < l.count → k < jobs_in l i → need i k ≡ need' i k) → NeedsIn l need old new → NeedsIn l need' old new' → new ≡ new'
  unfolding jobs_of job_sum plan_of
  one_needs same N N' =
      ext_get_or 0 new new' (N.long ∙ sym N'.long)
      (λ x lx.
      ⊎_elim
      (λ (past : jobs_of l ≤ x). N.beyond x past ∙ sym (N'.beyond x past))
      (λ (h : x < jobs_of l).
      let p = part_of _ l.count x h in
      ap (at new) p.is ∙ N.each p.part p.place p.below p.inside ∙ same p.part p.place p.below p.inside
      ∙ sym (ap (at new') p.is ∙ N'.each p.part p.place p.below p.inside))
      (le_or_lt (jobs_of l) x))

-- What is said of a run of an accepted list is one answer, and one list of needs.
module _ (l : TaskList) (supply : ℕ) (ok : OnTimeAll l supply (verdict_of l supply)) (run old new new' : List ℕ) (r r' : Viewed) where
  said_one : Yes l run old new r ⊎ NoNeeds l run old new r → Yes l run old new' r' ⊎ NoNeeds l run old new' r' → (r ≡ r') × (new ≡ new')
  unfolding plan_of
  said_one (inl Y) (inl Y') = (
    one_answer Y.answer Y'.answer,
    one_needs l Y.need Y'.need old new new'
        (one_explanation (plan_of l) (sound l supply ok) (cycle_of l) (divides l supply ok) ok.on_time run Y.need Y'.need Y.explains Y'.explains Y.just Y'.just) Y.needs Y'.needs,
  )
  said_one (inl Y) (inr N) = absurd (N.none_lead Y.need Y.explains)
  said_one (inr N) (inl Y) = absurd (N.none_lead Y.need Y.explains)
  said_one (inr N) (inr N') = (one_answer N.answer N'.answer, one_answer N.bytes N'.bytes)

  explained_one : Explained l run old new r (cycle_of l) (jobs_of l) → Explained l run old new' r' (cycle_of l) (jobs_of l) → (r ≡ r') × (new ≡ new')
  explained_one E E' =
      ⊎_elim
      (λ (z : run_number (cycle_of l) l.count run (jobs_of l) (length old) ≡ 0). said_one (E.said z) (E'.said z))
      (λ (nz : run_number (cycle_of l) l.count run (jobs_of l) (length old) ≡ 0 → ⊥).
      (one_answer (E.refused nz).0 (E'.refused nz).0, one_answer (E.refused nz).1 (E'.refused nz).1))
      (eq_or_ne (run_number (cycle_of l) l.count run (jobs_of l) (length old)) 0)

-- A call after the list's checks has one answer, and leaves the same, if what comes next does.
module _ (l : TaskList) (supply : ℕ) (Then Then' : ℕ → ℕ → Type 0) (old new new' : List ℕ) (r r' : Viewed) where
  after_one : (OnTimeAll l supply (verdict_of l supply) → Then (cycle_of l) (jobs_of l) → Then' (cycle_of l) (jobs_of l) → (r ≡ r') × (new ≡ new'))
      → AfterList (verdict_of l supply) Then old new r → AfterList (verdict_of l supply) Then' old new' r' → (r ≡ r') × (new ≡ new')
  after_one next A A' = go (after_list l supply Then old new r A) (after_list l supply Then' old new' r' A')
    where
      go : Passed l supply Then ⊎ ByList l supply old new r → Passed l supply Then' ⊎ ByList l supply old new' r' → (r ≡ r') × (new ≡ new')
      go (inl P) (inl P') = next P.ok P.next P'.next
      go (inl P) (inr B) = absurd (B.some P.accepted)
      go (inr B) (inl P) = absurd (B.some P.accepted)
      go (inr B) (inr B') = (one_answer B.answer B'.answer, one_answer B.bytes B'.bytes)

-- explain: explain_run, with the needs
pub explain_run : (l : TaskList) (supply : ℕ) (run old new new' : List ℕ) (r r' : Viewed) → ExplainsRun l supply run old new r → ExplainsRun l supply run old new' r' → (r ≡ r') × (new ≡ new')
unfolding ExplainsRun
explain_run l supply run old new new' r r' = after_one l supply _ _ old new new' r r' (λ ok. explained_one l supply ok run old new new' r r')

-- viewer: write, with the lent bytes; lent_viewer: write_list; and over the lent list, write_lent
pub viewer_write : (l : TaskList) (supply : ℕ) (run old new new' : List ℕ) (r r' : Viewed) → Writes l supply run old new r → Writes l supply run old new' r' → (r ≡ r') × (new ≡ new')
unfolding Writes
viewer_write l supply run old new new' r r' =
    after_one l supply _ _ old new new' r r' (λ ok W W'. let same = one_answer W.answer W'.answer in (same, W.bytes ∙ ap (λ (x : Viewed). shown x (at (vcd_text run)) old) same ∙ sym W'.bytes))

pub viewer_write_lent : (ts : List Task) (supply : ℕ) (run old new new' : List ℕ) (r r' : Viewed)
    → Writes (list_of ts) supply run old new r → Writes (list_of ts) supply run old new' r' → (r ≡ r') × (new ≡ new')
viewer_write_lent ts supply = viewer_write (list_of ts) supply

-- A file has one answer, and leaves the same, if its one run does.
module _ (file old new new' : List ℕ) (r r' : Viewed) (Said Said' : List ℕ → Type 0) (one : (run : List ℕ) → Said run → Said' run → (r ≡ r') × (new ≡ new')) where
  file_one : NoForm file old new r ⊎ Of file Said → NoForm file old new' r' ⊎ Of file Said' → (r ≡ r') × (new ≡ new')
  file_one (inl N) (inl N') = (N.answer ∙ ap (refused_by 18) (longest_one file N.place N'.place N.longest N'.longest) ∙ sym N'.answer, one_answer N.bytes N'.bytes)
  file_one (inl N) (inr O) = absurd (N.none_is O.run O.of_run)
  file_one (inr O) (inl N) = absurd (N.none_is O.run O.of_run)
  file_one (inr O) (inr O') = one O.run O.said (subst Said' (of_one_run file O'.run O.run O'.of_run O.of_run) O'.said)

-- viewer: read and explain, with what is lent; lent_viewer: read_list and explain_list; and over the lent list, read_lent and
-- explain_lent
pub viewer_read : (l : TaskList) (supply : ℕ) (file old new new' : List ℕ) (r r' : Viewed) → ReadsBack l supply file old new r → ReadsBack l supply file old new' r' → (r ≡ r') × (new ≡ new')
unfolding ReadsBack
viewer_read l supply file old new new' r r' =
    after_one l supply _ _ old new new' r r'
    (λ ok. file_one file old new new' r r' (ReadsRun l old new r (cycle_of l)) (ReadsRun l old new' r' (cycle_of l))
    (λ run R R'. let same = one_answer R.answer R'.answer in (same, R.bytes ∙ ap (λ (x : Viewed). shown x (at run) old) same ∙ sym R'.bytes)))

pub viewer_read_lent : (ts : List Task) (supply : ℕ) (file old new new' : List ℕ) (r r' : Viewed)
    → ReadsBack (list_of ts) supply file old new r → ReadsBack (list_of ts) supply file old new' r' → (r ≡ r') × (new ≡ new')
viewer_read_lent ts supply = viewer_read (list_of ts) supply

pub viewer_explain : (l : TaskList) (supply : ℕ) (file old new new' : List ℕ) (r r' : Viewed)
    → ExplainsFile l supply file old new r → ExplainsFile l supply file old new' r' → (r ≡ r') × (new ≡ new')
unfolding ExplainsFile
viewer_explain l supply file old new new' r r' =
    after_one l supply _ _ old new new' r r'
    (λ ok. file_one file old new new' r r' (λ run. Explained l run old new r (cycle_of l) (jobs_of l)) (λ run. Explained l run old new' r' (cycle_of l) (jobs_of l))
    (λ run. explained_one l supply ok run old new new' r r'))

pub viewer_explain_lent : (ts : List Task) (supply : ℕ) (file old new new' : List ℕ) (r r' : Viewed)
    → ExplainsFile (list_of ts) supply file old new r → ExplainsFile (list_of ts) supply file old new' r' → (r ≡ r') × (new ≡ new')
viewer_explain_lent ts supply = viewer_explain (list_of ts) supply

-- So whatever two texts the explaining program may print for a list and a file are equal.
pub explanation_printed : {input file text text' : List ℕ} → ExplainPrints input file text → ExplainPrints input file text' → text ≡ text'
explanation_printed {file = file} = one_explanation_printed (λ l needs needs' v v'. viewer_explain l 65536 file (replicate 4096 0) needs needs' v v')

-- lent: copied
pub copied : (ts : List Task) (r r' : TaskList) → r ≡ list_of ts → r' ≡ list_of ts → r ≡ r'
copied ts r r' e e' = one_answer e e'
