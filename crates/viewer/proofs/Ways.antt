-- What each way out of the calls comes to, as laws over plain values.
use mathlib.Core.Path.{◌≡◌, refl, sym, ap, ap₂, subst, ◌∙◌}
use mathlib.Core.Bool.{Bool, true, false}
use mathlib.Core.List.{List}
use Rattle.std.specs.Prelude.{Some, Result, Ok, Err}
use mathlib.Core.Logic.{◌⊎◌, inl, inr}
use Prim.Native.Nat.{ℕ, ◌≤◌, ◌<◌}
use native.Mathlib.Omega.{arith}
use lib.Dec.{leb, eqb}
use lib.ListN.{length, take, replicate, length-replicate}
use lib.Seq.{take_all, length-take-le, get_or-take, ext_get_or}
use borrow.Author.Tests.{eqb-true, le-leb, lt-leb}
use Rattle.basis.specs.Bytes.{at, overwrite, overwrite_at, overwrite-length}
use Rattle.basis.specs.Choose.{choose, choose_yes, choose_no, choose_either}
use Rattle.tasks.specs.declared.TaskList.{TaskList}
use Rattle.tasks.specs.declared.refusals.Refusal.{Refusal}
use Rattle.verdict.specs.declared.Accepted.{Accepted}
use Rattle.verdict.specs.Verdict.{Verdict, verdict_of, verdict_answer}
use Rattle.verdict.proofs.Told.{accepted_tells}
use Rattle.vcd.specs.Form.{vcd_text}
use Rattle.dump.specs.Wrote.{Wrote}
use Rattle.readback.specs.declared.Deviation.{Deviation}
use Rattle.readback.specs.Reads.{ReadBack, NoForm as Formless, Reads}
use Rattle.explain.specs.Seen.{Viewed, refused_by, AfterList, entries_to, run_number, unless_refused, checked_by, checked_of, Explained, ExplainsRun}
use Rattle.explain.proofs.Answers.{lets_pass, refuses as refuses_by, was_passed, was_refused}
use Rattle.viewer.specs.Viewer.{shown, WritesRun, Writes, NoForm, Of, ReadsRun, ReadsBack, ExplainsFile}
use Rattle.viewer.specs.Shapes.{fitting, without_form_by, without_form, Gives}

-- ---- the number of a run
-- By its three tests: as long as the cycle, no entry above the count, room.
numbered : Bool → Bool → Bool → ℕ
numbered whole entries room = choose whole (choose entries (choose room 0 31) 30) 19

-- 19 and 30 do not depend on what is lent; and a run that they let pass is refused by 31 alone.
same_number : (a b c : Bool) → (numbered a b true ≡ 0 → ⊥) → numbered a b c ≡ numbered a b true
unfolding numbered choose
same_number true true c some = absurd (some refl)
same_number true false c some = refl
same_number false b c some = refl

let_pass : (a b c : Bool) → numbered a b true ≡ 0 → (a ≡ true) × (numbered a b c ≡ choose c 0 31)
unfolding numbered choose
let_pass true true c z = (refl, refl)
let_pass true false c z = absurd (omega arith)
let_pass false b c z = absurd (omega arith)

module _ (cycle count : ℕ) (run : List ℕ) where
  number_kept : (run_number cycle count run 0 0 ≡ 0 → ⊥) → (needed room : ℕ) → run_number cycle count run needed room ≡ run_number cycle count run 0 0
  unfolding run_number numbered
  number_kept some needed room = same_number (eqb (length run) cycle) (entries_to count run (length run)) (leb needed room) some

  number_passed : run_number cycle count run 0 0 ≡ 0 → (needed room : ℕ) → (length run ≡ cycle) × (run_number cycle count run needed room ≡ choose (leb needed room) 0 31)
  unfolding run_number numbered
  number_passed z needed room =
      let h = let_pass (eqb (length run) cycle) (entries_to count run (length run)) (leb needed room) z in
      (eqb-true (length run) cycle h.0, h.1)

-- ---- what the checks answer
refuses : (number count : ℕ) → (number ≡ 0 → ⊥) → unless_refused number count ≡ refused_by number 0
unfolding unless_refused refused_by
refuses number count some = sym (refuses_by number (Some count) some)

gives : (number count : ℕ) → number ≡ 0 → unless_refused number count ≡ Ok (Some count)
unfolding unless_refused
gives number count z = sym (lets_pass number (Some count) z)

-- Refused by 31, or given: as the code decides it, and as the definitions do.
fits_so : (b : Bool) (needed : ℕ) → choose b (Ok (Some needed)) (refused_by 31 0) ≡ unless_refused (choose b 0 31) needed
unfolding choose
fits_so true needed = sym (gives 0 needed refl)
fits_so false needed = sym (refuses 31 needed (λ z. omega arith))

-- Written exactly if it fits.
shows_so : (b : Bool) (needed : ℕ) (f : ℕ → ℕ) (old : List ℕ) → choose b (overwrite f needed old) old ≡ shown (choose b (Ok (Some needed)) (refused_by 31 0)) f old
unfolding choose shown refused_by
shows_so true needed f old = refl
shows_so false needed f old = refl

-- A list and a run that pass the checks.
record Passed (l : TaskList) (supply : ℕ) (run : List ℕ) (n : ℕ) : Type 0 where
  accepted : Accepted
  is : verdict_of l supply ≡ Ok accepted
  cycle_is : n ≡ accepted.cycle
  whole : length run ≡ n
  short : n ≤ 4096
  number_is : (needed room : ℕ) → run_number n l.count run needed room ≡ choose (leb needed room) 0 31

module _ (l : TaskList) (supply : ℕ) (run : List ℕ) where
  passed_by : (v : Verdict) (n : ℕ) → verdict_of l supply ≡ v → Ok n ≡ checked_by v l.count run → Passed l supply run n
  unfolding checked_by verdict_answer
  passed_by (Err r) n e g = let z : ◌≡◌ {A = ℕ} 0 1 = cc in absurd (omega arith)
  passed_by (Ok a) n e g =
      let z = was_passed (run_number a.cycle l.count run 0 0) a.cycle _ n refl (sym g) in
      let both : Ok n ≡ Ok a.cycle = g ∙ sym (lets_pass (run_number a.cycle l.count run 0 0) a.cycle z) in
      let same : n ≡ a.cycle = cc in
      let told = accepted_tells l supply a e in
      record {
        accepted = a;
        is = e;
        cycle_is = same;
        whole = (number_passed a.cycle l.count run z 0 0).0 ∙ sym same;
        short = omega (arith, same, ap (λ (v : Verdict). (verdict_answer v).cycle) told.is, told.keeps.cycle_within);
        number_is = λ needed room. ap (λ (x : ℕ). run_number x l.count run needed room) same ∙ (number_passed a.cycle l.count run z needed room).1;
      }

  -- What is refused by the checks is refused, whatever is asked for then.
  stopped_by : (v : Verdict) (r : Refusal) → Err r ≡ checked_by v l.count run → (needed given : ℕ → ℕ) (f : ℕ → ℕ) (old : List ℕ)
      → AfterList v (λ cycle jobs. (Err r ≡ unless_refused (run_number cycle l.count run (needed cycle) (length old)) (given cycle)) × (old ≡ shown (Err r) f old)) old old (Err r)
  unfolding AfterList checked_by shown refused_by
  stopped_by (Err e) r is needed given f old = let same : r ≡ e = cc in (ap Err same, refl)
  stopped_by (Ok a) r is needed given f old =
      let refused = was_refused (run_number a.cycle l.count run 0 0) a.cycle _ r refl (sym is) in
      let kept = number_kept a.cycle l.count run refused.0 (needed a.cycle) (length old) in
      (ap Err refused.1 ∙ sym (ap (λ (x : ℕ). unless_refused x (given a.cycle)) kept ∙ refuses _ (given a.cycle) refused.0), refl)

-- What is said of an accepted list, said otherwise.
after : (v : Verdict) (A B : ℕ → ℕ → Type 0) (old new : List ℕ) (r : Viewed) → ((cycle jobs : ℕ) → A cycle jobs → B cycle jobs) → AfterList v A old new r → AfterList v B old new r
unfolding AfterList
after (Ok a) A B old new r h x = h a.cycle a.jobs x
after (Err e) A B old new r h x = x

-- ---- writing, and giving a run that was read
module _ (l : TaskList) (supply : ℕ) (run : List ℕ) (c : Result ℕ Refusal) (is : c ≡ checked_of l supply run) where
  pub writes_stopped : (old : List ℕ) (r : Refusal) → c ≡ Err r → Writes l supply run old old (Err r)
  unfolding Writes checked_of
  writes_stopped old r err =
      after (verdict_of l supply) _ _ old old (Err r) (λ cycle jobs h. record { answer = h.0; bytes = h.1 })
      (stopped_by l supply run (verdict_of l supply) r (sym err ∙ is) (λ _. length (vcd_text run)) (λ _. length (vcd_text run)) (at (vcd_text run)) old)

  pub gives_stopped : (old : List ℕ) (r : Refusal) → c ≡ Err r → Gives l supply run old old (Err r)
  unfolding Gives checked_of
  gives_stopped old r err =
      after (verdict_of l supply) _ _ old old (Err r) (λ cycle jobs h. record { answer = h.0; bytes = h.1 })
      (stopped_by l supply run (verdict_of l supply) r (sym err ∙ is) (λ cycle. cycle) (λ cycle. cycle) (at run) old)

  module _ (n : ℕ) (g : c ≡ Ok n) where
    pass : Passed l supply run n
    unfolding checked_of
    pass = passed_by l supply run (verdict_of l supply) n refl (sym g ∙ is)

    -- Given if there is room, and refused by 31 if there is none.
    answer_so : (needed room : ℕ) → fitting needed room ≡ unless_refused (run_number n l.count run needed room) needed
    unfolding fitting
    answer_so needed room = fits_so (leb needed room) needed ∙ ap (λ (x : ℕ). unless_refused x needed) (sym (pass.number_is needed room))

    pub writes_passed : (old new : List ℕ) (m : ℕ) (r : Viewed) → Wrote (vcd_text (take 4096 run)) old new m → r ≡ fitting m (length new) → Writes l supply run old new r
    unfolding Writes AfterList fitting
    writes_passed old new m r wrote fits =
        let all : take 4096 run ≡ run = take_all 4096 run (omega (arith, pass.whole, pass.short)) in
        let text : Wrote (vcd_text run) old new m = rw all at wrote in
        let long : length new ≡ length old = ap length text.bytes ∙ choose_either (λ (x : List ℕ). length x ≡ length old) _ _ _ (overwrite-length _ old _) refl in
        let answer : r ≡ fitting (length (vcd_text run)) (length old) = fits ∙ ap₂ fitting text.whole long in
        subst (λ (v : Verdict). AfterList v (λ cycle jobs. WritesRun l run old new r cycle) old new r) (sym pass.is)
        (subst (λ (x : ℕ). WritesRun l run old new r x) pass.cycle_is (record {
          answer = answer ∙ answer_so (length (vcd_text run)) (length old);
          bytes = text.bytes ∙ shows_so _ _ (at (vcd_text run)) old ∙ ap (λ (x : Viewed). shown x (at (vcd_text run)) old) (sym answer);
        }))

    -- A run that was read goes into the lent bytes if they are long enough.
    gives_so : (old new : List ℕ) (r : Viewed) → r ≡ fitting n (length old) → new ≡ shown r (at run) old → Gives l supply run old new r
    unfolding Gives AfterList
    gives_so old new r answer bytes =
        subst (λ (v : Verdict). AfterList v (λ cycle jobs. ReadsRun l old new r cycle run) old new r) (sym pass.is)
        (subst (λ (x : ℕ). ReadsRun l old new r x run) pass.cycle_is (record { answer = answer ∙ answer_so n (length old); bytes = bytes }))

    pub gives_short : (old : List ℕ) → length old < n → Gives l supply run old old (refused_by 31 0)
    unfolding fitting shown refused_by
    gives_short old l = gives_so old old (refused_by 31 0) (sym (choose_no _ _ _ (lt-leb n (length old) l))) refl

    pub gives_all : (old new : List ℕ) → n ≤ length old → new ≡ overwrite (at run) n old → Gives l supply run old new (Ok (Some n))
    unfolding fitting shown
    gives_all old new l copied = gives_so old new (Ok (Some n)) (sym (choose_yes _ _ _ (le-leb n (length old) l))) copied

    pub run_whole : length run ≡ n
    run_whole = pass.whole

-- ---- a file
-- What reading it found.
module _ (file a b : List ℕ) (found : Result ℕ Deviation) (reads : Reads file a b found) where
  pub found_run : (n : ℕ) → found ≡ Ok n → ReadBack file a b n
  unfolding Reads
  found_run n e = subst (Reads file a b) e reads

  pub found_bad : (d : Deviation) → found ≡ Err d → Formless file a b d.place
  unfolding Reads
  found_bad d e = subst (Reads file a b) e reads

-- One that is the form of no run, whatever would be said of one that is.
formless_by : (v : Verdict) (file old a b : List ℕ) (place : ℕ) (r : Viewed) (Said : ℕ → ℕ → Type 0) → Formless file a b place → r ≡ without_form_by v place
    → AfterList v (λ cycle jobs. NoForm file old old r ⊎ Said cycle jobs) old old r
unfolding AfterList without_form_by
formless_by (Ok v) file old a b place r Said formless answer =
    inl (record { none_is = formless.none; place = place; longest = formless.longest; answer = answer; bytes = refl })
formless_by (Err e) file old a b place r Said formless answer = (answer, refl)

-- One that is the form of a run, which is read aside.
abbrev fresh : List ℕ
fresh = replicate 4096 0

module _ (file aside : List ℕ) (n : ℕ) (read : ReadBack file fresh aside n) where
  pub fits_aside : n ≤ length aside
  fits_aside =
      omega (
        arith,
        read.length_is,
        read.of_run.is_run.within,
        ap length read.bytes,
        choose_either (λ (x : List ℕ). length x ≡ 4096) (leb n (length fresh)) (overwrite (at read.run) n fresh) fresh (overwrite-length _ fresh n ∙ length-replicate {A = ℕ} 4096 0) (length-replicate {A = ℕ} 4096 0),
      )

  run_aside : take n aside ≡ read.run
  run_aside =
      let few : n ≤ 4096 = omega (arith, read.length_is, read.of_run.is_run.within) in
      let written : aside ≡ overwrite (at read.run) n fresh = read.bytes ∙ choose_yes _ _ _ (le-leb n (length fresh) (omega (arith, length-replicate {A = ℕ} 4096 0))) in
      let long = length-take-le n aside fits_aside in
      ext_get_or 0 (take n aside) read.run (long ∙ read.length_is)
      (λ i l.
      get_or-take n aside i 0 (omega arith)
      ∙ ap (λ (x : List ℕ). at x i) written
      ∙ overwrite_at (at read.run) fresh 0 n i (omega arith) (omega (arith, length-replicate {A = ℕ} 4096 0)))

  of_file : (v : Verdict) (old new : List ℕ) (r : Viewed) (Said : ℕ → ℕ → List ℕ → Type 0) → AfterList v (λ cycle jobs. Said cycle jobs (take n aside)) old new r
      → AfterList v (λ cycle jobs. NoForm file old new r ⊎ Of file (Said cycle jobs)) old new r
  of_file v old new r Said = after v _ _ old new r (λ cycle jobs said. inr (record { run = read.run; of_run = read.of_run; said = subst (Said cycle jobs) run_aside said }))

  pub reads_run : (l : TaskList) (supply : ℕ) (old new : List ℕ) (r : Viewed) → Gives l supply (take n aside) old new r → ReadsBack l supply file old new r
  unfolding Gives ReadsBack
  reads_run l supply old new r = of_file (verdict_of l supply) old new r (λ cycle jobs run. ReadsRun l old new r cycle run)

  pub explains_run : (l : TaskList) (supply : ℕ) (old new : List ℕ) (r : Viewed) → ExplainsRun l supply (take n aside) old new r → ExplainsFile l supply file old new r
  unfolding ExplainsRun ExplainsFile
  explains_run l supply old new r = of_file (verdict_of l supply) old new r (λ cycle jobs run. Explained l run old new r cycle jobs)

module _ (l : TaskList) (supply : ℕ) (file old a b : List ℕ) (place : ℕ) (r : Viewed) (formless : Formless file a b place) (answer : r ≡ without_form l supply place) where
  pub reads_formless : ReadsBack l supply file old old r
  unfolding ReadsBack without_form
  reads_formless = formless_by (verdict_of l supply) file old a b place r _ formless answer

  pub explains_formless : ExplainsFile l supply file old old r
  unfolding ExplainsFile without_form
  explains_formless = formless_by (verdict_of l supply) file old a b place r _ formless answer

-- ---- the list's refusal before 18
module _ (l : TaskList) (supply : ℕ) (place : ℕ) (v : Verdict) (judged : v ≡ verdict_of l supply) where
  pub list_refused : (r : Refusal) → v ≡ Err r → Err r ≡ without_form l supply place
  unfolding without_form without_form_by
  list_refused r e = sym (ap (λ (x : Verdict). without_form_by x place) (sym judged ∙ e))

  pub list_accepted : (a : Accepted) → v ≡ Ok a → refused_by 18 place ≡ without_form l supply place
  unfolding without_form without_form_by
  list_accepted a e = sym (ap (λ (x : Verdict). without_form_by x place) (sym judged ∙ e))
