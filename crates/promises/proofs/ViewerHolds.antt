-- What is promised of the viewer holds: the proof of the statement in Viewer. Reading and explaining are one law, of a file; what
-- explaining adds rests on the one candidate, the needs that the run itself gives.
use Rattle.std.specs.Prelude.{◌≡◌, Bool, true, false, ◌⊎◌, ◌↔◌, ℕ, zero, suc, ◌≤◌, ◌<◌, min, leb, eqb, take, replicate, Some, None, Ok, Err}
use Rattle.std.proofs.Math.Path.{refl, sym, ap, subst}
use Rattle.std.proofs.Common.{◌∙◌, true≢false, length-take-le, get_or-take, ext_get_or}
use mathlib.Core.List.{List}
use Rattle.std.proofs.Math.Logic.{inl, inr, ⊎_elim}
use Rattle.std.specs.Int.{◌∣◌}
use native.Mathlib.Omega.{arith}
use Rattle.std.proofs.Math.ListN.{length, length-replicate}
use borrow.Author.Tests.{le-leb, lt-leb, leb-true, leb-false, eq-eqb, ne_eqb, eqb-true, eqb-false}
use Rattle.basis.specs.Answer.{Answer, refusal, none, ◌or_else◌, else_found, else_kept, passed_unless}
use Rattle.basis.specs.Bytes.{at, overwrite, overwrite-length, overwrite_at}
use Rattle.basis.specs.Choose.{choose, choose_yes, bool_cases, both_true, both_false, below_suc, eq_or_ne}
use Rattle.basis.specs.Rules.{rule, Rules, no_more, ◌then◌, ◌and_then◌, Breaks, Refused as RefusedBy, GoesBy, goes_on, goes_then, goes_unless, plain_refuses, breaks_saying, saying_told}
use Rattle.plan.specs.Plan.{Sound, Demand, filling, takes, table}
use Rattle.needs.specs.Explained.{Explains}
use Rattle.needs.specs.Candidate.{entry_by_released, released_within, only_candidate, jobs_within_cycle, whole_run_explained, table_explained}
use Rattle.tasks.specs.declared.TaskList.{TaskList}
use Rattle.tasks.specs.List.{plan_of}
use Rattle.tasks.specs.Refusal.{refusal_answer}
use Rattle.tasks.specs.Bounds.{cycle_of, job_sum, jobs_of}
use Rattle.tasks.proofs.Kept.{plan_sound, cycle_pos, period_divides_cycle}
use Rattle.verdict.specs.Verdict.{Verdict, verdict_of, verdict_answer}
use Rattle.verdict.specs.Answers.{OnTimeAll}
use Rattle.verdict.proofs.Told.{accepted_as}
use Rattle.start.specs.Start.{mode_of}
use Rattle.run.specs.declared.Mode.TheVariants.{Filling}
use Rattle.vcd.specs.Form.{vcd_text, OfRun}
use Rattle.vcd.specs.OneRun.{one_run, of_one_run}
use Rattle.vcd.specs.Beginnings.{longest_one}
use Rattle.explain.specs.Seen.{Viewed, viewed_answer, run_refusal, refused_by, AfterList, entries_to, run_number, unless_run_refused, unless_refused, Yes, NoNeeds, Explained}
use Rattle.output.specs.Output.{entries}
use Rattle.viewer.specs.Viewer.{shown, WritesRun, Writes, NoForm, Of, ReadsRun, ReadsBack, ExplainsFile}
use Rattle.promises.specs.Demand2.{judged_as}
use Rattle.promises.specs.Demand3.{jobs_in, FullRun}
use Rattle.promises.specs.Demand3Holds.{runs_as_filling}
use Rattle.promises.specs.Refusals.{list_rules}
use Rattle.promises.proofs.RefusalsHold.{list_goes}
use Rattle.promises.specs.Viewer.{no_form, not_the_cycle, entry_above, output_short, write_rules, file_rules, WhoRan, Stand, Viewer}

-- ---- after the list's own checks
-- A refusal of the list as these calls give it.
unfoldable pub as_viewed : Verdict → Viewed
as_viewed (Ok a) = Ok None
as_viewed (Err r) = Err r

-- The list is accepted, and what comes next is said of its cycle and job count;
pub record Passed (l : TaskList) (supply : ℕ) (Then : ℕ → ℕ → Type 0) : Type 0 where
  pub accepted : (judged_as l supply).number ≡ 0
  pub ok : OnTimeAll l supply (verdict_of l supply)
  pub next : Then (cycle_of l) (jobs_of l)

-- or it is refused as the verdict refuses it, and nothing is written.
pub record ByList (l : TaskList) (supply : ℕ) (old new : List ℕ) (r : Viewed) : Type 0 where
  pub some : (judged_as l supply).number ≡ 0 → ⊥
  pub answer : r ≡ as_viewed (verdict_of l supply)
  pub as_judged : viewed_answer r ≡ judged_as l supply
  pub bytes : new ≡ old

module _ (l : TaskList) (supply : ℕ) (Then : ℕ → ℕ → Type 0) (old new : List ℕ) (r : Viewed) where
  by_list : (v : Verdict) → ((verdict_answer v).number ≡ 0 → ⊥) → AfterList v Then old new r → (r ≡ as_viewed v) × (viewed_answer r ≡ verdict_answer v) × (new ≡ old)
  unfolding AfterList verdict_answer viewed_answer as_viewed
  by_list (Ok a) nz A = absurd (nz refl)
  by_list (Err r) nz A = (A.0, ap viewed_answer A.0, A.1)

  pub after_list : AfterList (verdict_of l supply) Then old new r → Passed l supply Then ⊎ ByList l supply old new r
  unfolding AfterList
  after_list A =
      ⊎_elim
      (λ (z : (judged_as l supply).number ≡ 0).
      let ok = accepted_as l supply z in
      inl (record { accepted = z; ok = ok; next = subst (λ (v : Verdict). AfterList v Then old new r) ok.is A }))
      (λ (nz : (judged_as l supply).number ≡ 0 → ⊥).
      let h = by_list (verdict_of l supply) nz A in
      inr (record { some = nz; answer = h.0; as_judged = h.1; bytes = h.2 }))
      (eq_or_ne (judged_as l supply).number 0)

  not_refused : AfterList (verdict_of l supply) Then old new r → (viewed_answer r).number ≡ 0 → Passed l supply Then
  not_refused A z =
      ⊎_elim
      (λ (P : Passed l supply Then). P)
      (λ (B : ByList l supply old new r). absurd (B.some (sym (ap (λ (a : Answer). a.number) B.as_judged) ∙ z)))
      (after_list A)

  -- What goes by some rules if the list is accepted goes by the list's and then these.
  goes_after : (rs : Rules) → (Passed l supply Then → GoesBy rs (viewed_answer r)) → AfterList (verdict_of l supply) Then old new r → GoesBy (list_rules l supply and_then rs) (viewed_answer r)
  goes_after rs goes A =
      ⊎_elim
      (λ (P : Passed l supply Then). goes_then (list_rules l supply) rs (judged_as l supply) _ (list_goes l supply) (λ nz. absurd (nz P.accepted)) (λ _. goes P))
      (λ (B : ByList l supply old new r). goes_then (list_rules l supply) rs (judged_as l supply) _ (list_goes l supply) (λ _. B.as_judged) (λ z. absurd (B.some z)))
      (after_list A)

-- ---- 19, 30 and 31
-- All entries are within the count, or one is above.
entries_tell : (count : ℕ) (run : List ℕ) (n : ℕ) → entries_to count run n ≡ true → (t : ℕ) → t < n → at run t ≤ count
unfolding entries_to
entries_tell count run zero e t lt = absurd (omega arith)
entries_tell count run (suc n) e t lt =
    let h = (both_true (entries_to count run n) (leb (at run n) count)).0 e in
    ⊎_elim
    (λ (b : t < n). entries_tell count run n h.0 t b)
    (λ (s : t ≡ n). omega (arith, ap (at run) s, leb-true (at run n) count h.1))
    (below_suc t n lt)

one_above : (count : ℕ) (run : List ℕ) (n : ℕ) → entries_to count run n ≡ false → (t : ℕ) × ((t < n) × (count < at run t))
unfolding entries_to
one_above count run zero e = absurd (true≢false e)
one_above count run (suc n) e =
    ⊎_elim
    (λ (y : entries_to count run n ≡ true). (n, (omega arith, leb-false (at run n) count ((both_false (entries_to count run n) (leb (at run n) count)).0 e y))))
    (λ (f : entries_to count run n ≡ false). let h = one_above count run n f in (h.0, (omega (arith, h.1.0), h.1.1)))
    (bool_cases (entries_to count run n))

above_tells : (count : ℕ) (run : List ℕ) → ((t : ℕ) × ((t < length run) × (count < at run t))) → entries_to count run (length run) ≡ false
above_tells count run above =
    ⊎_elim
    (λ (y : entries_to count run (length run) ≡ true). absurd (omega (arith, above.1.1, entries_tell count run (length run) y above.0 above.1.0)))
    (λ (f : entries_to count run (length run) ≡ false). f)
    (bool_cases (entries_to count run (length run)))

-- A rule that is broken unless a test holds, and the rules after it.
else_unless : (t : Bool) (m : ℕ) (b : Answer) → (choose t none (refusal (suc m) 0) or_else b) ≡ choose t b (refusal (suc m) 0)
unfolding choose none refusal
else_unless true m b = else_found none b refl
else_unless false m b = else_kept (refusal (suc m) 0) b (λ z. omega arith)

unless_goes : (m : ℕ) (P : Type 0) (rs : Rules) (t : Bool) (b : Answer) → (t ≡ false → P) → (P → t ≡ false) → (t ≡ true → GoesBy rs b) → GoesBy (rule (suc m) P then rs) (choose t b (refusal (suc m) 0))
unfolding ◌and_then◌
unless_goes m P rs t b to from next =
    subst (GoesBy (rule (suc m) P then rs)) (else_unless t m b) (goes_on (rule (suc m) P then no_more) rs _ b (goes_unless m P t to from) (λ z. next ((passed_unless t m 0).0 z)))

-- The same by number: no test lets pass but one that holds, and what is chosen is a refusal of the number that is chosen.
passed : (t : Bool) (n m : ℕ) → choose t n (suc m) ≡ 0 → (t ≡ true) × (n ≡ 0)
unfolding choose
passed true n m z = (refl, z)
passed false n m z = absurd (omega arith)

by_number : (a b c : Bool) → choose a (choose b (choose c none (refusal 31 0)) (refusal 30 0)) (refusal 19 0) ≡ refusal (choose a (choose b (choose c 0 31) 30) 19) 0
unfolding choose none
by_number true true true = refl
by_number true true false = refl
by_number true false c = refl
by_number false b c = refl

-- So is what an answer by that number says.
viewed_by : (a b c : Bool) (count : ℕ) → viewed_answer (unless_refused (choose a (choose b (choose c 0 31) 30) 19) count) ≡ refusal (choose a (choose b (choose c 0 31) 30) 19) 0
unfolding choose unless_refused unless_run_refused run_refusal viewed_answer refusal_answer none refusal
viewed_by true true true count = refl
viewed_by true true false count = refl
viewed_by true false c count = refl
viewed_by false b c count = refl

viewed_refused : (a b c : Bool) → (◌≡◌ {A = ℕ} (choose a (choose b (choose c 0 31) 30) 19) 0 → ⊥) → viewed_answer (refused_by (choose a (choose b (choose c 0 31) 30) 19) 0) ≡ refusal (choose a (choose b (choose c 0 31) 30) 19) 0
unfolding choose refused_by run_refusal viewed_answer refusal_answer refusal
viewed_refused true true true nz = absurd (nz refl)
viewed_refused true true false nz = refl
viewed_refused true false c nz = refl
viewed_refused false b c nz = refl

-- A run that is not refused: as long as the cycle, no entry above the count, and room enough.
record Fits (l : TaskList) (run : List ℕ) (needed room : ℕ) : Type 0 where
  whole : length run ≡ cycle_of l
  entries : entries_to l.count run (length run) ≡ true
  enough : needed ≤ room

module _ (l : TaskList) (run : List ℕ) (needed room : ℕ) where
  abbrev number : ℕ
  number = run_number (cycle_of l) l.count run needed room

  fits : number ≡ 0 → Fits l run needed room
  unfolding run_number
  fits z =
      let whole = passed (eqb (length run) (cycle_of l)) _ 18 z in
      let entries = passed (entries_to l.count run (length run)) _ 29 whole.1 in
      record { whole = eqb-true (length run) (cycle_of l) whole.0; entries = entries.0; enough = leb-true needed room (passed (leb needed room) 0 30 entries.1).0 }

  fits_0 : Fits l run needed room → number ≡ 0
  unfolding run_number
  fits_0 F = choose_yes _ _ _ (eq-eqb (length run) (cycle_of l) F.whole) ∙ choose_yes _ _ _ F.entries ∙ choose_yes _ _ _ (le-leb needed room F.enough)

  number_viewed : (count : ℕ) → viewed_answer (unless_refused number count) ≡ refusal number 0
  unfolding run_number
  number_viewed = viewed_by (eqb (length run) (cycle_of l)) (entries_to l.count run (length run)) (leb needed room)

  number_refused : (number ≡ 0 → ⊥) → viewed_answer (refused_by number 0) ≡ refusal number 0
  unfolding run_number
  number_refused = viewed_refused (eqb (length run) (cycle_of l)) (entries_to l.count run (length run)) (leb needed room)

  -- The number goes by 19, 30 and 31 of the one run that is looked at.
  module _ (IsIt : List ℕ → Type 0) (it : IsIt run) (only : (other : List ℕ) → IsIt other → other ≡ run) where
    run_goes : GoesBy (not_the_cycle l IsIt then entry_above l IsIt then output_short needed room then no_more) (refusal number 0)
    unfolding run_number
    run_goes =
        subst (GoesBy (not_the_cycle l IsIt then entry_above l IsIt then output_short needed room then no_more)) (by_number (eqb (length run) (cycle_of l)) (entries_to l.count run (length run)) (leb needed room))
        (unless_goes 18 _ _ (eqb (length run) (cycle_of l)) _ (λ f. (run, (it, eqb-false (length run) (cycle_of l) f))) (λ h. ne_eqb (length run) (cycle_of l) (subst (λ (x : List ℕ). length x ≡ cycle_of l → ⊥) (only h.0 h.1.0) h.1.1))
        (λ _. unless_goes 29 _ _ (entries_to l.count run (length run)) _ (λ f. (run, (it, one_above l.count run (length run) f)))
        (λ h. above_tells l.count run (subst (λ (x : List ℕ). (t : ℕ) × ((t < length x) × (l.count < at x t))) (only h.0 h.1.0) h.1.1))
        (λ _. goes_unless 30 _ (leb needed room) (leb-false needed room) (lt-leb needed room))))

-- ---- what each call comes to once the list is accepted: an answer by that number, and refused, nothing is written
record Checked (l : TaskList) (run : List ℕ) (needed : ℕ) (old new : List ℕ) (r : Viewed) : Type 0 where
  answer_is : viewed_answer r ≡ refusal (number l run needed (length old)) 0
  kept : ((viewed_answer r).number ≡ 0 → ⊥) → new ≡ old

shown_refused : (r : Viewed) (f : ℕ → ℕ) (old : List ℕ) → ((viewed_answer r).number ≡ 0 → ⊥) → shown r f old ≡ old
unfolding shown viewed_answer none refusal
shown_refused (Ok (Some count)) f old nz = absurd (nz refl)
shown_refused (Ok None) f old nz = refl
shown_refused (Err r) f old nz = refl

module _ (l : TaskList) (run old new : List ℕ) (r : Viewed) where
  writes_checked : WritesRun l run old new r (cycle_of l) → Checked l run (length (vcd_text run)) old new r
  writes_checked W = record { answer_is = ap viewed_answer W.answer ∙ number_viewed l run _ _ _; kept = λ nz. W.bytes ∙ shown_refused r _ old nz }

  reads_checked : ReadsRun l old new r (cycle_of l) run → Checked l run (cycle_of l) old new r
  reads_checked R = record { answer_is = ap viewed_answer R.answer ∙ number_viewed l run _ _ _; kept = λ nz. R.bytes ∙ shown_refused r _ old nz }

  explained_checked : Explained l run old new r (cycle_of l) (jobs_of l) → Checked l run (jobs_of l) old new r
  unfolding viewed_answer refused_by none refusal
  explained_checked E =
      ⊎_elim
      (λ (z : number l run (jobs_of l) (length old) ≡ 0).
      ⊎_elim
      (λ (Y : Yes l run old new r). record { answer_is = accepted z (Ok (Some (jobs_of l))) Y.answer refl; kept = λ nz. absurd (nz (ap (λ (x : Viewed). (viewed_answer x).number) Y.answer)) })
      (λ (N : NoNeeds l run old new r). record { answer_is = accepted z (Ok None) N.answer refl; kept = λ _. N.bytes })
      (E.said z))
      (λ (nz : number l run (jobs_of l) (length old) ≡ 0 → ⊥). record { answer_is = ap viewed_answer (E.refused nz).0 ∙ number_refused l run _ _ nz; kept = λ _. (E.refused nz).1 })
      (eq_or_ne (number l run (jobs_of l) (length old)) 0)
    where
      accepted : number l run (jobs_of l) (length old) ≡ 0 → (x : Viewed) → r ≡ x → viewed_answer x ≡ none → viewed_answer r ≡ refusal (number l run (jobs_of l) (length old)) 0
      accepted z x e n = ap viewed_answer e ∙ n ∙ ap (λ (y : ℕ). refusal y 0) (sym z)

-- ---- writing
-- What is written from the first place on stands there.
front_written : (text old : List ℕ) (n : ℕ) → length text ≡ n → n ≤ length old → take n (overwrite (at text) n old) ≡ text
front_written text old n e room =
    let long : n ≤ length (overwrite (at text) n old) = omega (arith, overwrite-length (at text) old n) in
    let cut = length-take-le n (overwrite (at text) n old) long in
    ext_get_or 0 _ text (cut ∙ sym e)
    (λ i li. let below : i < n = omega (arith, li, cut) in get_or-take n (overwrite (at text) n old) i 0 below ∙ overwrite_at (at text) old 0 n i below (omega arith))

given_same : (m count n : ℕ) → m ≡ 0 → Ok (Some n) ≡ unless_refused m count → n ≡ count
unfolding unless_refused unless_run_refused
given_same m count n z e = let same = e ∙ choose_yes _ _ _ (eq-eqb m 0 z) in cc

module _ (l : TaskList) (supply : ℕ) (run old new : List ℕ) (r : Viewed) (W : Writes l supply run old new r) where
  abbrev ToWrite : ℕ → ℕ → Type 0
  ToWrite cycle jobs = WritesRun l run old new r cycle

  write_goes : GoesBy (write_rules l supply run (length old)) (viewed_answer r)
  unfolding Writes write_rules
  write_goes =
      goes_after l supply ToWrite old new r _
      (λ (P : Passed l supply ToWrite). rw (writes_checked l run old new r P.next).answer_is (run_goes l run (length (vcd_text run)) (length old) (λ x. x ≡ run) refl (λ other e. e)))
      W

  write_refused : ((viewed_answer r).number ≡ 0 → ⊥) → new ≡ old
  unfolding Writes
  write_refused nz =
      ⊎_elim (λ (P : Passed l supply ToWrite). (writes_checked l run old new r P.next).kept nz) (λ (B : ByList l supply old new r). B.bytes) (after_list l supply ToWrite old new r W)

-- Written: the list is accepted, the run fits, and the file is its text.
record WroteRun (l : TaskList) (supply : ℕ) (run old file : List ℕ) : Type 0 where
  accepted : (judged_as l supply).number ≡ 0
  run_fits : Fits l run (length (vcd_text run)) (length old)
  of_run : OfRun file run

module _ (l : TaskList) (supply : ℕ) (run old new : List ℕ) (n : ℕ) (W : Writes l supply run old new (Ok (Some n))) where
  wrote_run : WroteRun l supply run old (take n new)
  unfolding Writes viewed_answer none refusal shown
  wrote_run =
      let P = not_refused l supply (ToWrite l supply run old new (Ok (Some n)) W) old new (Ok (Some n)) W refl in
      let z = sym (ap (λ (a : Answer). a.number) (writes_checked l run old new (Ok (Some n)) P.next).answer_is) in
      let F = fits l run (length (vcd_text run)) (length old) z in
      let K = P.ok.keeps in
      record {
        accepted = P.accepted;
        run_fits = F;
        of_run = record {
          is_run = record { some = omega (arith, F.whole, cycle_pos l supply K); within = omega (arith, F.whole, K.cycle_within); entries = λ t lt. omega (arith, entries_tell l.count run (length run) F.entries t lt, K.few) };
          is_text = let whole = given_same _ _ n z P.next.answer in ap (take n) P.next.bytes ∙ front_written (vcd_text run) old n (sym whole) (omega (arith, F.enough));
        };
      }

-- ---- a file, read or explained
no_form_goes : (file old new : List ℕ) (r : Viewed) (rs : Rules) → NoForm file old new r → GoesBy (no_form file then rs) (viewed_answer r)
unfolding RefusedBy viewed_answer refused_by run_refusal refusal_answer choose refusal
no_form_goes file old new r rs N = record {
  only = λ nz. inl (subst (Breaks (no_form file)) (sym is) breaks);
  always = λ b R.
      ⊎_elim
      (λ (other : Breaks (no_form file) b). let h = saying_told 17 (refusal 18) _ b other in is ∙ ap (refusal 18) (longest_one file N.place h.0 N.longest h.1.0.1) ∙ h.1.1)
      (λ h. absurd (h.0 (refusal 18 N.place) breaks))
      R;
}
  where
    is : viewed_answer r ≡ refusal 18 N.place
    is = ap viewed_answer N.answer

    breaks : Breaks (no_form file) (refusal 18 N.place)
    breaks = breaks_saying 17 (refusal 18) _ N.place (plain_refuses 17 N.place) (N.none_is, N.longest)

form_goes : (file run : List ℕ) (rs : Rules) (a : Answer) → OfRun file run → GoesBy rs a → GoesBy (no_form file then rs) a
unfolding RefusedBy
form_goes file run rs a of goes = record {
  only = λ nz. inr (unbroken, goes.only nz);
  always = λ b R. ⊎_elim (λ (broken : Breaks (no_form file) b). absurd (unbroken b broken)) (λ h. goes.always b h.1) R;
}
  where
    unbroken : (b : Answer) → Breaks (no_form file) b → ⊥
    unbroken b broken = (saying_told 17 (refusal 18) _ b broken).1.0.0 run of

-- Not refused: the list is accepted, and the file is the form of a run, one alone, of which this is said and which fits.
record FileRun (l : TaskList) (supply : ℕ) (file : List ℕ) (needed room : ℕ) (Said : List ℕ → Type 0) : Type 0 where
  ok : OnTimeAll l supply (verdict_of l supply)
  run : List ℕ
  of_run : OfRun file run
  said : Said run
  number_0 : number l run needed room ≡ 0

-- What is said of the run, once the list is accepted, is by its checks; only how much room is needed differs.
module _ (l : TaskList) (supply : ℕ) (file old new : List ℕ) (r : Viewed) (needed : ℕ) (Said : ℕ → ℕ → List ℕ → Type 0)
    (checked : (run : List ℕ) → Said (cycle_of l) (jobs_of l) run → Checked l run needed old new r) where
  abbrev OfFile : ℕ → ℕ → Type 0
  OfFile cycle jobs = NoForm file old new r ⊎ Of file (Said cycle jobs)

  module _ (A : AfterList (verdict_of l supply) OfFile old new r) where
    file_goes : GoesBy (file_rules l supply file needed (length old)) (viewed_answer r)
    unfolding file_rules
    file_goes =
        goes_after l supply OfFile old new r _
        (λ (P : Passed l supply OfFile).
        ⊎_elim
        (no_form_goes file old new r _)
        (λ (O : Of file (Said (cycle_of l) (jobs_of l))).
        form_goes file O.run _ _ O.of_run
        (rw (checked O.run O.said).answer_is (run_goes l O.run needed (length old) (OfRun file) O.of_run (λ other of. of_one_run file other O.run of O.of_run))))
        P.next)
        A

    file_refused : ((viewed_answer r).number ≡ 0 → ⊥) → new ≡ old
    file_refused nz =
        ⊎_elim
        (λ (P : Passed l supply OfFile). ⊎_elim (λ (N : NoForm file old new r). N.bytes) (λ (O : Of file (Said (cycle_of l) (jobs_of l))). (checked O.run O.said).kept nz) P.next)
        (λ (B : ByList l supply old new r). B.bytes)
        (after_list l supply OfFile old new r A)

    file_accepted : (viewed_answer r).number ≡ 0 → FileRun l supply file needed (length old) (Said (cycle_of l) (jobs_of l))
    unfolding viewed_answer refused_by run_refusal refusal_answer choose refusal
    file_accepted z =
        let P = not_refused l supply OfFile old new r A z in
        ⊎_elim
        (λ (N : NoForm file old new r). absurd (omega (arith, ap (λ (x : Viewed). (viewed_answer x).number) N.answer)))
        (λ (O : Of file (Said (cycle_of l) (jobs_of l))). record {
          ok = P.ok;
          run = O.run;
          of_run = O.of_run;
          said = O.said;
          number_0 = sym (ap (λ (a : Answer). a.number) (checked O.run O.said).answer_is) ∙ z;
        })
        P.next

-- ---- reading
module _ (l : TaskList) (supply : ℕ) (file old new : List ℕ) (r : Viewed) (R : ReadsBack l supply file old new r) where
  read_goes : GoesBy (file_rules l supply file (cycle_of l) (length old)) (viewed_answer r)
  unfolding ReadsBack
  read_goes = file_goes l supply file old new r (cycle_of l) (λ cycle jobs. ReadsRun l old new r cycle) (λ run. reads_checked l run old new r) R

  read_refused : ((viewed_answer r).number ≡ 0 → ⊥) → new ≡ old
  unfolding ReadsBack
  read_refused = file_refused l supply file old new r (cycle_of l) (λ cycle jobs. ReadsRun l old new r cycle) (λ run. reads_checked l run old new r) R

  -- A file that is the form of a run that fits is read back into that run.
  reads_run : (judged_as l supply).number ≡ 0 → (run : List ℕ) → OfRun file run → Fits l run (cycle_of l) (length old) → (r ≡ Ok (Some (cycle_of l))) × (take (cycle_of l) new ≡ run)
  unfolding ReadsBack unless_refused unless_run_refused shown
  reads_run accepted run of F =
      ⊎_elim
      (λ (P : Passed l supply (λ cycle jobs. NoForm file old new r ⊎ Of file (ReadsRun l old new r cycle))).
      ⊎_elim
      (λ (N : NoForm file old new r). absurd (N.none_is run of))
      (λ (O : Of file (ReadsRun l old new r (cycle_of l))).
      let said = subst (ReadsRun l old new r (cycle_of l)) (of_one_run file O.run run O.of_run of) O.said in
      let answer = said.answer ∙ choose_yes _ _ _ (eq-eqb _ 0 (fits_0 l run (cycle_of l) (length old) F)) in
      (answer, ap (take (cycle_of l)) (said.bytes ∙ ap (λ (x : Viewed). shown x (at run) old) answer) ∙ front_written run old (cycle_of l) F.whole F.enough))
      P.next)
      (λ (B : ByList l supply old new r). absurd (B.some accepted))
      (after_list l supply _ old new r R)

-- ---- explaining
module _ (l : TaskList) (supply : ℕ) (ok : OnTimeAll l supply (verdict_of l supply)) where
  pub sound : Sound (plan_of l)
  sound = plan_sound l supply ok.keeps

  pub divides : (i : ℕ) → i < (plan_of l).count → (plan_of l).period i ∣ cycle_of l
  unfolding plan_of
  divides = period_divides_cycle l supply ok.keeps

  -- Needs that are the same for every job of the cycle explain the same run.
  explains_alike : (run : List ℕ) (need other : Demand) → ((i k : ℕ) → i < l.count → k < jobs_in l i → need i k ≡ other i k) → Explains (plan_of l) (cycle_of l) run need → Explains (plan_of l) (cycle_of l) run other
  unfolding plan_of filling takes
  explains_alike run need other same explains = record {
    needs_from = λ i k li lk. omega (arith, same i k li lk, explains.needs_from i k li lk);
    leads = λ t lt.
        sym (entry_by_released (plan_of l) sound (takes (plan_of l) need) (takes (plan_of l) other) t (λ i k li r. omega (arith, same i k li (released_within (plan_of l) (cycle_of l) divides i k t li r lt))))
        ∙ explains.leads t lt;
  }

  -- Needs within the run-times that explain a run are what any others take that do.
  needs_taken : (run : List ℕ) (need other : Demand) → Explains (plan_of l) (cycle_of l) run need → ((i k : ℕ) → i < l.count → k < jobs_in l i → need i k ≤ (plan_of l).runtime i k) → Explains (plan_of l) (cycle_of l) run other
      → (i k : ℕ) → i < l.count → k < jobs_in l i → need i k ≡ min (other i k) ((plan_of l).runtime i k)
  unfolding plan_of takes
  needs_taken run need other explains most explains-too i k li lk =
      omega (
        arith,
        most i k li lk,
        only_candidate (plan_of l) sound (cycle_of l) divides ok.on_time run need explains i k li lk,
        only_candidate (plan_of l) sound (cycle_of l) divides ok.on_time run other explains-too i k li lk,
      )

  own_table_explained : Explains (plan_of l) (cycle_of l) (entries l (cycle_of l)) (plan_of l).runtime
  unfolding plan_of entries
  own_table_explained =
      table_explained (plan_of l) sound (cycle_of l) (entries l (cycle_of l)) (λ i k li. (ok.keeps.fits i li).runtime_from)
      (λ t lt. overwrite_at (table (plan_of l)) (replicate (cycle_of l) 0) 0 (cycle_of l) t lt (omega (arith, length-replicate {A = ℕ} (cycle_of l) 0)))

  jobs_within : (jobs_of l ≤ cycle_of l) × (cycle_of l ≤ 4096)
  unfolding jobs_of job_sum plan_of
  jobs_within = (jobs_within_cycle (plan_of l) sound (cycle_of l) divides ok.on_time (λ i k li. (ok.keeps.fits i li).runtime_from), ok.keeps.cycle_within)

no_given : {n : ℕ} → ◌≡◌ {A = Viewed} (Ok None) (Ok (Some n)) → ⊥
no_given e = let z : ◌≡◌ {A = ℕ} 0 1 = cc in omega arith

module _ (l : TaskList) (supply : ℕ) (file old new : List ℕ) (r : Viewed) (E : ExplainsFile l supply file old new r) where
  abbrev Seen : ℕ → ℕ → List ℕ → Type 0
  Seen cycle jobs run = Explained l run old new r cycle jobs

  explain_goes : GoesBy (file_rules l supply file (jobs_of l) (length old)) (viewed_answer r)
  unfolding ExplainsFile
  explain_goes = file_goes l supply file old new r (jobs_of l) Seen (λ run. explained_checked l run old new r) E

  explain_refused : ((viewed_answer r).number ≡ 0 → ⊥) → new ≡ old
  unfolding ExplainsFile
  explain_refused = file_refused l supply file old new r (jobs_of l) Seen (λ run. explained_checked l run old new r) E

  module _ (z : (viewed_answer r).number ≡ 0) where
    seen : FileRun l supply file (jobs_of l) (length old) (Seen (cycle_of l) (jobs_of l))
    unfolding ExplainsFile
    seen = file_accepted l supply file old new r (jobs_of l) Seen (λ run. explained_checked l run old new r) E z

    -- Not refused, it is yes or no.
    yes_or_no : (run : List ℕ) → OfRun file run → Yes l run old new r ⊎ NoNeeds l run old new r
    yes_or_no run of = subst (λ (x : List ℕ). Yes l x old new r ⊎ NoNeeds l x old new r) (of_one_run file seen.run run seen.of_run of) (seen.said.said seen.number_0)

    yes_exactly : (run : List ℕ) → OfRun file run → (r ≡ Ok (Some (jobs_of l))) ↔ ((need : Demand) × Explains (plan_of l) (cycle_of l) run need)
    yes_exactly run of =
        ⊎_elim
        (λ (Y : Yes l run old new r). (λ _. (Y.need, Y.explains), λ _. Y.answer))
        (λ (N : NoNeeds l run old new r). (λ e. absurd (no_given (sym N.answer ∙ e)), λ h. absurd (N.none_lead h.0 h.1)))
        (yes_or_no run of)

    no_else : (r ≡ Ok (Some (jobs_of l)) → ⊥) → (r ≡ Ok None) × (new ≡ old)
    no_else not_so =
        ⊎_elim
        (λ (Y : Yes l seen.run old new r). absurd (not_so Y.answer))
        (λ (N : NoNeeds l seen.run old new r). (N.answer, N.bytes))
        (yes_or_no seen.run seen.of_run)

module _ (l : TaskList) (supply : ℕ) (file old new run : List ℕ) (n : ℕ) (E : ExplainsFile l supply file old new (Ok (Some n))) (of : OfRun file run) where
  yes : Yes l run old new (Ok (Some n))
  unfolding viewed_answer none refusal
  yes = ⊎_elim (λ (Y : Yes l run old new (Ok (Some n))). Y) (λ (N : NoNeeds l run old new (Ok (Some n))). absurd (no_given (sym N.answer))) (yes_or_no l supply file old new (Ok (Some n)) E refl run of)

  accepted_list : OnTimeAll l supply (verdict_of l supply)
  unfolding viewed_answer none refusal
  accepted_list = (seen l supply file old new (Ok (Some n)) E refl).ok

  given_lead : (need : Demand) → Stand l need new → Explains (plan_of l) (cycle_of l) run need
  given_lead need S = explains_alike l supply accepted_list run yes.need need (λ i k li lk. sym (yes.needs.each i k li lk) ∙ S.each i k li lk) yes.explains

  given_are : (need : Demand) → Explains (plan_of l) (cycle_of l) run need → Stand l (λ i k. min (need i k) ((plan_of l).runtime i k)) new
  given_are need explains = record { each = λ i k li lk. yes.needs.each i k li lk ∙ needs_taken l supply accepted_list run yes.need need yes.explains yes.just explains i k li lk }

full_run_explained : (l : TaskList) (full : FullRun l) (run : List ℕ) → mode_of full.asked ≡ Filling → WhoRan l full run → Explains (plan_of l) (cycle_of l) run full.need
unfolding plan_of
full_run_explained l full run mode who =
    whole_run_explained (plan_of l) (cycle_of l) run full.need full.needs_from (λ t lt. who.each t lt ∙ runs_as_filling l full mode t lt)

-- ---- so it holds
pub viewer_holds : Viewer
viewer_holds = record {
  write_goes = write_goes;
  read_goes = read_goes;
  explain_goes = explain_goes;
  write_refused = write_refused;
  read_refused = read_refused;
  explain_refused = explain_refused;
  one_run = λ run other is_run is-other same. one_run run other same is_run is-other;
  one_place = longest_one;
  written = λ l supply run old new n W. (wrote_run l supply run old new n W).of_run;
  read_back = λ l supply run old new n W old' new' r R room.
      let wrote = wrote_run l supply run old new n W in
      let F = wrote.run_fits in
      reads_run l supply (take n new) old' new' r R wrote.accepted run wrote.of_run (record { whole = F.whole; entries = F.entries; enough = room });
  yes_exactly = λ l supply file old new run r E z of. yes_exactly l supply file old new r E z run of;
  no_else = no_else;
  given_lead = given_lead;
  given_are = given_are;
  full_run_explained = full_run_explained;
  table_explained = λ l supply z. own_table_explained l supply (accepted_as l supply z);
  jobs_within = λ l supply z. jobs_within l supply (accepted_as l supply z);
}
