-- What asking comes to at each way out, as laws over a state.
use Rattle.std.proofs.Common.{◌≡◌, ℕ, zero, suc, ◌-◌, ◌<◌, ◌≤◌, Bool, true, false, ◌||◌, eqb, ltb, List, length, get_or, Option, Some, None, ok_or, Ok, Err, ◌≢◌, sym, refl, ap, ◌∙◌, ap₂, ⊎_elim, arith, le-leb, le-ltb, lt-ltb, eq-eqb, ne_eqb}
use Rattle.basis.specs.Bytes.{at}
use Rattle.basis.specs.Choose.{choose, choose_yes, choose_no, bool_cases, is_within}
use Rattle.basis.specs.Answer.{none_number, number_if, number_unless, refusal}
use Rattle.readings.specs.declared.Entry.TheVariants.{Idle, Task, NoEntry as Unread}
use Rattle.readings.specs.Reading.{entry_of}
use Rattle.readings.proofs.Laws.{idle_read, task_read, no_entry_read}
use Rattle.run.specs.declared.ask.Asked.{Asked}
use Rattle.run.specs.declared.Mode.{Mode}
use Rattle.run.specs.declared.Mode.TheVariants.{Table, Filling}
use Rattle.run.specs.declared.State.{State}
use Rattle.run.specs.declared.Refusal.{Refusal}
use Rattle.run.specs.declared.Refusal.TheVariants.{Unsound, Over, NoEntry}
use Rattle.run.specs.State.{job_of, sound, job_count}
use Rattle.run.specs.Sound.{SoundState, sound_tells}
use Rattle.run.specs.Who.{unless_ended, first_open, running_by, running, of9, of10, of11_by, of11, who_found, who_refusal, refusal_of, unless_refused, of_entry, answered, who_of}
use Rattle.run.specs.Shapes.{sound_at, jobs_of, jobs_if_sound, table_ask, asked_of}

-- ---- soundness and job count in one pass
module _ (s : State) where
  pub unsound_by : jobs_if_sound s ≡ None → sound s ≡ false
  unfolding jobs_if_sound choose
  unsound_by e =
      ⊎_elim
      (λ (t : sound s ≡ true). let z : Some (job_count s) ≡ None = sym (choose_yes (sound s) _ _ t) ∙ e in cc)
      (λ (f : sound s ≡ false). f)
      (bool_cases (sound s))

  pub counted : (o : Option ℕ) (jobs : ℕ) → o ≡ jobs_if_sound s → ok_or o Unsound ≡ Ok jobs → jobs_if_sound s ≡ Some jobs
  counted None jobs eo e = cc
  counted (Some n) jobs eo e = let q : Some n ≡ Some jobs = cc in sym eo ∙ q

  module _ (jobs : ℕ) (e : jobs_if_sound s ≡ Some jobs) where
    pub sound_by : sound s ≡ true
    unfolding jobs_if_sound
    sound_by =
        ⊎_elim
        (λ (t : sound s ≡ true). t)
        (λ (f : sound s ≡ false). let z : None ≡ Some jobs = sym (choose_no (sound s) _ _ f) ∙ e in cc)
        (bool_cases (sound s))

    pub jobs_by : jobs ≡ job_count s
    unfolding jobs_if_sound
    jobs_by = let z : Some (job_count s) ≡ Some jobs = sym (choose_yes (sound s) _ _ sound_by) ∙ e in cc

    pub facts_by : SoundState s
    facts_by = (sound_tells s).0 sound_by

    pub before_end : (s.position ≡ s.cycle → ⊥) → s.position < s.cycle
    before_end ne = omega (arith, facts_by.position_to)

-- a test that fails, and all of them
module _ (s : State) where
  pub no_jobs : (SoundState s → ⊥) → None ≡ jobs_if_sound s
  unfolding jobs_if_sound
  no_jobs never =
      ⊎_elim
      (λ (t : sound s ≡ true). absurd (never ((sound_tells s).0 t)))
      (λ (f : sound s ≡ false). sym (choose_no (sound s) _ _ f))
      (bool_cases (sound s))

  pub all_jobs : 1 ≤ s.count → s.count ≤ 16 → 1 ≤ s.cycle → s.cycle ≤ 4096 → s.position ≤ s.cycle → jobs_of s ≡ jobs_if_sound s
  unfolding jobs_of jobs_if_sound sound sound_at
  all_jobs some few from to before = rw (is_within 1 16 s.count some few, is_within 1 4096 s.cycle from to, le-leb s.position s.cycle before)

-- ---- the entry by its reading
pub reads_one : (byte count i : ℕ) → count ≤ 16 → entry_of byte count ≡ Task i → (1 ≤ i) × (i ≤ 16)
reads_one byte count i few e = let h = task_read byte count i e in (omega (arith, h), omega (arith, h))

-- where the table reaches the cycle's end
module _ (s : State) (table : List ℕ) (few : s.count ≤ 16) where
  pub reads_short : length table < s.cycle → Err NoEntry ≡ table_ask s table
  unfolding table_ask choose
  reads_short l = rw (lt-ltb _ _ l)

  module _ (long : s.cycle ≤ length table) where
    pub reads_idle_as : entry_of (at table s.position) s.count ≡ Idle → Ok None ≡ table_ask s table
    unfolding table_ask unless_ended of_entry choose
    reads_idle_as e = let z = idle_read (at table s.position) s.count e in rw (le-ltb _ _ long, z, le-ltb s.count 0 (omega arith))

    its_entry : (i : ℕ) → 1 ≤ i → unless_ended s i ≡ choose (get_or s.ended (i - 1) false) 0 i
    unfolding unless_ended job_of
    its_entry zero l = absurd (omega arith)
    its_entry (suc i) l = let e : suc i - 1 ≡ i = omega arith in rw e

    reads_task : (i : ℕ) → entry_of (at table s.position) s.count ≡ Task i → table_ask s table ≡ Ok (of_entry (choose (get_or s.ended (i - 1) false) 0 i))
    unfolding table_ask choose
    reads_task i e =
        let h = task_read (at table s.position) s.count i e in
        rw (le-ltb _ _ long, h.0, le-ltb s.count i (omega (arith, h)), its_entry i (omega (arith, h)))

    entry_is : (i : ℕ) → 1 ≤ i → Some i ≡ of_entry i
    unfolding of_entry
    entry_is zero l = absurd (omega arith)
    entry_is (suc i) l = refl

    pub reads_ended_as : (i : ℕ) → entry_of (at table s.position) s.count ≡ Task i → get_or s.ended (i - 1) false ≡ true → Ok None ≡ table_ask s table
    unfolding of_entry choose
    reads_ended_as i e t = sym (reads_task i e ∙ rw t)

    pub reads_open_as : (i : ℕ) → entry_of (at table s.position) s.count ≡ Task i → get_or s.ended (i - 1) false ≡ false → Ok (Some i) ≡ table_ask s table
    unfolding choose
    reads_open_as i e f = ap Ok (entry_is i (reads_one _ _ i few e).0) ∙ sym (reads_task i e ∙ rw f)

    pub reads_none_as : (x : ℕ) → entry_of (at table s.position) s.count ≡ Unread x → Err NoEntry ≡ table_ask s table
    unfolding table_ask choose
    reads_none_as x e = rw (le-ltb _ _ long, lt-ltb _ _ (no_entry_read (at table s.position) s.count x few e))

-- ---- the answers
module _ (s : State) (table : List ℕ) where
  who_number : who_refusal s table ≡ choose (sound s) (choose (eqb s.position s.cycle) 10 (of11_by s.mode s table).number) 9
  unfolding who_found of9 of10 of11
  who_number = number_unless (sound s) 8 _ ∙ ap (λ (x : ℕ). choose (sound s) x 9) (number_if (eqb s.position s.cycle) 9 (of11 s table))

  asked_by : (n : ℕ) → who_refusal s table ≡ n → asked_of s table ≡ unless_refused n (record { jobs = job_count s; ran = of_entry (running s table) })
  unfolding asked_of
  asked_by n e = rw e

  unsound_asked : jobs_if_sound s ≡ None → Err Unsound ≡ asked_of s table
  unfolding unless_refused refusal_of choose
  unsound_asked e = sym (asked_by 9 (who_number ∙ choose_no _ _ _ (unsound_by s e)))

  pub asked_unsound : (o : Option ℕ) (r : Refusal) → o ≡ jobs_if_sound s → ok_or o Unsound ≡ Err r → Err r ≡ asked_of s table
  asked_unsound None r eo e = let q : Unsound ≡ r = cc in rw (← q) (unsound_asked (sym eo))
  asked_unsound (Some jobs) r eo e = cc

  module _ (jobs : ℕ) (e : jobs_if_sound s ≡ Some jobs) where
    pub asked_over : s.position ≡ s.cycle → Err Over ≡ asked_of s table
    unfolding unless_refused refusal_of choose
    asked_over q = sym (asked_by 10 (who_number ∙ choose_yes _ _ _ (sound_by s jobs e) ∙ choose_yes _ _ _ (eq-eqb _ _ q)))

    module _ (ne : s.position ≡ s.cycle → ⊥) where
      number_11 : who_refusal s table ≡ (of11_by s.mode s table).number
      number_11 = who_number ∙ choose_yes _ _ _ (sound_by s jobs e) ∙ choose_no _ _ _ (ne_eqb _ _ ne)

      -- who runs, where nothing is refused
      runs : (m : Mode) → s.mode ≡ m → (of11_by m s table).number ≡ 0 → asked_of s table ≡ Ok (record { jobs = jobs; ran = of_entry (running_by m s table) })
      unfolding running unless_refused
      runs m em passes =
          asked_by 0 (number_11 ∙ ap (λ (x : Mode). (of11_by x s table).number) em ∙ passes)
          ∙ ap₂ (λ (j : ℕ) (x : Mode). Ok (record { jobs = j; ran = of_entry (running_by x s table) })) (sym (jobs_by s jobs e)) em

      pub asked_filling : (ran : Option ℕ) → s.mode ≡ Filling → ran ≡ of_entry (first_open s) → Ok (record { jobs = jobs; ran = ran }) ≡ asked_of s table
      unfolding of11_by running_by
      asked_filling ran em er = rw er (sym (runs Filling em none_number))

      module _ (em : s.mode ≡ Table) where
        abbrev unreadable : Bool
        unreadable = ltb (length table) s.cycle || ltb s.count (at table s.position)

        unread : unreadable ≡ true → asked_of s table ≡ Err NoEntry
        unfolding of11_by refusal unless_refused refusal_of choose
        unread t = asked_by 11 (number_11 ∙ rw (em, t))

        read : unreadable ≡ false → asked_of s table ≡ Ok (record { jobs = jobs; ran = of_entry (unless_ended s (at table s.position)) })
        unfolding of11_by running_by choose
        read f = runs Table em (rw (f, none_number))

        pub asked_read : (ran : Option ℕ) → Ok ran ≡ table_ask s table → Ok (record { jobs = jobs; ran = ran }) ≡ asked_of s table
        unfolding table_ask
        asked_read ran er =
            ⊎_elim
            (λ (t : unreadable ≡ true). let z : Ok ran ≡ Err NoEntry = er ∙ choose_yes _ _ _ t in cc)
            (λ (f : unreadable ≡ false). let z : Ok ran ≡ Ok (of_entry (unless_ended s (at table s.position))) = er ∙ choose_no _ _ _ f in cc (z, read f))
            (bool_cases unreadable)

        pub asked_unread : (r : Refusal) → Err r ≡ table_ask s table → Err r ≡ asked_of s table
        unfolding table_ask
        asked_unread r er =
            ⊎_elim
            (λ (t : unreadable ≡ true). let z : Err r ≡ Err NoEntry = er ∙ choose_yes _ _ _ t in cc (z, unread t))
            (λ (f : unreadable ≡ false). let z : Err r ≡ Ok (of_entry (unless_ended s (at table s.position))) = er ∙ choose_no _ _ _ f in cc)
            (bool_cases unreadable)

-- ---- who
module _ {A : Type 0} where
  pub refused_by : (n : ℕ) (x : A) (r : Refusal) → unless_refused n x ≡ Err r → n ≢ 0
  unfolding unless_refused
  refused_by zero x r e = cc
  refused_by (suc n) x r e = λ z. omega arith

  pub passed_by : (n : ℕ) (x y : A) → unless_refused n x ≡ Ok y → (n ≡ 0) × (x ≡ y)
  unfolding unless_refused
  passed_by zero x y e = (refl, cc)
  passed_by (suc n) x y e = cc

pub refused_too : {A B : Type 0} (n : ℕ) (x : A) (y : B) (r : Refusal) → unless_refused n x ≡ Err r → Err r ≡ unless_refused n y
unfolding unless_refused
refused_too zero x y r e = cc
refused_too (suc n) x y r e = let q : refusal_of (suc n) ≡ r = cc in ap Err (sym q)

module _ (s : State) (table : List ℕ) where
  pub who_refused : (r : Refusal) → asked_of s table ≡ Err r → Err r ≡ who_of s table
  unfolding asked_of who_of answered
  who_refused r e = refused_too (who_refusal s table) _ (of_entry (running s table)) r e

  pub who_told : (a : Asked) → asked_of s table ≡ Ok a → Ok a.ran ≡ who_of s table
  unfolding asked_of who_of answered unless_refused
  who_told a e = let h = passed_by (who_refusal s table) _ a e in rw (h.0, ← h.1)
