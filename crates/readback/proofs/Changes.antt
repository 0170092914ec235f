-- A run that is read change by change: what stands so far, one change more, and where a file is stuck.
use Rattle.std.proofs.Common.{◌≡◌, ℕ, ◌+◌, ◌-◌, ◌*◌, ◌<◌, ◌≤◌, ◌⊎◌, List, [], ◌++◌, length, take, drop, replicate, sym, refl, ap, ◌∙◌, subst, inl, inr, ⊎_elim, append_assoc, arith, length-append, length-drop, take-append-drop, length-take-le, take_all, get_or-take, take-add, Ok, Err}
use Rattle.basis.specs.Bytes.{at}
use Rattle.basis.specs.Choose.{le_or_lt}
use Rattle.printing.specs.Text.{ascii, digit}
use Rattle.vcd.specs.Form.{header, time_line, value_line, no_entry, vcd_text, OfRun}
use Rattle.vcd.specs.Follows.{Change, After, end, change, Form, SoFar, beginning, value_told, form_begins, after_beginning, after_change, after_makes, none_so_far, so_far_grows, text_so_far, text_of_none, is_run}
use Rattle.vcd.specs.Beginnings.{Stuck, stuck_behind, stuck_within}
use Rattle.readback.specs.declared.Deviation.{Deviation}
use Rattle.readback.specs.Shapes.{byte_at, Same, Shared, IsTime, IsOther, Reading, Filled}
use Rattle.readback.proofs.Bytes.{Agree}
use Rattle.readback.proofs.Steps.{whole_is, whole_stands, cut_place}
use Rattle.readback.proofs.Standing.{Below, Even, LineOf, cut_stuck, line_stands, line_inside}

-- ---- the lines
pub even_times : Even time_line 6
unfolding time_line digit Below
even_times = record {
  long = λ t. refl;
  small = λ t. (omega arith, (omega arith, (omega arith, (omega arith, (omega arith, (omega arith, refl))))));
}

pub even_values : Even value_line 9
unfolding value_line digit Below
even_values = record {
  long = λ e. refl;
  small = λ e. (omega arith, (omega arith, (omega arith, (omega arith, (omega arith, (omega arith, (omega arith, (omega arith, (omega arith, refl)))))))));
}

-- ---- what follows, by its first line
after_value : {t before : ℕ} {w : List ℕ} → After t before w → (w ≡ []) ⊎ ((line : List ℕ) × (u : List ℕ) × LineOf value_line (IsOther before) line × (w ≡ line ++ u))
after_value (end some) = inl refl
after_value (change {v = v} {t' = t'} {w = u} c a) = inr (value_line v, time_line t' ++ u, (v, record { entry = c.entry; other = c.other }, refl), refl)

after_nothing : {t before : ℕ} {w : List ℕ} → After t before w → w ≡ [] → 1 ≤ t
unfolding value_line
after_nothing (end some) e = some
after_nothing (change c a) e = let z : ◌≡◌ {A = ℕ} 98 0 = ap (λ (l : List ℕ). at l 0) e in absurd (omega arith)

-- Slice 4,096 is the last.
after_last : {t before : ℕ} {w : List ℕ} → After t before w → 4096 ≤ t → w ≡ []
after_last (end some) l = refl
after_last (change c a) l = absurd (omega (arith, c.later, c.within))

after_time : (v : ℕ) (w z : List ℕ) {t before : ℕ} → v ≤ 16 → After t before z → z ≡ value_line v ++ w → (line : List ℕ) × (u : List ℕ) × LineOf time_line (IsTime (t + 1)) line × (w ≡ line ++ u)
unfolding value_line
after_time v w z lv (end some) e = let z : ◌≡◌ {A = ℕ} 0 98 = ap (λ (l : List ℕ). at l 0) e in absurd (omega arith)
after_time v w z lv (change {v = x} {t' = t'} {w = u} c a) e =
    (time_line t', u, (t', record { from = omega (arith, c.later); to = c.within }, refl), sym (value_told x v (time_line t' ++ u) w c.entry lv e).1)

change_is : {t before v t' : ℕ} → IsOther before v → IsTime (t + 1) t' → Change t before v t'
change_is i j = record { entry = i.entry; other = i.other; later = omega (arith, j.from); within = j.to }

-- ---- the run so far
-- The first bytes of the file, up to a place, are the text of the first t entries, and what may follow there is what may follow
-- anywhere after slice t.
pub record Stands (file : List ℕ) (place t before : ℕ) (run : List ℕ) : Type 0 where
  pub so_far : SoFar run t before
  pub text : take place file ≡ vcd_text run
  pub in_file : place ≤ length file
  pub near : place ≤ 115 + 15 * t
  pub few : t ≤ 4096
  pub only : (w : List ℕ) → Form (take place file ++ w) → After t before w

long_beginning : length beginning ≡ 115
unfolding beginning header time_line ascii
long_beginning = refl

pub begins : (file : List ℕ) → take 115 file ≡ beginning → Stands file 115 0 no_entry []
begins file e = record {
  so_far = none_so_far;
  text = e ∙ sym text_of_none;
  in_file = ⊎_elim (λ (h : 115 ≤ length file). h) (λ (h : length file < 115). absurd (omega (arith, ap length (sym (take_all 115 file (omega arith)) ∙ e), long_beginning))) (le_or_lt 115 (length file));
  near = omega arith;
  few = omega arith;
  only = λ w form. after_beginning w (subst (λ (p : List ℕ). Form (p ++ w)) e form);
}

module _ {file : List ℕ} {place t before : ℕ} {run : List ℕ} (S : Stands file place t before run) where
  -- Stuck in what may follow is stuck.
  stuck_after : (n : ℕ) → Stuck (After t before) (drop place file) n → Stuck Form file (place + n)
  stuck_after n s =
      let long : length (take place file) ≡ place = length-take-le place file S.in_file in
      subst (λ (k : ℕ). Stuck Form file (k + n)) long
      (subst (λ (f : List ℕ). Stuck Form f (length (take place file) + n)) (take-append-drop place file)
      (stuck_behind (take place file) Form (After t before) S.only (λ w a. subst (λ (p : List ℕ). Form (p ++ w)) (sym S.text) (after_makes a S.few run S.so_far)) (drop place file) n s))

  -- ---- stuck in a value line
  pub value_stuck : (d : Deviation) → t < 4096 → (place ≡ length file → t ≡ 0) → Reading value_line (IsOther before) file place 9 1 (Err d) → Stuck Form file d.place
  value_stuck d l open-end h =
      let c = cut_place value_line (IsOther before) file place 9 d h in
      subst (Stuck Form file) (sym c.2)
      (stuck_after c.0
      (stuck_within (LineOf value_line (IsOther before)) (After t before) 9
      (λ w x. (
        ap length x.2 ∙ even_values.long x.0,
        time_line (t + 1) ++ [],
        subst (λ (p : List ℕ). After t before (p ++ (time_line (t + 1) ++ []))) (sym x.2)
            (change (change_is x.1 (record { from = omega arith; to = omega arith })) (end {t = t + 1} {before = x.0} (omega arith))),
      ))
      (λ w a. after_value a)
      (drop place file) c.0 c.1
      (cut_stuck value_line (IsOther before) 9 even_values file place c.0 c.1 c.3)
      (λ e a. let z : t ≡ 0 = open-end (omega (arith, ap length e, length-drop place file, S.in_file)) in omega (arith, after_nothing a e))))

  module _ (v : ℕ) (other : IsOther before v) (value : Same file place (value_line v) 9) where
    -- ---- stuck in the time line after it
    after_value_line : drop place file ≡ value_line v ++ drop (place + 9) file
    unfolding value_line
    after_value_line = line_stands file place (value_line v) (even_values.small v) value

    goes_on : List ℕ → Type 0
    goes_on w = After t before (value_line v ++ w)

    time_line_lem : (w : List ℕ) → goes_on w → (line : List ℕ) × (u : List ℕ) × LineOf time_line (IsTime (t + 1)) line × (w ≡ line ++ u)
    unfolding goes_on
    time_line_lem w a = after_time v w (value_line v ++ w) other.entry a refl

    time_goes : (x : ℕ) → IsTime (t + 1) x → goes_on (time_line x ++ [])
    unfolding goes_on
    time_goes x i = change (change_is other i) (end {t = x} {before = v} (omega (arith, i.from)))

    behind_value : (n : ℕ) → Stuck goes_on (drop (place + 9) file) n → Stuck (After t before) (drop place file) (9 + n)
    unfolding goes_on value_line
    behind_value n s =
        subst (λ (f : List ℕ). Stuck (After t before) f (9 + n)) (sym after_value_line)
        (stuck_behind (value_line v) (After t before) goes_on (λ w a. a) (λ w a. a) (drop (place + 9) file) n s)

    time_stuck : (d : Deviation) → Reading time_line (IsTime (t + 1)) file (place + 9) 6 1 (Err d) → Stuck Form file d.place
    time_stuck d h =
        let c = cut_place time_line (IsTime (t + 1)) file (place + 9) 6 d h in
        let e : place + (9 + c.0) ≡ d.place = omega (arith, c.2) in
        subst (Stuck Form file) e
        (stuck_after (9 + c.0)
        (behind_value c.0
        (stuck_within (LineOf time_line (IsTime (t + 1))) goes_on 6
        (λ w x. (ap length x.2 ∙ even_times.long x.0, [], subst (λ (p : List ℕ). goes_on (p ++ [])) (sym x.2) (time_goes x.0 x.1)))
        (λ w a. inr (time_line_lem w a))
        (drop (place + 9) file) c.0 c.1
        (cut_stuck time_line (IsTime (t + 1)) 6 even_times file (place + 9) c.0 c.1 c.3)
        (λ none a.
        let x = time_line_lem _ a in
        omega (arith, ap length (sym none ∙ x.3), length-append x.0 x.1, ap length x.2.2, even_times.long x.2.0)))))

    -- ---- one change more
    module _ (t' : ℕ) (later : IsTime (t + 1) t') (time : Same file (place + 9) (time_line t') 6) where
      both_lines : take (place + 15) file ≡ take place file ++ (value_line v ++ time_line t')
      unfolding value_line time_line
      both_lines =
          take-add place 15 file
          ∙ ap (λ (l : List ℕ). take place file ++ take 15 l) (after_value_line ∙ ap (λ (l : List ℕ). value_line v ++ l) (line_stands file (place + 9) (time_line t') (even_times.small t') time))

      inside : place + 15 ≤ length file
      unfolding value_line time_line
      inside =
          let i : place + 9 ≤ length file = line_inside file place (value_line v) (even_values.small v) S.in_file value in
          let j : place + 9 + 6 ≤ length file = line_inside file (place + 9) (time_line t') (even_times.small t') i time in
          omega arith

      regroup : (w : List ℕ) → take (place + 15) file ++ w ≡ take place file ++ (value_line v ++ (time_line t' ++ w))
      regroup w =
          ap (λ (l : List ℕ). l ++ w) both_lines
          ∙ append_assoc (take place file) (value_line v ++ time_line t') w
          ∙ ap (λ (l : List ℕ). take place file ++ l) (append_assoc (value_line v) (time_line t') w)

      next_change : Stands file (place + 15) t' v (run ++ replicate (t' - t) v)
      next_change =
          let c = change_is other later in
          record {
            so_far = so_far_grows S.so_far c;
            text = both_lines ∙ ap (λ (l : List ℕ). l ++ (value_line v ++ time_line t')) S.text ∙ sym (text_so_far S.so_far c);
            in_file = inside;
            near = omega (arith, S.near, later.from);
            few = later.to;
            only = λ w form. after_change v t' w other.entry later.to (S.only (value_line v ++ (time_line t' ++ w)) (subst Form (regroup w) form));
          }

  -- ---- as the lines are read
  module _ (v : ℕ) (h : Reading value_line (IsOther before) file place 9 1 (Ok v)) where
    other_value : IsOther before v
    other_value = whole_is value_line (IsOther before) file place 9 v h

    value_stands : Same file place (value_line v) 9
    value_stands = whole_stands value_line (IsOther before) file place 9 v h

    pub stuck_behind_value : (d : Deviation) → Reading time_line (IsTime (t + 1)) file (place + 9) 6 1 (Err d) → Stuck Form file d.place
    stuck_behind_value d k = time_stuck v other_value value_stands d k

    pub one_more : (t' : ℕ) {old new : List ℕ} → Reading time_line (IsTime (t + 1)) file (place + 9) 6 1 (Ok t') → run ≡ take t old → Filled old t t' v new
        → Stands file (place + 15) t' v (take t' new)
    one_more t' k e f =
        subst (Stands file (place + 15) t' v) (ap (λ (l : List ℕ). l ++ replicate (t' - t) v) e ∙ sym f.entries)
        (next_change v other_value value_stands t' (whole_is time_line (IsTime (t + 1)) file (place + 9) 6 t' k) (whole_stands time_line (IsTime (t + 1)) file (place + 9) 6 t' k))

  -- ---- the end
  pub whole_run : place ≡ length file → 1 ≤ t → OfRun file run
  whole_run e some = record {
    is_run = is_run run t before S.so_far some S.few;
    is_text = sym (take_all place file (omega arith)) ∙ S.text;
  }

  pub last_stuck : 4096 ≤ t → (place ≡ length file → ⊥) → Stuck Form file place
  last_stuck last more =
      let z : place + 0 ≡ place = omega arith in
      subst (Stuck Form file) z
      (stuck_after 0
      (record {
        begun = record { text = []; of_form = end (omega arith); in_file = omega arith; in_text = omega arith; same = refl };
        no_further = λ m h. omega (arith, h.in_text, ap length (after_last h.of_form last));
        none = λ a. more (omega (arith, ap length (after_last a last), length-drop place file, S.in_file));
      }))

-- ---- stuck in the beginning
some_form : (w : List ℕ) × Form (beginning ++ w)
some_form =
    let c : Change 0 no_entry 0 1 = record { entry = omega arith; other = λ e. omega arith; later = omega arith; within = omega arith } in
    (value_line 0 ++ (time_line 1 ++ []), subst (λ (p : List ℕ). Form (p ++ (value_line 0 ++ (time_line 1 ++ [])))) text_of_none (after_makes (change c (end (omega arith))) (omega arith) [] none_so_far))

shared_most : (text file : List ℕ) (n m : ℕ) → Shared text file n → Agree text file m → m ≤ n
shared_most text file n m s a =
    ⊎_elim
    (λ (l : m ≤ n). l)
    (λ (l : n < m).
    absurd
    (s.ends (omega (arith, a.in_text))
    (sym (get_or-take m file n 256 l) ∙ ap (λ (x : List ℕ). byte_at x n) a.same ∙ get_or-take m text n 256 l)))
    (le_or_lt m n)

pub beginning_stuck : (file : List ℕ) (n : ℕ) → Shared beginning file n → n < 115 → Stuck Form file n
beginning_stuck file n s short =
    stuck_within (λ w. w ≡ beginning) Form 115
    (λ w e. (ap length e ∙ long_beginning, some_form.0, subst (λ (p : List ℕ). Form (p ++ some_form.0)) (sym e) some_form.1))
    (λ w form. let h = form_begins w form in inr (beginning, h.0, refl, h.1))
    file n short
    (record {
      begun = record { text = beginning; of_form = refl; in_file = s.in_file; in_text = s.in_text; same = s.same };
      no_further = λ m h. shared_most beginning file n m s (record { in_text = omega (arith, h.in_text, ap length h.of_form); in_file = h.in_file; same = h.same ∙ ap (take m) h.of_form });
      none = λ e. let l : 115 ≤ n = shared_most beginning file n 115 s (record { in_text = omega (arith, long_beginning); in_file = omega (arith, ap length e, long_beginning); same = ap (take 115) e }) in omega arith;
    })
    (λ none form. let h = form_begins file form in omega (arith, ap length (sym none ∙ h.1), length-append beginning h.0, long_beginning))

-- The whole beginning stands.
pub whole_beginning : (file : List ℕ) (n : ℕ) → Shared beginning file n → 115 ≤ n → take 115 file ≡ beginning
whole_beginning file n s l =
    let e : n ≡ 115 = omega (arith, s.in_text, long_beginning) in
    ap (λ (k : ℕ). take k file) (sym e) ∙ s.same ∙ take_all n beginning (omega (arith, long_beginning))
