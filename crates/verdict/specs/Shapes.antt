-- Shaped like the code, for private contracts alone: what the loops over arrays of numbers come to. Place k of an array belongs to
-- the k-th task by rank. Walk ties them to the plan.
use Rattle.std.specs.Prelude.{◌≡◌, ℕ, suc, ◌+◌, ◌-◌, ◌<◌, ◌≤◌, min, ◌&&◌, ◌⊎◌, List, length, ◌==◌, nat_lt, slice_set, Option, Result, MatchOption, MatchResult}
use Rattle.basis.specs.Bytes.{at, overwrite}
use Rattle.basis.specs.Choose.{choose}
use Rattle.basis.specs.Sum.{sum}
use Rattle.plan.specs.Order.{FirstPlace}
use Rattle.plan.specs.Events.{left, GoesTo}
use Rattle.verdict.specs.declared.Late.{Late}
use Rattle.verdict.specs.declared.walk.Jobs.{Jobs}

-- ---- entries
-- Bytes from a to b, b not included, hold one entry, and the others are as they were.
pub record Filled (table : List ℕ) (a b entry : ℕ) (table' : List ℕ) : Type 0 where
  pub long : length table' ≡ length table
  pub filled : (x : ℕ) → a ≤ x → x < b → at table' x ≡ entry
  pub elsewhere : (x : ℕ) → (x < a) ⊎ (b ≤ x) → at table' x ≡ at table x

-- The entries of the slices from slice t on, up to another.
pub record Written (order lacks table : List ℕ) (n t to : ℕ) (table' : List ℕ) : Type 0 where
  pub long : length table' ≡ length table
  pub entries : (s : ℕ) → t + s < to → GoesTo order (at lacks) n s (at table' (t + s))
  pub elsewhere : (x : ℕ) → (x < t) ⊎ (to ≤ x) → at table' x ≡ at table x

-- The entries of the slices before slice t, with none written from there on.
pub record Tabled (entry : ℕ → ℕ) (t room : ℕ) (table : List ℕ) : Type 0 where
  pub long : length table ≡ room
  pub written : (x : ℕ) → x < t → at table x ≡ entry x
  pub blank : (x : ℕ) → t ≤ x → at table x ≡ 0

-- ---- a turn
-- It begins at slice `from` and ends at slice r, where the task has what it lacks or the next event is. Its entries are written
-- where there is room up to the next event.
pub record HandedOne (order dues lacks ends table : List ℕ) (k t from next : ℕ) (lacks' ends' table' : List ℕ) (r : ℕ) : Type 0 where
  pub to_is : r ≡ from + min (at lacks k) (next - from)
  pub lacks_are : lacks' ≡ slice_set lacks k (at lacks k - min (at lacks k) (next - from))
  pub ends_are : ends' ≡ slice_set ends k (choose (nat_lt t (at dues k) && nat_lt from r) r (at ends k))
  pub writes : next ≤ length table → Filled table from r (at order k + 1) table'

-- When a job was released, and its next event, stay as slices are handed out.
abbrev pub SameEvents : Jobs → Jobs → Type 0
SameEvents jobs jobs' = (jobs'.releases ≡ jobs.releases) × (jobs'.events ≡ jobs.events)

-- ---- m slices handed out from slice t on
-- The turn of the task at place k ends after so many of them.
unfoldable pub until : (ℕ → ℕ) → ℕ → ℕ → ℕ
until lack k m = min m (sum lack (suc k))

-- The end of its first job so far: where it is in its first job and gets some of the slices, the end of its turn.
unfoldable pub end_after : List ℕ → List ℕ → List ℕ → ℕ → ℕ → ℕ → ℕ
end_after dues lacks ends t m k = choose (nat_lt t (at dues k) && nat_lt (sum (at lacks) k) (until (at lacks) k m)) (t + until (at lacks) k m) (at ends k)

-- The slices that are left over are idle, which entries are before they are written.
pub record HandedOut (order dues lacks ends table : List ℕ) (n t next : ℕ) (lacks' ends' table' : List ℕ) : Type 0 where
  pub lacks_are : lacks' ≡ overwrite (λ k. left (at lacks) k (next - t)) n lacks
  pub ends_are : ends' ≡ overwrite (end_after dues lacks ends t (next - t)) n ends
  pub writes : next ≤ length table → ((x : ℕ) → t ≤ x → at table x ≡ 0) → Written order lacks table n t next table'

-- ---- what happens at slice t to a task with its next event at `event`
-- its numbers are small
pub record Fits (period due release event t : ℕ) : Type 0 where
  pub release_small : release + period ≤ 8192
  pub due_small : t + due ≤ 8192

-- what its job misses, if the event is there
unfoldable pub missing_of : ℕ → ℕ → ℕ → ℕ
missing_of event lack t = choose (event == t) lack 0

-- Its deadline passed, it waits for its release; at its release, a fresh job begins.
unfoldable pub turned : {A : Type 0} → ℕ → ℕ → ℕ → A → A → A → A
turned next event t stays waits begins = choose (event == t) (choose (nat_lt t next) waits begins) stays

-- the same of the task at place k
module _ (periods dues runtimes releases events lacks : List ℕ) (t k : ℕ) where
  unfoldable pub event_then : ℕ
  event_then = turned (at releases k + at periods k) (at events k) t (at events k) (at releases k + at periods k) (t + at dues k)

  unfoldable pub release_then : ℕ
  release_then = turned (at releases k + at periods k) (at events k) t (at releases k) (at releases k) t

  unfoldable pub lack_then : ℕ
  lack_then = turned (at releases k + at periods k) (at events k) t (at lacks k) (at lacks k) (at runtimes k)

  -- It misses its deadline;
  pub record Misses (lacks' : List ℕ) : Type 0 where
    pub wanting : 0 < missing_of (at events k) (at lacks k) t
    pub short_is : at lacks' k ≡ missing_of (at events k) (at lacks k) t

  -- or it does not, and the answer is its next event.
  pub record Passes (releases' events' lacks' : List ℕ) (event : ℕ) : Type 0 where
    pub none : missing_of (at events k) (at lacks k) t ≡ 0
    pub event_is : event ≡ event_then
    pub events_are : events' ≡ slice_set events k event_then
    pub releases_are : releases' ≡ slice_set releases k release_then
    pub lacks_are : lacks' ≡ slice_set lacks k lack_then

  abbrev pub TurnedOne : List ℕ → List ℕ → List ℕ → Option ℕ → Type 0
  TurnedOne releases' events' lacks' r = MatchOption r (Misses lacks') (Passes releases' events' lacks')

-- ---- all tasks at slice t
abbrev pub none_late : Late
none_late = record { task = 0; short = 0 }

-- The next event of all is the least of the tasks' events, and 8,192 at most.
pub record Earliest (event : ℕ → ℕ) (n next : ℕ) : Type 0 where
  pub no_later : (k : ℕ) → k < n → next ≤ event k
  pub greatest : (x : ℕ) → x ≤ 8192 → ((k : ℕ) → k < n → x ≤ event k) → x ≤ next

-- The first by rank to miss its deadline is found;
pub record OneLate (order : List ℕ) (missing : ℕ → ℕ) (n : ℕ) (late : Late) : Type 0 where
  pub first : FirstPlace order missing n late.task
  pub short_is : late.short ≡ missing first.place

-- or none misses it, and all have turned.
pub record AllTurned (periods dues runtimes releases events lacks : List ℕ) (n t : ℕ) (releases' events' lacks' : List ℕ) (next : ℕ) : Type 0 where
  pub none_late_lem : (k : ℕ) → k < n → missing_of (at events k) (at lacks k) t ≡ 0
  pub events_are : events' ≡ overwrite (event_then periods dues runtimes releases events lacks t) n events
  pub releases_are : releases' ≡ overwrite (release_then periods dues runtimes releases events lacks t) n releases
  pub lacks_are : lacks' ≡ overwrite (lack_then periods dues runtimes releases events lacks t) n lacks
  pub next_is : Earliest (event_then periods dues runtimes releases events lacks t) n next

abbrev pub TurnedAll : (order periods dues runtimes releases events lacks : List ℕ) (n t : ℕ) (releases' events' lacks' : List ℕ) → Result ℕ Late → Type 0
TurnedAll order periods dues runtimes releases events lacks n t releases' events' lacks' r =
    MatchResult r (AllTurned periods dues runtimes releases events lacks n t releases' events' lacks') (OneLate order (λ k. missing_of (at events k) (at lacks k) t) n)

-- ---- the tightest task
abbrev pub margin_at : List ℕ → List ℕ → ℕ → ℕ
margin_at dues ends k = at dues k - at ends k

-- of places k and best, the one of the smaller margin, and best where they are equal
pub record Tighter (margin : ℕ → ℕ) (k best r : ℕ) : Type 0 where
  pub smaller : margin k < margin best → r ≡ k
  pub not_smaller : margin best ≤ margin k → r ≡ best

-- The first place with the smallest margin.
pub record TightestAt (margin : ℕ → ℕ) (n best : ℕ) : Type 0 where
  pub below : best < n
  pub smallest : (k : ℕ) → k < n → margin best ≤ margin k
  pub first : (k : ℕ) → k < best → margin best < margin k
