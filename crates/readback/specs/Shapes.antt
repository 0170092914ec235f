-- Shaped like the code, for private contracts alone: lines that are read byte by byte or four bytes at a time, and runs that are read
-- change by change.
use Rattle.std.specs.Prelude.{◌≡◌, ℕ, zero, suc, ◌+◌, ◌-◌, ◌*◌, ◌/◌, ◌%◌, ◌<◌, ◌≤◌, List, ◌++◌, length, take, replicate, ◌≢◌, slice_index_or, Option, Some, None, Result, Ok, Err}
use Rattle.printing.specs.Text.{digit}
use Rattle.vcd.specs.Form.{OfRun}
use Rattle.vcd.specs.Follows.{Form}
use Rattle.vcd.specs.Beginnings.{Stuck}
use Rattle.readback.specs.declared.Deviation.{Deviation}

-- ---- bytes
-- The byte at a place. Past the end that is 256, which no line has, so that no line goes on there.
abbrev pub byte_at : List ℕ → ℕ → ℕ
byte_at file i = slice_index_or file i 256

-- n bytes on from a place
unfoldable pub place : ℕ → ℕ → ℕ
place from zero = from
place from (suc n) = from + suc n

-- From a place on stand the first n bytes of a line.
unfoldable pub Same : List ℕ → ℕ → List ℕ → ℕ → Type 0
Same file from line zero = ◌≡◌ {A = ℕ} 0 0
Same file from line (suc n) = Same file from line n × (byte_at file (place from n) ≡ byte_at line n)

-- As many bytes as stand of both.
pub record Shared (text file : List ℕ) (n : ℕ) : Type 0 where
  pub in_text : n ≤ length text
  pub in_file : n ≤ length file
  pub same : take n file ≡ take n text
  pub ends : n < length text → byte_at file n ≢ byte_at text n

-- ---- one byte more
-- The number of a line that stands so far, or the first place that none goes on to; and the same with the byte at the place.
abbrev pub ByteRead : ℕ → ℕ → ℕ → Result ℕ Deviation → Result ℕ Deviation → Type 0
ByteRead byte wanted place (Err d) r = r ≡ Err d
ByteRead byte wanted place (Ok v) r = (byte ≡ wanted → r ≡ Ok v) × (byte ≢ wanted → r ≡ Err (record { place = place }))

-- the number that is left out; none is 5,000
abbrev pub left_out : Option ℕ → ℕ
left_out (Some x) = x
left_out None = 5000

-- A number from low to high, other than `but`.
pub record Allowed (low high but x : ℕ) : Type 0 where
  pub from : low ≤ x
  pub to : x ≤ high
  pub other : x ≡ but → ⊥

-- The number with one digit more than p is x, and the byte is that digit.
pub record Longer (base byte p x : ℕ) : Type 0 where
  pub from : p * base ≤ x
  pub to : x < p * base + base
  pub byte_is : byte + p * base ≡ 48 + x

-- The number with one digit more, if that is an allowed one.
abbrev pub NumberRead : ℕ → ℕ → ℕ → ℕ → ℕ → ℕ → Option ℕ → Type 0
NumberRead byte base low high but p (Some x) = (x ≤ 4096) × Allowed low high but x × Longer base byte p x
NumberRead byte base low high but p None = (x : ℕ) → Allowed low high but x → Longer base byte p x → ⊥

abbrev pub DigitRead : ℕ → ℕ → ℕ → ℕ → ℕ → ℕ → Result ℕ Deviation → Result ℕ Deviation → Type 0
DigitRead byte base low high but place (Err d) r = r ≡ Err d
DigitRead byte base low high but place (Ok p) (Ok x) = (x ≤ 4096) × Allowed low high but x × Longer base byte p x
DigitRead byte base low high but place (Ok p) (Err d) = (d ≡ record { place = place }) × ((x : ℕ) → Allowed low high but x → Longer base byte p x → ⊥)

-- ---- a line of a kind: that of some number of the kind
-- The first n bytes stand as they do exactly in the lines of numbers that have the quotient p by D, and there are some.
pub record Goes (line : ℕ → List ℕ) (Is : ℕ → Type 0) (file : List ℕ) (from n D p : ℕ) : Type 0 where
  pub some : ℕ
  pub is : Is some
  pub some_quotient : some / D ≡ p
  pub all : (x : ℕ) → x / D ≡ p → Same file from (line x) n
  pub only : (x : ℕ) → Is x → Same file from (line x) n → x / D ≡ p

-- The first n bytes are those of some line of the kind, and no more are.
pub record Cut (line : ℕ → List ℕ) (Is : ℕ → Type 0) (file : List ℕ) (from n : ℕ) : Type 0 where
  pub some : ℕ
  pub is : Is some
  pub same : Same file from (line some) n
  pub none : (x : ℕ) → Is x → Same file from (line x) (suc n) → ⊥

-- The line is cut at a place, before n bytes of it.
pub record CutAt (line : ℕ → List ℕ) (Is : ℕ → Type 0) (file : List ℕ) (from n p : ℕ) : Type 0 where
  pub size : ℕ
  pub at : p ≡ place from size
  pub short : size < n
  pub cut : Cut line Is file from size

-- n bytes are read: they stand, or the line is cut before.
unfoldable pub Reading : (ℕ → List ℕ) → (ℕ → Type 0) → List ℕ → ℕ → ℕ → ℕ → Result ℕ Deviation → Type 0
Reading line Is file from n D (Ok p) = Goes line Is file from n D p
Reading line Is file from n D (Err d) = CutAt line Is file from n d.place

-- ---- a whole line, read four bytes at a time
-- Four bytes as one number, the first counting least.
abbrev pub word : ℕ → ℕ → ℕ → ℕ → ℕ
word a b c d = a + b * 256 + c * 65536 + d * 16777216

pub record Word (file : List ℕ) (i w : ℕ) : Type 0 where
  pub first : byte_at file i < 256
  pub second : byte_at file (i + 1) < 256
  pub third : byte_at file (i + 2) < 256
  pub fourth : byte_at file (i + 3) < 256
  pub is : w ≡ word (byte_at file i) (byte_at file (i + 1)) (byte_at file (i + 2)) (byte_at file (i + 3))

-- The number up to 15 that the four bytes write in binary digits,
pub record FourBits (w r : ℕ) : Type 0 where
  pub few : r ≤ 15
  pub are : w ≡ word (digit (r / 8 % 2)) (digit (r / 4 % 2)) (digit (r / 2 % 2)) (digit (r % 2))

-- the one that they write in decimal digits,
pub record FourDigits (w r : ℕ) : Type 0 where
  pub are : w ≡ word (digit (r / 1000 % 10)) (digit (r / 100 % 10)) (digit (r / 10 % 10)) (digit (r % 10))

-- and the last digit, up to 1, of a value line that ends there.
pub record LastBit (w r : ℕ) : Type 0 where
  pub few : r ≤ 1
  pub ends : w ≡ word (digit r) 32 33 10

-- The line of a number that is no greater than the greatest stands there.
pub record Whole (line : ℕ → List ℕ) (most : ℕ) (file : List ℕ) (from size r : ℕ) : Type 0 where
  pub stands : r ≤ most → Same file from (line r) size

-- the time of slice low or of a later one
pub record IsTime (low t : ℕ) : Type 0 where
  pub from : low ≤ t
  pub to : t ≤ 4096

-- an entry other than the one before
pub record IsOther (before e : ℕ) : Type 0 where
  pub entry : e ≤ 16
  pub other : e ≡ before → ⊥

-- The greatest entry other than the one before.
pub record Top (before top : ℕ) : Type 0 where
  pub entry : top ≤ 16
  pub other : top ≡ before → ⊥
  pub greatest : (e : ℕ) → e ≤ 16 → (e ≢ before) → e ≤ top

-- ---- a run, read aside
-- One entry stands for the slices from one to another, after the entries that stood before.
pub record Filled (old : List ℕ) (from to v : ℕ) (new : List ℕ) : Type 0 where
  pub long : length new ≡ 4096
  pub entries : take to new ≡ take from old ++ replicate (to - from) v

unfoldable pub ReadAside : List ℕ → List ℕ → Result ℕ Deviation → Type 0
ReadAside file aside (Ok n) = (length (take n aside) ≡ n) × OfRun file (take n aside)
ReadAside file aside (Err d) = Stuck Form file d.place
