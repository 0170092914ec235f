-- Texts that are put one after the other where there is room for all of them.
use mathlib.Core.Path.{◌≡◌, refl}
use mathlib.Core.List.{List, ◌++◌}
use Prim.Native.Nat.{ℕ, ◌+◌, ◌<◌}
use native.Mathlib.Omega.{arith}
use lib.ListN.{length, get_or, take, set, length-append}
use Rattle.printing.specs.Shapes.{Put}
use Rattle.printing.proofs.Chain.{put-length, put_more}
use Rattle.dump.specs.Shapes.{RoomIn}

-- Room for both is room for each.
pub room_first : (a b : List ℕ) {place : ℕ} {out : List ℕ} → RoomIn (a ++ b) place out → RoomIn a place out
room_first a b h = record { room = omega (arith, h.room, length-append a b) }

pub room_next : (a b : List ℕ) {old mid : List ℕ} {place r : ℕ} → RoomIn (a ++ b) place old → Put a place old mid r → RoomIn b r mid
room_next a b h p = record { room = omega (arith, h.room, p.next, length-append a b, put-length p) }

-- ---- byte by byte
module _ (text : List ℕ) (i : ℕ) {old new : List ℕ} {place : ℕ} (p : Put (take i text) place old new (place + i)) (l : i < length text) where
  pub byte_room : RoomIn text place old → place + i < length new
  byte_room h = omega (arith, h.room, put-length p)

  pub byte_more : Put (take (i + 1) text) place old (set new (place + i) (get_or text i 0)) (place + (i + 1))
  byte_more =
      let e : place + (i + 1) ≡ place + i + 1 = omega arith in
      rw e (put_more text i p (record { next = refl; bytes = refl }) l)
