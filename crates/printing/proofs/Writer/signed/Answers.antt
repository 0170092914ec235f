-- `printing::Writer::signed` meets its contract: the sign, if there is one, and the magnitude.
use Rattle.std.proofs.Common.{sym, ◌∙◌}
use Rattle.printing.specs.Text.{sign, signed_decimal}
use Rattle.printing.specs.Shapes.{Puts}
use Rattle.printing.proofs.Chain.{puts_chain, puts_nothing, room_first, puts_room}
use Rattle.printing.proofs.Signed.{back32, sign_below, sign_above}
use Rattle.printing.proofs.Writer.signed.Goals as goal
use Rattle.printing.proofs.Writer.signed.Goals.{then-is_negative, else-is_negative}

pub byte-requires : goal.byte-requires
unfolding signed_decimal
byte-requires c = rw (sign_below c.args.z c.ranges.z (sym c.is_negative.ensures ∙ c.if-is_negative.true)) at (room_first (sign c.args.z) _ c.requires)

pub decimal-requires : goal.decimal-requires
unfolding signed_decimal
decimal-requires c =
    let signs : Puts (sign c.args.z) c.args.self.now c.if-is_negative.self = elim c.if-is_negative.branch [
      | then-is_negative w ↦ rw (sign_below c.args.z c.ranges.z (sym c.is_negative.ensures ∙ w.if-is_negative.true), w.self-is) w.byte.ensures
      | else-is_negative w ↦ rw (sign_above c.args.z c.ranges.z (sym c.is_negative.ensures ∙ w.if-is_negative.false), w.self-is) (puts_nothing _)
    ] in
    rw (c.from.ensures, c.unsigned_abs.ensures.value, back32 _ c.ranges.z) (puts_room _ _ c.requires signs)

pub returns : goal.returns
unfolding signed_decimal
returns c =
    let signs : Puts (sign c.args.z) c.args.self.now c.if-is_negative.self = elim c.if-is_negative.branch [
      | then-is_negative w ↦ rw (sign_below c.args.z c.ranges.z (sym c.is_negative.ensures ∙ w.if-is_negative.true), w.self-is) w.byte.ensures
      | else-is_negative w ↦ rw (sign_above c.args.z c.ranges.z (sym c.is_negative.ensures ∙ w.if-is_negative.false), w.self-is) (puts_nothing _)
    ] in
    puts_chain signs (rw (c.from.ensures, c.unsigned_abs.ensures.value, back32 _ c.ranges.z) at c.decimal.ensures)
