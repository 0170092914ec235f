-- `bench::drive` meets its contract.
use Rattle.std.proofs.Common.{refl}
use Rattle.bench.proofs.Drives.{driven, all_filled}
use Rattle.bench.proofs.drive.Goals as goal

pub returns : goal.returns
returns c =
    driven _ _ _ _ _ _ _ _ _ _ _ _ _ _ _ c.build-built.ensures c.start-started.ensures refl (all_filled 0 _ _ (c.fill.ensures.after (λ y e. e))) c.close_slices-state.ensures
