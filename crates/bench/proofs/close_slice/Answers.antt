-- `bench::close_slice` meets its contract: the step's answer tells which ends are noted.
use Rattle.std.proofs.Common.{refl}
use Rattle.run.specs.Step.{next_clock}
use Rattle.bench.proofs.Slices.{accepted_slice, refused_slice}
use Rattle.bench.proofs.close_slice.Goals as goal

pub returns-in_default : goal.returns-in_default
unfolding next_clock
returns-in_default c =
    refused_slice _ _ _ _ _ refl c.report-told.ensures _ _ c.step-next.ensures _ c.in_default.is

pub returns : goal.returns
unfolding next_clock
returns c =
    accepted_slice _ _ _ _ _ refl c.report-told.ensures _ _ c.step-next.ensures _ c.in-Ok.is c.note.ensures
