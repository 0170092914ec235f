-- `bench::close_slices` meets its contract: what is held before each slice is the course at as many slices as were closed.
use Rattle.std.proofs.Common.{◌≡◌}
use Rattle.bench.specs.Course.{Course, need_in, course_at}
use Rattle.bench.proofs.close_slices.Given as goal

abbrev pub invariant-loop : goal.invariant-loop
invariant-loop l =
    ◌≡◌ {A = Course} (record { state = l.held; log = l.log; ends = l.ends }) (course_at l.table (need_in l.needs l.initial.held) (record { state = l.initial.held; log = l.initial.log; ends = l.initial.ends }) l.counter)
