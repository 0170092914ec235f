-- The checksum of the file of reference cases, as tests/reference/FORMAT.md has it.
use Rattle.std.specs.Prelude.{Bool, true, false, List, ℕ, zero, suc, ◌*◌, ◌/◌, ◌%◌, length, get_or}
use Rattle.std.specs.Int.Bits.{bit_xor}
use Rattle.run.specs.declared.Mode.{Mode}
use Rattle.run.specs.declared.Mode.TheVariants.{Table, Filling}
use Rattle.run.specs.declared.State.{State}

-- h becomes ((h xor byte) × 16777619) mod 2^32
unfoldable pub mix : ℕ → ℕ → ℕ
mix h byte = bit_xor h byte * 16777619 % 4294967296

-- The first n bytes in turn.
unfoldable pub over_bytes : ℕ → List ℕ → ℕ → ℕ
over_bytes h bytes zero = h
over_bytes h bytes (suc n) = mix (over_bytes h bytes n) (get_or bytes n 0)

-- h starts at 2166136261
unfoldable pub of_bytes : List ℕ → ℕ
of_bytes bytes = over_bytes 2166136261 bytes (length bytes)

-- A number of 32 bits, its lowest byte first.
unfoldable pub over_word : ℕ → ℕ → ℕ
over_word h w = mix (mix (mix (mix h (w % 256)) (w / 256 % 256)) (w / 65536 % 256)) (w / 16777216)

-- The first n places: period, deadline and run-time,
unfoldable pub over_tasks : ℕ → List ℕ → List ℕ → List ℕ → ℕ → ℕ
over_tasks h periods deadlines runtimes zero = h
over_tasks h periods deadlines runtimes (suc n) =
    over_word (over_word (over_word (over_tasks h periods deadlines runtimes n) (get_or periods n 0)) (get_or deadlines n 0)) (get_or runtimes n 0)

-- and slices used and whether the job has ended.
unfoldable pub ended_byte : Bool → ℕ
ended_byte true = 1
ended_byte false = 0

unfoldable pub over_jobs : ℕ → List ℕ → List Bool → ℕ → ℕ
over_jobs h used ended zero = h
over_jobs h used ended (suc n) = mix (over_word (over_jobs h used ended n) (get_or used n 0)) (ended_byte (get_or ended n false))

unfoldable pub mode_byte : Mode → ℕ
mode_byte Table = 0
mode_byte Filling = 1

-- Count of 64 bits, cycle, position, clock, mode, and the 16 places of tasks and jobs.
unfoldable pub of_numbers : State → ℕ
of_numbers s =
    over_word (over_word (over_word (over_word (over_word 2166136261 (s.count % 4294967296)) (s.count / 4294967296)) s.cycle) s.position) s.clock

unfoldable pub of_state : State → ℕ
of_state s = over_jobs (over_tasks (mix (of_numbers s) (mode_byte s.mode)) s.periods s.deadlines s.runtimes 16) s.used s.ended 16
