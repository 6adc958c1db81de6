-- The layer, the number and the record of a fault.
use Rattle.std.specs.Prelude.{ℕ}
use Rattle.records.specs.declared.record.FileFault.TheVariants.{Cut}
use Rattle.playing.specs.Faults.{write_fault_number, step_fault_number}
use Rattle.replays.specs.declared.faults.RunFault.TheVariants.{File, Kind, Limit}
use Rattle.replays.specs.declared.faults.BenchFault.{BenchFault}
use Rattle.replays.specs.declared.faults.BenchFault.TheVariants.{Write, Step}
use Rattle.replays.specs.declared.faults.ReplayFault.{ReplayFault}
use Rattle.replays.specs.declared.faults.ReplayFault.TheVariants.{Run, Bench}
use Rattle.replays.specs.declared.numbers.Layer.{Layer}
use Rattle.replays.specs.declared.numbers.Layer.TheVariants as l

abbrev pub layer_of : ReplayFault → Layer
layer_of (Run (File (Cut k))) = l.File
layer_of (Run (Kind k)) = l.Run
layer_of (Run (Limit k)) = l.Run
layer_of (Bench f k) = l.Bench

abbrev pub number_of_bench : BenchFault → ℕ
number_of_bench (Write f) = write_fault_number f
number_of_bench (Step f) = step_fault_number f

abbrev pub number_of : ReplayFault → ℕ
number_of (Run (File (Cut k))) = 20
number_of (Run (Kind k)) = 21
number_of (Run (Limit k)) = 22
number_of (Bench f k) = number_of_bench f

abbrev pub place_of : ReplayFault → ℕ
place_of (Run (File (Cut k))) = k
place_of (Run (Kind k)) = k
place_of (Run (Limit k)) = k
place_of (Bench f k) = k
