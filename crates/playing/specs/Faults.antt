-- The numbers of a bench's refusals.
use Rattle.std.specs.Prelude.{ℕ}
use Rattle.playing.specs.declared.faults.WriteFault.{WriteFault}
use Rattle.playing.specs.declared.faults.WriteFault.TheVariants as w
use Rattle.playing.specs.declared.faults.StepFault.{StepFault}
use Rattle.playing.specs.declared.faults.StepFault.TheVariants as s

abbrev pub write_fault_number : WriteFault → ℕ
write_fault_number w.Unlawful = 30
write_fault_number w.Full = 31

abbrev pub step_fault_number : StepFault → ℕ
step_fault_number s.NoStrand = 32
step_fault_number s.Finished = 33
step_fault_number s.WrongCall = 34
step_fault_number s.NotWritten = 35
step_fault_number s.NotDerivable = 36
step_fault_number s.Stuck = 37
