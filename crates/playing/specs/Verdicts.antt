-- The judgement of a run.
use Rattle.std.specs.Prelude.{List}
use Rattle.runs.specs.Protocols.{TermAction, Protocol}
use Rattle.runs.specs.Runs as runs
use Rattle.playing.specs.declared.verdict.Verdict.{Verdict}
use Rattle.playing.specs.declared.verdict.Verdict.TheVariants.{Kept, Broken}

abbrev pub VerdictOf : Protocol → List TermAction → Verdict → Type 0
VerdictOf S r Kept = ¬ runs.Broken S r
VerdictOf S r Broken = runs.Broken S r
