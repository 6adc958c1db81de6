-- What is judged is a run.
use Rattle.std.proofs.Common.{◌≡◌, ℕ, List, [], Ok, Err, Result, sym, refl, ap, ◌∙◌, subst, inl, inr, arith}
use Rattle.runs.specs.Protocols.{Protocol}
use Rattle.runs.specs.Runs.{Runs, stop}
use Rattle.runs.proofs.Releasing.{kept_release}
use Rattle.playing.specs.Verdicts.{VerdictOf}
use Rattle.playing.specs.Calls.{Situation, Reached}
use Rattle.playing.proofs.Running.{wrote_good, fed_good, moved_good}
use Rattle.playing.specs.declared.verdict.Verdict.{Verdict}
use Rattle.playing.specs.declared.verdict.Verdict.TheVariants.{Kept, Broken}
use Rattle.replays.specs.declared.faults.ReplayFault.{ReplayFault}
use Rattle.replays.specs.Lines.{Line, node, step}
use Rattle.replays.specs.Replaying.{Made, Answers, ended, cut, wrong, full, stopped, goes}
use Rattle.replays.specs.Laws.{ReplayRuns, BreakShown, KeptReplay}
use Rattle.replays.proofs.Once.{IsOk}

-- a call that is made keeps what is good
made_good : (names : ℕ) (S : Protocol) (l : Line) (u v : Situation) → Made names S l u v → Reached S u → Reached S v
made_good names S (node k a b) u v (p, inl x) g = wrote_good names S u x.0 (Ok p) v x.2 g
made_good names S (node k a b) u v (p, inr x) g = absurd (subst IsOk x.1 tt)
made_good names S (step s q) u v (inl x) g = moved_good S u s (Ok tt) v x.1 g
made_good names S (step s q) u v (inr x) g = fed_good S u s q (Ok tt) v x.1 g

abbrev verdict_of : Verdict → Result Verdict ReplayFault → Verdict
verdict_of d (Ok v) = v
verdict_of d (Err f) = d

at_end : (names : ℕ) (S : Protocol) {n s : ℕ} {u : Situation} {bs : List ℕ} {r : Result Verdict ReplayFault} (v : Verdict) → Answers names S n s u bs r → r ≡ Ok v → Reached S u → (k : List ℕ) × (w : Situation) × Runs S k w.state × VerdictOf S w.state.run v
at_end names S {u = u} v (ended w e j q) p g = (g.0.0, u, g.0.1, subst (VerdictOf S u.state.run) (ap (verdict_of v) (sym q ∙ p)) j)
at_end names S v (cut c q) p g = absurd (subst IsOk (sym p ∙ q) tt)
at_end names S v (wrong x m e w q) p g = absurd (subst IsOk (sym p ∙ q) tt)
at_end names S v (full l m e o h q) p g = absurd (subst IsOk (sym p ∙ q) tt)
at_end names S v (stopped l m f e o h z q) p g = absurd (subst IsOk (sym p ∙ q) tt)
at_end names S {u = u} v (goes l m t e o h z a) p g = at_end names S v a p (made_good names S l u t z g)

pub replay_runs : ReplayRuns
replay_runs names S bs v a = at_end names S v a refl (([], stop refl), λ i l. absurd (omega arith))

pub break_shown : BreakShown
break_shown names S bs a = let r = replay_runs names S bs Broken a in (r.0, (r.1.state, r.2, r.3))

pub kept_replay : KeptReplay
kept_replay names S law budget c h bs Kept a = refl
kept_replay names S law budget c h bs Broken a = let r = replay_runs names S bs Broken a in absurd (kept_release S law budget c h r.0 r.1.state r.2 r.3)
