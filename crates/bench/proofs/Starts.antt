-- A bench is opened: no strand has moved, no variable has a value, nothing is written.
use Rattle.std.proofs.Common.{◌≡◌, ℕ, zero, suc, ◌∷◌, List, [], map, length, slice_index_or, None, Option, refl, sym, ap, ap₂, subst, ◌∙◌, arith}
use Rattle.std.specs.Prelude.{replicate}
use Rattle.std.proofs.lemmas.Grind.{common_steps}
use mathlib.Core.Path.{fun_ext}
use Rattle.terms.specs.declared.node.Node.{Node}
use Rattle.terms.specs.declared.number.NodeNo.{NodeNo}
use Rattle.protocol.specs.declared.step.Action.{Action}
use Rattle.protocol.specs.declared.step.Step.{Step}
use Rattle.protocol.specs.declared.strand.Strand.{Strand}
use Rattle.protocol.specs.Strands.{steps_of}
use Rattle.runs.specs.Protocols.{Protocol}
use Rattle.runs.specs.Runs.{Values, stop}
use Rattle.playing.specs.Calls.{Situation, opened, Reached}
use Rattle.judging.specs.Places.{term_at}
use Rattle.bench.specs.Places.{next_in, strands_in, standing_first, situation_in, KeptIn, Placed, Swept}
use Rattle.bench.specs.declared.standing.Standing.{Standing}
use Rattle.bench.proofs.Places.{extends_values}

pub replicate_none : (o : Option NodeNo) (n i : ℕ) → slice_index_or (replicate n o) i o ≡ o
replicate_none o n i = grind (arith, common_steps)

pub first_strands : (cs : List Strand) → strands_in (map standing_first cs) ≡ map steps_of cs
first_strands [] = refl
first_strands (c ∷ cs) = ap (λ (x : List (List Step)). steps_of c ∷ x) (first_strands cs)

first_next : (cs : List Strand) (k : ℕ) → next_in (map standing_first cs) k ≡ 0
first_next [] k = refl
first_next (c ∷ cs) zero = refl
first_next (c ∷ cs) (suc k) = first_next cs k

pub opens : (ns : List Node) (ss : List Standing) (cs : List Strand) (vs : List (Option NodeNo)) (acts : List Action) (ps : List NodeNo) → ss ≡ map standing_first cs → ((x : ℕ) → slice_index_or vs x None ≡ None) → acts ≡ [] → ps ≡ [] → situation_in ns ss vs acts ps ≡ opened
opens ns ss cs vs acts ps n v a p =
    rw (a, p)
    (ap₂ (λ (f : ℕ → ℕ) (w : Values). record { state = record { next = f; value = w; run = [] }; written = [] })
    (fun_ext (λ k. ap (λ (x : List Standing). next_in x k) n ∙ first_next cs k)) (fun_ext (λ x. ap (term_at ns) (v x))))

pub opened_reached : (S : Protocol) (u : Situation) → u ≡ opened → ∥ Reached S u ∥₁
opened_reached S u e = ∣ subst (Reached S) (sym e) (([], stop refl), λ i l. absurd (omega (arith, l))) ∣₁

-- all that has a value is placed
pub swept_placed : (ns ss : List Node) (vs qs : List (Option NodeNo)) (ms : List Node) (ps : List (Option NodeNo)) → KeptIn ns vs → Swept ns ss vs qs (length ss) ms ps → Placed ms ss vs ps
swept_placed ns ss vs qs ms ps k s = rw (extends_values ns ms vs s.grown k) s.done
