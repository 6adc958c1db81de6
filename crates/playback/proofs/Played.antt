-- A row of calls, one more at a time.
use Rattle.std.proofs.Common.{◌≡◌, ℕ, ◌+◌, ◌<◌, List, [], ◌∷◌, ◌++◌, take, length, get_or, refl, subst}
use Rattle.std.proofs.lemmas.List.{take_more}
use Rattle.protocol.specs.Lawful.{Content}
use Rattle.runs.specs.Protocols.{Protocol}
use Rattle.runs.specs.Tables.{described}
use Rattle.playing.specs.Calls.{Situation, Called, Plays}
use Rattle.playing.specs.declared.calls.Call.{Call}

pub plays_none : (names : ℕ) (S : Protocol) (u v : Situation) → v ≡ u → Plays names S [] u v
unfolding Plays
plays_none names S u v e = e

plays_push : (names : ℕ) (S : Protocol) (cs : List Call) (c : Call) (u v t : Situation) → Plays names S cs u v → Called names S c v t → Plays names S (cs ++ (c ∷ [])) u t
unfolding Plays
plays_push names S [] c u v t p q = (t, subst (λ (w : Situation). Called names S c w t) p q, refl)
plays_push names S (b ∷ cs) c u v t p q = (p.0, p.1, plays_push names S cs c p.0 v t p.2 q)

pub plays_next : (C D : Content) (cs : List Call) (k : ℕ) (d : Call) (u v t : Situation) → Plays (length C.names) (described C) (take k cs) u v → k < length cs → D ≡ C → Called (length D.names) (described D) (get_or cs k d) v t → Plays (length C.names) (described C) (take (k + 1) cs) u t
plays_next C D cs k d u v t p l e q = rw (take_more cs k d l) (plays_push (length C.names) (described C) (take k cs) (get_or cs k d) u v t p (subst (λ (z : Content). Called (length z.names) (described z) (get_or cs k d) v t) e q))
