-- The rules of the scan.
use mathlib.Core.Path.{◌≡◌, refl, sym, ap, ◌∙◌, subst}
use mathlib.Core.Option.{some-injective}
use mathlib.Core.List.Memᴰ
use mathlib.Core.List.{List, [], ◌∷◌, Memᴰ}
use mathlib.Core.Logic.{◌⊎◌, inl, inr}
use Prim.Native.Nat.{ℕ}
use native.Mathlib.Nat.{le_of_lt}
use native.Mathlib.Decide.{ℕ_discrete}
use native.Mathlib.Omega.{arith}
use lib.ListN.{length, take, get_elem?}
use Rattle.terms.specs.Terms.{Term, name, env, var, pair, seal, inst, Closed, IsName, Atom, Message, Vars}
use Rattle.protocol.specs.Strands.{TermStep, input, output, opens, splits, same}
use Rattle.derivation.specs.Derive.{Derives}
use Rattle.derivation.proofs.Deriving.{derived_message}
use Rattle.lifting.specs.Lift.{Analz, known}
use Rattle.lifting.proofs.Instances.{vars_map}
use Rattle.lifting.proofs.Lists.{only}
use Rattle.runs.specs.Schedules.{Holds}
use Rattle.runs.specs.Told.{said, all_said}
use Rattle.runs.proofs.Telling.{fed_told}
use Rattle.deciding.specs.Ways.{Way, Meets, Mark, steps, acts, Good, Sure, Settled, Reached, ToldNames, Met, by_mark, by_pair, by_open_key, by_env_key, by_marked_key, by_equal_box}
use Rattle.deciding.specs.Rules.{Asked, Stays, ForcedSure, ReachedSure, NameFails, PairNeeds, OpenNeeds, MarkedNeeds, ShutBranches, KeyBranches, KeyFails, LookFails, MatchedBox, OtherBox, MetSettles, SettlesOn, FirstWay}
use Rattle.deciding.proofs.Core.{analz_vars, mem_place, place_mem, known_grows, Vouched, name_here, sound_here, seal_here, message_shown, inst_inst, inst_same, known_walked}

-- what is said is said by a step
pub said_by : (ps : List TermStep) (t : Term) → Memᴰ t (all_said ps) → (q : TermStep) × Memᴰ q ps × Memᴰ t (said q)
said_by [] t m = absurd (Memᴰ.not-nil m)
said_by (p ∷ ps) t m = elim (Memᴰ.append_cases (said p) m) [ inl h ↦ (p, Memᴰ.head refl, h) | inr h ↦ let r = said_by ps t h in (r.0, Memᴰ.tail r.1, r.2) ]

said_message : (ρ : ℕ → Term) (q : TermStep) → Holds ρ q → (t : Term) → Memᴰ t (said q) → Message (inst ρ t)
said_message ρ (input l x) h t m = subst (λ (s : Term). Message (inst ρ s)) (sym (only (var x) t m)) h
said_message ρ (output l n) h t m = subst (λ (s : Term). Message (inst ρ s)) (sym (only n t m)) h
said_message ρ (opens s x k) h t m = absurd (Memᴰ.not-nil m)
said_message ρ (splits s x y) h t m = absurd (Memᴰ.not-nil m)
said_message ρ (same n m') h t m = absurd (Memᴰ.not-nil m)

pub inst_meets : (σ ρ : ℕ → Term) → Meets σ ρ → (t : Term) → inst ρ (inst σ t) ≡ inst ρ t
inst_meets σ ρ h t = inst_inst σ ρ t ∙ sym (inst_same ρ (λ x. inst ρ (σ x)) h t)

module _ (w : Way) (ρ : ℕ → Term) (good : Good w ρ) where
  messages : (t : Term) → Memᴰ t (acts w) → Message (inst ρ t)
  messages t m =
      let r = Memᴰ.of_map (inst w.binds) (all_said (steps w)) m in
      let s = said_by (steps w) r.0 r.1 in
      subst (λ (z : Term). Message z) (sym (inst_meets w.binds ρ good.meets r.0) ∙ ap (inst ρ) r.2) (said_message ρ s.0 (good.breaks.hold s.0 s.1) r.0 s.2)

  known_message : (j : ℕ) (t : Term) → Memᴰ t (known (acts w) ρ j) → Message t
  known_message j t m =
      let r = Memᴰ.of_map (inst ρ) (take j (acts w)) m in
      let p = mem_place j (acts w) r.0 r.1 in
      subst (λ (z : Term). Message z) r.2 (messages r.0 (place_mem (acts w) p.0 r.0 p.2))

  sure_message : (j : ℕ) (t : Term) → Sure w j t → Message (inst ρ t)
  sure_message j t s = derived_message (known_message j) (s ρ good)

  vouched : (j : ℕ) → Settled w j → Vouched (acts w) ρ j
  vouched j s i t h e = vars_map (λ x d. d ρ good) t (s i t h e)

pub asked : Asked
asked w qs l x rs e ρ good =
    let d : Derives (known (all_said (steps w)) ρ (length (all_said qs))) (ρ x) = (fed_told ρ (steps w)).0 good.breaks.feeds qs l x rs e in
    subst (λ (t : Term). Derives (known (acts w) ρ (length (all_said qs))) t) (good.meets x) (subst (λ (K : List Term). Derives K (ρ x)) (sym (known_walked w.binds ρ ρ good.meets (all_said (steps w)) (length (all_said qs)))) d)

pub stays : Stays
stays w i j h t s ρ good = known_grows (acts w) ρ i j h (inst ρ t) (s ρ good)

pub forced_sure : ForcedSure
forced_sure w m h ρ good = good.forces m h

pub reached_sure : ReachedSure
reached_sure w j s t a ρ good = sound_here (acts w) ρ j (vouched w ρ good j s) (messages w ρ good) good.breaks.closed a

pub name_fails : NameFails
name_fails w j n s sure not ρ good = not (name_here (acts w) ρ j (vouched w ρ good j s) n (sure ρ good))

pub pair_needs : PairNeeds
pair_needs w j a b sure = ((λ ρ good. Derives.left (sure ρ good)), (λ ρ good. Derives.right (sure ρ good)))

pub open_needs : OpenNeeds
open_needs w j n m s a sure ρ good = Derives.open_seal (sure ρ good) tt (reached_sure w j s (name n) a ρ good)

key_is_name : (k : Term) → Atom k → Closed k → IsName k
key_is_name (name n) i c = tt
key_is_name (env n) i c = tt
key_is_name (var x) i c = absurd c
key_is_name (pair a b) i c = absurd i
key_is_name (seal a b) i c = absurd i

pub marked_needs : MarkedNeeds
marked_needs w j x m key sure ρ good = Derives.open_seal (sure ρ good) (key_is_name (ρ x) (sure_message w ρ good j (seal m (var x)) sure).1 (good.breaks.closed x)) (key ρ good)

module _ (w : Way) (j : ℕ) (s : Settled w j) (told : ToldNames w j) (ρ : ℕ → Term) (good : Good w ρ) where
  cases : (m u : Term) → Derives (known (acts w) ρ j) (inst ρ (seal m u)) → (Derives (known (acts w) ρ j) (inst ρ m) × Derives (known (acts w) ρ j) (inst ρ u)) ⊎ ((b : Term) × (n : ℕ) × Analz (take j (acts w)) (seal b (name n)) × (¬ Analz (take j (acts w)) (name n)) × (seal (inst ρ m) (inst ρ u) ≡ inst ρ (seal b (name n))))
  cases m u d = seal_here (acts w) ρ j (vouched w ρ good j s) (messages w ρ good) good.breaks.closed (inst ρ m) (inst ρ u) told d

pub shut_branches : ShutBranches
shut_branches w j n m s told not sure boxes ρ good =
    elim (cases w j s told ρ good m (name n) (sure ρ good)) [
      | inl d ↦ not (name_here (acts w) ρ j (vouched w ρ good j s) n d.1)
      | inr c ↦ boxes c.0 c.1 c.2 c.3 ρ good c.4
    ]

pub key_branches : KeyBranches
key_branches w j x m s told sure other boxes ρ good =
    elim (cases w j s told ρ good m (var x) (sure ρ good)) [
      | inl d ↦ other ρ (record { breaks = good.breaks; meets = good.meets; forces = λ k h. elim (Memᴰ.cases_cons h) [ inl e ↦ subst (λ (z : Mark). Derives (known (acts w) ρ z.time) (ρ z.who)) (sym e) d.1 | inr r ↦ good.forces k r ] })
      | inr c ↦ boxes c.0 c.1 c.2 c.3 ρ good c.4
    ]

pub key_fails : KeyFails
key_fails w j m u sure not ρ good = not (message_shown ρ (seal m u) (sure_message w ρ good j (seal m u) sure)).1

pub look_fails : LookFails
look_fails w t m not ρ good = not (message_shown ρ t (messages w ρ good t m))

pub matched_box : MatchedBox
matched_box w σ s c keeps no_way ρ good e = no_way ρ (record { breaks = good.breaks; meets = keeps ρ good.breaks.closed good.meets e; forces = λ k h. absurd (Memᴰ.not-nil h) })

pub other_box : OtherBox
other_box w s c never ρ good e = never ρ good.breaks.closed good.meets e

pub settles_on : SettlesOn
settles_on w j t s here all i u h e =
    elim (ℕ_discrete i j) [
      | yes q ↦ subst (λ (k : ℕ). Vars (λ x. Sure w k (var x)) u) (sym q) (subst (λ (z : Term). Vars (λ x. Sure w j (var x)) z) (some-injective t u (sym here ∙ (ap (get_elem? (acts w)) (sym q) ∙ e))) all)
      | no f ↦ s i u (omega arith) e
    ]

-- what is reached has sure variables
pub reached_vars : (w : Way) (j : ℕ) → Settled w j → {t : Term} → Reached w j t → Vars (λ x. Sure w j (var x)) t
reached_vars w j s a =
    analz_vars (λ x. Sure w j (var x)) (λ t m. let p = mem_place j (acts w) t m in vars_map (λ x d. stays w p.0 j (le_of_lt p.1) (var x) d) t (s p.0 t p.1 p.2)) a

met_vars : (w : Way) (j : ℕ) (M : List ℕ) → Settled w j → ((x : ℕ) → Memᴰ x M → Sure w j (var x)) → {t : Term} → Met (take j (acts w)) M t → Vars (λ x. Sure w j (var x)) t
met_vars w j M s h (by_mark m) = h _ m
met_vars w j M s h (Met.by_name a) = tt
met_vars w j M s h (Met.by_env n) = tt
met_vars w j M s h (by_pair p q) = (met_vars w j M s h p, met_vars w j M s h q)
met_vars w j M s h (by_open_key a p) = (met_vars w j M s h p, tt)
met_vars w j M s h (by_env_key n p) = (met_vars w j M s h p, tt)
met_vars w j M s h (by_marked_key m p) = (met_vars w j M s h p, h _ m)
met_vars w j M s h (by_equal_box a) = reached_vars w j s a

pub met_settles : MetSettles
met_settles w j M t s h p = met_vars w j M s h p

pub first_way : FirstWay
first_way w none-forced all answer ρ b = answer ρ (record { breaks = b; meets = all ρ b; forces = λ k h. absurd (Memᴰ.not-nil (subst (λ (F : List Mark). Memᴰ k F) none-forced h)) })
