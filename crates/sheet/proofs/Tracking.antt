-- The tests of what steps bind say what they bind, so sets that answer as the tests do have just the bound variables.
use Rattle.std.proofs.Common.{◌≡◌, ℕ, zero, suc, ◌-◌, ◌/◌, ◌%◌, ◌^◌, ◌<◌, ◌≤◌, Bool, ◌||◌, ◌⊎◌, List, [], ◌∷◌, ◌++◌, length, Decides, sym, refl, ap, ◌∙◌, ap₂, inl, inr, arith}
use mathlib.Core.Option.{some}
use lib.Bits.{bit_or}
use lib.ListN.{get_elem?}
use Rattle.std.proofs.lemmas.Bool.{false≢true}
use Rattle.std.proofs.lemmas.Bool.Decides.{same_from_decides, Decides-eqb, Decides-at, Decides-like, Decides-or}
use Rattle.std.proofs.lemmas.List.{length-set, length-map, map-set, get_or-map}
use Rattle.std.proofs.lemmas.List.Folds.{list_any-append}
use Rattle.terms.specs.declared.node.Node.{Node}
use Rattle.terms.specs.declared.variables.VarSet.{VarSet}
use Rattle.terms.proofs.Bitsets.{in_or, or_in}
use Rattle.protocol.specs.declared.step.Step.{Step}
use Rattle.protocol.specs.Strands.{TermStep, input, output, opens, splits, same, At, Binds, BoundBefore, Bound, step_of}
use Rattle.protocol.specs.Lawful.{Content}
use Rattle.entries.specs.Rules.{latest, latest_steps}
use Rattle.entries.proofs.Places.{within, at_none, longer, longer_is}
use Rattle.sheet.specs.Checking.{Just}
use Rattle.sheet.specs.Tracking.{in?, binds?, bound_in?, bound?, bound_last?}

binds_decided : (x : ℕ) (q : TermStep) → Decides (binds? x q) (Binds x q)
binds_decided x (input l y) = Decides-eqb x y
binds_decided x (output l t) = (λ e. false≢true e, λ b. absurd b)
binds_decided x (opens s y k) = Decides-eqb x y
binds_decided x (splits s y z) = Decides-or _ _ (Decides-eqb x y) (Decides-eqb x z)
binds_decided x (same s t) = (λ e. false≢true e, λ b. absurd b)

-- a step of the list binds the variable
abbrev BoundIn : List Node → List Step → ℕ → Type 0
BoundIn ns ps x = (i : ℕ) × (p : Step) × (get_elem? ps i ≡ some p) × Binds x (step_of ns p)

bound_in_decided : (ns : List Node) (ps : List Step) (x : ℕ) → Decides (bound_in? ns ps x) (BoundIn ns ps x)
bound_in_decided ns [] x = (λ t. absurd (false≢true t), λ w. absurd (omega (arith, within [] w.0 w.1 w.2)))
bound_in_decided ns (p ∷ ps) x = Decides-like _ found (λ w. where_found w.0 w.1 w.2 w.3) (Decides-or _ _ (binds_decided x (step_of ns p)) (bound_in_decided ns ps x))
  where
    found : Binds x (step_of ns p) ⊎ BoundIn ns ps x → BoundIn ns (p ∷ ps) x
    found (inl b) = (0, p, refl, b)
    found (inr w) = (suc w.0, w.1, w.2, w.3)

    where_found : (i : ℕ) (q : Step) → get_elem? (p ∷ ps) i ≡ some q → Binds x (step_of ns q) → Binds x (step_of ns p) ⊎ BoundIn ns ps x
    where_found zero q e b = let f : q ≡ p = cc in inl (rw f at b)
    where_found (suc i) q e b = inr (i, q, e, b)

bound_decided : (ns : List Node) (ss : List (List Step)) (x : ℕ) → Decides (bound? ns ss x) (Bound ns ss x)
bound_decided ns [] x = (λ t. absurd (false≢true t), λ w. absurd (at_none [] w.0 w.1 w.2 refl w.3))
bound_decided ns (ps ∷ ss) x = Decides-like _ found (λ w. where_found w.0 w.1 w.2 w.3 w.4) (Decides-or _ _ (bound_in_decided ns ps x) (bound_decided ns ss x))
  where
    found : BoundIn ns ps x ⊎ Bound ns ss x → Bound ns (ps ∷ ss) x
    found (inl w) = (0, w.0, w.1, w.2, w.3)
    found (inr w) = (suc w.0, w.1, w.2, w.3, w.4)

    where_found : (k i : ℕ) (q : Step) → At (ps ∷ ss) k i q → Binds x (step_of ns q) → BoundIn ns ps x ⊎ Bound ns ss x
    where_found zero i q a b = inl (i, q, a, b)
    where_found (suc k) i q a b = inr (k, i, q, a, b)

last_decided : (C : Content) (x : ℕ) → Decides (bound_last? C.nodes C.strands x) (BoundBefore C.nodes C.strands (latest C) (length (latest_steps C)) x)
last_decided C x =
    Decides-like _
    (λ w. (w.0, w.1, within (latest_steps C) w.0 w.1 w.2, w.2, w.3))
    (λ w. (w.0, w.1, w.3, w.4))
    (bound_in_decided C.nodes (latest_steps C) x)

-- a set that answers as a test does has just what passes the test
just_of : (P : ℕ → Type 0) (b : ℕ → Bool) (s : VarSet) → ((x : ℕ) → Decides (b x) (P x)) → ((x : ℕ) → in? x s.0 ≡ b x) → Just P s
just_of P b s d e x =
    let i = Decides-eqb ((s.0 / 2 ^ x) % 2) 1 in
    let j = Decides-at _ (b x) (e x) (d x) in
    (λ h. j.0 (i.1 h), λ h. i.0 (j.1 h))

pub just_bound : (ns : List Node) (ss : List (List Step)) (bound : VarSet) → ((x : ℕ) → in? x bound.0 ≡ bound? ns ss x) → Just (Bound ns ss) bound
just_bound ns ss bound all = just_of _ _ bound (bound_decided ns ss) all

pub just_here : (C : Content) (here : VarSet) → ((x : ℕ) → in? x here.0 ≡ bound_last? C.nodes C.strands x) → Just (BoundBefore C.nodes C.strands (latest C) (length (latest_steps C))) here
just_here C here last = just_of _ _ here (last_decided C) last

-- a union has what either set has
in_union : (x a b : ℕ) → in? x (bit_or a b) ≡ in? x a || in? x b
in_union x a b = same_from_decides _ _ (Decides-like _ (in_or x a b) (or_in x a b) (Decides-eqb _ _)) (Decides-or _ _ (Decides-eqb _ _) (Decides-eqb _ _))

-- the tests after one step more
module _ (ns : List Node) (p : Step) (x : ℕ) where
  bound_in_more : (ps : List Step) → bound_in? ns (ps ++ (p ∷ [])) x ≡ bound_in? ns ps x || binds? x (step_of ns p)
  bound_in_more ps = grind (arith, list_any-append)

  bound_more : (ss : List (List Step)) (k : ℕ) → k < length ss → bound? ns (longer ss k p) x ≡ bound? ns ss x || binds? x (step_of ns p)
  bound_more [] k h = absurd (omega arith)
  bound_more (ps ∷ ss) zero h = grind (arith, bound_in_more)
  bound_more (ps ∷ ss) (suc k) h = grind (arith, bound_more ss k)

  last_more : (ss : List (List Step)) → 1 ≤ length ss → bound_last? ns (longer ss (length ss - 1) p) x ≡ bound_last? ns ss x || binds? x (step_of ns p)
  last_more ss h = grind (arith, length-set, longer_is, bound_in_more)

-- the sets after one step more
module _ (ns : List Node) (ss ts : List (List Step)) (p : Step) (some : 1 ≤ length ss) (w : ts ≡ longer ss (length ss - 1) p) (binds : VarSet) (own : Just (λ x. Binds x (step_of ns p)) binds) where
  union_tracked : (s t : VarSet) (b : Bool) (x : ℕ) → in? x s.0 ≡ b → t.0 ≡ bit_or s.0 binds.0 → in? x t.0 ≡ b || binds? x (step_of ns p)
  union_tracked s t b x e u =
      let d : in? x binds.0 ≡ binds? x (step_of ns p) = same_from_decides _ _ (Decides-like _ (own x).0 (own x).1 (Decides-eqb _ _)) (binds_decided x (step_of ns p)) in
      ap (in? x) u ∙ in_union x s.0 binds.0 ∙ ap₂ (λ (a c : Bool). a || c) e d

  pub bound_tracked : (s t : VarSet) → ((x : ℕ) → in? x s.0 ≡ bound? ns ss x) → t.0 ≡ bit_or s.0 binds.0 → (x : ℕ) → in? x t.0 ≡ bound? ns ts x
  bound_tracked s t all u x = union_tracked s t _ x (all x) u ∙ sym (rw w (bound_more ns p x ss (length ss - 1) (omega arith)))

  pub here_tracked : (s t : VarSet) → ((x : ℕ) → in? x s.0 ≡ bound_last? ns ss x) → t.0 ≡ bit_or s.0 binds.0 → (x : ℕ) → in? x t.0 ≡ bound_last? ns ts x
  here_tracked s t last u x = union_tracked s t _ x (last x) u ∙ sym (rw w (last_more ns p x ss some))

-- the sets after one step more, and the strands as lists of steps, where one of them is written
pub ruleset one_step_more = (bound_tracked, here_tracked, map-set, length-map, get_or-map)
