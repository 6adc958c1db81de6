-- A step from what the nodes below n + 1 have to be to what those below n have to be.
use Rattle.std.proofs.Common.{◌≡◌, ℕ, ◌+◌, ◌<◌, Bool, true, false, ◌↔◌, List, Some, None, Option, sym, refl, ap, ◌∙◌, ap₂, subst, ⊎_elim, arith}
use mathlib.Core.Option.{some, some-injective}
use Rattle.std.proofs.lemmas.Bool.{cases_lt}
use Rattle.terms.specs.Terms.{Term, var, pair, seal, inst}
use Rattle.terms.specs.Nodes.{term}
use Rattle.terms.specs.declared.node.Node.{Node}
use Rattle.terms.specs.declared.number.NodeNo.{NodeNo}
use Rattle.protocol.specs.Strands.{first, second}
use Rattle.runs.specs.Runs.{Values}
use Rattle.playing.specs.Judging.{onto, Within}
use Rattle.judging.specs.Places.{values_in, found, given, BothAssigned, PartsAt, Met, Settled}
use Rattle.judging.proofs.Giving.{Has, given_has, given_clash, both_have, both_clash}

-- the instances of the nodes of a list
abbrev pub instances : List Node → (ℕ → Term) → ℕ → Term
instances ms ρ i = inst ρ (term ms i)

within_has : (v : Values) (ρ : ℕ → Term) → Within v ρ ↔ Has (λ x. Unit {0}) v ρ
within_has v ρ = ((λ h x M t e. h x M e), λ h x M e. h x M tt e)

met_has : (ms : List Node) (n : ℕ) (d : Values) (ρ : ℕ → Term) → Met ms n d ρ ↔ Has (λ i. i < n) d (instances ms ρ)
met_has ms n d ρ = ((λ h i M l e. h i M l e), λ h i M l e. h i M l e)

-- what node n has to be is one thing more
met_more : (ms : List Node) (n : ℕ) (d : Values) (M : Term) (ρ : ℕ → Term) → d n ≡ some M → Met ms (n + 1) d ρ ↔ (Met ms n d ρ × (inst ρ (term ms n) ≡ M))
met_more ms n d M ρ e = (
  (λ h. ((λ i N l f. h i N (omega (arith, l)) f), h n M (omega arith) e)),
  (λ h i N l f.
      ⊎_elim
      (λ s. h.0 i N s f)
      (λ s. let j : i ≡ n = omega (arith, l) in ap (instances ms ρ) j ∙ h.1 ∙ some-injective M N (sym e ∙ ap d (sym j) ∙ f))
      (cases_lt i n)),
)

module _ (ms : List Node) (n : ℕ) (v d : Values) (M : Term) (e : d n ≡ some M) where
  -- its variable is given the value
  pub settled_variable : (x : ℕ) (r : Bool) (w : Values) → term ms n ≡ var x → given v x M ≡ found r w → Settled ms (n + 1) v d n r w d
  settled_variable x true w k g = λ ρ.
      let m = met_more ms n d M ρ e in
      let a = given_has (λ y. Unit {0}) ρ v x M w tt g in (
        (λ h. let p = m.0 h.1 in ((within_has w ρ).1 (a.0 ((within_has v ρ).0 h.0, sym (ap (inst ρ) k) ∙ p.1)), p.0)),
        (λ h. let p = a.1 ((within_has w ρ).0 h.0) in ((within_has v ρ).1 p.0, m.1 (h.1, ap (inst ρ) k ∙ p.1))),
      )
  settled_variable x false w k g = λ ρ h.
      let p = (met_more ms n d M ρ e).0 h.1 in
      given_clash (λ y. Unit {0}) ρ v x M tt g ((within_has v ρ).0 h.0) (sym (ap (inst ρ) k) ∙ p.1)

  -- its parts are given the parts
  settled_parts : (a b : ℕ) (A B : Term) (r : Bool) (u : Values) → a < n → b < n → ((ρ : ℕ → Term) → (inst ρ (term ms n) ≡ M) ↔ ((inst ρ (term ms a) ≡ A) × (inst ρ (term ms b) ≡ B))) → onto (given d a A) (λ w. given w b B) ≡ found r u → Settled ms (n + 1) v d n r v u
  settled_parts a b A B true u i j k g = λ ρ.
      let m = met_more ms n d M ρ e in
      let q = both_have (λ y. y < n) (instances ms ρ) d a b A B u i j g in (
        (λ h. let p = m.0 h.1 in let s = (k ρ).0 p.1 in (h.0, (met_has ms n u ρ).1 (q.0 ((met_has ms n d ρ).0 p.0, s.0, s.1)))),
        (λ h. let p = q.1 ((met_has ms n u ρ).0 h.1) in (h.0, m.1 ((met_has ms n d ρ).1 p.0, (k ρ).1 (p.1, p.2)))),
      )
  settled_parts a b A B false u i j k g = λ ρ h.
      let p = (met_more ms n d M ρ e).0 h.1 in
      let s = (k ρ).0 p.1 in
      both_clash (λ y. y < n) (instances ms ρ) d a b A B i j g ((met_has ms n d ρ).0 p.0) s.0 s.1

-- a term so made of two tells both, and its instances are made of theirs
abbrev pub Makes : (Term → Term → Term) → Type 0
Makes make = ((s t A B : Term) → make s t ≡ make A B → (s ≡ A) × (t ≡ B)) × ((ρ : ℕ → Term) (s t : Term) → inst ρ (make s t) ≡ make (inst ρ s) (inst ρ t))

pub pair_makes : Makes pair
pair_makes = ((λ s t A B e. (ap first e, ap second e)), λ ρ s t. refl)

pub seal_makes : Makes seal
seal_makes = ((λ s t A B e. (ap first e, ap second e)), λ ρ s t. refl)

module _ (make : Term → Term → Term) (makes : Makes make) (ms ns : List Node) (n : ℕ) (v : Values) (ps : List (Option NodeNo)) (p a b : ℕ) (e : values_in ns ps n ≡ some (term ns p)) (i : a < n) (j : b < n) (k : term ms n ≡ make (term ms a) (term ms b)) where
  of_parts : (ρ : ℕ → Term) → inst ρ (term ms n) ≡ make (inst ρ (term ms a)) (inst ρ (term ms b))
  of_parts ρ = ap (inst ρ) k ∙ makes.1 ρ (term ms a) (term ms b)

  -- its parts are given those of the term that it has to be, if that has such
  pub settled_made : (o : Option (NodeNo × NodeNo)) (r : Bool) (qs : List (Option NodeNo)) → PartsAt make ns p o → BothAssigned ns ps a b o r qs → Settled ms (n + 1) v (values_in ns ps) n r v (values_in ns qs)
  settled_made None r qs h g =
      subst (λ (z : Bool). Settled ms (n + 1) v (values_in ns ps) n z v (values_in ns qs)) (sym g)
      (λ ρ t. h (inst ρ (term ms a)) (inst ρ (term ms b)) (sym ((met_more ms n (values_in ns ps) (term ns p) ρ e).0 t.1).1 ∙ of_parts ρ))
  settled_made (Some (x, y)) r qs h g =
      settled_parts ms n v (values_in ns ps) (term ns p) e a b (term ns x.0) (term ns y.0) r (values_in ns qs) i j
      (λ ρ. ((λ q. makes.0 _ _ _ _ (sym (of_parts ρ) ∙ q ∙ h.2)), λ q. of_parts ρ ∙ ap₂ make q.0 q.1 ∙ sym h.2))
      g

-- one step, and then the others
settled_then : (ms : List Node) (n m k : ℕ) (v d w e u f : Values) (r : Bool) → Settled ms n v d m true w e → Settled ms m w e k r u f → Settled ms n v d k r u f
settled_then ms n m k v d w e u f true p q = λ ρ. ((λ h. (q ρ).0 ((p ρ).0 h)), λ h. (p ρ).1 ((q ρ).1 h))
settled_then ms n m k v d w e u f false p q = λ ρ h. q ρ ((p ρ).0 h)

pub settled_on : (ms : List Node) (l n m k : ℕ) (v d w e u f : Values) (s r : Bool) → l ≡ n → s ≡ true → Settled ms l v d m s w e → Settled ms m w e k r u f → Settled ms n v d k r u f
settled_on ms l n m k v d w e u f s r i j p q =
    settled_then ms n m k v d w e u f r (subst (λ (z : Bool). Settled ms n v d m z w e) j (subst (λ (x : ℕ). Settled ms x v d m s w e) i p)) q
