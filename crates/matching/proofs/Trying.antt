-- What a match does to the binding list, and pairs matched one after another.
use Rattle.std.proofs.Common.{◌≡◌, ℕ, ◌+◌, ◌<◌, ◌≤◌, Bool, true, false, eqb, List, [], ◌∷◌, ◌++◌, length, get_or, take, is_err, Ok, Err, Result, sym, ap, ◌∙◌, subst, ⊎_elim, arith, length-take, take_all}
use Rattle.std.proofs.lemmas.Bool.{eqb-true, eq-eqb, true≢false}
use Rattle.std.proofs.lemmas.List.{take_more}
use Rattle.terms.specs.Terms.{Term, var}
use Rattle.terms.specs.declared.node.Node.{Node}
use Rattle.unification.specs.Bindings.{val, Instance, Good}
use Rattle.unification.specs.Classes.{Across, Alike}
use Rattle.unification.specs.Steps.{Room}
use Rattle.unification.specs.declared.ask.Ask.{Ask}
use Rattle.unification.specs.declared.binding.Binding.{Binding}
use Rattle.matching.specs.declared.fault.MatchFault.{MatchFault}
use Rattle.matching.specs.declared.fault.MatchFault.TheVariants.{NoSuchNode}
use Rattle.matching.specs.Matchings.{Matches, Agrees, AllMatch, Already}
use Rattle.unification.proofs.Extending.{exactly_one, no_longer}
use Rattle.unification.proofs.Moves.{each_snoc, each_front, each_last}

-- a beginning of a list is no longer than it
shorter : (B B' : List Binding) → take (length B) B' ≡ B → length B ≤ length B'
shorter B B' e = omega (arith, ap length e, length-take (length B) B')

-- the pairs are of nodes of the table, and the instances of B' are those of B that make them equal
pub record Joint (ns : List Node) (B : List Binding) (ps : List Ask) (B' : List Binding) : Type 0 where
  pub room : Room ns ps
  pub down : (θ : ℕ → Term) → Instance ns B' θ → Instance ns B θ × Agrees ns θ ps
  pub along : (θ : ℕ → Term) → Instance ns B θ → Agrees ns θ ps → Instance ns B' θ

abbrev InRange : List Node → Ask → Type 0
InRange ns w = (w.left.0 < length ns) × (w.right.0 < length ns)

module _ (ns : List Node) (B : List Binding) (ps : List Ask) (k : ℕ) (w : Ask) (here : take (k + 1) ps ≡ take k ps ++ (w ∷ [])) where
  both : (θ : ℕ → Term) → Agrees ns θ (take (k + 1) ps) → Agrees ns θ (take k ps) × (val ns θ w.left.0 ≡ val ns θ w.right.0)
  both θ a =
      let b = subst (Agrees ns θ) here a in
      (each_front (Across (Alike (val ns θ))) (take k ps) w b, each_last (Across (Alike (val ns θ))) (take k ps) w b)

  room_on : Room ns (take k ps) → InRange ns w → Room ns (take (k + 1) ps)
  room_on r h = subst (Room ns) (sym here) (each_snoc (InRange ns) (take k ps) w r h)

  pub joint_on : (B₁ B₂ : List Binding) → Joint ns B (take k ps) B₁ → Matches ns B₁ w.left.0 w.right.0 (Ok true) B₂ → Joint ns B (take (k + 1) ps) B₂
  joint_on B₁ B₂ j m = record {
    room = room_on j.room (m.0, m.1);
    down = λ θ i.
        let p = m.2.sound θ i in
        let q = j.down θ p.0 in
        (q.0, subst (Agrees ns θ) (sym here) (each_snoc (Across (Alike (val ns θ))) (take k ps) w q.1 p.1));
    along = λ θ i a. let b = both θ a in m.2.complete θ (j.along θ i b.0) b.1;
  }

  pub joint_stops : (B₁ B₂ : List Binding) → k < length ps → Joint ns B (take k ps) B₁ → Matches ns B₁ w.left.0 w.right.0 (Ok false) B₂ → AllMatch ns B ps (Ok false)
  joint_stops B₁ B₂ l j m = (k, l, room_on j.room (m.0, m.1), λ θ i a. let b = both θ a in m.2 θ (j.along θ i b.0) b.1)

  pub joint_refused : (fault : MatchFault) (B₁ B₂ : List Binding) → k < length ps → ∥ Good ns B₁ ∥₁ → Joint ns B (take k ps) B₁ → Matches ns B₁ w.left.0 w.right.0 (Err fault) B₂ → AllMatch ns B ps (Err NoSuchNode)
  joint_refused NoSuchNode B₁ B₂ l g j m =
      let e = exactly_one ns B₁ g var in
      let d = j.down e.0 e.1.0.0 in
      let out : Room ns (take (k + 1) ps) → ⊥ = λ r.
      let h = each_last (InRange ns) (take k ps) w (subst (Room ns) here r) in
      ⊎_elim (λ q. omega (arith, q, h.0)) (λ q. omega (arith, q, h.1)) m.0 in
      (k, l, out, j.room, e.0, d.0, d.1)

pub joint_ends : (ns : List Node) (B : List Binding) (ps : List Ask) (k : ℕ) (B₁ : List Binding) → take k ps ≡ ps → ∥ Good ns B₁ ∥₁ → Joint ns B (take k ps) B₁ → AllMatch ns B ps (Ok true)
joint_ends ns B ps k B₁ all g j =
    let e = exactly_one ns B₁ g var in
    let d = j.down e.0 e.1.0.0 in
    (subst (Room ns) all j.room, e.0, d.0, subst (Agrees ns e.0) all d.1)

-- a refusal is the one that there is
pub when_refused : (ns : List Node) (B : List Binding) (ps : List Ask) (r : Result Bool MatchFault) → is_err r ≡ true → AllMatch ns B ps (Err NoSuchNode) → AllMatch ns B ps r
when_refused ns B ps (Ok b) e h = absurd (true≢false (sym e))
when_refused ns B ps (Err NoSuchNode) e h = h

-- what a read past the end of a row of pairs gives
abbrev pub no_ask : Ask
no_ask = record { left = record { 0 = 0 }; right = record { 0 = 0 } }

-- the longer beginning
pub one_more : (ps : List Ask) (k : ℕ) → k < length ps → take (k + 1) ps ≡ take k ps ++ (get_or ps k no_ask ∷ [])
one_more ps k h = take_more ps k no_ask h

module _ (ns : List Node) (B B₂ : List Binding) (a b : ℕ) (g : ∥ Good ns B ∥₁) where
  -- no instance makes them equal, and there is an instance
  pub already_apart : Matches ns B a b (Ok false) B₂ → Already ns B a b (Ok false)
  already_apart m =
      let e = exactly_one ns B g var in
      (m.0, m.1, (λ t. absurd (true≢false (sym t)), λ p. absurd (m.2 e.0 e.1.0.0 (p e.0 e.1.0.0))))

  -- they can be made equal: whether they were is whether nothing was added
  pub already_counted : ∥ Good ns B₂ ∥₁ → Matches ns B a b (Ok true) B₂ → Already ns B a b (Ok (eqb (length B₂) (length B)))
  already_counted g₂ m =
      let front : take (length B) B₂ ≡ B = m.3 in (
        m.0,
        m.1,
        (
          λ t θ i.
              let n : length B₂ ≡ length B = eqb-true (length B₂) (length B) t in
              let e : B₂ ≡ B = sym (take_all (length B) B₂ (omega arith)) ∙ front in
              (m.2.sound θ (subst (λ (C : List Binding). Instance ns C θ) (sym e) i)).1,
          λ p.
              let s = no_longer ns B B₂ g g₂ front (λ θ i. m.2.complete θ i (p θ i)) in
              eq-eqb (length B₂) (length B) (omega (arith, s, shorter B B₂ front)),
        ),
      )
