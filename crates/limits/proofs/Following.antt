-- What is asked, passed on through the bindings.
use Rattle.std.proofs.Common.{◌≡◌, ℕ, ◌+◌, ◌<◌, true, false, eqb, ◌&&◌, ◌∙◌, List, length, Some, None, Option, sym, subst, ap₂, inl, inr, arith}
use Rattle.std.proofs.lemmas.Bool.{true≢false, eq-eqb}
use native.Mathlib.Decide.{dec_lt}
use Rattle.terms.specs.Terms.{Term, Atom, Message}
use Rattle.terms.specs.Nodes.{term}
use Rattle.terms.specs.Sets.{bits}
use Rattle.terms.specs.declared.node.Node.{Node}
use Rattle.unification.specs.Bindings.{variable_at, node_at}
use Rattle.unification.specs.declared.binding.Binding.{Binding}
use Rattle.limits.specs.Demands.{AsksMessage, AsksAtom, WithMessage, WithAtom}
use Rattle.limits.specs.Following.{Grows, PassesMessage, PassesAtom, MessagePassed, AtomPassed, Passed, AllPass, NoInstance, InstancesMeet, Looked, Followed, Rests}
use Rattle.limits.specs.declared.demands.Demands.{Demands}
use Rattle.limits.proofs.Subsets.{subset_le}
use Rattle.limits.proofs.Instances.{atom_shown}
use Rattle.limits.proofs.Asking.{meets_message, meets_atom}

grows_self : (d : Demands) → Grows d d
grows_self d = record { messages = λ x i. i; atoms = λ x i. i }

grows_on : (d d' d'' : Demands) → Grows d d' → Grows d' d'' → Grows d d''
grows_on d d' d'' g h = record { messages = λ x i. h.messages x (g.messages x i); atoms = λ x i. h.atoms x (g.atoms x i) }

-- a variable of which no message is asked
pub message_past : (d : Demands) (x : ℕ) (t : Term) → (AsksMessage d x → ⊥) → MessagePassed d x t d
message_past d x t n = record {
  grows = grows_self d;
  passes = record { said = λ i y o. absurd (n i); locked = λ i y o. absurd (n i) };
  needs = λ ρ e m. m;
}

pub message_passed : (d : Demands) (x : ℕ) (t : Term) (d' : Demands) → AsksMessage d x → WithMessage d t d' → MessagePassed d x t d'
message_passed d x t d' a w = record {
  grows = record { messages = λ y i. (w.messages y).1 (inl i); atoms = λ y i. (w.atoms y).1 (inl i) };
  passes = record { said = λ i y o. (w.messages y).1 (inr o); locked = λ i y o. (w.atoms y).1 (inr o) };
  needs = λ ρ e m. meets_message ρ d d' t w m (subst (λ (u : Term). Message u) e (m.messages x a));
}

pub atom_past : (d : Demands) (x : ℕ) (t : Term) → (AsksAtom d x → ⊥) → AtomPassed d x t (Some d)
atom_past d x t n = (grows_self d, record { plain = λ i. absurd (n i); atoms = λ i y o. absurd (n i) }, λ ρ e m. m)

pub atom_passed : (d : Demands) (x : ℕ) (t : Term) (d' : Demands) → AsksAtom d x → WithAtom d t d' → AtomPassed d x t (Some d')
atom_passed d x t d' a w = (
  record { messages = λ y i. (w.messages y).1 i; atoms = λ y i. (w.atoms y).1 (inl i) },
  record { plain = λ i. w.atom; atoms = λ i y o. (w.atoms y).1 (inr o) },
  λ ρ e m. meets_atom ρ d d' t w m (subst (λ (u : Term). Atom u) e (m.atoms x a)),
)

pub atom_stops : (d : Demands) (x : ℕ) (t : Term) → AsksAtom d x → (Atom t → ⊥) → AtomPassed d x t None
atom_stops d x t a n ρ e m = n (atom_shown ρ t (subst (λ (u : Term). Atom u) e (m.atoms x a)))

-- messages first, then names
pub passed_both : (d d₁ : Demands) (x : ℕ) (t : Term) (r : Option Demands) → MessagePassed d x t d₁ → AtomPassed d₁ x t r → Passed d x t r
passed_both d d₁ x t None p n = λ ρ e m. n ρ e (p.needs ρ e m)
passed_both d d₁ x t (Some d₂) p q = (
  grows_on d d₁ d₂ p.grows q.0,
  record { said = λ i y o. q.0.messages y (p.passes.said i y o); locked = λ i y o. q.0.atoms y (p.passes.locked i y o) },
  record { plain = λ i. q.1.plain (p.grows.atoms x i); atoms = λ i y o. q.1.atoms (p.grows.atoms x i) y o },
  λ ρ e m. q.2 ρ e (p.needs ρ e m),
)

module _ (ns : List Node) (B : List Binding) where
  pub looked_none : (d : Demands) → Looked ns B 0 d d
  looked_none d = record { grows = grows_self d; passes = λ j l. absurd (omega arith); needs = λ ρ i m. m }

  -- one binding more
  pub looked_more : (k : ℕ) (d d₁ d₂ : Demands) → k < length B → Looked ns B k d d₁ → Passed d₁ (variable_at B k) (term ns (node_at B k)) (Some d₂) → Looked ns B (k + 1) d d₂
  looked_more k d d₁ d₂ l h p = record {
    grows = grows_on d d₁ d₂ h.grows p.0;
    passes = λ j m. elim (dec_lt j k) [
      | yes g ↦ let q = h.passes j g in (record { said = λ i y o. p.0.messages y (q.0.said i y o); locked = λ i y o. p.0.atoms y (q.0.locked i y o) }, record { plain = q.1.plain; atoms = λ i y o. p.0.atoms y (q.1.atoms i y o) })
      | no g ↦ let e : k ≡ j = omega arith in subst (λ (z : ℕ). PassesMessage d (variable_at B z) (term ns (node_at B z)) d₂ × PassesAtom d (variable_at B z) (term ns (node_at B z)) d₂) e here
    ];
    needs = λ ρ i m. p.3 ρ (i k l) (h.needs ρ i m);
  }
    where
      x : ℕ
      x = variable_at B k

      here : PassesMessage d (variable_at B k) (term ns (node_at B k)) d₂ × PassesAtom d (variable_at B k) (term ns (node_at B k)) d₂
      here = (
        record { said = λ i y o. p.1.said (h.grows.messages (variable_at B k) i) y o; locked = λ i y o. p.1.locked (h.grows.messages (variable_at B k) i) y o },
        record { plain = λ i. p.2.plain (h.grows.atoms (variable_at B k) i); atoms = λ i y o. p.2.atoms (h.grows.atoms (variable_at B k) i) y o },
      )

  pub looked_stops : (k : ℕ) (d d₁ : Demands) → k < length B → Looked ns B k d d₁ → Passed d₁ (variable_at B k) (term ns (node_at B k)) None → NoInstance ns B d
  looked_stops k d d₁ l h p ρ i m = p ρ (i k l) (h.needs ρ i m)

  -- the looks so far have made d₁ of d
  pub record Looking (d d₁ : Demands) : Type 0 where
    pub grows : Grows d d₁
    pub needs : InstancesMeet ns B d d₁

  pub looking_none : (d : Demands) → Looking d d
  looking_none d = record { grows = grows_self d; needs = λ ρ i m. m }

  pub looking_more : (d d₁ d₂ : Demands) → Looking d d₁ → Followed ns B d₁ (Some d₂) → Looking d d₂
  looking_more d d₁ d₂ l f = record { grows = grows_on d d₁ d₂ l.grows f.grows; needs = λ ρ i m. f.needs ρ i (l.needs ρ i m) }

  pub looking_stops : (d d₁ : Demands) → Looking d d₁ → Followed ns B d₁ None → NoInstance ns B d
  looking_stops d d₁ l f ρ i m = f ρ i (l.needs ρ i m)

  pub looking_rests : (d d₁ d₂ : Demands) → d₂ ≡ d₁ → Looking d d₁ → Followed ns B d₁ (Some d₂) → Rests ns B d d₁
  looking_rests d d₁ d₂ e l f = record { grows = l.grows; needs = l.needs; passes = subst (λ (z : Demands). AllPass ns B (length B) d₁ z) e f.passes }

-- how much is asked, as a number
abbrev pub amount : Demands → ℕ
amount d = bits d.messages + bits d.atoms

-- what grows and is not the same asks for more
pub asks_more : (d d' : Demands) → Grows d d' → (eqb (bits d'.messages) (bits d.messages) && eqb (bits d'.atoms) (bits d.atoms)) ≡ false → amount d < amount d'
asks_more d d' g n =
    let a = subset_le (bits d.messages) (bits d'.messages) g.messages in
    let b = subset_le (bits d.atoms) (bits d'.atoms) g.atoms in
    elim (dec_lt (amount d) (amount d')) [
      | yes h ↦ h
      | no h ↦
          let p : eqb (bits d'.messages) (bits d.messages) ≡ true = eq-eqb (bits d'.messages) (bits d.messages) (omega arith) in
          let q : eqb (bits d'.atoms) (bits d.atoms) ≡ true = eq-eqb (bits d'.atoms) (bits d.atoms) (omega arith) in
          absurd (true≢false (sym (ap₂ ◌&&◌ p q) ∙ n))
    ]
