-- What is asked for a term more.
use Rattle.std.proofs.Common.{◌≡◌, ℕ, ◌⊎◌, sym, subst, inl, inr, ⊎_elim}
use lib.Bits.{bit_or}
use Rattle.terms.specs.Terms.{Term, inst, Atom, Message, Occurs}
use Rattle.terms.specs.Bits.{In, varset}
use Rattle.terms.specs.Sets.{bits}
use Rattle.terms.proofs.Bitsets.{in_or, or_in, in_varset, varset_in}
use Rattle.runs.proofs.Releasing.{part_message}
use Rattle.limits.specs.Keys.{InKey, keyset}
use Rattle.limits.specs.Demands.{Meets, WithMessage, WithAtom}
use Rattle.limits.specs.declared.demands.Demands.{Demands}
use Rattle.limits.proofs.Keying.{in_keyset, keyset_in}
use Rattle.limits.proofs.Instances.{atom_part, key_part, message_instance}

union_occurs : (s s' : ℕ) (t : Term) → s' ≡ bit_or s (varset t) → (x : ℕ) → (In x s' → In x s ⊎ Occurs x t) × (In x s ⊎ Occurs x t → In x s')
union_occurs s s' t e x = (
  λ h. ⊎_elim (λ p. inl p) (λ p. inr (in_varset x t p)) (in_or x s (varset t) (subst (λ (n : ℕ). In x n) e h)),
  λ h. subst (λ (n : ℕ). In x n) (sym e) (or_in x s (varset t) (⊎_elim (λ p. inl p) (λ p. inr (varset_in x t p)) h)),
)

union_keys : (s s' : ℕ) (t : Term) → s' ≡ bit_or s (keyset t) → (x : ℕ) → (In x s' → In x s ⊎ InKey x t) × (In x s ⊎ InKey x t → In x s')
union_keys s s' t e x = (
  λ h. ⊎_elim (λ p. inl p) (λ p. inr (in_keyset x t p)) (in_or x s (keyset t) (subst (λ (n : ℕ). In x n) e h)),
  λ h. subst (λ (n : ℕ). In x n) (sym e) (or_in x s (keyset t) (⊎_elim (λ p. inl p) (λ p. inr (keyset_in x t p)) h)),
)

pub asks_message : (d d' : Demands) (t : Term) → bits d'.messages ≡ bit_or (bits d.messages) (varset t) → bits d'.atoms ≡ bit_or (bits d.atoms) (keyset t) → WithMessage d t d'
asks_message d d' t e f = record {
  messages = union_occurs (bits d.messages) (bits d'.messages) t e;
  atoms = union_keys (bits d.atoms) (bits d'.atoms) t f;
}

pub asks_atom : (d d' : Demands) (t : Term) → Atom t → bits d'.messages ≡ bits d.messages → bits d'.atoms ≡ bit_or (bits d.atoms) (varset t) → WithAtom d t d'
asks_atom d d' t a e f = record {
  atom = a;
  messages = λ x. (λ h. subst (λ (n : ℕ). In x n) e h, λ h. subst (λ (n : ℕ). In x n) (sym e) h);
  atoms = union_occurs (bits d.atoms) (bits d'.atoms) t f;
}

-- values meet it where they meet what was asked before, and the term's value is a message
pub meets_message : (ρ : ℕ → Term) (d d' : Demands) (t : Term) → WithMessage d t d' → Meets d ρ → Message (inst ρ t) → Meets d' ρ
meets_message ρ d d' t w m h = record {
  messages = λ x i. elim ((w.messages x).0 i) [ inl p ↦ m.messages x p | inr o ↦ part_message ρ t h x o ];
  atoms = λ x i. elim ((w.atoms x).0 i) [ inl p ↦ m.atoms x p | inr o ↦ key_part ρ t h x o ];
}

pub message_met : (ρ : ℕ → Term) (d d' : Demands) (t : Term) → Message t → WithMessage d t d' → Meets d' ρ → Meets d ρ × Message (inst ρ t)
message_met ρ d d' t plain w m = (
  record { messages = λ x i. m.messages x ((w.messages x).1 (inl i)); atoms = λ x i. m.atoms x ((w.atoms x).1 (inl i)) },
  message_instance ρ t plain (λ x o. m.messages x ((w.messages x).1 (inr o))) (λ x o. m.atoms x ((w.atoms x).1 (inr o))),
)

pub meets_atom : (ρ : ℕ → Term) (d d' : Demands) (t : Term) → WithAtom d t d' → Meets d ρ → Atom (inst ρ t) → Meets d' ρ
meets_atom ρ d d' t w m h = record {
  messages = λ x i. m.messages x ((w.messages x).0 i);
  atoms = λ x i. elim ((w.atoms x).0 i) [ inl p ↦ m.atoms x p | inr o ↦ atom_part ρ t h x o ];
}
