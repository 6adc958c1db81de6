-- A solved way gives a break.
use mathlib.Core.Path.{◌≡◌, refl, sym, ap, ap₂, ◌∙◌, subst}
use mathlib.Core.Option.{Option, none, some}
use mathlib.Core.List.{List, [], ◌∷◌, ◌++◌, map, Memᴰ}
use mathlib.Core.Logic.{◌⊎◌, inl, inr}
use Prim.Native.Nat.{ℕ}
use lib.ListN.{length, take}
use Rattle.terms.specs.Terms.{Term, name, env, var, pair, seal, inst, Atom, Message}
use Rattle.protocol.specs.Strands.{TermStep, input, output, opens, splits, same}
use Rattle.protocol.specs.declared.step.Direction.{Direction}
use Rattle.derivation.specs.Derive.{Derives}
use Rattle.lifting.specs.Lift.{known, Keyed}
use Rattle.lifting.proofs.Instances.{inst_closed}
use Rattle.lifting.proofs.Lifting.{analz_sound}
use Rattle.lifting.proofs.Lists.{clash}
use Rattle.runs.specs.Protocols.{TermAction, PlainKey, Plain, Written, PlainAction}
use Rattle.runs.specs.Runs.{under, Absent, received, sent}
use Rattle.runs.specs.Schedules.{Holds}
use Rattle.runs.specs.Bridge.{action, actions}
use Rattle.runs.specs.Told.{all_said}
use Rattle.runs.proofs.Telling.{fed_told}
use Rattle.deciding.specs.Ways.{Met, by_mark, by_pair, by_open_key, by_env_key, by_marked_key, by_equal_box}
use Rattle.deciding.specs.Found.{EnvFree, fresh, freshly, FreshInjective, SolvedBreaks}
use Rattle.deciding.proofs.Core.{known_walked}
use Rattle.deciding.proofs.Walked.{inst_walked, under_walked, action_walked, actions_walked}

pub fresh_injective : FreshInjective
fresh_injective (name n) (name m) f g e = e
fresh_injective (name n) (env m) f g e = absurd g
fresh_injective (name n) (var m) f g e = absurd (clash (cc))
fresh_injective (name n) (pair c d) f g e = absurd (clash (cc))
fresh_injective (name n) (seal c d) f g e = absurd (clash (cc))
fresh_injective (env n) t f g e = absurd f
fresh_injective (var n) (name m) f g e = absurd (clash (cc))
fresh_injective (var n) (env m) f g e = absurd g
fresh_injective (var n) (var m) f g e = let q : n ≡ m = cc in ap var q
fresh_injective (var n) (pair c d) f g e = absurd (clash (cc))
fresh_injective (var n) (seal c d) f g e = absurd (clash (cc))
fresh_injective (pair a b) (name m) f g e = absurd (clash (cc))
fresh_injective (pair a b) (env m) f g e = absurd g
fresh_injective (pair a b) (var m) f g e = absurd (clash (cc))
fresh_injective (pair a b) (pair c d) f g e = ap₂ pair (fresh_injective a c f.0 g.0 (cc)) (fresh_injective b d f.1 g.1 (cc))
fresh_injective (pair a b) (seal c d) f g e = absurd (clash (cc))
fresh_injective (seal a b) (name m) f g e = absurd (clash (cc))
fresh_injective (seal a b) (env m) f g e = absurd g
fresh_injective (seal a b) (var m) f g e = absurd (clash (cc))
fresh_injective (seal a b) (pair c d) f g e = absurd (clash (cc))
fresh_injective (seal a b) (seal c d) f g e = ap₂ seal (fresh_injective a c f.0 g.0 (cc)) (fresh_injective b d f.1 g.1 (cc))

fresh_key : (k : Term) → Atom k → Atom (inst fresh k)
fresh_key (name n) i = tt
fresh_key (env n) i = tt
fresh_key (var x) i = tt
fresh_key (pair a b) i = i
fresh_key (seal a b) i = i

fresh_message : (t : Term) → Message t → Message (inst fresh t)
fresh_message (name n) m = tt
fresh_message (env n) m = tt
fresh_message (var x) m = tt
fresh_message (pair a b) m = (fresh_message a m.0, fresh_message b m.1)
fresh_message (seal b k) m = (fresh_message b m.0, fresh_key k m.1)

-- of fresh valuations, every key is derived
fresh_keyed : (xs : List Term) → Keyed xs fresh
fresh_keyed xs j b x a = (tt, Derives.public x)

pub met_derives : (xs : List Term) (j : ℕ) (M : List ℕ) → {t : Term} → Met (take j xs) M t → Derives (known xs fresh j) (inst fresh t)
met_derives xs j M (by_mark {x} m) = Derives.public x
met_derives xs j M (Met.by_name a) = analz_sound xs fresh (fresh_keyed xs) j a
met_derives xs j M (Met.by_env n) = Derives.public n
met_derives xs j M (by_pair p q) = Derives.both (met_derives xs j M p) (met_derives xs j M q)
met_derives xs j M (by_open_key a p) = Derives.make_seal (met_derives xs j M p) tt (analz_sound xs fresh (fresh_keyed xs) j a)
met_derives xs j M (by_env_key n p) = Derives.make_seal (met_derives xs j M p) tt (Derives.public n)
met_derives xs j M (by_marked_key {x = x} m p) = Derives.make_seal (met_derives xs j M p) tt (Derives.public x)
met_derives xs j M (by_equal_box a) = analz_sound xs fresh (fresh_keyed xs) j a

module _ (σ : ℕ → Term) where
  walked : (t : Term) → inst (freshly σ) t ≡ inst fresh (inst σ t)
  walked t = inst_walked σ fresh (freshly σ) (λ x. refl) t

  fresh_holds : (q : TermStep) → Holds σ q → Holds (freshly σ) q
  fresh_holds (input l x) h = fresh_message (σ x) h
  fresh_holds (output l n) h = subst (λ (t : Term). Message t) (sym (walked n)) (fresh_message (inst σ n) h)
  fresh_holds (opens s x k) h = walked s ∙ (ap (inst fresh) h ∙ ap (λ (t : Term). seal (freshly σ x) t) (sym (walked k)))
  fresh_holds (splits s x y) h = walked s ∙ ap (inst fresh) h
  fresh_holds (same n m) h = walked n ∙ (ap (inst fresh) h ∙ sym (walked m))

  module _ (plain : (x : ℕ) → EnvFree (σ x)) where
    atom_free : (k : Term) → PlainKey k → EnvFree (inst σ k)
    atom_free (name n) a = tt
    atom_free (env n) a = a
    atom_free (var x) a = plain x
    atom_free (pair c d) a = absurd a
    atom_free (seal c d) a = absurd a

    pub plain_free : (t : Term) → Plain t → EnvFree (inst σ t)
    plain_free (name n) p = tt
    plain_free (env n) p = p
    plain_free (var x) p = plain x
    plain_free (pair a b) p = (plain_free a p.0, plain_free b p.1)
    plain_free (seal b k) p = (plain_free b p.0, atom_free k p.1)

    sole : (a b : TermAction) → Memᴰ a (b ∷ []) → a ≡ b
    sole a b m = elim (mathlib.Core.List.Memᴰ.cases_cons m) [ inl e ↦ e | inr r ↦ absurd (mathlib.Core.List.Memᴰ.not-nil r) ]

    action_free : (q : TermStep) → Written q → (a : TermAction) → Memᴰ a (action σ q) → EnvFree a.term
    action_free (input l x) p a m = subst (λ (z : TermAction). EnvFree z.term) (sym (sole a (received l (σ x)) m)) (plain x)
    action_free (output l n) p a m = subst (λ (z : TermAction). EnvFree z.term) (sym (sole a (sent l (inst σ n)) m)) (plain_free n p)
    action_free (opens s x k) p a m = absurd (mathlib.Core.List.Memᴰ.not-nil m)
    action_free (splits s x y) p a m = absurd (mathlib.Core.List.Memᴰ.not-nil m)
    action_free (same n k) p a m = absurd (mathlib.Core.List.Memᴰ.not-nil m)

    mem_both : (xs ys : List TermAction) (a : TermAction) → Memᴰ a (xs ++ ys) → Memᴰ a xs ⊎ Memᴰ a ys
    mem_both [] ys a m = inr m
    mem_both (x ∷ xs) ys a m = elim (mathlib.Core.List.Memᴰ.cases_cons m) [ inl e ↦ inl (mathlib.Core.List.Memᴰ.head e) | inr r ↦ elim (mem_both xs ys a r) [ inl q ↦ inl (mathlib.Core.List.Memᴰ.tail q) | inr q ↦ inr q ] ]

    actions_free : (ps : List TermStep) → ((q : TermStep) → Memᴰ q ps → Written q) → (a : TermAction) → Memᴰ a (actions σ ps) → EnvFree a.term
    actions_free [] h a m = absurd (mathlib.Core.List.Memᴰ.not-nil m)
    actions_free (p ∷ ps) h a m =
        elim (mem_both (action σ p) (actions σ ps) a m) [
          | inl q ↦ action_free p (h p (mathlib.Core.List.Memᴰ.head refl)) a q
          | inr q ↦ actions_free ps (λ r k. h r (mathlib.Core.List.Memᴰ.tail k)) a q
        ]

    same_action : (a b : TermAction) → EnvFree a.term → EnvFree b.term → under fresh a ≡ under fresh b → a ≡ b
    same_action a b f g e =
        let d : a.direction ≡ b.direction = ap (λ (z : TermAction). z.direction) e in
        let l : a.label ≡ b.label = ap (λ (z : TermAction). z.label) e in
        let t : a.term ≡ b.term = fresh_injective a.term b.term f g (ap (λ (z : TermAction). z.term) e) in
        ap₂ (λ (x : Direction) (y : ℕ). record { direction = x; label = y; term = a.term }) d l ∙ ap (λ (z : Term). record { direction = b.direction; label = b.label; term = z }) t

    fresh_absent : (o : Option TermAction) (ps : List TermStep) → ((q : TermStep) → Memᴰ q ps → Written q) → PlainAction o → Absent σ o (actions σ ps) → Absent (freshly σ) o (actions (freshly σ) ps)
    fresh_absent none ps h p ab = tt
    fresh_absent (some a) ps h p ab = λ m.
        let m' : Memᴰ (under (freshly σ) a) (map (under fresh) (actions σ ps)) = subst (λ (r : List TermAction). Memᴰ (under (freshly σ) a) r) (actions_walked σ fresh (freshly σ) (λ x. refl) ps) m in
        let r = mathlib.Core.List.Memᴰ.of_map (under fresh) (actions σ ps) m' in
        let e : r.0 ≡ under σ a = same_action r.0 (under σ a) (actions_free ps h r.0 r.1) (plain_free a.term p) (r.2 ∙ under_walked σ fresh (freshly σ) (λ x. refl) a) in
        ab (subst (λ (z : TermAction). Memᴰ z (actions σ ps)) e r.1)

mem_front : (xs ys : List TermStep) (q : TermStep) → Memᴰ q xs → Memᴰ q (xs ++ ys)
mem_front [] ys q m = absurd (mathlib.Core.List.Memᴰ.not-nil m)
mem_front (x ∷ xs) ys q m = elim (mathlib.Core.List.Memᴰ.cases_cons m) [ inl e ↦ mathlib.Core.List.Memᴰ.head e | inr r ↦ mathlib.Core.List.Memᴰ.tail (mem_front xs ys q r) ]

pub solved_breaks : SolvedBreaks
solved_breaks S ps p σ written pe sol =
    record {
      closed = λ x. inst_closed fresh (λ y. tt) (σ x);
      hold = λ q m. fresh_holds σ q (sol.hold q m);
      feeds = (fed_told (freshly σ) (ps ++ (p ∷ []))).1 (λ qs l x rs e.
          let t = sol.through qs l x rs e in
          subst (λ (K : List Term). Derives K (freshly σ x)) (known_walked σ fresh (freshly σ) (λ y. refl) (all_said (ps ++ (p ∷ []))) (length (all_said qs))) (met_derives (map (inst σ) (all_said (ps ++ (p ∷ [])))) (length (all_said qs)) t.0 t.1));
      now = action_walked σ fresh (freshly σ) (λ x. refl) p ∙ (ap (map (under fresh)) sol.now ∙ ap (λ (a : TermAction). a ∷ []) (sym (under_walked σ fresh (freshly σ) (λ x. refl) S.later)));
      clear = fresh_absent σ sol.plain S.earlier ps (λ q m. written q (mem_front ps (p ∷ []) q m)) pe sol.clear;
    }
