-- What is told of the end of taking apart.
use mathlib.Core.List.Memᴰ
use mathlib.Core.List.{[], ◌∷◌, Memᴰ}
use mathlib.Core.HLevel.{⊥_prop}
use mathlib.Core.Logic.{∥∥₁_elim}
use Rattle.std.proofs.Common.{◌≡◌, ℕ, zero, suc, ◌+◌, ◌<◌, ◌≤◌, Bool, true, false, List, length, get_or, Some, refl, sym, ap, ◌∙◌, subst, ⊎_elim, arith}
use Rattle.std.proofs.Math.Bool.{Bool-set}
use Rattle.std.proofs.Math.Nat.{ℕ_set}
use Rattle.std.proofs.lemmas.Bool.{false≢true, cases_Bool}
use native.Mathlib.Decide.{dec_lt}
use Rattle.terms.specs.Terms.{Term, seal}
use Rattle.terms.specs.Bits.{In}
use Rattle.terms.specs.Nodes.{Ordered}
use Rattle.terms.specs.Sets.{bits}
use Rattle.terms.specs.declared.node.Node.{Node}
use Rattle.terms.specs.declared.number.NodeNo.{NodeNo}
use Rattle.terms.specs.declared.variables.VarSet.{VarSet}
use Rattle.terms.proofs.Bitsets.{not_in_zero}
use Rattle.terms.proofs.Equality.{term_discrete}
use Rattle.lifting.specs.Lift.{Analz}
use Rattle.unification.specs.Bindings.{val, Unbound}
use Rattle.unification.specs.declared.binding.Binding.{Binding}
use Rattle.unification.proofs.Deciding.{some?}
use Rattle.matching.specs.Matchings.{MostGeneral}
use Rattle.reach.specs.Parts.{marked, named, sealed, Seen, Opening, Unlocks, Sound, AllFiled}
use Rattle.reach.specs.Steps.{Values, Marked, Marking, Settled}
use Rattle.reach.specs.Reached.{valued, Reached, Told}
use Rattle.reach.specs.declared.parts.Parts.{Parts}
use Rattle.reach.proofs.Closing.{NarrowTable, all_names, all_variables, all_seals}

-- what a read past the last head gives
abbrev pub no_head : NodeNo
no_head = record { 0 = 0 }

listed_at : (hs : List NodeNo) (k : ℕ) → k < length hs → Memᴰ (get_or hs k no_head) hs
listed_at [] k l = absurd (omega arith)
listed_at (h ∷ hs) zero l = Memᴰ.head refl
listed_at (h ∷ hs) (suc k) l = Memᴰ.tail (listed_at hs k (omega arith))

place_of : (h : NodeNo) (hs : List NodeNo) → Memᴰ h hs → (k : ℕ) × (k < length hs) × (get_or hs k no_head ≡ h)
place_of h [] m = absurd (Memᴰ.not-nil m)
place_of h (y ∷ hs) m = ⊎_elim (λ e. (0, omega arith, sym e)) (λ r. let i = place_of h hs r in (suc i.0, omega (arith, i.1), i.2)) (Memᴰ.cases_cons m)

-- the first k heads are marked, and nothing that the heads do not come apart into
pub record Begun (ns : List Node) (B : List Binding) (hs : List NodeNo) (k : ℕ) (s : Parts) : Type 0 where
  pub inside : (j : ℕ) → j < k → (get_or hs j no_head).0 < length ns
  pub marks : (j : ℕ) → j < k → marked s (get_or hs j no_head).0 ≡ true
  pub filed : AllFiled ns s
  pub sound : (θ : ℕ → Term) → Values ns B θ → Sound ns θ (valued ns θ hs) s
  pub free : (x : ℕ) → x < 64 → Unbound B x → Opening s x

none_true : (b : Bool) → b ≡ false → b ≡ true → ⊥
none_true b f t = false≢true (sym f ∙ t)

module _ (ns : List Node) (B : List Binding) (hs : List NodeNo) where
  pub begun_none : (s : Parts) (u : VarSet) → ((i : ℕ) → marked s i ≡ false) → ((a : ℕ) → named s a ≡ false) → ((i : ℕ) → sealed s i ≡ false) → bits s.variables ≡ 0 → s.opening ≡ u → ((x : ℕ) → (In x (bits u) → Unbound B x) × (x < 64 → Unbound B x → In x (bits u))) → Begun ns B hs 0 s
  begun_none s u m n e v o w = record {
    inside = λ j l. absurd (omega arith);
    marks = λ j l. absurd (omega arith);
    filed = λ i t. absurd (none_true (marked s i) (m i) t);
    sound = λ θ h. record {
      marks = λ i t. absurd (none_true (marked s i) (m i) t);
      names = λ a t. absurd (none_true (named s a) (n a) t);
      seals = λ i t. absurd (none_true (sealed s i) (e i) t);
      variables = λ x t. absurd (not_in_zero x (subst (In x) v t));
      opening = λ x t. subst (Unlocks (valued ns θ hs)) (sym (h.1 x ((w x).0 (subst (λ (z : VarSet). In x (bits z)) o t)))) tt;
    };
    free = λ x l f. subst (λ (z : VarSet). In x (bits z)) (sym o) ((w x).1 l f);
  }

  begun_marked : (k : ℕ) (s s' : Parts) → k < length hs → (get_or hs k no_head).0 < length ns → Marked ns s (get_or hs k no_head).0 s' → Begun ns B hs k s → Begun ns B hs (k + 1) s'
  begun_marked k s s' l h m b = record {
    inside = λ j q. elim (dec_lt j k) [ yes i ↦ b.inside j i | no i ↦ subst (λ (z : ℕ). (get_or hs z no_head).0 < length ns) (omega arith) h ];
    marks = λ j q. elim (dec_lt j k) [ yes i ↦ m.grows.marks _ (b.marks j i) | no i ↦ subst (λ (z : ℕ). marked s' (get_or hs z no_head).0 ≡ true) (omega arith) (m.here h) ];
    filed = m.filed b.filed;
    sound = λ θ v. m.sound θ (valued ns θ hs) (λ z. Analz.listed (Memᴰ.map (λ (y : NodeNo). val ns θ y.0) (listed_at hs k l))) (b.sound θ v);
    free = λ x q f. m.grows.opening x (b.free x q f);
  }

  same_marked : (s : Parts) (n : ℕ) (s' : Parts) → (s' ≡ s) × (n < length ns → marked s n ≡ true) → Marked ns s n s'
  same_marked s n s' h =
      subst (Marked ns s n) (sym h.0)
      (record { grows = record { marks = λ i t. t; names = λ a t. t; seals = λ i t. t; variables = λ x t. t; opening = λ x t. t }; filed = λ f. f; sound = λ θ S a t. t; here = h.1 })

  pub begun_more : (k : ℕ) (s s' : Parts) (r : Bool) → k < length hs → (get_or hs k no_head).0 < length ns → Marking ns s (get_or hs k no_head).0 s' r → Begun ns B hs k s → Begun ns B hs (k + 1) s'
  begun_more k s s' true l h m b = begun_marked k s s' l h m.0 b
  begun_more k s s' false l h m b = begun_marked k s s' l h (same_marked s (get_or hs k no_head).0 s' m) b

  true? : (b : Bool) → Dec (b ≡ true)
  true? b = ⊎_elim (λ t. yes t) (λ f. no (λ t. none_true b f t)) (cases_Bool b)

  and? : {P Q : Type 0} → Dec P → Dec Q → Dec (P × Q)
  and? (yes p) (yes q) = yes (p, q)
  and? (yes p) (no q) = no (λ h. q h.1)
  and? (no p) d = no (λ h. p h.0)

  pub told : Ordered ns → NarrowTable ns → (k : ℕ) → length hs ≤ k → (s s' : Parts) → Begun ns B hs k s → Settled ns B s s' → (u V : VarSet) → ((x : ℕ) → (In x (bits u) → Unbound B x) × (x < 64 → Unbound B x → In x (bits u))) → ((x : ℕ) → In x (bits s'.variables) → x < 64) → ((x : ℕ) → (In x (bits V) → In x (bits s'.variables) × In x (bits u)) × (In x (bits s'.variables) → In x (bits u) → In x (bits V))) → Told ns B hs (Some (record { names = s'.names; seals = s'.seals; variables = V }))
  told o narrow k ends s s' b q u V w small both = (λ j l. b.inside j (omega arith), λ general θ v. reached general θ v)
    where
      reached : MostGeneral ns B → (θ : ℕ → Term) → Values ns B θ → Reached ns B θ (valued ns θ hs) (record { names = s'.names; seals = s'.seals; variables = V })
      reached general θ v = record {
        names = λ a. (sound.names a, λ z. ∥∥₁_elim general.ranked (Bool-set _ _) (λ f. all_names ns o narrow B general.within θ v s' filed q.1 free f.0 f.1 S heads a z));
        variables = λ x. (
          λ m. let p = (both x).0 m in let un = (w x).0 p.1 in (un, subst (Analz S) (v.1 x un) (sound.variables x p.0)),
          λ un z. let m : Seen s' x = ∥∥₁_elim general.ranked (ℕ_set _ _) (λ f. all_variables ns o narrow B general.within θ v s' filed q.1 free f.0 f.1 S heads x z) in (both x).1 m ((w x).1 (small x m) un),
        );
        sound = λ i e. let h = sound.seals i e in let m = sound.marks i h.0 in (m.0, h.1, m.1);
        complete = λ m t z. elim (some? (λ i. (sealed s' i ≡ true) × (val ns θ i ≡ seal m t)) (λ i. and? (true? (sealed s' i)) (term_discrete (val ns θ i) (seal m t))) (length ns)) [
          | yes h ↦ (h.0, h.2.0, h.2.1)
          | no n ↦ absurd (∥∥₁_elim general.ranked ⊥_prop (λ f. let h = all_seals ns o narrow B general.within θ v s' filed q.1 free f.0 f.1 S heads m t z in n (h.0, h.1, (h.2, h.3))))
        ];
      }
        where
          S : List Term
          S = valued ns θ hs

          sound : Sound ns θ (valued ns θ hs) s'
          sound = q.0.sound θ (valued ns θ hs) v (b.sound θ v)

          filed : AllFiled ns s'
          filed = q.0.filed b.filed

          free : (x : ℕ) → x < 64 → Unbound B x → Opening s' x
          free x l n = q.0.grows.opening x (b.free x l n)

          heads : (t : Term) → Memᴰ t (valued ns θ hs) → (i : ℕ) × (i < length ns) × (marked s' i ≡ true) × (val ns θ i ≡ t)
          heads t m =
              let (h, n, e) = Memᴰ.of_map (λ (y : NodeNo). val ns θ y.0) hs m in
              let (j, l, f) = place_of h hs n in
              let z : j < k = omega arith in
              ((get_or hs j no_head).0, b.inside j z, q.0.grows.marks _ (b.marks j z), ap (λ (y : NodeNo). val ns θ y.0) f ∙ e)
