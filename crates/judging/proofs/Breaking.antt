-- From what is found to whether a run is broken.
use Rattle.std.proofs.Common.{◌≡◌, ℕ, zero, suc, ◌<◌, Bool, true, false, not, List, [], ◌∷◌, ◌++◌, map, length, take, drop, get_or, Some, None, Decides, slice_index_or, ◌↔◌, sym, refl, ap, ap₂, ◌∙◌, subst, inl, inr, drop-cons, arith}
use mathlib.Core.Option.{Option as Maybe, none, some, some-injective}
use mathlib.Core.List.{Memᴰ}
use mathlib.Core.List.Memᴰ
use Rattle.std.specs.List.{AllWithin, HoldsAt}
use Rattle.std.specs.Prelude.{MatchBool}
use Rattle.std.proofs.lemmas.List.{take-append-drop, map-append}
use Rattle.std.proofs.lemmas.Bool.{false≢true}
use Rattle.terms.specs.Terms.{Term, Vars}
use Rattle.terms.specs.Nodes.{term}
use Rattle.terms.specs.declared.node.Node.{Node}
use Rattle.protocol.specs.declared.step.Action.{Action}
use Rattle.protocol.specs.declared.step.Direction.TheVariants.{Input}
use Rattle.protocol.specs.declared.step.Property.{Property}
use Rattle.protocol.specs.Lawful.{Content, Lawful}
use Rattle.lifting.proofs.Lists.{nil_cons}
use Rattle.lifting.proofs.Instances.{vars_map}
use Rattle.runs.specs.Protocols.{TermAction, Protocol, EarlierInLater}
use Rattle.runs.specs.Runs.{Values, Means, Broken}
use Rattle.runs.specs.Tables.{action_of, earlier_of, protocol_of, described}
use Rattle.runs.proofs.Values.{Valued, means_inst, inst_means}
use Rattle.runs.proofs.Tabling.{tables_lawful, described_is, described_lawful}
use Rattle.playing.specs.Judging.{unvalued, fit, NoEarlier, Judged, ClosedRun}
use Rattle.playing.proofs.Judging.{total, total_within, fit_finds, fit_adds, judged_by_fitting}
use Rattle.judging.specs.Judgements.{run_of, Suits, Comes}

-- an element of a mapped list stands at a place, and at each place there is one
pub mapped_at : {A B : Type 0} (f : A → B) (xs : List A) (b : B) → Memᴰ b (map f xs) → (k : ℕ) × (k < length xs) × ((d : A) → b ≡ f (get_or xs k d))
mapped_at f [] b m = absurd (Memᴰ.not-nil m)
mapped_at f (x ∷ xs) b m =
    elim (Memᴰ.cases_cons m) [
      | inl e ↦ (0, omega arith, λ d. e)
      | inr n ↦ let h = mapped_at f xs b n in (suc h.0, omega (arith, h.1), h.2)
    ]

pub at_mapped : {A B : Type 0} (f : A → B) (xs : List A) (k : ℕ) (d : A) → k < length xs → Memᴰ (f (get_or xs k d)) (map f xs)
at_mapped f [] k d l = absurd (omega (arith, l))
at_mapped f (x ∷ xs) zero d l = Memᴰ.head refl
at_mapped f (x ∷ xs) (suc k) d l = Memᴰ.tail (at_mapped f xs k d (omega (arith, l)))

-- where a mapped list falls into three
mapped_split : {A B : Type 0} (f : A → B) (xs : List A) (before after : List B) (b : B) → map f xs ≡ before ++ (b ∷ after) → (k : ℕ) × (k < length xs) × (map f (take k xs) ≡ before) × ((d : A) → f (get_or xs k d) ≡ b)
mapped_split f [] before after b e = absurd (nil_cons before b after e)
mapped_split f (x ∷ xs) [] after b e = (0, omega arith, refl, λ d. cc)
mapped_split f (x ∷ xs) (y ∷ before) after b e =
    let h = mapped_split f xs before after b cc in
    let q : f x ≡ y = cc in
    (suc h.0, omega (arith, h.1), ap₂ (λ z zs. z ∷ zs) q h.2, h.3)

abbrev pub no_action : Action
no_action = record { direction = Input; label = record { 0 = 0 }; node = record { 0 = 0 } }

-- an action that suits, and one that does not
abbrev pub Suiting : List Node → Values → TermAction → Action → Type 0
Suiting ns v e a = Suits v e (action_of ns a)

abbrev pub Unsuiting : List Node → Values → TermAction → Action → Type 0
Unsuiting ns v e a = ¬ Suits v e (action_of ns a)

pub comes_decided : (ns : List Node) (v : Values) (e : TermAction) (r : List Action) (b : Bool) → MatchBool b ((k : ℕ) × (k < length r) × HoldsAt (Suiting ns v e) r k) (AllWithin (Unsuiting ns v e) r 0 (length r)) → Decides b (Comes v e (run_of ns r))
comes_decided ns v e r true (k, l, s) = ((λ t. (action_of ns (get_or r k no_action), at_mapped (action_of ns) r k no_action l, s no_action)), λ t. refl)
comes_decided ns v e r false h = (
  (λ t. absurd (false≢true t)),
  (λ t.
      let m = mapped_at (action_of ns) r t.0 t.1 in
      absurd (h m.0 no_action (omega arith) m.1 (subst (Suits v e) (m.2 no_action) t.2))),
)

-- a term whose variables all have values is fitted just where that is its value
fits_means : (w : Values) (t M : Term) → Vars (Valued w) t → ((u : Values) × (fit w t M ≡ some u)) → Means w t M
fits_means w t M v f = let h = (fit_finds w t M).0 f in subst (Means w t) h.2 (inst_means w h.0 h.1 t v)

means_fits : (w : Values) (t M : Term) → Means w t M → (u : Values) × (fit w t M ≡ some u)
means_fits w t M m = (fit_finds w t M).1 (total w, total_within w, means_inst (total w) (total_within w) m)

-- that the earlier action does not come is that there is none
comes_earlier : (w : Values) (e : TermAction) (r : List TermAction) → Vars (Valued w) e.term → NoEarlier w (some e) r ↔ (Comes w e r → ⊥)
comes_earlier w e r v = (
  (λ n c. n c.0 c.1 c.2.1 c.2.2 (fits_means w e.term c.0.term v (c.2.0, c.2.3))),
  (λ n b m d l k. let f = means_fits w e.term b.term k in n (b, m, (f.0, d, l, f.1))),
)

-- the values of the later action's term are also those of the earlier one's
valued_earlier : (e a b : TermAction) (w : Values) → EarlierInLater (some e) a → fit unvalued a.term b.term ≡ some w → Vars (Valued w) e.term
valued_earlier e a b w i f = vars_map (λ x o. (fit_adds unvalued a.term b.term w f).1 x o) e.term i

-- an action after others, by the later action of a protocol
module _ (S : Protocol) (before : List TermAction) (a : TermAction) where
  judged_unmet : ¬ Suits unvalued S.later a → Decides false (Judged S before a)
  judged_unmet n = ((λ t. absurd (false≢true t)), λ j. absurd (n (j.0, j.1, j.2, j.3)))

  module _ (w : Values) (d : a.direction ≡ S.later.direction) (l : a.label ≡ S.later.label) (f : fit unvalued S.later.term a.term ≡ some w) where
    judged_alone : S.earlier ≡ none → Decides true (Judged S before a)
    judged_alone e = ((λ t. (w, d, l, f, subst (λ (o : Maybe TermAction). NoEarlier w o before) (sym e) tt)), λ j. refl)

    same_found : (u : Values) → fit unvalued S.later.term a.term ≡ some u → u ≡ w
    same_found u g = some-injective u w (sym g ∙ f)

    judged_after : (e : TermAction) (c : Bool) → S.earlier ≡ some e → EarlierInLater S.earlier S.later → Decides c (Comes w e before) → Decides (not c) (Judged S before a)
    judged_after e true q i h = (
      (λ t. absurd (false≢true t)),
      (λ j.
          let i' = subst (λ (o : Maybe TermAction). EarlierInLater o S.later) q i in
          let n = subst (λ (u : Values). NoEarlier u (some e) before) (same_found j.0 j.3) (subst (λ (o : Maybe TermAction). NoEarlier j.0 o before) q j.4) in
          absurd ((comes_earlier w e before (valued_earlier e S.later a w i' f)).0 n (h.0 refl))),
    )
    judged_after e false q i h =
        let i' = subst (λ (o : Maybe TermAction). EarlierInLater o S.later) q i in
        let n = (comes_earlier w e before (valued_earlier e S.later a w i' f)).1 (λ k. false≢true (h.1 k)) in
        ((λ t. (w, d, l, f, subst (λ (o : Maybe TermAction). NoEarlier w o before) (sym q) n)), λ j. refl)

-- the same of the property of a sheet
module _ (C : Content) (law : Lawful C) (p : Property) (is : C.property ≡ Some p) (ns : List Node) (before : List Action) (x : Action) (v : Values) (start : v ≡ unvalued) where
  abbrev pub Says : Bool → Type 0
  Says r = Decides r (Judged (described C) (run_of ns before) (action_of ns x))

  of_property : (r : Bool) → Decides r (Judged (protocol_of C p) (run_of ns before) (action_of ns x)) → Says r
  of_property r h = subst (λ (S : Protocol). Decides r (Judged S (run_of ns before) (action_of ns x))) (sym (described_is C p is)) h

  pub breaks_unmet : ¬ Suits v (action_of C.nodes p.later) (action_of ns x) → Says false
  breaks_unmet n = of_property false (judged_unmet (protocol_of C p) (run_of ns before) (action_of ns x) (subst (λ (u : Values). ¬ Suits u (action_of C.nodes p.later) (action_of ns x)) start n))

  module _ (w : Values) (d : x.direction ≡ p.later.direction) (l : x.label.0 ≡ p.later.label.0) (f : fit v (term C.nodes p.later.node.0) (term ns x.node.0) ≡ some w) where
    started : fit unvalued (term C.nodes p.later.node.0) (term ns x.node.0) ≡ some w
    started = subst (λ (u : Values). fit u (term C.nodes p.later.node.0) (term ns x.node.0) ≡ some w) start f

    pub breaks_alone : p.earlier ≡ None → Says true
    breaks_alone e = of_property true (judged_alone (protocol_of C p) (run_of ns before) (action_of ns x) w d l started (ap (earlier_of C.nodes) e))

    pub breaks_after : (q : Action) (c : Bool) → p.earlier ≡ Some q → Decides c (Comes w (action_of C.nodes q) (run_of ns before)) → Says (not c)
    breaks_after q c e h = of_property (not c) (judged_after (protocol_of C p) (run_of ns before) (action_of ns x) w d l started (action_of C.nodes q) c (ap (earlier_of C.nodes) e) (tables_lawful C p law is).within h)

-- the action at a place of a run breaks the property after those before it
abbrev pub BreaksAt : Content → List Node → List Action → ℕ → Type 0
BreaksAt C ns r k = Judged (described C) (run_of ns (take k r)) (action_of ns (slice_index_or r k no_action))

module _ (C : Content) (law : Lawful C) (ns : List Node) (r : List Action) (said : ClosedRun (run_of ns r)) where
  within : EarlierInLater (described C).earlier (described C).later
  within = (described_lawful C law).within

  parted : (k : ℕ) → k < length r → run_of ns r ≡ run_of ns (take k r) ++ (action_of ns (slice_index_or r k no_action) ∷ run_of ns (drop (suc k) r))
  parted k l = ap (run_of ns) (sym (take-append-drop k r)) ∙ map-append (action_of ns) (take k r) (drop k r) ∙ ap (λ (z : List Action). run_of ns (take k r) ++ run_of ns z) (drop-cons r k no_action l)

  -- where it does, the run is broken
  pub broken_at : (k : ℕ) → k < length r → BreaksAt C ns r k → Decides true (Broken (described C) (run_of ns r))
  broken_at k l j =
      ((λ t. (judged_by_fitting (described C) (run_of ns r) within said).1 (run_of ns (take k r), action_of ns (slice_index_or r k no_action), run_of ns (drop (suc k) r), parted k l, j)), λ b. refl)

  place_of : (before after : List TermAction) (a : TermAction) → run_of ns r ≡ before ++ (a ∷ after) → Judged (described C) before a → (k : ℕ) × (k < length r) × BreaksAt C ns r k
  place_of before after a e j =
      let h = mapped_split (action_of ns) r before after a e in
      (h.0, h.1, subst (λ (z : List TermAction). Judged (described C) z (action_of ns (get_or r h.0 no_action))) (sym h.2) (subst (λ (x : TermAction). Judged (described C) before x) (sym (h.3 no_action)) j))

  -- and where it is, some action does
  pub broken_nowhere : ((k : ℕ) → k < length r → BreaksAt C ns r k → ⊥) → Decides false (Broken (described C) (run_of ns r))
  broken_nowhere h = (
    (λ t. absurd (false≢true t)),
    (λ b.
        let j = (judged_by_fitting (described C) (run_of ns r) within said).0 b in
        let p = place_of j.0 j.2 j.1 j.3 j.4 in
        absurd (h p.0 p.1 p.2)),
  )
