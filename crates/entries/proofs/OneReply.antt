-- A file has one reply.
use Rattle.std.proofs.Common.{◌≡◌, ℕ, ◌-◌, ◌<◌, List, [], ◌∷◌, ◌++◌, map, length, get_or, Some, None, sym, refl, ap, ◌∙◌, subst, ap₂, ⊎_elim, arith}
use Rattle.std.proofs.lemmas.List.{append-nil, append_assoc}
use Rattle.std.proofs.lemmas.Bool.{cases_order}
use Rattle.records.specs.Bytes.{Rec, encode, encode_all, CutOff}
use Rattle.records.proofs.Fronts.{one_front}
use Rattle.records.proofs.Scanning.{along, nil_recordless}
use Rattle.protocol.specs.declared.step.Property.{Property}
use Rattle.protocol.specs.Lawful.{Content, Sound}
use Rattle.entries.specs.declared.fault.Rule.{Rule}
use Rattle.entries.specs.declared.fault.Rule.TheVariants as r
use Rattle.entries.specs.Format.{Entry, rec, entries, bytes, file}
use Rattle.entries.specs.Faults.{number}
use Rattle.entries.specs.Rules.{InOrder, Keeps, KeepsBelow, FirstBroken}
use Rattle.entries.specs.Reading.{Stops, taken, refused, Reads, OneReply}
use Rattle.entries.proofs.Coding.{told, rec_one}
use Rattle.entries.proofs.Grown.{Grown, grown_one, grown_before}
use Rattle.entries.proofs.Regrowing.{sound_grown}

abbrev rule_of : ℕ → Rule
rule_of k = get_or (r.Whole ∷ r.Kind ∷ r.Limit ∷ r.Text ∷ r.Node ∷ r.Step ∷ r.Variable ∷ r.Property ∷ r.Ended ∷ []) (k - 1) r.Whole

rule_back : (q : Rule) → rule_of (number q) ≡ q
rule_back r.Whole = refl
rule_back r.Kind = refl
rule_back r.Limit = refl
rule_back r.Text = refl
rule_back r.Node = refl
rule_back r.Step = refl
rule_back r.Variable = refl
rule_back r.Property = refl
rule_back r.Ended = refl

-- a rule is told by its number
pub number_one : (q s : Rule) → number q ≡ number s → q ≡ s
number_one q s e = told number rule_of rule_back q s e

-- the ways in which bytes stop a reader
data Stop (C : Content) (more : List ℕ) (q : Rule) : Type 0 where
  cut : q ≡ r.Whole → CutOff more → Stop C more q
  kind : q ≡ r.Kind → (x : Rec) (after : List ℕ) → more ≡ encode x ++ after → ((e : Entry) → rec e ≡ x → ¬ InOrder C e) → Stop C more q
  later : number r.Kind < number q → number q < 9 → (x : Rec) (after : List ℕ) → more ≡ encode x ++ after → FirstBroken q C x → Stop C more q
  ended : q ≡ r.Ended → more ≡ [] → C.property ≡ None → Stop C more q

-- each stop is one of those
stop_of : (q : Rule) (C : Content) (more : List ℕ) → Stops q C more → Stop C more q
stop_of r.Whole C more h = cut refl h
stop_of r.Kind C more h = kind refl h.0 h.1 h.2 h.3
stop_of r.Limit C more h = later (omega arith) (omega arith) h.0 h.1 h.2 h.3
stop_of r.Text C more h = later (omega arith) (omega arith) h.0 h.1 h.2 h.3
stop_of r.Node C more h = later (omega arith) (omega arith) h.0 h.1 h.2 h.3
stop_of r.Step C more h = later (omega arith) (omega arith) h.0 h.1 h.2 h.3
stop_of r.Variable C more h = later (omega arith) (omega arith) h.0 h.1 h.2 h.3
stop_of r.Property C more h = later (omega arith) (omega arith) h.0 h.1 h.2 h.3
stop_of r.Ended C more h = ended refl h.0 h.1

no_record : (more : List ℕ) (x : Rec) (after : List ℕ) → more ≡ [] → more ≡ encode x ++ after → ⊥
no_record more x after e f = nil_recordless x after (sym e ∙ f)

front_one : (more : List ℕ) (x y : Rec) (a b : List ℕ) → more ≡ encode x ++ a → more ≡ encode y ++ b → x ≡ y
front_one more x y a b e f = (one_front x y a b (sym e ∙ f)).0

-- no entry that keeps all rules comes next
abbrev Stuck : Content → List ℕ → Type 0
Stuck C more = (e : Entry) (after : List ℕ) → more ≡ encode (rec e) ++ after → KeepsBelow 9 C e → ⊥

-- after a stop no such entry comes
stuck : (C : Content) (more : List ℕ) (q : Rule) → Stop C more q → Stuck C more
stuck C more q (cut p h) e after f k = h.1 (rec e) after f
stuck C more q (kind p x a u h) e after f k = h e (front_one more (rec e) x after a f u) (k r.Kind (omega arith))
stuck C more q (later l m x a u h) e after f k =
    let same-entry : e ≡ h.0 = rec_one e h.0 (front_one more (rec e) x after a f u ∙ sym h.1) in
    h.3 (subst (λ (d : Entry). Keeps q C d) same-entry (k q m))
stuck C more q (ended p u h) e after f k = no_record more (rec e) after u f

-- two stops at one place are of one rule
stop_one : (C : Content) (more : List ℕ) (q s : Rule) → Stop C more q → Stop C more s → q ≡ s
stop_one C more q s (cut p h) (cut p' h') = p ∙ sym p'
stop_one C more q s (cut p h) (kind p' x a u h') = absurd (h.1 x a u)
stop_one C more q s (cut p h) (later l m x a u h') = absurd (h.1 x a u)
stop_one C more q s (cut p h) (ended p' u h') = absurd (h.0 u)
stop_one C more q s (kind p x a u h) (cut p' h') = absurd (h'.1 x a u)
stop_one C more q s (kind p x a u h) (kind p' x' a' u' h') = p ∙ sym p'
stop_one C more q s (kind p x a u h) (later l m x' a' u' h') = absurd (h h'.0 (h'.1 ∙ front_one more x' x a' a u' u) (h'.2 r.Kind l))
stop_one C more q s (kind p x a u h) (ended p' u' h') = absurd (no_record more x a u' u)
stop_one C more q s (later l m x a u h) (cut p' h') = absurd (h'.1 x a u)
stop_one C more q s (later l m x a u h) (kind p' x' a' u' h') = absurd (h' h.0 (h.1 ∙ front_one more x x' a a' u u') (h.2 r.Kind l))
stop_one C more q s (later l m x a u h) (later l' m' x' a' u' h') =
    let e : h.0 ≡ h'.0 = rec_one h.0 h'.0 (h.1 ∙ front_one more x x' a a' u u' ∙ sym h'.1) in
    ⊎_elim
    (λ n. number_one q s n)
    (λ o. absurd (⊎_elim
    (λ n. h.3 (subst (λ (d : Entry). Keeps q C d) (sym e) (h'.2 q n)))
    (λ n. h'.3 (subst (λ (d : Entry). Keeps s C d) e (h.2 s n)))
    o))
    (cases_order (number q) (number s))
stop_one C more q s (later l m x a u h) (ended p' u' h') = absurd (no_record more x a u' u)
stop_one C more q s (ended p u h) (cut p' h') = absurd (h'.0 u)
stop_one C more q s (ended p u h) (kind p' x a u' h') = absurd (no_record more x a u u')
stop_one C more q s (ended p u h) (later l m x a u' h') = absurd (no_record more x a u u')
stop_one C more q s (ended p u h) (ended p' u' h') = p ∙ sym p'

-- at one place one rule is the first that is broken
pub stops_one : (q s : Rule) (C : Content) (more : List ℕ) → Stops q C more → Stops s C more → q ≡ s
stops_one q s C more h k = stop_one C more q s (stop_of q C more h) (stop_of s C more k)

-- where a content has its property, no rule is broken at the end
at_end : (C : Content) (more : List ℕ) (q : Rule) (t : Property) → Stop C more q → more ≡ [] → C.property ≡ Some t → ⊥
at_end C more q t (cut p h) e f = h.0 e
at_end C more q t (kind p x a u h) e f = no_record more x a e u
at_end C more q t (later l m x a u h) e f = no_record more x a e u
at_end C more q t (ended p u h) e f = grind arith

-- records of entries that go on are those of entries that go on
parted : (es fs : List Entry) (qs : List Rec) → map rec fs ≡ map rec es ++ qs → (gs : List Entry) × (fs ≡ es ++ gs) × (qs ≡ map rec gs)
parted [] fs qs u = (fs, refl, sym u)
parted (e ∷ es) [] qs u = absurd (grind arith)
parted (e ∷ es) (f ∷ fs) qs u =
    let first : rec f ≡ rec e = cc in
    let t = parted es fs qs (cc) in
    (t.0, ap₂ (λ (d : Entry) (l : List Entry). d ∷ l) (rec_one f e first) t.1, t.2)

-- where one content is stuck, the other does not go on
one_side : (C D : Content) (x y : List ℕ) → Sound C → Sound D → Stuck C x → (gs : List Entry) → entries D ≡ entries C ++ gs → x ≡ bytes gs ++ y → (C ≡ D) × (x ≡ y)
one_side C D x y c d s [] e f = (grown_one (entries C) C D (sound_grown C c) (subst (λ (l : List Entry). Grown l D) (e ∙ append-nil (entries C)) (sound_grown D d)), f)
one_side C D x y c d s (g ∷ gs) e f =
    let (B, grown, keeps) = grown_before (entries C) gs g D (subst (λ (l : List Entry). Grown l D) e (sound_grown D d)) in
    let same-content : B ≡ C = grown_one (entries C) B C grown (sound_grown C c) in
    absurd (s g (bytes gs ++ y) (f ∙ append_assoc (encode (rec g)) (bytes gs) y) (subst (λ (A : Content). KeepsBelow 9 A g) same-content keeps))

-- bytes are stuck after one content at most
one_place : (C D : Content) (x y : List ℕ) → Sound C → Sound D → Stuck C x → Stuck D y → file C ++ x ≡ file D ++ y → (C ≡ D) × (x ≡ y)
one_place C D x y c d s t e =
    ⊎_elim
    (λ h. let p = parted (entries C) (entries D) h.0 h.1 in
    one_side C D x y c d s p.0 p.1 (h.2 ∙ ap (λ (l : List Rec). encode_all l ++ y) p.2))
    (λ h. let p = parted (entries D) (entries C) h.0 h.1 in
    let w = one_side D C y x d c t p.0 p.1 (h.2 ∙ ap (λ (l : List Rec). encode_all l ++ x) p.2) in
    (sym w.0, sym w.1))
    (along (map rec (entries C)) (map rec (entries D)) x y e)

-- at the end of a file no entry comes
end_stuck : (C : Content) → Stuck C []
end_stuck C e after f k = nil_recordless (rec e) after f

-- a content that is taken, and a refusal
apart : (bs : List ℕ) (C : Content) (q : Rule) (k : ℕ) → Reads bs (taken C) → Reads bs (refused q k) → ⊥
apart bs C q k a b =
    let (l, e) = a in
    let (D, more, d, f, n, h) = b in
    let s = stop_of q D more h in
    let w = one_place C D [] more l.sound d (end_stuck C) (stuck D more q s) (append-nil (file C) ∙ sym e ∙ f) in
    at_end D more q l.has_property.0 s (sym w.1) (ap (λ (A : Content). A.property) (sym w.0) ∙ l.has_property.1)

-- a file has one reply
pub one_reply : OneReply
one_reply bs (taken C) (taken D) (c, e) (d, f) = ap taken (one_place C D [] [] c.sound d.sound (end_stuck C) (end_stuck D) (append-nil (file C) ∙ sym e ∙ f ∙ sym (append-nil (file D)))).0
one_reply bs (taken C) (refused q k) a b = absurd (apart bs C q k a b)
one_reply bs (refused q k) (taken C) a b = absurd (apart bs C q k b a)
one_reply bs (refused q k) (refused s l) (C, x, c, e, m, h) (D, y, d, f, n, i) =
    let w = one_place C D x y c d (stuck C x q (stop_of q C x h)) (stuck D y s (stop_of s D y i)) (sym e ∙ f) in
    ap₂ refused
    (stops_one q s C x h (rw (w.0, w.1) i))
    (m ∙ ap (λ (A : Content). length (entries A)) w.0 ∙ sym n)
