-- A run file has one answer.
use Rattle.std.proofs.Common.{◌≡◌, ℕ, suc, ◌+◌, ◌-◌, ◌*◌, ◌/◌, ◌%◌, List, [], ◌∷◌, ◌++◌, length, get_or, Ok, Err, Result, sym, refl, ap, ◌∙◌, subst, inl, inr, arith}
use native.Mathlib.Nat.{div-add-mod}
use Rattle.records.specs.Bytes.{Rec, encode}
use Rattle.records.proofs.Fronts.{one_front, shorter}
use Rattle.terms.specs.declared.node.Node.{Node}
use Rattle.terms.specs.declared.number.NodeNo.{NodeNo}
use Rattle.entries.proofs.Coding.{told, node_entry_one}
use Rattle.runs.specs.Protocols.{Protocol}
use Rattle.playing.specs.Verdicts.{VerdictOf}
use Rattle.playing.specs.declared.faults.WriteFault.{WriteFault}
use Rattle.playing.specs.declared.faults.StepFault.{StepFault}
use Rattle.playing.specs.Calls.{Situation, Wrote}
use Rattle.playing.proofs.Once.{one_write, one_feed, one_move}
use Rattle.playing.specs.declared.verdict.Verdict.{Verdict}
use Rattle.playing.specs.declared.verdict.Verdict.TheVariants.{Kept, Broken}
use Rattle.replays.specs.declared.faults.BenchFault.{BenchFault}
use Rattle.replays.specs.declared.faults.BenchFault.TheVariants.{Write, Step}
use Rattle.replays.specs.declared.faults.ReplayFault.{ReplayFault}
use Rattle.replays.specs.declared.faults.ReplayFault.TheVariants.{Bench}
use Rattle.replays.specs.Lines.{Line, node, step, rec, HasRoom, more_nodes, more_steps}
use Rattle.replays.specs.Replaying.{Written, Stepped, Made, Refused, Answers, ended, cut, wrong, full, stopped, goes}
use Rattle.replays.specs.Laws.{OneReplay}

-- the number of two bytes
abbrev number_at : List ℕ → ℕ → ℕ
number_at t i = 256 * get_or t (suc i) 0 + get_or t i 0

word_back : (m : ℕ) → 256 * (m / 256) + m % 256 ≡ m
word_back m = div-add-mod m 256

-- the line of a record; of one that is no line, any
abbrev line_of : Rec → Line
line_of x =
    let t = x.body in
    get_or (node (number_at t 0) (number_at t 2) (number_at t 4) ∷ step (number_at t 0) (number_at t 2) ∷ []) (x.kind - 17) (step 0 0)

line_back : (l : Line) → line_of (rec l) ≡ l
line_back (node k a b) = cc (word_back k, word_back a, word_back b)
line_back (step s q) = cc (word_back s, word_back q)

pub line_one : (l m : Line) → rec l ≡ rec m → l ≡ m
line_one l m e = told rec line_of line_back l m e

-- what stands at the front of bytes
same_front : (bs m n : List ℕ) (x y : Rec) → bs ≡ encode x ++ m → bs ≡ encode y ++ n → (x ≡ y) × (m ≡ n)
same_front bs m n x y p q = one_front x y m n (sym p ∙ q)

same_line : (bs m n : List ℕ) (k l : Line) → bs ≡ encode (rec k) ++ m → bs ≡ encode (rec l) ++ n → (k ≡ l) × (m ≡ n)
same_line bs m n k l p q = let f = same_front bs m n (rec k) (rec l) p q in (line_one k l f.0, f.1)

nil_front : (bs m : List ℕ) (x : Rec) → bs ≡ [] → bs ≡ encode x ++ m → ⊥
nil_front bs m x e f = let l = shorter bs m x f in omega (arith, l, ap length e)

judged_one : (S : Protocol) (u : Situation) (v w : Verdict) → VerdictOf S u.state.run v → VerdictOf S u.state.run w → v ≡ w
judged_one S u Kept Kept a b = refl
judged_one S u Kept Broken a b = absurd (a b)
judged_one S u Broken Kept a b = absurd (b a)
judged_one S u Broken Broken a b = refl

-- a call of a line is answered in one way
written_one : (names : ℕ) (u : Situation) (k a b : ℕ) (r q : Result NodeNo WriteFault) (v w : Situation) → Written names u k a b r v → Written names u k a b q w → (r ≡ q) × (v ≡ w)
written_one names u k a b r q v w (inl x) (inl y) =
    let e = node_entry_one x.0 y.0 (x.1 ∙ sym y.1) in
    one_write names u y.0 r q v w (subst (λ (n : Node). Wrote names u n r v) e x.2) y.2
written_one names u k a b r q v w (inl x) (inr y) = absurd (y.0 x.0 x.1)
written_one names u k a b r q v w (inr x) (inl y) = absurd (x.0 y.0 y.1)
written_one names u k a b r q v w (inr x) (inr y) = (x.1 ∙ sym y.1, x.2 ∙ sym y.2)

stepped_one : (S : Protocol) (u : Situation) (s q : ℕ) (r o : Result (Unit {0}) StepFault) (v w : Situation) → Stepped S u s q r v → Stepped S u s q o w → (r ≡ o) × (v ≡ w)
stepped_one S u s q r o v w (inl x) (inl y) = one_move S u s r o v w x.1 y.1
stepped_one S u s q r o v w (inl x) (inr y) = absurd (y.0 x.0)
stepped_one S u s q r o v w (inr x) (inl y) = absurd (x.0 y.0)
stepped_one S u s q r o v w (inr x) (inr y) = one_feed S u s q r o v w x.1 y.1

made_one : (names : ℕ) (S : Protocol) (l : Line) (u v w : Situation) → Made names S l u v → Made names S l u w → v ≡ w
made_one names S (node k a b) u v w x y = (written_one names u k a b (Ok x.0) (Ok y.0) v w x.1 y.1).1
made_one names S (step s q) u v w x y = (stepped_one S u s q (Ok tt) (Ok tt) v w x y).1

abbrev pub IsOk : {T E : Type 0} → Result T E → Type 0
IsOk (Ok t) = Unit {0}
IsOk (Err e) = ⊥

abbrev fault_of : {T E : Type 0} → E → Result T E → E
fault_of d (Ok t) = d
fault_of d (Err e) = e

made_refused : (names : ℕ) (S : Protocol) (l : Line) (u v : Situation) (f : BenchFault) → Made names S l u v → Refused names S l u f → ⊥
made_refused names S (node k a b) u v (Write f) x y = subst IsOk (written_one names u k a b (Ok x.0) (Err f) v u x.1 y).0 tt
made_refused names S (node k a b) u v (Step f) x y = y
made_refused names S (step s q) u v (Write f) x y = y
made_refused names S (step s q) u v (Step f) x y = subst IsOk (stepped_one S u s q (Ok tt) (Err f) v u x y).0 tt

refused_one : (names : ℕ) (S : Protocol) (l : Line) (u : Situation) (f g : BenchFault) → Refused names S l u f → Refused names S l u g → f ≡ g
refused_one names S (node k a b) u (Write f) (Write g) x y = ap (λ r. Write (fault_of f r)) (written_one names u k a b (Err f) (Err g) u u x y).0
refused_one names S (node k a b) u (Write f) (Step g) x y = absurd y
refused_one names S (node k a b) u (Step f) g x y = absurd x
refused_one names S (step s q) u (Write f) g x y = absurd x
refused_one names S (step s q) u (Step f) (Write g) x y = absurd y
refused_one names S (step s q) u (Step f) (Step g) x y = ap (λ r. Step (fault_of f r)) (stepped_one S u s q (Err f) (Err g) u u x y).0

one : (names : ℕ) (S : Protocol) {n s : ℕ} {u : Situation} {bs : List ℕ} {r o : Result Verdict ReplayFault} → Answers names S n s u bs r → Answers names S n s u bs o → r ≡ o
one names S {n} {s} {u} {bs} {r} {o} (ended v1 e1 j1 q1) (ended v2 e2 j2 q2) = q1 ∙ ap Ok (judged_one S u v1 v2 j1 j2) ∙ sym q2
one names S {n} {s} {u} {bs} {r} {o} (ended v1 e1 j1 q1) (cut c2 q2) = absurd (c2.0 e1)
one names S {n} {s} {u} {bs} {r} {o} (ended v1 e1 j1 q1) (wrong x2 m2 e2 w2 q2) = absurd (nil_front bs m2 x2 e1 e2)
one names S {n} {s} {u} {bs} {r} {o} (ended v1 e1 j1 q1) (full l2 m2 e2 o2 h2 q2) = absurd (nil_front bs m2 (rec l2) e1 e2)
one names S {n} {s} {u} {bs} {r} {o} (ended v1 e1 j1 q1) (stopped l2 m2 f2 e2 o2 h2 z2 q2) = absurd (nil_front bs m2 (rec l2) e1 e2)
one names S {n} {s} {u} {bs} {r} {o} (ended v1 e1 j1 q1) (goes l2 m2 t2 e2 o2 h2 z2 a2) = absurd (nil_front bs m2 (rec l2) e1 e2)
one names S {n} {s} {u} {bs} {r} {o} (cut c1 q1) (ended v2 e2 j2 q2) = absurd (c1.0 e2)
one names S {n} {s} {u} {bs} {r} {o} (cut c1 q1) (cut c2 q2) = q1 ∙ sym q2
one names S {n} {s} {u} {bs} {r} {o} (cut c1 q1) (wrong x2 m2 e2 w2 q2) = absurd (c1.1 x2 m2 e2)
one names S {n} {s} {u} {bs} {r} {o} (cut c1 q1) (full l2 m2 e2 o2 h2 q2) = absurd (c1.1 (rec l2) m2 e2)
one names S {n} {s} {u} {bs} {r} {o} (cut c1 q1) (stopped l2 m2 f2 e2 o2 h2 z2 q2) = absurd (c1.1 (rec l2) m2 e2)
one names S {n} {s} {u} {bs} {r} {o} (cut c1 q1) (goes l2 m2 t2 e2 o2 h2 z2 a2) = absurd (c1.1 (rec l2) m2 e2)
one names S {n} {s} {u} {bs} {r} {o} (wrong x1 m1 e1 w1 q1) (ended v2 e2 j2 q2) = absurd (nil_front bs m1 x1 e2 e1)
one names S {n} {s} {u} {bs} {r} {o} (wrong x1 m1 e1 w1 q1) (cut c2 q2) = absurd (c2.1 x1 m1 e1)
one names S {n} {s} {u} {bs} {r} {o} (wrong x1 m1 e1 w1 q1) (wrong x2 m2 e2 w2 q2) = q1 ∙ sym q2
one names S {n} {s} {u} {bs} {r} {o} (wrong x1 m1 e1 w1 q1) (full l2 m2 e2 o2 h2 q2) = absurd (w1 l2 (sym (same_front bs m1 m2 x1 (rec l2) e1 e2).0) o2)
one names S {n} {s} {u} {bs} {r} {o} (wrong x1 m1 e1 w1 q1) (stopped l2 m2 f2 e2 o2 h2 z2 q2) = absurd (w1 l2 (sym (same_front bs m1 m2 x1 (rec l2) e1 e2).0) o2)
one names S {n} {s} {u} {bs} {r} {o} (wrong x1 m1 e1 w1 q1) (goes l2 m2 t2 e2 o2 h2 z2 a2) = absurd (w1 l2 (sym (same_front bs m1 m2 x1 (rec l2) e1 e2).0) o2)
one names S {n} {s} {u} {bs} {r} {o} (full l1 m1 e1 o1 h1 q1) (ended v2 e2 j2 q2) = absurd (nil_front bs m1 (rec l1) e2 e1)
one names S {n} {s} {u} {bs} {r} {o} (full l1 m1 e1 o1 h1 q1) (cut c2 q2) = absurd (c2.1 (rec l1) m1 e1)
one names S {n} {s} {u} {bs} {r} {o} (full l1 m1 e1 o1 h1 q1) (wrong x2 m2 e2 w2 q2) = absurd (w2 l1 (sym (same_front bs m2 m1 x2 (rec l1) e2 e1).0) o1)
one names S {n} {s} {u} {bs} {r} {o} (full l1 m1 e1 o1 h1 q1) (full l2 m2 e2 o2 h2 q2) = q1 ∙ sym q2
one names S {n} {s} {u} {bs} {r} {o} (full l1 m1 e1 o1 h1 q1) (stopped l2 m2 f2 e2 o2 h2 z2 q2) = absurd (h1 (subst (HasRoom n s) (sym (same_line bs m1 m2 l1 l2 e1 e2).0) h2))
one names S {n} {s} {u} {bs} {r} {o} (full l1 m1 e1 o1 h1 q1) (goes l2 m2 t2 e2 o2 h2 z2 a2) = absurd (h1 (subst (HasRoom n s) (sym (same_line bs m1 m2 l1 l2 e1 e2).0) h2))
one names S {n} {s} {u} {bs} {r} {o} (stopped l1 m1 f1 e1 o1 h1 z1 q1) (ended v2 e2 j2 q2) = absurd (nil_front bs m1 (rec l1) e2 e1)
one names S {n} {s} {u} {bs} {r} {o} (stopped l1 m1 f1 e1 o1 h1 z1 q1) (cut c2 q2) = absurd (c2.1 (rec l1) m1 e1)
one names S {n} {s} {u} {bs} {r} {o} (stopped l1 m1 f1 e1 o1 h1 z1 q1) (wrong x2 m2 e2 w2 q2) = absurd (w2 l1 (sym (same_front bs m2 m1 x2 (rec l1) e2 e1).0) o1)
one names S {n} {s} {u} {bs} {r} {o} (stopped l1 m1 f1 e1 o1 h1 z1 q1) (full l2 m2 e2 o2 h2 q2) = absurd (h2 (subst (HasRoom n s) (same_line bs m1 m2 l1 l2 e1 e2).0 h1))
one names S {n} {s} {u} {bs} {r} {o} (stopped l1 m1 f1 e1 o1 h1 z1 q1) (stopped l2 m2 f2 e2 o2 h2 z2 q2) = q1 ∙ ap (λ (f : BenchFault). Err (Bench f (n + s))) (refused_one names S l2 u f1 f2 (subst (λ (l : Line). Refused names S l u f1) (same_line bs m1 m2 l1 l2 e1 e2).0 z1) z2) ∙ sym q2
one names S {n} {s} {u} {bs} {r} {o} (stopped l1 m1 f1 e1 o1 h1 z1 q1) (goes l2 m2 t2 e2 o2 h2 z2 a2) = absurd (made_refused names S l2 u t2 f1 z2 (subst (λ (l : Line). Refused names S l u f1) (same_line bs m1 m2 l1 l2 e1 e2).0 z1))
one names S {n} {s} {u} {bs} {r} {o} (goes l1 m1 t1 e1 o1 h1 z1 a1) (ended v2 e2 j2 q2) = absurd (nil_front bs m1 (rec l1) e2 e1)
one names S {n} {s} {u} {bs} {r} {o} (goes l1 m1 t1 e1 o1 h1 z1 a1) (cut c2 q2) = absurd (c2.1 (rec l1) m1 e1)
one names S {n} {s} {u} {bs} {r} {o} (goes l1 m1 t1 e1 o1 h1 z1 a1) (wrong x2 m2 e2 w2 q2) = absurd (w2 l1 (sym (same_front bs m2 m1 x2 (rec l1) e2 e1).0) o1)
one names S {n} {s} {u} {bs} {r} {o} (goes l1 m1 t1 e1 o1 h1 z1 a1) (full l2 m2 e2 o2 h2 q2) = absurd (h2 (subst (HasRoom n s) (same_line bs m1 m2 l1 l2 e1 e2).0 h1))
one names S {n} {s} {u} {bs} {r} {o} (goes l1 m1 t1 e1 o1 h1 z1 a1) (stopped l2 m2 f2 e2 o2 h2 z2 q2) = absurd (made_refused names S l1 u t1 f2 z1 (subst (λ (l : Line). Refused names S l u f2) (sym (same_line bs m1 m2 l1 l2 e1 e2).0) z2))
one names S {n} {s} {u} {bs} {r} {o} (goes l1 m1 t1 e1 o1 h1 z1 a1) (goes l2 m2 t2 e2 o2 h2 z2 a2) =
    let p = same_line bs m1 m2 l1 l2 e1 e2 in
    let t = made_one names S l1 u t2 t1 (subst (λ (l : Line). Made names S l u t2) (sym p.0) z2) z1 in
    one names S a1
    (subst (λ (x : Situation). Answers names S (more_nodes l1 n) (more_steps l1 s) x m1 o) t
    (subst (λ (m : List ℕ). Answers names S (more_nodes l1 n) (more_steps l1 s) t2 m o) (sym p.1)
    (subst (λ (l : Line). Answers names S (more_nodes l n) (more_steps l s) t2 m2 o) (sym p.0) a2)))

pub one_replay : OneReplay
one_replay names S bs r o a b = one names S a b
