-- Each call of a bench has one answer.
use Rattle.std.proofs.Common.{◌≡◌, ℕ, List, [], ◌∷◌, length, Ok, Err, sym, refl, ap, ap₂, ◌∙◌, subst, arith}
use mathlib.Core.Option.{some-injective}
use Rattle.std.proofs.lemmas.List.{get_or_past}
use Rattle.terms.specs.Terms.{Term, pair, seal}
use Rattle.terms.specs.Nodes.{at}
use Rattle.terms.specs.declared.number.NodeNo.{NodeNo}
use Rattle.protocol.specs.Strands.{TermStep, input, output, opens, splits, same, At, first, second}
use Rattle.runs.specs.Protocols.{TermAction, Protocol, strand}
use Rattle.runs.specs.Runs.{State, Values, Means, a_name, an_env, a_value, a_pair, a_seal, bind, sent, Does, fed, put_out, opened, halved, agreed, messages, Moves, moved}
use Rattle.runs.proofs.Apartness.{place_below}
use Rattle.runs.proofs.Bridging.{at_unique}
use Rattle.playing.specs.declared.faults.WriteFault.TheVariants as w
use Rattle.playing.specs.declared.faults.StepFault.TheVariants as s
use Rattle.playing.specs.Calls.{Situation, IsInput, Next, NoSuchStrand, Done, feeding}
use Rattle.playing.specs.Laws.{OneWrite, OneFeed, OneMove}

-- a term has one value
pub means_one : {v : Values} {t M N : Term} → Means v t M → Means v t N → M ≡ N
means_one (a_name n) (a_name _) = refl
means_one (an_env n) (an_env _) = refl
means_one (a_value e) (a_value f) = some-injective _ _ (sym e ∙ f)
means_one (a_pair a b) (a_pair c d) = ap₂ pair (means_one a c) (means_one b d)
means_one (a_seal a b) (a_seal c d) = ap₂ seal (means_one a c) (means_one b d)

-- a step that is no input does one thing
pub does_one : {v : Values} {K : List Term} {p : TermStep} → ¬ IsInput p → {w x : Values} {r q : List TermAction} → Does v K p w r → Does v K p x q → (w ≡ x) × (r ≡ q)
does_one n (fed M c m d) e = absurd (n tt)
does_one n (put_out {l = l} a m) (put_out b k) = (refl, ap (λ (M : Term). sent l M ∷ []) (means_one a b))
does_one {v = v} n (opened {x = x} a b) (opened c d) = (ap (λ (M : Term). bind v x (first M)) (means_one a c), refl)
does_one {v = v} n (halved {x = x} {y = y} a) (halved b) = (ap (λ (M : Term). bind (bind v x (first M)) y (second M)) (means_one a b), refl)
does_one n (agreed a b) (agreed c d) = (refl, refl)

-- strand k has one next step at most, and none where there is no such strand or it has none left
next_one : (S : Protocol) (u : Situation) (k : ℕ) (p q : TermStep) → Next S u k p → Next S u k q → p ≡ q
next_one S u k p q a b = at_unique S k (u.state.next k) k (u.state.next k) q p b a refl refl

no_next : (S : Protocol) (u : Situation) (k : ℕ) (p : TermStep) → NoSuchStrand S k → Next S u k p → ⊥
no_next S u k p h a =
    let e : strand S k ≡ [] = get_or_past S.strands k [] h in
    let l = place_below (strand S k) (u.state.next k) p a in
    omega (arith, l, ap length e)

done_next : (S : Protocol) (u : Situation) (k : ℕ) (p : TermStep) → Done S u k → Next S u k p → ⊥
done_next S u k p h a = let l = place_below (strand S k) (u.state.next k) p a in omega (arith, l, h.1)

none_done : (S : Protocol) (u : Situation) (k : ℕ) → NoSuchStrand S k → Done S u k → ⊥
none_done S u k h d = omega (arith, h, d.0)

input_both : (S : Protocol) (u : Situation) (k : ℕ) (p q : TermStep) → Next S u k p → IsInput p → Next S u k q → ¬ IsInput q → ⊥
input_both S u k p q a i b n = n (subst IsInput (next_one S u k p q a b) i)

abbrev label_of : TermStep → ℕ
label_of (input l x) = l
label_of (output l n) = l
label_of (opens t x k) = 0
label_of (splits t x y) = 0
label_of (same n m) = 0

abbrev bound_by : TermStep → ℕ
bound_by (input l x) = x
bound_by (output l n) = 0
bound_by (opens t x k) = x
bound_by (splits t x y) = x
bound_by (same n m) = 0

-- a move leads to one state
moves_one : (S : Protocol) (st : State) (k : ℕ) (p : TermStep) → At S.strands k (st.next k) p → ¬ IsInput p → {a b : State} → Moves S st k a → Moves S st k b → a ≡ b
moves_one S st k p at n (moved {p = q} {v = v} {more = r} c d) (moved {p = o} {v = w} {more = m} e f) =
    let g : q ≡ p = at_unique S k (st.next k) k (st.next k) p q at c refl refl in
    let h : o ≡ p = at_unique S k (st.next k) k (st.next k) p o at e refl refl in
    let x = does_one n (subst (λ (z : TermStep). Does st.value (messages st.run) z v r) g d) (subst (λ (z : TermStep). Does st.value (messages st.run) z w m) h f) in
    rw (x.0, x.1)

-- what is written is answered in one way
pub one_write : OneWrite
one_write names u n (Ok p) (Ok q) v t x y = (ap Ok (ap {A = ℕ} {B = NodeNo} (λ k. record { 0 = k }) (x.2 ∙ sym y.2)), x.3 ∙ sym y.3)
one_write names u n (Ok p) (Err w.Unlawful) v t x y = absurd (y.0 x.0)
one_write names u n (Ok p) (Err w.Full) v t x y = absurd (omega (arith, x.1, y.1))
one_write names u n (Err w.Unlawful) (Ok q) v t x y = absurd (x.0 y.0)
one_write names u n (Err w.Unlawful) (Err w.Unlawful) v t x y = (refl, x.1 ∙ sym y.1)
one_write names u n (Err w.Unlawful) (Err w.Full) v t x y = absurd (x.0 y.0)
one_write names u n (Err w.Full) (Ok q) v t x y = absurd (omega (arith, y.1, x.1))
one_write names u n (Err w.Full) (Err w.Unlawful) v t x y = absurd (y.0 x.0)
one_write names u n (Err w.Full) (Err w.Full) v t x y = (refl, x.2 ∙ sym y.2)

-- what is fed is answered in one way
pub one_feed : OneFeed
one_feed S u k q (Ok r) (Ok o) v t x y = let e = next_one S u k (input x.0 x.1) (input y.0 y.1) x.2 y.2 in (refl, x.5 ∙ ap₂ (λ (l z : ℕ). feeding u k l z (at u.written q)) (ap label_of e) (ap bound_by e) ∙ sym y.5)
one_feed S u k q (Ok r) (Err s.NoStrand) v t x y = absurd (no_next S u k (input x.0 x.1) y.0 x.2)
one_feed S u k q (Ok r) (Err s.Finished) v t x y = absurd (done_next S u k (input x.0 x.1) y.0 x.2)
one_feed S u k q (Ok r) (Err s.WrongCall) v t x y = absurd (input_both S u k (input x.0 x.1) y.0 x.2 tt y.1 y.2)
one_feed S u k q (Ok r) (Err s.NotWritten) v t x y = absurd (omega (arith, y.3, x.3))
one_feed S u k q (Ok r) (Err s.NotDerivable) v t x y = absurd (y.4 x.4)
one_feed S u k q (Ok r) (Err s.Stuck) v t x y = absurd y
one_feed S u k q (Err s.NoStrand) (Ok o) v t x y = absurd (no_next S u k (input y.0 y.1) x.0 y.2)
one_feed S u k q (Err s.NoStrand) (Err s.NoStrand) v t x y = (refl, x.1 ∙ sym (y.1))
one_feed S u k q (Err s.NoStrand) (Err s.Finished) v t x y = absurd (none_done S u k x.0 y.0)
one_feed S u k q (Err s.NoStrand) (Err s.WrongCall) v t x y = absurd (no_next S u k y.0 x.0 y.1)
one_feed S u k q (Err s.NoStrand) (Err s.NotWritten) v t x y = absurd (no_next S u k y.0 x.0 y.1)
one_feed S u k q (Err s.NoStrand) (Err s.NotDerivable) v t x y = absurd (no_next S u k y.0 x.0 y.1)
one_feed S u k q (Err s.NoStrand) (Err s.Stuck) v t x y = absurd y
one_feed S u k q (Err s.Finished) (Ok o) v t x y = absurd (done_next S u k (input y.0 y.1) x.0 y.2)
one_feed S u k q (Err s.Finished) (Err s.NoStrand) v t x y = absurd (none_done S u k y.0 x.0)
one_feed S u k q (Err s.Finished) (Err s.Finished) v t x y = (refl, x.1 ∙ sym (y.1))
one_feed S u k q (Err s.Finished) (Err s.WrongCall) v t x y = absurd (done_next S u k y.0 x.0 y.1)
one_feed S u k q (Err s.Finished) (Err s.NotWritten) v t x y = absurd (done_next S u k y.0 x.0 y.1)
one_feed S u k q (Err s.Finished) (Err s.NotDerivable) v t x y = absurd (done_next S u k y.0 x.0 y.1)
one_feed S u k q (Err s.Finished) (Err s.Stuck) v t x y = absurd y
one_feed S u k q (Err s.WrongCall) (Ok o) v t x y = absurd (input_both S u k (input y.0 y.1) x.0 y.2 tt x.1 x.2)
one_feed S u k q (Err s.WrongCall) (Err s.NoStrand) v t x y = absurd (no_next S u k x.0 y.0 x.1)
one_feed S u k q (Err s.WrongCall) (Err s.Finished) v t x y = absurd (done_next S u k x.0 y.0 x.1)
one_feed S u k q (Err s.WrongCall) (Err s.WrongCall) v t x y = (refl, x.3 ∙ sym (y.3))
one_feed S u k q (Err s.WrongCall) (Err s.NotWritten) v t x y = absurd (input_both S u k y.0 x.0 y.1 y.2 x.1 x.2)
one_feed S u k q (Err s.WrongCall) (Err s.NotDerivable) v t x y = absurd (input_both S u k y.0 x.0 y.1 y.2 x.1 x.2)
one_feed S u k q (Err s.WrongCall) (Err s.Stuck) v t x y = absurd y
one_feed S u k q (Err s.NotWritten) (Ok o) v t x y = absurd (omega (arith, x.3, y.3))
one_feed S u k q (Err s.NotWritten) (Err s.NoStrand) v t x y = absurd (no_next S u k x.0 y.0 x.1)
one_feed S u k q (Err s.NotWritten) (Err s.Finished) v t x y = absurd (done_next S u k x.0 y.0 x.1)
one_feed S u k q (Err s.NotWritten) (Err s.WrongCall) v t x y = absurd (input_both S u k x.0 y.0 x.1 x.2 y.1 y.2)
one_feed S u k q (Err s.NotWritten) (Err s.NotWritten) v t x y = (refl, x.4 ∙ sym (y.4))
one_feed S u k q (Err s.NotWritten) (Err s.NotDerivable) v t x y = absurd (omega (arith, x.3, y.3))
one_feed S u k q (Err s.NotWritten) (Err s.Stuck) v t x y = absurd y
one_feed S u k q (Err s.NotDerivable) (Ok o) v t x y = absurd (x.4 y.4)
one_feed S u k q (Err s.NotDerivable) (Err s.NoStrand) v t x y = absurd (no_next S u k x.0 y.0 x.1)
one_feed S u k q (Err s.NotDerivable) (Err s.Finished) v t x y = absurd (done_next S u k x.0 y.0 x.1)
one_feed S u k q (Err s.NotDerivable) (Err s.WrongCall) v t x y = absurd (input_both S u k x.0 y.0 x.1 x.2 y.1 y.2)
one_feed S u k q (Err s.NotDerivable) (Err s.NotWritten) v t x y = absurd (omega (arith, y.3, x.3))
one_feed S u k q (Err s.NotDerivable) (Err s.NotDerivable) v t x y = (refl, x.5 ∙ sym (y.5))
one_feed S u k q (Err s.NotDerivable) (Err s.Stuck) v t x y = absurd y
one_feed S u k q (Err s.Stuck) (Ok o) v t x y = absurd x
one_feed S u k q (Err s.Stuck) (Err s.NoStrand) v t x y = absurd x
one_feed S u k q (Err s.Stuck) (Err s.Finished) v t x y = absurd x
one_feed S u k q (Err s.Stuck) (Err s.WrongCall) v t x y = absurd x
one_feed S u k q (Err s.Stuck) (Err s.NotWritten) v t x y = absurd x
one_feed S u k q (Err s.Stuck) (Err s.NotDerivable) v t x y = absurd x
one_feed S u k q (Err s.Stuck) (Err s.Stuck) v t x y = absurd x

same_situation : (v t : Situation) → v.state ≡ t.state → v.written ≡ t.written → v ≡ t
same_situation v t e f = ap₂ {A = State} {B = List Term} (λ a b. record { state = a; written = b }) e f

-- and so is a move
pub one_move : OneMove
one_move S u k (Ok r) (Ok o) v t x y = (refl, same_situation v t (moves_one S u.state k x.0 x.1 x.2 x.3 y.3) (x.4 ∙ sym y.4))
one_move S u k (Ok r) (Err s.NoStrand) v t x y = absurd (no_next S u k x.0 y.0 x.1)
one_move S u k (Ok r) (Err s.Finished) v t x y = absurd (done_next S u k x.0 y.0 x.1)
one_move S u k (Ok r) (Err s.WrongCall) v t x y = absurd (input_both S u k y.0 x.0 y.1 y.2 x.1 x.2)
one_move S u k (Ok r) (Err s.NotWritten) v t x y = absurd y
one_move S u k (Ok r) (Err s.NotDerivable) v t x y = absurd y
one_move S u k (Ok r) (Err s.Stuck) v t x y = absurd (y.3 v.state x.3)
one_move S u k (Err s.NoStrand) (Ok o) v t x y = absurd (no_next S u k y.0 x.0 y.1)
one_move S u k (Err s.NoStrand) (Err s.NoStrand) v t x y = (refl, x.1 ∙ sym (y.1))
one_move S u k (Err s.NoStrand) (Err s.Finished) v t x y = absurd (none_done S u k x.0 y.0)
one_move S u k (Err s.NoStrand) (Err s.WrongCall) v t x y = absurd (no_next S u k y.0 x.0 y.1)
one_move S u k (Err s.NoStrand) (Err s.NotWritten) v t x y = absurd y
one_move S u k (Err s.NoStrand) (Err s.NotDerivable) v t x y = absurd y
one_move S u k (Err s.NoStrand) (Err s.Stuck) v t x y = absurd (no_next S u k y.0 x.0 y.1)
one_move S u k (Err s.Finished) (Ok o) v t x y = absurd (done_next S u k y.0 x.0 y.1)
one_move S u k (Err s.Finished) (Err s.NoStrand) v t x y = absurd (none_done S u k y.0 x.0)
one_move S u k (Err s.Finished) (Err s.Finished) v t x y = (refl, x.1 ∙ sym (y.1))
one_move S u k (Err s.Finished) (Err s.WrongCall) v t x y = absurd (done_next S u k y.0 x.0 y.1)
one_move S u k (Err s.Finished) (Err s.NotWritten) v t x y = absurd y
one_move S u k (Err s.Finished) (Err s.NotDerivable) v t x y = absurd y
one_move S u k (Err s.Finished) (Err s.Stuck) v t x y = absurd (done_next S u k y.0 x.0 y.1)
one_move S u k (Err s.WrongCall) (Ok o) v t x y = absurd (input_both S u k x.0 y.0 x.1 x.2 y.1 y.2)
one_move S u k (Err s.WrongCall) (Err s.NoStrand) v t x y = absurd (no_next S u k x.0 y.0 x.1)
one_move S u k (Err s.WrongCall) (Err s.Finished) v t x y = absurd (done_next S u k x.0 y.0 x.1)
one_move S u k (Err s.WrongCall) (Err s.WrongCall) v t x y = (refl, x.3 ∙ sym (y.3))
one_move S u k (Err s.WrongCall) (Err s.NotWritten) v t x y = absurd y
one_move S u k (Err s.WrongCall) (Err s.NotDerivable) v t x y = absurd y
one_move S u k (Err s.WrongCall) (Err s.Stuck) v t x y = absurd (input_both S u k x.0 y.0 x.1 x.2 y.1 y.2)
one_move S u k (Err s.NotWritten) (Ok o) v t x y = absurd x
one_move S u k (Err s.NotWritten) (Err s.NoStrand) v t x y = absurd x
one_move S u k (Err s.NotWritten) (Err s.Finished) v t x y = absurd x
one_move S u k (Err s.NotWritten) (Err s.WrongCall) v t x y = absurd x
one_move S u k (Err s.NotWritten) (Err s.NotWritten) v t x y = absurd x
one_move S u k (Err s.NotWritten) (Err s.NotDerivable) v t x y = absurd x
one_move S u k (Err s.NotWritten) (Err s.Stuck) v t x y = absurd x
one_move S u k (Err s.NotDerivable) (Ok o) v t x y = absurd x
one_move S u k (Err s.NotDerivable) (Err s.NoStrand) v t x y = absurd x
one_move S u k (Err s.NotDerivable) (Err s.Finished) v t x y = absurd x
one_move S u k (Err s.NotDerivable) (Err s.WrongCall) v t x y = absurd x
one_move S u k (Err s.NotDerivable) (Err s.NotWritten) v t x y = absurd x
one_move S u k (Err s.NotDerivable) (Err s.NotDerivable) v t x y = absurd x
one_move S u k (Err s.NotDerivable) (Err s.Stuck) v t x y = absurd x
one_move S u k (Err s.Stuck) (Ok o) v t x y = absurd (x.3 t.state y.3)
one_move S u k (Err s.Stuck) (Err s.NoStrand) v t x y = absurd (no_next S u k x.0 y.0 x.1)
one_move S u k (Err s.Stuck) (Err s.Finished) v t x y = absurd (done_next S u k x.0 y.0 x.1)
one_move S u k (Err s.Stuck) (Err s.WrongCall) v t x y = absurd (input_both S u k y.0 x.0 y.1 y.2 x.1 x.2)
one_move S u k (Err s.Stuck) (Err s.NotWritten) v t x y = absurd y
one_move S u k (Err s.Stuck) (Err s.NotDerivable) v t x y = absurd y
one_move S u k (Err s.Stuck) (Err s.Stuck) v t x y = (refl, x.4 ∙ sym (y.4))
