-- The calls alone say what is answered: one reply to a call, one list of replies to a row.
use Rattle.std.proofs.Common.{◌≡◌, ℕ, ◌+◌, ◌<◌, length, get_or, List, [], ◌∷◌, ◌++◌, take, Some, None, Ok, Err, Option, Result, sym, refl, ap, ◌∙◌, subst, ap₂, arith}
use Rattle.std.proofs.lemmas.Bool.Decides.{same_from_decides}
use Rattle.std.proofs.lemmas.List.{take_more}
use Rattle.terms.specs.Nodes.{Found}
use Rattle.terms.specs.declared.node.Node.{Node}
use Rattle.terms.specs.declared.number.NodeNo.{NodeNo}
use Rattle.notebook.specs.Calls.{Put, Noted}
use Rattle.notebook.specs.Replies.{Replies, Plays, OnePlay}
use Rattle.notebook.specs.declared.faults.PutFault.{PutFault}
use Rattle.notebook.specs.declared.faults.PutFault.TheVariants as put
use Rattle.notebook.specs.declared.faults.NoteFault.{NoteFault}
use Rattle.notebook.specs.declared.faults.NoteFault.TheVariants as note
use Rattle.notebook.specs.declared.calls.Call.{Call}
use Rattle.notebook.specs.declared.calls.Call.TheVariants as call
use Rattle.notebook.specs.declared.calls.Reply.{Reply}
use Rattle.notebook.specs.declared.calls.Reply.TheVariants as reply

-- two outcomes that are one
abbrev Same : {R : Type 0} → R → R → List Node → List ℕ → List Node → List ℕ → Type 0
Same r q ns₁ ys₁ ns₂ ys₂ = (r ≡ q) × (ns₁ ≡ ns₂) × (ys₁ ≡ ys₂)

same_place : (p q : NodeNo) → p.0 ≡ q.0 → p ≡ q
same_place p q e = ap {A = ℕ} {B = NodeNo} (λ m. record { 0 = m }) e

one_put : (n : Node) (ns : List Node) (ys : List ℕ) (r q : Result NodeNo PutFault) (ns₁ ns₂ : List Node) (ys₁ ys₂ : List ℕ) → Put ns ys n r ns₁ ys₁ → Put ns ys n q ns₂ ys₂ → Same r q ns₁ ys₁ ns₂ ys₂
one_put n ns ys (Ok p) (Ok p') ns₁ ns₂ ys₁ ys₂ a b = (ap Ok (same_place p p' (a.2 ∙ sym b.2)), a.3 ∙ sym b.3, a.4 ∙ sym b.4)
one_put n ns ys (Ok p) (Err put.Unlawful) ns₁ ns₂ ys₁ ys₂ a b = absurd (b.0 a.0)
one_put n ns ys (Ok p) (Err put.Full) ns₁ ns₂ ys₁ ys₂ a b = absurd (omega arith)
one_put n ns ys (Err put.Unlawful) (Ok p) ns₁ ns₂ ys₁ ys₂ a b = absurd (a.0 b.0)
one_put n ns ys (Err put.Unlawful) (Err put.Unlawful) ns₁ ns₂ ys₁ ys₂ a b = (refl, a.1 ∙ sym b.1, a.2 ∙ sym b.2)
one_put n ns ys (Err put.Unlawful) (Err put.Full) ns₁ ns₂ ys₁ ys₂ a b = absurd (a.0 b.0)
one_put n ns ys (Err put.Full) (Ok p) ns₁ ns₂ ys₁ ys₂ a b = absurd (omega arith)
one_put n ns ys (Err put.Full) (Err put.Unlawful) ns₁ ns₂ ys₁ ys₂ a b = absurd (b.0 a.0)
one_put n ns ys (Err put.Full) (Err put.Full) ns₁ ns₂ ys₁ ys₂ a b = (refl, a.2 ∙ sym b.2, a.3 ∙ sym b.3)

one_note : (p : NodeNo) (ns : List Node) (ys : List ℕ) (r q : Result (Unit {0}) NoteFault) (ns₁ ns₂ : List Node) (ys₁ ys₂ : List ℕ) → Noted ns ys p r ns₁ ys₁ → Noted ns ys p q ns₂ ys₂ → Same r q ns₁ ys₁ ns₂ ys₂
one_note p ns ys (Ok u) (Ok v) ns₁ ns₂ ys₁ ys₂ a b = (refl, a.2 ∙ sym b.2, a.3 ∙ sym b.3)
one_note p ns ys (Ok u) (Err note.NotHeld) ns₁ ns₂ ys₁ ys₂ a b = absurd (omega arith)
one_note p ns ys (Ok u) (Err note.Full) ns₁ ns₂ ys₁ ys₂ a b = absurd (omega arith)
one_note p ns ys (Err note.NotHeld) (Ok v) ns₁ ns₂ ys₁ ys₂ a b = absurd (omega arith)
one_note p ns ys (Err note.NotHeld) (Err note.NotHeld) ns₁ ns₂ ys₁ ys₂ a b = (refl, a.1 ∙ sym b.1, a.2 ∙ sym b.2)
one_note p ns ys (Err note.NotHeld) (Err note.Full) ns₁ ns₂ ys₁ ys₂ a b = absurd (omega arith)
one_note p ns ys (Err note.Full) (Ok v) ns₁ ns₂ ys₁ ys₂ a b = absurd (omega arith)
one_note p ns ys (Err note.Full) (Err note.NotHeld) ns₁ ns₂ ys₁ ys₂ a b = absurd (omega arith)
one_note p ns ys (Err note.Full) (Err note.Full) ns₁ ns₂ ys₁ ys₂ a b = (refl, a.2 ∙ sym b.2, a.3 ∙ sym b.3)

one_found : (ns : List Node) (i : ℕ) (r q : Option Node) → Found ns i r → Found ns i q → r ≡ q
one_found ns i None None a b = refl
one_found ns i None (Some n) a b = absurd (omega arith)
one_found ns i (Some n) None a b = absurd (omega arith)
one_found ns i (Some n) (Some m) a b = ap Some (a.1 ∙ sym b.1)

-- one reply to a call
one_reply : (c : Call) (ns : List Node) (ys : List ℕ) (r q : Reply) (ns₁ ns₂ : List Node) (ys₁ ys₂ : List ℕ) → Replies c ns ys r ns₁ ys₁ → Replies c ns ys q ns₂ ys₂ → Same r q ns₁ ys₁ ns₂ ys₂
one_reply call.Clear ns ys reply.Cleared reply.Cleared ns₁ ns₂ ys₁ ys₂ a b = (refl, a.0 ∙ sym b.0, a.1 ∙ sym b.1)
one_reply call.Clear ns ys reply.Cleared (reply.Put q) ns₁ ns₂ ys₁ ys₂ a b = absurd b
one_reply call.Clear ns ys reply.Cleared (reply.Read q) ns₁ ns₂ ys₁ ys₂ a b = absurd b
one_reply call.Clear ns ys reply.Cleared (reply.Note q) ns₁ ns₂ ys₁ ys₂ a b = absurd b
one_reply call.Clear ns ys reply.Cleared (reply.Derivable q) ns₁ ns₂ ys₁ ys₂ a b = absurd b
one_reply call.Clear ns ys (reply.Put r) q ns₁ ns₂ ys₁ ys₂ a b = absurd a
one_reply call.Clear ns ys (reply.Read r) q ns₁ ns₂ ys₁ ys₂ a b = absurd a
one_reply call.Clear ns ys (reply.Note r) q ns₁ ns₂ ys₁ ys₂ a b = absurd a
one_reply call.Clear ns ys (reply.Derivable r) q ns₁ ns₂ ys₁ ys₂ a b = absurd a
one_reply (call.Put x) ns ys reply.Cleared q ns₁ ns₂ ys₁ ys₂ a b = absurd a
one_reply (call.Put x) ns ys (reply.Put r) reply.Cleared ns₁ ns₂ ys₁ ys₂ a b = absurd b
one_reply (call.Put x) ns ys (reply.Put r) (reply.Put q) ns₁ ns₂ ys₁ ys₂ a b = let s = one_put x ns ys r q ns₁ ns₂ ys₁ ys₂ a b in (ap reply.Put s.0, s.1, s.2)
one_reply (call.Put x) ns ys (reply.Put r) (reply.Read q) ns₁ ns₂ ys₁ ys₂ a b = absurd b
one_reply (call.Put x) ns ys (reply.Put r) (reply.Note q) ns₁ ns₂ ys₁ ys₂ a b = absurd b
one_reply (call.Put x) ns ys (reply.Put r) (reply.Derivable q) ns₁ ns₂ ys₁ ys₂ a b = absurd b
one_reply (call.Put x) ns ys (reply.Read r) q ns₁ ns₂ ys₁ ys₂ a b = absurd a
one_reply (call.Put x) ns ys (reply.Note r) q ns₁ ns₂ ys₁ ys₂ a b = absurd a
one_reply (call.Put x) ns ys (reply.Derivable r) q ns₁ ns₂ ys₁ ys₂ a b = absurd a
one_reply (call.Read x) ns ys reply.Cleared q ns₁ ns₂ ys₁ ys₂ a b = absurd a
one_reply (call.Read x) ns ys (reply.Put r) q ns₁ ns₂ ys₁ ys₂ a b = absurd a
one_reply (call.Read x) ns ys (reply.Read r) reply.Cleared ns₁ ns₂ ys₁ ys₂ a b = absurd b
one_reply (call.Read x) ns ys (reply.Read r) (reply.Put q) ns₁ ns₂ ys₁ ys₂ a b = absurd b
one_reply (call.Read x) ns ys (reply.Read r) (reply.Read q) ns₁ ns₂ ys₁ ys₂ a b = (ap reply.Read (one_found ns x.0 r q a.0 b.0), a.1.0 ∙ sym b.1.0, a.1.1 ∙ sym b.1.1)
one_reply (call.Read x) ns ys (reply.Read r) (reply.Note q) ns₁ ns₂ ys₁ ys₂ a b = absurd b
one_reply (call.Read x) ns ys (reply.Read r) (reply.Derivable q) ns₁ ns₂ ys₁ ys₂ a b = absurd b
one_reply (call.Read x) ns ys (reply.Note r) q ns₁ ns₂ ys₁ ys₂ a b = absurd a
one_reply (call.Read x) ns ys (reply.Derivable r) q ns₁ ns₂ ys₁ ys₂ a b = absurd a
one_reply (call.Note x) ns ys reply.Cleared q ns₁ ns₂ ys₁ ys₂ a b = absurd a
one_reply (call.Note x) ns ys (reply.Put r) q ns₁ ns₂ ys₁ ys₂ a b = absurd a
one_reply (call.Note x) ns ys (reply.Read r) q ns₁ ns₂ ys₁ ys₂ a b = absurd a
one_reply (call.Note x) ns ys (reply.Note r) reply.Cleared ns₁ ns₂ ys₁ ys₂ a b = absurd b
one_reply (call.Note x) ns ys (reply.Note r) (reply.Put q) ns₁ ns₂ ys₁ ys₂ a b = absurd b
one_reply (call.Note x) ns ys (reply.Note r) (reply.Read q) ns₁ ns₂ ys₁ ys₂ a b = absurd b
one_reply (call.Note x) ns ys (reply.Note r) (reply.Note q) ns₁ ns₂ ys₁ ys₂ a b = let s = one_note x ns ys r q ns₁ ns₂ ys₁ ys₂ a b in (ap reply.Note s.0, s.1, s.2)
one_reply (call.Note x) ns ys (reply.Note r) (reply.Derivable q) ns₁ ns₂ ys₁ ys₂ a b = absurd b
one_reply (call.Note x) ns ys (reply.Derivable r) q ns₁ ns₂ ys₁ ys₂ a b = absurd a
one_reply (call.Derivable x) ns ys reply.Cleared q ns₁ ns₂ ys₁ ys₂ a b = absurd a
one_reply (call.Derivable x) ns ys (reply.Put r) q ns₁ ns₂ ys₁ ys₂ a b = absurd a
one_reply (call.Derivable x) ns ys (reply.Read r) q ns₁ ns₂ ys₁ ys₂ a b = absurd a
one_reply (call.Derivable x) ns ys (reply.Note r) q ns₁ ns₂ ys₁ ys₂ a b = absurd a
one_reply (call.Derivable x) ns ys (reply.Derivable r) reply.Cleared ns₁ ns₂ ys₁ ys₂ a b = absurd b
one_reply (call.Derivable x) ns ys (reply.Derivable r) (reply.Put q) ns₁ ns₂ ys₁ ys₂ a b = absurd b
one_reply (call.Derivable x) ns ys (reply.Derivable r) (reply.Read q) ns₁ ns₂ ys₁ ys₂ a b = absurd b
one_reply (call.Derivable x) ns ys (reply.Derivable r) (reply.Note q) ns₁ ns₂ ys₁ ys₂ a b = absurd b
one_reply (call.Derivable x) ns ys (reply.Derivable r) (reply.Derivable q) ns₁ ns₂ ys₁ ys₂ a b = (ap reply.Derivable (same_from_decides r q a.0 b.0), a.1.0 ∙ sym b.1.0, a.1.1 ∙ sym b.1.1)

-- no call yet
pub plays_none : (rs : List Reply) (ns ns' : List Node) (ys ys' : List ℕ) → rs ≡ [] → ns' ≡ ns → ys' ≡ ys → Plays [] ns ys rs ns' ys'
unfolding Plays
plays_none rs ns ns' ys ys' e f g = subst (λ (l : List Reply). Plays [] ns ys l ns' ys') (sym e) (f, g)

-- one call more at the end
pub plays_push : (cs : List Call) (c : Call) (rs : List Reply) (r : Reply) (ns us ns' : List Node) (ys vs ys' : List ℕ) → Plays cs ns ys rs us vs → Replies c us vs r ns' ys' → Plays (cs ++ (c ∷ [])) ns ys (rs ++ (r ∷ [])) ns' ys'
unfolding Plays
plays_push [] c [] r ns us ns' ys vs ys' p q = (ns', ys', subst (λ (w : List ℕ). Replies c ns w r ns' ys') p.1 (subst (λ (w : List Node). Replies c w vs r ns' ys') p.0 q), (refl, refl))
plays_push [] c (x ∷ rs) r ns us ns' ys vs ys' p q = absurd p
plays_push (d ∷ cs) c [] r ns us ns' ys vs ys' p q = absurd p
plays_push (d ∷ cs) c (x ∷ rs) r ns us ns' ys vs ys' p q = (p.0, p.1, p.2, plays_push cs c rs r p.0 us ns' p.1 vs ys' p.3 q)

-- the next call of a row
pub plays_next : (cs : List Call) (k : ℕ) (rs qs : List Reply) (r : Reply) (ns us ns' : List Node) (ys vs ys' : List ℕ) → Plays (take k cs) ns ys rs us vs → k < length cs → Replies (get_or cs k call.Clear) us vs r ns' ys' → qs ≡ rs ++ (r ∷ []) → Plays (take (k + 1) cs) ns ys qs ns' ys'
plays_next cs k rs qs r ns us ns' ys vs ys' p l q e = rw (take_more cs k call.Clear l, e) (plays_push _ _ _ _ _ _ _ _ _ _ p q)

pub one_play : OnePlay
unfolding Plays
one_play [] ns ys [] [] ns₁ ns₂ ys₁ ys₂ a b = (refl, a.0 ∙ sym b.0, a.1 ∙ sym b.1)
one_play [] ns ys [] (q ∷ qs) ns₁ ns₂ ys₁ ys₂ a b = absurd b
one_play [] ns ys (r ∷ rs) qs ns₁ ns₂ ys₁ ys₂ a b = absurd a
one_play (c ∷ cs) ns ys [] qs ns₁ ns₂ ys₁ ys₂ a b = absurd a
one_play (c ∷ cs) ns ys (r ∷ rs) [] ns₁ ns₂ ys₁ ys₂ a b = absurd b
one_play (c ∷ cs) ns ys (r ∷ rs) (q ∷ qs) ns₁ ns₂ ys₁ ys₂ a b =
    let s = one_reply c ns ys r q a.0 b.0 a.1 b.1 a.2 b.2 in
    let moved = subst (λ (w : List ℕ). Plays cs a.0 w qs ns₂ ys₂) (sym s.2) (subst (λ (w : List Node). Plays cs w b.1 qs ns₂ ys₂) (sym s.1) b.3) in
    let t = one_play cs a.0 a.1 rs qs ns₁ ns₂ ys₁ ys₂ a.3 moved in
    (ap₂ ◌∷◌ s.0 t.0, t.1, t.2)
