-- The marking of the parts decides what is derived from the noted terms.
use Rattle.std.proofs.Common.{◌≡◌, ℕ, zero, suc, ◌<◌, Bool, true, false, List, [], ◌∷◌, length, get_or, sym, refl, ap, ◌∙◌, subst, ⊎_elim, arith}
use mathlib.Core.List.Memᴰ
use mathlib.Core.List.{Memᴰ}
use Rattle.std.proofs.lemmas.List.{get_or_past}
use Rattle.std.proofs.lemmas.Bool.{cases_lt, false≢true}
use Rattle.terms.specs.Terms.{Term}
use Rattle.terms.specs.Nodes.{term, terms}
use Rattle.terms.specs.declared.node.Node.{Node}
use Rattle.terms.proofs.Unfolding.{length_terms}
use Rattle.derivation.specs.Derive.{Derives, listed}
use Rattle.derivation.specs.Noted.{noted_terms}
use Rattle.analysis.specs.Places.{first}
use Rattle.analysis.specs.Parts.{knows, taken, Decided}
use Rattle.analysis.proofs.Finding.{find_hit}
use Rattle.analysis.proofs.Composing.{composed_decides}
use Rattle.analysis.proofs.Settling.{sound_marking}

mem_at : (a : ℕ) (ys : List ℕ) → Memᴰ a ys → (k : ℕ) × (k < length ys) × (get_or ys k 0 ≡ a)
mem_at a [] m = absurd (Memᴰ.not-nil m)
mem_at a (y ∷ ys) m =
    ⊎_elim (λ e. (0, omega arith, sym e)) (λ r. let i = mem_at a ys r in (suc i.0, omega (arith, i.1), i.2)) (Memᴰ.cases_cons m)

at_mem : (ys : List ℕ) (k : ℕ) → k < length ys → Memᴰ (get_or ys k 0) ys
at_mem [] k l = absurd (omega arith)
at_mem (y ∷ ys) zero l = Memᴰ.head refl
at_mem (y ∷ ys) (suc k) l = Memᴰ.tail (at_mem ys k (omega arith))

-- a mark stands within the table
pub mark_within : (a : List Bool) (i : ℕ) → get_or a i false ≡ true → i < length a
mark_within a i e = ⊎_elim (λ l. l) (λ l. absurd (false≢true (sym (get_or_past a i false l) ∙ e))) (cases_lt i (length a))

-- a marked term stands at its first place
pub known_at : (ns : List Node) (known : List Bool) → length known ≡ length ns → (t : Term) → knows ns known t ≡ true → (first ns t < length ns) × (term ns (first ns t) ≡ t)
known_at ns known l t e =
    let w = mark_within known (first ns t) e in
    let v : first ns t < length ns = omega arith in
    (v, find_hit t (terms ns) (omega (arith, length_terms ns)))

pub decided : Decided
decided ns ys known o h p t =
    let K = noted_terms ns ys in
    let r = sound_marking ns o K ys h (λ k l. listed (Memᴰ.map (term ns) (at_mem ys k l))) in
    composed_decides K (knows ns known)
    (λ s e. let a = known_at ns known p.size s e in
    let q = p.least (record { marks = r.0; shut = r.1; contains = r.2 }) (first ns s) e in
    subst (Derives K) a.1 (r.3 (first ns s) a.0 (ap (knows ns r.0) a.1 ∙ q)))
    (λ s m. let (y, n, e) = Memᴰ.of_map (term ns) ys m in
    let (k, l, f) = mem_at y ys n in
    ap (knows ns known) (sym e ∙ sym (ap (term ns) f)) ∙ p.contains k l)
    (λ s e. let a = known_at ns known p.size s e in
    subst (λ (u : Term). taken (knows ns known) u ≡ true) a.1 (p.shut (first ns s) a.0 (ap (knows ns known) a.1 ∙ e)))
    t
