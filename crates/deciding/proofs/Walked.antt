-- Actions, walked and then valued.
use mathlib.Core.Path.{◌≡◌, refl, sym, ap, ap₂, ◌∙◌, subst}
use mathlib.Core.Option.{Option, some}
use mathlib.Core.List.{List, [], ◌∷◌, ◌++◌, map, Memᴰ}
use Prim.Native.Nat.{ℕ}
use Rattle.terms.specs.Terms.{Term, inst}
use Rattle.protocol.specs.Strands.{TermStep, input, output, opens, splits, same}
use Rattle.runs.specs.Protocols.{TermAction}
use Rattle.runs.specs.Runs.{under, Absent, received, sent}
use Rattle.runs.specs.Bridge.{action, actions}
use Rattle.deciding.specs.Rules.{EarlierFails}
use Rattle.deciding.proofs.Core.{inst_inst, inst_same}

pub inst_walked : (σ ρ τ : ℕ → Term) → ((x : ℕ) → τ x ≡ inst ρ (σ x)) → (t : Term) → inst τ t ≡ inst ρ (inst σ t)
inst_walked σ ρ τ h t = inst_same τ (λ x. inst ρ (σ x)) h t ∙ sym (inst_inst σ ρ t)

pub under_walked : (σ ρ τ : ℕ → Term) → ((x : ℕ) → τ x ≡ inst ρ (σ x)) → (a : TermAction) → under τ a ≡ under ρ (under σ a)
under_walked σ ρ τ h a = ap (λ (t : Term). record { direction = a.direction; label = a.label; term = t }) (inst_walked σ ρ τ h a.term)

pub action_walked : (σ ρ τ : ℕ → Term) → ((x : ℕ) → τ x ≡ inst ρ (σ x)) → (p : TermStep) → action τ p ≡ map (under ρ) (action σ p)
action_walked σ ρ τ h (input l x) = ap (λ (t : Term). received l t ∷ []) (h x)
action_walked σ ρ τ h (output l n) = ap (λ (t : Term). sent l t ∷ []) (inst_walked σ ρ τ h n)
action_walked σ ρ τ h (opens s x k) = refl
action_walked σ ρ τ h (splits s x y) = refl
action_walked σ ρ τ h (same n m) = refl

map_append : (f : TermAction → TermAction) (xs ys : List TermAction) → map f (xs ++ ys) ≡ map f xs ++ map f ys
map_append f [] ys = refl
map_append f (x ∷ xs) ys = ap (λ (r : List TermAction). f x ∷ r) (map_append f xs ys)

pub actions_walked : (σ ρ τ : ℕ → Term) → ((x : ℕ) → τ x ≡ inst ρ (σ x)) → (ps : List TermStep) → actions τ ps ≡ map (under ρ) (actions σ ps)
actions_walked σ ρ τ h [] = refl
actions_walked σ ρ τ h (p ∷ ps) = ap₂ (λ (a b : List TermAction). a ++ b) (action_walked σ ρ τ h p) (actions_walked σ ρ τ h ps) ∙ sym (map_append (under ρ) (action σ p) (actions σ ps))

pub earlier_fails : EarlierFails
earlier_fails w a e m ρ good =
    let there : Memᴰ (under ρ (under w.binds a)) (map (under ρ) (actions w.binds w.before)) = mathlib.Core.List.Memᴰ.map (under ρ) m in
    let here : Memᴰ (under ρ a) (actions ρ w.before) = subst (λ (r : List TermAction). Memᴰ (under ρ a) r) (sym (actions_walked w.binds ρ ρ good.meets w.before)) (subst (λ (b : TermAction). Memᴰ b (map (under ρ) (actions w.binds w.before))) (sym (under_walked w.binds ρ ρ good.meets a)) there) in
    let ab : Absent ρ (some a) (actions ρ w.before) = subst (λ (o : Option TermAction). Absent ρ o (actions ρ w.before)) e good.breaks.clear in
    ab here
