-- What rows of calls answer, and that there is one answer to each.
use Rattle.std.specs.Prelude.{◌≡◌, ℕ, List, [], ◌∷◌}
use Rattle.terms.specs.Nodes.{Found}
use Rattle.terms.specs.declared.node.Node.{Node}
use Rattle.notebook.specs.Calls.{Put, Noted, Derivable}
use Rattle.notebook.specs.declared.calls.Call.{Call}
use Rattle.notebook.specs.declared.calls.Call.TheVariants as call
use Rattle.notebook.specs.declared.calls.Reply.{Reply}
use Rattle.notebook.specs.declared.calls.Reply.TheVariants as reply

-- both lists are as they were
abbrev pub Unchanged : List Node → List ℕ → List Node → List ℕ → Type 0
Unchanged ns noted ns' noted' = (ns' ≡ ns) × (noted' ≡ noted)

-- one call: its reply, and the two lists after it
abbrev pub Replies : Call → List Node → List ℕ → Reply → List Node → List ℕ → Type 0
Replies call.Clear ns noted reply.Cleared ns' noted' = (ns' ≡ []) × (noted' ≡ [])
Replies call.Clear ns noted (reply.Put r) ns' noted' = ⊥
Replies call.Clear ns noted (reply.Read r) ns' noted' = ⊥
Replies call.Clear ns noted (reply.Note r) ns' noted' = ⊥
Replies call.Clear ns noted (reply.Derivable r) ns' noted' = ⊥
Replies (call.Put n) ns noted reply.Cleared ns' noted' = ⊥
Replies (call.Put n) ns noted (reply.Put r) ns' noted' = Put ns noted n r ns' noted'
Replies (call.Put n) ns noted (reply.Read r) ns' noted' = ⊥
Replies (call.Put n) ns noted (reply.Note r) ns' noted' = ⊥
Replies (call.Put n) ns noted (reply.Derivable r) ns' noted' = ⊥
Replies (call.Read p) ns noted reply.Cleared ns' noted' = ⊥
Replies (call.Read p) ns noted (reply.Put r) ns' noted' = ⊥
Replies (call.Read p) ns noted (reply.Read r) ns' noted' = Found ns p.0 r × Unchanged ns noted ns' noted'
Replies (call.Read p) ns noted (reply.Note r) ns' noted' = ⊥
Replies (call.Read p) ns noted (reply.Derivable r) ns' noted' = ⊥
Replies (call.Note p) ns noted reply.Cleared ns' noted' = ⊥
Replies (call.Note p) ns noted (reply.Put r) ns' noted' = ⊥
Replies (call.Note p) ns noted (reply.Read r) ns' noted' = ⊥
Replies (call.Note p) ns noted (reply.Note r) ns' noted' = Noted ns noted p r ns' noted'
Replies (call.Note p) ns noted (reply.Derivable r) ns' noted' = ⊥
Replies (call.Derivable p) ns noted reply.Cleared ns' noted' = ⊥
Replies (call.Derivable p) ns noted (reply.Put r) ns' noted' = ⊥
Replies (call.Derivable p) ns noted (reply.Read r) ns' noted' = ⊥
Replies (call.Derivable p) ns noted (reply.Note r) ns' noted' = ⊥
Replies (call.Derivable p) ns noted (reply.Derivable r) ns' noted' = Derivable ns noted p r × Unchanged ns noted ns' noted'

-- a row of calls: the replies in their order, and the two lists after all of them
unfoldable pub Plays : List Call → List Node → List ℕ → List Reply → List Node → List ℕ → Type 0
Plays [] ns noted [] ns' noted' = Unchanged ns noted ns' noted'
Plays [] ns noted (r ∷ rs) ns' noted' = ⊥
Plays (c ∷ cs) ns noted [] ns' noted' = ⊥
Plays (c ∷ cs) ns noted (r ∷ rs) ns' noted' = (us : List Node) × (vs : List ℕ) × Replies c ns noted r us vs × Plays cs us vs rs ns' noted'

-- the calls alone say what is answered and what is held then, whatever notebook answers them
abbrev pub OnePlay : Type 0
OnePlay = (cs : List Call) (ns : List Node) (noted : List ℕ) (rs qs : List Reply) (ns₁ ns₂ : List Node) (noted₁ noted₂ : List ℕ)
    → Plays cs ns noted rs ns₁ noted₁ → Plays cs ns noted qs ns₂ noted₂ → (rs ≡ qs) × (ns₁ ≡ ns₂) × (noted₁ ≡ noted₂)

-- two notebooks after one row of calls: each answered it by the rules, their replies are the same, and so is what they hold
pub record Agreed (cs : List Call) (rs qs : List Reply) (ns₁ ns₂ : List Node) (noted₁ noted₂ : List ℕ) : Type 0 where
  pub first : Plays cs [] [] rs ns₁ noted₁
  pub second : Plays cs [] [] qs ns₂ noted₂
  pub replies : rs ≡ qs
  pub nodes : ns₁ ≡ ns₂
  pub noted : noted₁ ≡ noted₂
