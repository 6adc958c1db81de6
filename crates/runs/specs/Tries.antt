-- Trying each schedule at its last step is enough.
use Rattle.std.specs.Prelude.{ℕ, List, [], ◌∷◌, ◌++◌}
use mathlib.Core.List.{Memᴰ}
use Rattle.terms.specs.Terms.{Term}
use Rattle.protocol.specs.Strands.{TermStep, At}
use Rattle.runs.specs.Protocols.{Protocol, LawfulProtocol}
use Rattle.runs.specs.Runs.{nowhere}
use Rattle.runs.specs.Schedules.{Plan, Listing, NoneBreaking}
use Rattle.runs.specs.Apart.{mentions}
use Rattle.runs.specs.Last.{BreakBy}

-- no schedule of the list breaks by its last step
abbrev pub Tried : Protocol → List (List ℕ) → Type 0
Tried S L = (s : List ℕ) (k : ℕ) (ps : List TermStep) (p : TermStep) → Memᴰ (s ++ (k ∷ [])) L → Plan S nowhere s ps → At S.strands k (mentions k s) p → (ρ : ℕ → Term) → ¬ BreakBy S ps p ρ

-- what was visited so far, each tried at its last step, has no break at all
abbrev pub TriesSuffice : Type 0
TriesSuffice = (S : Protocol) → LawfulProtocol S → (before after : List (List ℕ)) → Listing S (before ++ after) → Tried S before → NoneBreaking S before
