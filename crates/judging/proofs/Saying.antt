-- A run whose terms are messages, as a test of its actions tells.
use Rattle.std.proofs.Common.{◌≡◌, ℕ, ◌<◌, Bool, true, false, List, length, subst, sym, arith}
use Rattle.std.specs.List.{All, AllWithin, HoldsAt}
use Rattle.std.specs.Prelude.{MatchBool}
use Rattle.std.proofs.lemmas.Bool.{false≢true}
use Rattle.terms.specs.Terms.{Closed, Message}
use Rattle.terms.specs.declared.node.Node.{Node}
use Rattle.protocol.specs.declared.step.Action.{Action}
use Rattle.runs.specs.Protocols.{TermAction}
use Rattle.runs.specs.Tables.{action_of}
use Rattle.playing.specs.Judging.{ClosedRun}
use Rattle.pages.specs.declared.page.PageTable.{PageTable}
use Rattle.pages.specs.Pages.{nodes_on}
use Rattle.pages.proofs.Telling.{terms_closed}
use Rattle.judging.specs.Judgements.{RunHeld, run_of, SaysMessage}
use Rattle.judging.proofs.Breaking.{no_action, mapped_at}

-- an action with no message
abbrev pub SaysNone : List Node → Action → Type 0
SaysNone ns a = ¬ SaysMessage ns a

-- what a test of all actions answers
abbrev pub Answered : List Node → List Action → Bool → Type 0
Answered ns r b = MatchBool b (AllWithin (SaysMessage ns) r 0 (length r)) ((k : ℕ) × (k < length r) × HoldsAt (SaysNone ns) r k)

pub all_say : (ns : List Node) (r : List Action) (b : Bool) → b ≡ true → Answered ns r b → All (SaysMessage ns) r
all_say ns r true e h = λ k d l. h k d (omega arith) l
all_say ns r false e h = absurd (false≢true e)

-- the places of such a run are held, and its terms closed
pub run_held : (ns : List Node) (r : List Action) → All (SaysMessage ns) r → RunHeld ns r
run_held ns r s = λ i a l. (s i a l).0

pub run_closed : (t : PageTable) (r : List Action) → All (SaysMessage (nodes_on t)) r → ClosedRun (run_of (nodes_on t) r)
run_closed t r s = λ a m.
    let p = mapped_at (action_of (nodes_on t)) r a m in
    let x = s p.0 no_action p.1 in
    subst (λ (y : TermAction). Closed y.term × Message y.term) (sym (p.2 no_action)) (terms_closed (nodes_on t) t.lawful _ x.0, x.1)
