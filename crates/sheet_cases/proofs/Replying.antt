-- The reply to a file, from what reading it gave.
use Rattle.std.proofs.Common.{◌≡◌, ℕ, List, IfOk, Ok, Err, Result, sym, refl, subst, MatchResult}
use Rattle.std.specs.declared.alloc.AllocError.{AllocError}
use Rattle.protocol.specs.Lawful.{Content}
use Rattle.entries.specs.declared.fault.SheetFault.{SheetFault}
use Rattle.entries.specs.declared.fault.SheetFault.TheVariants as fault
use Rattle.sheet.specs.Loading.{ReadInto}
use Rattle.sheet_cases.specs.Replies.{Reply, Told, Answers}

pub answered : (bs : List ℕ) (B A : Content) (res : Result (Unit {0}) SheetFault) (r : Result Reply AllocError) → ReadInto B bs res A → MatchResult r (Told res) (λ _. res ≡ Err fault.NoMemory) → IfOk r (Answers bs)
answered bs B A res (Err y) h t = tt
answered bs B A (Ok u) (Ok p) h t = subst (Answers bs) (sym t) (A, h)
answered bs B A (Err (fault.Refused q k)) (Ok p) h t = subst (Answers bs) (sym t) (q, refl, h.0)
answered bs B A (Err fault.NoMemory) (Ok p) h t = absurd t
