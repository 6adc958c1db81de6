-- The loop of a match.
use mathlib.Core.Path.{◌≡◌, sym, ap, ◌∙◌, subst}
use mathlib.Core.Bool.{Bool, true, false}
use mathlib.Core.List.{List, [], ◌∷◌, ◌++◌}
use Prim.Native.Nat.{ℕ, ◌<◌}
use native.Mathlib.Omega.{arith}
use lib.Dec.{T}
use lib.ListN.{length, length-append}
use Rattle.std.proofs.lemmas.Bool.{true≢false}
use Rattle.terms.specs.declared.number.NodeNo.{NodeNo}
use Rattle.terms.specs.declared.node.Node.{Node}
use Rattle.unification.specs.Classes.{Move, Never}
use Rattle.unification.specs.Steps.{Room, Stepped, Running, Matched}
use Rattle.unification.specs.declared.binding.Binding.{Binding}
use Rattle.unification.specs.declared.ask.Ask.{Ask}
use Rattle.unification.proofs.Moves.{ask, move_trans, solved, unsolvable, each_front}

abbrev InRange : List Node → Ask → Type 0
InRange ns w = (w.left.0 < length ns) × (w.right.0 < length ns)

module _ (ns : List Node) (B : List Binding) (F : List Ask) (B' B'' : List Binding) (P P' : List NodeNo) (W₀ W W' : List Ask) (w : Ask) (answer : Bool) where
  pub running_on : Stepped ns B' P W w B'' P' W' answer → W₀ ≡ W ++ (w ∷ []) → answer ≡ true → Running ns B F B' P W₀ → Running ns B F B'' P' W'
  running_on s v y r =
      let k : Move ns B' P W₀ B'' P' W' = subst (λ (V : List Ask). Move ns B' P V B'' P' W') (sym v) (s.goes (subst T (sym y) tt)) in
      record {
        first = r.first;
        own = r.own;
        move = move_trans ns B r.first F B' P W₀ B'' P' W' r.move k;
        good = s.good;
        front = s.front (length B) r.longer ∙ r.front;
        longer = let x = s.longer in let y = r.longer in omega arith;
        fits = s.same_length ∙ r.fits;
        lower = s.lower;
        tall = let x = s.tall in let y = r.tall in omega (arith, ap length v, length-append W (w ∷ []));
        room = s.room (each_front (InRange ns) W w (subst (Room ns) v r.room));
      }

  pub running_stops : (a b : ℕ) → F ≡ ask a b ∷ [] → Stepped ns B' P W w B'' P' W' answer → W₀ ≡ W ++ (w ∷ []) → answer ≡ false → Running ns B F B' P W₀ → Matched ns B a b B'' false
  running_stops a b f s v no_more r =
      let never : Never ns B' P W₀ = subst (Never ns B' P) (sym v) (s.stops no_more) in
      let m : Move ns B r.first (ask a b ∷ []) B' P W₀ = subst (λ (V : List Ask). Move ns B r.first V B' P W₀) f r.move in
      record {
        solved = λ t. absurd t;
        none = λ e. unsolvable ns B B' r.first P W₀ a b m r.own never;
        good = s.good;
        front = s.front (length B) r.longer ∙ r.front;
        longer = let x = s.longer in let y = r.longer in omega arith;
      }

pub running_ends : (ns : List Node) (B : List Binding) (F : List Ask) (a b : ℕ) (B' : List Binding) (P : List NodeNo) (W : List Ask) → F ≡ ask a b ∷ [] → W ≡ [] → Running ns B F B' P W → Matched ns B a b B' true
running_ends ns B F a b B' P W f e r =
    let m : Move ns B r.first (ask a b ∷ []) B' P [] = subst (λ (V : List Ask). Move ns B r.first V B' P []) f (subst (λ (V : List Ask). Move ns B r.first F B' P V) e r.move) in
    record {
      solved = λ t. solved ns B B' r.first P a b m r.own;
      none = λ f. absurd (true≢false f);
      good = r.good;
      front = r.front;
      longer = r.longer;
    }
