-- The items that wait on a stack, and what its calls do to them.
use Rattle.std.specs.Prelude.{◌≡◌, ℕ, ◌<◌, List, [], ◌∷◌, ◌++◌, length, take, Some, None, Ok, Err, Option, Result}
use Rattle.stack.specs.declared.Stack.{Stack}
use Rattle.stack.specs.declared.StackFault.{StackFault}
use Rattle.stack.specs.declared.StackFault.TheVariants.{Full}

-- the items that wait, the latest last
abbrev pub waiting : {T : Type 0} → Stack T → List T
waiting s = take s.len s.items.now

-- how many items the memory holds
abbrev pub room : {T : Type 0} → Stack T → ℕ
room s = length s.items.now

-- one item more, refused exactly where the waiting items fill the memory
abbrev pub Pushed : {T : Type 0} → List T → ℕ → T → Result (Unit {0}) StackFault → List T → Type 0
Pushed ws m x (Ok u) ws' = (length ws < m) × (ws' ≡ ws ++ (x ∷ []))
Pushed ws m x (Err Full) ws' = (length ws ≡ m) × (ws' ≡ ws)

-- the latest item, which waits no more, or none where nothing waits
abbrev pub Popped : {T : Type 0} → List T → Option T → List T → Type 0
Popped ws None ws' = (ws ≡ []) × (ws' ≡ [])
Popped ws (Some x) ws' = ws ≡ ws' ++ (x ∷ [])

-- the number of a refusal
abbrev pub fault_number : StackFault → ℕ
fault_number Full = 70
