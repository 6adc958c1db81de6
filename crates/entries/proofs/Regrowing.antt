-- A sound content is put together entry by entry, and each entry keeps all rules in its place.
use Rattle.std.proofs.Common.{◌≡◌, ℕ, ◌<◌, ◌≤◌, List, [], ◌∷◌, ◌++◌, map, length, get_or, set, Some, None, Option, sym, refl, ap, ◌∙◌, subst, arith}
use Rattle.std.specs.List.{flat_map}
use Rattle.std.proofs.lemmas.List.{append-nil, append_assoc, map_push, flat_map_more, length_push, get_or_at, get_or_append_left}
use Rattle.terms.specs.Nodes.{no_node}
use Rattle.terms.specs.declared.node.Node.{Node}
use Rattle.terms.specs.declared.node.Node.TheVariants as n
use Rattle.terms.proofs.Bitsets.{vars_from, vars_at}
use Rattle.protocol.specs.declared.step.Step.{Step}
use Rattle.protocol.specs.declared.step.Step.TheVariants as s
use Rattle.protocol.specs.declared.step.Action.{Action}
use Rattle.protocol.specs.declared.step.Property.{Property}
use Rattle.protocol.specs.Strands.{TermStep, input, output, opens, splits, same, At, Binds, Uses, BoundBefore, Bound, step_of}
use Rattle.protocol.specs.Lawful.{Content, Sound, NodeLaw, StepLaw, EarlierLaw, PropertyLaw, PropertyIn, IsAtom}
use Rattle.entries.specs.declared.fault.Rule.TheVariants as r
use Rattle.entries.specs.Format.{Entry, label, name, variable, node, strand, step, property, node_entry, step_entry, property_entry, with_earlier, strand_entries, property_entries, entries}
use Rattle.entries.specs.Rules.{InOrder, HasRoom, GoodText, GoodNode, GoodStep, GoodVariables, GoodProperty, KeepsBelow, latest, latest_steps}
use Rattle.entries.specs.Growth.{Adds, with_node, with_step, with_property}
use Rattle.entries.proofs.Coding.{step_entry_one}
use Rattle.entries.proofs.Grown.{Grown, start, grow}
use Rattle.entries.proofs.Prefixes.{front_to_back, split_short, split_all, at_longer, at_shorter, at_below, at_split, last_number, last_element, last_set}

-- an entry that keeps each rule keeps all
keeps : (C : Content) (e : Entry) → InOrder C e → HasRoom C e → GoodText e → GoodNode C e → GoodStep C e → GoodVariables C e → GoodProperty C e → KeepsBelow 9 C e
keeps C e a b c d f g h r.Whole l = tt
keeps C e a b c d f g h r.Kind l = a
keeps C e a b c d f g h r.Limit l = b
keeps C e a b c d f g h r.Text l = c
keeps C e a b c d f g h r.Node l = d
keeps C e a b c d f g h r.Step l = f
keeps C e a b c d f g h r.Variable l = g
keeps C e a b c d f g h r.Property l = h
keeps C e a b c d f g h r.Ended l = tt

-- the entry keeps all rules, and leads from C to D
abbrev Leads : Content → Entry → Content → Type 0
Leads C e D = KeepsBelow 9 C e × Adds C e D

-- the entries of nodes, steps and properties have one form each
node_shape : (x : Node) → (k a b : ℕ) × (node_entry x ≡ node k a b)
node_shape (n.Name a) = (_, _, _, refl)
node_shape (n.Env a) = (_, _, _, refl)
node_shape (n.Var a) = (_, _, _, refl)
node_shape (n.Pair a b) = (_, _, _, refl)
node_shape (n.Seal a b) = (_, _, _, refl)

step_shape : (p : Step) → (k a b : ℕ) × (step_entry p ≡ step k a b)
step_shape (s.Input a b) = (_, _, _, refl)
step_shape (s.Output a b) = (_, _, _, refl)
step_shape (s.Open a b) = (_, _, _, refl)
step_shape (s.Split a b) = (_, _, _, refl)
step_shape (s.Same a b) = (_, _, _, refl)

property_shape : (o : Option Action) (b : Action) → (p q s u v w : ℕ) × (with_earlier o b ≡ property p q s u v w)
property_shape None b = (_, _, _, _, _, _, refl)
property_shape (Some a) b = (_, _, _, _, _, _, refl)

-- a node, a step and a property that are lawful lead on
node_leads : (C : Content) (x : Node) → C.strands ≡ [] → C.property ≡ None → length C.nodes < 256 → NodeLaw C (length C.nodes) x → Leads C (node_entry x) (with_node C x)
node_leads C x a b room law =
    let h = node_shape x in
    subst (λ (e : Entry). Leads C e (with_node C x)) (sym h.3) (keeps C (node h.0 h.1 h.2) (a, b) room tt (x, h.3, law) tt tt tt, (x, h.3, refl))

step_leads : (C : Content) (p : Step) → 1 ≤ length C.strands → C.property ≡ None → length (latest_steps C) < 16 → StepLaw C p → ((x : ℕ) → Binds x (step_of C.nodes p) → ¬ Bound C.nodes C.strands x) → Uses (BoundBefore C.nodes C.strands (latest C) (length (latest_steps C))) (step_of C.nodes p) → Leads C (step_entry p) (with_step C p)
step_leads C p a b room law once before =
    let h = step_shape p in
    subst (λ (e : Entry). Leads C e (with_step C p)) (sym h.3) (
      keeps C (step h.0 h.1 h.2) (a, b) room tt tt (p, h.3, law) (λ q f. let e = step_entry_one p q (h.3 ∙ sym f) in (rw (← e) once, rw (← e) before)) tt,
      (p, h.3, refl),
    )

property_leads : (C : Content) (t : Property) → 1 ≤ length C.strands → C.property ≡ None → PropertyLaw C t → Leads C (property_entry t) (with_property C t)
property_leads C t a b law =
    let h = property_shape t.earlier t.later in
    subst (λ (e : Entry). Leads C e (with_property C t)) (sym h.6)
    (keeps C (property h.0 h.1 h.2 h.3 h.4 h.5) (a, b) tt tt tt tt tt (t, h.6, law), (t, h.6, refl))

as_list : (es fs : List Entry) (C : Content) → es ≡ fs → Grown es C → Grown fs C
as_list es fs C e g = subst (λ (l : List Entry). Grown l C) e g

-- the entries of one sort, after those of the sorts before
sort_grown : {X : Type 0} (f : X → Entry) (base : List Entry) (xs : List X) (D : List X → Content) → Grown base (D []) → ((ys : List X) (x : X) (zs : List X) → xs ≡ ys ++ (x ∷ zs) → Leads (D ys) (f x) (D (ys ++ (x ∷ [])))) → Grown (base ++ map f xs) (D xs)
sort_grown {X} f base xs D g leads =
    front_to_back (λ (ys : List X). Grown (base ++ map f ys) (D ys)) xs (as_list base (base ++ []) (D []) (sym (append-nil base)) g)
    (λ ys x zs e h.
    let l = leads ys x zs e in
    grow (f x) h l.0 l.1 (ap (λ (es : List Entry). base ++ es) (map_push f ys x) ∙ sym (append_assoc base (map f ys) (f x ∷ []))))

-- where P gives Q, it does so for all variables that a step uses
uses_more : (P Q : ℕ → Type 0) → ((x : ℕ) → P x → Q x) → (t : TermStep) → Uses P t → Uses Q t
uses_more P Q h (input l y) u = tt
uses_more P Q h (output l t) u = vars_from Q t (λ x o. h x (vars_at P t u x o))
uses_more P Q h (opens t y k) u = (vars_from Q t (λ x o. h x (vars_at P t u.0 x o)), vars_from Q k (λ x o. h x (vars_at P k u.1 x o)))
uses_more P Q h (splits t y z) u = vars_from Q t (λ x o. h x (vars_at P t u x o))
uses_more P Q h (same t v) u = (vars_from Q t (λ x o. h x (vars_at P t u.0 x o)), vars_from Q v (λ x o. h x (vars_at P v u.1 x o)))

-- the content with these tables, and no property yet
abbrev made : List (List ℕ) → List (List ℕ) → List (List ℕ) → List Node → List (List Step) → Content
made ls ns vs ms ss = record { labels = ls; names = ns; variables = vs; nodes = ms; strands = ss; property = None }

-- the law of a node asks only for the nodes before it
node_law : (C : Content) (ms rest : List Node) (x : Node) → C.nodes ≡ ms ++ rest → NodeLaw C (length ms) x → NodeLaw (made C.labels C.names C.variables ms []) (length ms) x
node_law C ms rest (n.Name a) e l = l
node_law C ms rest (n.Env a) e l = l
node_law C ms rest (n.Var a) e l = l
node_law C ms rest (n.Pair a b) e l = l
node_law C ms rest (n.Seal b k) e l =
    (l.0, l.1, subst IsAtom (ap (λ (ns : List Node). get_or ns k.0 no_node) e ∙ get_or_append_left ms rest no_node k.0 l.1) l.2)

-- the law of a step asks for no strands
step_law : (C : Content) (ss : List (List Step)) (p : Step) → StepLaw C p → StepLaw (made C.labels C.names C.variables C.nodes ss) p
step_law C ss (s.Input a b) l = l
step_law C ss (s.Output a b) l = l
step_law C ss (s.Open a b) l = l
step_law C ss (s.Split a b) l = l
step_law C ss (s.Same a b) l = l

-- and that of an earlier action for no property
earlier_law : (C : Content) (o : Option Action) (b : Action) → EarlierLaw C o b → EarlierLaw (made C.labels C.names C.variables C.nodes C.strands) o b
earlier_law C None b l = l
earlier_law C (Some a) b l = l

module _ (C : Content) (sound : Sound C) where
  -- the entries up to the labels, the names, the variables and the nodes
  abbrev after_labels : List Entry
  after_labels = map label C.labels

  abbrev after_names : List Entry
  after_names = after_labels ++ map name C.names

  abbrev after_variables : List Entry
  after_variables = after_names ++ map variable C.variables

  abbrev after_nodes : List Entry
  after_nodes = after_variables ++ map node_entry C.nodes

  labels_grown : Grown after_labels (made C.labels [] [] [] [])
  labels_grown =
      sort_grown label [] C.labels (λ ts. made ts [] [] [] []) (start refl refl)
      (λ ts t us e.
      let room : length ts < 32 = omega (arith, split_short C.labels ts t us e, sound.few_labels) in
      (keeps _ (label t) (refl, refl, refl, refl, refl) room (split_all _ C.labels ts t us e sound.label_texts) tt tt tt tt, refl))

  names_grown : Grown after_names (made C.labels C.names [] [] [])
  names_grown =
      sort_grown name after_labels C.names (λ ts. made C.labels ts [] [] []) labels_grown
      (λ ts t us e.
      let room : length ts < 64 = omega (arith, split_short C.names ts t us e, sound.few_names) in
      (keeps _ (name t) (refl, refl, refl, refl) room (split_all _ C.names ts t us e sound.name_texts) tt tt tt tt, refl))

  variables_grown : Grown after_variables (made C.labels C.names C.variables [] [])
  variables_grown =
      sort_grown variable after_names C.variables (λ ts. made C.labels C.names ts [] []) names_grown
      (λ ts t us e.
      let room : length ts < 64 = omega (arith, split_short C.variables ts t us e, sound.few_variables) in
      (keeps _ (variable t) (refl, refl, refl) room (split_all _ C.variables ts t us e sound.variable_texts) tt tt tt tt, refl))

  nodes_grown : Grown after_nodes (made C.labels C.names C.variables C.nodes [])
  nodes_grown =
      sort_grown node_entry after_variables C.nodes (λ ms. made C.labels C.names C.variables ms []) variables_grown
      (λ ms x os e.
      let short = split_short C.nodes ms x os e in
      let here : get_or C.nodes (length ms) no_node ≡ x = ap (λ (l : List Node). get_or l (length ms) no_node) e ∙ get_or_at ms x os no_node (length ms) refl in
      let law : NodeLaw C (length ms) x = subst (NodeLaw C (length ms)) here (sound.nodes_stand (length ms) short) in
      node_leads _ x refl refl (omega (arith, short, sound.few_nodes)) (node_law C ms (x ∷ os) x e law))

  abbrev with_strands : List (List Step) → Content
  with_strands ss = made C.labels C.names C.variables C.nodes ss

  -- a step after the steps qs of the strand after the strands ys
  step_grown : (ys : List (List Step)) (qs : List Step) (p : Step) (rs : List Step) (zs : List (List Step)) → C.strands ≡ ys ++ ((qs ++ (p ∷ rs)) ∷ zs) → Leads (with_strands (ys ++ (qs ∷ []))) (step_entry p) (with_strands (ys ++ ((qs ++ (p ∷ [])) ∷ [])))
  step_grown ys qs p rs zs e =
      let D = with_strands (ys ++ (qs ∷ [])) in
      let k = length ys in
      let here : At C.strands k (length qs) p = rw e (at_split ys qs p rs zs) in
      let steps : latest_steps D ≡ qs = last_element ys qs [] in
      let last : latest D ≡ k = last_number ys qs in
      let size : length (latest_steps D) ≡ length qs = ap length steps in
      let strand-is : get_or C.strands k [] ≡ qs ++ (p ∷ rs) = ap (λ (l : List (List Step)). get_or l k []) e ∙ get_or_at ys (qs ++ (p ∷ rs)) zs [] k refl in
      let room : length (latest_steps D) < 16 = omega (arith, size, split_short (get_or C.strands k []) qs p rs strand-is, sound.few_steps k) in
      let some-strand : 1 ≤ length (ys ++ (qs ∷ [])) = omega (arith, length_push ys qs) in
      let once : (x : ℕ) → Binds x (step_of C.nodes p) → ¬ Bound C.nodes (ys ++ (qs ∷ [])) x =
      λ x b h.
      let same_place = sound.bound_once k h.0 (length qs) h.1 p h.2 x here (rw e (at_longer ys qs (p ∷ rs) zs h.0 h.1 h.2 h.3)) b h.4 in
      omega (arith, same_place.1, at_below ys qs [] h.1 h.2 (rw same_place.0 h.3)) in
      let before : Uses (BoundBefore C.nodes (ys ++ (qs ∷ [])) (latest D) (length (latest_steps D))) (step_of C.nodes p) =
      uses_more _ _
      (λ x b. (b.0, b.1, omega (arith, size, b.2), rw last (at_shorter ys qs (p ∷ rs) zs b.0 b.1 b.2 (rw e at b.3)), b.4))
      (step_of C.nodes p) (sound.bound_before k (length qs) p here) in
      subst (λ (ss : List (List Step)). Leads D (step_entry p) (with_strands ss))
      (ap (λ (l : List Step). set (ys ++ (qs ∷ [])) (latest D) (l ++ (p ∷ []))) steps ∙ last_set ys qs (qs ++ (p ∷ [])))
      (step_leads D p some-strand refl room (step_law C (ys ++ (qs ∷ [])) p (sound.steps_stand k (length qs) p here)) once before)

  -- the strand after the strands ys, step by step
  strand_grown : (es : List Entry) (ys : List (List Step)) (ps : List Step) (zs : List (List Step)) → C.strands ≡ ys ++ (ps ∷ zs) → Grown es (with_strands ys) → Grown (es ++ strand_entries ps) (with_strands (ys ++ (ps ∷ [])))
  strand_grown es ys ps zs e g =
      let room : length ys < 8 = omega (arith, split_short C.strands ys ps zs e, sound.few_strands) in
      let opened : Grown (es ++ (strand ∷ [])) (with_strands (ys ++ ([] ∷ []))) = grow strand g (keeps _ strand refl room tt tt tt tt tt) refl refl in
      as_list _ _ _ (append_assoc es (strand ∷ []) (map step_entry ps))
      (sort_grown step_entry (es ++ (strand ∷ [])) ps (λ qs. with_strands (ys ++ (qs ∷ []))) opened
      (λ qs p rs f. step_grown ys qs p rs zs (e ∙ ap (λ (l : List Step). ys ++ (l ∷ zs)) f)))

  abbrev after_strands : List Entry
  after_strands = after_nodes ++ flat_map strand_entries C.strands

  -- all strands
  strands_grown : Grown after_strands (with_strands C.strands)
  strands_grown =
      front_to_back (λ (ys : List (List Step)). Grown (after_nodes ++ flat_map strand_entries ys) (with_strands ys)) C.strands (as_list _ _ _ (sym (append-nil after_nodes)) nodes_grown)
      (λ ys ps zs e g. as_list _ _ _ (flat_map_more strand_entries after_nodes ys ps) (strand_grown (after_nodes ++ flat_map strand_entries ys) ys ps zs e g))

  -- and the property, where there is one
  property_grown : (o : Option Property) → PropertyIn C o → Grown (after_strands ++ property_entries o) (record { labels = C.labels; names = C.names; variables = C.variables; nodes = C.nodes; strands = C.strands; property = o })
  property_grown None h = as_list _ _ _ (sym (append-nil after_strands)) strands_grown
  property_grown (Some t) h =
      let earlier : EarlierLaw (with_strands C.strands) t.earlier t.later = earlier_law C t.earlier t.later h.1.1 in
      let l = property_leads (with_strands C.strands) t h.0 refl (h.1.0, earlier, h.1.2) in
      grow (property_entry t) strands_grown l.0 l.1 refl

-- the entries of a sound content lead to it
pub sound_grown : (C : Content) → Sound C → Grown (entries C) C
sound_grown C sound = as_list _ _ _ (simp append_assoc) (property_grown C sound C.property sound.property_stands)
