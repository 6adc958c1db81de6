-- What the nodes and steps of a lawful sheet are.
use Rattle.std.proofs.Common.{◌≡◌, ℕ, ◌+◌, ◌<◌, List, [], ◌∷◌, ◌++◌, map, length, get_or, take, sym, refl, ap, subst, ◌∙◌, arith}
use Rattle.std.proofs.lemmas.List.{length-map, get_or-map, take_more}
use native.Mathlib.Decide.{dec_lt}
use lib.ListN.{get_or-eq_default}
use Rattle.terms.specs.Terms.{Term, name, env, var, pair, seal, Atom, Message}
use Rattle.terms.specs.Nodes.{node, term, terms}
use Rattle.terms.proofs.Unfolding.{length_terms}
use Rattle.lifting.proofs.Lists.{get_some}
use Rattle.protocol.specs.Lawful.{Content, Sound, StepLaw}
use Rattle.protocol.specs.Strands.{TermStep, steps_of, step_of, first, second, variable}
use Rattle.protocol.specs.declared.step.Step.{Step}
use Rattle.protocol.specs.declared.step.Step.TheVariants.{Input, Output, Open, Split, Same}
use Rattle.protocol.specs.declared.strand.Strand.{Strand}
use Rattle.sheet.specs.Sheets.{content_of}
use Rattle.sheet.specs.declared.sheet.Sheet.{Sheet}
use Rattle.runs.specs.Protocols.{Plain, PlainKey}
use Rattle.runs.proofs.Inspecting.{law_told}
use Rattle.runs.proofs.Tabling.{plain, small_variable, open_term, split_term}
use Rattle.limits.specs.Beginnings.{StepFits, strand_steps}

plain_atom : (t : Term) → PlainKey t → Atom t
plain_atom (name n) p = tt
plain_atom (env n) p = tt
plain_atom (var x) p = tt
plain_atom (pair a b) p = p
plain_atom (seal b k) p = p

plain_message : (t : Term) → Plain t → Message t
plain_message (name n) p = tt
plain_message (env n) p = tt
plain_message (var x) p = tt
plain_message (pair a b) p = (plain_message a p.0, plain_message b p.1)
plain_message (seal b k) p = (plain_message b p.0, plain_atom k p.1)

-- every term of a sheet is a message; so is what a read past the end gives
pub terms_said : (C : Content) → Sound C → (i : ℕ) → Message (term C.nodes i)
terms_said C law i =
    elim (dec_lt i (length C.nodes)) [
      | yes h ↦ plain_message (term C.nodes i) (plain C law i h)
      | no h ↦ subst Message (sym (get_or-eq_default (terms C.nodes) (name 0) (omega (arith, length_terms C.nodes)))) tt
    ]

step_fits : (C : Content) → Sound C → (p : Step) → StepLaw C p → StepFits C.nodes p
step_fits C law (Input l x) w = small_variable C law x.0 w.1
step_fits C law (Output l n) w = w.1
step_fits C law (Open s p) w =
    let e = (open_term C law p.0 w.1 (node C.nodes p.0) refl w.2).2 in
    (w.0, w.1, e ∙ sym (ap (λ (t : Term). seal (var (variable (first t))) (second t)) e))
step_fits C law (Split s p) w =
    let e = (split_term C law p.0 w.1 (node C.nodes p.0) refl w.2).3 in
    (w.0, w.1, e ∙ sym (ap (λ (t : Term). pair (var (variable (first t))) (var (variable (second t)))) e))
step_fits C law (Same a b) w = w

pub steps_fit : (C : Content) → Sound C → (k i : ℕ) (d : Step) → i < length (get_or C.strands k []) → StepFits C.nodes (get_or (get_or C.strands k []) i d)
steps_fit C law k i d l = step_fits C law (get_or (get_or C.strands k []) i d) (law.steps_stand k i (get_or (get_or C.strands k []) i d) (get_some (get_or C.strands k []) i d l))

pub sound_sheet : (s : Sheet) → Sound (content_of s)
sound_sheet s = (law_told (content_of s) s.lawful).sound

-- the steps of a strand that is read
pub steps_read : (C : Content) (ss : List Strand) (k : ℕ) (s : Strand) (ps : List Step) → map steps_of ss ≡ C.strands → k < length C.strands → s ≡ get_or ss k s → ps ≡ steps_of s → ps ≡ get_or C.strands k []
steps_read C ss k s ps e l h q =
    let within : k < length ss = omega (arith, ap length e, length-map ss steps_of) in
    q ∙ ap steps_of h ∙ sym (get_or-map steps_of ss k s [] within) ∙ ap (λ (x : List (List Step)). get_or x k []) e

-- the beginning of a strand's steps that is one longer
pub step_next : (C : Content) (k i : ℕ) (d : Step) → i < length (get_or C.strands k []) → take (i + 1) (strand_steps C k) ≡ take i (strand_steps C k) ++ (step_of C.nodes (get_or (get_or C.strands k []) i d) ∷ [])
step_next C k i d l =
    let ps : List Step = get_or C.strands k [] in
    let f : Step → TermStep = step_of C.nodes in
    take_more (map f ps) i (f d) (omega (arith, length-map ps f)) ∙ ap (λ (x : TermStep). take i (map f ps) ++ (x ∷ [])) (get_or-map f ps i d (f d) l)
