-- What is read of a lawful sheet, and of pages.
use Rattle.std.proofs.Common.{◌≡◌, ℕ, ◌<◌, ◌≤◌, List, length, Some, Option, sym, ap, ◌∙◌, subst}
use Rattle.terms.specs.Nodes.{node, says, term}
use Rattle.terms.specs.declared.node.Node.{Node}
use Rattle.protocol.specs.declared.step.Action.{Action}
use Rattle.protocol.specs.declared.step.Property.{Property}
use Rattle.protocol.specs.Lawful.{Lawful, NodeLaw, EarlierLaw}
use Rattle.runs.proofs.Inspecting.{law_told}
use Rattle.runs.proofs.Tabling.{unfolded, property_law}
use Rattle.sheet.specs.declared.sheet.Sheet.{Sheet}
use Rattle.sheet.specs.Sheets.{content_of}

pub law_of : (s : Sheet) → Lawful (content_of s)
law_of s = law_told (content_of s) s.lawful

pub few_nodes : (s : Sheet) → length (content_of s).nodes ≤ 256
few_nodes s = (law_of s).sound.few_nodes

-- what is read at a number of a sheet is a lawful node, and says the term
pub sheet_law : (s : Sheet) (ms : List Node) (i : ℕ) → i < length (content_of s).nodes → ms ≡ (content_of s).nodes → NodeLaw (content_of s) i (node ms i)
sheet_law s ms i l e = subst (λ (ns : List Node). NodeLaw (content_of s) i (node ns i)) (sym e) ((law_of s).sound.nodes_stand i l)

pub sheet_says : (s : Sheet) (ms : List Node) (i : ℕ) → i < length (content_of s).nodes → ms ≡ (content_of s).nodes → term (content_of s).nodes i ≡ says (term (content_of s).nodes) (node ms i)
sheet_says s ms i l e = unfolded (content_of s) (law_of s).sound i l ∙ sym (ap (λ (ns : List Node). says (term (content_of s).nodes) (node ns i)) e)

-- the nodes of the property are the sheet's
pub later_held : (s : Sheet) (p : Property) → (content_of s).property ≡ Some p → p.later.node.0 < length (content_of s).nodes
later_held s p e = (property_law (content_of s) (law_of s).sound p e).0.1

pub earlier_held : (s : Sheet) (p : Property) (a : Action) → (content_of s).property ≡ Some p → p.earlier ≡ Some a → a.node.0 < length (content_of s).nodes
earlier_held s p a e f = (subst (λ (o : Option Action). EarlierLaw (content_of s) o p.later) f (property_law (content_of s) (law_of s).sound p e).1).0.1
