-- The known sheets are lawful by computing, and the protocols that their tables describe.
use Rattle.std.proofs.Common.{◌≡◌, [], ◌∷◌, Some, sym, refl, ap, ◌∙◌, subst}
use mathlib.Core.Option.{none, some}
use native.Mathlib.Decide.{ℕ_discrete, dec_lt, dec_le}
use Rattle.terms.specs.Terms.{Term, name, var, pair, seal}
use Rattle.terms.specs.Nodes.{terms}
use Rattle.protocol.specs.declared.step.Property.{Property}
use Rattle.protocol.specs.Strands.{input, output, same}
use Rattle.protocol.specs.Lawful.{Content, Lawful}
use Rattle.runs.specs.Protocols.{Protocol, LawfulProtocol}
use Rattle.runs.specs.Runs.{received, sent}
use Rattle.runs.specs.Tables.{protocol_of}
use Rattle.runs.proofs.Decisions.{from_yes}
use Rattle.runs.proofs.Inspecting.{lawful?}
use Rattle.runs.proofs.Tabling.{tables_lawful}
use Rattle.known.specs.Sheets.{input_of, output_of, never, only_after, sheet_1, sheet_2, sheet_3, sheet_4, sheet_5, sheet_6, sheet_7}
use Rattle.known.specs.Known.{locked, OfSheet}

abbrev pub locked_with_key : Term
locked_with_key = pair locked (name 1)

-- strand 0 outputs the term, strand 1 inputs variable 0; none before input 1 of d
abbrev pub out_then_in : Term → Protocol
out_then_in t = record { strands = (output 0 t ∷ []) ∷ (input 1 0 ∷ []) ∷ []; earlier = none; later = received 1 (name 0) }

abbrev pub protocol_1 : Protocol
protocol_1 = out_then_in locked

abbrev pub protocol_2 : Protocol
protocol_2 = out_then_in locked_with_key

abbrev pub protocol_3 : Protocol
protocol_3 = record { strands = (input 1 0 ∷ []) ∷ (output 0 locked_with_key ∷ []) ∷ []; earlier = none; later = received 1 (name 0) }

-- output 0 of v before output 1 of v
abbrev pub protocol_4 : Protocol
protocol_4 = record { strands = (output 1 (name 0) ∷ []) ∷ []; earlier = some (sent 0 (var 0)); later = sent 1 (var 0) }

abbrev pub protocol_5 : Protocol
protocol_5 = record { strands = (input 2 1 ∷ input 2 2 ∷ output 0 (var 1) ∷ output 1 (var 2) ∷ []) ∷ []; earlier = some (sent 0 (var 0)); later = sent 1 (var 0) }

abbrev pub protocol_6 : Protocol
protocol_6 = record { strands = (input 0 0 ∷ same (var 0) (pair (var 0) (var 0)) ∷ []) ∷ []; earlier = none; later = sent 1 (name 0) }

abbrev pub protocol_7 : Protocol
protocol_7 = record { strands = (input 0 0 ∷ output 1 (seal (name 0) (var 0)) ∷ []) ∷ []; earlier = none; later = sent 2 (name 0) }

-- a sheet has one property
of_sheet : (C : Content) (p : Property) (S : Protocol) → Lawful C → C.property ≡ Some p → protocol_of C p ≡ S → (P : Protocol → Type 0) → P S → OfSheet C P
of_sheet C p S law e q P h = (law, λ r f. let z : p ≡ r = cc in subst P (sym q ∙ ap (protocol_of C) z) h)

of_law : (C : Content) (p : Property) (S : Protocol) → Lawful C → C.property ≡ Some p → protocol_of C p ≡ S → LawfulProtocol S
of_law C p S law e q = subst (λ (z : Protocol). LawfulProtocol z) q (tables_lawful C p law e)

lawful_1 : Lawful sheet_1
unfolding terms dec_le dec_lt ℕ_discrete
lawful_1 = from_yes (lawful? sheet_1) tt

pub is_1 : protocol_of sheet_1 (never (input_of 1 0)) ≡ protocol_1
unfolding terms
is_1 = refl

lawful_2 : Lawful sheet_2
unfolding terms dec_le dec_lt ℕ_discrete
lawful_2 = from_yes (lawful? sheet_2) tt

pub is_2 : protocol_of sheet_2 (never (input_of 1 0)) ≡ protocol_2
unfolding terms
is_2 = refl

lawful_3 : Lawful sheet_3
unfolding terms dec_le dec_lt ℕ_discrete
lawful_3 = from_yes (lawful? sheet_3) tt

pub is_3 : protocol_of sheet_3 (never (input_of 1 0)) ≡ protocol_3
unfolding terms
is_3 = refl

lawful_4 : Lawful sheet_4
unfolding terms dec_le dec_lt ℕ_discrete
lawful_4 = from_yes (lawful? sheet_4) tt

pub is_4 : protocol_of sheet_4 (only_after (output_of 0 1) (output_of 1 1)) ≡ protocol_4
unfolding terms
is_4 = refl

lawful_5 : Lawful sheet_5
unfolding terms dec_le dec_lt ℕ_discrete
lawful_5 = from_yes (lawful? sheet_5) tt

pub is_5 : protocol_of sheet_5 (only_after (output_of 0 0) (output_of 1 0)) ≡ protocol_5
unfolding terms
is_5 = refl

lawful_6 : Lawful sheet_6
unfolding terms dec_le dec_lt ℕ_discrete
lawful_6 = from_yes (lawful? sheet_6) tt

pub is_6 : protocol_of sheet_6 (never (output_of 1 0)) ≡ protocol_6
unfolding terms
is_6 = refl

lawful_7 : Lawful sheet_7
unfolding terms dec_le dec_lt ℕ_discrete
lawful_7 = from_yes (lawful? sheet_7) tt

pub is_7 : protocol_of sheet_7 (never (output_of 2 0)) ≡ protocol_7
unfolding terms
is_7 = refl

pub law_1 : LawfulProtocol protocol_1
law_1 = of_law sheet_1 (never (input_of 1 0)) protocol_1 lawful_1 refl is_1

pub told_1 : (P : Protocol → Type 0) → P protocol_1 → OfSheet sheet_1 P
told_1 P h = of_sheet sheet_1 (never (input_of 1 0)) protocol_1 lawful_1 refl is_1 P h

pub law_2 : LawfulProtocol protocol_2
law_2 = of_law sheet_2 (never (input_of 1 0)) protocol_2 lawful_2 refl is_2

pub told_2 : (P : Protocol → Type 0) → P protocol_2 → OfSheet sheet_2 P
told_2 P h = of_sheet sheet_2 (never (input_of 1 0)) protocol_2 lawful_2 refl is_2 P h

pub law_3 : LawfulProtocol protocol_3
law_3 = of_law sheet_3 (never (input_of 1 0)) protocol_3 lawful_3 refl is_3

pub told_3 : (P : Protocol → Type 0) → P protocol_3 → OfSheet sheet_3 P
told_3 P h = of_sheet sheet_3 (never (input_of 1 0)) protocol_3 lawful_3 refl is_3 P h

pub law_4 : LawfulProtocol protocol_4
law_4 = of_law sheet_4 (only_after (output_of 0 1) (output_of 1 1)) protocol_4 lawful_4 refl is_4

pub told_4 : (P : Protocol → Type 0) → P protocol_4 → OfSheet sheet_4 P
told_4 P h = of_sheet sheet_4 (only_after (output_of 0 1) (output_of 1 1)) protocol_4 lawful_4 refl is_4 P h

pub law_5 : LawfulProtocol protocol_5
law_5 = of_law sheet_5 (only_after (output_of 0 0) (output_of 1 0)) protocol_5 lawful_5 refl is_5

pub told_5 : (P : Protocol → Type 0) → P protocol_5 → OfSheet sheet_5 P
told_5 P h = of_sheet sheet_5 (only_after (output_of 0 0) (output_of 1 0)) protocol_5 lawful_5 refl is_5 P h

pub law_6 : LawfulProtocol protocol_6
law_6 = of_law sheet_6 (never (output_of 1 0)) protocol_6 lawful_6 refl is_6

pub told_6 : (P : Protocol → Type 0) → P protocol_6 → OfSheet sheet_6 P
told_6 P h = of_sheet sheet_6 (never (output_of 1 0)) protocol_6 lawful_6 refl is_6 P h

pub law_7 : LawfulProtocol protocol_7
law_7 = of_law sheet_7 (never (output_of 2 0)) protocol_7 lawful_7 refl is_7

pub told_7 : (P : Protocol → Type 0) → P protocol_7 → OfSheet sheet_7 P
told_7 P h = of_sheet sheet_7 (never (output_of 2 0)) protocol_7 lawful_7 refl is_7 P h
