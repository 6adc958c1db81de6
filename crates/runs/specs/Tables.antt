-- The tables of a sheet as a protocol over terms: each node number stands for its term.
use Rattle.std.specs.Prelude.{◌≡◌, List, map, Some, None, Option}
use Rattle.std.proofs.Math.Option.{Option as Maybe, none, some}
use Rattle.terms.specs.Nodes.{term}
use Rattle.terms.specs.declared.node.Node.{Node}
use Rattle.protocol.specs.declared.step.Action.{Action}
use Rattle.protocol.specs.declared.step.Direction.TheVariants.{Output}
use Rattle.protocol.specs.declared.step.Property.{Property}
use Rattle.protocol.specs.Strands.{step_of}
use Rattle.protocol.specs.Lawful.{Content, Lawful}
use Rattle.runs.specs.Protocols.{TermAction, Protocol, LawfulProtocol}
use Rattle.runs.specs.Sizes.{ProtocolSized}

-- what an action over node numbers means
abbrev pub action_of : List Node → Action → TermAction
action_of ns a = record { direction = a.direction; label = a.label.0; term = term ns a.node.0 }

-- and one that may be none
abbrev pub earlier_of : List Node → Option Action → Maybe TermAction
earlier_of ns None = none
earlier_of ns (Some a) = some (action_of ns a)

-- the protocol that the tables describe
abbrev pub protocol_of : Content → Property → Protocol
protocol_of C p =
    record {
      strands = map (map (step_of C.nodes)) C.strands;
      earlier = earlier_of C.nodes p.earlier;
      later = action_of C.nodes p.later;
    }

-- the property that the tables have, or any at all where they have none
abbrev pub property_or_any : Option Property → Property
property_or_any None = record { earlier = None; later = record { direction = Output; label = record { 0 = 0 }; node = record { 0 = 0 } } }
property_or_any (Some p) = p

-- the protocol that tables with a property describe
abbrev pub described : Content → Protocol
described C = protocol_of C (property_or_any C.property)

-- the tables of a lawful sheet make a lawful protocol
abbrev pub TablesLawful : Type 0
TablesLawful = (C : Content) (p : Property) → Lawful C → C.property ≡ Some p → LawfulProtocol (protocol_of C p)

-- whose variables are among the first 64
abbrev pub TablesSized : Type 0
TablesSized = (C : Content) (p : Property) → Lawful C → C.property ≡ Some p → ProtocolSized 64 (protocol_of C p)

-- so what a lawful sheet describes is a lawful protocol
abbrev pub DescribedLawful : Type 0
DescribedLawful = (C : Content) → Lawful C → LawfulProtocol (described C)
