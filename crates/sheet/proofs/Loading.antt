-- Reading record by record: one more, and every way to stop.
use Rattle.std.proofs.Common.{◌≡◌, ℕ, ◌+◌, List, [], ◌∷◌, ◌++◌, map, length, Ok, Err, Result, MatchResult, sym, refl, ap, ◌∙◌, arith}
use Rattle.std.proofs.lemmas.List.{length_push, map_push}
use Rattle.records.specs.Bytes.{Rec, encode, encode_all}
use Rattle.records.proofs.Scanning.{encode_push}
use Rattle.protocol.specs.Lawful.{Content, Lawful, Sound}
use Rattle.entries.specs.declared.fault.Rule.{Rule}
use Rattle.entries.specs.declared.fault.Rule.TheVariants as r
use Rattle.entries.specs.Format.{Entry, rec, entries, file}
use Rattle.entries.specs.Rules.{InOrder, KeepsBelow, Breaks}
use Rattle.entries.specs.Growth.{Adds}
use Rattle.entries.specs.declared.fault.SheetFault.{SheetFault}
use Rattle.entries.specs.declared.fault.SheetFault.TheVariants as f
use Rattle.sheet.specs.declared.refusal.Refusal.{Refusal}
use Rattle.sheet.specs.declared.refusal.Refusal.TheVariants.{Broken, NoMemory}
use Rattle.sheet.specs.Refusing.{at}
use Rattle.sheet.specs.Drafting.{Added}
use Rattle.entries.specs.Reading.{Stops, taken, refused, Reads, LawfulExactly, first_file}
use Rattle.sheet.specs.Loading.{Drafted}
use Rattle.entries.proofs.Growing.{grow_sound, grow_entries}
use Rattle.entries.proofs.First.{first_taken}
use Rattle.entries.proofs.OneReply.{one_reply}

-- what is known between two records: cs is left, and n records have been read
pub record Sofar (bs : List ℕ) (C : Content) (cs : List ℕ) (n : ℕ) : Type 0 where
  pub sound : Sound C
  pub front : bs ≡ file C ++ cs
  pub count : n ≡ length (entries C)

module _ (bs : List ℕ) (C : Content) (cs : List ℕ) (n : ℕ) (s : Sofar bs C cs n) where
  -- one record more
  pub sofar_more : (x : Rec) (ds : List ℕ) (m : ℕ) (D : Content) (e : Entry) → cs ≡ encode x ++ ds → m ≡ n + 1 → rec e ≡ x → KeepsBelow 9 C e → Adds C e D → Sofar bs D ds m
  sofar_more x ds m D e f k w p a =
      let o : InOrder C e = p r.Kind (omega arith) in
      let g = grow_entries C e D o a in
      let rs : map rec (entries D) ≡ map rec (entries C) ++ (x ∷ []) = ap (map rec) g ∙ map_push rec (entries C) e ∙ ap (λ (y : Rec). map rec (entries C) ++ (y ∷ [])) w in
      record {
        sound = grow_sound C e D s.sound p a;
        front = s.front ∙ ap (λ (l : List ℕ). file C ++ l) f ∙ sym (ap (λ (l : List Rec). encode_all l ++ ds) rs ∙ encode_push (map rec (entries C)) x ds);
        count = omega (arith, ap length g, length_push (entries C) e, s.count);
      }

  stops_next : (q : Rule) (x : Rec) (ds : List ℕ) → cs ≡ encode x ++ ds → Breaks q C x → Stops q C cs
  stops_next r.Whole x ds f w = absurd w
  stops_next r.Kind x ds f w = (x, ds, f, w)
  stops_next r.Limit x ds f w = (x, ds, f, w)
  stops_next r.Text x ds f w = (x, ds, f, w)
  stops_next r.Node x ds f w = (x, ds, f, w)
  stops_next r.Step x ds f w = (x, ds, f, w)
  stops_next r.Variable x ds f w = (x, ds, f, w)
  stops_next r.Property x ds f w = (x, ds, f, w)
  stops_next r.Ended x ds f w = absurd w

  -- a record that breaks a rule
  pub sofar_broken : (q : Rule) (k : ℕ) (x : Rec) (ds : List ℕ) → cs ≡ encode x ++ ds → Breaks q C x → k ≡ n → Reads bs (refused q k)
  sofar_broken q k x ds f w e = (C, cs, s.sound, s.front, e ∙ s.count, stops_next q x ds f w)

  -- a record that is refused
  pub draft_refused : (x : Rec) (ds : List ℕ) (place : ℕ) (o : Result (Unit {0}) Refusal) (f : SheetFault) (D : Content) (P : Unit {0} → Type 0) (Q : Refusal → Type 0) → cs ≡ encode x ++ ds → place ≡ n → Added C x o D → MatchResult o P Q → ((u : Unit {0}) → P u → ⊥) → ((r : Refusal) → Q r → f ≡ at r place) → Drafted bs (Err f)
  draft_refused x ds place (Ok u) f D P Q g e w m a b = absurd (a u m)
  draft_refused x ds place (Err (Broken q)) f D P Q g e w m a b = rw (b (Broken q) m) (sofar_broken q place x ds g w e)
  draft_refused x ds place (Err NoMemory) f D P Q g e w m a b = rw (b NoMemory m) tt

pub lawful_exactly : LawfulExactly
lawful_exactly C = (λ l. ((l, refl), λ p w. one_reply (file C) p (taken C) w (l, refl)), λ bs w. w.0)

-- the first file is refused for want of memory alone
pub first_drafted : (g : SheetFault) → Drafted first_file (Err g) → g ≡ f.NoMemory
first_drafted (f.Refused q k) d = absurd (first_taken q k d)
first_drafted f.NoMemory d = refl

-- what is read is lawful
pub lawful_taken : (bs : List ℕ) (C : Content) → Reads bs (taken C) → ∥ Lawful C ∥₁
lawful_taken bs C r = ∣ r.0 ∣₁
