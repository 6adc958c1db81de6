-- What the record reader answers.
use Rattle.std.specs.Prelude.{◌≡◌, ℕ, ◌+◌, List, [], ◌++◌, length, drop, Some, None, Ok, Err, Option, Result}
use Rattle.records.specs.declared.record.Record.{Record}
use Rattle.records.specs.declared.record.FileFault.{FileFault}
use Rattle.records.specs.declared.record.FileFault.TheVariants.{Cut}
use Rattle.records.specs.declared.reader.Records.{Records}
use Rattle.records.specs.Bytes.{Rec, encode, encode_all, Recordless, CutOff}

-- the bytes that are still to be read
abbrev pub rest : Records → List ℕ
rest s = drop s.at s.bytes.now

-- how many records have been handed out
abbrev pub handed_out : Records → ℕ
handed_out s = s.count

abbrev pub rec_of : Record → Rec
rec_of x = record { kind = x.kind; body = x.body.now }

-- what the reader answers with bytes bs left after n records, and what it then has left
abbrev pub Next : List ℕ → ℕ → Result (Option Record) FileFault → List ℕ → ℕ → Type 0
Next bs n (Ok None) cs m = (bs ≡ []) × (cs ≡ []) × (m ≡ n)
Next bs n (Ok (Some x)) cs m = (bs ≡ encode (rec_of x) ++ cs) × (m ≡ n + 1)
Next bs n (Err (Cut k)) cs m = CutOff bs × (k ≡ n) × (cs ≡ bs) × (m ≡ n)

-- the bytes are so many records; or cut, after so many
abbrev pub Scanned : List ℕ → Result ℕ FileFault → Type 0
Scanned bs (Ok n) = (rs : List Rec) × (length rs ≡ n) × (bs ≡ encode_all rs)
Scanned bs (Err (Cut n)) = (rs : List Rec) × (more : List ℕ) × (length rs ≡ n) × (bs ≡ encode_all rs ++ more) × CutOff more

-- the bytes begin with so many records, and then come the rest
abbrev pub Begins : List ℕ → ℕ → List ℕ → Type 0
Begins bs n more = (rs : List Rec) × (length rs ≡ n) × (bs ≡ encode_all rs ++ more)

-- bytes are the records of one list at most, up to a place where no whole record stands, and of one such place at most
abbrev pub OneList : Type 0
OneList = (rs ss : List Rec) (x y : List ℕ) → encode_all rs ++ x ≡ encode_all ss ++ y → Recordless x → Recordless y → (rs ≡ ss) × (x ≡ y)

-- so there is one answer
abbrev pub OneScan : Type 0
OneScan = (bs : List ℕ) (r s : Result ℕ FileFault) → Scanned bs r → Scanned bs s → r ≡ s
