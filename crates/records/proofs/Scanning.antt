-- Bytes as records: one more, and in one way only.
use Rattle.std.proofs.Common.{◌≡◌, ℕ, ◌+◌, ◌⊎◌, List, [], ◌∷◌, ◌++◌, length, Ok, Err, sym, refl, ap, ◌∙◌, ap₂, inl, inr, ⊎_elim, arith}
use Rattle.std.proofs.lemmas.List.{append_assoc, append-nil, flat_map_more, length_push}
use Rattle.records.specs.declared.record.FileFault.{FileFault}
use Rattle.records.specs.declared.record.FileFault.TheVariants.{Cut}
use Rattle.records.specs.Bytes.{Rec, encode, encode_all, Recordless}
use Rattle.records.specs.Reading.{Begins, Next, Scanned, OneScan, OneList}
use Rattle.records.proofs.Fronts.{one_front}

-- one record more at the end
pub encode_push : (rs : List Rec) (r : Rec) (more : List ℕ) → encode_all (rs ++ (r ∷ [])) ++ more ≡ encode_all rs ++ (encode r ++ more)
encode_push rs r more = ap (λ (l : List ℕ). l ++ more) (sym (flat_map_more encode [] rs r)) ∙ append_assoc (encode_all rs) (encode r) more

pub begins_more : (bs : List ℕ) (n m : ℕ) (cs ds : List ℕ) (r : Rec) → Begins bs n cs → cs ≡ encode r ++ ds → m ≡ n + 1 → Begins bs m ds
begins_more bs n m cs ds r b e f =
    (b.0 ++ (r ∷ []), omega (arith, length_push b.0 r, b.1), b.2 ∙ ap (λ (l : List ℕ). encode_all b.0 ++ l) e ∙ sym (encode_push b.0 r ds))

pub begins_all : (bs : List ℕ) (n m : ℕ) (cs : List ℕ) → Begins bs n cs → cs ≡ [] → m ≡ n → Scanned bs (Ok m)
begins_all bs n m cs b e f = (b.0, b.1 ∙ sym f, b.2 ∙ ap (λ (l : List ℕ). encode_all b.0 ++ l) e ∙ append-nil (encode_all b.0))

pub nil_recordless : Recordless []
nil_recordless r more e = omega (arith, ap length e)

-- the records of one beginning go on as those of the other, as far as both go
pub along : (rs ss : List Rec) (x y : List ℕ) → encode_all rs ++ x ≡ encode_all ss ++ y →
    ((qs : List Rec) × (ss ≡ rs ++ qs) × (x ≡ encode_all qs ++ y)) ⊎ ((qs : List Rec) × (rs ≡ ss ++ qs) × (y ≡ encode_all qs ++ x))
along [] ss x y e = inl (ss, refl, e)
along (r ∷ rs) [] x y e = inr (r ∷ rs, refl, sym e)
along (r ∷ rs) (s ∷ ss) x y e =
    let f : encode r ++ (encode_all rs ++ x) ≡ encode s ++ (encode_all ss ++ y) = sym (append_assoc (encode r) (encode_all rs) x) ∙ e ∙ append_assoc (encode s) (encode_all ss) y in
    let p = one_front r s (encode_all rs ++ x) (encode_all ss ++ y) f in
    ⊎_elim
    (λ q. inl (q.0, ap₂ (λ (t : Rec) (l : List Rec). t ∷ l) (sym p.0) q.1, q.2))
    (λ q. inr (q.0, ap₂ (λ (t : Rec) (l : List Rec). t ∷ l) p.0 q.1, q.2))
    (along rs ss x y p.1)

-- what goes on has no record where none stands
stays : (rs ss : List Rec) (qs : List Rec) (x y : List ℕ) → Recordless x → ss ≡ rs ++ qs → x ≡ encode_all qs ++ y → (rs ≡ ss) × (x ≡ y)
stays rs ss [] x y n e f = (sym (e ∙ append-nil rs), f)
stays rs ss (q ∷ qs) x y n e f = absurd (n q (encode_all qs ++ y) (f ∙ append_assoc (encode q) (encode_all qs) y))

pub one_way : OneList
one_way rs ss x y e n m =
    ⊎_elim
    (λ q. stays rs ss q.0 x y n q.1 q.2)
    (λ q. let p = stays ss rs q.0 y x m q.1 q.2 in (sym p.0, sym p.1))
    (along rs ss x y e)

whole_only : (bs : List ℕ) (rs : List Rec) → bs ≡ encode_all rs → bs ≡ encode_all rs ++ []
whole_only bs rs e = e ∙ sym (append-nil (encode_all rs))

pub one_scan : OneScan
one_scan bs (Ok n) (Ok m) p q =
    let w = one_way p.0 q.0 [] [] (sym (whole_only bs p.0 p.2) ∙ whole_only bs q.0 q.2) nil_recordless nil_recordless in
    ap Ok (sym p.1 ∙ ap length w.0 ∙ q.1)
one_scan bs (Ok n) (Err (Cut m)) p q =
    let w = one_way p.0 q.0 [] q.1 (sym (whole_only bs p.0 p.2) ∙ q.3) nil_recordless q.4.1 in
    absurd (q.4.0 (sym w.1))
one_scan bs (Err (Cut n)) (Ok m) p q =
    let w = one_way p.0 q.0 p.1 [] (sym p.3 ∙ whole_only bs q.0 q.2) p.4.1 nil_recordless in
    absurd (p.4.0 w.1)
one_scan bs (Err (Cut n)) (Err (Cut m)) p q =
    let w = one_way p.0 q.0 p.1 q.1 (sym p.3 ∙ q.3) p.4.1 q.4.1 in
    ap (λ (k : ℕ). Err (Cut k)) (sym p.2 ∙ ap length w.0 ∙ q.2)

-- where the reader finds the bytes cut
pub begins_fault : (bs cs ds : List ℕ) (n m : ℕ) (f : FileFault) → Begins bs n cs → Next cs n (Err f) ds m → Scanned bs (Err f)
begins_fault bs cs ds n m (Cut k) b x = (b.0, cs, b.1 ∙ sym x.1, b.2, x.0)
