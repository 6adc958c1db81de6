use Rattle.std.proofs.Common.{◌≡◌, ◌∙◌, Ok, rules, refl, subst, sym}
use Rattle.std.specs.Result.{IsOk}
use Rattle.bench.proofs.Places.{put_ok, ok_is}
use Rattle.bench.proofs.placing.put.Goals as goal

pub unwrap-requires : goal.unwrap-requires
unwrap-requires c = let h = put_ok _ _ _ _ c.requires.lawful c.requires.room c.put.ensures in subst IsOk (sym h.1) refl

pub returns : goal.returns
returns c =
    let h = put_ok _ _ _ _ c.requires.lawful c.requires.room c.put.ensures in
    let e : c.put.result ≡ Ok c.unwrap.result = search rules in
    rw (ok_is (sym e ∙ h.1)) h.2
