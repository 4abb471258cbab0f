use Rattle.std.proofs.Common.{subst}
use Rattle.std.proofs.{lemmas.Result.on_ok_weaker, KnownBytes.Appends-trans}
use Rattle.std.specs.Io.KnownBytes.{Appends}
use Rattle.view.proofs.page.write_page.Goals as goal

-- part by part: what was written before, and then this part
pub returns : goal.returns
returns g c =
    let out = g.W.Write.contents in
    let start = out c.args.out.now in
    let to_1 = (subst (Appends start (out c.write_all.new.self)) c.as_bytes.ensures.value c.in_ok-write_all.ensures.bytes) in
    let to_2 = Appends-trans start (out c.write_all.new.self) (out c.write_all-2.new.self) _ _ to_1 (subst (Appends (out c.write_all.new.self) (out c.write_all-2.new.self)) c.as_bytes-2.ensures.value c.in_ok-write_all-2.ensures.bytes) in
    let to_3 = Appends-trans start (out c.write_all-2.new.self) (out c.write_all-3.new.self) _ _ to_2 (subst (Appends (out c.write_all-2.new.self) (out c.write_all-3.new.self)) c.as_bytes-3.ensures.value c.in_ok-write_all-3.ensures.bytes) in
    let to_4 = Appends-trans start (out c.write_all-3.new.self) (out c.write_all-4.new.self) _ _ to_3 c.in_ok-write_all-4.ensures.bytes in
    let to_5 = Appends-trans start (out c.write_all-4.new.self) (out c.write_all-5.new.self) _ _ to_4 (subst (Appends (out c.write_all-4.new.self) (out c.write_all-5.new.self)) c.as_bytes-4.ensures.value c.in_ok-write_all-5.ensures.bytes) in
    let to_6 = Appends-trans start (out c.write_all-5.new.self) (out c.write_all-6.new.self) _ _ to_5 (subst (Appends (out c.write_all-5.new.self) (out c.write_all-6.new.self)) c.as_bytes-5.ensures.value c.in_ok-write_all-6.ensures.bytes) in
    on_ok_weaker c.write_all-7.result
    (λ last. Appends-trans start (out c.write_all-6.new.self) (out c.write_all-7.new.self) _ _ to_6 (subst (Appends (out c.write_all-6.new.self) (out c.write_all-7.new.self)) c.as_bytes-6.ensures.value last)) c.write_all-7.ensures.bytes
