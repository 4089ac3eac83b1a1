use Rattle.std.proofs.Common.{◌≡◌, ◌<◌, ◌++◌, ◌+◌, ℕ, length, drop, map, slice_get, Some, None, sym, subst, ap, ◌∙◌, refl, arith}
use Rattle.std.proofs.lemmas.List.{length_push}
use Rattle.std.proofs.lemmas.List.Elements.{All-push, All-same}
use Rattle.std.proofs.lemmas.Option.{slice_get_read}
use Rattle.std.proofs.lemmas.Result.{IfOk-at_ok, err_from_is_err_and}
use Rattle.node_file.specs.View.{IsSettled}
use Rattle.cluster_worker.specs.Serving.{CanServeBefore, IsServed, RefusesServing, file_bytes, life_of_file, life_on, lives_from, refusal_on}
use Rattle.cluster_worker.proofs.Begun.{lives_on, one_more_can, refused_at}
use Rattle.cluster_worker.proofs.Dealt.{next_left}
use Rattle.cluster_worker.proofs.serving.begin_all.Goals as goal

pub returns-in_err-begin-clause-refused : goal.returns-in_err-begin-clause-refused
returns-in_err-begin-clause-refused g c =
    let p = err_from_is_err_and c.from_residual-in_err-begin.result c.from_residual-in_err-begin.ensures.1 in
    let devices = c.args.devices.items in
    let begun = length c.loop-device.all.items in
    let rest = c.next.new.self.rest.items in
    let device = c.in-Some.device in
    let was = c.loop-device.invariant in
    let is = c.in-Some.ensures.steps.0 in
    let node : c.unwrap-node.result ≡ begun =
    IfOk-at_ok (λ (n : ℕ). n ≡ c.len-in-loop-device.result) c.unwrap-node.ensures c.new.ensures.value
    ∙ (c.len-in-loop-device.ensures ∙ c.loop-device.all.ok.0) in
    let short : begun < length devices = omega (arith, was.number, ap length is) in
    let at = next_left devices rest begun device device short (sym was.places ∙ is) in
    let there = slice_get_read devices (length devices) begun device refl short at.0 in
    let refused = subst (λ (n : ℕ). RefusesServing g.D.Device.failed device n (file_bytes n (g.D.Device.content device)) c.in_err-begin.field-0.0)
    node c.in_err-begin.ensures.refused in
    let one = refused_at g.D.Device.content g.D.Device.failed devices begun device c.in_err-begin.field-0.0 there was.before refused in
    rw (p.1, p.2) one

pub loop-device-preserved : goal.loop-device-preserved
loop-device-preserved g c =
    let content = g.D.Device.content in
    let may_leave = g.D.Device.may_leave in
    let devices = c.args.devices.items in
    let all = c.loop-device.all.items in
    let begun = length all in
    let rest = c.next.new.self.rest.items in
    let device = c.in-Some.device in
    let was = c.loop-device.invariant in
    let is = c.in-Some.ensures.steps.0 in
    let one = c.in_ok-begin.field-0 in
    let more = c.push_reserved.ensures.items in
    let grown : length c.push_reserved.new.self.items ≡ begun + 1 = ap length more ∙ length_push all one in
    let node : c.unwrap-node.result ≡ begun =
    IfOk-at_ok (λ (n : ℕ). n ≡ c.len-in-loop-device.result) c.unwrap-node.ensures c.new.ensures.value
    ∙ (c.len-in-loop-device.ensures ∙ c.loop-device.all.ok.0) in
    let short : begun < length devices = omega (arith, was.number, ap length is) in
    let at = next_left devices rest begun device device short (sym was.places ∙ is) in
    let there : slice_get devices begun ≡ Some device = slice_get_read devices (length devices) begun device refl short at.0 in
    let none = subst (λ (n : ℕ). refusal_on n (content device) ≡ None) node c.in_ok-begin.ensures.none in
    record {
      number = omega (arith, grown, was.number, ap length is);
      places = subst (λ (n : ℕ). rest ≡ drop n devices) (sym grown) at.1;
      room = omega (arith, was.room, c.push_reserved.ensures.capacity);
      before = subst (CanServeBefore content devices) (sym grown) (one_more_can content devices begun device there none was.before);
      served = All-same (λ s. IsServed content s.file s.table) c.push_reserved.new.self.items _ more
          (All-push (λ s. IsServed content s.file s.table) all one was.served c.in_ok-begin.ensures.served);
      settled = All-same (λ s. IsSettled content may_leave s.file) c.push_reserved.new.self.items _ more
          (All-push (λ s. IsSettled content may_leave s.file) all one was.settled c.in_ok-begin.ensures.settled);
      lives = ap (λ l. map (λ s. life_of_file s.file s.table) l ++ lives_from (length l) (map content rest)) more
          ∙ (lives_on (λ s. life_of_file s.file s.table) all one (content device) (map content rest)
          (c.in_ok-begin.ensures.life ∙ ap (λ (n : ℕ). life_on n (content device)) node)
          ∙ (ap (λ l. map (λ s. life_of_file s.file s.table) all ++ lives_from begun (map content l)) (sym is) ∙ was.lives));
    }
