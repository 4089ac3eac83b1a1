use Rattle.std.proofs.Common.{◌≡◌, ◌∷◌, ◌++◌, [], length, map, sym, subst, ap, ◌∙◌, arith}
use Rattle.std.proofs.lemmas.List.{append_assoc, length_push}
use Rattle.cluster_worker.proofs.Places.{places_on}
use Rattle.cluster.specs.Threads.{AreOutcomesOf, IsOutcomeOfTask}
use Rattle.cluster.proofs.threads.join_all.Goals as goal

pub loop-handle-preserved : goal.loop-handle-preserved
loop-handle-preserved g c =
    let outcomes = c.loop-handle.outcomes.items in
    let was = c.loop-handle.invariant in
    let is = c.in-Some.ensures.steps.0 in
    let rest = c.next.new.self.rest.items in
    let handle = c.in-Some.handle in
    let task = handle.promise in
    let outcome = c.join.result in
    let more : c.push_reserved.new.self.items ≡ outcomes ++ outcome ∷ [] = c.push_reserved.ensures.items in
    let grown = ap length more ∙ length_push outcomes outcome in
    record {
      room = omega (arith, was.room, grown, ap length is, c.push_reserved.ensures.capacity);
      joined = (
        was.joined.0 ++ task ∷ [],
        append_assoc was.joined.0 (task ∷ []) (map (λ h. h.promise) rest)
            ∙ (ap (λ l. was.joined.0 ++ map (λ h. h.promise) l) (sym is) ∙ was.joined.1),
        subst (AreOutcomesOf (was.joined.0 ++ task ∷ [])) (sym more)
            (places_on IsOutcomeOfTask was.joined.0 outcomes task outcome was.joined.2 c.join.ensures),
      );
    }
