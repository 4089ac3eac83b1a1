use Rattle.std.proofs.Common.{◌≡◌, ◌++◌, ◌<◌, List, [], ℕ, length, map, get_or, set, reverse, sym, ap, subst, ◌∙◌}
use Rattle.std.proofs.lemmas.List.{get_or-map, length-map, map-set}
use Rattle.std.proofs.Math.Seq.{map-set_same}
use Rattle.meta_types.specs.Value.{ValueParts}
use Rattle.meta_store.proofs.Maps.{always}
use Rattle.restart_images.specs.Logs.{log_at}
use Rattle.restart_images.proofs.logs.Logs.extend.Goals as goal

-- a log with more values, by its place
longer : {A : Type 0} (values : A → List ValueParts) (all : List A) (at : ℕ) (old new : A) (more : List ValueParts) → at < length (map values all) → old ≡ get_or all at old → values new ≡ values old ++ more
    → map values (set all at new) ≡ set (map values all) at (log_at (map values all) at ++ more)
longer values all at old new more low is e =
    map-set values all at new
    ∙ ap (set (map values all) at) (e ∙ ap (λ x. x ++ more) (ap values is ∙ sym (get_or-map values all at old [] (subst (λ n. at < n) (length-map all values) low))))

pub returns-in_err-append-clause-same : goal.returns-in_err-append-clause-same
returns-in_err-append-clause-same c =
    always c.from_residual-in_err-append.result
    (map-set_same (λ log. log.values.items) c.self.inside.logs.items c.args.log (record { before = c.index_mut.result.now.before; values = c.append.new.self }) c.index_mut.result.now
    (c.in_err-append.ensures.items ∙ ap (λ log. log.values.items) c.index_mut.ensures.value)
    ∙ c.self.view_is)

pub returns-clause-value : goal.returns-clause-value
returns-clause-value c =
    longer (λ log. log.values.items) c.self.inside.logs.items c.args.log c.index_mut.result.now (record { before = c.index_mut.result.now.before; values = c.append.new.self }) (reverse c.args.values.now)
    (subst (λ logs. c.args.log < length logs) (sym c.self.view_is) c.requires)
    c.index_mut.ensures.value (c.in_ok-append.ensures.items ∙ ap (λ x. c.index_mut.result.now.values.items ++ x) c.in_ok-fresh.ensures)
    ∙ ap (λ logs. set logs c.args.log (log_at logs c.args.log ++ reverse c.args.values.now)) c.self.view_is
