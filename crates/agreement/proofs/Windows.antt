-- Drivers whose exchanges are all delivered in a window.
use Rattle.std.proofs.Common.{◌≡◌, ◌≢◌, ◌<◌, ℕ, List, [], ◌∷◌, length, true, false, sym, ap, arith}
use Rattle.peer_lists.specs.Lists.{has}
use Rattle.driver.specs.declared.member.Member.{Member}
use Rattle.driver.specs.Duty.{one_if, partners_in}
use Rattle.driver.specs.Plan.{has_member}
use Rattle.driver.proofs.Rounds.{exchanges_go_round}
use Rattle.driver.proofs.Turns.{each_has_its_turn}
use Rattle.agreement.specs.Rounds.{Exchange, KnowAll, after_all, own}
use Rattle.agreement.specs.Window.{AllAreDelivered, Window}
use Rattle.agreement.proofs.Along.{all_met}

some_members : (n : ℕ) (members : List Member) → has_member n members ≡ true → 0 < length members
some_members n [] is = let clash : false ≡ true = is in absurd (cc)
some_members n (m ∷ members) is = omega (arith)

-- in the window the node begins an exchange with each other
begun : (many n : ℕ) (w : Window many n) (m : ℕ) → m < many → m ≢ n → has (partners_in w.changes) m ≡ true
begun many n w m few apart =
    let there = w.members m few apart in
    let turns = exchanges_go_round w.old w.new w.changes w.leads w.keeps (some_members m w.old.members there) in
    let none : one_if w.new.owes_exchange ≡ 0 = ap one_if w.done in
    each_has_its_turn w.old w.new w.changes m w.leads w.keeps w.place (omega (arith, turns.1, w.ticks, none)) there

pub delivered_know_all : (many : ℕ) (es : List Exchange) → AllAreDelivered many es → KnowAll many (after_all own es)
delivered_know_all many es all =
    all_met many es
    (λ n m few less apart.
    let w = all n few in
    w.1 m (begun many n w.0 m less (λ is. apart (sym is))))
