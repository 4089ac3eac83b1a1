-- The neighbours as somebody knows them who follows what a step gives out, and random choices that
-- are not the node itself.
use Rattle.std.proofs.Common.{◌≡◌, ◌≢◌, ℕ, ◌<◌, false, cond, List, [], ◌∷◌, ◌++◌, length, map, refl, sym, ap, subst, ◌||◌, true≢false, arith}
use Rattle.meta_frame.specs.declared.message.Message.{Message}
use Rattle.hyparview.specs.declared.event.ViewOut.{ViewOut}
use Rattle.hyparview.specs.declared.event.ViewOut.TheVariants.{Send, Up, Down}
use Rattle.peer_lists.specs.Lists.{has, without, choose}
use Rattle.peer_lists.proofs.Members.{has-self, has-choose, member≢}
use Rattle.hyparview.specs.Rows.{is_empty}
use Rattle.hyparview.specs.Lawful.{Follows}

-- ---- following

pub Follows-append : (old middle new : List ℕ) (os ps : List ViewOut) → Follows old os middle → Follows middle ps new → Follows old (os ++ ps) new
Follows-append old middle new [] ps h k = subst (λ (m : List ℕ). Follows m ps new) h k
Follows-append old middle new (Send to m ∷ os) ps h k = Follows-append old middle new os ps h k
Follows-append old middle new (Up x ∷ os) ps h k = (h.0, Follows-append (old ++ x ∷ []) middle new os ps h.1 k)
Follows-append old middle new (Down x ∷ os) ps h k = (h.0, Follows-append (without x old) middle new os ps h.1 k)

pub Follows-sends : (active tos : List ℕ) (m : Message) → Follows active (map (λ to. Send to m) tos) active
Follows-sends active [] m = refl
Follows-sends active (to ∷ tos) m = Follows-sends active tos m

pub Follows-downs : (active : List ℕ) → Follows active (map (λ x. Down x) active) []
Follows-downs [] = refl
Follows-downs (x ∷ xs) =
    let rest : without x (x ∷ xs) ≡ xs = ap (λ b. cond b xs (x ∷ without x xs)) (has-self x) in (
      ap (λ b. b || has xs x) (has-self x),
      subst (λ (l : List ℕ). Follows l (map (λ y. Down y) xs) []) (sym rest) (Follows-downs xs),
    )

-- ---- not the node itself

pub some_left : (xs : List ℕ) → is_empty xs ≡ false → 0 < length xs
some_left [] h = absurd (true≢false h)
some_left (x ∷ xs) h = omega arith

-- a random choice among members that the node isn't one of
pub choose≢ : (node word : ℕ) (xs : List ℕ) → is_empty xs ≡ false → has xs node ≡ false → choose word xs ≢ node
choose≢ node word xs some h = member≢ node (choose word xs) xs (has-choose word xs (some_left xs some)) h
