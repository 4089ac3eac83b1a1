-- The past of a history's first happenings, and what a happening leaves as it is.
use Rattle.std.proofs.Common.{◌≡◌, ℕ, ◌+◌, ◌<◌, ◌≤◌, true, false, cond, List, [], ◌∷◌, ◌++◌, length, take, drop, get_or, min, sym, ap, refl, ◌∙◌, arith, ⊎_elim, eqb}
use Rattle.std.proofs.lemmas.Bool.{cases_eq, eq-eqb, ne_eqb, eqb-true}
use Rattle.std.proofs.lemmas.List.{take_more, take-append-drop}
use Rattle.past_model.specs.declared.happening.Happening.{Happening}
use Rattle.past_model.specs.declared.happening.Happening.TheVariants.{Wrote, Looked, Sent, Got, Kept, Restarted}
use Rattle.past_model.specs.Sets.{Knowledge, knows_nothing, singleton, union, with_set, union_by_key, set_at}
use Rattle.past_model.specs.Past.{Past, start, happens, run, past, read_of, with_write_known}
use Rattle.past_model.specs.Moment.{node_of, makes_image, restarts_node}
use Rattle.past_model.proofs.Rendered.{take-min}
use Rattle.past_model.proofs.Staying.{past_snoc, run_append}

pub take_next : (hs : List Happening) (i : ℕ) (h : Happening) → i < length hs → h ≡ get_or hs i h → past (take (i + 1) hs) ≡ happens (past (take i hs)) h
take_next hs i h lt is = ap past (take_more hs i h lt ∙ ap (λ x. take i hs ++ x ∷ []) (sym is)) ∙ past_snoc (take i hs) h

-- what comes later follows what came first
pub in_parts : (hs : List Happening) (i places : ℕ) → i ≤ places → take places hs ≡ take i hs ++ drop i (take places hs)
in_parts hs i places le =
    let least : min i places ≡ i = omega arith in
    let front : take i (take places hs) ≡ take i hs = take-min i places hs ∙ ap (λ n. take n hs) least in
    sym (take-append-drop i (take places hs)) ∙ ap (λ l. l ++ drop i (take places hs)) front

-- ---- what a happening of another node leaves as it is

pub set_at-other : {A : Type 0} (f : ℕ → A) (m n : ℕ) (x : A) → (m ≡ n → ⊥) → set_at f m x n ≡ f n
set_at-other f m n x ne = ap (λ b. cond b x (f n)) (ne_eqb n m (λ e. ne (sym e)))

pub set_at-same : {A : Type 0} (f : ℕ → A) (m n : ℕ) (x : A) → m ≡ n → set_at f m x n ≡ x
set_at-same f m n x e = ap (λ b. cond b x (f n)) (eq-eqb n m (sym e))

pub known-other : (s : Past) (h : Happening) (n : ℕ) → (node_of h ≡ n → ⊥) → (happens s h).known n ≡ s.known n
known-other s (Wrote m k v r) n ne = set_at-other s.known m n (with_set (s.known m) k (union (s.known m k) (union (read_of s k r) (singleton s.next)))) ne
known-other s (Looked m k) n ne = refl
known-other s (Sent m k) n ne = refl
known-other s (Got m i) n ne = set_at-other s.known m n (union_by_key (s.known m) (s.load i)) ne
known-other s (Kept m k) n ne = refl
known-other s (Restarted m j) n ne = set_at-other s.known m n (s.images m j) ne

pub standing-other : (s : Past) (h : Happening) (n : ℕ) → (node_of h ≡ n → ⊥) → (happens s h).standing n ≡ s.standing n
standing-other s (Wrote m k v r) n ne = set_at-other s.standing m n (with_set (s.standing m) k ((with_write_known m k v r s).known m k)) ne
standing-other s (Looked m k) n ne = refl
standing-other s (Sent m k) n ne = refl
standing-other s (Got m i) n ne = refl
standing-other s (Kept m k) n ne = set_at-other s.standing m n (with_set (s.standing m) k (s.known m k)) ne
standing-other s (Restarted m j) n ne = set_at-other s.standing m n (s.images m j) ne

-- ---- images

put_counts : (f : ℕ → ℕ) (m n : ℕ) → set_at f m (f m + 1) n ≡ cond (eqb m n) (f n + 1) (f n)
put_counts f m n =
    ⊎_elim
    (λ e. set_at-same f m n (f m + 1) e ∙ ap (λ x. f x + 1) e ∙ sym (ap (λ b. cond b (f n + 1) (f n)) (eq-eqb m n e)))
    (λ ne. set_at-other f m n (f m + 1) ne ∙ sym (ap (λ b. cond b (f n + 1) (f n)) (ne_eqb m n ne)))
    (cases_eq m n)

-- the number of the newest image
pub last_step : (s : Past) (h : Happening) (n : ℕ) → (happens s h).last n ≡ cond (makes_image n h) (s.last n + 1) (s.last n)
last_step s (Wrote m k v r) n = put_counts s.last m n
last_step s (Looked m k) n = refl
last_step s (Sent m k) n = refl
last_step s (Got m i) n = refl
last_step s (Kept m k) n = put_counts s.last m n
last_step s (Restarted m j) n = refl

-- an image stays
put_image : (f : ℕ → ℕ → Knowledge) (last : ℕ → ℕ) (m n j : ℕ) (image : Knowledge) → j ≤ last n → set_at f m (set_at (f m) (last m + 1) image) n j ≡ f n j
put_image f last m n j image le =
    ⊎_elim
    (λ e.
    let other : (last m + 1 ≡ j → ⊥) = λ o. let top : last m ≡ last n = ap last e in omega arith in
    (λ i. set_at-same f m n (set_at (f m) (last m + 1) image) e i j) ∙ set_at-other (f m) (last m + 1) j image other ∙ (λ i. f (e i) j))
    (λ ne. λ i. set_at-other f m n (set_at (f m) (last m + 1) image) ne i j)
    (cases_eq m n)

image_step : (s : Past) (h : Happening) (n j : ℕ) → j ≤ s.last n → (happens s h).images n j ≡ s.images n j
image_step s (Wrote m k v r) n j le = put_image s.images s.last m n j (with_set (s.standing m) k ((with_write_known m k v r s).known m k)) le
image_step s (Looked m k) n j le = refl
image_step s (Sent m k) n j le = refl
image_step s (Got m i) n j le = refl
image_step s (Kept m k) n j le = put_image s.images s.last m n j (with_set (s.standing m) k (s.known m k)) le
image_step s (Restarted m j') n j le = refl

last-le : (s : Past) (h : Happening) (n : ℕ) → s.last n ≤ (happens s h).last n
last-le s h n =
    let is : (happens s h).last n ≡ cond (makes_image n h) (s.last n + 1) (s.last n) = last_step s h n in
    let low : s.last n ≤ cond (makes_image n h) (s.last n + 1) (s.last n) =
    elim (makes_image n h) as (λ b. s.last n ≤ cond b (s.last n + 1) (s.last n)) [ true ↦ omega arith | false ↦ omega arith ] in
    omega arith

image_stays : (s : Past) (hs : List Happening) (n j : ℕ) → j ≤ s.last n → (run s hs).images n j ≡ s.images n j
image_stays s [] n j le = refl
image_stays s (h ∷ hs) n j le =
    let more : s.last n ≤ (happens s h).last n = last-le s h n in
    image_stays (happens s h) hs n j (omega arith) ∙ image_step s h n j le

pub image_after : (hs : List Happening) (i places n j : ℕ) → i ≤ places → j ≤ (past (take i hs)).last n → (past (take places hs)).images n j ≡ (past (take i hs)).images n j
image_after hs i places n j le made =
    ap (λ l. (past l).images n j) (in_parts hs i places le)
    ∙ ap (λ s. s.images n j) (run_append start (take i hs) (drop i (take places hs)))
    ∙ image_stays (past (take i hs)) (drop i (take places hs)) n j made

-- image 0 is the empty one
pub first_image : (hs : List Happening) (n : ℕ) → (past hs).images n 0 ≡ knows_nothing
first_image hs n = image_stays start hs n 0 (omega arith)

put_new : (f : ℕ → ℕ → Knowledge) (g : ℕ → Knowledge) (last : ℕ → ℕ) (m n : ℕ) (image : Knowledge) → eqb m n ≡ true → set_at f m (set_at (f m) (last m + 1) image) n (last n + 1) ≡ set_at g m image n
put_new f g last m n image same =
    let e : m ≡ n = eqb-true m n same in
    (λ i. set_at-same f m n (set_at (f m) (last m + 1) image) e i (last n + 1)) ∙ set_at-same (f m) (last m + 1) (last n + 1) image (ap (λ x. last x + 1) e) ∙ sym (set_at-same g m n image e)

-- a new image is the standing one
pub image_made : (s : Past) (h : Happening) (n : ℕ) → makes_image n h ≡ true → (happens s h).images n (s.last n + 1) ≡ (happens s h).standing n
image_made s (Wrote m k v r) n e = put_new s.images s.standing s.last m n (with_set (s.standing m) k ((with_write_known m k v r s).known m k)) e
image_made s (Looked m k) n e = absurd (cc)
image_made s (Sent m k) n e = absurd (cc)
image_made s (Got m i) n e = absurd (cc)
image_made s (Kept m k) n e = put_new s.images s.standing s.last m n (with_set (s.standing m) k (s.known m k)) e
image_made s (Restarted m j) n e = absurd (cc)

pub made_by_node : (h : Happening) (n : ℕ) → makes_image n h ≡ true → node_of h ≡ n
made_by_node (Wrote m k v r) n e = eqb-true m n e
made_by_node (Looked m k) n e = absurd (cc)
made_by_node (Sent m k) n e = absurd (cc)
made_by_node (Got m i) n e = absurd (cc)
made_by_node (Kept m k) n e = eqb-true m n e
made_by_node (Restarted m j) n e = absurd (cc)

pub last_next : (hs : List Happening) (i : ℕ) (h : Happening) (n : ℕ) → i < length hs → h ≡ get_or hs i h → (past (take (i + 1) hs)).last n ≡ cond (makes_image n h) ((past (take i hs)).last n + 1) ((past (take i hs)).last n)
last_next hs i h n lt is = ap (λ s. s.last n) (take_next hs i h lt is) ∙ last_step (past (take i hs)) h n

-- ---- how often a node has restarted

pub restarted_step : (s : Past) (h : Happening) (n : ℕ) → (happens s h).restarts n ≡ cond (restarts_node n h) (s.restarts n + 1) (s.restarts n)
restarted_step s (Wrote m k v r) n = refl
restarted_step s (Looked m k) n = refl
restarted_step s (Sent m k) n = refl
restarted_step s (Got m i) n = refl
restarted_step s (Kept m k) n = refl
restarted_step s (Restarted m j) n = put_counts s.restarts m n

pub restarts_next : (hs : List Happening) (i : ℕ) (h : Happening) (n : ℕ) → i < length hs → h ≡ get_or hs i h → (past (take (i + 1) hs)).restarts n ≡ cond (restarts_node n h) ((past (take i hs)).restarts n + 1) ((past (take i hs)).restarts n)
restarts_next hs i h n lt is = ap (λ s. s.restarts n) (take_next hs i h lt is) ∙ restarted_step (past (take i hs)) h n
