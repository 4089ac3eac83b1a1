-- Steps of the loops that hash.
use Rattle.std.proofs.Common.{◌≡◌, ℕ, ◌+◌, ◌<◌, List, [], ◌∷◌, ◌++◌, length, get_or, map, take, sym, ap, subst, ◌∙◌, append_assoc, arith}
use Rattle.std.specs.List.{concat, flat_map, range_with_len}
use Rattle.std.proofs.lemmas.Grind.{flat_map-append}
use Rattle.std.proofs.lemmas.List.{append-nil, take_more}
use Rattle.std.proofs.lemmas.List.FromFn.{map-range_with_len_more}
use Rattle.frame_fields.specs.Field.{name, prefix}
use Rattle.meta_types.specs.Name.{Prefix}
use Rattle.hash_tree.specs.declared.text_hasher.TextHasher.{TextHasher}
use Rattle.hash_tree.specs.Hashing.{Adds, HasTaken}
use Rattle.hash_tree.specs.Tree.{OwnRows, prefix_root, text_of}
use Rattle.hash_tree.proofs.ByPrefix.{part_text}

-- first these bytes, then those
pub adds_both : (a b c : TextHasher) (x y z : List ℕ) → Adds a b x → Adds b c y → x ++ y ≡ z → Adds a c z
adds_both a b c x y z first_part second_part e m held =
    subst (HasTaken c) (append_assoc m x y ∙ ap (λ bytes. m ++ bytes) e) (second_part (m ++ x) (first_part m held))

pub adds_none : (a : TextHasher) → Adds a a []
adds_none a m held = subst (HasTaken a) (sym (append-nil m)) held

-- one item more
pub one_more : {A : Type 0} (f : A → List ℕ) (xs : List A) (i : ℕ) (x : A) → i < length xs → x ≡ get_or xs i x → flat_map f (take i xs) ++ f x ≡ flat_map f (take (i + 1) xs)
one_more f xs i x lt is =
    sym (ap (flat_map f) (take_more xs i x lt ∙ ap (λ y. take i xs ++ y ∷ []) (sym is))
    ∙ flat_map-append f (take i xs) (x ∷ [])
    ∙ ap (λ bytes. flat_map f (take i xs) ++ bytes) (append-nil (f x)))

concat_push : (xs : List (List ℕ)) (x : List ℕ) → concat (xs ++ x ∷ []) ≡ concat xs ++ x
concat_push [] x = append-nil x
concat_push (y ∷ ys) x = ap (λ bytes. y ++ bytes) (concat_push ys x) ∙ sym (append_assoc y (concat ys) x)

pub concat_more : (xs : List (List ℕ)) (i : ℕ) (x : List ℕ) → i < length xs → x ≡ get_or xs i x → concat (take i xs) ++ x ≡ concat (take (i + 1) xs)
concat_more xs i x lt is = sym (ap concat (take_more xs i x lt ∙ ap (λ y. take i xs ++ y ∷ []) (sym is)) ∙ concat_push (take i xs) x)

-- one more of a list made by a function of the index
pub pushed : {A : Type 0} (f : ℕ → A) (n : ℕ) (xs new : List A) (x : A) → xs ≡ map f (range_with_len 0 n) → new ≡ xs ++ x ∷ [] → x ≡ f n → new ≡ map f (range_with_len 0 (n + 1))
pushed f n xs new x so_far added is =
    added ∙ ap (λ ys. ys ++ x ∷ []) so_far ∙ ap (λ y. map f (range_with_len 0 n) ++ y ∷ []) is ∙ sym (map-range_with_len_more f 0 n n (omega arith))

-- two pieces more
two_more : (front a b rest : List ℕ) → ((front ++ a) ++ b) ++ rest ≡ front ++ ((a ++ b) ++ rest)
two_more front a b rest =
    ap (λ bytes. bytes ++ rest) (append_assoc front a b) ∙ append_assoc front (a ++ b) rest

-- ---- the rows of a leaf

pub row_added : (front key digest : List ℕ) (rest rows : OwnRows) (all : List ℕ) → front ++ text_of rows ≡ all → rows ≡ (key, digest) ∷ rest → ((front ++ (name 1 256).spell key) ++ digest) ++ text_of rest ≡ all
unfolding text_of
row_added front key digest rest rows all so_far is =
    two_more front ((name 1 256).spell key) digest (text_of rest) ∙ ap (λ (xs : OwnRows). front ++ text_of xs) (sym is) ∙ so_far

-- ---- the full prefixes with their roots

pub part_added : (front : List ℕ) (p : Prefix) (own : OwnRows) (rest parts : List (Prefix × OwnRows)) (all : List ℕ) → front ++ flat_map part_text parts ≡ all → parts ≡ (p, own) ∷ rest → ((front ++ prefix.spell p) ++ prefix_root own) ++ flat_map part_text rest ≡ all
part_added front p own rest parts all so_far is =
    two_more front (prefix.spell p) (prefix_root own) (flat_map part_text rest) ∙ ap (λ (xs : List (Prefix × OwnRows)). front ++ flat_map part_text xs) (sym is) ∙ so_far
