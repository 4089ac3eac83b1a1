use Rattle.std.proofs.Common.{rules, ◌≡◌, List, [], ◌∷◌, ◌++◌, Some, length, sym, ◌∙◌, ap, arith}
use Rattle.std.specs.FinMap.{find}
use Rattle.meta_types.specs.Name.{Key, Prefix}
use Rattle.meta_types.specs.Order.{key_cmp}
use Rattle.dvvset.specs.Object.{Entry}
use Rattle.meta_store.specs.Table.{Table, keys_under, prefixes_of}
use Rattle.file_pieces.proofs.Rows.{last_is, one_key, one_object, one_prefix}
use Rattle.file_pieces.proofs.alone.only_row.Goals as goal

-- the keys under the last prefix of a table of one row
listed : (table : Table) (k : Key) (o : List Entry) (prefixes front : List Prefix) (prefix : Prefix) (keys : List Key) → prefixes ≡ prefixes_of table → prefixes ≡ front ++ prefix ∷ [] → keys ≡ keys_under prefix table → table ≡ (k, o) ∷ [] → keys ≡ k ∷ []
listed table k o prefixes front prefix keys are last under one =
    let same : prefix ≡ k.prefix = last_is front prefix k.prefix (sym (one_prefix k o) ∙ sym (ap prefixes_of one) ∙ sym are ∙ last) in
    under ∙ ap (λ (p : Prefix). keys_under p table) same ∙ ap (keys_under k.prefix) one ∙ one_key k o

pub returns-in_default-pop-clause-only : goal.returns-in_default-pop-clause-only
returns-in_default-pop-clause-only c = λ key object one.
    let keys : c.in_ok-keys.keys.items ≡ key ∷ [] = listed c.args.table.now key object c.in_ok-prefixes.prefixes.items _ c.in-Some.prefix c.in_ok-keys.keys.items c.in_ok-prefixes.ensures c.in-Some.ensures.items c.in_ok-keys.ensures one in
    absurd (omega (arith, ap length keys, c.in_default-pop.ensures.cases.0, c.in_ok-keys.keys.ok.0))

pub returns-clause-only : goal.returns-clause-only
returns-clause-only c = λ key object one.
    let keys : c.in_ok-keys.keys.items ≡ key ∷ [] = listed c.args.table.now key object c.in_ok-prefixes.prefixes.items _ c.in-Some.prefix c.in_ok-keys.keys.items c.in_ok-prefixes.ensures c.in-Some.ensures.items c.in_ok-keys.ensures one in
    let same : c.in-Some-pop.key ≡ key = last_is _ c.in-Some-pop.key key (sym keys ∙ c.in-Some-pop.ensures.items) in
    let found : find key_cmp c.in-Some-pop.key c.args.table.now ≡ Some object = ap (λ (k : Key). find key_cmp k c.args.table.now) same ∙ ap (find key_cmp key) one ∙ one_object key object in
    absurd (search (rules, found))
