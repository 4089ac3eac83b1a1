-- The copies of the table, one of which readers take, and what is added to them.
use Rattle.std.specs.Prelude.{◌≡◌, List, [], ◌∷◌, ◌++◌, length}
use Rattle.logbook.specs.Pages.{Book}
use Rattle.meta_store.specs.Table.{Table}
use Rattle.node_readers.specs.Published.{Published, with_all}
use Rattle.node_readers.specs.Growth.{Grows}
use Rattle.node_readers.specs.Spread.{IsSpreadOf, Spread, bucket_count, with_spread}

-- a copy: whose history it has, the changes up to it, and the table, spread over bucket_count
pub record TableView : Type 0 where
  pub book : Book
  pub list : List Published
  pub spread : Spread

-- a change, with the history that it ends
pub record AdditionView : Type 0 where
  pub book : Book
  pub list : List Published
  pub change : Published

-- the change, added to a history that has the changes of the list
abbrev pub added_to : Book → List Published → Published → AdditionView
added_to book list change =
    record { book = book; list = list ++ change ∷ []; change = change }

-- these changes, each added after those before it
abbrev pub all_added_to : Book → List Published → List Published → List AdditionView
all_added_to book list [] = []
all_added_to book list (change ∷ changes) =
    added_to book list change ∷ all_added_to book (list ++ change ∷ []) changes

-- the copy after it took the change in
abbrev pub taken_in : TableView → AdditionView → TableView
taken_in copy addition = record {
  book = addition.book;
  list = addition.list;
  spread = with_spread addition.change.key addition.change.object copy.spread;
}

-- the copy is one of this history, and has the opening table with its changes put in, which only
-- grows
pub record IsCopy (book : Book) (opening : Table) (copy : TableView) : Type 0 where
  pub history : copy.book ≡ book
  pub content : IsSpreadOf (with_all opening copy.list) copy.spread
  pub whole : length copy.spread ≡ bucket_count
  pub grows : Grows opening copy.list

-- and these are its changes
pub record IsCopyOf (book : Book) (opening : Table) (list : List Published) (copy : TableView)
    : Type 0 where
  pub changes : copy.list ≡ list
  pub is_copy : IsCopy book opening copy
