-- lists that are put one text after another
pub mod Lists
