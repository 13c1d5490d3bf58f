pub mod WordsAt
