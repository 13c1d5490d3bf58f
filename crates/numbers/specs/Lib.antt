pub mod NumbersAt
