pub mod FieldsAt
