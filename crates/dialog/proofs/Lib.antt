-- Laws of the definitions of a line, for the proofs of those who read one; and the closed cases.
pub mod FieldLaws
pub mod HexLaws
pub mod SpokenLaws
pub mod CasesHold
