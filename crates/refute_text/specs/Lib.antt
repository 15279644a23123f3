pub mod RefutationText
pub mod Reading
