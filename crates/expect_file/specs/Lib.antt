pub mod ExpectationsText
pub mod ExpectationsReading
pub mod FirstRefusal
