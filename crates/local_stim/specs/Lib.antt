pub mod Verdict
pub mod Found
pub mod Steps
pub mod StimulusText
pub mod StimulusReading
pub mod FirstRefusal
