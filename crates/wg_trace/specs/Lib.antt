pub mod Added
pub mod StepNames
