pub mod BindingKinds
pub mod Halving
pub mod Levels
pub mod SampleBytes
