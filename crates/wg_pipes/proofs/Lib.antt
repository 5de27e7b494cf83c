pub mod Parted
pub mod SampleBytes
pub mod StencilChanges
pub mod TargetFormats
