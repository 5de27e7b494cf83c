pub mod SampleLaws
pub mod StencilLaws
