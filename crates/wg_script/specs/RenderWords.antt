-- The words of vertex and index buffers (WebGPU, "GPUVertexFormat", "GPUVertexStepMode" and "GPUIndexFormat"), and of what
-- becomes of attachments (WebGPU, "GPULoadOp" and "GPUStoreOp").
use Rattle.std.specs.Prelude.{ℕ, List, [], ◌∷◌, codes}
use Rattle.wg_types.specs.declared.vertex.VertexFormat.{VertexFormat}
use Rattle.wg_types.specs.declared.vertex.VertexFormat.TheVariants.{Uint8x2, Uint8x4, Unorm8x4, Uint16x2, Float16x2, Float32, Uint32, Sint32, Float16x4, Float32x2, Float32x3, Float32x4}
use Rattle.wg_types.specs.declared.vertex.VertexStep.{VertexStep}
use Rattle.wg_types.specs.declared.vertex.VertexStep.TheVariants as step
use Rattle.wg_types.specs.declared.vertex.IndexFormat.{IndexFormat}
use Rattle.wg_types.specs.declared.vertex.IndexFormat.TheVariants as index
use Rattle.wg_types.specs.declared.render.LoadOp.{LoadOp}
use Rattle.wg_types.specs.declared.render.LoadOp.TheVariants as load
use Rattle.wg_types.specs.declared.render.StoreOp.{StoreOp}
use Rattle.wg_types.specs.declared.render.StoreOp.TheVariants as store

-- the words of the formats of attributes
abbrev pub vertex_format_words : List (List ℕ × VertexFormat)
vertex_format_words =
    (codes "uint8x2", Uint8x2) ∷ (codes "uint8x4", Uint8x4) ∷ (codes "unorm8x4", Unorm8x4) ∷ (codes "uint16x2", Uint16x2)
    ∷ (codes "float16x2", Float16x2) ∷ (codes "float32", Float32) ∷ (codes "uint32", Uint32) ∷ (codes "sint32", Sint32)
    ∷ (codes "float16x4", Float16x4) ∷ (codes "float32x2", Float32x2) ∷ (codes "float32x3", Float32x3) ∷ (codes "float32x4", Float32x4) ∷ []

-- the words of the steps of vertex buffers
abbrev pub step_words : List (List ℕ × VertexStep)
step_words = (codes "vertex", step.Vertex) ∷ (codes "instance", step.Instance) ∷ []

-- the words of the formats of indexes
abbrev pub index_format_words : List (List ℕ × IndexFormat)
index_format_words = (codes "uint16", index.Uint16) ∷ (codes "uint32", index.Uint32) ∷ []

-- the words of the loads of attachments
abbrev pub load_words : List (List ℕ × LoadOp)
load_words = (codes "load", load.Load) ∷ (codes "clear", load.Clear) ∷ []

-- the words of the stores of attachments
abbrev pub store_words : List (List ℕ × StoreOp)
store_words = (codes "store", store.Store) ∷ (codes "discard", store.Discard) ∷ []
