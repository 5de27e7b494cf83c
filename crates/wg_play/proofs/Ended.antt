-- A call that ends an encoder is a finish or a finishBundle of it.
use Rattle.std.proofs.Common.{◌≡◌, ◌⊎◌, inl, inr, ℕ, Some, ap}
use Rattle.wg_types.specs.declared.requests.RequestOf.{RequestOf}
use Rattle.wg_types.specs.declared.requests.RequestOf.TheVariants.{CreateBuffer, CreateTexture, CreateView, CreateSampler, CreateBindGroupLayout, CreatePipelineLayout, CreateBindGroup, CreateComputePipeline, CreateRenderPipeline, GetBindGroupLayout, CreateQuerySet, CreateEncoder, CreateBundleEncoder, Finish, FinishBundle, Submit, WriteBuffer, WriteTexture, Destroy, Drop, Complete, PushErrorScope, PopErrorScope, Lose, WorkDone, MapAsync, Unmap}
use Rattle.wg_calls.specs.Encoders.{ended_by}

abbrev pub IsFinish : RequestOf ℕ → ℕ → Type 0
IsFinish request encoder = (request ≡ Finish encoder) ⊎ (request ≡ FinishBundle encoder)

pub is_finish : (request : RequestOf ℕ) (encoder : ℕ) → ended_by request ≡ Some encoder → IsFinish request encoder
is_finish (Finish on) encoder e = let same : on ≡ encoder = cc (e) in inl (ap (λ n. Finish n) same)
is_finish (FinishBundle on) encoder e = let same : on ≡ encoder = cc (e) in inr (ap (λ n. FinishBundle n) same)
is_finish (CreateBuffer known) encoder e = absurd (cc)
is_finish (CreateTexture known) encoder e = absurd (cc)
is_finish (CreateView texture asked) encoder e = absurd (cc)
is_finish (CreateSampler known) encoder e = absurd (cc)
is_finish (CreateBindGroupLayout entries) encoder e = absurd (cc)
is_finish (CreatePipelineLayout layouts) encoder e = absurd (cc)
is_finish (CreateBindGroup layout entries) encoder e = absurd (cc)
is_finish (CreateComputePipeline layout iface) encoder e = absurd (cc)
is_finish (CreateRenderPipeline layout desc) encoder e = absurd (cc)
is_finish (GetBindGroupLayout pipeline index) encoder e = absurd (cc)
is_finish (CreateQuerySet known) encoder e = absurd (cc)
is_finish CreateEncoder encoder e = absurd (cc)
is_finish (CreateBundleEncoder targets) encoder e = absurd (cc)
is_finish (Submit buffers) encoder e = absurd (cc)
is_finish (WriteBuffer buffer offset size) encoder e = absurd (cc)
is_finish (WriteTexture texture spot layout size data_size) encoder e = absurd (cc)
is_finish (Destroy object) encoder e = absurd (cc)
is_finish (Drop object) encoder e = absurd (cc)
is_finish (Complete op) encoder e = absurd (cc)
is_finish (PushErrorScope filter) encoder e = absurd (cc)
is_finish PopErrorScope encoder e = absurd (cc)
is_finish Lose encoder e = absurd (cc)
is_finish WorkDone encoder e = absurd (cc)
is_finish (MapAsync buffer mode offset size) encoder e = absurd (cc)
is_finish (Unmap buffer) encoder e = absurd (cc)
