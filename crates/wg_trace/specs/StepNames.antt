-- The names of steps: the one table of how they are spelled.
use Rattle.std.specs.Prelude.{ℕ, List, codes}
use Rattle.wg_trace.specs.declared.steps.StepName.{StepName}
use Rattle.wg_trace.specs.declared.steps.StepName.TheVariants.{Clear, WriteBuffer, WriteTexture, CopyBufferToBuffer, CopyBufferToTexture, CopyTextureToBuffer, CopyTextureToTexture, ClearBuffer, ResolveQuerySet, Dispatch, RenderPass, HostRead, HostWrite}

-- the text of a step's name
abbrev pub step_name_text : StepName → List ℕ
step_name_text Clear = codes "clear"
step_name_text WriteBuffer = codes "writeBuffer"
step_name_text WriteTexture = codes "writeTexture"
step_name_text CopyBufferToBuffer = codes "copyBufferToBuffer"
step_name_text CopyBufferToTexture = codes "copyBufferToTexture"
step_name_text CopyTextureToBuffer = codes "copyTextureToBuffer"
step_name_text CopyTextureToTexture = codes "copyTextureToTexture"
step_name_text ClearBuffer = codes "clearBuffer"
step_name_text ResolveQuerySet = codes "resolveQuerySet"
step_name_text Dispatch = codes "dispatch"
step_name_text RenderPass = codes "renderPass"
step_name_text HostRead = codes "hostRead"
step_name_text HostWrite = codes "hostWrite"
