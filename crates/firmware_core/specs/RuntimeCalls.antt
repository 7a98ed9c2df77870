-- How a call of runtime code by the operating system begins. (UEFI 2.10, 8: services at run time)
use Rattle.std.specs.Prelude.{ℕ, ◌+◌, List, [], ◌∷◌, slice_set}
use Rattle.guest_memory.specs.Pages.{Pages}
use Rattle.guest_memory.specs.Changes.{put_bytes}
use Rattle.page_alloc.specs.declared.layout.Layout.{Layout}
use Rattle.firmware_core.specs.declared.call_spec.CallBuffer.{CallBuffer}
use Rattle.firmware_core.specs.declared.frame.Phase.TheVariants.{Called}
use Rattle.firmware_core.specs.declared.frame.Purpose.TheVariants.{Runtime}
use Rattle.firmware_core.specs.CallSpecs.{CallPlain}
use Rattle.firmware_core.specs.Parts.{Parts}
use Rattle.firmware_core.specs.Frames.{pushed}
use Rattle.firmware_core.specs.Services.{with_memory}
use Rattle.firmware_core.specs.Calls.{call_registers}

-- the memory with the bytes of a buffer at its offset of the operating system's arguments, wherever these are seen
abbrev pub with_buffer : Layout → Pages → CallBuffer → Pages
with_buffer layout m buffer = put_bytes m (layout.os_args + buffer.offset) buffer.bytes

-- with one buffer after another
unfoldable pub with_buffers : Layout → Pages → List CallBuffer → Pages
with_buffers layout m [] = m
with_buffers layout m (buffer ∷ buffers) = with_buffers layout (with_buffer layout m buffer) buffers

-- What runtime code begins with: the arguments in a0 to a7, the operating system's return page in ra, the top of its stack in
-- sp, and every other register 0. (RISC-V psABI, integer calling convention)
abbrev pub runtime_registers : Layout → List ℕ → List ℕ
runtime_registers layout args = slice_set (call_registers layout layout.os_args args) 1 layout.os_return

-- The buffers are written, then runtime code begins at an address.
unfoldable pub with_runtime_call : Parts → CallPlain → Parts
with_runtime_call f call =
    pushed (with_memory f (with_buffers f.runtime.layout f.runtime.memory call.buffers)) Runtime (record {
      x = runtime_registers f.runtime.layout call.args;
      pc = call.pc;
      phase = Called;
      tpl = f.hart.tpl;
    })
