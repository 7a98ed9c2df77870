-- What calls answer, against what the definitions give. Want of host memory, which these don't know, is free.
use Rattle.std.specs.Prelude.{ℕ, ◌≡◌, ◌≤◌, ◌+◌, ◌*◌, ◌%◌, List, Option, Some, None, Result, Ok, Err}
use Rattle.guest_memory.specs.Changes.{TouchedBesides}
use Rattle.pool_alloc.specs.declared.span.PageSpan.{PageSpan}
use Rattle.handle_db.specs.Calls.{with_handle}
use Rattle.protocol_db.specs.declared.refusal.ProtocolRefusal.{ProtocolRefusal}
use Rattle.protocol_db.specs.declared.refusal.ProtocolRefusal.TheVariants as protocol
use Rattle.protocol_db.specs.Registrations.{Protocols}
use Rattle.protocol_db.specs.Calls.{Done as ProtocolsDone, Installation, announced}
use Rattle.pe_image.specs.declared.fault.PeFault.{PeFault}
use Rattle.pe_image.specs.declared.fault.PeFault.TheVariants as pe
use Rattle.pe_image.specs.ImageOf.{fields_of}
use Rattle.base_reloc.specs.declared.fault.RelocFault.{RelocFault}
use Rattle.base_reloc.specs.declared.fault.RelocFault.TheVariants as reloc
use Rattle.image_services.specs.declared.refusal.LoadRefusal.{LoadRefusal}
use Rattle.image_services.specs.declared.refusal.LoadRefusal.TheVariants as refusals
use Rattle.image_services.specs.declared.refusal.UnloadRefusal.{UnloadRefusal}
use Rattle.image_services.specs.declared.reading.FileImage as reading
use Rattle.image_services.specs.Stores.{Store}
use Rattle.image_services.specs.declared.claiming.Claim as claiming
use Rattle.image_services.specs.Blocks.{block_size, loaded_image_protocol}
use Rattle.image_services.specs.Loads.{FileImage, Place, Load}

abbrev pub pe_refusal : PeFault → LoadRefusal
pe_refusal pe.Memory = refusals.Memory
pe_refusal fault = refusals.Pe fault

abbrev pub reloc_refusal : RelocFault → LoadRefusal
reloc_refusal reloc.Memory = refusals.Memory
reloc_refusal fault = refusals.Reloc fault

-- what a file holds, its bytes and sites as lists
abbrev pub file_image : reading.FileImage → FileImage
file_image file = record { image = fields_of file.image; bytes = file.bytes.items; sites = file.sites.items }

-- where an image and its block lie, with the map and the pool behind
abbrev pub place_by : claiming.Claim → Place
place_by claim = record { base = claim.base; block = claim.block; new = claim.new; pages = claim.pages; pool = claim.pool }

-- pages that were taken lie in so many pages from a base on
abbrev pub AreWithin : ℕ → ℕ → Option PageSpan → Type 0
AreWithin base pages None = Unit {0}
AreWithin base pages (Some span) = (base ≤ span.start) × (span.start + 4096 * span.count ≤ base + 4096 * pages)

-- The pages of an image of so many lie in so many pages of RAM, and so does its block, on one of them, and a page that was
-- taken for the block.
pub record Within (base pages : ℕ) (place : Place) (count : ℕ) : Type 0 where
  pub low : base ≤ place.base
  pub high : place.base + 4096 * count ≤ base + 4096 * pages
  pub even : place.base % 4096 ≡ 0
  pub block_low : base ≤ place.block
  pub block_high : place.block + block_size ≤ base + 4096 * pages
  pub one : place.block % 4096 + block_size ≤ 4096
  pub taken : AreWithin base pages place.new

-- Unless memory was wanting, the refusal is that of judging.
abbrev pub Stops : {Y : Type 0} → LoadRefusal → Result Y LoadRefusal → Type 0
Stops refusals.Memory judged = Unit {0}
Stops refusal judged = judged ≡ Err refusal

abbrev pub Judges : {X Y : Type 0} → (X → Y) → Result X LoadRefusal → Result Y LoadRefusal → Type 0
Judges view (Ok x) judged = judged ≡ Ok (view x)
Judges view (Err refusal) judged = Stops refusal judged

-- the same for a call that leaves its value in an argument
abbrev pub Moves : Result (Unit {0}) LoadRefusal → List ℕ → Result (List ℕ) LoadRefusal → Type 0
Moves (Ok done) new judged = judged ≡ Ok new
Moves (Err refusal) new judged = Stops refusal judged

-- What a refusal leaves: all as it was, but that pages of memory are touched besides where the host had none for them.
abbrev pub Leaves : LoadRefusal → Store → Store → Type 0
Leaves refusals.Memory old new = (new ≡ record old { memory = new.memory }) × TouchedBesides old.memory new.memory
Leaves refusal old new = new ≡ old

-- The loaded image protocol with a block as its interface will be on a handle, which is a new one.
abbrev pub InstallsNext : ℕ → Result (ProtocolsDone Installation) ProtocolRefusal → Protocols → ℕ → Type 0
InstallsNext handle judged protocols block = judged ≡ Ok (announced protocols (with_handle protocols.handles loaded_image_protocol block) handle loaded_image_protocol)

-- That handle, or none where there are no more.
abbrev pub NextInstalls : Option ℕ → Result (ProtocolsDone Installation) ProtocolRefusal → Protocols → ℕ → Type 0
NextInstalls None judged protocols block = judged ≡ Err protocol.Full
NextInstalls (Some handle) judged protocols block = InstallsNext handle judged protocols block

-- A load that answers so leads from old to new.
abbrev pub LoadGives : Result Installation LoadRefusal → Result Load LoadRefusal → Store → Store → Type 0
LoadGives (Ok installed) judged old new = judged ≡ Ok (record { answer = installed; after = new })
LoadGives (Err refusal) judged old new = Stops refusal judged × Leaves refusal old new

-- An unload that answers so leads from old to new.
abbrev pub UnloadGives : Result (Unit {0}) UnloadRefusal → Result Store UnloadRefusal → Store → Store → Type 0
UnloadGives (Ok done) judged old new = judged ≡ Ok new
UnloadGives (Err refusal) judged old new = (judged ≡ Err refusal) × (new ≡ old)
