-- The loaded image protocol on a new handle, and an image that goes off the list again.
use Rattle.std.proofs.Common.{◌≡◌, ◌+◌, ◌-◌, ℕ, Bool, true, false, List, [], ◌∷◌, ◌++◌, length, take, refl, ap, ◌∙◌, arith, length-append}
use Rattle.std.proofs.lemmas.List.{take-append-le}
use Rattle.std.specs.Prelude.{Option, Some, None, Result, Ok, Err, if◌then◌else◌}
use Rattle.std.proofs.lemmas.Grind.{common_steps}
use Rattle.handle_db.specs.declared.refusal.HandleRefusal.TheVariants as handle
use Rattle.handle_db.specs.Database.{shown}
use Rattle.handle_db.specs.Calls.{is_full, next_in, with_handle, installation as handle_installation}
use Rattle.protocol_db.specs.Registrations.{Protocols}
use Rattle.protocol_db.specs.Calls.{installed, installation}
use Rattle.image_services.specs.Images.{Loaded}
use Rattle.image_services.specs.Blocks.{loaded_image_protocol}
use Rattle.image_services.specs.Views.{NextInstalls}

pub next_installs : (next : Option ℕ) (p : Protocols) (block : ℕ) → next ≡ next_in p.handles → NextInstalls next (installation p None loaded_image_protocol block) p block
unfolding installation handle_installation
next_installs next p block e = by (is_full p.handles) e
  where
    by : (full : Bool) → next ≡ (if full then None else Some (shown (p.handles.made + 1))) → NextInstalls next (installed p loaded_image_protocol (if full then Err handle.Full else Ok (record { handle = shown (p.handles.made + 1); database = with_handle p.handles loaded_image_protocol block }))) p block
    by true n = rw n refl
    by false n = rw n refl

pub but_last : (old new images : List Loaded) (image : Loaded) (n : ℕ) → n ≡ length old → new ≡ take (n - 1) old → old ≡ images ++ image ∷ [] → new ≡ images
but_last old new images image n len e is =
    let long : length old ≡ length images + 1 = ap length is ∙ length-append images (image ∷ []) in
    let short : n - 1 ≡ length images = omega (arith, len, long) in
    e ∙ ap (λ k. take k old) short ∙ ap (take (length images)) is ∙ take-append-le (length images) images (image ∷ []) (omega arith) ∙ grind (arith, common_steps)
