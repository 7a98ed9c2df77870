use Rattle.std.proofs.Common.{rules, ap, ◌∙◌}
use Rattle.std.specs.Prelude.{not}
use Rattle.std.proofs.lemmas.Fn.{filter_same}
use Rattle.image_services.specs.Images.{has_handle, without_image}
use Rattle.image_services.proofs.images.Images.remove.Goals as goal

pub returns : goal.returns
returns c =
    filter_same _ (λ image. not (has_handle c.args.handle image)) _ (λ x b f' k. search rules) _ _ c.retain.ensures.filtered ∙ ap (λ images. without_image images c.args.handle) c.self.view_is
