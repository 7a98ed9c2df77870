use Rattle.image_services.proofs.BlockLemmas.{block_on_page, claim_within}
use Rattle.image_services.proofs.claiming.claim_pages.Goals as goal

pub returns-in-Ok-clause-within : goal.returns-in-Ok-clause-within
returns-in-Ok-clause-within c =
    let one = block_on_page c.lowest_is_lowest.ensures c.given_are_owned.ensures _ _ _ c.whole.ensures c.whole-2.ensures c.in-Ok.ensures.gives in
    claim_within c.args.pages.now c.in_ok-map.map c.give_pages.new.map _ _ c.in_ok-map.ensures c.in_ok-base.ensures.map_base c.in_ok-base.ensures.map_count
    c.in_ok-base.ensures.low c.in_ok-base.ensures.high c.in_ok-base.ensures.even c.in-Ok.ensures.block one c.pages_allocated-new.ensures.inside
