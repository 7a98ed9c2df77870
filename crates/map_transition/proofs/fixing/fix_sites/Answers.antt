use Rattle.std.proofs.Common.{◌∙◌, arith}
use Rattle.guest_memory.specs.Pages.{bytes_of}
use Rattle.map_transition.proofs.ByteLemmas.{touched_still, only_then}
use Rattle.map_transition.proofs.SiteLemmas.{words_long, word_fits, sites_next, sites_done}
use Rattle.map_transition.proofs.fixing.fix_sites.Goals as goal

pub bounds-words-i : goal.bounds-words-i
bounds-words-i c = let long = words_long c.args.sites.now c.args.words.now c.requires.fit in omega (arith, long)

pub fix_site-requires-clause-fits : goal.fix_site-requires-clause-fits
fix_site-requires-clause-fits c = word_fits c.args.sites.now c.args.words.now c.loop-i.i _ c.requires.fit c.loop-i-test.true

pub fix_site-requires-clause-touched : goal.fix_site-requires-clause-touched
fix_site-requires-clause-touched c = λ at low high. touched_still c.args.memory.now c.loop-i.memory at c.loop-i.invariant.rest ∙ c.requires.touched c.loop-i.i _ c.loop-i-test.true at low high

pub loop-i-preserved : goal.loop-i-preserved
loop-i-preserved c = record {
  bytes = λ at. sites_next c.args.base c.args.by c.args.sites.now c.args.words.now c.args.marks.now c.loop-i.i _ _ _ at (bytes_of c.loop-i.memory at) (bytes_of c.fix_site.new.memory at) _ c.requires.apart (words_long c.args.sites.now c.args.words.now c.requires.fit) c.requires.marks c.loop-i-test.true (c.fix_site.ensures.bytes at) (c.loop-i.invariant.bytes at);
  rest = only_then c.args.memory.now c.loop-i.memory c.fix_site.new.memory c.loop-i.invariant.rest c.fix_site.ensures.rest;
}

pub returns-clause-bytes : goal.returns-clause-bytes
returns-clause-bytes c = λ at. sites_done c.args.base c.args.by c.args.sites.now c.args.words.now c.args.marks.now c.loop-i.i at (bytes_of c.loop-i.memory at) _ c.loop-i-test.false (c.loop-i.invariant.bytes at)
