use Rattle.std.proofs.Common.{◌≡◌, List, ℕ, map, refl, ap, ◌∙◌}
use Rattle.rv_decode.specs.Texts.{name_of}
use Rattle.guest_build.specs.Words.{entries, entry_in, word_of}
use Rattle.guest_build.specs.declared.word.TheConstants.{ENTRIES}
use Rattle.guest_build.proofs.word.word_of.Goals as goal

entries-are : map (λ entry. (entry.0.now, entry.1)) ENTRIES ≡ entries
unfolding entries name_of
entries-are = refl

word-is : (text : List ℕ) → entry_in (map (λ entry. (entry.0.now, entry.1)) ENTRIES) text ≡ word_of text
unfolding word_of
word-is text = ap (λ es. entry_in es text) entries-are

pub returns : goal.returns
returns c = c.entry_in.ensures ∙ word-is c.args.text.now
