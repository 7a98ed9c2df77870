use Rattle.guest_build.specs.Codes.{word_bytes, upper_insn, lower_insn, pair_bytes}
use Rattle.guest_build.proofs.PutLemmas.{puts_both}
use Rattle.guest_build.proofs.encoding.put_pair.Goals as goal

pub returns : goal.returns
unfolding pair_bytes
returns c =
    puts_both c.put_lower.result c.args.out.now.items c.put_upper.new.out.items c.put_lower.new.out.items (word_bytes (upper_insn c.args.first c.args.rd c.args.n)) (word_bytes (lower_insn c.args.second c.args.rd c.args.n))
    c.in_ok-put_upper.ensures c.put_lower.ensures
